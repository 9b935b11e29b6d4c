-- A session may go to another thread. What it keeps of the lanes that it was given is read by contracts alone, and that
-- it goes too is shown here; its other parts have lemmas of their own.
use denote.Param.Send.{IsSend, sendable}
use Rattle.std.proofs.Crossing.{crosses}
use Rattle.sftp_lanes.specs.contracts.given.GivenLanes as of_given
use Rattle.sftp_lanes.specs.contracts.session.Session as of_session
use Rattle.sftp_model.proofs.reply.Reply.TheSendSync as reply
use Rattle.session_work.proofs.lanes.Lanes.TheSendSync as lanes

given_sends : IsSend of_given.the_row
given_sends = search (sendable, crosses) depth 20

pub session_sends : IsSend of_session.the_row
session_sends = search (sendable, crosses, given_sends, reply.the_field_send, lanes.the_field_send) depth 20
