-- The halves of the server in memory, and those of a socket, may go to other threads.
use denote.Param.Send.{IsSend, sendable}
use Rattle.std.proofs.Crossing.{crosses}
use Rattle.sftp_link.proofs.piece.Piece.TheSendSync as piece
use Rattle.sftp_link.specs.contracts.unix.StreamLink as of_link
use Rattle.std.specs.contracts.net.unix.UnixStream as of_stream
use Rattle.machine_answers.proofs.outbox.Outbox.TheSendSync as outbox
use Rattle.sftp_map_server.proofs.state.ServerState.TheSendSync as state
use Rattle.sftp_map_server.specs.contracts.map_server.MapServer as of_server

pub server_sends : IsSend of_server.the_row
server_sends = search (sendable, crosses, state.the_send, outbox.the_send, piece.the_field_send) depth 20

pub link_sends : IsSend (of_link.the_row of_stream.the_row)
link_sends = search (sendable, crosses) depth 20
