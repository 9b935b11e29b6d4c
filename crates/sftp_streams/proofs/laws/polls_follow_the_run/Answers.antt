use Rattle.sftp_streams.proofs.StreamLaws.{poll_ends, poll_grows, poll_waits}
use Rattle.sftp_streams.proofs.laws.polls_follow_the_run.Goals as goal

pub returns : goal.returns
returns c = record { grows = poll_grows; waits = poll_waits; ends = poll_ends }
