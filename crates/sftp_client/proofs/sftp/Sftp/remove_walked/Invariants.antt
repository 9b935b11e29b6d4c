use Rattle.std.specs.Prelude.{vec_len}
use Rattle.sftp_client.proofs.TreeRemoving.{RemovingOn}
use Rattle.sftp_client.proofs.sftp.Sftp.remove_walked.Given as goal

abbrev pub invariant-loop-entry : goal.invariant-loop-entry
invariant-loop-entry g l = RemovingOn g.L.LinkState.state l.fn.found.items l.found.items l.fn.self l.self

abbrev pub decreases-loop-entry : goal.decreases-loop-entry
decreases-loop-entry g l = vec_len l.found
