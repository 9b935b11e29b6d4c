use Rattle.std.proofs.Common.{◌≡◌, length, map}
use Rattle.sftp_core.specs.Table.{marked_all}
use Rattle.sftp_core.specs.Pieces.{asked_of}
use Rattle.sftp_core.proofs.pipeline.mark_all.Given as goal

-- what is left to be marked makes what the whole would
abbrev pub invariant-loop-rest : goal.invariant-loop-rest
invariant-loop-rest l = marked_all l.initial.table (map asked_of l.fn.queue) ≡ marked_all l.table (map asked_of l.rest)

abbrev pub decreases-loop-rest : goal.decreases-loop-rest
decreases-loop-rest l = length l.rest
