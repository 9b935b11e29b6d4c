use Rattle.std.proofs.Common.{◌≡◌, length}
use Rattle.mirror_jobs.specs.Verdicts.{gave_up}
use Rattle.mirror_jobs.proofs.verdicts.gave_up.Given as goal

abbrev pub invariant-loop-rest : goal.invariant-loop-rest
invariant-loop-rest l = gave_up l.outcomes ≡ gave_up l.rest

abbrev pub decreases-loop-rest : goal.decreases-loop-rest
decreases-loop-rest l = length l.rest
