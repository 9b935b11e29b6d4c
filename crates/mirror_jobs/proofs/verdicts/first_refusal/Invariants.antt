use Rattle.std.proofs.Common.{◌≡◌, length}
use Rattle.mirror_jobs.specs.Verdicts.{first_refusal}
use Rattle.mirror_jobs.proofs.verdicts.first_refusal.Given as goal

abbrev pub invariant-loop-rest : goal.invariant-loop-rest
invariant-loop-rest l = first_refusal l.outcomes ≡ first_refusal l.rest

abbrev pub decreases-loop-rest : goal.decreases-loop-rest
decreases-loop-rest l = length l.rest
