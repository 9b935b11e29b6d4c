use Rattle.mirror_jobs.proofs.PlaceLaws.{SoFar}
use Rattle.mirror_jobs.proofs.verdicts.verdicts_of.Given as goal

abbrev pub invariant-loop-i : goal.invariant-loop-i
invariant-loop-i l = SoFar l.width l.jobs l.outcomes l.i l.places.items l.verdicts.items
