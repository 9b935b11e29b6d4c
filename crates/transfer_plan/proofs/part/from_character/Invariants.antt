use Rattle.std.proofs.Common.{◌≡◌, length}
use Rattle.transfer_plan.specs.Cuts.{from_character}
use Rattle.transfer_plan.proofs.part.from_character.Given as goal

abbrev pub invariant-loop-rest : goal.invariant-loop-rest
invariant-loop-rest l = from_character l.rest ≡ from_character l.bytes

abbrev pub decreases-loop-rest : goal.decreases-loop-rest
decreases-loop-rest l = length l.rest
