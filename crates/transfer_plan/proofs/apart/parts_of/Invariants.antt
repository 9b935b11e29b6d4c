use Rattle.std.proofs.Common.{◌≡◌, ℕ, List, take}
use Rattle.transfer_plan.specs.Apart.{has_path, is_part}
use Rattle.transfer_plan.proofs.apart.parts_of.Given as goal

abbrev pub invariant-loop-found : goal.invariant-loop-found
invariant-loop-found l = (p : List ℕ) → has_path l.parts p ≡ is_part (take l.found-index l.jobs) l.run p
