use Rattle.std.proofs.Common.{◌≡◌, take}
use Rattle.plan_model.specs.TransferPlans.{joined_parts}
use Rattle.session_work.proofs.call.joined.Given as goal

-- the parts so far
abbrev pub invariant-loop-part : goal.invariant-loop-part
invariant-loop-part l = l.bytes.items ≡ joined_parts (take l.part-index l.parts)
