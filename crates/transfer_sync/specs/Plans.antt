-- Plans, and the errors in their place.
use Rattle.std.specs.Prelude.{◌≡◌, ℕ, Bool, true, false, List, length, nat_lt, Option, Some, None}
use Rattle.transfer_sync.specs.Actions.{actions_of, removal_actions}
use Rattle.transfer_sync.specs.Verdicts.{conflicts_of}
use Rattle.transfer_sync.specs.declared.entry.Entry.{Entry}
use Rattle.transfer_sync.specs.declared.plan.Plan.{Plan}
use Rattle.transfer_sync.specs.declared.plan.PlanError.{PlanError}
use Rattle.transfer_sync.specs.declared.plan.PlanError.TheVariants.{TooManyRemovals, OutOfMemory}
use Rattle.transfer_sync.specs.declared.rules.Rules.{Rules}

-- True if there are more removals than the limit.
abbrev pub is_over_limit : Option ℕ → ℕ → Bool
is_over_limit None removals = false
is_over_limit (Some most) removals = nat_lt most removals

-- True if there are more removals than the rules allow.
abbrev pub has_too_many_removals : Rules → ℕ → Bool
has_too_many_removals rules removals = is_over_limit rules.max_delete removals

-- The plan has these actions and conflicts, and no more removals than the rules allow.
pub record IsPlan (rules : Rules) (source target : List Entry) (plan : Plan) : Type 0 where
  pub actions : plan.actions.items ≡ actions_of rules source target
  pub conflicts : plan.conflicts.items ≡ conflicts_of rules source target
  pub limit : has_too_many_removals rules (length (removal_actions rules source target)) ≡ false

-- The error has the number of removals, which is more than the rules allow; or an allocation failed.
abbrev pub IsRefusal : Rules → List Entry → List Entry → PlanError → Type 0
IsRefusal rules source target OutOfMemory = Unit {0}
IsRefusal rules source target (TooManyRemovals n) = (n ≡ length (removal_actions rules source target))
    × (has_too_many_removals rules n ≡ true)
