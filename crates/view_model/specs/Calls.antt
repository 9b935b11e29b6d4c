-- The calls that an operation makes, and the greatest number of them.
use Rattle.std.specs.Prelude.{◌≡◌, ◌≤◌, ◌==◌, ◌&&◌, ℕ, Bool, true, List, length}
use Rattle.std.specs.List.{list_all}
use Rattle.plan_model.specs.declared.call.Call.{Call}
use Rattle.plan_model.specs.Lanes.{is_within, weight}

-- A call that a lane may be given, and that counts 2.
abbrev pub is_light : Call → Bool
is_light c = is_within c && (weight c == 2)

-- Such calls, at most `most` of them.
pub record AreFew (most : ℕ) (calls : List Call) : Type 0 where
  pub light : list_all is_light calls ≡ true
  pub few : length calls ≤ most

-- The greatest number of calls of one lane.
abbrev pub call_limit : ℕ
call_limit = 1000000000
