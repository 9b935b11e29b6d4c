-- The calls of an object in memory: which of them fail, how many were made, and how many failed.
use Rattle.std.specs.Prelude.{ℕ, List, Bool, ◌+◌, ◌-◌, ◌^◌, ◌==◌, min, if◌then◌else◌}
use Rattle.std.specs.List.{list_any}

-- `fails` has the numbers, from 0, of the calls that fail; `made` is the number of the next call.
pub record Counted : Type 0 where
  pub fails : List ℕ
  pub made : ℕ
  pub faults : ℕ

-- The state before the first call.
abbrev pub before_first_call : List ℕ → Counted
before_first_call fails = record { fails = fails; made = 0; faults = 0 }

-- True if the next call fails.
abbrev pub fails_next : Counted → Bool
fails_next calls = list_any (λ k. k == calls.made) calls.fails

-- The state after the next call, failed or not. Numbers of calls stop at the greatest number of 64 bits: it is the
-- number of all later calls.
abbrev pub after_call : Counted → Counted
after_call calls = record {
  fails = calls.fails;
  made = min (calls.made + 1) (2 ^ 64 - 1);
  faults = (if fails_next calls then calls.faults + 1 else calls.faults);
}
