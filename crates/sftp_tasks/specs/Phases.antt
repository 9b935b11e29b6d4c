-- believed: phase_number
-- The phases of a session as numbers.
use Rattle.std.specs.Prelude.{◌≡◌, ℕ, zero, suc, Bool, true, false}
use Rattle.std.proofs.Common.{refl}
use Rattle.session_driver.specs.declared.session.Phase.{Phase}
use Rattle.session_driver.specs.declared.session.Phase.TheVariants.{Fresh, Greeted, Asking, Queried, Open, Failed}

-- The number of a phase: it rises as the session opens, and is the last one once the session has failed.
abbrev pub phase_number : Phase → ℕ
phase_number Fresh = 0
phase_number Greeted = 1
phase_number Asking = 2
phase_number Queried = 3
phase_number Open = 4
phase_number Failed = 5

abbrev pub is_open_in : Phase → Bool
is_open_in Open = true
is_open_in other = false

-- ---- Worked rows

-- The phase that has a number: no two phases share one.
abbrev pub phase_at : ℕ → Phase
phase_at zero = Fresh
phase_at (suc zero) = Greeted
phase_at (suc (suc zero)) = Asking
phase_at (suc (suc (suc zero))) = Queried
phase_at (suc (suc (suc (suc zero)))) = Open
phase_at (suc (suc (suc (suc (suc n))))) = Failed

pub phases_differ : (p : Phase) → phase_at (phase_number p) ≡ p
phases_differ Fresh = refl
phases_differ Greeted = refl
phases_differ Asking = refl
phases_differ Queried = refl
phases_differ Open = refl
phases_differ Failed = refl
