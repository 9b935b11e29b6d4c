-- Consequences of the way a program ends: the counts of faults that rose, and the end if neither the source nor the
-- sink failed.
use Rattle.std.specs.Prelude.{◌≡◌, ◌≢◌, ◌<◌, ◌⊎◌, ℕ, List, Option, Some, Ok, Err}
use Rattle.program_shell.specs.Ended.{ReadAs}
use Rattle.program_shell.specs.Outside.{Outside}

-- ---- Causes

-- A count of faults rose if the status is this one, and is unchanged otherwise.
abbrev pub HasCause : ℕ → ℕ → ℕ → ℕ → Type 0
HasCause n status before now = ((status ≡ n) × (before < now)) ⊎ ((status ≢ n) × (now ≡ before))

-- Status 3 means that the source failed, 4 that the sink failed, and 6 that the dial failed.
pub record HasCauses {History : Type 0} (status : ℕ) (before now : Outside History) : Type 0 where
  pub source : HasCause 3 status before.source.faults now.source.faults
  pub sink : HasCause 4 status before.sink.faults now.sink.faults
  pub dial : HasCause 6 status before.dial.faults now.dial.faults

-- ---- Completeness

-- Over a server in memory, a value is run whole.
abbrev pub IsWhole : ℕ → Type 0
IsWhole status = status ≡ 0

-- Over a link, it is run whole, an error stopped it, or there was no link.
abbrev pub IsLinkStatus : ℕ → Type 0
IsLinkStatus status = (status ≡ 0) ⊎ (status ≡ 1) ⊎ (status ≡ 6)

-- The status for bytes that read as a value, if it is one of these, and for bytes that do not.
abbrev pub EndsFor : {T : Type 0} → (ℕ → Type 0) → ReadAs T → ℕ → Type 0
EndsFor ends (Ok value) status = ends status
EndsFor ends (Err why) status = status ≡ 2

-- If the source records its bytes, the status is one for them, unless an allocation failed.
abbrev pub CompletesSource : {T : Type 0} → (List ℕ → ReadAs T) → (ℕ → Type 0) → ℕ → Option (List ℕ) → Type 0
CompletesSource read ends status left = (had : List ℕ) → left ≡ Some had
    → EndsFor ends (read had) status ⊎ (status ≡ 5)
