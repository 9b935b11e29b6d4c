-- The steps of a wire, the newest first: bytes that were put, bytes that were got, and waits.
use Rattle.std.specs.Prelude.{◌≡◌, ◌⊎◌, ◌≤◌, ◌+◌, ◌++◌, ℕ, List, [], ◌∷◌, length}
use Rattle.std.proofs.Common.{refl, inl, inr, arith}
use Rattle.link_duplex.specs.declared.wire.Readiness.{Readiness}
use Rattle.link_duplex.specs.declared.wire.Readiness.TheVariants.{Readable, Writable, Either}

-- `Got` with no bytes found the end.
pub data WireStep : Type 0 where
  Put : List ℕ → WireStep
  Got : List ℕ → WireStep
  Waited : Readiness → WireStep

-- All bytes that were put, in order.
abbrev pub bytes_put : List WireStep → List ℕ
bytes_put [] = []
bytes_put (Put piece ∷ before) = bytes_put before ++ piece
bytes_put (Got piece ∷ before) = bytes_put before
bytes_put (Waited readiness ∷ before) = bytes_put before

-- All bytes that were got, in order.
abbrev pub bytes_got : List WireStep → List ℕ
bytes_got [] = []
bytes_got (Put piece ∷ before) = bytes_got before
bytes_got (Got piece ∷ before) = bytes_got before ++ piece
bytes_got (Waited readiness ∷ before) = bytes_got before

-- The end was found.
abbrev pub FoundEnd : List WireStep → Type 0
FoundEnd [] = ⊥
FoundEnd (Put piece ∷ before) = FoundEnd before
FoundEnd (Got piece ∷ before) = (piece ≡ []) ⊎ FoundEnd before
FoundEnd (Waited readiness ∷ before) = FoundEnd before

-- A wait for one direction alone, after these steps of a call: to write, only if as many bytes as the limit are ahead
-- or the end was found; to read, only if all bytes that are owed were put. At the start of the call `ahead` bytes were
-- ahead and `owed` bytes were to be put.
abbrev pub MayWaitFor : ℕ → ℕ → ℕ → Readiness → List WireStep → Type 0
MayWaitFor limit ahead owed Either before = Unit {0}
MayWaitFor limit ahead owed Writable before = (limit ≤ ahead + length (bytes_got before)) ⊎ FoundEnd before
MayWaitFor limit ahead owed Readable before = owed ≤ length (bytes_put before)

-- Each wait is for both directions, or for one that may be waited for alone.
abbrev pub WaitsForBoth : ℕ → ℕ → ℕ → List WireStep → Type 0
WaitsForBoth limit ahead owed [] = Unit {0}
WaitsForBoth limit ahead owed (Put piece ∷ before) = WaitsForBoth limit ahead owed before
WaitsForBoth limit ahead owed (Got piece ∷ before) = WaitsForBoth limit ahead owed before
WaitsForBoth limit ahead owed (Waited readiness ∷ before) =
    MayWaitFor limit ahead owed readiness before × WaitsForBoth limit ahead owed before

-- A call appended steps to the log: these bytes were put, those were got, and no wait was for one direction alone
-- except as `WaitsForBoth` says.
pub record LogsSteps (limit ahead owed : ℕ) (put got : List ℕ) (before now : List WireStep) : Type 0 where
  pub steps : List WireStep
  pub all : now ≡ steps ++ before
  pub puts : bytes_put steps ≡ put
  pub gots : bytes_got steps ≡ got
  pub waits : WaitsForBoth limit ahead owed steps

-- ---- Worked rows: of two pieces, one was put, then one byte came, then the other was put

pub puts_in_order : bytes_put (Put (3 ∷ []) ∷ Got (9 ∷ []) ∷ Put (1 ∷ 2 ∷ []) ∷ []) ≡ 1 ∷ 2 ∷ 3 ∷ []
puts_in_order = refl

pub gots_in_order : bytes_got (Put (3 ∷ []) ∷ Got (9 ∷ []) ∷ Put (1 ∷ 2 ∷ []) ∷ []) ≡ 9 ∷ []
gots_in_order = refl

-- Two bytes are owed: after both were put, a wait to read alone is allowed.
pub reads_after_puts : WaitsForBoth 8 0 2 (Waited Readable ∷ Put (1 ∷ 2 ∷ []) ∷ [])
reads_after_puts = (omega arith, tt)

-- After one of them was put, it is not.
pub reads_before_puts : WaitsForBoth 8 0 2 (Waited Readable ∷ Put (1 ∷ []) ∷ []) → ⊥
reads_before_puts waits = omega (arith, waits.0)

-- A wait to write alone is allowed when three bytes are ahead and the limit is three, and after the end.
pub writes_at_limit : WaitsForBoth 3 2 4 (Waited Writable ∷ Got (7 ∷ []) ∷ [])
writes_at_limit = (inl (omega arith), tt)

pub writes_after_end : WaitsForBoth 8 0 4 (Waited Writable ∷ Got [] ∷ [])
writes_after_end = (inr (inl refl), tt)
