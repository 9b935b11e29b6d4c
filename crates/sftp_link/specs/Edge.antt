-- The trusted edge: a reader, a writer or a stream of std, and how often it failed.
use Rattle.std.specs.Prelude.{ℕ, List, Option, Bool, take, ◌≤◌, length}
use Rattle.std.specs.Io.KnownBytes.{Appends}

pub record Counting (R : Type 0) : Type 0 where
  pub inner : R
  pub faults : ℕ

-- A connected stream, how often it failed, and whether the last call on it was a recv that found the end.
pub record Streaming (S : Type 0) : Type 0 where
  pub inner : S
  pub faults : ℕ
  pub ended : Bool

-- A source, a sink, and whether the last call was a read that found the end.
pub record Joining (S K : Type 0) : Type 0 where
  pub source : S
  pub sink : K
  pub ended : Bool

-- Some of the first bytes were appended, if the bytes are known.
abbrev pub AppendsSome : Option (List ℕ) → Option (List ℕ) → List ℕ → Type 0
AppendsSome before now bytes = (n : ℕ) × (n ≤ length bytes) × Appends before now (take n bytes)
