-- believed: LocalAct, all_done, HasDone, writes_of, part_opened, naming_acts, FailNaming, reads_of
-- The operations on a local file, one by one.
use Rattle.std.specs.Prelude.{◌≡◌, ◌⊎◌, ◌==◌, ℕ, Bool, true, false, List, [], ◌∷◌, map, Result, Ok, Err, if◌then◌else◌}

-- A call on a local file: it was opened for reading from an offset on, it was created, or it was reopened with this
-- many bytes in it, for writing after them. Bytes are read from the file that was opened last. They are written to the
-- file that was created or reopened last. `Synced` writes the bytes of that file through to the disk, and
-- `SyncedParent` the directory of a path, with the names in it.
pub data LocalAct : Type 0 where
  Opened : List ℕ → ℕ → LocalAct
  Created : List ℕ → LocalAct
  Reopened : List ℕ → ℕ → LocalAct
  Got : List ℕ → LocalAct
  Wrote : List ℕ → LocalAct
  Synced : LocalAct
  Renamed : List ℕ → List ℕ → LocalAct
  SyncedParent : List ℕ → LocalAct
  Failed : LocalAct → LocalAct

-- The operation as the history records it: done, or failed.
abbrev pub act_of : {T E : Type 0} → Result T E → LocalAct → LocalAct
act_of (Ok x) act = act
act_of (Err e) act = Failed act

-- A read as the history records it: with its bytes, or failed.
abbrev pub got_by : {E : Type 0} → Result (List ℕ) E → LocalAct
got_by (Ok bytes) = Got bytes
got_by (Err e) = Failed (Got [])

-- The history after a list of operations, one after another, if `done` is the history after one operation.
abbrev pub all_done : {H : Type 0} → (LocalAct → H → H) → List LocalAct → H → H
all_done done [] history = history
all_done done (act ∷ acts) history = all_done done acts (done act history)

-- These operations were done, and no others.
abbrev pub HasDone : {H : Type 0} → (LocalAct → H → H) → List LocalAct → H → H → Type 0
HasDone done acts before after = after ≡ all_done done acts before

-- The writes of these pieces.
abbrev pub writes_of : List (List ℕ) → List LocalAct
writes_of pieces = map Wrote pieces

-- The part file is created, or reopened if it has bytes already.
abbrev pub part_opened : List ℕ → ℕ → LocalAct
part_opened part len = if len == 0 then Created part else Reopened part len

-- The operations that a file may undergo before it is renamed to its final name: it is created or reopened, and written
-- to.
abbrev pub IsOfPart : List ℕ → LocalAct → Type 0
IsOfPart part (Created name) = name ≡ part
IsOfPart part (Reopened name len) = name ≡ part
IsOfPart part (Wrote bytes) = Unit {0}
IsOfPart part (Failed act) = IsOfPart part act
IsOfPart part other = ⊥

abbrev pub AreOfPart : List ℕ → List LocalAct → Type 0
AreOfPart part [] = Unit {0}
AreOfPart part (act ∷ acts) = IsOfPart part act × AreOfPart part acts

-- The file was not renamed to its final name. With `sync` it may have been written through to the disk.
abbrev pub IsUnnamed : Bool → List ℕ → List ℕ → LocalAct → Type 0
IsUnnamed sync part name (Failed (Renamed from to)) = (from ≡ part) × (to ≡ name)
IsUnnamed sync part name Synced = sync ≡ true
IsUnnamed sync part name (Failed Synced) = sync ≡ true
IsUnnamed sync part name act = IsOfPart part act

abbrev pub AreUnnamed : Bool → List ℕ → List ℕ → List LocalAct → Type 0
AreUnnamed sync part name [] = Unit {0}
AreUnnamed sync part name (act ∷ acts) = IsUnnamed sync part name act × AreUnnamed sync part name acts

-- The operations that give the part file its final name. With `sync` its bytes are written through to the disk before
-- the rename, and the directory of the name after it.
abbrev pub naming_acts : Bool → List ℕ → List ℕ → List LocalAct
naming_acts false part name = Renamed part name ∷ []
naming_acts true part name = Synced ∷ Renamed part name ∷ SyncedParent name ∷ []

-- These operations up to the first one that failed.
abbrev pub FailNaming : Bool → List ℕ → List ℕ → List LocalAct → Type 0
FailNaming false part name acts = acts ≡ Failed (Renamed part name) ∷ []
FailNaming true part name acts = (acts ≡ Failed Synced ∷ [])
    ⊎ (acts ≡ Synced ∷ Failed (Renamed part name) ∷ [])
    ⊎ (acts ≡ Synced ∷ Renamed part name ∷ Failed (SyncedParent name) ∷ [])

-- The part file was given its final name, or one of these operations failed.
abbrev pub NamesPart : {H E : Type 0} → (LocalAct → H → H) → Bool → List ℕ → List ℕ → Result (Unit {0}) E → H → H
    → Type 0
NamesPart done sync part name (Ok u) before now = HasDone done (naming_acts sync part name) before now
NamesPart done sync part name (Err e) before now = (acts : List LocalAct) × FailNaming sync part name acts
    × HasDone done acts before now

-- A file is only read.
abbrev pub IsGot : LocalAct → Type 0
IsGot (Opened name from) = Unit {0}
IsGot (Got bytes) = Unit {0}
IsGot (Failed act) = IsGot act
IsGot other = ⊥

abbrev pub AreGot : List LocalAct → Type 0
AreGot [] = Unit {0}
AreGot (act ∷ acts) = IsGot act × AreGot acts

-- The reads of these pieces.
abbrev pub reads_of : List (List ℕ) → List LocalAct
reads_of pieces = map Got pieces
