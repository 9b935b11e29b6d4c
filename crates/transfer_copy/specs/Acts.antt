-- The operations of a copy on its local file, so far and at its end.
use Rattle.std.specs.Prelude.{◌≡◌, ◌⊎◌, ℕ, ◌+◌, Bool, true, false, List, [], ◌∷◌, ◌++◌, length, None, Ok, Err}
use Rattle.transfer_copy.specs.declared.get.FileGet.{FileGet}
use Rattle.transfer_copy.specs.declared.get.GetStage.{GetStage}
use Rattle.transfer_copy.specs.declared.get.GetStage.TheVariants as get
use Rattle.transfer_copy.specs.declared.progress.Progress.{Progress}
use Rattle.transfer_copy.specs.declared.progress.Progress.TheVariants as progress
use Rattle.transfer_copy.specs.declared.put.FilePut.{FilePut}
use Rattle.transfer_copy.specs.declared.put.PutStage.{PutStage}
use Rattle.transfer_copy.specs.declared.put.PutStage.TheVariants as put
use Rattle.transfer_copy.specs.Local.{
  AreGot,
  AreOfPart,
  AreUnnamed,
  Got,
  HasDone,
  LocalAct,
  Failed,
  Opened,
  Renamed,
  Synced,
  SyncedParent,
  naming_acts,
  part_opened,
  reads_of,
  writes_of,
}

abbrev pub total_len : List (List ℕ) → ℕ
total_len [] = 0
total_len (piece ∷ later) = length piece + total_len later

-- ---- From the server

-- The part file was created, or reopened with `from` bytes in it, and written to, piece by piece, until it had `len`
-- bytes. Nothing else was done.
pub record HasWrittenPart {H : Type 0} (done : LocalAct → H → H) (part : List ℕ) (from len : ℕ) (first now : H) :
    Type 0 where
  pub pieces : List (List ℕ)
  pub acts : HasDone done (part_opened part from ∷ writes_of pieces) first now
  pub total : from + total_len pieces ≡ len

-- Only the part file was created, reopened or written to.
abbrev pub IsPartOnly : {H : Type 0} → (LocalAct → H → H) → List ℕ → H → H → Type 0
IsPartOnly done part first now = (acts : List LocalAct) × HasDone done acts first now × AreOfPart part acts

-- The operations so far of a copy that started at an offset, by its stage.
abbrev pub GotAtStage : {H : Type 0} → (LocalAct → H → H) → List ℕ → ℕ → FileGet → H → H → GetStage → Type 0
GotAtStage done part from g first now get.Starting = (now ≡ first) × (g.offset ≡ from)
GotAtStage done part from g first now get.Opening = (now ≡ first) × (g.offset ≡ from)
GotAtStage done part from g first now get.Reading = HasWrittenPart done part from g.offset first now
GotAtStage done part from g first now get.Closing = IsPartOnly done part first now
    × (g.failure ≡ None → HasWrittenPart done part from g.offset first now)
GotAtStage done part from g first now get.Ended = Unit {0}

-- The operations so far of a copy that started at an offset, with `sync` or without.
abbrev pub GotSoFar : {H : Type 0} → (LocalAct → H → H) → List ℕ → Bool → ℕ → FileGet → H → H → GetStage → Type 0
GotSoFar done part sync from g first now s = (g.sync ≡ sync) × GotAtStage done part from g first now s

-- The part file was written and had its name, and then its directory could not be written through to the disk. This is
-- only with `sync`.
pub record HasNameUnsynced {H : Type 0} (done : LocalAct → H → H) (part name : List ℕ) (sync : Bool) (from : ℕ)
    (first now : H) : Type 0 where
  pub asked : sync ≡ true
  pub len : ℕ
  pub written : H
  pub writes : HasWrittenPart done part from len first written
  pub acts : HasDone done (Synced ∷ Renamed part name ∷ Failed (SyncedParent name) ∷ []) written now

-- If the copy returns a count, the part file was created or reopened, and written to, piece by piece, until it had that
-- many bytes. Then it was given its name. With an error, no file was renamed to the final name, unless only the
-- directory could not be written through to the disk.
abbrev pub GotAfter : {H : Type 0} → (LocalAct → H → H) → List ℕ → List ℕ → Bool → ℕ → FileGet → H → H → Progress
    → Type 0
GotAfter {H = H} done part name sync from new first now (progress.Ended (Ok len)) = (written : H)
    × HasWrittenPart done part from len first written
    × HasDone done (naming_acts sync part name) written now
GotAfter done part name sync from new first now (progress.Ended (Err e)) = ((acts : List LocalAct)
    × HasDone done acts first now
    × AreUnnamed sync part name acts)
    ⊎ HasNameUnsynced done part name sync from first now
GotAfter done part name sync from new first now other = GotSoFar done part sync from new first now new.stage

-- ---- To the server

-- The read at the end of the file, which returned no bytes.
abbrev pub end_acts : Bool → List LocalAct
end_acts true = Got [] ∷ []
end_acts false = []

-- The file was opened at an offset, and its bytes were read up to the offset `len`, piece by piece. At the end of the
-- file the last read returned none.
pub record HasReadFile {H : Type 0} (done : LocalAct → H → H) (name : List ℕ) (from : ℕ) (at_end : Bool) (len : ℕ)
    (first now : H) : Type 0 where
  pub pieces : List (List ℕ)
  pub acts : HasDone done (Opened name from ∷ (reads_of pieces ++ end_acts at_end)) first now
  pub total : from + total_len pieces ≡ len

-- The file was only read.
abbrev pub IsReadOnly : {H : Type 0} → (LocalAct → H → H) → H → H → Type 0
IsReadOnly done first now = (acts : List LocalAct) × HasDone done acts first now × AreGot acts

-- The operations so far of a copy that started at an offset.
abbrev pub SentSoFar : {H : Type 0} → (LocalAct → H → H) → List ℕ → ℕ → FilePut → H → H → PutStage → Type 0
SentSoFar done name from p first now put.Starting = (now ≡ first) × (p.offset ≡ from) × (p.next ≡ from)
    × (p.at_end ≡ false)
SentSoFar done name from p first now put.Opening = HasReadFile done name from p.at_end p.next first now
SentSoFar done name from p first now put.Writing = HasReadFile done name from p.at_end p.next first now
SentSoFar done name from p first now put.Closing = IsReadOnly done first now
    × (p.failure ≡ None → HasReadFile done name from true p.offset first now)
SentSoFar done name from p first now put.Ended = Unit {0}
SentSoFar done name from p first now other = HasReadFile done name from true p.offset first now

-- If the copy returns a count, the file was opened at the offset, and its bytes were read up to that count and to its
-- end. In any case it was only read.
abbrev pub SentAfter : {H : Type 0} → (LocalAct → H → H) → List ℕ → ℕ → FilePut → H → H → Progress → Type 0
SentAfter done name from new first now (progress.Ended (Ok len)) = HasReadFile done name from true len first now
SentAfter done name from new first now (progress.Ended (Err e)) = IsReadOnly done first now
SentAfter done name from new first now other = SentSoFar done name from new first now new.stage
