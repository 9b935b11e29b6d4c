-- believed, except GetHasEnded, get_is_over, IsOpenAt, IsBehindRead, AsksNext, GetAsksOn, GetLeaves
-- A copy from the server to a local file, step by step.
use Rattle.std.specs.Prelude.{
  ◌≡◌,
  ◌≢◌,
  ◌⊎◌,
  ◌≤◌,
  ◌<◌,
  ℕ,
  ◌+◌,
  ◌-◌,
  ◌^◌,
  Bool,
  true,
  false,
  List,
  [],
  ◌∷◌,
  length,
  max,
  min,
  ◌*◌,
  ◌/◌,
  nat_lt,
  if◌then◌else◌,
  Option,
  Some,
  None,
  Ok,
  Err,
  IsSome,
}
use Rattle.sftp_model.specs.Numbers.{SSH_FX_EOF}
use Rattle.sftp_model.specs.OpenOptions.{flags_of, nothing_chosen}
use Rattle.sftp_model.specs.declared.answers.Expected.TheVariants as expected
use Rattle.sftp_model.specs.declared.flags.OpenFlags.{OpenFlags}
use Rattle.sftp_model.specs.declared.reply.Reply.{Reply}
use Rattle.sftp_model.specs.declared.reply.Reply.TheVariants as reply
use Rattle.plan_model.specs.FilePlans.{open_request}
use Rattle.sftp_core.specs.Core.{Core}
use Rattle.sftp_core.specs.Info.{info_of}
use Rattle.transfer_copy.specs.declared.copy_error.CopyError.{CopyError}
use Rattle.transfer_copy.specs.declared.get.FileGet.{FileGet}
use Rattle.transfer_copy.specs.declared.get.GetStage.{GetStage}
use Rattle.transfer_copy.specs.declared.get.GetStage.TheVariants as stage
use Rattle.transfer_copy.specs.declared.holding.FileAnswer.TheVariants as file_answer
use Rattle.transfer_copy.specs.declared.holding.Part.{Part}
use Rattle.transfer_copy.specs.declared.holding.PartAnswer.TheVariants as part_answer
use Rattle.transfer_copy.specs.declared.progress.Progress.{Progress}
use Rattle.transfer_copy.specs.declared.progress.Progress.TheVariants as progress
use Rattle.transfer_copy.specs.Holdings.{
  AsksFile,
  AsksForRead,
  DropsParts,
  HoldingValue,
  HoldsAll,
  WasOk,
  IsOnly,
  IsFileOpen,
  WasRefused,
  KeepsApart,
  LetsFileGo,
  SettlesFile,
  TakesPart,
  bytes_under_way,
  nothing_held,
}
use Rattle.transfer_copy.specs.Local.{FailNaming, Failed, HasDone, LocalAct, Wrote, naming_acts, part_opened}
use Rattle.transfer_copy.specs.Refusals.{IsUnasked}

-- The flags of an open for reading only.
abbrev pub read_flags : OpenFlags
read_flags = flags_of (record nothing_chosen { read = true })

-- Each part is a READ.
abbrev pub AreReadParts : List Part → Type 0
AreReadParts [] = Unit {0}
AreReadParts (part ∷ later) = (part.kind ≡ expected.Content part.len) × AreReadParts later

-- ---- The stage of a copy

-- The parts cover the file without a gap from the first byte that was not written.
pub record IsReadingOn (g : FileGet) : Type 0 where
  pub file : IsFileOpen g.holding.file
  pub parts : AreReadParts g.holding.parts
  pub next : g.offset + bytes_under_way g.holding.parts ≡ g.next
  pub small : g.next < 2 ^ 64
  pub wide : 1 ≤ g.window
  pub some : 1 ≤ g.ask
  pub unfailed : g.failure ≡ None

-- Nothing or only the OPEN was asked, and no byte was written: the copy is at its start.
pub record IsAtStart (Holds : HoldingValue → Type 0) (g : FileGet) : Type 0 where
  pub holds : Holds g.holding
  pub next : g.next ≡ g.offset
  pub small : g.offset < 2 ^ 64
  pub wide : 1 ≤ g.window
  pub some : 1 ≤ g.ask
  pub unfailed : g.failure ≡ None

abbrev pub StandsGet : GetStage → FileGet → Type 0
StandsGet stage.Starting g = IsAtStart (λ h. h ≡ nothing_held) g
StandsGet stage.Opening g = IsAtStart (IsOnly expected.Handle) g
StandsGet stage.Reading g = IsReadingOn g
StandsGet stage.Closing g = IsOnly expected.Status g.holding
StandsGet stage.Ended g = g.holding ≡ nothing_held

-- A copy over a core of an open session: the core awaits the replies that the copy awaits. After its end the copy
-- awaits nothing.
pub record IsGetting (core : Core) (g : FileGet) : Type 0 where
  pub opened : IsSome (info_of core.phase)
  pub held : HoldsAll core g.holding
  pub stands : StandsGet g.stage g

-- It has not ended.
abbrev pub IsGoingOn : GetStage → Type 0
IsGoingOn stage.Ended = ⊥
IsGoingOn other = Unit {0}

pub record MayGet (core : Core) (g : FileGet) : Type 0 where
  pub getting : IsGetting core g
  pub going : IsGoingOn g.stage

-- It has ended exactly if a step says so.
abbrev pub GetHasEnded : GetStage → Progress → Type 0
GetHasEnded s (progress.Ended result) = s ≡ stage.Ended
GetHasEnded s other = IsGoingOn s

abbrev pub get_is_over : GetStage → Bool
get_is_over stage.Ended = true
get_is_over other = false

-- A copy from an offset on that has asked for nothing. With `sync` the file is written through to the disk before it
-- has its name.
abbrev pub get_begun : ℕ → ℕ → Bool → FileGet
get_begun most from sync =
    record {
      holding = nothing_held;
      stage = stage.Starting;
      window = 1;
      most = most;
      ask = 2 ^ 32 - 1;
      was_short = false;
      offset = from;
      next = from;
      sync = sync;
      failure = None;
    }

-- The file is open, and nothing failed.
pub record IsOpenAt (core : Core) (g : FileGet) : Type 0 where
  pub opened : IsSome (info_of core.phase)
  pub held : HoldsAll core g.holding
  pub file : IsFileOpen g.holding.file
  pub unfailed : g.failure ≡ None

-- The first READ, which asked for `len` bytes, was answered.
pub record IsBehindRead (len : ℕ) (core : Core) (g : FileGet) : Type 0 where
  pub opened : IsSome (info_of core.phase)
  pub held : HoldsAll core g.holding
  pub stage : g.stage ≡ stage.Reading
  pub reading : IsReadingOn (record g { offset = g.offset + len })

-- ---- Steps

-- No reply was taken, and nothing changed.
abbrev pub IsStill : Core → FileGet → Core → FileGet → Type 0
IsStill core old after new = (after ≡ core) × (new ≡ old)

-- The parts were abandoned and the file was closed, and the status of the CLOSE is awaited. If the copy failed before,
-- its first failure is kept.
pub record LeavesGet (Why : Option CopyError → Type 0) (core : Core) (h : HoldingValue) (old : FileGet) (after : Core)
    (new : FileGet) : Type 0 where
  pub goes : LetsFileGo core h after new.holding
  pub stage : new.stage ≡ stage.Closing
  pub offset : new.offset ≡ old.offset
  pub sync : new.sync ≡ old.sync
  pub failure : Why new.failure

abbrev pub GetGivesUp : Core → HoldingValue → FileGet → Core → FileGet → Type 0
GetGivesUp core h old after new = LeavesGet (λ why. IsSome why) core h old after new

abbrev pub GetFinishes : Core → HoldingValue → FileGet → Core → FileGet → Type 0
GetFinishes core h old after new = LeavesGet (λ why. why ≡ None) core h old after new

-- The OPEN of the path for reading was asked, or it could not be submitted.
abbrev pub GetStarts : List ℕ → Core → FileGet → Core → FileGet → Progress → Type 0
GetStarts remote core old after new progress.Moved =
    AsksFile core old.holding (open_request read_flags remote) after new.holding
    × (new ≡ record old { stage = stage.Opening; holding = new.holding })
GetStarts remote core old after new (progress.Ended (Err e)) = (after ≡ core)
    × (new ≡ record old { stage = stage.Ended })
    × IsUnasked core (open_request read_flags remote) e
GetStarts remote core old after new other = ⊥

-- The part file was created, or reopened with the bytes before the offset; or that failed.
abbrev pub MakesPart : {H : Type 0} → (LocalAct → H → H) → List ℕ → Core → FileGet → Core → FileGet → H → H → Type 0
MakesPart done part core old after new before now = ((now ≡ done (part_opened part old.offset) before)
    × (after ≡ core)
    × (new ≡ record old { stage = stage.Reading }))
    ⊎ ((now ≡ done (Failed (part_opened part old.offset)) before) × GetGivesUp core old.holding old after new)

-- The HANDLE came, and the part file was created or reopened, or that failed.
pub record OpensGet {H : Type 0} (done : LocalAct → H → H) (part : List ℕ) (core : Core) (old : FileGet) (after : Core)
    (new : FileGet) (before now : H) : Type 0 where
  pub mid : Core
  pub open_file : HoldingValue
  pub granted : SettlesFile core old.holding mid open_file file_answer.Granted
  pub made : MakesPart done part mid (record old { holding = open_file }) after new before now

abbrev pub GetOpens : {H : Type 0} → (LocalAct → H → H) → List ℕ → Core → FileGet → Core → FileGet → H → H → Progress
    → Type 0
GetOpens done part core old after new before now progress.Waits =
    SettlesFile core old.holding core old.holding file_answer.Missing × IsStill core old after new × (now ≡ before)
GetOpens done part core old after new before now progress.Moved = OpensGet done part core old after new before now
GetOpens done part core old after new before now (progress.Ended (Err e)) =
    WasRefused core old.holding after new.holding e
    × (new ≡ record old { stage = stage.Ended; holding = new.holding })
    × (now ≡ before)
GetOpens done part core old after new before now (progress.Ended (Ok len)) = ⊥

-- ---- Pieces

-- The window is full, or the greatest offset is reached.
abbrev pub IsFull : FileGet → Type 0
IsFull g = (g.window ≤ length g.holding.parts) ⊎ (g.next ≡ 2 ^ 64 - 1)

-- Another READ was asked, after the others.
pub record GetsMore (core : Core) (old : FileGet) (after : Core) (new : FileGet) : Type 0 where
  pub len : ℕ
  pub few : length old.holding.parts < old.window
  pub some : 0 < len
  pub most : len ≤ old.ask
  pub small : old.next + len < 2 ^ 64
  pub asks : AsksForRead core old.holding old.next len after new.holding
  pub now : new ≡ record old { holding = new.holding; next = old.next + len }

-- READs ask for as many bytes as came, and for 4096 at least.
abbrev pub ask_with : ℕ → ℕ
ask_with got = max got 4096

-- So many times more READs may be in flight as each asks for less, up to 1024.
abbrev pub most_with : (got len most : ℕ) → ℕ
most_with got len most = max most (min (most * (len / ask_with got)) 1024)

-- A value after a piece: another one after two short pieces in a row.
abbrev pub if_short_twice : (was_short : Bool) (got len : ℕ) → ℕ → ℕ → ℕ
if_short_twice true got len other value = if nat_lt got len then other else value
if_short_twice false got len other value = value

-- The bytes of a piece are counted. If they are fewer than the READ asked for, the other parts are abandoned and the
-- next READ starts after them.
pub record KeepsPiece (got len : ℕ) (core : Core) (old : FileGet) (after : Core) (new : FileGet) : Type 0 where
  pub stage : new.stage ≡ stage.Reading
  pub offset : new.offset ≡ old.offset + got
  pub sync : new.sync ≡ old.sync
  pub capped : new.window ≤ max old.window old.most
  pub ask : new.ask ≡ if_short_twice old.was_short got len (ask_with got) old.ask
  pub most : new.most ≡ if_short_twice old.was_short got len (most_with got len old.most) old.most
  pub was_short : new.was_short ≡ nat_lt got len
  pub goes : ((got ≡ len) × (after ≡ core) × (new.holding ≡ old.holding) × (new.next ≡ old.next))
      ⊎ ((got < len) × DropsParts core old.holding after new.holding × (new.next ≡ new.offset))

-- The bytes were written, or the write failed.
abbrev pub WritesPiece : {H : Type 0} → (LocalAct → H → H) → List ℕ → ℕ → Core → FileGet → Core → FileGet → H → H
    → Type 0
WritesPiece done bytes len core old after new before now = ((now ≡ done (Wrote bytes) before)
    × KeepsPiece (length bytes) len core old after new)
    ⊎ ((now ≡ done (Failed (Wrote bytes)) before) × GetGivesUp core old.holding old after new)

-- The reply to the first READ: a piece, the end, or a refusal.
abbrev pub TakesReply : {H : Type 0} → (LocalAct → H → H) → Reply → ℕ → Core → FileGet → Core → FileGet → H → H → Type 0
TakesReply done (reply.Content bytes) len core old after new before now =
    WritesPiece done bytes len core old after new before now
TakesReply done (reply.Status code message language) len core old after new before now = (now ≡ before)
    × (((code ≡ SSH_FX_EOF) × GetFinishes core old.holding old after new)
    ⊎ ((code ≢ SSH_FX_EOF) × GetGivesUp core old.holding old after new))
TakesReply done other len core old after new before now = ⊥

-- The reply came, and the copy continues with it.
pub record GetsReply {H : Type 0} (done : LocalAct → H → H) (core : Core) (old : FileGet) (after : Core) (new : FileGet)
    (before now : H) : Type 0 where
  pub mid : Core
  pub left : HoldingValue
  pub r : Reply
  pub len : ℕ
  pub came : TakesPart core old.holding mid left (part_answer.Came r len)
  pub goes : TakesReply done r len mid (record old { holding = left }) after new before now

-- A READ was refused or could not be asked, or a fault is kept.
pub record GetsNoMore (core : Core) (old : FileGet) (after : Core) (new : FileGet) : Type 0 where
  pub mid : Core
  pub left : HoldingValue
  pub gives_up : GetGivesUp mid left old after new

-- Another READ was asked, or it was refused.
abbrev pub AsksNext : Core → FileGet → Core → FileGet → Type 0
AsksNext core old after new = GetsMore core old after new ⊎ GetGivesUp core old.holding old after new

-- The step if the first reply is missing, or if no READ is in flight: another READ, while the window is not full and an
-- offset is left for it.
abbrev pub GetAsksOn : Core → FileGet → Core → FileGet → Progress → Type 0
GetAsksOn core old after new progress.Waits = IsFull old × (0 < length old.holding.parts) × IsStill core old after new
GetAsksOn core old after new progress.Moved = AsksNext core old after new
GetAsksOn core old after new (progress.Ended result) = ⊥

abbrev pub GetReadsOn : {H : Type 0} → (LocalAct → H → H) → Core → FileGet → Core → FileGet → H → H → Progress → Type 0
GetReadsOn done core old after new before now progress.Waits =
    TakesPart core old.holding core old.holding part_answer.Missing × IsFull old × IsStill core old after new
    × (now ≡ before)
GetReadsOn done core old after new before now progress.Moved = GetsReply done core old after new before now
    ⊎ ((now ≡ before) × (GetsMore core old after new ⊎ GetsNoMore core old after new))
GetReadsOn done core old after new before now (progress.Ended result) = ⊥

-- ---- The end

-- The server answered the CLOSE with OK.
abbrev pub SaysClosed : Core → FileGet → Core → FileGet → Type 0
SaysClosed core old after new = WasOk core old.holding after new.holding

-- Nothing failed, the server answered the CLOSE with OK, and then the part file was given its name. Otherwise the first
-- failure is returned.
abbrev pub GetEnds : {H : Type 0} → (LocalAct → H → H) → List ℕ → List ℕ → Core → FileGet → Core → FileGet → H → H
    → Progress → Type 0
GetEnds done part name core old after new before now progress.Waits =
    SettlesFile core old.holding core old.holding file_answer.Missing × IsStill core old after new × (now ≡ before)
GetEnds done part name core old after new before now progress.Moved = ⊥
GetEnds done part name core old after new before now (progress.Ended (Ok len)) = (old.failure ≡ None)
    × SaysClosed core old after new
    × HasDone done (naming_acts old.sync part name) before now
    × (len ≡ old.offset)
    × (new.stage ≡ stage.Ended)
GetEnds done part name core old after new before now (progress.Ended (Err e)) = ((first : CopyError)
    → old.failure ≡ Some first → e ≡ first)
    × ((now ≡ before) ⊎ ((old.failure ≡ None) × SaysClosed core old after new
    × ((acts : List LocalAct) × FailNaming old.sync part name acts × HasDone done acts before now)))
    × (new.stage ≡ stage.Ended)

-- ---- One step

-- The effect of a step, by the stage of the copy before it.
abbrev pub GetStepDid : {H : Type 0} → (LocalAct → H → H) → List ℕ → List ℕ → List ℕ → Core → FileGet → Core → FileGet
    → H
    → H → Progress → GetStage → Type 0
GetStepDid done remote part name core old after new before now result stage.Starting =
    GetStarts remote core old after new result × (now ≡ before)
GetStepDid done remote part name core old after new before now result stage.Opening =
    GetOpens done part core old after new before now result
GetStepDid done remote part name core old after new before now result stage.Reading =
    GetReadsOn done core old after new before now result
GetStepDid done remote part name core old after new before now result stage.Closing =
    GetEnds done part name core old after new before now result
GetStepDid done remote part name core old after new before now result stage.Ended = ⊥

-- The copy continues or has ended, and the entries of others in the core are unchanged.
pub record GetLeaves (core : Core) (old : FileGet) (after : Core) (new : FileGet) : Type 0 where
  pub getting : IsGetting after new
  pub apart : KeepsApart old.holding new.holding core after
