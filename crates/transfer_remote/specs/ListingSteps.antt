-- One listing among others: what it has in a core, and its steps.
use Rattle.std.specs.Prelude.{
  ◌≡◌,
  ◌⊎◌,
  ◌≤◌,
  ◌+◌,
  ℕ,
  zero,
  suc,
  Bool,
  true,
  false,
  List,
  [],
  ◌∷◌,
  ◌++◌,
  length,
  Option,
  Some,
  None,
  Result,
  Ok,
  Err,
  IsSome,
}
use Rattle.sftp_model.specs.declared.answers.Expected.TheVariants as expected
use Rattle.sftp_model.specs.declared.error.Error.{Error}
use Rattle.sftp_model.specs.declared.reply.NameEntry.{NameEntry}
use Rattle.sftp_core.specs.Core.{Core, kept_of}
use Rattle.sftp_core.specs.Grant.{GrantValue}
use Rattle.sftp_core.specs.Info.{MAX_IDS, info_of}
use Rattle.plan_state.specs.Asked.{HoldsTicket}
use Rattle.plan_state.specs.Calls.{CallValue, CancelsAwaited, IsNoneOfCall, StepsByPlan}
use Rattle.plan_state.specs.Keeping.{SparesOthers}
use Rattle.plan_state.specs.declared.poll.Poll.{Poll}
use Rattle.plan_state.specs.declared.poll.Poll.TheVariants.{Pending, Ready}
use Rattle.plan_state.specs.declared.stage.Stage.{Stage as CallStage}
use Rattle.plan_state.specs.declared.stage.Stage.TheVariants.{Asked, Came}
use Rattle.plan_state.specs.declared.told.Told.TheVariants as told
use Rattle.sftp_file.specs.declared.short_calls.Settling.{Settling}
use Rattle.sftp_fs.specs.Directories.{opening_dir}
use Rattle.sftp_fs.specs.Listings.{IsListing, ListingAnswer, ListingValue, PollsEntries, fresh_listing}
use Rattle.sftp_fs.specs.declared.directory.OpeningDir.{OpeningDir}
use Rattle.sftp_client.specs.DirCalls.{ClosesListing, IsNoneOfListing}
use Rattle.transfer_plan.specs.Walks.{MAX_ENTRIES}
use Rattle.transfer_remote.specs.Failures.{remote_of}
use Rattle.transfer_remote.specs.declared.listing_stage.Listing.{Listing}
use Rattle.transfer_remote.specs.declared.listing_stage.Stage.{Stage}
use Rattle.transfer_remote.specs.declared.listing_stage.Stage.TheVariants as stage
use Rattle.transfer_remote.specs.declared.remote_error.RemoteError.{RemoteError}
use Rattle.transfer_remote.specs.declared.remote_error.RemoteError.TheVariants as remote

-- The most entries of a listing.
abbrev pub MAX_LISTED : ℕ
MAX_LISTED = MAX_ENTRIES + 2

-- ---- What a listing has in a core

-- The number belongs to the call: it is that of its ticket, or of the grant that came.
abbrev pub IsOfCall : CallStage → ℕ → Type 0
IsOfCall (Asked ticket) id = id ≡ ticket
IsOfCall (Came (told.Granted g)) id = id ≡ g.id
IsOfCall other id = ⊥

-- It is that of the READDIR whose reply is awaited.
abbrev pub IsOfAsked : Option ℕ → ℕ → Type 0
IsOfAsked None id = ⊥
IsOfAsked (Some ticket) id = id ≡ ticket

-- The number belongs to the listing: to its OPENDIR, or to its directory and the READDIR in flight.
abbrev pub IsOf : Stage → ℕ → Type 0
IsOf (stage.Opening call) id = IsOfCall call.stage id
IsOf (stage.Reading dir) id = (id ≡ dir.grant.id) ⊎ IsOfAsked dir.asked id
IsOf other id = ⊥

-- The number is none of the listing's.
abbrev pub IsNoneOf : Stage → ℕ → Type 0
IsNoneOf (stage.Opening call) id = IsNoneOfCall call.stage id
IsNoneOf (stage.Reading dir) id = IsNoneOfListing dir id
IsNoneOf other id = Unit {0}

-- The core holds what the listing continues with: the ticket of its OPENDIR, or its directory and the ticket of the
-- READDIR in flight.
abbrev pub IsHeld : Core → Stage → Type 0
IsHeld core (stage.Opening call) = (ticket : ℕ) × (call.stage ≡ Asked ticket) × HoldsTicket core ticket expected.Handle
IsHeld core (stage.Reading dir) = IsListing core dir
IsHeld core other = Unit {0}

-- It may take a step.
pub record MayStep (core : Core) (s : Stage) : Type 0 where
  pub opened : IsSome (info_of core.phase)
  pub held : IsHeld core s

-- It has ended.
abbrev pub IsOver : Stage → Type 0
IsOver (stage.Opening call) = ⊥
IsOver (stage.Reading dir) = ⊥
IsOver other = Unit {0}

-- What a listing leaves as it continues: the core holds what it needs next, what others have is still theirs, and the
-- kept fault is the same.
pub record LeavesStage (old : Core) (before : Stage) (new : Core) (after : Stage) : Type 0 where
  pub held : IsHeld new after
  pub spares : SparesOthers old new (IsNoneOf before) (IsNoneOf after)
  pub fault : new.fault ≡ old.fault

-- ---- Steps

-- The reply to a READDIR in flight counts for nothing, the CLOSE is queued, and its reply counts for nothing.
pub record DropsListing (dir : ListingValue) (old new : Core) : Type 0 where
  pub core : Core
  pub call : CallValue Settling
  pub closes : ClosesListing dir old core call
  pub cancels : CancelsAwaited core new call.stage
  pub spares : SparesOthers old new (IsNoneOfListing dir) (λ id. Unit {0})
  pub fault : new.fault ≡ old.fault

-- The OPENDIR has no reply yet; or it was answered, and the directory is open, or the listing failed.
abbrev pub OpensAs : Core → CallValue OpeningDir → Poll (Result GrantValue Error) → Core → Stage → Bool → Type 0
OpensAs mid call Pending new after moved = (new ≡ mid) × (after ≡ stage.Opening call) × (moved ≡ false)
OpensAs mid call (Ready (Ok dir)) new after moved = CancelsAwaited mid new call.stage
    × (after ≡ stage.Reading (fresh_listing dir))
    × (moved ≡ true)
OpensAs mid call (Ready (Err e)) new after moved = CancelsAwaited mid new call.stage
    × (after ≡ stage.Failed (remote_of e))
    × (moved ≡ false)

-- The OPENDIR was polled once.
pub record StepsOpen (old : Core) (call : CallValue OpeningDir) (new : Core) (after : Stage) (moved : Bool) : Type 0
  where
    pub mid : Core
    pub polled : CallValue OpeningDir
    pub answer : Poll (Result GrantValue Error)
    pub polls : StepsByPlan opening_dir old mid call polled answer
    pub is : OpensAs mid polled answer new after moved
    pub leaves : LeavesStage old (stage.Opening call) new after

-- The directory was closed, and no entry was appended.
pub record EndsReading (dir : ListingValue) (old : Core) (entries : List NameEntry) (new : Core)
    (items : List NameEntry) (moved : Bool) : Type 0 where
  pub drops : DropsListing dir old new
  pub same : items ≡ entries
  pub over : moved ≡ false

-- An entry was appended.
pub record AppendsEntry (entry : NameEntry) (dir : ListingValue) (old : Core) (entries : List NameEntry) (new : Core)
    (after : Stage) (items : List NameEntry) (moved : Bool) : Type 0 where
  pub core : new ≡ old
  pub reads : after ≡ stage.Reading dir
  pub last : items ≡ entries ++ entry ∷ []
  pub goes : moved ≡ true

-- The reason why an entry was not appended: there were 1000002, or an allocation failed.
abbrev pub IsUnpushed : List NameEntry → RemoteError → Type 0
IsUnpushed entries remote.TooManyEntries = MAX_LISTED ≤ length entries
IsUnpushed entries remote.OutOfMemory = Unit {0}
IsUnpushed entries other = ⊥

-- An entry was appended, or none.
abbrev pub PushesEntry : NameEntry → List NameEntry → List NameEntry → Result (Unit {0}) RemoteError → Type 0
PushesEntry entry old new (Ok u) = new ≡ old ++ entry ∷ []
PushesEntry entry old new (Err e) = (new ≡ old) × IsUnpushed old e

-- The effect of a result of a poll: an entry is appended; at the end the listing is complete; after an error, or if an
-- entry could not be appended, it has failed.
abbrev pub ReadsAs : Core → ListingValue → ListingAnswer → List NameEntry → Core → Stage → List NameEntry → Bool
    → Type 0
ReadsAs old dir Pending entries new after items moved = (new ≡ old) × (after ≡ stage.Reading dir) × (items ≡ entries)
    × (moved ≡ false)
ReadsAs old dir (Ready None) entries new after items moved = EndsReading dir old entries new items moved
    × (after ≡ stage.Complete)
ReadsAs old dir (Ready (Some (Ok entry))) entries new after items moved =
    AppendsEntry entry dir old entries new after items moved
    ⊎ (EndsReading dir old entries new items moved
    × ((e : RemoteError) × (after ≡ stage.Failed e) × IsUnpushed entries e))
ReadsAs old dir (Ready (Some (Err e))) entries new after items moved = EndsReading dir old entries new items moved
    × (after ≡ stage.Failed (remote_of e))

-- The result of a poll took this effect.
pub record StepsGiven (old : Core) (dir : ListingValue) (given : ListingAnswer) (entries : List NameEntry) (new : Core)
    (after : Stage) (items : List NameEntry) (moved : Bool) : Type 0 where
  pub is : ReadsAs old dir given entries new after items moved
  pub leaves : LeavesStage old (stage.Reading dir) new after

-- The directory was polled once.
pub record PollsRead (old : Core) (dir : ListingValue) (entries : List NameEntry) (new : Core) (after : Stage)
    (items : List NameEntry) (moved : Bool) : Type 0 where
  pub mid : Core
  pub polled : ListingValue
  pub given : ListingAnswer
  pub polls : PollsEntries old mid dir polled given
  pub is : ReadsAs mid polled given entries new after items moved

-- The directory was polled once; or all ids were in use, and it was closed.
pub record StepsRead (old : Core) (dir : ListingValue) (entries : List NameEntry) (new : Core) (after : Stage)
    (items : List NameEntry) (moved : Bool) : Type 0 where
  pub did : PollsRead old dir entries new after items moved
      ⊎ (EndsReading dir old entries new items moved
      × (MAX_IDS ≤ kept_of old)
      × (after ≡ stage.Failed remote.OutOfMemory))
  pub leaves : LeavesStage old (stage.Reading dir) new after

-- One step of a listing. One that has ended is unchanged.
abbrev pub StepsStage : Core → Stage → List NameEntry → Core → Stage → List NameEntry → Bool → Type 0
StepsStage old (stage.Opening call) entries new after items moved = StepsOpen old call new after moved
    × (items ≡ entries)
StepsStage old (stage.Reading dir) entries new after items moved = StepsRead old dir entries new after items moved
StepsStage old other entries new after items moved = (new ≡ old) × (after ≡ other) × (items ≡ entries)
    × (moved ≡ false)

-- ---- Runs

-- A core, how far a listing over it has come, and its entries.
pub record ListingOn : Type 0 where
  pub core : Core
  pub stage : Stage
  pub entries : List NameEntry

abbrev pub listing_on : Core → Listing → ListingOn
listing_on core x = record { core = core; stage = x.stage; entries = x.entries.items }

-- `n` steps, one after another.
abbrev pub TakesSteps : ℕ → ListingOn → ListingOn → Type 0
TakesSteps zero old new = new ≡ old
TakesSteps (suc n) old new = (mid : ListingOn) × (moved : Bool) × TakesSteps n old mid
    × StepsStage mid.core mid.stage mid.entries new.core new.stage new.entries moved

-- A listing took some steps.
pub record RunsListing (old new : ListingOn) : Type 0 where
  pub count : ℕ
  pub steps : TakesSteps count old new
  pub leaves : LeavesStage old.core old.stage new.core new.stage
