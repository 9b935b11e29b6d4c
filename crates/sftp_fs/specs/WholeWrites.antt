-- Whole writes of a path: an OPEN, the content part by part, and the CLOSE.
use Rattle.std.specs.Prelude.{◌≡◌, ◌≢◌, ◌⊎◌, ℕ, Bool, true, false, List, [], Option, Some, None, Result, Ok, Err, IfOk}
use Rattle.sftp_model.specs.declared.error.Error.{Error}
use Rattle.sftp_model.specs.declared.error.Error.TheVariants as error
use Rattle.sftp_model.specs.declared.error.Fault.{Fault}
use Rattle.sftp_model.specs.declared.outcome.Outcome.TheVariants as outcome
use Rattle.sftp_model.specs.declared.slot.Facts.{Facts}
use Rattle.sftp_model.specs.declared.slot.Move.TheVariants.{Done, Wait}
use Rattle.sftp_model.specs.declared.slot.Site.{Site}
use Rattle.plan_model.specs.Moves.{Answers, Own, Plan, handle_of}
use Rattle.plan_model.specs.WholePlans.{fs_write_next}
use Rattle.sftp_core.specs.Core.{Core, core_after_abandon, record_at, core_after_release}
use Rattle.sftp_core.specs.Grant.{GrantValue}
use Rattle.sftp_core.specs.declared.id_record.IdRecord.TheVariants.{Granted}
use Rattle.plan_state.specs.Asked.{IsReady}
use Rattle.plan_state.specs.Calls.{
  AsksAndAwaits,
  CanContinue,
  IfOutOfMemory,
  IsLeft,
  IsNoneOfCall,
  IsUnderWay,
  IsUnfinished,
  TellsReply,
  core_after_cancel,
  grant_brought,
  polled_core,
}
use Rattle.plan_state.specs.Keeping.{KeepsHeld, SparesOthers}
use Rattle.plan_state.specs.declared.poll.Poll.{Poll}
use Rattle.plan_state.specs.declared.poll.Poll.TheVariants.{Pending, Ready}
use Rattle.sftp_file.specs.Files.{facts_of}
use Rattle.sftp_file.specs.Outcomes.{done_outcome}
use Rattle.sftp_fs.specs.Directories.{WithHandle}
use Rattle.sftp_fs.specs.Grants.{grant_meaning}
use Rattle.sftp_fs.specs.Parts.{rest_from, writing_parts}
use Rattle.sftp_fs.specs.declared.fs_write.Writing.{Writing}
use Rattle.sftp_fs.specs.declared.fs_write.Writing.TheVariants as writing

-- The facts that the session fixes, and the stage of the write.
pub record FsWriteValue : Type 0 where
  pub facts : Facts
  pub stage : Writing

-- True if the write has returned its result.
abbrev pub is_over : Writing → Bool
is_over writing.Ended = true
is_over other = false

-- ---- Plans

-- The use of the handle: the content is written from its start.
abbrev pub writes_content : List ℕ → Site → Facts → Answers → WithHandle
writes_content content site facts answers = (site, λ handle later. rest_from 0 content site facts later answers)

-- From here a plan continues as the write does.
abbrev pub IsWriteLeft : Site → Facts → Plan → Answers → Writing → Type 0
IsWriteLeft site facts plan answers writing.Ended = Unit {0}
IsWriteLeft site facts plan answers (writing.Opening call content) =
    IsLeft grant_meaning (writes_content content site facts answers) plan answers call
IsWriteLeft site facts plan answers (writing.Opened grant content) = (handle_of (answers 1) ≡ grant.handle)
    × ((later : Own) → plan later answers ≡ rest_from 0 content site facts later answers)
IsWriteLeft site facts plan answers (writing.Parts grant call) = IsLeft writing_parts site plan answers call

-- The awaited reply is the one that the core has.
abbrev pub WriteTells : Core → Answers → Writing → Type 0
WriteTells core answers (writing.Opening call content) = TellsReply grant_meaning core call answers
WriteTells core answers (writing.Parts grant call) = TellsReply writing_parts core call answers
WriteTells core answers other = Unit {0}

-- ---- Starts

-- The OPEN is under way, and this content is to be written by the facts of the session.
abbrev pub WriteOpens : Site → Plan → Answers → Core → Core → List ℕ → Facts → Writing → Type 0
WriteOpens site plan answers old new content facts (writing.Opening call kept) =
    AsksAndAwaits grant_meaning (writes_content content site facts answers) plan answers old new call
    × (kept ≡ content)
    × (facts ≡ facts_of old)
WriteOpens site plan answers old new content facts other = ⊥

abbrev pub WriteStarted : Site → Plan → Answers → Core → Core → List ℕ → Result FsWriteValue Error → Type 0
WriteStarted site plan answers old new content (Ok q) = WriteOpens site plan answers old new content q.facts q.stage
WriteStarted site plan answers old new content (Err error.OutOfMemory) = new ≡ old
WriteStarted site plan answers old new content (Err (error.BackgroundTaskFailure fault)) = (old.fault ≡ Some fault)
    × (new ≡ old)
    × IsUnfinished (plan [] answers)
WriteStarted site plan answers old new content (Err e) = (plan [] answers ≡ Done (outcome.Refused e) site)
    × (new ≡ old)

-- The core counts one user of a grant.
abbrev pub IsOwned : Core → GrantValue → Type 0
IsOwned core grant = record_at core grant.id ≡ Some (Granted grant.handle 1)

-- The core counts the grant, whose handle the parts carry, and can continue with what is awaited.
abbrev pub IsWriteHeld : Core → Writing → Type 0
IsWriteHeld core writing.Ended = Unit {0}
IsWriteHeld core (writing.Opening call content) = IsUnderWay grant_meaning core call
IsWriteHeld core (writing.Opened grant content) = IsOwned core grant
IsWriteHeld core (writing.Parts grant call) = IsOwned core grant × IsUnderWay writing_parts core call
    × (call.runner.handle ≡ grant.handle)

-- The number is none of the write's: neither its file's, nor that of a reply that it awaits.
abbrev pub IsNoneOfWrite : Writing → ℕ → Type 0
IsNoneOfWrite (writing.Opening call content) id = IsNoneOfCall call.stage id
IsNoneOfWrite (writing.Opened grant content) id = id ≢ grant.id
IsNoneOfWrite (writing.Parts grant call) id = (id ≢ grant.id) × IsNoneOfCall call.stage id
IsNoneOfWrite writing.Ended id = Unit {0}

-- A start made the first move of the plan of a whole write, in each lane with this working directory and for any
-- replies to come. The call that it returned may be polled or given up. The core holds what it held, and no number that
-- was in use is the write's.
pub record WritesFrom (path content cwd : List ℕ) (old new : Core) (result : Result FsWriteValue Error) : Type 0 where
  pub starts : (site : Site) (answers : Answers) → site.directory ≡ cwd
      → WriteStarted site (fs_write_next path content site (facts_of old)) answers old new content result
  pub held : IfOk result (λ q. IsWriteHeld new q.stage)
  pub keeps : KeepsHeld old new
  pub spares : IfOk result (λ q. SparesOthers old new (λ id. Unit {0}) (IsNoneOfWrite q.stage))

-- ---- Polls

-- The core after the awaited reply was polled.
abbrev pub heard_core : Core → Writing → Core
heard_core core (writing.Opening call content) = polled_core core call.stage
heard_core core (writing.Parts grant call) = polled_core core call.stage
heard_core core other = core

-- The core after a grant was closed, with a CLOSE that nobody awaits.
abbrev pub core_after_close : Core → GrantValue → Core
core_after_close core grant = core_after_abandon (core_after_release core grant) grant.id

-- The same, if there is a grant.
abbrev pub closed_if : Core → Option GrantValue → Core
closed_if core None = core
closed_if core (Some grant) = core_after_close core grant

-- The grant of the write: that of its file, or the one that the reply to its OPEN brought.
abbrev pub write_grant : Core → Writing → Option GrantValue
write_grant core (writing.Opening call content) = grant_brought core call.stage
write_grant core (writing.Opened grant content) = Some grant
write_grant core (writing.Parts grant call) = Some grant
write_grant core writing.Ended = None

-- The reply was polled, and the grant of the write closed, if it has one.
abbrev pub FinishesWrite : Core → Core → Writing → Type 0
FinishesWrite old new p = new ≡ closed_if (heard_core old p) (write_grant old p)

-- The WRITE of a part was submitted, and its reply is awaited.
abbrev pub AsksPart : Site → Plan → Answers → Core → Core → Writing → Type 0
AsksPart site plan answers old new (writing.Parts grant call) =
    AsksAndAwaits writing_parts site plan answers old new call
AsksPart site plan answers old new other = ⊥

-- The awaited reply is missing, and nothing changed.
pub record StillWaits (plan : Plan) (answers : Answers) (old new : Core) (p q : Writing) : Type 0 where
  pub place : ℕ
  pub waits : plan [] answers ≡ Wait place
  pub unfailed : old.fault ≡ None
  pub core : new ≡ old
  pub same : q ≡ p

-- The result of a poll of a whole write.
abbrev pub WriteAnswer : Type 0
WriteAnswer = Poll (Result (Unit {0}) Error)

-- A poll made the next move of the plan: it waits, or asks for a part. Or the write is over, with the plan's result, or
-- with a recorded fault if the plan is not at its end. Or an allocation failed, and the write may be polled again: it
-- has the reply that came.
abbrev pub PollsWholeWrite : Site → Facts → Plan → Answers → Core → Core → Writing → Writing → WriteAnswer → Type 0
PollsWholeWrite site facts plan answers old new p q Pending = StillWaits plan answers old new p q
    ⊎ AsksPart site plan answers (heard_core old p) new q
PollsWholeWrite site facts plan answers old new p q (Ready (Err error.OutOfMemory)) =
    IsWriteLeft site facts plan answers q
    × (new ≡ heard_core old p)
    × WriteTells new answers q
PollsWholeWrite site facts plan answers old new p q (Ready (Err (error.BackgroundTaskFailure fault))) =
    ((heard_core old p).fault ≡ Some fault)
    × IsUnfinished (plan [] answers)
    × FinishesWrite old new p
PollsWholeWrite site facts plan answers old new p q (Ready value) = (plan [] answers ≡ Done (done_outcome value) site)
    × FinishesWrite old new p

-- The write is over if it returned a value or an error other than `OutOfMemory`.
abbrev pub IsOverBy : Writing → WriteAnswer → Type 0
IsOverBy stage Pending = is_over stage ≡ false
IsOverBy stage (Ready (Err error.OutOfMemory)) = is_over stage ≡ false
IsOverBy stage (Ready value) = is_over stage ≡ true

-- The write has what it continues with: the reply that it awaits came, or its first part was not asked for.
abbrev pub CanWriteOn : Core → Writing → Type 0
CanWriteOn core (writing.Opening call content) = CanContinue core call.stage
CanWriteOn core (writing.Opened grant content) = Unit {0}
CanWriteOn core (writing.Parts grant call) = CanContinue core call.stage
CanWriteOn core writing.Ended = ⊥

-- A poll made the next move of each plan that the write is what is left of, for any replies to come. The write may be
-- polled further or given up. What others have stays theirs. A missing reply is never reported as out of memory.
pub record WroteOn (facts : Facts) (old new : Core) (p q : Writing) (result : WriteAnswer) : Type 0 where
  pub polled : (site : Site) (plan : Plan) (answers : Answers) → IsWriteLeft site facts plan answers p
      → WriteTells old answers p → PollsWholeWrite site facts plan answers old new p q result
  pub held : IsWriteHeld new q
  pub over : IsOverBy q result
  pub spares : SparesOthers old new (IsNoneOfWrite p) (IsNoneOfWrite q)
  pub memory : IfOutOfMemory result (CanWriteOn old p)

-- The effect of asking for the first part, or for the close of a file without content.
abbrev pub BeginsWholeWrite : Site → Facts → Plan → Answers → Core → Core → GrantValue → Writing → WriteAnswer → Type 0
BeginsWholeWrite site facts plan answers old new grant q Pending = AsksPart site plan answers old new q
BeginsWholeWrite site facts plan answers old new grant q (Ready (Err error.OutOfMemory)) =
    IsWriteLeft site facts plan answers q
    × (new ≡ old)
    × WriteTells new answers q
BeginsWholeWrite site facts plan answers old new grant q (Ready (Err (error.BackgroundTaskFailure fault))) =
    (old.fault ≡ Some fault)
    × IsUnfinished (plan [] answers)
    × (new ≡ core_after_close old grant)
BeginsWholeWrite site facts plan answers old new grant q (Ready value) =
    (plan [] answers ≡ Done (done_outcome value) site)
    × (new ≡ core_after_close old grant)

pub record BeganWrite (facts : Facts) (old new : Core) (grant : GrantValue) (content : List ℕ) (q : Writing)
    (result : WriteAnswer) : Type 0 where
  pub polled : (site : Site) (plan : Plan) (answers : Answers)
      → IsWriteLeft site facts plan answers (writing.Opened grant content)
      → BeginsWholeWrite site facts plan answers old new grant q result
  pub held : IsWriteHeld new q
  pub over : IsOverBy q result
  pub spares : SparesOthers old new (IsNoneOfWrite (writing.Opened grant content)) (IsNoneOfWrite q)

-- A write may be polled: it has not returned its result, and may ask for a part.
pub record MayWrite (core : Core) (p : FsWriteValue) : Type 0 where
  pub over : is_over p.stage ≡ false
  pub held : IsWriteHeld core p.stage
  pub ready : IsReady core

-- The effect of a poll of a write; the facts of its session stay.
pub record PollsWrite (old new : Core) (p q : FsWriteValue) (result : WriteAnswer) : Type 0 where
  pub wrote : WroteOn p.facts old new p.stage q.stage result
  pub facts : q.facts ≡ p.facts

-- ---- Cancels

-- The core after the request under way was dropped and the grant closed.
abbrev pub write_dropped : Core → Writing → Core
write_dropped core writing.Ended = core
write_dropped core (writing.Opening call content) = core_after_cancel core call.stage
write_dropped core (writing.Opened grant content) = core_after_close core grant
write_dropped core (writing.Parts grant call) = core_after_close (core_after_cancel core call.stage) grant

-- The effect of a cancel; what others have stays.
pub record CancelsWrite (old new : Core) (p : Writing) : Type 0 where
  pub core : new ≡ write_dropped old p
  pub spares : SparesOthers old new (IsNoneOfWrite p) (λ id. Unit {0})

-- ---- Facts about parts

-- The recorded fault that an error reports.
abbrev pub fault_told : Error → Option Fault
fault_told (error.BackgroundTaskFailure fault) = Some fault
fault_told other = None

-- A result of the OPEN that leaves it under way: none yet, or out of memory.
abbrev pub IsUnended : Poll (Result GrantValue Error) → Type 0
IsUnended Pending = Unit {0}
IsUnended (Ready (Err error.OutOfMemory)) = Unit {0}
IsUnended other = ⊥

-- The same result as the write's.
abbrev pub write_answer_of : Poll (Result GrantValue Error) → WriteAnswer
write_answer_of Pending = Pending
write_answer_of (Ready (Ok grant)) = Pending
write_answer_of (Ready (Err e)) = Ready (Err e)

-- The first part was not asked for: a recorded fault ends the write; without one it may be polled again.
abbrev pub IsUnbegunBy : Core → Core → GrantValue → List ℕ → Option Fault → WriteAnswer × Writing → Type 0
IsUnbegunBy old new grant content (Some fault) result =
    (result.0 ≡ Ready (Err (error.BackgroundTaskFailure fault)))
    × (result.1 ≡ writing.Ended)
    × (new ≡ core_after_close old grant)
IsUnbegunBy old new grant content None result = (result.0 ≡ Ready (Err error.OutOfMemory))
    × (result.1 ≡ writing.Opened grant content)
    × (new ≡ old)

abbrev pub IsUnbegun : Core → Core → GrantValue → List ℕ → Error → WriteAnswer × Writing → Type 0
IsUnbegun old new grant content e result = IsUnbegunBy old new grant content (fault_told e) result
