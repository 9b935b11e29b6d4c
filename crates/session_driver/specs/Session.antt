-- believed: SessionInputs, SessionView, IsLater, IsFixed, TakesLimitsReply, HasTakenLimits, IsGreeted, queried_with,
--   IsQueried, TakesAndSettles, HandsOut
-- Contracts of each call of a session that runs lanes, in terms of its journal.
use Rattle.std.specs.Prelude.{
  ◌≡◌,
  ◌≢◌,
  ◌<◌,
  ◌≤◌,
  ◌⊎◌,
  ℕ,
  Bool,
  true,
  false,
  ◌&&◌,
  List,
  [],
  ◌∷◌,
  Option,
  Some,
  None,
  Result,
  Ok,
  nat_lt,
  is_some,
  length,
  MatchBool,
}
use Rattle.sftp_model.specs.declared.options.SftpOptions.{SftpOptions}
use Rattle.sftp_model.specs.declared.flags.Extensions.{Extensions}
use Rattle.sftp_model.specs.declared.frame_error.FrameError.{FrameError}
use Rattle.sftp_model.specs.declared.reply.Reply.{Reply}
use Rattle.sftp_model.specs.declared.request.Request.TheVariants as request
use Rattle.sftp_core.specs.declared.errors.TakeError.{TakeError}
use Rattle.sftp_model.specs.declared.slot.Move.{Move}
use Rattle.sftp_model.specs.declared.slot.Move.TheVariants.{Ask, Wait, Done}
use Rattle.plan_model.specs.declared.call.Lane.{Lane}
use Rattle.session_model.specs.declared.event.Owner.TheVariants as owner
use Rattle.session_model.specs.declared.event.Event.TheVariants.{Submit, Send, Take, Cancel, End}
use Rattle.session_model.specs.declared.entry.Entry.{Entry}
use Rattle.session_model.specs.declared.entry.Entry.TheVariants as entry
use Rattle.session_model.specs.Readings.{count_submitted, count_sent, count_ended, count_unanswered, unsent_bytes}
use Rattle.session_model.specs.Calls.{Setting, current}
use Rattle.session_model.specs.Settings.{version_reply_of, setting_of}
use Rattle.sftp_model.specs.Lengths.{offers_limits}
use Rattle.session_model.specs.Grants.{next_due}
use Rattle.session_model.specs.Journals.{IsNext, IsFree, MayTake, cancelled_end}
use Rattle.session_model.specs.Runs.{OpensSession, at_first}
use Rattle.session_model.specs.Turns.{RunProgress, SettlesTo, begun_with, begun_but}
use Rattle.session_driver.specs.Refusals.{NotesRefusal}
use Rattle.session_driver.specs.declared.session.Phase.{Phase}
use Rattle.session_driver.specs.declared.session.Phase.TheVariants.{Fresh, Greeted, Asking, Queried, Open}
use Rattle.session_driver.specs.declared.session.Stepped.{Stepped}
use Rattle.session_driver.specs.declared.session.Stepped.TheVariants as stepped

-- The lanes and options that a session was made of.
pub record SessionInputs : Type 0 where
  pub lanes : List Lane
  pub options : SftpOptions

-- The view of a session: the lanes and options that it was made of, its setting, the phase of its opening, the server's
-- VERSION once it was taken, its journal with the started lanes, and the work that is left (each event makes it less).
pub record SessionView : Type 0 where
  pub given : SessionInputs
  pub setting : Setting
  pub phase : Phase
  pub version : Option Reply
  pub progress : RunProgress
  pub work : ℕ

-- The progress if nothing has happened.
abbrev pub at_rest : RunProgress
at_rest = at_first []

-- A session with its hello in the queue.
pub record IsFresh (now : SessionView) : Type 0 where
  pub fresh : now.phase ≡ Fresh
  pub rest : now.progress ≡ at_rest

-- ---- Continuations of journals

-- The journal `now` is `before`, followed by entries each of which might come next.
abbrev pub IsLater : Setting → List Entry → List Entry → Type 0
IsLater s before [] = before ≡ []
IsLater s before (e ∷ past) = (before ≡ e ∷ past) ⊎ (IsNext s past e × IsLater s before past)

-- ---- Opening

-- VERSION was read: the query for limits is in the journal if the server offers to report them.
abbrev pub BeginsWithQuery : Bool → Phase → List Entry → Type 0
BeginsWithQuery false phase past = (phase ≡ Open) × (past ≡ [])
BeginsWithQuery true phase past = (phase ≡ Asking) × ((id : ℕ) × (IsFree [] id
    × (past ≡ entry.Event (Submit owner.Setup id request.LimitsQuery) ∷ [])))

-- The setting is the one that the lanes, the options, VERSION and the limits fix.
abbrev pub IsFixed : SessionInputs → Option Reply → List Entry → Setting → Type 0
IsFixed given version past s = (extensions : Extensions) × ((version ≡ Some (version_reply_of extensions))
    × (s ≡ setting_of given.lanes given.options extensions past))

-- The journal is a run so far, and the setting is fixed.
abbrev pub IsSoFar : SessionInputs → Option Reply → Setting → List Entry → Type 0
IsSoFar given version s past = IsLater s [] past × IsFixed given version past s

-- VERSION 3 was taken, and the session continues by what it offers.
pub record IsWelcomed (given : SessionInputs) (asks : Bool) (now : SessionView) : Type 0 where
  pub extensions : Extensions
  pub told : now.version ≡ Some (version_reply_of extensions)
  pub asked : asks ≡ offers_limits extensions
  pub begins : BeginsWithQuery asks now.phase now.progress.past
  pub begun : now.progress.begun ≡ at_rest.begun
  pub later : IsLater now.setting [] now.progress.past
  pub fixed : IsFixed given now.version now.progress.past now.setting
  pub same : now.given ≡ given

-- A body is VERSION 3, and it was taken.
pub record HasTakenVersion (body_reads : Result (Option ℕ × Reply) FrameError) (given : SessionInputs) (asks : Bool)
    (now : SessionView) : Type
    0 where
  pub welcomed : IsWelcomed given asks now
  pub reads : body_reads ≡ Ok (None, version_reply_of welcomed.extensions)

-- A body is the reply to the query for limits, and the session uses it.
abbrev pub TakesLimitsReply : Result (Option ℕ × Reply) FrameError → List Entry → List Entry → Type 0
TakesLimitsReply body_reads before now =
    (id : ℕ) × ((r : Reply) × ((body_reads ≡ Ok (Some id, r)) × MayTake before id r
    × (now ≡ entry.Event (Take id r) ∷ before)))

-- The session was opened.
pub record IsOpened (given : SessionInputs) (now : SessionView) : Type 0 where
  pub same : now.given ≡ given
  pub fixed : IsFixed given now.version now.progress.past now.setting
  pub opens : OpensSession now.setting.limits now.progress.past
  pub later : IsLater now.setting [] now.progress.past
  pub is_open : now.phase ≡ Open
  pub begun : now.progress.begun ≡ at_rest.begun

-- The limits were asked for, and the session was opened.
pub record OpensOn (before now : SessionView) : Type 0 where
  pub opened : IsOpened before.given now
  pub version : now.version ≡ before.version

-- A body is the reply to the query for limits, it was taken, and the session uses it.
pub record HasTakenLimits (body_reads : Result (Option ℕ × Reply) FrameError) (before now : SessionView) : Type 0 where
  pub tells : TakesLimitsReply body_reads before.progress.past now.progress.past
  pub is_open : now.phase ≡ Open
  pub begun : now.progress.begun ≡ before.progress.begun
  pub later : IsLater now.setting [] now.progress.past
  pub fixed : IsFixed now.given now.version now.progress.past now.setting

-- The hello was handed out.
abbrev pub IsGreeted : SessionView → SessionView → Type 0
IsGreeted before now = now ≡ record before { phase = Greeted; work = now.work }

-- The session after the query for limits was handed out, with this work left.
abbrev pub queried_with : SessionView → ℕ → SessionView
queried_with before work = record before {
  phase = Queried;
  progress =
      record { past = entry.Event Send ∷ before.progress.past; begun = before.progress.begun };
  work = work;
}

abbrev pub IsQueried : SessionView → SessionView → Type 0
IsQueried before now = now ≡ queried_with before now.work

-- The lanes and options of the session, its setting, and VERSION are as they were, also after a refusal.
abbrev pub KeepsMade : SessionView → SessionView → Type 0
KeepsMade before now = now ≡ record before { phase = now.phase; progress = now.progress; work = now.work }

-- A call failed because an allocation failed: the journal is also as before.
pub record IsUnmoved (before now : SessionView) : Type 0 where
  pub holds : KeepsMade before now
  pub past : now.progress.past ≡ before.progress.past

-- A frame was refused: the journal is as before, or has the fault that was recorded.
pub record HasRefused (e : TakeError) (before now : SessionView) : Type 0 where
  pub holds : KeepsMade before now
  pub past : NotesRefusal e before.progress.past now.progress.past

-- Only the journal continued, and the work that is left may be less.
abbrev pub StaysInPhase : SessionView → SessionView → Type 0
StaysInPhase before now = now ≡ record before { progress = now.progress; work = now.work }

-- Only the journal continued, by entries that may come next.
pub record ContinuesJournal (before now : SessionView) : Type 0 where
  pub stays : StaysInPhase before now
  pub later : IsLater before.setting before.progress.past now.progress.past

-- ---- Calls of an open session

-- One step of a lane, its kind, and the CLOSEs that are due then.
abbrev pub StepsTo : Setting → ℕ → RunProgress → RunProgress → Option Move → Stepped → Type 0
StepsTo s lane before now None event = (event ≡ stepped.Nothing) × (now ≡ before)
StepsTo s lane before now (Some (Wait place)) event = (event ≡ stepped.Nothing)
    × (now ≡ record { past = before.past; begun = begun_with before.begun lane })
StepsTo s lane before now (Some (Ask r)) event =
    (event ≡ stepped.Submitted) × (now.begun ≡ begun_with before.begun lane)
    × ((id : ℕ) × (IsFree before.past id × SettlesTo s (entry.Event
    (Submit (owner.Call lane (count_ended before.past lane)) id r) ∷ before.past) now.past))
StepsTo s lane before now (Some (Done o site)) event =
    (event ≡ stepped.Ended) × (now.begun ≡ begun_but before.begun lane)
    × SettlesTo s (entry.Event (End lane (count_ended before.past lane) o) ∷ before.past) now.past

-- The call of a started lane is cancelled, and the CLOSEs that are due then.
abbrev pub CancelsCall : Setting → ℕ → RunProgress → RunProgress → Bool → Type 0
CancelsCall s lane before now event =
    MatchBool (is_some (current s before.past lane) && before.begun lane)
    ((event ≡ true) × (now.begun ≡ begun_but before.begun lane)
    × SettlesTo s (cancelled_end (entry.Event (Cancel lane) ∷ before.past) lane ∷ entry.Event (Cancel lane) ∷
    before.past) now.past)
    ((event ≡ false) × (now ≡ before))

-- An existing lane is released, and the CLOSEs that are due then.
abbrev pub LetsGo : Setting → ℕ → RunProgress → RunProgress → Type 0
LetsGo s lane before now =
    MatchBool (nat_lt lane (length s.lanes)) ((now.begun ≡ before.begun)
    × SettlesTo s (entry.LetGo lane ∷ before.past) now.past) (now ≡ before)

-- A body is a reply that may be taken, it is taken, and the CLOSEs that are due then.
abbrev pub TakesAndSettles : Setting → Result (Option ℕ × Reply) FrameError → RunProgress → RunProgress → Type 0
TakesAndSettles s body_reads before now =
    (id : ℕ) × ((r : Reply)
    × ((body_reads ≡ Ok (Some id, r)) × MayTake before.past id r × (now.begun ≡ before.begun)
    × SettlesTo s (entry.Event (Take id r) ∷ before.past) now.past))

-- The unsent requests were handed out, if there are any.
abbrev pub HandsOut : Setting → RunProgress → Option (List ℕ) → RunProgress → Type 0
HandsOut s before None now = (nat_lt (count_sent before.past) (count_submitted before.past) ≡ false) × (now ≡ before)
HandsOut s before (Some bytes) now =
    (nat_lt (count_sent before.past) (count_submitted before.past) ≡ true) × (bytes ≡ unsent_bytes before.past)
    × (now ≡ record { past = entry.Event Send ∷ before.past; begun = before.begun })
    × (next_due s (entry.Event Send ∷ before.past) ≡ None)
    × IsNext s before.past (entry.Event Send)

-- True if a step moved a lane; false if there was nothing to do.
abbrev pub is_event : Stepped → Bool
is_event stepped.Nothing = false
is_event stepped.Submitted = true
is_event stepped.Ended = true

-- An event makes the work that is left less, and nothing makes it more.
abbrev pub LessBy : Bool → ℕ → ℕ → Type 0
LessBy true before now = now < before
LessBy false before now = now ≤ before

-- The unsent requests were sent, if there are any.
abbrev pub SendsUnsent : Setting → RunProgress → RunProgress → Type 0
SendsUnsent s before now =
    MatchBool (nat_lt (count_sent before.past) (count_submitted before.past))
    ((now ≡ record { past = entry.Event Send ∷ before.past; begun = before.begun })
    × (next_due s (entry.Event Send ∷ before.past) ≡ None))
    (now ≡ before)

-- A lane was moved, or it has no call left, or something is unanswered.
abbrev pub MovesLane : ℕ → SessionView → SessionView → Type 0
MovesLane lane before now =
    (now.work < before.work) ⊎ ((now.work ≤ before.work) × (current before.setting before.progress.past lane ≢ None
    → 0 < count_unanswered now.progress.past))
