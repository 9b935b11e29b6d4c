-- Sizes of files, many of which are asked for before the first is reported.
use Rattle.std.specs.Prelude.{◌≡◌, ◌⊎◌, ℕ, List, [], ◌∷◌, ◌++◌, Option, None, Ok}
use Rattle.sftp_model.specs.declared.answers.Expected.TheVariants as expected
use Rattle.sftp_model.specs.declared.file_attrs.FileAttrs.{FileAttrs}
use Rattle.plan_model.specs.PathPlans.{stat_next}
use Rattle.sftp_core.specs.Core.{Core, record_at}
use Rattle.sftp_link.specs.Views.{LinkView}
use Rattle.plan_state.specs.declared.poll.Poll.TheVariants.{Pending, Ready}
use Rattle.plan_state.specs.declared.stage.Stage.{Stage}
use Rattle.plan_state.specs.declared.stage.Stage.TheVariants.{Asked}
use Rattle.plan_state.specs.Asked.{HoldsTicket}
use Rattle.plan_state.specs.Calls.{CallValue, IsNotOf, StepsByPlan}
use Rattle.sftp_file.specs.declared.short_calls.Telling.{Telling}
use Rattle.sftp_file.specs.Tells.{attrs_meaning}
use Rattle.sftp_fs.specs.PathStarts.{StartsFrom}
use Rattle.sftp_client.specs.Sessions.{SftpValue, with_core}
use Rattle.sftp_client.specs.Waits.{SendsAndTakes}
use Rattle.sftp_client.specs.Calls.{IsUsable}
use Rattle.example_client.specs.Progress.{ReachesBySteps}

-- ---- Calls in flight

-- A call awaits this ticket, which the core counts.
pub record IsAwaiting (core : Core) (call : CallValue Telling) (ticket : ℕ) : Type 0 where
  pub awaits : call.stage ≡ Asked ticket
  pub holds : HoldsTicket core ticket expected.Attrs

-- None of these calls awaits the ticket that a stage awaits.
abbrev pub AwaitOthers : Stage → List (CallValue Telling) → Type 0
AwaitOthers stage [] = Unit {0}
AwaitOthers stage (call ∷ later) = ((ticket : ℕ) → stage ≡ Asked ticket → IsNotOf call.stage ticket)
    × AwaitOthers stage later

-- Each of these calls awaits a ticket of its own.
abbrev pub AreCallsAwaited : Core → List (CallValue Telling) → Type 0
AreCallsAwaited core [] = Unit {0}
AreCallsAwaited core (call ∷ later) = (ticket : ℕ) × (IsAwaiting core call ticket
    × (AwaitOthers call.stage later × AreCallsAwaited core later))

-- The calls are in flight, and the session can continue.
pub record AreCallsUnderWay {L S : Type 0} (state : L → LinkView S) (s : SftpValue L) (calls : List
    (CallValue Telling)) :
    Type 0 where
  pub usable : IsUsable state s
  pub awaited : AreCallsAwaited s.core calls

-- ---- Steps

-- The STAT of a path was queued under a ticket of its own.
pub record IsAsked {L : Type 0} (path : List ℕ) (old new : SftpValue L) (call : CallValue Telling) : Type 0 where
  pub starts : StartsFrom attrs_meaning (stat_next path) [] old.core new.core (Ok call)
  pub ticket : ℕ
  pub awaiting : IsAwaiting new.core call ticket
  pub free : record_at old.core ticket ≡ None
  pub left : new ≡ with_core old new.core

-- The progress of a program: its session, the paths still to ask for, the calls in flight, oldest first, and the sizes
-- that were reported.
pub record SizesProgress (L : Type 0) : Type 0 where
  pub sftp : SftpValue L
  pub paths : List (List ℕ)
  pub calls : List (CallValue Telling)
  pub sizes : List (Option ℕ)

abbrev pub sizes_progress_of : {L : Type 0} → SftpValue L → List (List ℕ) → List (CallValue Telling) → List (Option ℕ)
    → SizesProgress L
sizes_progress_of sftp paths calls sizes = record { sftp = sftp; paths = paths; calls = calls; sizes = sizes }

-- The next path is asked for, and its call is the youngest.
pub record AsksNextPath {L : Type 0} (old new : SizesProgress L) : Type 0 where
  pub path : List ℕ
  pub call : CallValue Telling
  pub asks : IsAsked path old.sftp new.sftp call
  pub next : old.paths ≡ path ∷ new.paths
  pub last : new.calls ≡ old.calls ++ call ∷ []
  pub sizes : new.sizes ≡ old.sizes

-- The oldest call is answered with the attributes of its file, whose size is reported next.
pub record TellsFirst {L : Type 0} (old new : SizesProgress L) : Type 0 where
  pub call : CallValue Telling
  pub ended : CallValue Telling
  pub attrs : FileAttrs
  pub polls : StepsByPlan attrs_meaning old.sftp.core new.sftp.core call ended (Ready (Ok attrs))
  pub left : new.sftp ≡ with_core old.sftp new.sftp.core
  pub first : old.calls ≡ call ∷ new.calls
  pub last : new.sizes ≡ old.sizes ++ attrs.size ∷ []
  pub paths : new.paths ≡ old.paths

-- The oldest call has no answer yet.
pub record AwaitsFirst {L : Type 0} (old new : SizesProgress L) : Type 0 where
  pub call : CallValue Telling
  pub after : CallValue Telling
  pub later : List (CallValue Telling)
  pub polls : StepsByPlan attrs_meaning old.sftp.core new.sftp.core call after Pending
  pub left : new.sftp ≡ with_core old.sftp new.sftp.core
  pub was : old.calls ≡ call ∷ later
  pub is : new ≡ sizes_progress_of new.sftp old.paths (after ∷ later) old.sizes

-- The queued frames are sent, and then a frame is taken.
pub record GoesRound {L S : Type 0} (state : L → LinkView S) (old new : SizesProgress L) : Type 0 where
  pub round : SendsAndTakes state old.sftp new.sftp
  pub is : new ≡ record old { sftp = new.sftp }

abbrev pub IsStep : {L S : Type 0} → (L → LinkView S) → SizesProgress L → SizesProgress L → Type 0
IsStep state old new = (AsksNextPath old new ⊎ TellsFirst old new) ⊎ (AwaitsFirst old new ⊎ GoesRound state old new)

abbrev pub GoesBySteps : {L S : Type 0} → (L → LinkView S) → SizesProgress L → SizesProgress L → Type 0
GoesBySteps state old new = ReachesBySteps (IsStep state) old new

-- Each path was asked for, in order. Each size was reported, in the same order, by the attributes that answered the
-- call of its path.
abbrev pub AreSizes : {L S : Type 0} → List (List ℕ) → (L → LinkView S) → SftpValue L → SftpValue L → List (Option ℕ)
    → Type 0
AreSizes paths state old new sizes = GoesBySteps state (sizes_progress_of old paths [] [])
    (sizes_progress_of new [] [] sizes)
