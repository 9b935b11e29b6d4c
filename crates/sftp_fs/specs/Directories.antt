-- Open directories and builders of directories, as their users see them.
use Rattle.std.specs.Prelude.{
  ◌≡◌,
  ◌==◌,
  ℕ,
  Bool,
  false,
  List,
  [],
  Some,
  None,
  Result,
  Ok,
  Err,
  if◌then◌else◌,
  refl,
  IfOk,
}
use Rattle.sftp_model.specs.declared.answers.Expected.TheVariants as expected
use Rattle.sftp_model.specs.declared.error.Error.{Error}
use Rattle.sftp_model.specs.declared.file_attrs.FileAttrs.{FileAttrs}
use Rattle.sftp_model.specs.declared.outcome.Outcome.TheVariants as outcome
use Rattle.sftp_model.specs.declared.request.Request.TheVariants as request
use Rattle.sftp_model.specs.declared.slot.Facts.{Facts}
use Rattle.sftp_model.specs.declared.slot.Move.{Move}
use Rattle.sftp_model.specs.declared.slot.Move.TheVariants.{Ask, Done, Wait}
use Rattle.sftp_model.specs.declared.slot.Site.{Site}
use Rattle.plan_model.specs.Moves.{Answers, Own, Plan, ask_path, by_reply, done_by, on_handle, once_answered}
use Rattle.plan_model.specs.PathPlans.{from_directory}
use Rattle.plan_model.specs.WholePlans.{entries_next, list_next, once_opened}
use Rattle.sftp_core.specs.Core.{Core, record_at, release_gives, core_after_release, users_of}
use Rattle.sftp_core.specs.Grant.{GrantValue}
use Rattle.plan_state.specs.declared.submission.Asking.TheVariants.{Whole}
use Rattle.plan_state.specs.declared.stage.Stage.{Stage}
use Rattle.plan_state.specs.declared.stage.Stage.TheVariants.{Ready, Asked}
use Rattle.plan_state.specs.Calls.{CallValue, IsUnderWay, StartsByPlan}
use Rattle.plan_state.specs.Keeping.{KeepsHeld}
use Rattle.plan_state.specs.Runners.{GoesBehind, Meaning}
use Rattle.sftp_file.specs.Closes.{stage_of_close}
use Rattle.sftp_file.specs.Files.{facts_of}
use Rattle.sftp_file.specs.Settles.{settle_meaning}
use Rattle.sftp_file.specs.declared.short_calls.Settling.{Settling}
use Rattle.sftp_fs.specs.declared.directory.OpeningDir.{OpeningDir}

-- ---- Opens

-- The plan of a call that opens a directory and continues with its handle in some way.
abbrev pub open_dir_next : List ℕ → (List ℕ → Plan) → Site → Facts → Plan
open_dir_next path go site facts =
    once_opened (ask_path (request.Opendir (from_directory site path)) site) site (λ place handle. go handle)

-- A listing of a lane is such a call.
pub list_opens : (path : List ℕ) (bound : ℕ) (site : Site) (facts : Facts)
    → list_next path bound site facts ≡ open_dir_next path (λ handle. entries_next handle [] bound site) site facts
list_opens path bound site facts = refl

-- A lane, and what is done there with the handle.
abbrev pub WithHandle : Type 0
WithHandle = Site × (List ℕ → Own → Move)

-- The plan that is left of an open of a directory: it continues with the handle that its HANDLE brings.
abbrev pub granted_left : WithHandle → Plan
granted_left w later answers =
    once_answered 1 (answers 1) (λ r. on_handle r w.0 (λ handle. w.1 handle later))

-- The move that ends the open: it continues with the directory's handle, or the call is refused.
abbrev pub granted_ended : WithHandle → Result GrantValue Error → Move
granted_ended w (Ok dir) = w.1 dir.handle []
granted_ended w (Err e) = Done (outcome.Refused e) w.0

-- The meaning of an open of a directory, in any lane and for any use of the handle. The grant that came is the
-- directory's.
abbrev pub opening_dir : Meaning WithHandle OpeningDir GrantValue
opening_dir =
    record {
      left = λ w m. granted_left w;
      place = λ m. 1;
      expected = λ m. expected.Handle;
      cut = λ m asking. Unit {0};
      ended = λ w m. granted_ended w;
      known = λ m answers. Unit {0};
      stays = λ m next. Unit {0};
      ready = λ m. ⊥;
      first = λ w m. Wait 1;
      again = false;
      grant = λ dir. Some dir;
    }

pub granted_waits : (w : WithHandle) (m : OpeningDir) (later : Own) (answers : Answers) → answers 1 ≡ None
    → granted_left w later answers ≡ Wait 1
granted_waits w m later answers none = rw none refl

-- A start made the first move of the plan of an open. This holds in each lane with this working directory, for any use
-- of the handle and any replies to come.
pub record OpensFrom (path cwd : List ℕ) (old new : Core) (result : Result (CallValue OpeningDir) Error) : Type 0 where
  pub starts : (site : Site) (go : List ℕ → Plan) (answers : Answers) → site.directory ≡ cwd
      → StartsByPlan opening_dir (site, λ handle later. go handle later answers) (λ e. Done (outcome.Refused e) site)
      (open_dir_next path go site (facts_of old)) answers old new result
  pub under_way : IfOk result (IsUnderWay opening_dir new)
  pub keeps : KeepsHeld old new

-- ---- Closes

-- The plan of a close: the last user asks for the CLOSE, and any other has ended.
abbrev pub close_dir_next : Bool → List ℕ → Site → Plan
close_dir_next last handle site =
    by_reply (if last then Ask (request.Close handle) else Done outcome.Done site) (done_by site)

-- True if that plan continues as the call: after the CLOSE, or it has ended.
abbrev pub ClosesBy : List ℕ → Site → Plan → Answers → Settling → Stage → Type 0
ClosesBy handle site plan answers m (Asked ticket) = GoesBehind settle_meaning site plan answers
    (Whole (request.Close handle)) m
ClosesBy handle site plan answers m Ready = plan [] answers ≡ Done outcome.Done site
ClosesBy handle site plan answers m other = ⊥

-- The grant was released, so that its last user sends the CLOSE. This is the first move of the close's plan.
pub record ClosesDir (dir : GrantValue) (old new : Core) (call : CallValue Settling) : Type 0 where
  pub awaits : call.stage ≡ stage_of_close (release_gives dir (users_of (record_at old dir.id)))
  pub core : new ≡ core_after_release old dir
  pub under_way : IsUnderWay settle_meaning new call
  pub starts : (site : Site) (answers : Answers) → ClosesBy dir.handle site
      (close_dir_next (users_of (record_at old dir.id) == 1) dir.handle site) answers call.runner call.stage

-- ---- Builders

-- A builder: the working directory, and the attributes for the directories that it creates.
pub record BuilderValue : Type 0 where
  pub cwd : List ℕ
  pub attrs : FileAttrs
