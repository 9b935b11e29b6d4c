-- Closes of files.
use Rattle.std.specs.Prelude.{◌≡◌, ◌==◌, ℕ, not, Option, Some, None}
use Rattle.sftp_model.specs.declared.request.Request.TheVariants as request
use Rattle.sftp_model.specs.declared.slot.Facts.{Facts}
use Rattle.sftp_model.specs.declared.slot.Site.{Site}
use Rattle.sftp_model.specs.declared.slot.Slot.TheVariants as slots
use Rattle.sftp_model.specs.Slots.{has_grant, with_slot}
use Rattle.plan_model.specs.FilePlans.{close_next}
use Rattle.plan_model.specs.Moves.{Answers, Plan}
use Rattle.sftp_core.specs.Core.{Core, record_at, release_gives, core_after_release, users_of}
use Rattle.plan_state.specs.declared.submission.Asking.TheVariants.{Whole}
use Rattle.plan_state.specs.declared.stage.Stage.{Stage}
use Rattle.plan_state.specs.declared.stage.Stage.TheVariants.{Ready, Asked}
use Rattle.plan_state.specs.Calls.{CallValue, IsLeftAt, IsUnderWay}
use Rattle.plan_state.specs.Runners.{GoesBehind}
use Rattle.sftp_file.specs.declared.short_calls.Settling.{Settling}
use Rattle.sftp_file.specs.Files.{FileValue, IsInSlot}
use Rattle.sftp_file.specs.Settles.{settle_meaning}

-- The stage of a call that released a file: it awaits the reply to the CLOSE if one was asked, and is ready otherwise.
abbrev pub stage_of_close : Option ℕ → Stage
stage_of_close None = Ready
stage_of_close (Some ticket) = Asked ticket

-- True if the plan asks for the CLOSE of this file and continues as the call, or has ended.
abbrev pub ClosesBy : FileValue → Site → Plan → Answers → Settling → Stage → Type 0
ClosesBy f site plan answers m (Asked ticket) = GoesBehind settle_meaning site plan answers
    (Whole (request.Close f.grant.handle)) m
ClosesBy f site plan answers m Ready = IsLeftAt settle_meaning site plan answers m Ready
ClosesBy f site plan answers m other = ⊥

-- The grant was released, so that its last user sends the CLOSE. This is the plan's first move in a lane with a slot
-- that holds the file, if others hold it exactly when it has other users.
pub record ReleasesFile (f : FileValue) (old new : Core) (call : CallValue Settling) : Type 0 where
  pub awaits : call.stage ≡ stage_of_close (release_gives f.grant (users_of (record_at old f.grant.id)))
  pub core : new ≡ core_after_release old f.grant
  pub under_way : IsUnderWay settle_meaning new call
  pub starts : (slot place : ℕ) (site : Site) (facts : Facts) (answers : Answers) → IsInSlot f slot place site answers
      → has_grant (with_slot site slot slots.Empty) place ≡ not (users_of (record_at old f.grant.id) == 1)
      → ClosesBy f (with_slot site slot slots.Empty) (close_next slot site facts) answers call.runner call.stage
