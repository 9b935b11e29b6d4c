-- How directories are opened and closed, by their plans.
use Rattle.std.proofs.Common.{◌≡◌, ◌==◌, ◌-◌, ◌∙◌, refl, sym, ap, subst, ℕ, Bool, true, false, List, Option, Some, None, Result, if◌then◌else◌}
use Rattle.sftp_model.specs.Paths.{joined_path}
use Rattle.sftp_model.specs.declared.answers.Expected.TheVariants as expected
use Rattle.sftp_model.specs.declared.error.Error.{Error}
use Rattle.sftp_model.specs.declared.request.Request.TheVariants as request
use Rattle.sftp_model.specs.declared.slot.Site.{Site}
use Rattle.plan_model.specs.Moves.{Answers, ask_path}
use Rattle.sftp_core.specs.Core.{Core, record_at, queued_last, release_gives, release_leaves, core_after_release, users_of, with_record}
use Rattle.sftp_core.specs.Grant.{GrantValue}
use Rattle.sftp_core.specs.declared.id_record.IdRecord.TheVariants.{Granted, Waiting}
use Rattle.sftp_core.proofs.Elsewhere.{put_here}
use Rattle.plan_state.specs.declared.stage.Stage.{Stage}
use Rattle.plan_state.specs.Calls.{CallValue, IsHeldAt, IsUnderWay}
use Rattle.plan_state.proofs.Keeping.{holds_at}
use Rattle.sftp_file.specs.Closes.{stage_of_close}
use Rattle.sftp_file.specs.Files.{facts_of}
use Rattle.sftp_file.specs.Settles.{settle_meaning}
use Rattle.sftp_file.specs.declared.short_calls.Settling.{Settling}
use Rattle.sftp_fs.specs.Directories.{ClosesBy, ClosesDir, OpensFrom, close_dir_next, open_dir_next, opening_dir}
use Rattle.sftp_fs.specs.PathStarts.{AsksFirst}
use Rattle.sftp_fs.specs.declared.directory.OpeningDir.{OpeningDir}

-- ---- opened

pub opens_from : (path cwd named : List ℕ) (m : OpeningDir) (old new : Core)
    (result : Result (CallValue OpeningDir) Error)
    → named ≡ joined_path cwd path → AsksFirst opening_dir (request.Opendir named) m old new result
    → OpensFrom path cwd old new result
opens_from path cwd named m old new result is h =
    record {
      starts = λ site go answers here. h.starts (site, λ handle later. go handle later answers) site
          (open_dir_next path go site (facts_of old)) answers
          (record {
            first = ap (λ (d : List ℕ). ask_path (request.Opendir (joined_path d path)) site) here
                ∙ ap (λ (p : List ℕ). ask_path (request.Opendir p) site) (sym is);
            rest = λ later. refl;
            knows = tt;
          });
      under_way = h.under_way;
      keeps = h.keeps;
    }

-- ---- closed

closes_with : (b : Bool) (dir : GrantValue) (old new : Core) (call : CallValue Settling)
    → (users_of (record_at old dir.id) == 1) ≡ b
    → call.stage ≡ stage_of_close (if b then Some dir.id else None)
    → new ≡ (if b then queued_last old dir.id (request.Close dir.handle) true else new)
    → IsUnderWay settle_meaning new call × ((site : Site) (answers : Answers)
    → ClosesBy dir.handle site (close_dir_next b dir.handle site) answers call.runner call.stage)
closes_with true dir old new call is stage queued = (
  record {
    over = rw stage refl;
    held = subst (λ (x : Stage). IsHeldAt settle_meaning new call.runner x) (sym stage)
        (holds_at new dir.id expected.Status (Some (Waiting expected.Status false true))
        (ap (λ (c : Core). record_at c dir.id) queued ∙ put_here old.table dir.id (Waiting expected.Status false true))
        refl refl);
  },
  λ site answers. subst (λ (x : Stage). ClosesBy dir.handle site (close_dir_next true dir.handle site) answers
      call.runner x)
      (sym stage) (record { asks = refl; rest = λ later. refl; knows = tt }),
)
closes_with false dir old new call is stage same = (
  record {
    over = rw stage refl;
    held = subst (λ (x : Stage). IsHeldAt settle_meaning new call.runner x) (sym stage) tt;
  },
  λ site answers. subst (λ (x : Stage). ClosesBy dir.handle site (close_dir_next false dir.handle site) answers
      call.runner x)
      (sym stage) refl,
)

released_by : (b : Bool) (old new : Core) (g : GrantValue) (users : ℕ) → (users == 1) ≡ b → new
    ≡ release_leaves old g users
    → new ≡ (if b then queued_last old g.id (request.Close g.handle) true else new)
released_by true old new g users is after = after ∙ ap (λ (b : Bool). if b then
    queued_last old g.id (request.Close g.handle) true else with_record old g.id (Granted g.handle (users - 1))) is
released_by false old new g users is after = refl

pub closes_by : (dir : GrantValue) (old new : Core) (call : CallValue Settling) (given : Option ℕ)
    → given ≡ release_gives dir (users_of (record_at old dir.id)) → new ≡ core_after_release old dir → call.stage
    ≡ stage_of_close given → ClosesDir dir old new call
closes_by dir old new call given gives after stage =
    let awaits : call.stage ≡ stage_of_close (release_gives dir (users_of (record_at old dir.id))) = stage
    ∙ ap stage_of_close gives in
    let both = closes_with (users_of (record_at old dir.id) == 1) dir old new call refl awaits
    (released_by (users_of (record_at old dir.id) == 1) old new dir (users_of (record_at old dir.id)) refl after) in
    record { awaits = awaits; core = after; under_way = both.0; starts = both.1 }
