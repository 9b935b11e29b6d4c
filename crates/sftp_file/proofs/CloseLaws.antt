-- How a close begins.
use Rattle.std.proofs.Common.{◌≡◌, ◌==◌, ◌-◌, ◌∙◌, refl, sym, ap, subst, ℕ, Bool, true, false, List, [], ◌∷◌, Option, Some, None, if◌then◌else◌}
use Rattle.std.specs.Prelude.{not}
use Rattle.sftp_model.specs.declared.answers.Expected.TheVariants as expected
use Rattle.sftp_model.specs.declared.outcome.Outcome.TheVariants as outcome
use Rattle.sftp_model.specs.declared.request.Request.TheVariants as request
use Rattle.sftp_model.specs.declared.slot.Facts.{Facts}
use Rattle.sftp_model.specs.declared.slot.Move.{Move}
use Rattle.sftp_model.specs.declared.slot.Move.TheVariants.{Ask, Done}
use Rattle.sftp_model.specs.declared.slot.Site.{Site}
use Rattle.sftp_model.specs.declared.slot.Slot.{Slot}
use Rattle.sftp_model.specs.declared.slot.Slot.TheVariants as slots
use Rattle.sftp_model.specs.Slots.{has_grant, with_slot}
use Rattle.plan_model.specs.FilePlans.{close_next, close_slot_next}
use Rattle.plan_model.specs.Moves.{Answers, handle_of}
use Rattle.sftp_core.specs.declared.id_record.IdRecord.TheVariants.{Granted, Waiting}
use Rattle.sftp_core.specs.Core.{Core, record_at, queued_last, release_gives, release_leaves, core_after_release, users_of, with_record}
use Rattle.sftp_core.specs.Grant.{GrantValue}
use Rattle.sftp_core.proofs.Elsewhere.{put_here}
use Rattle.plan_state.specs.declared.submission.Asking.TheVariants.{Whole}
use Rattle.plan_state.specs.declared.stage.Stage.{Stage}
use Rattle.plan_state.specs.Calls.{CallValue, IsHeldAt, IsUnderWay}
use Rattle.plan_state.specs.Runners.{GoesBehind}
use Rattle.plan_state.proofs.Keeping.{holds_at}
use Rattle.sftp_file.specs.declared.short_calls.Settling.{Settling}
use Rattle.sftp_file.specs.Closes.{ReleasesFile, ClosesBy, stage_of_close}
use Rattle.sftp_file.specs.Files.{FileValue, IsInSlot}
use Rattle.sftp_file.specs.Settles.{settle_meaning}

by_test : (b : Bool) (x y : Move) → b ≡ false → (if b then x else y) ≡ y
by_test false x y e = refl
by_test true x y e = absurd cc

by_test_true : (b : Bool) (x y : Move) → b ≡ true → (if b then x else y) ≡ x
by_test_true true x y e = refl
by_test_true false x y e = absurd cc

-- the last user asks
last_asks : (f : FileValue) (slot place : ℕ) (site : Site) (facts : Facts) (answers : Answers) (m : Settling)
    → IsInSlot f slot place site answers
    → has_grant (with_slot site slot slots.Empty) place ≡ false
    → GoesBehind settle_meaning (with_slot site slot slots.Empty) (close_next slot site facts) answers
    (Whole (request.Close f.grant.handle)) m
last_asks f slot place site facts answers m h none =
    record {
      asks = ap (λ (s : Slot). close_slot_next slot site [] answers s) h.held
          ∙ (by_test (has_grant (with_slot site slot slots.Empty) place)
          (Done outcome.Done (with_slot site slot slots.Empty)) (Ask (request.Close (handle_of (answers place))))
          none
          ∙ ap (λ (x : List ℕ). Ask (request.Close x)) h.handle);
      rest = λ later. ap (λ (s : Slot). close_slot_next slot site ((1, request.Close f.grant.handle) ∷ later) answers s)
          h.held;
      knows = tt;
    }

-- any other has ended
other_ends : (f : FileValue) (slot place : ℕ) (site : Site) (facts : Facts) (answers : Answers)
    → IsInSlot f slot place site answers
    → has_grant (with_slot site slot slots.Empty) place ≡ true → close_next slot site facts [] answers
    ≡ Done outcome.Done (with_slot site slot slots.Empty)
other_ends f slot place site facts answers h some =
    ap (λ (s : Slot). close_slot_next slot site [] answers s) h.held
    ∙ by_test_true (has_grant (with_slot site slot slots.Empty) place)
    (Done outcome.Done (with_slot site slot slots.Empty)) (Ask (request.Close (handle_of (answers place)))) some

closes_with : (b : Bool) (f : FileValue) (old new : Core) (call : CallValue Settling)
    → (users_of (record_at old f.grant.id) == 1) ≡ b
    → call.stage ≡ stage_of_close (if b then Some f.grant.id else None)
    → new ≡ (if b then queued_last old f.grant.id (request.Close f.grant.handle) true else new)
    → IsUnderWay settle_meaning new call × ((slot place : ℕ) (site : Site) (facts : Facts) (answers : Answers)
    → IsInSlot f slot place site answers
    → has_grant (with_slot site slot slots.Empty) place ≡ not b
    → ClosesBy f (with_slot site slot slots.Empty) (close_next slot site facts) answers call.runner call.stage)
closes_with true f old new call is stage queued = (
  record {
    over = rw stage refl;
    held = subst (λ (x : Stage). IsHeldAt settle_meaning new call.runner x) (sym stage)
        (holds_at new f.grant.id expected.Status (Some (Waiting expected.Status false true))
        (ap (λ (c : Core). record_at c f.grant.id) queued ∙ put_here old.table f.grant.id
        (Waiting expected.Status false true)) refl refl);
  },
  λ slot place site facts answers h has. subst (λ (x : Stage). ClosesBy f (with_slot site slot slots.Empty)
      (close_next slot site facts) answers call.runner x) (sym stage)
      (last_asks f slot place site facts answers call.runner h has),
)
closes_with false f old new call is stage same = (
  record {
    over = rw stage refl;
    held = subst (λ (x : Stage). IsHeldAt settle_meaning new call.runner x) (sym stage) tt;
  },
  λ slot place site facts answers h has. subst (λ (x : Stage). ClosesBy f (with_slot site slot slots.Empty)
      (close_next slot site facts) answers call.runner x) (sym stage)
      (other_ends f slot place site facts answers h has),
)

released_by : (b : Bool) (old new : Core) (g : GrantValue) (users : ℕ) → (users == 1) ≡ b → new
    ≡ release_leaves old g users
    → new ≡ (if b then queued_last old g.id (request.Close g.handle) true else new)
released_by true old new g users is after = after ∙ ap (λ (b : Bool). if b then
    queued_last old g.id (request.Close g.handle) true else with_record old g.id (Granted g.handle (users - 1))) is
released_by false old new g users is after = refl

pub closes_by : (f : FileValue) (old new : Core) (call : CallValue Settling) (given : Option ℕ) → given
    ≡ release_gives f.grant (users_of (record_at old f.grant.id))
    → new ≡ core_after_release old f.grant → call.stage ≡ stage_of_close given → ReleasesFile f old new call
closes_by f old new call given gives after stage =
    let awaits : call.stage ≡ stage_of_close (release_gives f.grant (users_of (record_at old f.grant.id))) = stage
    ∙ ap stage_of_close gives in
    let both = closes_with (users_of (record_at old f.grant.id) == 1) f old new call refl awaits
    (released_by (users_of (record_at old f.grant.id) == 1) old new f.grant (users_of (record_at old f.grant.id)) refl
    after) in
    record { awaits = awaits; core = after; under_way = both.0; starts = both.1 }
