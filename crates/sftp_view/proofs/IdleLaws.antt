-- A step of an idle lane does nothing.
use Rattle.std.proofs.Common.{◌≡◌, ◌++◌, ◌∙◌, List, None, ap, sym, subst}
use Rattle.std.specs.Prelude.{Option, length, slice_get}
use Rattle.sftp_model.specs.declared.slot.Move.{Move}
use Rattle.sftp_link.specs.Views.{LinkView}
use Rattle.plan_model.specs.declared.call.Call.{Call}
use Rattle.plan_model.specs.declared.call.Lane.{Lane}
use Rattle.session_model.specs.declared.entry.Entry.{Entry}
use Rattle.session_model.specs.Calls.{Setting, calls_added_to, calls_of, current, move_at, move_of, site_of}
use Rattle.session_model.specs.Journals.{IsJournal}
use Rattle.session_model.specs.Readings.{answer, count_ended, own, was_let_go}
use Rattle.session_model.specs.Turns.{RunProgress}
use Rattle.session_driver.specs.declared.session.Phase.{Phase}
use Rattle.session_driver.specs.declared.session.Phase.TheVariants.{Open}
use Rattle.session_driver.specs.declared.session.Stepped.{Stepped}
use Rattle.session_driver.specs.Ongoing.{run_state}
use Rattle.session_driver.specs.Session.{StepsTo}
use Rattle.session_driver.proofs.Joining.{phase_stays, setting_stays}
use Rattle.session_work.specs.Working.{StepsLane, past_of, progress_of}
use Rattle.sftp_lanes.specs.Events.{LanesDid, StepsIn}
use Rattle.sftp_lanes.specs.Seen.{SessionValue, seen_of, setting_at}
use Rattle.sftp_lanes.proofs.Shown.{stays}
use Rattle.sftp_view.specs.Doings.{IsIdle}
use Rattle.sftp_view.specs.IdleSteps.{StepsIdly}

no_move : (s : Setting) (past : List Entry) → current s past 0 ≡ None → move_of s past 0 ≡ None
no_move s past none = ap (λ (c : Option Call). move_at c (site_of s past 0) s.facts (own past 0 (count_ended past 0))
    (answer past)) none

stays_put : (s : Setting) (before now : RunProgress) (m : Option Move) (event : Stepped) → m ≡ None
    → StepsTo s 0 before now m event → now ≡ before
stays_put s before now m event none steps =
    (subst (λ (m : Option Move). StepsTo s 0 before now m event) none steps).1

pub steps_idly : (old new : SessionValue) (event : Stepped) → old.phase ≡ Open
    → current (setting_at old) (past_of old.work) 0 ≡ None
    → StepsIn old.phase 0 old new event → StepsIdly old new
steps_idly old new event opened none steps =
    let g : LanesDid (λ s before after. StepsLane s 0 before after event) old new =
    subst (λ (p : Phase). StepsIn p 0 old new event) opened steps in
    let lanes : new.lanes ≡ old.lanes = ap (λ (s : SessionValue). s.lanes) g.rest in
    record {
      stays = stays (λ s before after. StepsLane s 0 before after event) old new g;
      same = stays_put (setting_at old) (progress_of old.work) (progress_of new.work)
          (move_of (setting_at old) (past_of old.work) 0) event
          (no_move (setting_at old) (past_of old.work) none) g.did.steps;
      count = g.did.working.stands.lanes ∙ ap length (sym lanes);
      each = λ lane. g.did.working.stands.calls lane
          ∙ ap (λ (l : List Lane). calls_of (slice_get l lane) ++ calls_added_to (past_of new.work) lane) (sym lanes);
      settled = g.did.working.rest.settled;
    }

-- the session is idle still
module _ {S : Type 0} where
  pub idle_still : (old new : SessionValue) (link : LinkView S) → IsIdle (run_state (seen_of old) link)
      → StepsIdly old new → IsIdle (run_state (seen_of new) link)
  idle_still old new link idle s =
      let setting : (seen_of new).setting ≡ (seen_of old).setting = setting_stays (seen_of old) (seen_of new) s.stays in
      let past : (seen_of new).progress.past ≡ (seen_of old).progress.past = ap (λ (x : RunProgress). x.past) s.same in
      record {
        ready = record {
          is_open = phase_stays (seen_of old) (seen_of new) s.stays idle.ready.is_open;
          count =
              idle.ready.count;
        };
        lanes = ap (λ (x : Setting). x.lanes) setting ∙ idle.lanes;
        run = subst (λ (x : Setting). IsJournal x (seen_of new).progress.past) (sym setting)
            (subst (λ (p : List Entry). IsJournal (seen_of old).setting p) (sym past) idle.run);
        done = ap (λ (x : Setting). current x (seen_of new).progress.past 0) setting
            ∙ (ap (λ (p : List Entry). current (seen_of old).setting p 0) past ∙ idle.done);
        held = λ lane. ap (λ (p : List Entry). was_let_go p lane) past ∙ idle.held lane;
      }
