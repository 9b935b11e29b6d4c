-- A call that an idle session adds and runs ends once, and the session is idle again.
use Rattle.std.proofs.Common.{◌≡◌, List, [], ◌∷◌, ◌++◌, None, refl, ap, sym, ◌∙◌, subst, inl, inr}
use Rattle.std.specs.Prelude.{Ok}
use Rattle.sftp_model.specs.declared.outcome.Outcome.{Outcome}
use Rattle.plan_model.specs.declared.call.Call.{Call}
use Rattle.session_model.specs.declared.entry.Entry.{Entry}
use Rattle.session_model.specs.Calls.{Setting, current}
use Rattle.session_model.specs.Journals.{IsJournal}
use Rattle.session_model.specs.Readings.{outcomes_of}
use Rattle.session_driver.specs.Adding.{added_to, call_of}
use Rattle.session_driver.specs.Ongoing.{RunState, RunsPart, RunsToEnd}
use Rattle.session_driver.specs.Session.{IsLater}
use Rattle.session_driver.proofs.Joining.{as_part, setting_stays}
use Rattle.view_model.specs.OneCall.{HasEndedOnce}
use Rattle.view_model.specs.Viewed.{ComesTo, Found, found_in, makes, pure}
use Rattle.view_model.proofs.DoingLaws.{comes_call}
use Rattle.view_model.proofs.EndedLaws.{ended_once}
use Rattle.sftp_view.specs.Doings.{IsIdle, DoesBySession}

-- what goes on from a journal is one
pub later_journal : (s : Setting) (before past : List Entry) → IsJournal s before → IsLater s before past
    → IsJournal s past
later_journal s before [] j l = subst (λ (w : List Entry). IsJournal s w) l j
later_journal s before (e ∷ past) j (inl same) = subst (λ (w : List Entry). IsJournal s w) same j
later_journal s before (e ∷ past) j (inr l) = (l.0, later_journal s before past j l.1)

module _ {S : Type 0} where
  pub went_once : (c : Call) (a b : RunState S) → IsIdle a → RunsToEnd (call_of 0 c) a b
      → HasEndedOnce 0 c a.seen.progress.past b.seen.progress.past
  went_once c a b idle went =
      ended_once a.seen.setting 0 went.whole.rounds c a.seen.progress.past (added_to a.seen.progress 0 c)
      b.seen.progress refl
      (later_journal a.seen.setting a.seen.progress.past b.seen.progress.past idle.run went.later) idle.run idle.done
      went.whole.went went.whole.done

  idle_again : (c : Call) (a b : RunState S) → IsIdle a → RunsToEnd (call_of 0 c) a b → IsIdle b
  idle_again c a b idle went =
      let same : b.seen.setting ≡ a.seen.setting = setting_stays a.seen b.seen went.stays in
      record {
        ready = went.ready;
        lanes = ap (λ (s : Setting). s.lanes) same ∙ idle.lanes;
        run = subst (λ (s : Setting). IsJournal s b.seen.progress.past) (sym same)
            (later_journal a.seen.setting a.seen.progress.past b.seen.progress.past idle.run went.later);
        done = subst (λ (s : Setting). current s b.seen.progress.past 0 ≡ None) (sym same) went.whole.done;
        held = λ lane. (went_once c a b idle went).held lane ∙ idle.held lane;
      }

  -- a call was made, and this is what it brought
  pub call_runs : (c : Call) {a b : RunState S} → IsIdle a → RunsPart (call_of 0 c) a b (Ok tt) → (found : Found)
      → ((o : Outcome) → outcomes_of b.seen.progress.past 0 ≡ outcomes_of a.seen.progress.past 0 ++ o ∷ [] → found
      ≡ found_in o)
      → DoesBySession (makes c) pure a b (Ok found)
  call_runs c {a = a} {b = b} idle part found brought =
      let once = went_once c a b idle part.went in
      record {
        ongoing = as_part (λ whole. tt) (λ past so_far. tt) part;
        idle = idle_again c a b idle part.went;
        does = record {
          made = c ∷ [];
          came = once.outcome ∷ [];
          comes = subst (λ (f : Found). ComesTo (makes c) (pure f) (c ∷ []) (once.outcome ∷ []))
              (sym (brought once.outcome once.outcomes))
              (comes_call c once.outcome);
          calls = once.calls;
          outcomes = once.outcomes;
          uncancelled = once.uncancelled;
        };
      }
