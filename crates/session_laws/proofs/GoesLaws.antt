-- What a lane's runner goes on with behind its answer, once for all calls: by the clauses `goes`, `left`, `sound` and
-- `pends`.
use Rattle.std.specs.Prelude.{slice_get}
use Rattle.std.proofs.Common.{refl, ◌≡◌, ◌≢◌, ◌≤◌, ℕ, false, List, [], ◌∷◌, ◌++◌, length, Option, Some, None, ap, sym, ◌∙◌, subst}
use Rattle.sftp_model.specs.declared.outcome.Outcome.{Outcome}
use Rattle.sftp_model.specs.declared.slot.Site.{Site}
use Rattle.sftp_model.specs.declared.reply.Reply.{Reply}
use Rattle.plan_model.specs.Moves.{Plan}
use Rattle.plan_runner.specs.declared.next.Asked.{Asked}
use Rattle.plan_runner.specs.declared.next.Running.{Running}
use Rattle.plan_runner.specs.Sound.{AreWithin, IsRunningSound, KeepsRunningSound}
use Rattle.plan_runner.specs.Cancelling.{left_after, left_behind, SiteAfterCancel}
use Rattle.plan_runner.specs.Pending.{PendsAfter, pends, pends_after, pends_idle}
use Rattle.plan_runner.specs.declared.next.Next.{Next}
use Rattle.plan_runner.specs.Runners.{after, awaited_place, bytes_of}
use Rattle.plan_model.specs.declared.call.Call.{Call}
use Rattle.session_model.specs.declared.event.Event.TheVariants.{Cancel, End}
use Rattle.session_model.specs.declared.entry.Entry.{Entry}
use Rattle.session_model.specs.Readings.{answer, count_submitted, count_ended, last_cancel, own}
use Rattle.session_model.specs.Calls.{Setting, current, site_left, site_of}
use Rattle.session_model.proofs.CallLaws.{end_own, end_site, ended_end, site_end}
use Rattle.session_model.specs.Journals.{IsJournal}
use Rattle.session_laws.specs.Running.{StepsByMove, CancelSteps, CancelTied, IsFilled, request_of, IsFrom, LeavesFrom, RunTied, site_if_cancelled}
use Rattle.session_laws.specs.Places.{is_in, IsRising, without_index}
use Rattle.session_laws.specs.Lanes.{LaneGoes, tickets_for}
use Rattle.session_laws.specs.Going.{LaneGoesOn, RunnerStep, RunnerWidens}
use Rattle.session_laws.proofs.CancelLaws.{cancel_leaves, cancel_idle, cancel_steps}
use Rattle.session_laws.proofs.PendLaws.{awaits_step, polled_has}
use Rattle.session_laws.proofs.RunningLaws.{from_none, from_reply, steps, tied_idle, widens}
use Rattle.session_laws.proofs.PlaceLaws.{without_out}
use Rattle.session_laws.proofs.FlushLaws.{left_came, left_none}
use Rattle.plan_runner.specs.declared.next.Next.TheVariants as step
use Rattle.session_model.specs.declared.entry.Entry.TheVariants as entry
use Rattle.plan_model.specs.CallPlans.{site_after_cancel, next}

one_call : (c d : Call) (x : Option Call) → x ≡ Some c → x ≡ Some d → c ≡ d
one_call c d x a b = cc

no_none : (x : Option Call) (c : Call) → x ≡ Some c → x ≢ None
no_none x c a b = absurd cc

-- the runner awaits another reply
pub wait_goes : (s : Setting) (past : List Entry) (lane place : ℕ) (c : Call) (old site : Site) (tickets : List ℕ)
    (before : ℕ → ℕ) (r : Running) → current s past lane ≡ Some c → length old.slots ≡ 16 → AreWithin s.facts old
    → StepsByMove s past lane (step.Wait r) site → CancelSteps s past lane (step.Wait r) site
    → KeepsRunningSound (bytes_of c) s.facts old site (step.Wait r) → PendsAfter before place site (step.Wait r)
    → is_in place tickets ≡ false → ((q : ℕ) → before q ≤ tickets_for tickets q)
    → LaneGoes s past lane (Some r) site tickets
wait_goes s past lane place c old site tickets before r is sixteen within runs leaves sounds pend new all =
    record {
      sixteen = sounds.0.count ∙ sixteen;
      within = sounds.0.limit within;
      runs = (runs, leaves, no_none (current s past lane) c is);
      sound = λ d same. subst (λ (x : Call). IsRunningSound r (bytes_of x) site s.facts)
          (one_call c d (current s past lane) is same) sounds.1;
      awaits = awaits_step before place site tickets (step.Wait r) pend new all;
    }

-- the runner asks
pub ask_goes : (s : Setting) (past : List Entry) (lane id : ℕ) (c : Call) (old site : Site) (tickets : List ℕ)
    (before : ℕ → ℕ) (a : Asked) (r : Running) → current s past lane ≡ Some c → length old.slots ≡ 16
    → AreWithin s.facts old
    → StepsByMove s past lane (step.Ask a r) site → CancelSteps s past lane (step.Ask a r) site
    → KeepsRunningSound (bytes_of c) s.facts old site (step.Ask a r)
    → PendsAfter before (count_submitted past) site (step.Ask a r)
    → is_in (count_submitted past) tickets ≡ false → ((p : ℕ) → before p ≤ tickets_for tickets p)
    → IsFilled a (answer past) → LaneGoes s (request_of past lane id a ∷ past) lane (Some r) site
    (tickets ++ count_submitted past ∷ [])
ask_goes s past lane id c old site tickets before a r is sixteen within runs leaves sounds pend new all stays =
    record {
      sixteen = sounds.0.count ∙ sixteen;
      within = sounds.0.limit within;
      runs = (runs.1 id stays, leaves id stays, no_none (current s past lane) c is);
      sound = λ d same. subst (λ (x : Call). IsRunningSound r (bytes_of x) site s.facts)
          (one_call c d (current s past lane) is same) sounds.1;
      awaits = awaits_step before (count_submitted past) site tickets (step.Ask a r) pend new all;
    }

-- the runner ends
pub done_goes : (s : Setting) (past : List Entry) (lane : ℕ) (o : Outcome) (c : Call) (old site : Site)
    (tickets : List ℕ) (before : ℕ → ℕ) → IsJournal s past → last_cancel past ≡ None → length old.slots ≡ 16
    → AreWithin s.facts old
    → StepsByMove s past lane (step.Done o) site → KeepsRunningSound (bytes_of c) s.facts old site (step.Done o)
    → PendsAfter before (count_submitted past) site (step.Done o) → is_in (count_submitted past) tickets ≡ false
    → ((p : ℕ) → before p ≤ tickets_for tickets p)
    → LaneGoes s (entry.Event (End lane (count_ended past lane) o) ∷ past) lane None site tickets
done_goes s past lane o c old site tickets before j calm sixteen within is sounds pend new all =
    let now : List Entry = entry.Event (End lane (count_ended past lane) o) ∷ past in
    record {
      sixteen = sounds.0.count ∙ sixteen;
      within = sounds.0.limit within;
      runs = (
        ap (λ (n : ℕ). own now lane n) (ended_end past lane (count_ended past lane) o) ∙ end_own s past lane o j,
        sym (end_site s past lane o site calm is),
      );
      sound = tt;
      awaits = awaits_step before (count_submitted past) site tickets (step.Done o) pend new all;
    }

-- the call was cancelled: its End leaves this
pub cancelled_site : (s : Setting) (past : List Entry) (lane : ℕ) (o : Outcome) (running : Option Running) (site : Site)
    (c : Call) → CancelTied s past lane running site → current s past lane ≡ Some c
    → site_of s (entry.Event (End lane (count_ended past lane) o) ∷ entry.Event (Cancel lane) ∷ past) lane
    ≡ site_if_cancelled running c site s.facts [] (answer past)
cancelled_site s past lane o running site c tied is =
    site_end s (entry.Event (Cancel lane) ∷ past) lane (count_ended past lane) o
    ∙ (ap (λ x. site_left x (Some lane) (site_of s past lane) s.facts (own past lane (count_ended past lane))
    (answer past))
    is ∙ cancel_leaves s past lane running site c tied is)

-- and a lane that has this goes on from it
pub cancelled_goes : (s : Setting) (past : List Entry) (lane : ℕ) (o : Outcome) (running : Option Running)
    (old site : Site) (c : Call) (tickets : List ℕ) → IsJournal s (entry.Event (Cancel lane) ∷ past)
    → CancelTied s past lane running old → current s past lane ≡ Some c
    → site ≡ site_if_cancelled running c old s.facts [] (answer past) → length site.slots ≡ 16 → AreWithin s.facts site
    → ((q : ℕ) → pends q None site ≤ tickets_for tickets q)
    → LaneGoes s (entry.Event (End lane (count_ended past lane) o) ∷ entry.Event (Cancel lane) ∷ past) lane None site
    tickets
cancelled_goes s past lane o running old site c tickets j tied is left sixteen within awaits =
    let mid : List Entry = entry.Event (Cancel lane) ∷ past in
    let now : List Entry = entry.Event (End lane (count_ended past lane) o) ∷ mid in
    record {
      sixteen = sixteen;
      within = within;
      runs = (
        ap (λ (n : ℕ). own now lane n) (ended_end mid lane (count_ended past lane) o) ∙ end_own s mid lane o j,
        left
            ∙ sym (cancelled_site s past lane o running old c tied is),
      );
      sound = tt;
      awaits = awaits;
    }

-- ---- from a runner's clauses to its lane

-- what the lane's runner answered makes of the lane
answer_goes : (s : Setting) (past : List Entry) (lane : ℕ) (c : Call) (old site : Site) (tickets : List ℕ)
    (before : ℕ → ℕ) (n : Next) → current s past lane ≡ Some c → length old.slots ≡ 16 → AreWithin s.facts old
    → is_in (count_submitted past) tickets ≡ false → ((q : ℕ) → before q ≤ tickets_for tickets q)
    → StepsByMove s past lane n site
    → CancelSteps s past lane n site → KeepsRunningSound (bytes_of c) s.facts old site n
    → PendsAfter before (count_submitted past) site n
    → LaneGoesOn s past lane tickets site n
answer_goes s past lane c old site tickets before (step.Ask a r) is sixteen within new all st left sounds pend = (
  st.0,
  λ id stays. ask_goes s past lane id c old site tickets before a r is sixteen within st left sounds pend new
      all stays,
)
answer_goes s past lane c old site tickets before (step.Wait r) is sixteen within new all st left sounds pend =
    wait_goes s past lane (count_submitted past) c old site tickets before r is sixteen within st left sounds pend new
    all
answer_goes s past lane c old site tickets before (step.Done o) is sixteen within new all st left sounds pend =
    (st, λ j calm. done_goes s past lane o c old site tickets before j calm sixteen within st sounds pend new all)

-- what the lane's runner answers, from this plan
runner_goes : (s : Setting) (past : List Entry) (lane : ℕ) (c : Call) (running : Option Running) (old site : Site)
    (tickets : List ℕ) (plan : Plan) (leave : SiteAfterCancel) (before : ℕ → ℕ) (n : Next) → current s past lane
    ≡ Some c
    → RunTied s past lane running old → CancelTied s past lane running old → length old.slots ≡ 16
    → AreWithin s.facts old → IsFrom past running c old s.facts plan → LeavesFrom past running c old s.facts leave
    → is_in (count_submitted past) tickets ≡ false → ((q : ℕ) → before q ≤ tickets_for tickets q)
    → RunnerStep s past c plan leave before old site n → LaneGoesOn s past lane tickets site n
runner_goes s past lane c running old site tickets plan leave before n is runs cancels sixteen within from leaves_from
    new all a =
    answer_goes s past lane c old site tickets before n is sixteen within new all
    (steps s past lane running old site c plan n runs is from a.goes)
    (cancel_steps s past lane running old site c leave n cancels is leaves_from a.left) a.sound a.pends

-- The lane's next call begins.
pub begin_goes : (s : Setting) (past : List Entry) (lane : ℕ) (c : Call) (old site : Site) (tickets : List ℕ) (n : Next)
    → current s past lane ≡ Some c → LaneGoes s past lane None old tickets → is_in (count_submitted past) tickets
    ≡ false
    → RunnerStep s past c (next c old s.facts) (site_after_cancel c old s.facts) (pends_idle old) old site n
    → LaneGoesOn s past lane tickets site n
begin_goes s past lane c old site tickets n is l new a =
    runner_goes s past lane c None old site tickets (next c old s.facts) (site_after_cancel c old s.facts)
    (pends_idle old) n
    is (tied_idle s past lane old l.runs.0 l.runs.1) (cancel_idle s past lane old l.runs.0 l.runs.1) l.sixteen
    l.within
    (λ answers known later. refl) (λ answers known later. refl) new l.awaits a

-- A call goes on behind the reply that it awaited, whose ticket is gone.
pub reply_goes : (s : Setting) (past : List Entry) (lane k p : ℕ) (c : Call) (r : Running) (y : Reply) (old site : Site)
    (tickets : List ℕ) (n : Next) → current s past lane ≡ Some c → LaneGoes s past lane (Some r) old tickets
    → IsRising tickets → slice_get tickets k ≡ Some p → awaited_place r old ≡ Some p → answer past p ≡ Some y
    → is_in (count_submitted past) tickets ≡ false
    → RunnerStep s past c (after r (bytes_of c) old s.facts (Some y)) (left_after r (bytes_of c) old s.facts (Some y))
    (pends_after r old (Some y)) old site n → LaneGoesOn s past lane (without_index k tickets) site n
reply_goes s past lane k p c r y old site tickets n is l rising at awaits got new a =
    runner_goes s past lane c (Some r) old site (without_index k tickets) (after r (bytes_of c) old s.facts (Some y))
    (left_after r (bytes_of c) old s.facts (Some y)) (pends_after r old (Some y)) n is l.runs.0 l.runs.1 l.sixteen
    l.within
    (from_reply past r c old s.facts p y awaits got) (λ answers known later. left_came r (bytes_of c) old s.facts later
    answers p y awaits (known p y got)) (without_out tickets k (count_submitted past) new)
    (rw awaits (polled_has (λ q. pends q (Some r) old) tickets k p rising at l.awaits)) a

-- A call goes on that awaits no reply.
pub unreplied_goes : (s : Setting) (past : List Entry) (lane : ℕ) (c : Call) (r : Running) (old site : Site)
    (tickets : List ℕ) (n : Next) → current s past lane ≡ Some c → LaneGoes s past lane (Some r) old tickets
    → awaited_place r old ≡ None → is_in (count_submitted past) tickets ≡ false
    → RunnerStep s past c (after r (bytes_of c) old s.facts None) (left_after r (bytes_of c) old s.facts None)
    (pends_after r old None) old site n → LaneGoesOn s past lane tickets site n
unreplied_goes s past lane c r old site tickets n is l awaits new a =
    runner_goes s past lane c (Some r) old site tickets (after r (bytes_of c) old s.facts None)
    (left_after r (bytes_of c) old s.facts None) (pends_after r old None) n is l.runs.0 l.runs.1 l.sixteen l.within
    (from_none past r c old s.facts awaits) (λ answers known later. left_none r (bytes_of c) old s.facts later answers)
    new l.awaits a

-- A call answers while the reply that it awaits is missing.
pub widen_goes : (s : Setting) (past : List Entry) (lane p : ℕ) (c : Call) (r : Running) (site : Site)
    (tickets : List ℕ) (n : Next) → current s past lane ≡ Some c → LaneGoes s past lane (Some r) site tickets
    → awaited_place r site ≡ Some p → answer past p ≡ None → is_in (count_submitted past) tickets ≡ false
    → RunnerWidens s past c r site n → LaneGoesOn s past lane tickets site n
widen_goes s past lane p c r site tickets n is l awaits none new a =
    answer_goes s past lane c site site tickets (λ q. pends q (Some r) site) n is l.sixteen l.within new l.awaits
    (widens s past lane r site c p n l.runs.0 is awaits none a.goes)
    (cancel_steps s past lane (Some r) site site c (left_behind r (bytes_of c) site s.facts) n l.runs.1 is
    (λ answers known later. refl) a.left) (record { count = refl; limit = λ w. w }, a.sound) a.pends
