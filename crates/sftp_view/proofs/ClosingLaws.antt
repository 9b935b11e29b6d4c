-- An idle session is ended.
use Rattle.std.proofs.Common.{◌≡◌, ◌<◌, ℕ, zero, suc, List, length, None, true, ap, sym, ◌∙◌, subst, arith}
use Rattle.std.specs.Prelude.{Result, Ok, Err}
use Rattle.sftp_model.specs.declared.error.Error.{Error}
use Rattle.sftp_model.specs.declared.error.Error.TheVariants as error
use Rattle.sftp_link.specs.Views.{LinkView}
use Rattle.session_model.specs.declared.entry.Entry.{Entry}
use Rattle.session_model.specs.Calls.{Setting, calls_added_to, current}
use Rattle.session_model.specs.Grants.{next_due}
use Rattle.session_model.specs.Journals.{IsJournal}
use Rattle.session_model.specs.Readings.{outcomes_of, count_unanswered, was_let_go}
use Rattle.session_model.specs.Runs.{LetsGoTo}
use Rattle.session_model.specs.Turns.{RunProgress}
use Rattle.session_driver.specs.Logs.{KeepsTrace as LogKeeps}
use Rattle.session_driver.specs.Ongoing.{RunState, RunsPart, run_state, drain_part, lanes_go}
use Rattle.session_driver.specs.Session.{IsLater, IsUnmoved}
use Rattle.session_driver.proofs.Joining.{as_part, join, no_memory, quiet, setting_stays}
use Rattle.session_driver.proofs.Journals.{later_self}
use Rattle.sftp_lanes.specs.Seen.{SessionValue, seen_of}
use Rattle.view_model.specs.Uncancelled.{IsUncancelled}
use Rattle.sftp_view.specs.Closing.{ClosesOrStops}
use Rattle.sftp_view.specs.Doings.{IsIdle, going_on}
use Rattle.sftp_view.specs.IdleSteps.{StepsIdly}
use Rattle.sftp_view.proofs.DrainLaws.{Keeps, drains_keep, let_go_keeps}
use Rattle.sftp_view.proofs.OneCall.{later_journal}

-- the lane was let go, and then what is unanswered was taken
pub record IsGone (s : Setting) (before now : List Entry) : Type 0 where
  pub adds : calls_added_to now 0 ≡ calls_added_to before 0
  pub ends : outcomes_of now 0 ≡ outcomes_of before 0
  pub let_go : was_let_go now 0 ≡ true
  pub done : current s now 0 ≡ None
  pub uncancelled : IsUncancelled before → IsUncancelled now

-- letting go, of one lane
gone_by : (s : Setting) (n : ℕ) (before now : RunProgress) → n ≡ 1 → current s before.past 0 ≡ None
    → LetsGoTo s n before now → IsGone s before.past now.past
gone_by s zero before now one done to = absurd (omega (arith, one))
gone_by s (suc zero) before now one done (mid, (same, to)) =
    let k = let_go_keeps s 0 mid now to in
    subst (λ (w : RunProgress). IsGone s w.past now.past) same (record {
      adds = k.adds 0;
      ends = k.ends 0;
      let_go = k.holds 0;
      done = k.done 0 (subst (λ (w : RunProgress). current s w.past 0 ≡ None) (sym same) done);
      uncancelled = k.uncancelled;
    })
gone_by s (suc (suc n)) before now one done to = absurd (omega (arith, one))

only_lane : (s : Setting) (past : List Entry) → length s.lanes ≡ 1 → was_let_go past 0 ≡ true → (lane : ℕ)
    → lane < length s.lanes → was_let_go past lane ≡ true
only_lane s past one gone lane lt = (let first : lane ≡ 0 = omega (arith, one, lt) in ap (was_let_go past) first ∙ gone)

module _ {S : Type 0} where
  -- the lane was let go
  pub let_gone : (a b : RunState S) → IsIdle a → RunsPart lanes_go a b (Ok tt)
      → IsGone a.seen.setting a.seen.progress.past b.seen.progress.past
  let_gone a b idle part =
      gone_by a.seen.setting (length a.seen.setting.lanes) a.seen.progress b.seen.progress (ap length idle.lanes)
      idle.done part.went.whole

  -- and what was unanswered was taken
  pub drained : (a b c : RunState S) → IsIdle a → RunsPart lanes_go a b (Ok tt) → RunsPart drain_part b c (Ok tt)
      → IsGone a.seen.setting a.seen.progress.past c.seen.progress.past
  drained a b c idle gone part =
      let g = let_gone a b idle gone in
      let same : b.seen.setting ≡ a.seen.setting = setting_stays a.seen b.seen gone.went.stays in
      let k : Keeps a.seen.setting b.seen.progress.past c.seen.progress.past =
      subst (λ (s : Setting). Keeps s b.seen.progress.past c.seen.progress.past) same
      (drains_keep b.seen.setting part.went.whole.drains b.seen.progress c.seen.progress part.went.whole.went) in
      record {
        adds = k.adds 0 ∙ g.adds;
        ends = k.ends 0 ∙ g.ends;
        let_go = k.holds 0 ∙ g.let_go;
        done = k.done 0 g.done;
        uncancelled = λ u. k.uncancelled (g.uncancelled u);
      }

  joined : (a b c : RunState S) → RunsPart lanes_go a b (Ok tt) → {result : Result (Unit {0}) Error}
      → RunsPart drain_part b c result → RunsPart going_on a c result
  joined a b c first second = join (λ u v. tt) (λ u past v. tt) first second

  pub go_stopped : (a b : RunState S) (e : Error) → RunsPart lanes_go a b (Err e) → ClosesOrStops a b (Err e)
  go_stopped a b e part = record { ongoing = as_part (λ whole. tt) (λ past so_far. tt) part; closed = tt }

  pub drain_stopped : (a b c : RunState S) (e : Error) → RunsPart lanes_go a b (Ok tt) → RunsPart drain_part b c (Err e)
      → ClosesOrStops a c (Err e)
  drain_stopped a b c e first second = record { ongoing = joined a b c first second; closed = tt }

  -- no memory was there for the last step
  pub close_lost : (a b : RunState S) (old new : SessionValue) (link : LinkView S) → RunsPart lanes_go a b (Ok tt)
      → RunsPart drain_part b (run_state (seen_of old) link) (Ok tt)
      → IsUnmoved (seen_of old) (seen_of new) → ClosesOrStops a (run_state (seen_of new) link) (Err error.OutOfMemory)
  close_lost a b old new link first second left = record {
    ongoing = join {r = going_on} (λ u v. tt) (λ u past v. tt) (joined a b (run_state (seen_of old) link) first second)
        (no_memory going_on (seen_of old) (seen_of new) link tt left);
    closed = tt;
  }

  -- where the session stands before the last step
  pub drained_done : (a b c : RunState S) → IsIdle a → RunsPart lanes_go a b (Ok tt) → RunsPart drain_part b c (Ok tt)
      → current c.seen.setting c.seen.progress.past 0 ≡ None
  drained_done a b c idle first second =
      let same : c.seen.setting ≡ a.seen.setting = setting_stays b.seen c.seen second.went.stays
      ∙ setting_stays a.seen b.seen first.went.stays in
      ap (λ (s : Setting). current s c.seen.progress.past 0) same ∙ (drained a b c idle first second).done

  pub closed_by : (a b : RunState S) (old new : SessionValue) (link : LinkView S) → IsIdle a
      → RunsPart lanes_go a b (Ok tt)
      → RunsPart drain_part b (run_state (seen_of old) link) (Ok tt) → StepsIdly old new
      → ClosesOrStops a (run_state (seen_of new) link) (Ok tt)
  closed_by a b old new link idle first second s =
      let c : RunState S = run_state (seen_of old) link in
      let d : RunState S = run_state (seen_of new) link in
      let g = drained a b c idle first second in
      let past : d.seen.progress.past ≡ c.seen.progress.past = ap (λ (x : RunProgress). x.past) s.same in
      let stays : d.seen.setting ≡ c.seen.setting = setting_stays c.seen d.seen s.stays in
      let same : c.seen.setting ≡ a.seen.setting = setting_stays b.seen c.seen second.went.stays
      ∙ setting_stays a.seen b.seen first.went.stays in
      let still : RunsPart going_on c d (Ok tt) = quiet going_on c.seen d.seen link tt tt
      (record {
        stays = s.stays;
        later = subst (λ (p : List Entry). IsLater c.seen.setting c.seen.progress.past p) (sym past)
            (later_self c.seen.setting c.seen.progress.past);
      })
      (λ log. subst (λ (p : List Entry). LogKeeps c.seen.progress.past p log log) (sym past)
      (λ hello first shown. shown)) second.went.ready in
      let all : RunsPart going_on a d (Ok tt) = join {r = going_on} (λ u v. tt) (λ u past v. tt)
      (joined a b c first second) still in
      record {
        ongoing = all;
        closed = record {
          run = subst (λ (x : Setting). IsJournal x d.seen.progress.past) (sym (stays ∙ same))
              (later_journal a.seen.setting a.seen.progress.past d.seen.progress.past idle.run all.went.later);
          over = (
            only_lane d.seen.setting d.seen.progress.past (ap (λ (x : Setting). length x.lanes) (stays ∙ same)
                ∙ ap length idle.lanes)
                (ap (λ (p : List Entry). was_let_go p 0) past ∙ g.let_go),
            ap (λ (x : Setting). next_due x d.seen.progress.past) stays ∙ s.settled,
            ap count_unanswered past ∙ second.went.whole.answered,
          );
          adds = ap (λ (p : List Entry). calls_added_to p 0) past ∙ g.adds;
          ends = ap (λ (p : List Entry). outcomes_of p 0) past ∙ g.ends;
          uncancelled = λ u. subst IsUncancelled (sym past) (g.uncancelled u);
        };
      }
