-- One call of an idle session, at each exit.
use Rattle.std.proofs.Common.{◌≡◌, ◌+◌, ◌-◌, true, List, [], ◌∷◌, ◌++◌, length, None, refl, ap, sym, ◌∙◌, subst, arith}
use Rattle.std.specs.Prelude.{Some, Ok, Err, slice_get}
use Rattle.std.proofs.lemmas.List.{length-append}
use Rattle.sftp_model.specs.declared.error.Error.{Error}
use Rattle.sftp_model.specs.declared.error.Error.TheVariants as error
use Rattle.sftp_model.specs.declared.outcome.Outcome.{Outcome}
use Rattle.sftp_link.specs.Views.{LinkView}
use Rattle.plan_model.specs.Lanes.{are_ok}
use Rattle.plan_model.specs.declared.call.Call.{Call}
use Rattle.plan_model.specs.declared.call.Lane.{Lane}
use Rattle.session_model.specs.declared.entry.Entry.{Entry}
use Rattle.session_model.specs.Calls.{calls_added_to, calls_of}
use Rattle.session_model.specs.Readings.{outcomes_of}
use Rattle.session_model.specs.Turns.{RunProgress}
use Rattle.session_driver.specs.Adding.{call_of, with_call}
use Rattle.session_driver.specs.Logs.{KeepsTrace}
use Rattle.session_driver.specs.Ongoing.{RunState, RunsPart, run_state}
use Rattle.session_driver.specs.Session.{IsLater, IsUnmoved}
use Rattle.session_driver.proofs.Joining.{no_memory, quiet}
use Rattle.session_driver.proofs.Journals.{later_self}
use Rattle.session_work.specs.Working.{past_of}
use Rattle.sftp_lanes.specs.Seen.{SessionValue, seen_of}
use Rattle.view_model.specs.Viewed.{Doing, Found, found_in, makes, pure}
use Rattle.sftp_view.specs.Doings.{IsIdle, MayDo, DoesBySession, going_on, one_lane}
use Rattle.sftp_view.specs.IdleSteps.{StepsIdly}
use Rattle.sftp_view.proofs.FewLaws.{may_add}
use Rattle.sftp_view.proofs.IdleLaws.{idle_still}
use Rattle.sftp_view.proofs.OneCall.{call_runs, went_once}
use Rattle.sftp_view.proofs.RunLaws.{part_no_room, part_stopped, runs_still, then_on}

-- ---- the newest outcome

got_last : (xs : List Outcome) (o : Outcome) → slice_get (xs ++ o ∷ []) (length xs) ≡ Some o
got_last [] o = refl
got_last (x ∷ xs) o = got_last xs o

last_at : (os before : List Outcome) (o : Outcome) → os ≡ before ++ o ∷ [] → slice_get os (length os - 1) ≡ Some o
last_at os before o is =
    let count : length os ≡ length before + 1 = ap length is ∙ length-append before (o ∷ []) in
    let place : length os - 1 ≡ length before = omega (arith, count) in
    (λ i. slice_get (is i) (place i)) ∙ got_last before o

pub newest : (os before : List Outcome) (o p : Outcome) → os ≡ before ++ o ∷ [] → Some p ≡ slice_get os (length os - 1)
    → p ≡ o
newest os before o p is there = (let both : Some p ≡ Some o = there ∙ last_at os before o is in cc)

pub some_newest : (os before : List Outcome) (o : Outcome) → os ≡ before ++ o ∷ [] → None ≡ slice_get os (length os - 1)
    → ⊥
some_newest os before o is none = (let both : None ≡ Some o = none ∙ last_at os before o is in cc)

-- ---- exits

module _ {S : Type 0} where
  pub starved : {T U : Type 0} {f : Doing T} {r : U → Doing T} (old mid : SessionValue) (link : LinkView S)
      → IsUnmoved (seen_of old) (seen_of mid)
      → DoesBySession f r (run_state (seen_of old) link) (run_state (seen_of mid) link) (Err error.OutOfMemory)
  starved old mid link left = record {
    ongoing = no_memory going_on (seen_of old) (seen_of mid) link tt left;
    idle = tt;
    does = tt;
  }

  -- the idle step
  stepped : {T : Type 0} (f : Doing T) (old mid : SessionValue) (link : LinkView S)
      → IsIdle (run_state (seen_of old) link) → StepsIdly old mid
      → DoesBySession f (λ (u : Unit {0}). f) (run_state (seen_of old) link) (run_state (seen_of mid) link) (Ok tt)
  stepped f old mid link idle s =
      let past : (seen_of mid).progress.past ≡ (seen_of old).progress.past = ap (λ (x : RunProgress). x.past) s.same in
      runs_still f (run_state (seen_of old) link) (run_state (seen_of mid) link)
      (quiet going_on (seen_of old) (seen_of mid) link tt tt
      (record {
        stays = s.stays;
        later = subst (λ (p : List Entry). IsLater (seen_of old).setting (seen_of old).progress.past p) (sym past)
            (later_self (seen_of old).setting (seen_of old).progress.past);
      })
      (λ log. subst (λ (p : List Entry). KeepsTrace (seen_of old).progress.past p log log) (sym past)
      (λ hello first shown. shown)) idle.ready)
      (idle_still old mid link idle s) past

  pub call_ok : (c : Call) (old mid : SessionValue) (link : LinkView S) → IsIdle (run_state (seen_of old) link)
      → MayDo (makes c) (seen_of old).progress.past
      → StepsIdly old mid → are_ok (with_call mid.work.calls 0 c) ≡ true
  call_ok c old mid link idle may s =
      let lanes : mid.lanes ≡ one_lane = (idle_still old mid link idle s).lanes in
      let past : past_of mid.work ≡ (seen_of old).progress.past = ap (λ (x : RunProgress). x.past) s.same in
      may_add mid.work.calls (past_of mid.work) c (subst (λ (p : List Entry). MayDo (makes c) p) (sym past) may)
      (s.count ∙ ap length lanes)
      (λ lane. s.each lane ∙ ap (λ (l : List Lane). calls_of (slice_get l lane)
      ++ calls_added_to (past_of mid.work) lane) lanes)

  pub call_stopped : (c : Call) (old mid : SessionValue) (link : LinkView S) {b : RunState S} {e : Error}
      → IsIdle (run_state (seen_of old) link)
      → StepsIdly old mid → RunsPart (call_of 0 c) (run_state (seen_of mid) link) b (Err e)
      → DoesBySession (makes c) pure (run_state (seen_of old) link) b (Err e)
  call_stopped c old mid link idle s part = then_on (stepped (makes c) old mid link idle s) (part_stopped part)

  pub call_done : (c : Call) (old mid : SessionValue) (link : LinkView S) {b : RunState S}
      → IsIdle (run_state (seen_of old) link) → StepsIdly old mid
      → RunsPart (call_of 0 c) (run_state (seen_of mid) link) b (Ok tt)
      → (os : List Outcome) (p : Outcome) (found : Found)
      → os ≡ outcomes_of b.seen.progress.past 0 → Some p ≡ slice_get os (length os - 1) → found ≡ found_in p
      → DoesBySession (makes c) pure (run_state (seen_of old) link) b (Ok found)
  call_done c old mid link idle s part os p found are there is =
      then_on (stepped (makes c) old mid link idle s)
      (call_runs c (idle_still old mid link idle s) part found
      (λ o more. is ∙ ap found_in (newest os (outcomes_of (seen_of mid).progress.past 0) o p (are ∙ more) there)))

  -- what it brought was lost for want of memory
  pub call_lost : (c : Call) (old mid : SessionValue) (link : LinkView S) {b : RunState S}
      → IsIdle (run_state (seen_of old) link) → StepsIdly old mid
      → RunsPart (call_of 0 c) (run_state (seen_of mid) link) b (Ok tt)
      → DoesBySession (makes c) pure (run_state (seen_of old) link) b (Err error.OutOfMemory)
  call_lost c old mid link idle s part = then_on (stepped (makes c) old mid link idle s) (part_no_room part)

  pub call_ended : (c : Call) (old mid : SessionValue) (link : LinkView S) {b : RunState S}
      → IsIdle (run_state (seen_of old) link) → StepsIdly old mid
      → RunsPart (call_of 0 c) (run_state (seen_of mid) link) b (Ok tt) → (os : List Outcome)
      → os ≡ outcomes_of b.seen.progress.past 0 → None ≡ slice_get os (length os - 1) → ⊥
  call_ended c old mid link idle s part os are none =
      let once = went_once c (run_state (seen_of mid) link) _ (idle_still old mid link idle s) part.went in
      some_newest os (outcomes_of (seen_of mid).progress.past 0) once.outcome (are ∙ once.outcomes) none
