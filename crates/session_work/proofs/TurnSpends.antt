-- A turn of a lane leaves its session with no more ids than its lanes may keep.
use Rattle.std.proofs.Common.{
  ◌≡◌,
  ◌<◌,
  ◌≤◌,
  ◌+◌,
  ℕ,
  Bool,
  true,
  false,
  List,
  [],
  ◌∷◌,
  Option,
  Some,
  None,
  refl,
  ap,
  sym,
  ◌∙◌,
  subst,
  arith,
  inl,
  inr,
}
use Rattle.std.specs.Prelude.{◌⊎◌, length, slice_get}
use Rattle.sftp_model.specs.declared.reply.Reply.{Reply}
use Rattle.sftp_model.specs.declared.reply.Reply.TheVariants as reply
use Rattle.sftp_model.specs.declared.request.Request.{Request}
use Rattle.sftp_model.specs.declared.slot.Site.{Site}
use Rattle.sftp_model.specs.declared.slot.Move.TheVariants.{Ask}
use Rattle.sftp_core.specs.Core.{Core, record_at}
use Rattle.sftp_core.specs.declared.id_record.IdRecord.TheVariants.{Granted}
use Rattle.sftp_core.specs.Table.{handle_in_reply}
use Rattle.plan_model.specs.Moves.{Own}
use Rattle.plan_runner.specs.declared.next.Asked.{Asked as Ask_of}
use Rattle.plan_runner.specs.declared.next.Next.{Next}
use Rattle.plan_runner.specs.declared.next.Next.TheVariants as step
use Rattle.plan_runner.specs.declared.next.Running.{Running}
use Rattle.plan_runner.specs.Asking.{
  AsksOrDefers,
  BeginsAsking,
  GoesOnAsking,
  GoesOnBy,
  LooksForReply,
  OwnOn,
  ReadsOn,
  WidensAsking,
  is_window,
  opened_after,
  opened_by,
}
use Rattle.plan_runner.specs.Runners.{awaited_place}
use Rattle.plan_runner.specs.Pending.{own_place, reads_under}
use Rattle.plan_model.specs.declared.call.Call.{Call}
use Rattle.session_model.specs.declared.entry.Entry.{Entry}
use Rattle.session_model.specs.Readings.{answer, count_submitted, asked_at, count_ended, own}
use Rattle.session_model.specs.Calls.{Setting, current, move_at, move_of, site_of}
use Rattle.session_model.specs.Grants.{is_asked_by, is_grant, is_granted}
use Rattle.session_laws.specs.Changes.{with_lane}
use Rattle.session_laws.specs.Lanes.{AtTied, Held, LaneTied, LaneValue, Ticketed, ticket_places}
use Rattle.session_laws.specs.Places.{is_in}
use Rattle.session_laws.specs.Running.{own_request}
use Rattle.session_laws.proofs.HoldLaws.{of_in, ticket_index}
use Rattle.session_laws.proofs.LaneLaws.{grants_count, replies_agree}
use Rattle.session_laws.proofs.PlaceLaws.{at_in}
use Rattle.session_laws.specs.Budgets.{CallSpends, KeepsIdBudget, kept_ids, makes_many, stands_in}
use Rattle.session_laws.specs.Rest.{AtRest, LaneAsks}
use Rattle.session_laws.proofs.AskedLaws.{awaits_own, granted_own}
use Rattle.session_laws.proofs.BudgetLaws.{spends_with}
use Rattle.session_laws.proofs.KeptLaws.{kept_polled}
use Rattle.session_work.specs.Rests.{AsksFew}
use Rattle.session_work.specs.Turning.{
  IsActive,
  SettlesMove,
  TurnBegins,
  TurnReplied,
  TurnUnreplied,
  TurnWidens,
  TurnsLane,
  Begun,
  Replied,
  Unreplied,
  Waiting as StillWaiting,
  Widening,
}
use Rattle.session_work.specs.declared.lane.Moved.{Moved}
use Rattle.session_work.specs.declared.lane.Moved.TheVariants as moved
use Rattle.session_work.proofs.Growth.{
  AskGrows,
  WaitGrows,
  begins_grow,
  begins_wait,
  granted_grows,
  plain_grows,
  plain_waits,
  unreplied_grows,
  unreplied_waits,
  widened_grows,
}
use Rattle.session_work.proofs.OneByOne.{is_whole, one_by_one}
use Rattle.session_work.proofs.Spending.{after_none, awaited_first, opened_none, own_no_window}
use Rattle.session_work.proofs.EntrySpends.{
  SpendsOn,
  AskMoves,
  submits_kept,
  asks_kept,
  only_one,
  asked_spends,
  went_spends,
  done_spends,
  held_by,
}
use Rattle.plan_model.specs.CallPlans.{next}

-- ---- each kind of turn

begun_spends : (s : Setting) (past : List Entry) (core new : Core) (lanes : ℕ → LaneValue) (begun : ℕ → Bool) (lane : ℕ)
    (c : Call) (now : LaneValue) (m : Moved) → AtRest s past core lanes begun → lane < length s.lanes
    → current s past lane ≡ Some c → AsksFew s past lane c → AskMoves s past lane m
    → TurnBegins c s.facts (count_submitted past) core new (lanes lane) now m → SpendsOn s past new lanes lane now m
begun_spends s past core new lanes begun lane c now m h there is few move x =
    by_answer x.answer m x.asks x.own x.settles move
  where
    v : LaneValue
    v = lanes lane

    l : LaneTied s past lane v []
    l = h.between.tied.each lane there

    mine : Own
    mine = own past lane (count_ended past lane)

    none : mine ≡ []
    none = (subst (λ (o : Option Running). AtTied s past lane o v.site) x.was l.goes.runs).0

    stands : (k : ℕ) (g : Held) → slice_get v.grants k ≡ Some g → record_at core g.grant.id
        ≡ Some (Granted g.grant.handle 1)
    stands k g got = grants_count s past core lanes [] lane k g h.between.tied there got

    by_answer : (n : Next) (m : Moved) → BeginsAsking None (count_submitted past) v.site now.site n
        → (makes_many c ≡ true → OwnOn (count_submitted past) n)
        → SettlesMove core new v.tickets now.tickets v.grants now.grants
        now.running (count_submitted past) n m → AskMoves s past lane m
        → SpendsOn s past new lanes lane now m
    by_answer (step.Ask a r) (moved.Asked id q) asks own_on settles move =
        asked_spends s past core new lanes lane id c q a r now None [] v.site 1 h.between.spends there is (few q move)
        asks
        (subst (λ (o : Option Running). AskGrows s.facts c mine o (count_submitted past, q) r 1) (sym x.was)
        (begins_grow s.facts c mine (count_submitted past) q r none own_on (opened_none r None asks.keeps refl)))
        settles.1
        (asks_kept core new v.tickets now.tickets v.grants now.grants (count_submitted past) a id q stands settles.0)
    by_answer (step.Ask a r) moved.Waits asks own_on settles move = absurd settles
    by_answer (step.Ask a r) moved.Went asks own_on settles move = absurd settles
    by_answer (step.Ask a r) (moved.Ended o) asks own_on settles move = absurd settles
    by_answer (step.Wait r) m asks own_on settles move =
        subst (λ (y : Moved). SpendsOn s past new lanes lane now y) (sym settles.2)
        (went_spends s past core new lanes lane c r now 0 h.between.spends there is
        (subst (λ (o : Option Running). WaitGrows s.facts c mine o r 0) (sym x.was)
        (begins_wait s.facts c mine now.site r none (λ many. own_on many) asks.0)) settles.1
        (let same = ap kept_ids settles.0.core in omega (arith, same)))
    by_answer (step.Done o) m asks own_on settles move =
        subst (λ (y : Moved). SpendsOn s past new lanes lane now y) (sym settles.2)
        (done_spends s past core new lanes lane c o now h.between.spends there is
        (let same = ap kept_ids settles.0.core in omega (arith, same)))

replied_spends : (s : Setting) (past : List Entry) (core new : Core) (lanes : ℕ → LaneValue) (begun : ℕ → Bool)
    (lane : ℕ) (c : Call) (now : LaneValue) (m : Moved) → AtRest s past core lanes begun → lane < length s.lanes
    → current s past lane ≡ Some c → AsksFew s past lane c → AskMoves s past lane m
    → TurnReplied c s.facts (count_submitted past) core new (lanes lane) now m → SpendsOn s past new lanes lane now m
replied_spends s past core new lanes begun lane c now m h there is few move x =
    by_answer x.answer m x.asks x.by x.settles move
  where
    v : LaneValue
    v = lanes lane

    l : LaneTied s past lane v []
    l = h.between.tied.each lane there

    mine : Own
    mine = own past lane (count_ended past lane)

    holds : CallSpends s.facts c mine x.running
    holds = held_by s past core lanes lane c x.running h.between.spends there is x.was

    polled : (kept_ids x.between ≤ kept_ids core) × (handle_in_reply x.reply ≡ None
        → kept_ids x.between + 1 ≤ kept_ids core)
    polled = subst (λ (y : Core). (kept_ids y ≤ kept_ids core)
        × (handle_in_reply x.reply ≡ None → kept_ids y + 1 ≤ kept_ids core))
        (sym x.spent.core) (kept_polled core x.spent.ticket x.reply x.spent.came)

    spent : Ticketed
    spent = record { place = x.awaits; ticket = x.spent.ticket }

    has : is_in x.awaits (ticket_places v.tickets) ≡ true
    has = at_in (ticket_places v.tickets) x.spent.k x.awaits (ticket_index v.tickets x.spent.k spent x.spent.here)

    -- a HANDLE came to the call's first request, which is its last
    first : (handle : List ℕ) → handle_in_reply x.reply ≡ Some handle → (own_place (Some x.running) ≡ Some x.awaits)
        × (length mine ≡ 1)
    first handle some =
        (let got : answer past x.awaits ≡ Some x.reply = sym (replies_agree s past core lanes [] lane x.spent.k spent
        h.between.tied there x.spent.here) ∙ x.spent.came in
        let grant : is_grant past x.awaits ≡ true = ap is_granted got ∙ brought x.reply handle some in
        let a : LaneAsks past lane v = h.between.asks lane there in
        let awaits : own_place v.running ≡ Some x.awaits = granted_own s past lane x.awaits v h.between.good.run a has
        grant in
        let mine_at : own_place (Some x.running) ≡ Some x.awaits = ap own_place (sym x.was) ∙ awaits in
        let asker : is_asked_by (asked_at past x.awaits) lane (count_ended past lane) ≡ true =
        awaits_own past lane x.awaits v l.ends a awaits in
        let who = of_in past lane (ticket_places v.tickets) x.awaits l.holds.tied_of has in (
          mine_at,
          only_one s past lane x.awaits who.0 h.between.good.run who.1.0 grant asker
              (holds.last x.awaits mine_at),
        ))
      where
        brought : (y : Reply) (handle : List ℕ) → handle_in_reply y ≡ Some handle → is_granted (Some y) ≡ true
        brought (reply.Handle other) handle e = refl
        brought other handle e = absurd cc

    asked_by : (a : Ask_of) (r : Running) (id : ℕ) (q : Request)
        → AsksOrDefers (opened_after x.running (Some x.reply)) (count_submitted past) (reads_under (Some x.running))
        v.site
        now.site a r → GoesOnBy x.running (Some x.reply) (count_submitted past) s.facts (step.Ask a r)
        → now.running ≡ Some r → kept_ids new ≤ kept_ids x.between + 1 → move_of s past lane ≡ Some (Ask q)
        → KeepsIdBudget s (own_request past lane id q ∷ past) new (with_lane lanes lane now)
    asked_by a r id q asks by was less move = by_brought (handle_in_reply x.reply) refl
      where
        on : (d : ℕ) → AskGrows s.facts c mine (Some x.running) (count_submitted past, q) r d
            → kept_ids new ≤ kept_ids core + d
            → KeepsIdBudget s (own_request past lane id q ∷ past) new (with_lane lanes lane now)
        on d grows le =
            asked_spends s past core new lanes lane id c q a r now (opened_after x.running (Some x.reply))
            (reads_under (Some x.running)) v.site d h.between.spends there is (few q move) asks
            (subst (λ (o : Option Running). AskGrows s.facts c mine o (count_submitted past, q) r d) (sym x.was) grows)
            was le

        by_brought : (b : Option (List ℕ)) → handle_in_reply x.reply ≡ b
            → KeepsIdBudget s (own_request past lane id q ∷ past) new (with_lane lanes lane now)
        by_brought (Some handle) some =
            (let f = first handle some in let le = polled.0 in
            on 1 (granted_grows s.facts c mine x.running x.reply (count_submitted past) q a r x.awaits f.0 f.1 by)
            (omega (arith, less, le)))
        by_brought None none =
            (let le = polled.1 none in
            on 0 (plain_grows s.facts c mine x.running v.site x.reply (count_submitted past) q a r x.awaits holds
            x.looks none asks.keeps by) (omega (arith, less, le)))

    waits_by : (r : Running) → LooksForReply (opened_after x.running (Some x.reply)) (reads_under (Some x.running))
        now.site r
        → GoesOnBy x.running (Some x.reply) (count_submitted past) s.facts (step.Wait r) → now.running ≡ Some r → new
        ≡ x.between
        → KeepsIdBudget s past new (with_lane lanes lane now)
    waits_by r looks by was same =
        elim (plain_waits s.facts c mine x.running v.site now.site x.reply (count_submitted past) x.awaits
        (reads_under (Some x.running)) r holds x.looks plain looks by) [
          | inl grows ↦ on 0 grows (let le = polled.0 in let eq = ap kept_ids same in omega (arith, le, eq))
          | inr grows ↦ on 1 grows.1 (let le = polled.1 grows.0 in let eq = ap kept_ids same in omega (arith, le, eq))
        ]
      where
        on : (e : ℕ) → WaitGrows s.facts c mine (Some x.running) r e → kept_ids new + e ≤ kept_ids core
            → KeepsIdBudget s past new (with_lane lanes lane now)
        on e grows le = went_spends s past core new lanes lane c r now e h.between.spends there is
            (subst (λ (o : Option Running). WaitGrows s.facts c mine o r e) (sym x.was) grows) was le

        plain : (handle_in_reply x.reply ≡ None) ⊎ (is_window x.running ≡ false)
        plain = by_brought (handle_in_reply x.reply) refl
          where
            by_brought : (b : Option (List ℕ)) → handle_in_reply x.reply ≡ b → (handle_in_reply x.reply ≡ None)
                ⊎ (is_window x.running ≡ false)
            by_brought None e = inl e
            by_brought (Some handle) e = inr (own_no_window x.running x.awaits (first handle e).0)

    by_answer : (n : Next) (m : Moved) → GoesOnAsking (opened_after x.running (Some x.reply)) (count_submitted past)
        (reads_under (Some x.running)) v.site now.site n → GoesOnBy x.running (Some x.reply) (count_submitted past)
        s.facts n
        → SettlesMove x.between new x.tickets now.tickets x.grants now.grants now.running (count_submitted past) n m
        → AskMoves s past lane m → SpendsOn s past new lanes lane now m
    by_answer (step.Ask a r) (moved.Asked id q) asks by settles move =
        asked_by a r id q asks.0 by settles.1 (submits_kept x.between new x.tickets now.tickets x.grants now.grants
        (count_submitted past) a id q asks.1 settles.0) move
    by_answer (step.Ask a r) moved.Waits asks by settles move = absurd settles
    by_answer (step.Ask a r) moved.Went asks by settles move = absurd settles
    by_answer (step.Ask a r) (moved.Ended o) asks by settles move = absurd settles
    by_answer (step.Wait r) m asks by settles move = subst (λ (y : Moved). SpendsOn s past new lanes lane now y)
        (sym settles.2) (waits_by r asks.0 by settles.1 settles.0.core)
    by_answer (step.Done o) m asks by settles move =
        subst (λ (y : Moved). SpendsOn s past new lanes lane now y) (sym settles.2)
        (done_spends s past core new lanes lane c o now h.between.spends there is
        (let same = ap kept_ids settles.0.core in let le = polled.0 in omega (arith, same, le)))

unreplied_spends : (s : Setting) (past : List Entry) (core new : Core) (lanes : ℕ → LaneValue) (begun : ℕ → Bool)
    (lane : ℕ) (c : Call) (now : LaneValue) (m : Moved) → AtRest s past core lanes begun → lane < length s.lanes
    → current s past lane ≡ Some c → AsksFew s past lane c → AskMoves s past lane m
    → TurnUnreplied c s.facts (count_submitted past) core new (lanes lane) now m → SpendsOn s past new lanes lane now m
unreplied_spends s past core new lanes begun lane c now m h there is few move x =
    by_answer x.answer m (subst (λ (o : Option ℕ). GoesOnAsking o (count_submitted past) (reads_under (Some x.running))
    (lanes lane).site now.site x.answer) (after_none x.running) x.asks) x.by x.settles move
  where
    v : LaneValue
    v = lanes lane

    mine : Own
    mine = own past lane (count_ended past lane)

    holds : CallSpends s.facts c mine x.running
    holds = held_by s past core lanes lane c x.running h.between.spends there is x.was

    by_answer : (n : Next) (m : Moved) → GoesOnAsking (opened_by x.running) (count_submitted past)
        (reads_under (Some x.running))
        v.site now.site n → GoesOnBy x.running None (count_submitted past) s.facts n
        → SettlesMove core new v.tickets now.tickets v.grants now.grants now.running (count_submitted past) n m
        → AskMoves s past lane m → SpendsOn s past new lanes lane now m
    by_answer (step.Ask a r) (moved.Asked id q) asks by settles move =
        asked_spends s past core new lanes lane id c q a r now (opened_by x.running) (reads_under (Some x.running))
        v.site 1 h.between.spends there is (few q move) asks.0
        (subst (λ (o : Option Running). AskGrows s.facts c mine o (count_submitted past, q) r 1) (sym x.was)
        (unreplied_grows s.facts c mine x.running v.site (count_submitted past) q a r holds (few q move) x.looks
        asks.0.keeps
        by)) settles.1
        (submits_kept core new v.tickets now.tickets v.grants now.grants (count_submitted past) a id q asks.1 settles.0)
    by_answer (step.Ask a r) moved.Waits asks by settles move = absurd settles
    by_answer (step.Ask a r) moved.Went asks by settles move = absurd settles
    by_answer (step.Ask a r) (moved.Ended o) asks by settles move = absurd settles
    by_answer (step.Wait r) m asks by settles move =
        subst (λ (y : Moved). SpendsOn s past new lanes lane now y) (sym settles.2)
        (went_spends s past core new lanes lane c r now 0 h.between.spends there is
        (subst (λ (o : Option Running). WaitGrows s.facts c mine o r 0) (sym x.was)
        (unreplied_waits s.facts c mine x.running v.site now.site (count_submitted past) (reads_under (Some x.running))
        r
        holds x.looks asks.0 by)) settles.1
        (let same = ap kept_ids settles.0.core in omega (arith, same)))
    by_answer (step.Done o) m asks by settles move =
        subst (λ (y : Moved). SpendsOn s past new lanes lane now y) (sym settles.2)
        (done_spends s past core new lanes lane c o now h.between.spends there is
        (let same = ap kept_ids settles.0.core in omega (arith, same)))

-- a call that asks one by one asks nothing while the reply that it awaits is missing
alone : (s : Setting) (past : List Entry) (lane p : ℕ) (c : Call) (r : Running) (q : Request) (site : Site)
    → current s past lane ≡ Some c → CallSpends s.facts c (own past lane (count_ended past lane)) r
    → awaited_place r site ≡ Some p
    → answer past p ≡ None → move_of s past lane ≡ Some (Ask q)
    → is_window r ≡ true → makes_many c ≡ true → is_whole c ≡ false → ⊥
alone s past lane p c r q site is holds at missing move window many narrow =
    (let mine : Own = own past lane (count_ended past lane) in
    let moves : move_at (Some c) (site_of s past lane) s.facts mine (answer past) ≡ Some (Ask q) =
    ap (λ (x : Option Call). move_at x (site_of s past lane) s.facts mine (answer past)) (sym is) ∙ move in
    let asks : next c (site_of s past lane) s.facts mine (answer past) ≡ Ask q = cc moves in
    let x = awaited_first r p site window at in
    let stands : stands_in mine p ≡ true = ap (stands_in mine) (sym x.1.1) ∙ (holds.reads window).mine x.0 x.1.0 in
    one_by_one c (site_of s past lane) s.facts mine (answer past) q many narrow asks p stands missing)

widened_spends : (s : Setting) (past : List Entry) (core new : Core) (lanes : ℕ → LaneValue) (begun : ℕ → Bool)
    (lane : ℕ) (c : Call) (now : LaneValue) (m : Moved) → AtRest s past core lanes begun → lane < length s.lanes
    → current s past lane ≡ Some c → AsksFew s past lane c → AskMoves s past lane m
    → TurnWidens c s.facts (count_submitted past) core new (lanes lane) now m → SpendsOn s past new lanes lane now m
widened_spends s past core new lanes begun lane c now m h there is few move x =
    by_answer x.answer m x.active x.asks x.reads x.settles move
  where
    v : LaneValue
    v = lanes lane

    mine : Own
    mine = own past lane (count_ended past lane)

    holds : CallSpends s.facts c mine x.running
    holds = held_by s past core lanes lane c x.running h.between.spends there is x.was

    missing : answer past x.ticket.place ≡ None
    missing = sym (replies_agree s past core lanes [] lane x.k x.ticket h.between.tied there x.here) ∙ x.missing

    by_answer : (n : Next) (m : Moved) → IsActive n → WidensAsking x.running (count_submitted past) v.site n
        → (is_window x.running ≡ true → ReadsOn (count_submitted past) (reads_under (Some x.running)) s.facts n)
        → SettlesMove core new v.tickets now.tickets v.grants now.grants now.running (count_submitted past) n m
        → AskMoves s past lane m
        → SpendsOn s past new lanes lane now m
    by_answer (step.Ask a r) (moved.Asked id q) active asks reads settles move =
        asked_spends s past core new lanes lane id c q a r now (opened_by x.running) (reads_under (Some x.running))
        v.site 1 h.between.spends there is (few q move)
        (subst (λ (y : Site). AsksOrDefers (opened_by x.running) (count_submitted past) (reads_under (Some x.running))
        v.site y a r) (sym x.site) asks.1)
        (subst (λ (o : Option Running). AskGrows s.facts c mine o (count_submitted past, q) r 1) (sym x.was)
        (widened_grows s.facts c mine x.running (count_submitted past) q a r holds (few q move) asks.0 asks.1.keeps
        reads
        (λ window many narrow. alone s past lane x.ticket.place c x.running q v.site is holds x.looks missing move
        window many narrow))) settles.1
        (submits_kept core new v.tickets now.tickets v.grants now.grants (count_submitted past) a id q asks.2 settles.0)
    by_answer (step.Ask a r) moved.Waits active asks reads settles move = absurd settles
    by_answer (step.Ask a r) moved.Went active asks reads settles move = absurd settles
    by_answer (step.Ask a r) (moved.Ended o) active asks reads settles move = absurd settles
    by_answer (step.Wait r) m active asks reads settles move = absurd active
    by_answer (step.Done o) m active asks reads settles move =
        subst (λ (y : Moved). SpendsOn s past new lanes lane now y) (sym settles.2)
        (done_spends s past core new lanes lane c o now h.between.spends there is
        (let same = ap kept_ids settles.0.core in omega (arith, same)))

-- ---- any turn

pub turn_spends : (s : Setting) (past : List Entry) (core new : Core) (lanes : ℕ → LaneValue) (begun : ℕ → Bool)
    (lane : ℕ) (c : Call) (now : LaneValue) (m : Moved) → AtRest s past core lanes begun → lane < length s.lanes
    → current s past lane ≡ Some c → AsksFew s past lane c → AskMoves s past lane m
    → TurnsLane c s.facts (count_submitted past) core new (lanes lane) now m → SpendsOn s past new lanes lane now m
turn_spends s past core new lanes begun lane c now m h there is few move (Begun x) =
    begun_spends s past core new lanes begun lane c now m h there is few move x
turn_spends s past core new lanes begun lane c now m h there is few move (Replied x) =
    replied_spends s past core new lanes begun lane c now m h there is few move x
turn_spends s past core new lanes begun lane c now m h there is few move (Unreplied x) =
    unreplied_spends s past core new lanes begun lane c now m h there is few move x
turn_spends s past core new lanes begun lane c now m h there is few move (Widening x) =
    widened_spends s past core new lanes begun lane c now m h there is few move x
turn_spends s past core new lanes begun lane c now m h there is few move (StillWaiting x) =
    subst (λ (y : Moved). SpendsOn s past new lanes lane now y) (sym x.is)
    (spends_with s past past core new lanes lane now (λ l lt. refl) (ap (λ (y : LaneValue). y.running) x.same)
    (let same = ap kept_ids x.core in omega (arith, same)) h.between.spends)
