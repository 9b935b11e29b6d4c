-- Each turn of a lane keeps the session.
use Rattle.std.proofs.Common.{◌≡◌, ◌<◌, ℕ, Bool, true, false, List, [], ◌∷◌, ◌++◌, Option, Some, None, refl, ap, sym, ◌∙◌, subst, inl, inr, rules}
use Rattle.std.specs.Prelude.{IsSome, length, slice_get}
use Rattle.std.proofs.lemmas.Bool.Decides.{eqb_tells}
use Rattle.sftp_model.specs.declared.reply.Reply.{Reply}
use Rattle.sftp_model.specs.declared.request.Request.{Request}
use Rattle.sftp_model.specs.declared.slot.Move.{Move}
use Rattle.sftp_model.specs.declared.slot.Move.TheVariants.{Ask}
use Rattle.sftp_model.specs.declared.slot.Site.{Site}
use Rattle.sftp_core.specs.Core.{Core, after_poll, core_after_release}
use Rattle.sftp_core.specs.Info.{info_of}
use Rattle.sftp_core.specs.declared.handshake.Handshake.{Handshake}
use Rattle.plan_model.specs.Moves.{Plan, handle_of}
use Rattle.plan_runner.specs.Cancelling.{SiteAfterCancel}
use Rattle.plan_runner.specs.declared.next.Next.{Next}
use Rattle.plan_runner.specs.declared.next.Running.{Running}
use Rattle.plan_runner.specs.Runners.{RunsByPlan, awaited_place, bytes_of, request_with_handles, waits}
use Rattle.plan_model.specs.declared.call.Call.{Call}
use Rattle.session_model.specs.declared.entry.Entry.{Entry}
use Rattle.session_model.specs.Readings.{answer, count_submitted, last_cancel}
use Rattle.session_model.specs.Calls.{Setting, current}
use Rattle.session_model.specs.Grants.{is_grant, is_granted}
use Rattle.session_model.specs.Journals.{IsJournal}
use Rattle.session_laws.specs.Changes.{asking_lane, with_lane}
use Rattle.session_laws.specs.Dues.{AreDueGrants}
use Rattle.session_laws.specs.Going.{LaneGoesOn, RunnerStep, RunnerWidens}
use Rattle.session_laws.specs.Lanes.{CoreTied, Held, LaneGoes, LaneTied, LaneValue, MayGoOn as MayRun, SessionTied, Ticketed, ticket_places}
use Rattle.session_laws.specs.Places.{IsRising, is_in, without_index}
use Rattle.session_laws.specs.Running.{own_request}
use Rattle.session_laws.proofs.CloseLaws.{in_left}
use Rattle.session_laws.proofs.FilledLaws.{closes_agree}
use Rattle.session_laws.proofs.HoldLaws.{ticket_index, ticket_without}
use Rattle.session_laws.proofs.LaneLaws.{begin_lane, grants_count, missing_waits, replies_agree, reply_lane, tickets_count, unreplied_lane, widen_lane}
use Rattle.session_laws.proofs.PlaceLaws.{at_in, without_self}
use Rattle.session_laws.proofs.TurnLaws.{close_request_keeps}
use Rattle.session_work.specs.Tokens.{NamesHandles}
use Rattle.session_work.specs.Turning.{
  BeginsLaneCall,
  ClosesNothing,
  IsOpen,
  IsSoundRun,
  AnswersByPlan,
  ReleasesGrant,
  SettlesMove,
  TurnReplied,
  TurnWaits,
  TurnWidens,
  Begun,
  Replied,
  Unreplied,
  Waiting,
  AnswersUnreplied,
  Widening,
}
use Rattle.session_work.specs.Holding.{HandlesAreAwaited, HoldsLane, LanesMayTurn, TurnTied, TurnsKeep}
use Rattle.session_work.specs.declared.lane.Moved.{Moved}
use Rattle.session_work.specs.declared.lane.Moved.TheVariants as moved
use Rattle.session_work.proofs.AskLaws.{closes_nothing, widens_on}
use Rattle.session_work.proofs.Holding.{holds_of, with_again, with_here}
use Rattle.session_work.proofs.Polled.{polled_holds, polled_lane}
use Rattle.session_work.proofs.TurnLaws.{ask_tied, done_tied, filled_for, wait_tied}
use Rattle.sftp_model.specs.declared.request.Request.TheVariants as request
use Rattle.plan_runner.specs.declared.next.Asked.TheVariants as ask
use Rattle.plan_runner.specs.declared.next.Next.TheVariants as step
use Rattle.sftp_core.specs.declared.handshake.Handshake.TheVariants as phases
use Rattle.plan_model.specs.CallPlans.{next}

-- the clauses of a runner's answer, by the journal
step_of : (s : Setting) (past : List Entry) (c : Call) (plan : Plan) (leave : SiteAfterCancel) (before : ℕ → ℕ)
    (old new : Site)
    (n : Next) → AnswersByPlan c s.facts (count_submitted past) plan leave before old new n
    → RunnerStep s past c plan leave before old new n
step_of s past c plan leave before old new n ran = record {
  goes = ran.goes;
  left = ran.left;
  sound = ran.sound;
  pends =
      ran.pends;
}

-- ---- a runner's answer that asks no CLOSE

settled : (s : Setting) (past : List Entry) (c new : Core) (lanes : ℕ → LaneValue) (lane : ℕ) (now : LaneValue)
    (n : Next) (m : Moved) → HoldsLane s past c lanes lane [] → AreDueGrants s past [] → IsJournal s past
    → last_cancel past ≡ None
    → ((p : ℕ) → is_in p (ticket_places (lanes lane).tickets) ≡ true → is_grant past p ≡ false) → now.ended
    ≡ (lanes lane).ended → LaneGoesOn s past lane (ticket_places (lanes lane).tickets) now.site n → ClosesNothing n
    → SettlesMove c new (lanes lane).tickets now.tickets (lanes lane).grants now.grants now.running
    (count_submitted past) n m
    → TurnTied s past new (with_lane lanes lane) lane now m
settled s past c new lanes lane now (step.Wait r) m h d j calm none ee goes on is =
    subst (λ (x : Moved). TurnTied s past new (with_lane lanes lane) lane now x) (sym is.2)
    (wait_tied s past c new lanes lane now r h is.0.core is.0.pushed is.0.kept ee is.1 goes)
settled s past c new lanes lane now (step.Done o) m h d j calm none ee goes on is =
    subst (λ (x : Moved). TurnTied s past new (with_lane lanes lane) lane now x) (sym is.2)
    (done_tied s past c new lanes lane now o h d j calm none is.0.core is.0.pushed is.0.kept ee goes)
settled s past c new lanes lane now (step.Ask a r) moved.Waits h d j calm none ee goes on is = absurd is
settled s past c new lanes lane now (step.Ask a r) moved.Went h d j calm none ee goes on is = absurd is
settled s past c new lanes lane now (step.Ask a r) (moved.Ended o) h d j calm none ee goes on is = absurd is
settled s past c new lanes lane now (step.Ask (ask.Close g) r) (moved.Asked id q) h d j calm none ee goes on is =
    absurd on
settled s past c new lanes lane now (step.Ask a r) (moved.Asked id q) h d j calm none ee goes on is =
    ask_tied s past c new lanes lane id now a r q h is.0.plain is.0.filled is.0.free is.0.core is.0.pushed is.0.kept ee
    is.1 goes

-- ---- a call begins

-- with the CLOSE of a grant
close_begun : (s : Setting) (past : List Entry) (c new : Core) (lanes : ℕ → LaneValue) (lane g id : ℕ) (call : Call)
    (now : LaneValue) (r : Running) (q : Request) → SessionTied s past c lanes [] → lane < length s.lanes
    → current s past lane ≡ Some call → (lanes lane).running ≡ None
    → RunsByPlan (next call (lanes lane).site s.facts) (count_submitted past) (bytes_of call) now.site s.facts
    (step.Ask (ask.Close g) r) → now.ended ≡ (lanes lane).ended → now.running ≡ Some r
    → LaneGoesOn s past lane (ticket_places (lanes lane).tickets) now.site (step.Ask (ask.Close g) r)
    → ReleasesGrant c new (lanes lane).tickets now.tickets (lanes lane).grants now.grants (count_submitted past) g id q
    → TurnTied s past new (with_lane lanes lane) lane now (moved.Asked id q)
close_begun s past c new lanes lane g id call now r q h there is idle plan ee er goes x =
    let v : LaneValue = lanes lane in
    let l : LaneTied s past lane v [] = h.each lane there in
    let same : asking_lane v (count_submitted past) x.grant.id (without_index x.k v.grants) r now.site ≡ now =
    λ i. record {
      running = sym er i;
      site = now.site;
      tickets =
          (ap (λ (n : ℕ). v.tickets ++ (record { place = count_submitted past; ticket = n }) ∷ []) (sym x.same)
          ∙ sym x.pushed) i;
      grants = sym x.kept i;
      ended = sym ee i;
    } in
    let named : (answers : _) → NamesHandles v.grants answers → q ≡ request_with_handles (ask.Close g) answers =
    λ answers b. x.is
    ∙ ap (λ (o : Option Reply). request.Close (handle_of o))
    (sym (b x.k (record { place = g; grant = x.grant }) x.here)) in
    let f = filled_for s past lane v.tickets v.grants [] (ask.Close g) q l.holds named in
    let close : request.Close x.grant.handle ≡ request_with_handles (ask.Close g) (answer past) = sym x.is ∙ f.0 in (
      goes.0 ∙ ap (λ (y : Request). Some (Ask y)) (sym f.0),
      λ j. (let e : own_request past lane x.grant.id (request.Close x.grant.handle) ≡ own_request past lane id q =
          λ i. own_request past lane (sym x.same i) (sym x.is i) in
          subst (λ (y : Entry). SessionTied s (y ∷ past) new (with_lane lanes lane now) []) e
          (subst (λ (y : Core). SessionTied s (own_request past lane x.grant.id (request.Close x.grant.handle) ∷ past) y
          (with_lane lanes lane now) []) (sym x.core)
          (subst (λ (y : LaneValue). SessionTied s (own_request past lane x.grant.id (request.Close x.grant.handle) ∷
          past) (core_after_release c x.grant) (with_lane lanes lane y) []) same
          (close_request_keeps s past c lanes lane g x.k x.grant r now.site h there
          (subst (λ (y : Entry). IsJournal s (y ∷ past)) (sym e) j)
          (closes_agree s past lane g v [] call r now.site l is idle plan) x.here
          (subst (λ (y : Request). LaneGoes s (own_request past lane x.grant.id y ∷ past) lane (Some r) now.site
          (ticket_places v.tickets ++ count_submitted past ∷ [])) (sym close) (goes.1 x.grant.id f.1)))))),
    )

-- no HANDLE came that was not polled
no_handle : (past : List Entry) (lane : ℕ) (v : LaneValue) → HandlesAreAwaited past lane v → v.running ≡ None → (p : ℕ)
    → is_in p (ticket_places v.tickets) ≡ true → is_grant past p ≡ false
no_handle past lane v only idle p has = by_test (is_grant past p) refl
  where
    by_test : (b : Bool) → is_grant past p ≡ b → b ≡ false
    by_test true is = absurd (let a = only p has is in let clash : ◌≡◌ {A = Option Running} None (Some a.1.0) = sym idle
        ∙ a.1.1.0 in cc)
    by_test false is = refl

begun_by : (s : Setting) (past : List Entry) (c new : Core) (lanes : ℕ → LaneValue) (lane : ℕ) (call : Call)
    (now : LaneValue) (n : Next) (m : Moved) → SessionTied s past c lanes [] → lane < length s.lanes → IsJournal s past
    → last_cancel past ≡ None → AreDueGrants s past []
    → current s past lane ≡ Some call → HandlesAreAwaited past lane (lanes lane) → now.ended ≡ (lanes lane).ended
    → (lanes lane).running ≡ None → BeginsLaneCall call s.facts (count_submitted past) (lanes lane).site now.site n
    → LaneGoesOn s past lane (ticket_places (lanes lane).tickets) now.site n
    → SettlesMove c new (lanes lane).tickets now.tickets (lanes lane).grants now.grants now.running
    (count_submitted past) n m
    → TurnTied s past new (with_lane lanes lane) lane now m
begun_by s past c new lanes lane call now (step.Ask (ask.Close g) r) (moved.Asked id q) h there j calm d is only ee idle
    ran goes settles =
    close_begun s past c new lanes lane g id call now r q h there is idle ran.goes ee settles.1 goes settles.0
begun_by s past c new lanes lane call now (step.Ask (ask.Close g) r) moved.Waits h there j calm d is only ee idle ran
    goes settles = absurd settles
begun_by s past c new lanes lane call now (step.Ask (ask.Close g) r) moved.Went h there j calm d is only ee idle ran
    goes settles = absurd settles
begun_by s past c new lanes lane call now (step.Ask (ask.Close g) r) (moved.Ended o) h there j calm d is only ee idle
    ran goes settles = absurd settles
begun_by s past c new lanes lane call now (step.Ask a r) m h there j calm d is only ee idle ran goes settles =
    settled s past c new lanes lane now (step.Ask a r) m (holds_of s past c lanes lane [] h there) d j calm
    (no_handle past lane (lanes lane) only idle) ee goes tt settles
begun_by s past c new lanes lane call now (step.Wait r) m h there j calm d is only ee idle ran goes settles =
    settled s past c new lanes lane now (step.Wait r) m (holds_of s past c lanes lane [] h there) d j calm
    (no_handle past lane (lanes lane) only idle) ee goes tt settles
begun_by s past c new lanes lane call now (step.Done o) m h there j calm d is only ee idle ran goes settles =
    settled s past c new lanes lane now (step.Done o) m (holds_of s past c lanes lane [] h there) d j calm
    (no_handle past lane (lanes lane) only idle) ee goes tt settles

-- ---- a call goes on after its reply

-- without the ticket of the reply no HANDLE is left
none_left : (past : List Entry) (lane k : ℕ) (v : LaneValue) (t : Ticketed) (r : Running)
    → HandlesAreAwaited past lane v → v.running ≡ Some r → awaited_place r v.site ≡ Some t.place → slice_get v.tickets k
    ≡ Some t → IsRising (ticket_places v.tickets)
    → (p : ℕ) → is_in p (ticket_places (without_index k v.tickets)) ≡ true → is_grant past p ≡ false
none_left past lane k v t r only runs looks here rising p has = by_test (is_grant past p) refl
  where
    left : is_in p (without_index k (ticket_places v.tickets)) ≡ true
    left = ap (is_in p) (sym (ticket_without v.tickets k)) ∙ has

    by_test : (b : Bool) → is_grant past p ≡ b → b ≡ false
    by_test true is =
        absurd (let a = only p (in_left (ticket_places v.tickets) k p left) is in
        let one : r ≡ a.1.0 = (let e : ◌≡◌ {A = Option Running} (Some r) (Some a.1.0) = sym runs ∙ a.1.1.0 in cc) in
        let same : t.place ≡ p = (let e : ◌≡◌ {A = Option ℕ} (Some t.place) (Some p) = sym looks
        ∙ (ap (λ (x : Running). awaited_place x v.site) one ∙ a.1.1.1) in cc) in
        let clash : false ≡ true = sym (without_self (ticket_places v.tickets) k t.place rising
        (ticket_index v.tickets k t here)) ∙ (ap (λ (n : ℕ). is_in n (without_index k (ticket_places v.tickets))) same
        ∙ left) in cc)
    by_test false is = refl

replied_by : (s : Setting) (past : List Entry) (core new : Core) (lanes : ℕ → LaneValue) (lane : ℕ) (call : Call)
    (now : LaneValue) (m : Moved) → SessionTied s past core lanes [] → lane < length s.lanes → IsJournal s past
    → last_cancel past ≡ None → AreDueGrants s past []
    → current s past lane ≡ Some call → HandlesAreAwaited past lane (lanes lane)
    → TurnReplied call s.facts (count_submitted past) core new (lanes lane) now m
    → TurnTied s past new (with_lane lanes lane) lane now m
replied_by s past core new lanes lane call now m h there j calm d is only x =
    let v : LaneValue = lanes lane in
    let l : LaneTied s past lane v [] = h.each lane there in
    let k : ℕ = x.spent.k in
    let t : Ticketed = record { place = x.awaits; ticket = x.spent.ticket } in
    let u : LaneValue = polled_lane v k t x.reply in
    let after : ℕ → LaneValue = with_lane lanes lane u in
    let got : answer past t.place ≡ Some x.reply = sym (replies_agree s past core lanes [] lane k t h there
    x.spent.here) ∙ x.spent.came in
    let has : is_in t.place (ticket_places v.tickets) ≡ true =
    at_in (ticket_places v.tickets) k t.place (ticket_index v.tickets k t x.spent.here) in
    let p : HoldsLane s past (after_poll core t.ticket) after lane [] =
    polled_holds s past core lanes lane k t x.reply h there j x.spent.here x.spent.came
    (λ e. (only t.place has (ap is_granted got ∙ e)).0) in
    let goes : LaneGoesOn s past lane (ticket_places u.tickets) now.site x.answer =
    subst (λ (ps : List ℕ). LaneGoesOn s past lane ps now.site x.answer) (sym (ticket_without v.tickets k))
    (reply_lane s past lane k v [] call x.running t x.reply now.site x.answer l is x.was x.spent.here x.looks got
    (step_of s past call _ _ _ v.site now.site x.answer x.ran)) in
    let settles : SettlesMove (after_poll core t.ticket) new u.tickets now.tickets u.grants now.grants now.running
    (count_submitted past) x.answer m =
    subst (λ (y : Core). SettlesMove y new u.tickets now.tickets u.grants now.grants now.running (count_submitted past)
    x.answer m) x.spent.core
    (subst (λ (ts : List Ticketed). SettlesMove x.between new ts now.tickets u.grants now.grants now.running
    (count_submitted past) x.answer m) x.spent.rest
    (subst (λ (gs : List Held). SettlesMove x.between new x.tickets now.tickets gs now.grants now.running
    (count_submitted past) x.answer m) x.spent.now x.settles)) in
    let here : u ≡ after lane = sym (with_here lanes lane u) in
    let none : (q : ℕ) → is_in q (ticket_places u.tickets) ≡ true → is_grant past q ≡ false =
    none_left past lane k v t x.running only x.was x.looks x.spent.here l.holds.tied_rise in
    let lanes_same : with_lane after lane ≡ with_lane lanes lane = λ i w. with_again lanes lane u w i in
    subst (λ (f : LaneValue → ℕ → LaneValue). TurnTied s past new f lane now m) lanes_same
    (settled s past (after_poll core t.ticket) new after lane now x.answer m p d j calm
    (subst (λ (y : LaneValue). (q : ℕ) → is_in q (ticket_places y.tickets) ≡ true → is_grant past q ≡ false) here none)
    (x.ended ∙ ap (λ (y : LaneValue). y.ended) here)
    (subst (λ (y : LaneValue). LaneGoesOn s past lane (ticket_places y.tickets) now.site x.answer) here goes)
    (closes_nothing _ _ _ _ _ x.answer x.asks)
    (subst (λ (y : LaneValue). SettlesMove (after_poll core t.ticket) new y.tickets now.tickets y.grants now.grants
    now.running (count_submitted past) x.answer m) here settles))

-- no reply is awaited, so no HANDLE is
none_awaited : (past : List Entry) (lane : ℕ) (v : LaneValue) (r : Running) → HandlesAreAwaited past lane v → v.running
    ≡ Some r → awaited_place r v.site ≡ None → (p : ℕ) → is_in p (ticket_places v.tickets) ≡ true → is_grant past p
    ≡ false
none_awaited past lane v r only runs looks p has = by_test (is_grant past p) refl
  where
    by_test : (b : Bool) → is_grant past p ≡ b → b ≡ false
    by_test true is =
        absurd (let a = only p has is in
        let one : r ≡ a.1.0 = (let e : ◌≡◌ {A = Option Running} (Some r) (Some a.1.0) = sym runs ∙ a.1.1.0 in cc) in
        let clash : ◌≡◌ {A = Option ℕ} None (Some p) = sym looks
        ∙ (ap (λ (x : Running). awaited_place x v.site) one ∙ a.1.1.1) in cc)
    by_test false is = refl

-- the reply that is awaited is missing, so no HANDLE came
none_missing : (past : List Entry) (lane : ℕ) (v : LaneValue) (r : Running) (place : ℕ) → HandlesAreAwaited past lane v
    → v.running ≡ Some r → awaited_place r v.site ≡ Some place → answer past place ≡ None → (p : ℕ)
    → is_in p (ticket_places v.tickets) ≡ true → is_grant past p ≡ false
none_missing past lane v r place only runs looks missing p has = by_test (is_grant past p) refl
  where
    by_test : (b : Bool) → is_grant past p ≡ b → b ≡ false
    by_test true is =
        absurd (let a = only p has is in
        let one : r ≡ a.1.0 = (let e : ◌≡◌ {A = Option Running} (Some r) (Some a.1.0) = sym runs ∙ a.1.1.0 in cc) in
        let same : place ≡ p = (let e : ◌≡◌ {A = Option ℕ} (Some place) (Some p) = sym looks
        ∙ (ap (λ (x : Running). awaited_place x v.site) one ∙ a.1.1.1) in cc) in
        let clash : false ≡ true = sym (ap is_granted (sym (ap (answer past) same) ∙ missing)) ∙ is in cc)
    by_test false is = refl

-- the clauses of an answer that came meanwhile, by the journal
widens_of : (s : Setting) (past : List Entry) (c : Call) (r : Running) (site : Site) (n : Next)
    → AnswersUnreplied r c s.facts (count_submitted past) site n → RunnerWidens s past c r site n
widens_of s past c r site n ran = record { goes = ran.goes; left = ran.left; sound = ran.sound; pends = ran.pends }

widened_by : (s : Setting) (past : List Entry) (core new : Core) (lanes : ℕ → LaneValue) (lane : ℕ) (call : Call)
    (now : LaneValue) (m : Moved) → SessionTied s past core lanes [] → lane < length s.lanes → IsJournal s past
    → last_cancel past ≡ None → AreDueGrants s past []
    → current s past lane ≡ Some call → HandlesAreAwaited past lane (lanes lane)
    → TurnWidens call s.facts (count_submitted past) core new (lanes lane) now m
    → TurnTied s past new (with_lane lanes lane) lane now m
widened_by s past core new lanes lane call now m h there j calm d is only x =
    let v : LaneValue = lanes lane in
    let missing : answer past x.ticket.place ≡ None = sym (replies_agree s past core lanes [] lane x.k x.ticket h there
    x.here) ∙ x.missing in
    let goes : LaneGoesOn s past lane (ticket_places v.tickets) now.site x.answer =
    subst (λ (y : Site). LaneGoesOn s past lane (ticket_places v.tickets) y x.answer) (sym x.site)
    (widen_lane s past lane x.ticket.place v [] call x.running x.answer (h.each lane there) is x.was x.looks missing
    (widens_of s past call x.running v.site x.answer x.ran)) in
    settled s past core new lanes lane now x.answer m (holds_of s past core lanes lane [] h there) d j calm
    (none_missing past lane v x.running x.ticket.place only x.was x.looks missing) x.ended goes
    (closes_nothing _ _ _ _ _ x.answer (widens_on x.running (count_submitted past) v.site x.answer x.active x.asks))
    x.settles

-- ---- a turn

with_same : (lanes : ℕ → LaneValue) (lane w : ℕ) → lanes w ≡ with_lane lanes lane (lanes lane) w
with_same lanes lane w = elim (eqb_tells lane w) [ inl t ↦ rw t.0 (ap lanes (sym t.1)) | inr t ↦ rw t.0 refl ]

waiting_by : (s : Setting) (past : List Entry) (core new : Core) (lanes : ℕ → LaneValue) (lane : ℕ) (call : Call)
    (now : LaneValue) (m : Moved) → SessionTied s past core lanes [] → lane < length s.lanes → current s past lane
    ≡ Some call → TurnWaits call s.facts core new (lanes lane) now m
    → TurnTied s past new (with_lane lanes lane) lane now m
waiting_by s past core new lanes lane call now m h there is x =
    let v : LaneValue = lanes lane in
    let missing : answer past x.ticket.place ≡ None = sym (replies_agree s past core lanes [] lane x.k x.ticket h there
    x.here) ∙ x.missing in
    let move = (missing_waits s past lane x.ticket.place v [] call x.running (h.each lane there) is x.was x.looks).1
    missing in
    subst (λ (y : Moved). TurnTied s past new (with_lane lanes lane) lane now y) (sym x.is) (
      (
        x.ticket.place,
        move ∙ ap (λ (y : Move). Some y) (x.idles (answer past)
            ∙ ap (λ (o : Option ℕ). waits o v.site) x.looks),
      ),
      subst (λ (y : Core). SessionTied s past y (with_lane lanes lane now) []) (sym x.core)
          (subst (λ (y : LaneValue). SessionTied s past core (with_lane lanes lane y) []) (sym x.same)
          (subst (λ (f : ℕ → LaneValue). SessionTied s past core f []) (λ i w. with_same lanes lane w i) h)),
    )

pub turns_keep : TurnsKeep
turns_keep s past core new lanes lane c now m h there j calm d is only (Begun x) =
    begun_by s past core new lanes lane c now x.answer m h there j calm d is only x.ended x.was x.ran
    (begin_lane s past lane (lanes lane) [] c now.site x.answer (h.each lane there) is x.was
    (step_of s past c _ _ _ (lanes lane).site now.site x.answer x.ran)) x.settles
turns_keep s past core new lanes lane c now m h there j calm d is only (Replied x) =
    replied_by s past core new lanes lane c now m h there j calm d is only x
turns_keep s past core new lanes lane c now m h there j calm d is only (Unreplied x) =
    settled s past core new lanes lane now x.answer m (holds_of s past core lanes lane [] h there) d j calm
    (none_awaited past lane (lanes lane) x.running only x.was x.looks) x.ended
    (unreplied_lane s past lane (lanes lane) [] c x.running now.site x.answer (h.each lane there) is x.was x.looks
    (step_of s past c _ _ _ (lanes lane).site now.site x.answer x.ran)) (closes_nothing _ _ _ _ _ x.answer x.asks)
    x.settles
turns_keep s past core new lanes lane c now m h there j calm d is only (Widening x) =
    widened_by s past core new lanes lane c now m h there j calm d is only x
turns_keep s past core new lanes lane c now m h there j calm d is only (Waiting x) =
    waiting_by s past core new lanes lane c now m h there is x

-- ---- what a turn asks for

open_is : (s : Setting) (past : List Entry) (core : Core) → CoreTied s past core → IsOpen core
open_is s past core t = record {
  unfailed = t.unfailed;
  ready =
      subst (λ (p : Handshake). IsSome (info_of p)) (sym t.phase) (by_info t.info);
}
  where
    by_info : (i : _) → IsSome (info_of (phases.Open i))
    by_info i = search rules

pub lanes_may : LanesMayTurn
lanes_may s past core lanes dues lane c h there is =
    let l : LaneTied s past lane (lanes lane) dues = h.each lane there in
    record {
      counted = λ k t got. tickets_count s past core lanes dues lane k t h there got;
      held = λ k g got. grants_count s past core lanes dues lane k g h there got;
      ready = open_is s past core h.work;
      safe = record {
        sixteen = l.goes.sixteen;
        within = l.goes.within;
        sound =
            by_running (lanes lane).running l.goes.sound;
      };
      awaits = λ r p runs looks. (missing_waits s past lane p (lanes lane) dues c r l is runs looks).0;
    }
  where
    by_running : (x : Option Running) → MayRun s past lane x (lanes lane).site
        → IsSoundRun x c s.facts (lanes lane).site
    by_running None m = tt
    by_running (Some r) m = m c is
