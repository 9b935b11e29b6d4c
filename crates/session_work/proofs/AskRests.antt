-- A request of a lane leaves its session at rest.
use Rattle.std.proofs.Common.{
  ◌≡◌,
  ◌≢◌,
  ◌<◌,
  ◌≤◌,
  ◌+◌,
  ◌^◌,
  ℕ,
  Bool,
  true,
  List,
  [],
  ◌∷◌,
  ◌++◌,
  ◌⊎◌,
  Option,
  Some,
  None,
  refl,
  ap,
  sym,
  ◌∙◌,
  subst,
  arith,
  inl,
  inr,
}
use Rattle.std.specs.Prelude.{length, slice_get, is_some}
use Rattle.std.proofs.lemmas.Bool.Decides.{eqb_tells}
use Rattle.sftp_model.specs.Answers.{expected_of, may_answer}
use Rattle.sftp_model.specs.declared.answers.Expected.{Expected}
use Rattle.sftp_model.specs.declared.reply.Reply.{Reply}
use Rattle.sftp_model.specs.declared.reply.Reply.TheVariants as reply
use Rattle.sftp_model.specs.declared.request.Request.{Request}
use Rattle.sftp_model.specs.declared.request.Request.TheVariants as request
use Rattle.sftp_model.specs.declared.slot.Site.{Site}
use Rattle.sftp_core.specs.Core.{Core, record_at, queued_last}
use Rattle.sftp_core.specs.declared.id_record.IdRecord.{IdRecord}
use Rattle.sftp_core.specs.declared.id_record.IdRecord.TheVariants.{Waiting, Granted}
use Rattle.plan_model.specs.Moves.{Answers, handle_of}
use Rattle.plan_runner.specs.declared.next.Asked.{Asked as Ask_of}
use Rattle.plan_runner.specs.declared.next.Asked.TheVariants as ask
use Rattle.plan_runner.specs.declared.next.Running.{Running}
use Rattle.plan_runner.specs.Asking.{AsksOrDefers, AwaitsOrDefers, IsAmong, IsNewRead, IsTransfer, LooksAtOwn, is_window}
use Rattle.plan_runner.specs.Runners.{awaited_place, request_with_handles, place_in}
use Rattle.plan_runner.specs.Sound.{IsFittingReply}
use Rattle.plan_runner.specs.declared.next.Running.TheVariants as running
use Rattle.plan_window.specs.declared.window.ReadAt.{ReadAt}
use Rattle.plan_window.specs.Windows.{FitsFirst, FitsRead, first_of}
use Rattle.plan_model.proofs.SpanLaws.{content_fits}
use Rattle.plan_runner.specs.Pending.{own_place, reads_under}
use Rattle.session_model.specs.declared.event.Owner.TheVariants as owner
use Rattle.session_model.specs.declared.entry.Entry.{Entry}
use Rattle.session_model.specs.Readings.{AskedRequest, answer, count_submitted, asked_at, place_awaiting, count_ended}
use Rattle.session_model.specs.Calls.{Setting}
use Rattle.session_model.specs.Grants.{is_asked_by}
use Rattle.session_model.specs.Ids.{IdState, Free, Pending, Replied, id_state}
use Rattle.session_model.specs.Journals.{IsFree, IsNext}
use Rattle.session_model.specs.Steady.{IsCancellableRun, HasNothingDue}
use Rattle.session_model.specs.Turns.{begun_with}
use Rattle.session_model.proofs.CallLaws.{may_next}
use Rattle.session_model.proofs.IdLaws.{IsFreeState, free_state}
use Rattle.session_model.proofs.RequestLaws.{asked_new, asked_other}
use Rattle.session_model.proofs.RunLaws.{submit_good}
use Rattle.session_laws.specs.Changes.{with_lane}
use Rattle.session_laws.specs.Dues.{AreDueGrants}
use Rattle.session_laws.specs.Lanes.{Held, LaneValue, SessionTied, Ticketed, among, grant_places, grants_of, ticket_places, tickets_of}
use Rattle.session_laws.specs.Places.{is_in}
use Rattle.session_laws.specs.Running.{own_request}
use Rattle.session_laws.specs.Tables.{TableMatches, stand}
use Rattle.session_laws.proofs.AskLaws.{ask_dues}
use Rattle.session_laws.proofs.DueLaws.{none_next}
use Rattle.session_laws.proofs.HoldLaws.{ticket_push}
use Rattle.session_laws.proofs.PlaceLaws.{push_other}
use Rattle.session_laws.proofs.RestLaws.{none_due_is_settled}
use Rattle.session_laws.proofs.SessionLaws.{each_with}
use Rattle.session_laws.specs.Budgets.{KeepsIdBudget}
use Rattle.session_laws.specs.Rest.{AtRest, CountsJournal, IsReadAt, IsTransferAt, LaneAsks, RunFits, awaited_in, is_transfer, opened_in, weigh}
use Rattle.session_laws.proofs.AskedLaws.{asks_on, read_on}
use Rattle.session_laws.proofs.TransferLaws.{place_below}
use Rattle.session_laws.proofs.CountedLaws.{counted_ask, counted_close, released_is, weigh_ask, weigh_close}
use Rattle.session_work.specs.Tokens.{NamesHandles}
use Rattle.session_work.specs.Turning.{ReleasesGrant, SubmitsRequest}
use Rattle.session_work.specs.Holding.{TurnTied}
use Rattle.session_work.specs.Rests.{AskedOwn as IsAsked}
use Rattle.session_work.specs.declared.lane.Moved.TheVariants as moved
use Rattle.session_work.proofs.Holding.{with_here}

-- ---- ids

-- where the core awaits no reply under an id, the id is free
pub unwaiting_free : (past : List Entry) (w g : ℕ → Bool) (table : ℕ → Option IdRecord) (id : ℕ)
    → TableMatches past w g table
    → ((e : Expected) (sent wanted : Bool) → table id ≢ Some (Waiting e sent wanted)) → place_awaiting past id ≡ None
unwaiting_free past w g table id t never = free_state past id (by_state (id_state past id) refl)
  where
    by_state : (x : IdState) → id_state past id ≡ x → IsFreeState x
    by_state Free is = tt
    by_state (Replied p a r) is = tt
    by_state (Pending p a b) is = never (expected_of a.request) b (w p) (t id ∙ ap (stand w g) is)

-- ---- what a lane's request is

-- a core between the poll of a lane and its request, which counts no less than before
pub record Midway (past : List Entry) (core c : Core) : Type 0 where
  pub counted : CountsJournal past c
  pub work : weigh c ≤ weigh core
  pub waits : (id : ℕ) (e : Expected) (sent wanted : Bool) → record_at core id ≡ Some (Waiting e sent wanted)
      → record_at c id ≡ Some (Waiting e sent wanted)

pub midway_self : (past : List Entry) (core : Core) → CountsJournal past core → Midway past core core
midway_self past core counted = record { counted = counted; work = omega arith; waits = λ id e sent wanted is. is }

filled_transfers : (a : Ask_of) (answers : Answers) → IsTransfer a → is_transfer (request_with_handles a answers) ≡ true
filled_transfers (ask.Read grant offset len) answers t = refl
filled_transfers (ask.Write grant offset content) answers t = refl
filled_transfers other answers t = absurd t

-- a request is under way under a free id, and a reply that may answer it may answer what was asked
pub record Under (past : List Entry) (core new : Core) (lane id : ℕ) (a : Ask_of) (q : Request) : Type 0 where
  pub free : place_awaiting past id ≡ None
  pub counted : CountsJournal (own_request past lane id q ∷ past) new
  pub work : weigh new ≤ weigh core + 3
  pub transfers : IsTransfer a → is_transfer q ≡ true
  pub reads : (grant offset len : ℕ) → a ≡ ask.Read grant offset len → (handle : List ℕ)
      × (q ≡ request.Read handle offset len)
  pub answers : (y : Reply) → may_answer q y ≡ true → may_answer (request_with_handles a (answer past)) y ≡ true

pub submitted_under : (s : Setting) (past : List Entry) (core c new : Core) (lanes : ℕ → LaneValue) (lane id : ℕ)
    (tickets now : List Ticketed) (grants held : List Held) (a : Ask_of) (q : Request)
    → SessionTied s past core lanes [] → Midway past core c → NamesHandles grants (answer past)
    → SubmitsRequest c new tickets now grants held (count_submitted past) a id q → Under past core new lane id a q
submitted_under s past core c new lanes lane id tickets now grants held a q h m bears x =
    record {
      free = unwaiting_free past (among past (tickets_of lanes)) (among past (grants_of lanes)) (record_at core) id
          h.table
          (λ e sent wanted is. let clash : ◌≡◌ {A = Option IdRecord} None (Some (Waiting e sent wanted)) = sym x.free
          ∙ m.waits id e sent wanted is in cc);
      counted = subst (CountsJournal (own_request past lane id q ∷ past)) (sym x.core)
          (counted_ask past c (owner.Call lane (count_ended past lane)) id q true x.free m.counted);
      work = (let more : weigh new ≤ weigh c + 3 = subst (λ (y : Core). weigh y ≤ weigh c + 3) (sym x.core)
          (weigh_ask c id q true x.free) in let less = m.work in omega (arith, more, less));
      transfers = λ t. ap is_transfer (x.filled (answer past) bears) ∙ filled_transfers a (answer past) t;
      reads = λ grant offset len is. (
        handle_of (answer past grant),
        x.filled (answer past) bears
            ∙ ap (λ (y : Ask_of). request_with_handles y (answer past)) is,
      );
      answers = λ y may. ap (λ (r : Request). may_answer r y) (sym (x.filled (answer past) bears)) ∙ may;
    }

pub released_under : (s : Setting) (past : List Entry) (core new : Core) (lanes : ℕ → LaneValue) (lane g id : ℕ)
    (tickets now : List Ticketed) (grants held : List Held) (q : Request) → SessionTied s past core lanes []
    → CountsJournal past core
    → ((k : ℕ) (h : Held) → slice_get grants k ≡ Some h → record_at core h.grant.id ≡ Some (Granted h.grant.handle 1))
    → ReleasesGrant core new tickets now grants held (count_submitted past) g id q
    → Under past core new lane id (ask.Close g) q
released_under s past core new lanes lane g id tickets now grants held q h counted stands x =
    (let here : record_at core x.grant.id ≡ Some (Granted x.grant.handle 1) =
    stands x.k (record { place = g; grant = x.grant }) x.here in
    let there : record_at core id ≡ Some (Granted x.grant.handle 1) = ap (record_at core) x.same ∙ here in
    let queued : new ≡ queued_last core id (request.Close x.grant.handle) true = x.core ∙ released_is core x.grant here
    ∙ ap (λ (n : ℕ). queued_last core n (request.Close x.grant.handle) true) (sym x.same) in
    record {
      free = unwaiting_free past (among past (tickets_of lanes)) (among past (grants_of lanes)) (record_at core) id
          h.table
          (λ e sent wanted is. let clash : ◌≡◌ {A = Option IdRecord} (Some (Granted x.grant.handle 1))
          (Some (Waiting e sent wanted)) = sym there ∙ is in cc);
      counted = subst (CountsJournal (own_request past lane id q ∷ past)) (sym queued)
          (subst (λ (r : Request). CountsJournal (own_request past lane id r ∷ past)
          (queued_last core id (request.Close x.grant.handle) true)) (sym x.is)
          (counted_close past core (owner.Call lane (count_ended past lane)) id x.grant.handle 1 true there counted));
      work = (let less : weigh new < weigh core = subst (λ (y : Core). weigh y < weigh core) (sym queued)
          (weigh_close core id x.grant.handle 1 true there) in omega (arith, less));
      transfers = λ t. absurd t;
      reads = λ grant offset len is. absurd cc;
      answers = λ y may. ap (λ (r : Request). may_answer r y) (sym x.is) ∙ may;
    })

-- ---- what its lane awaits then

-- the reply to the first READ under way fits a whole read
pub window_fits : (past : List Entry) (r : Running) (site : Site) → is_window r ≡ true
    → ((x : ReadAt) → IsAmong x (reads_under (Some r)) → IsReadAt past x)
    → (p : ℕ) (a : AskedRequest) (y : Reply) → awaited_place r site ≡ Some p → asked_at past p ≡ Some a
    → may_answer a.request y ≡ true → IsFittingReply r (Some y)
window_fits past (running.ReadingWhole grant bound window) site is reads p a y looks there may =
    by_waiting window.waiting refl
  where
    of_read : (x : ReadAt) (z : Reply) → may_answer a.request z ≡ true → place_in (Some x) ≡ Some p → IsReadAt past x
        → FitsRead x z
    of_read x (reply.Content bytes) may at t =
        (let here : x.place ≡ p = cc in
        let same : t.asked ≡ a = (let e : ◌≡◌ {A = Option AskedRequest} (Some t.asked) (Some a) = sym t.here
        ∙ (ap (asked_at past) here ∙ there) in cc) in
        let is_read : a.request ≡ request.Read t.handle x.offset x.len = ap (λ (b : AskedRequest). b.request) (sym same)
        ∙ t.reads in
        (content_fits (request.Read t.handle x.offset x.len) bytes
        (ap (λ (q : Request). may_answer q (reply.Content bytes)) (sym is_read) ∙ may)).1)
    of_read x z may at t = tt

    by_waiting : (ws : List ReadAt) → window.waiting ≡ ws → FitsFirst window y
    by_waiting [] e x first = absurd (let clash : ◌≡◌ {A = Option ReadAt} None (Some x) = ap first_of (sym e) ∙ first in
        cc)
    by_waiting (w ∷ ws) e x first =
        (let same : w ≡ x = (let here : ◌≡◌ {A = Option ReadAt} (Some w) (Some x) = ap first_of (sym e) ∙ first in cc)
        in
        of_read x y may (ap place_in (sym first) ∙ looks) (reads x
        (subst (λ (l : List ReadAt). IsAmong x l) (sym e) (inl (sym same)))))
window_fits past other site is reads p a y looks there may = absurd cc

-- a call goes on with the reply to what it asks, or with none of its own
own_here : (o : Option ℕ) (p place : ℕ) (a : Ask_of) → o ≡ Some p → AwaitsOrDefers o place a → p ≡ place
own_here None p place a is awaits = absurd cc
own_here (Some q) p place a is awaits = (let same : q ≡ p = cc in sym same ∙ awaits)

asked_here : (past : List Entry) (lane id : ℕ) (q : Request)
    → is_asked_by (asked_at (own_request past lane id q ∷ past) (count_submitted past)) lane (count_ended past lane)
    ≡ true
asked_here past lane id q = ap (λ x. is_asked_by x lane (count_ended past lane))
    (asked_new past (owner.Call lane (count_ended past lane)) id q) ∙ both
  where
    both : is_asked_by (Some (record { by = owner.Call lane (count_ended past lane); id = id; request = q })) lane
        (count_ended past lane) ≡ true
    both = elim (eqb_tells lane lane) [
      | inl t ↦ elim (eqb_tells (count_ended past lane) (count_ended past lane))
          [ inl u ↦ rw (t.0, u.0) refl | inr u ↦ absurd (u.1 refl) ]
      | inr t ↦ absurd (t.1 refl)
    ]

pub asks_new : (past : List Entry) (core new : Core) (lane id : ℕ) (tickets : List Ticketed) (v : LaneValue)
    (opened : Option ℕ) (reads : List ReadAt) (old : Site) (a : Ask_of) (r : Running) (q : Request)
    → Under past core new lane id a q → AsksOrDefers opened (count_submitted past) reads old v.site a r
    → ((x : ReadAt) → IsAmong x reads → IsReadAt past x)
    → ((p : ℕ) → is_in p (ticket_places tickets) ≡ true → IsTransferAt past p)
    → ((g : ℕ) → opened ≡ Some g → is_in g (grant_places v.grants) ≡ true) → v.running ≡ Some r → v.tickets
    ≡ tickets ++ (record { place = count_submitted past; ticket = id }) ∷ [] → v.ended ≡ count_ended past lane
    → LaneAsks (own_request past lane id q ∷ past) lane v
asks_new past core new lane id tickets v opened reads old a r q u x stood others held was pushed ends =
    record {
      current = λ p mine. subst (λ (n : ℕ). is_asked_by (asked_at now n) lane v.ended ≡ true)
          (sym (own_here (own_place (Some r)) p (count_submitted past) a (ap own_place (sym was) ∙ mine) x.awaits))
          (ap (is_asked_by (asked_at now (count_submitted past)) lane) ends ∙ asked_here past lane id q);
      only = λ p has. elim (eqb_tells p (count_submitted past)) [
        | inl t ↦ subst (λ (n : ℕ). (own_place v.running ≡ Some n) ⊎ IsTransferAt now n) (sym t.1)
            (new_ticket (own_place (Some r)) refl x.awaits)
        | inr t ↦ inr (old_ticket p (sym (push_other (ticket_places tickets) (count_submitted past) p t.1)
            ∙ (ap (is_in p) (sym (ap ticket_places pushed ∙ ticket_push tickets
            (record { place = count_submitted past; ticket = id }))) ∙ has)))
      ];
      keeps = λ g opens. held g (x.keeps g (ap opened_in (sym was) ∙ opens));
      fits = λ p b y looks there may. subst (λ (z : Option Running). RunFits z y) (sym was)
          (fits_by p b y (ap (λ (o : Option Running). awaited_in o v.site) (sym was) ∙ looks) there may x.looks);
      reads = λ z among. standing z (subst (λ (o : Option Running). IsAmong z (reads_under o)) was among);
    }
  where
    now : List Entry
    now = own_request past lane id q ∷ past

    is_new : AskedRequest
    is_new = record { by = owner.Call lane (count_ended past lane); id = id; request = q }

    new_ticket : (o : Option ℕ) → own_place (Some r) ≡ o → AwaitsOrDefers o (count_submitted past) a
        → (own_place v.running ≡ Some (count_submitted past)) ⊎ IsTransferAt now (count_submitted past)
    new_ticket None is awaits = inr (record {
      asked = is_new;
      here =
          asked_new past (owner.Call lane (count_ended past lane)) id q;
      transfers = u.transfers awaits;
    })
    new_ticket (Some p) is awaits = inl (ap own_place was ∙ (is ∙ ap (λ (n : ℕ). Some n) awaits))

    old_ticket : (p : ℕ) → is_in p (ticket_places tickets) ≡ true → IsTransferAt now p
    old_ticket p has = (let t = others p has in record {
      asked = t.asked;
      here =
          asked_other past (owner.Call lane (count_ended past lane)) id p q (place_below past p t.asked t.here)
          ∙ t.here;
      transfers = t.transfers;
    })

    new_read : (z : ReadAt) (b : Ask_of) → a ≡ b → IsNewRead z (count_submitted past) b → IsReadAt now z
    new_read z (ask.Read grant offset len) is e =
        (let read = u.reads grant offset len is in
        subst (λ (w : ReadAt). IsReadAt now w) (sym e) (record {
          asked = is_new;
          here =
              asked_new past (owner.Call lane (count_ended past lane)) id q;
          handle = read.0;
          reads = read.1;
        }))
    new_read z other is e = absurd e

    standing : (z : ReadAt) → IsAmong z (reads_under (Some r)) → IsReadAt now z
    standing z among = elim (x.under z among) [
      | inl old ↦ read_on past now z (λ p below. asked_other past (owner.Call lane (count_ended past lane)) id p q
          below) (stood z old)
      | inr new ↦ new_read z a refl new
    ]

    fits : LooksAtOwn (count_submitted past) v.site a r → (p : ℕ) (b : AskedRequest) (y : Reply) → p
        ≡ count_submitted past → asked_at now p
        ≡ Some b → may_answer b.request y ≡ true → IsFittingReply r (Some y)
    fits own p b y place there may =
        (let here : ◌≡◌ {A = Option AskedRequest} (Some is_new) (Some b) =
        sym (asked_new past (owner.Call lane (count_ended past lane)) id q) ∙ (ap (asked_at now) (sym place) ∙ there) in
        let is : q ≡ b.request = (let one : (◌≡◌ {A = AskedRequest} is_new b) = cc in
        ap (λ (z : AskedRequest). z.request) one) in
        own.fits (answer past) y (u.answers y (ap (λ (z : Request). may_answer z y) is ∙ may)))

    fits_by : (p : ℕ) (b : AskedRequest) (y : Reply) → awaited_place r v.site ≡ Some p → asked_at now p ≡ Some b
        → may_answer b.request y ≡ true → LooksAtOwn (count_submitted past) v.site a r ⊎ (is_window r ≡ true)
        → IsFittingReply r (Some y)
    fits_by p b y looks there may (inl own) = fits own p b y (own.looks p looks) there may
    fits_by p b y looks there may (inr window) = window_fits now r v.site window standing p b y looks there may

-- ---- the session

pub asked_rests : (s : Setting) (past : List Entry) (core new : Core) (lanes : ℕ → LaneValue) (begun : ℕ → Bool)
    (lane id : ℕ) (now : LaneValue) (tickets : List Ticketed) (opened : Option ℕ) (reads : List ReadAt) (old : Site)
    (a : Ask_of) (r : Running) (q : Request) → AtRest s past core lanes begun → lane < length s.lanes
    → Under past core new lane id a q → AsksOrDefers opened (count_submitted past) reads old now.site a r
    → ((x : ReadAt) → IsAmong x reads → IsReadAt past x) → ((p : ℕ) → is_in p (ticket_places tickets) ≡ true
    → IsTransferAt past p) → ((g : ℕ) → opened ≡ Some g → is_in g (grant_places now.grants) ≡ true) → now.running
    ≡ Some r
    → now.tickets ≡ tickets ++ (record { place = count_submitted past; ticket = id }) ∷ [] → now.ended
    ≡ (lanes lane).ended
    → id < 2 ^ 32 → TurnTied s past new (with_lane lanes lane) lane now (moved.Asked id q)
    → KeepsIdBudget s (own_request past lane id q ∷ past) new (with_lane lanes lane now)
    → IsAsked s past core new (with_lane lanes lane now) begun lane id q
asked_rests s past core new lanes begun lane id now tickets opened reads old a r q h there u x stood others held was
    pushed same small t spent =
    let b = h.between in
    let e : Entry = own_request past lane id q in
    let free : IsFree past id = (small, u.free) in
    let still : HasNothingDue s past = record { settled = h.settled; plain = (none_due_is_settled s past).1 b.due } in
    let next : IsNext s past e = may_next s past e b.good.calm h.settled (refl, t.0, free, b.good.ready, b.good.unkept)
    in
    let good : IsCancellableRun s (e ∷ past) (begun_with begun lane) =
    submit_good s past begun lane id q b.good still t.0 free in
    let due : AreDueGrants s (e ∷ past) [] = ask_dues s past lane id q good.run b.due in
    let ends : now.ended ≡ count_ended past lane = same ∙ (b.tied.each lane there).ends in
    record {
      move = t.0;
      free = free;
      next = next;
      runs = ap (λ (v : LaneValue). is_some v.running) (with_here lanes lane now) ∙ ap is_some was;
      work = u.work;
      rest = record {
        settled = none_next s (e ∷ past) refl due;
        between = record {
          good = good;
          due = due;
          tied = t.1 good.run;
          counted = u.counted;
          spends = spent;
          asks = λ w lt. each_with (λ n v. LaneAsks (e ∷ past) n v) lanes lane now (length s.lanes)
              (asks_new past core new lane id tickets now opened reads old a r q u x stood others held was pushed ends)
              (λ n less ne. asks_on past (e ∷ past) n (lanes n) (λ p below. asked_other past
              (owner.Call lane (count_ended past lane)) id p q below) (b.tied.each n less).goes.awaits (b.asks n less))
              w
              lt;
        };
      };
    }
