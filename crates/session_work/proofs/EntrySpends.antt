-- What each entry of a turn spends of the ids that a session's lanes may keep.
use Rattle.std.proofs.Common.{
  ◌≡◌,
  ◌<◌,
  ◌≤◌,
  ◌+◌,
  ℕ,
  true,
  List,
  [],
  ◌∷◌,
  ◌++◌,
  Option,
  Some,
  refl,
  ap,
  sym,
  ◌∙◌,
  subst,
  arith,
  inl,
  inr,
}
use Rattle.std.specs.Prelude.{length, slice_get}
use Rattle.std.proofs.lemmas.Bool.Decides.{eqb_tells}
use Rattle.std.proofs.lemmas.List.{length-append}
use Rattle.sftp_model.specs.declared.outcome.Outcome.{Outcome}
use Rattle.sftp_model.specs.declared.request.Request.{Request}
use Rattle.sftp_model.specs.declared.slot.Site.{Site}
use Rattle.sftp_model.specs.declared.slot.Move.TheVariants.{Ask}
use Rattle.sftp_core.specs.Core.{Core, record_at}
use Rattle.sftp_core.specs.declared.id_record.IdRecord.TheVariants.{Granted}
use Rattle.plan_model.specs.Moves.{Own}
use Rattle.plan_model.specs.RequestCounts.{work}
use Rattle.plan_runner.specs.declared.next.Asked.{Asked as Ask_of}
use Rattle.plan_runner.specs.declared.next.Asked.TheVariants as ask
use Rattle.plan_runner.specs.declared.next.Running.{Running}
use Rattle.plan_runner.specs.Asking.{AsksOrDefers, IsNoClose}
use Rattle.plan_window.specs.declared.window.ReadAt.{ReadAt}
use Rattle.plan_model.specs.declared.call.Call.{Call}
use Rattle.session_model.specs.declared.event.Event.TheVariants.{End}
use Rattle.session_model.specs.declared.entry.Entry.{Entry}
use Rattle.session_model.specs.declared.entry.Entry.TheVariants as entry
use Rattle.session_model.specs.Readings.{AskedRequest, count_submitted, asked_at, count_ended, own}
use Rattle.session_model.specs.Calls.{Setting, current, move_of}
use Rattle.session_model.specs.Grants.{is_asked_by, is_grant}
use Rattle.session_model.specs.Journals.{IsJournal}
use Rattle.session_model.proofs.CallLaws.{ended_end}
use Rattle.session_model.proofs.HolderLaws.{own_asked}
use Rattle.session_laws.specs.Changes.{ended_lane, with_lane}
use Rattle.session_laws.specs.Lanes.{Held, LaneValue, Ticketed}
use Rattle.session_laws.specs.Running.{own_request}
use Rattle.session_laws.proofs.HandleLaws.{first_stands, grant_expected}
use Rattle.session_laws.specs.Budgets.{
  CallSpends,
  IsLast,
  LaneSpends,
  KeepsIdBudget,
  budget,
  budget_of,
  in_hand,
  kept_ids,
  spending_of,
  stands_in,
  used_in,
}
use Rattle.session_laws.proofs.BudgetLaws.{
  spending_end,
  spending_mine,
  spending_submit,
  spends_end,
  spends_step,
  with_request,
}
use Rattle.session_laws.proofs.KeptLaws.{kept_ask, kept_released}
use Rattle.session_work.specs.Turning.{AsksOrCloses}
use Rattle.session_work.specs.declared.lane.Moved.{Moved}
use Rattle.session_work.specs.declared.lane.Moved.TheVariants as moved
use Rattle.session_work.proofs.Growth.{AskGrows, WaitGrows}
use Rattle.session_work.proofs.Spending.{asked_call}

-- ---- what is so behind a turn

-- behind a turn's entry no more ids are kept than may be
abbrev pub SpendsOn : Setting → List Entry → Core → (ℕ → LaneValue) → ℕ → LaneValue → Moved → Type 0
SpendsOn s past new lanes lane now moved.Waits = KeepsIdBudget s past new (with_lane lanes lane now)
SpendsOn s past new lanes lane now moved.Went = KeepsIdBudget s past new (with_lane lanes lane now)
SpendsOn s past new lanes lane now (moved.Asked id q) = KeepsIdBudget s (own_request past lane id q ∷ past) new
    (with_lane lanes lane now)
SpendsOn s past new lanes lane now (moved.Ended o) = KeepsIdBudget s
    (entry.Event (End lane (count_ended past lane) o) ∷ past) new
    (with_lane lanes lane (ended_lane now now.site))

-- what a turn asked is the lane's move
abbrev pub AskMoves : Setting → List Entry → ℕ → Moved → Type 0
AskMoves s past lane (moved.Asked id q) = move_of s past lane ≡ Some (Ask q)
AskMoves s past lane other = Unit {0}

-- ---- what the core keeps

pub submits_kept : (old new : Core) (tickets now : List Ticketed) (grants held : List Held) (place : ℕ) (a : Ask_of)
    (id : ℕ) (q : Request) → IsNoClose a → AsksOrCloses old new tickets now grants held place a id q
    → kept_ids new ≤ kept_ids old + 1
submits_kept old new tickets now grants held place (ask.Close g) id q plain x = absurd plain
submits_kept old new tickets now grants held place other id q plain x =
    subst (λ (y : Core). kept_ids y ≤ kept_ids old + 1) (sym x.core) (kept_ask old id q true)

pub asks_kept : (old new : Core) (tickets now : List Ticketed) (grants held : List Held) (place : ℕ) (a : Ask_of)
    (id : ℕ)
    (q : Request) → ((k : ℕ) (h : Held) → slice_get grants k ≡ Some h → record_at old h.grant.id
    ≡ Some (Granted h.grant.handle 1))
    → AsksOrCloses old new tickets now grants held place a id q → kept_ids new ≤ kept_ids old + 1
asks_kept old new tickets now grants held place (ask.Close g) id q stands x =
    (let same = kept_released old x.grant (stands x.k (record { place = g; grant = x.grant }) x.here) in let is =
    ap kept_ids x.core in omega (arith, same, is))
asks_kept old new tickets now grants held place other id q stands x =
    submits_kept old new tickets now grants held place other id q tt x

-- ---- a HANDLE comes to the first request of its call

pub only_one : (s : Setting) (past : List Entry) (lane p : ℕ) (a : AskedRequest) → IsJournal s past → asked_at past p
    ≡ Some a
    → is_grant past p ≡ true → is_asked_by (asked_at past p) lane (count_ended past lane) ≡ true
    → IsLast (own past lane (count_ended past lane)) p → length (own past lane (count_ended past lane)) ≡ 1
only_one s past lane p a j there grant mine last = by_front last.prefix refl
  where
    all : Own
    all = own past lane (count_ended past lane)

    by_front : (prefix : Own) → last.prefix ≡ prefix → length all ≡ 1
    by_front [] is = (let whole : all ≡ (p, last.request) ∷ [] = last.is
        ∙ ap (λ (f : Own). f ++ (p, last.request) ∷ []) is in ap length whole)
    by_front (b ∷ prefix) is =
        absurd (let in_front : stands_in last.prefix b.0 ≡ true = ap (λ (f : Own). stands_in f b.0) is ∙ self b prefix
        in
        let below : b.0 < p = last.below b.0 in_front in
        let whole : all ≡ (b ∷ prefix) ++ (p, last.request) ∷ [] = last.is
        ∙ ap (λ (f : Own). f ++ (p, last.request) ∷ []) is in
        let in_all : stands_in all b.0 ≡ true = ap (λ (f : Own). stands_in f b.0) whole
        ∙ self b (prefix ++ (p, last.request) ∷ []) in
        let asks : is_asked_by (asked_at past b.0) lane (count_ended past lane) ≡ true =
        own_asked past lane (count_ended past lane) b.0 in_all in
        let first : p ≤ b.0 = first_stands s past lane (count_ended past lane) p b.0 a j there
        (grant_expected s past p a j grant there) mine asks in
        omega (arith, below, first))
      where
        self : (x : ℕ × Request) (rest : Own) → stands_in (x ∷ rest) x.0 ≡ true
        self x rest = elim (eqb_tells x.0 x.0) [
          | inl t ↦ rw t.0 refl
          | inr t ↦ absurd (t.1 refl)
        ]

-- ---- the entries of a turn

pub asked_spends : (s : Setting) (past : List Entry) (core new : Core) (lanes : ℕ → LaneValue) (lane id : ℕ) (c : Call)
    (q : Request) (a : Ask_of) (r : Running) (now : LaneValue) (opened : Option ℕ) (reads : List ReadAt) (old : Site)
    (d : ℕ) → KeepsIdBudget s past core lanes → lane < length s.lanes → current s past lane ≡ Some c
    → length (own past lane (count_ended past lane)) < work c s.facts
    → AsksOrDefers opened (count_submitted past) reads old now.site a r
    → AskGrows s.facts c (own past lane (count_ended past lane)) (lanes lane).running (count_submitted past, q) r d
    → now.running
    ≡ Some r → kept_ids new ≤ kept_ids core + d
    → KeepsIdBudget s (own_request past lane id q ∷ past) new (with_lane lanes lane now)
asked_spends s past core new lanes lane id c q a r now opened reads old d x there is few asks grows was less =
    spends_step s past after core new lanes lane d 0 now there
    (λ l ne. spending_submit s past l lane (count_ended past lane) id q (lanes l).running ne)
    (subst (LaneSpends s.facts) (sym mine_is) holds) used (omega (arith, less)) x
  where
    after : List Entry
    after = own_request past lane id q ∷ past

    mine : Own
    mine = own past lane (count_ended past lane)

    mine_is : spending_of s after lane now.running ≡ with_request (spending_of s past lane (lanes lane).running)
        (count_submitted past, q) (Some r)
    mine_is = ap (λ (o : Option Running). spending_of s after lane o) was
        ∙ spending_mine s past lane id q (lanes lane).running (Some r)

    holds : LaneSpends s.facts (with_request (spending_of s past lane (lanes lane).running) (count_submitted past, q)
        (Some r))
    holds d r1 is1 some =
        (let call : c ≡ d = (let both : ◌≡◌ {A = Option Call} (Some c) (Some d) = sym is ∙ is1 in cc) in
        let run : r ≡ r1 = cc some in
        subst (λ (x1 : Call). CallSpends s.facts x1 (mine ++ (count_submitted past, q) ∷ []) r1) call
        (subst (λ (x1 : Running). CallSpends s.facts c (mine ++ (count_submitted past, q) ∷ []) x1) run
        (asked_call s.facts c past lane (count_ended past lane) q a r asks.awaits few grows.kind grows.reads)))

    used : used_in s.facts (spending_of s past lane (lanes lane).running) + d ≤ used_in s.facts
        (spending_of s after lane now.running) + 0
    used =
        (let most : budget_of s.facts (current s past lane) ≡ budget c s.facts = ap (budget_of s.facts) is in
        let more : length (mine ++ (count_submitted past, q) ∷ []) ≡ length mine + 1 =
        length-append mine ((count_submitted past, q) ∷ []) in
        let hand : in_hand (budget_of s.facts (current s past lane)) (lanes lane).running (length mine) + d ≤ in_hand
        (budget_of s.facts (current s past lane)) (Some r) (length (mine ++ (count_submitted past, q) ∷ [])) =
        subst (λ (n : ℕ). in_hand n (lanes lane).running (length mine) + d ≤ in_hand n (Some r)
        (length (mine ++ (count_submitted past, q) ∷ []))) (sym most)
        (subst (λ (n : ℕ). in_hand (budget c s.facts) (lanes lane).running (length mine) + d ≤ in_hand
        (budget c s.facts) (Some r) n) (sym more) grows.hand) in
        let same = ap (used_in s.facts) mine_is in
        omega (arith, hand, same))

pub went_spends : (s : Setting) (past : List Entry) (core new : Core) (lanes : ℕ → LaneValue) (lane : ℕ) (c : Call)
    (r : Running) (now : LaneValue) (e : ℕ) → KeepsIdBudget s past core lanes → lane < length s.lanes
    → current s past lane
    ≡ Some c
    → WaitGrows s.facts c (own past lane (count_ended past lane)) (lanes lane).running r e → now.running ≡ Some r
    → kept_ids new + e ≤ kept_ids core → KeepsIdBudget s past new (with_lane lanes lane now)
went_spends s past core new lanes lane c r now e x there is grows was less =
    spends_step s past past core new lanes lane 0 e now there (λ l ne. refl) holds used (omega (arith, less)) x
  where
    mine : Own
    mine = own past lane (count_ended past lane)

    holds : LaneSpends s.facts (spending_of s past lane now.running)
    holds d r1 is1 some =
        (let call : c ≡ d = (let both : ◌≡◌ {A = Option Call} (Some c) (Some d) = sym is ∙ is1 in cc) in
        let run : r ≡ r1 = (let both : ◌≡◌ {A = Option Running} (Some r) (Some r1) = sym was ∙ some in cc) in
        subst (λ (x1 : Call). CallSpends s.facts x1 mine r1) call
        (subst (λ (x1 : Running). CallSpends s.facts c mine x1) run grows.spends))

    used : used_in s.facts (spending_of s past lane (lanes lane).running) + 0 ≤ used_in s.facts
        (spending_of s past lane now.running) + e
    used =
        (let most : budget_of s.facts (current s past lane) ≡ budget c s.facts = ap (budget_of s.facts) is in
        let hand : in_hand (budget_of s.facts (current s past lane)) (lanes lane).running (length mine) ≤ in_hand
        (budget_of s.facts (current s past lane)) now.running (length mine) + e =
        subst (λ (n : ℕ). in_hand n (lanes lane).running (length mine) ≤ in_hand n now.running (length mine) + e)
        (sym most)
        (subst (λ (o : Option Running). in_hand (budget c s.facts) (lanes lane).running (length mine) ≤ in_hand
        (budget c s.facts) o (length mine) + e) (sym was) grows.hand) in
        omega (arith, hand))

pub done_spends : (s : Setting) (past : List Entry) (core new : Core) (lanes : ℕ → LaneValue) (lane : ℕ) (c : Call)
    (o : Outcome) (now : LaneValue) → KeepsIdBudget s past core lanes → lane < length s.lanes → current s past lane
    ≡ Some c
    → kept_ids new ≤ kept_ids core
    → KeepsIdBudget s (entry.Event (End lane (count_ended past lane) o) ∷ past) new
    (with_lane lanes lane (ended_lane now now.site))
done_spends s past core new lanes lane c o now x there is less =
    spends_end s past (entry.Event (End lane (count_ended past lane) o) ∷ past) core new lanes lane c
    (ended_lane now now.site) there is (λ l ne. spending_end s past l lane (count_ended past lane) o (lanes l).running
    ne)
    refl (ended_end past lane (count_ended past lane) o) refl less x

-- what the lane's call is, where it runs
pub held_by : (s : Setting) (past : List Entry) (core : Core) (lanes : ℕ → LaneValue) (lane : ℕ) (c : Call)
    (r : Running)
    → KeepsIdBudget s past core lanes → lane < length s.lanes → current s past lane ≡ Some c → (lanes lane).running
    ≡ Some r
    → CallSpends s.facts c (own past lane (count_ended past lane)) r
held_by s past core lanes lane c r x there is was = x.each lane there c r is was
