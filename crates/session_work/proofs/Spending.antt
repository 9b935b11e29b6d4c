-- What a call may keep as it goes on, by what it goes on with.
use Rattle.std.proofs.Common.{
  ◌≡◌,
  ◌<◌,
  ◌≤◌,
  ◌+◌,
  ◌==◌,
  ℕ,
  Bool,
  true,
  false,
  List,
  [],
  ◌∷◌,
  ◌++◌,
  Option,
  Some,
  None,
  refl,
  ap,
  sym,
  ◌∙◌,
  subst,
  arith,
  inl,
  inr,
}
use Rattle.std.specs.Prelude.{◌⊎◌, ◌||◌, length}
use Rattle.std.proofs.lemmas.Bool.{eq-eqb}
use Rattle.std.proofs.lemmas.List.{length-append}
use Rattle.sftp_model.specs.declared.reply.Reply.{Reply}
use Rattle.sftp_model.specs.declared.reply.Reply.TheVariants as reply
use Rattle.sftp_model.specs.declared.request.Request.{Request}
use Rattle.sftp_model.specs.declared.slot.Facts.{Facts}
use Rattle.sftp_model.specs.declared.slot.Site.{Site}
use Rattle.sftp_core.specs.Table.{handle_in_reply}
use Rattle.plan_model.specs.declared.call.Call.TheVariants as call
use Rattle.plan_model.specs.Moves.{Own}
use Rattle.plan_model.specs.RequestCounts.{work}
use Rattle.plan_model.proofs.WindowAsks.{any_added}
use Rattle.plan_runner.specs.declared.next.Asked.{Asked as Ask_of}
use Rattle.plan_runner.specs.declared.next.Asked.TheVariants as ask
use Rattle.plan_runner.specs.declared.next.Running.{Running}
use Rattle.plan_runner.specs.declared.next.Running.TheVariants as running
use Rattle.plan_runner.specs.Asking.{AwaitsOrDefers, IsAmong, IsNewRead, IsWindowed, is_window, opened_after, opened_by}
use Rattle.plan_runner.specs.Runners.{answered_by, awaited_place}
use Rattle.plan_runner.specs.Pending.{own_place, reads_under}
use Rattle.plan_window.specs.declared.window.Answered.{Answered}
use Rattle.plan_window.specs.declared.window.ReadAt.{ReadAt}
use Rattle.plan_window.specs.Windows.{Window}
use Rattle.plan_model.specs.declared.call.Call.{Call}
use Rattle.session_model.specs.declared.entry.Entry.{Entry}
use Rattle.session_model.specs.Readings.{count_submitted, own}
use Rattle.session_model.proofs.HolderLaws.{own_asked}
use Rattle.session_laws.proofs.OrderLaws.{asked_below}
use Rattle.session_laws.specs.Budgets.{CallSpends, IsLast, IsOwnOrWindow, ReadsFit, budget, in_hand, makes_many, stands_in}

-- ---- budgets

pub two_at_least : (c : Call) (facts : Facts) → 2 ≤ budget c facts
two_at_least (call.FsRead path bound) facts = omega arith
two_at_least (call.BufWrite slot bytes) facts = omega arith
two_at_least (call.BufWriteAll slot bytes) facts = omega arith
two_at_least other facts = omega arith

-- a call that makes few requests may keep one for each
pub few_work : (c : Call) (facts : Facts) → makes_many c ≡ false → work c facts ≤ budget c facts
few_work (call.ReadAll slot n) facts e = absurd cc
few_work (call.WriteAll slot bytes) facts e = absurd cc
few_work (call.WriteParts slot parts) facts e = absurd cc
few_work (call.FsRead path bound) facts e = absurd cc
few_work (call.FsWrite path bytes) facts e = absurd cc
few_work (call.List path bound) facts e = absurd cc
few_work (call.BufWrite slot bytes) facts e = omega arith
few_work (call.BufWriteAll slot bytes) facts e = omega arith
few_work (call.Seek slot position) facts e = omega arith
few_work (call.CloneFile from to) facts e = omega arith
few_work (call.Buffer slot len) facts e = omega arith
few_work (call.Unbuffer slot) facts e = omega arith
few_work (call.BufFlush slot) facts e = omega arith
few_work (call.BufSeek slot position) facts e = omega arith
few_work (call.Cwd path) facts e = omega arith
few_work other facts e = omega arith

-- one that goes on in neither way makes few
pub slots_few : (c : Call) (facts : Facts) (r : Running) (n : ℕ) → (makes_many c ≡ true → IsOwnOrWindow r)
    → (IsOwnOrWindow r → ⊥) → n < work c facts → n < budget c facts
slots_few c facts r n kind neither less = by_many (makes_many c) refl
  where
    by_many : (b : Bool) → makes_many c ≡ b → n < budget c facts
    by_many true e = absurd (neither (kind e))
    by_many false e = (let few = few_work c facts e in omega (arith, few, less))

-- ---- requests

pub stands_more : (mine : Own) (a : ℕ × Request) (p : ℕ) → stands_in mine p ≡ true → stands_in (mine ++ a ∷ []) p ≡ true
stands_more mine a p e = any_added (λ (x : ℕ × Request). x.0 == p) a mine ∙ left (stands_in mine p) (a.0 == p) e
  where
    left : (b c : Bool) → b ≡ true → (b || c) ≡ true
    left true c e = refl
    left false c e = absurd cc

pub stands_last : (mine : Own) (a : ℕ × Request) → stands_in (mine ++ a ∷ []) a.0 ≡ true
stands_last mine a = any_added (λ (x : ℕ × Request). x.0 == a.0) a mine
    ∙ right (stands_in mine a.0) (a.0 == a.0) (eq-eqb a.0 a.0 refl)
  where
    right : (b c : Bool) → c ≡ true → (b || c) ≡ true
    right true c e = refl
    right false c e = e

-- a new request is the last one
new_last : (past : List Entry) (lane k : ℕ) (q : Request) → IsLast (own past lane k ++ (count_submitted past, q) ∷ [])
    (count_submitted past)
new_last past lane k q = record {
  prefix = own past lane k;
  request = q;
  is = refl;
  below =
      λ p there. asked_below past p lane k (own_asked past lane k p there);
}

awaits_here : (o : Option ℕ) (p place : ℕ) (a : Ask_of) → o ≡ Some p → AwaitsOrDefers o place a → p ≡ place
awaits_here None p place a is awaits = absurd cc
awaits_here (Some q) p place a is awaits = (let same : q ≡ p = cc in sym same ∙ awaits)

-- what holds of a call that asked
pub asked_call : (facts : Facts) (c : Call) (past : List Entry) (lane k : ℕ) (q : Request) (a : Ask_of) (r : Running)
    → AwaitsOrDefers (own_place (Some r)) (count_submitted past) a → length (own past lane k) < work c facts
    → (makes_many c ≡ true → IsOwnOrWindow r)
    → (is_window r ≡ true → ReadsFit facts c (own past lane k ++ (count_submitted past, q) ∷ []) (reads_under (Some r)))
    → CallSpends facts c (own past lane k ++ (count_submitted past, q) ∷ []) r
asked_call facts c past lane k q a r awaits few kind reads =
    let mine : Own = own past lane k in
    let now : Own = mine ++ (count_submitted past, q) ∷ [] in
    record {
      last = λ p is. subst (IsLast now) (sym (awaits_here (own_place (Some r)) p (count_submitted past) a is awaits))
          (new_last past lane k q);
      kind = kind;
      made = (let more = length-append mine ((count_submitted past, q) ∷ []) in omega (arith, more, few));
      reads = reads;
    }

-- ---- READs under way

new_place : (x : ReadAt) (place : ℕ) (a : Ask_of) → IsNewRead x place a → x.place ≡ place
new_place x place (ask.Read grant offset len) e = ap (λ (y : ReadAt). y.place) e
new_place x place other e = absurd e

among_more : (x : ReadAt) (waiting : List ReadAt) (r : ReadAt) → IsAmong x (waiting ++ r ∷ []) → IsAmong x waiting
    ⊎ (x ≡ r)
among_more x [] r among = elim among [
  | inl same ↦ inr same
  | inr none ↦ absurd none
]
among_more x (y ∷ rest) r among = elim among [
  | inl same ↦ inl (inl same)
  | inr later ↦ elim (among_more x rest r later) [
    | inl here ↦ inl (inr here)
    | inr same ↦ inr same
  ]
]

-- one READ more
pub reads_grow : (facts : Facts) (c : Call) (mine : Own) (place : ℕ) (q : Request) (a : Ask_of) (r : Running)
    (reads : List ReadAt) → ((x : ReadAt) → IsAmong x reads → stands_in mine x.place ≡ true)
    → 1 + length reads ≤ length mine → 2 + length reads ≤ budget c facts
    → IsWindowed place reads facts a r → ReadsFit facts c (mine ++ (place, q) ∷ []) (reads_under (Some r))
reads_grow facts c mine place q a r reads stood less fits w =
    let more : length (reads_under (Some r)) ≡ length reads + 1 = ap length w.under ∙ length-append reads (w.read ∷ [])
    in
    let longer : length (mine ++ (place, q) ∷ []) ≡ length mine + 1 = length-append mine ((place, q) ∷ []) in
    record {
      mine = λ x among. elim (among_more x reads w.read (subst (λ (l : List ReadAt). IsAmong x l) w.under among)) [
        | inl old ↦ stands_more mine (place, q) x.place (stood x old)
        | inr same ↦ ap (stands_in (mine ++ (place, q) ∷ [])) (ap (λ (y : ReadAt). y.place) same
            ∙ new_place w.read place a w.new) ∙ stands_last mine (place, q)
      ];
      less = omega (arith, more, longer, less);
      fits = omega (arith, more, fits);
    }

-- ---- windows

pub hand_window : (most n : ℕ) (r : Running) → is_window r ≡ true → in_hand most (Some r) n
    ≡ 1 + length (reads_under (Some r))
hand_window most n (running.ReadingWhole grant bound window) is = refl
hand_window most n other is = absurd cc

pub own_no_window : (r : Running) (p : ℕ) → own_place (Some r) ≡ Some p → is_window r ≡ false
own_no_window (running.ReadingWhole grant bound window) p e = absurd cc
own_no_window other p e = refl

-- what opened nothing becomes no whole read
pub opened_none : (r : Running) (opened : Option ℕ) → ((g : ℕ) → opened_by r ≡ Some g → opened ≡ Some g) → opened ≡ None
    → is_window r ≡ false
opened_none (running.ReadingWhole grant bound window) opened keeps none =
    absurd (let clash : ◌≡◌ {A = Option ℕ} None (Some grant) = sym none ∙ keeps grant refl in cc)
opened_none other opened keeps none = refl

pub plain_opened : (r : Running) (y : Reply) → handle_in_reply y ≡ None → opened_after r (Some y) ≡ opened_by r
plain_opened (running.OpeningToWrite place) (reply.Handle handle) e = absurd cc
plain_opened (running.OpeningToWrite place) other e = refl
plain_opened (running.OpeningToRead place bound) (reply.Handle handle) e = absurd cc
plain_opened (running.OpeningToRead place bound) other e = refl
plain_opened (running.OpeningDirectory place bound) (reply.Handle handle) e = absurd cc
plain_opened (running.OpeningDirectory place bound) other e = refl
plain_opened r y e = refl

pub slot_opened : (r : Running) → own_place (Some r) ≡ None → is_window r ≡ false → opened_by r ≡ None
slot_opened (running.ReadingWhole grant bound window) none e = absurd cc
slot_opened (running.Listing place grant got bound) none e = absurd cc
slot_opened (running.Writing place slot file done) none e = absurd cc
slot_opened other none e = refl

-- the reply to the first READ under way leaves one less
pub answered_length : (window : Window) (y : Reply) (grant bound p : ℕ) (site : Site)
    → awaited_place (running.ReadingWhole grant bound window) site ≡ Some p → length window.waiting
    ≡ length (answered_by window (Some y)).waiting + 1
answered_length window y grant bound p site at = by_waiting window.answered window.waiting at
  where
    by_waiting : (answered : List Answered) (waiting : List ReadAt)
        → awaited_place (running.ReadingWhole grant bound (record { answered = answered; waiting = waiting })) site
        ≡ Some p
        → length waiting ≡ length (answered_by (record { answered = answered; waiting = waiting }) (Some y)).waiting + 1
    by_waiting answered [] at = absurd cc
    by_waiting answered (r ∷ rest) at = omega arith

pub answered_among : (window : Window) (y : Reply) (x : ReadAt) → IsAmong x (answered_by window (Some y)).waiting
    → IsAmong x window.waiting
answered_among window y x among = by_waiting window.answered window.waiting among
  where
    by_waiting : (answered : List Answered) (waiting : List ReadAt)
        → IsAmong x (answered_by (record { answered = answered; waiting = waiting }) (Some y)).waiting
        → IsAmong x waiting
    by_waiting answered [] among = among
    by_waiting answered (r ∷ rest) among = inr among

-- where none is awaited none is under way
pub none_waits : (window : Window) (grant bound : ℕ) (site : Site)
    → awaited_place (running.ReadingWhole grant bound window) site ≡ None → window.waiting ≡ []
none_waits window grant bound site at = by_waiting window.answered window.waiting at
  where
    by_waiting : (answered : List Answered) (waiting : List ReadAt)
        → awaited_place (running.ReadingWhole grant bound (record { answered = answered; waiting = waiting })) site
        ≡ None
        → waiting ≡ []
    by_waiting answered [] at = refl
    by_waiting answered (r ∷ rest) at = absurd cc

-- what a call opened that goes on without a reply
pub after_none : (r : Running) → opened_after r None ≡ opened_by r
after_none (running.OpeningToWrite place) = refl
after_none (running.OpeningToRead place bound) = refl
after_none (running.OpeningDirectory place bound) = refl
after_none other = refl

-- a window awaits the reply to the first of its READs
pub awaited_first : (r : Running) (p : ℕ) (site : Site) → is_window r ≡ true → awaited_place r site ≡ Some p
    → (x : ReadAt)
    × (IsAmong x (reads_under (Some r)) × (x.place ≡ p))
awaited_first (running.ReadingWhole grant bound window) p site is at = by_waiting window.answered window.waiting at
  where
    by_waiting : (answered : List Answered) (waiting : List ReadAt)
        → awaited_place (running.ReadingWhole grant bound (record { answered = answered; waiting = waiting })) site
        ≡ Some p
        → (x : ReadAt) × (IsAmong x waiting × (x.place ≡ p))
    by_waiting answered [] at = absurd cc
    by_waiting answered (x ∷ rest) at = (x, (inl refl, cc))
awaited_first other p site is at = absurd cc
