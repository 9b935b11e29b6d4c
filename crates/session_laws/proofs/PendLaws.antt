-- What a lane awaits has a ticket: as a reply is polled, as a request is submitted, as a ticket is dropped.
use Rattle.std.proofs.Common.{
  ◌≡◌,
  ◌≢◌,
  ◌≤◌,
  ◌+◌,
  ◌-◌,
  ℕ,
  zero,
  suc,
  Bool,
  true,
  false,
  List,
  [],
  ◌∷◌,
  ◌++◌,
  Option,
  Some,
  None,
  refl,
  ap,
  sym,
  ◌∙◌,
  arith,
  if◌then◌else◌,
  inl,
  inr,
}
use Rattle.std.specs.Prelude.{slice_get, slice_index_or}
use Rattle.std.proofs.lemmas.Bool.Decides.{eqb_tells}
use Rattle.sftp_model.specs.declared.slot.Site.{Site}
use Rattle.sftp_model.specs.declared.slot.Slot.{Slot}
use Rattle.sftp_model.specs.declared.slot.Slot.TheVariants.{Empty, File, Buffered}
use Rattle.plan_runner.specs.declared.next.Running.{Running}
use Rattle.plan_runner.specs.declared.next.Next.{Next}
use Rattle.plan_runner.specs.Runners.{awaited_place, place_in}
use Rattle.plan_runner.specs.Buffers.{oldest, oldest_in, reading_in}
use Rattle.plan_runner.specs.Pending.{PendsAfter, maybe, one, pends, reads_times, slot_times, slots_times, with_reads, writes_times}
use Rattle.plan_window.specs.declared.window.ReadAt.{ReadAt}
use Rattle.plan_window.specs.Windows.{first_of}
use Rattle.session_laws.specs.Places.{IsRising, is_in, without_index}
use Rattle.session_laws.specs.Lanes.{tickets_for}
use Rattle.session_laws.proofs.PlaceLaws.{push_other, push_self, without_other}
use Rattle.plan_runner.specs.declared.next.Next.TheVariants as step
use Rattle.plan_runner.specs.declared.next.Running.TheVariants as running

one_in : (p q : ℕ) → p ≡ q → one p q ≡ 1
one_in p q e = elim (eqb_tells p q) [ inl t ↦ rw t.0 refl | inr t ↦ absurd (t.1 e) ]

own_awaited : (place p n : ℕ) → (◌≡◌ {A = Option ℕ} (Some place) (Some p)) → 1 ≤ one place p + n
own_awaited place p n e = (let here : one place p ≡ 1 = one_in place p cc in omega (arith, here))

oldest_times : (writes : List (ℕ × ℕ)) (p : ℕ) → oldest writes ≡ Some p → 1 ≤ writes_times p writes
oldest_times [] p at = absurd cc
oldest_times (write ∷ writes) p at = own_awaited write.0 p (writes_times p writes) at

slot_awaits : (x : Slot) (p : ℕ) → oldest_in x ≡ Some p → 1 ≤ slot_times p x
slot_awaits Empty p at = absurd cc
slot_awaits (File file) p at = absurd cc
slot_awaits (Buffered file buffer) p at = (let some : 1 ≤ writes_times p buffer.deferred =
    oldest_times buffer.deferred p at in omega (arith, some))

reading_times : (reading : Option ℕ) (p : ℕ) → reading ≡ Some p → 1 ≤ maybe reading p
reading_times None p at = absurd cc
reading_times (Some place) p at = (let here : one place p ≡ 1 = one_in place p cc in omega (arith, here))

slot_reads : (x : Slot) (p : ℕ) → reading_in x ≡ Some p → 1 ≤ slot_times p x
slot_reads Empty p at = absurd cc
slot_reads (File file) p at = absurd cc
slot_reads (Buffered file buffer) p at = (let some : 1 ≤ maybe buffer.reading p = reading_times buffer.reading p at in
    omega (arith, some))

-- a slot awaits what it tells to be awaited
slots_await : (told : Slot → Option ℕ) (slots : List Slot) (k p : ℕ) → told Empty ≡ None
    → ((x : Slot) → told x ≡ Some p → 1 ≤ slot_times p x) → told (slice_index_or slots k Empty) ≡ Some p
    → 1 ≤ slots_times p slots
slots_await told [] k p none awaits at = absurd cc
slots_await told (slot ∷ slots) zero p none awaits at = (let some : 1 ≤ slot_times p slot = awaits slot at in
    omega (arith, some))
slots_await told (slot ∷ slots) (suc k) p none awaits at = (let some : 1 ≤ slots_times p slots =
    slots_await told slots k p none awaits at in omega (arith, some))

-- a whole read awaits the first READ under way
first_pends : (reads : List ReadAt) (p n : ℕ) → place_in (first_of reads) ≡ Some p → 1 ≤ with_reads reads p n
first_pends [] p n at = absurd cc
first_pends (r ∷ rest) p n at = (let here : one r.place p ≡ 1 = one_in r.place p cc in omega (arith, here))

-- the reply that is awaited is counted
pub awaited_pends : (r : Running) (site : Site) (p : ℕ) → awaited_place r site ≡ Some p → 1 ≤ pends p (Some r) site
awaited_pends (running.Flushing slot) site p at = slots_await oldest_in site.slots slot p refl (λ x. slot_awaits x p) at
awaited_pends (running.AwaitingRoom slot start) site p at = slots_await oldest_in site.slots slot p refl
    (λ x. slot_awaits x p) at
awaited_pends (running.FillingBuffer slot n offset own) site p at =
    slots_await reading_in site.slots slot p refl (λ x. slot_reads x p) at
awaited_pends (running.Deferred slot count) site p at = absurd cc
awaited_pends (running.DeferringRest slot done) site p at = absurd cc
awaited_pends (running.ReadingWhole grant bound window) site p at =
    first_pends window.waiting p (slots_times p site.slots) at
awaited_pends other site p at = own_awaited _ p _ at

-- what is awaited has a ticket
pub awaited_has : (r : Running) (site : Site) (tickets : List ℕ) (p : ℕ)
    → ((q : ℕ) → pends q (Some r) site ≤ tickets_for tickets q) → awaited_place r site ≡ Some p → is_in p tickets ≡ true
awaited_has r site tickets p all at = by_test (is_in p tickets) (all p) (awaited_pends r site p at)
  where
    by_test : (b : Bool) → pends p (Some r) site ≤ (if b then 1 else 0) → 1 ≤ pends p (Some r) site → b ≡ true
    by_test true le some = refl
    by_test false le some = absurd (omega (arith, le, some))

-- ---- a ticket is gone

one_out : (p q : ℕ) → q ≢ p → one p q ≡ 0
one_out p q ne = elim (eqb_tells p q) [ inl t ↦ absurd (ne (sym t.1)) | inr t ↦ rw t.0 refl ]

has_one : (tickets : List ℕ) (q : ℕ) → tickets_for tickets q ≤ 1
has_one tickets q = by_test (is_in q tickets)
  where
    by_test : (b : Bool) → (if b then 1 else 0) ≤ 1
    by_test true = omega arith
    by_test false = omega arith

-- the reply to a place was polled
pub polled_has : (n : ℕ → ℕ) (tickets : List ℕ) (k p : ℕ) → IsRising tickets → slice_get tickets k ≡ Some p
    → ((q : ℕ) → n q ≤ tickets_for tickets q) → (q : ℕ) → n q - one p q ≤ tickets_for (without_index k tickets) q
polled_has n tickets k p rising at all q = elim (eqb_tells q p) [
  | inl t ↦ (let here : one p q ≡ 1 = one_in p q (sym t.1) in let le : n q ≤ tickets_for tickets q = all q in
      let top : tickets_for tickets q ≤ 1 = has_one tickets q in omega (arith, here, le, top))
  | inr t ↦ (let here : one p q ≡ 0 = one_out p q t.1 in let le : n q ≤ tickets_for tickets q = all q in
      let same : tickets_for (without_index k tickets) q ≡ tickets_for tickets q =
      ap (λ (b : Bool). if b then 1 else 0) (without_other tickets k p q at t.1) in omega (arith, here, le, same))
]

-- a ticket was dropped that nothing awaits
pub dropped_has : (n : ℕ → ℕ) (tickets : List ℕ) (k p : ℕ) → slice_get tickets k ≡ Some p → n p ≡ 0
    → ((q : ℕ) → n q ≤ tickets_for tickets q) → (q : ℕ) → n q ≤ tickets_for (without_index k tickets) q
dropped_has n tickets k p at none all q = elim (eqb_tells q p) [
  | inl t ↦ (let zero_here : n q ≡ 0 = ap n t.1 ∙ none in omega (arith, zero_here))
  | inr t ↦ (let le : n q ≤ tickets_for tickets q = all q in let same : tickets_for (without_index k tickets) q
      ≡ tickets_for tickets q = ap (λ (b : Bool). if b then 1 else 0) (without_other tickets k p q at t.1) in
      omega (arith, le, same))
]

-- a request was submitted
pub asked_has : (n : ℕ → ℕ) (tickets : List ℕ) (place : ℕ) → is_in place tickets ≡ false
    → ((q : ℕ) → n q ≤ tickets_for tickets q) → (q : ℕ) → n q + one place q ≤ tickets_for (tickets ++ place ∷ []) q
asked_has n tickets place new all q = elim (eqb_tells q place) [
  | inl t ↦ (let here : one place q ≡ 1 = one_in place q (sym t.1) in let le : n q ≤ tickets_for tickets q = all q in
      let none : tickets_for tickets q ≡ 0 = ap (tickets_for tickets) t.1 ∙ ap (λ (b : Bool). if b then 1 else 0) new in
      let some : tickets_for (tickets ++ place ∷ []) q ≡ 1 = ap (tickets_for (tickets ++ place ∷ [])) t.1
      ∙ ap (λ (b : Bool). if b then 1 else 0) (push_self tickets place) in omega (arith, here, le, none, some))
  | inr t ↦ (let here : one place q ≡ 0 = one_out place q t.1 in let le : n q ≤ tickets_for tickets q = all q in
      let same : tickets_for (tickets ++ place ∷ []) q ≡ tickets_for tickets q =
      ap (λ (b : Bool). if b then 1 else 0) (push_other tickets place q t.1) in omega (arith, here, le, same))
]

-- ---- what a runner's answer awaits

abbrev pub AwaitsStep : ℕ → Site → List ℕ → Next → Type 0
AwaitsStep place site tickets (step.Ask a r) = (q : ℕ) → pends q (Some r) site ≤ tickets_for (tickets ++ place ∷ []) q
AwaitsStep place site tickets (step.Wait r) = (q : ℕ) → pends q (Some r) site ≤ tickets_for tickets q
AwaitsStep place site tickets (step.Done o) = (q : ℕ) → pends q None site ≤ tickets_for tickets q

pub awaits_step : (before : ℕ → ℕ) (place : ℕ) (site : Site) (tickets : List ℕ) (n : Next)
    → PendsAfter before place site n
    → is_in place tickets ≡ false → ((q : ℕ) → before q ≤ tickets_for tickets q) → AwaitsStep place site tickets n
awaits_step before place site tickets (step.Ask a r) p new all =
    λ q. (let le : pends q (Some r) site ≤ before q + one place q = p q in
    let more : before q + one place q ≤ tickets_for (tickets ++ place ∷ []) q = asked_has before tickets place new all q
    in omega (arith, le, more))
awaits_step before place site tickets (step.Wait r) p new all =
    λ q. (let le : pends q (Some r) site ≤ before q = p q in let more : before q ≤ tickets_for tickets q = all q in
    omega (arith, le, more))
awaits_step before place site tickets (step.Done o) p new all =
    λ q. (let le : pends q None site ≤ before q = p q in let more : before q ≤ tickets_for tickets q = all q in
    omega (arith, le, more))
