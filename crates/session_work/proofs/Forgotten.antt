-- Which tickets no slot awaits.
use Rattle.std.proofs.Common.{◌≡◌, ◌≢◌, ◌∙◌, ◌+◌, ◌==◌, refl, sym, arith, ℕ, Bool, true, false, List, [], ◌∷◌, Option, Some, None, if◌then◌else◌}
use Rattle.std.specs.Prelude.{◌||◌}
use Rattle.std.specs.List.{list_any}
use Rattle.sftp_model.specs.declared.slot.Slot.{Slot}
use Rattle.sftp_model.specs.declared.slot.Slot.TheVariants.{Empty, File, Buffered}
use Rattle.plan_runner.specs.Pending.{maybe, one, slot_times, slots_times, writes_times}
use Rattle.session_work.specs.Tokens.{is_place, slot_awaits}

-- ---- a test of either

neither : (a b : Bool) → (a || b) ≡ false → (a ≡ false) × (b ≡ false)
neither true b e = absurd cc
neither false b e = (refl, e)

test_zero : (b : Bool) → b ≡ false → ◌≡◌ {A = ℕ} (if b then 1 else 0) 0
test_zero true e = absurd cc
test_zero false e = refl

-- ---- none awaits it

writes_none : (p : ℕ) (writes : List (ℕ × ℕ)) → list_any (λ write. write.0 == p) writes ≡ false → writes_times p writes
    ≡ 0
writes_none p [] e = refl
writes_none p (write ∷ writes) e =
    (let both = neither (write.0 == p) (list_any (λ w. w.0 == p) writes) e in
    let here : one write.0 p ≡ 0 = test_zero (write.0 == p) both.0 in
    let later : writes_times p writes ≡ 0 = writes_none p writes both.1 in omega (arith, here, later))

reading_none : (p : ℕ) (reading : Option ℕ) → is_place p reading ≡ false → maybe reading p ≡ 0
reading_none p None e = refl
reading_none p (Some place) e = test_zero (place == p) e

slot_none : (p : ℕ) (slot : Slot) → slot_awaits p slot ≡ false → slot_times p slot ≡ 0
slot_none p Empty e = refl
slot_none p (File file) e = refl
slot_none p (Buffered file buffer) e =
    (let both = neither (is_place p buffer.reading) (list_any (λ w. w.0 == p) buffer.deferred) e in
    let reads : maybe buffer.reading p ≡ 0 = reading_none p buffer.reading both.0 in
    let writes : writes_times p buffer.deferred ≡ 0 = writes_none p buffer.deferred both.1 in
    omega (arith, reads, writes))

pub none_awaits : (p : ℕ) (slots : List Slot) → list_any (slot_awaits p) slots ≡ false → slots_times p slots ≡ 0
none_awaits p [] e = refl
none_awaits p (slot ∷ slots) e =
    (let both = neither (slot_awaits p slot) (list_any (slot_awaits p) slots) e in
    let here : slot_times p slot ≡ 0 = slot_none p slot both.0 in
    let later : slots_times p slots ≡ 0 = none_awaits p slots both.1 in omega (arith, here, later))

-- ---- one awaits it

none_of_two : (m n : ℕ) → m + n ≡ 0 → (m ≡ 0) × (n ≡ 0)
none_of_two m n e = (omega (arith, e), omega (arith, e))

zero_test : (b : Bool) → ◌≡◌ {A = ℕ} (if b then 1 else 0) 0 → b ≡ false
zero_test true e = absurd (omega (arith, e))
zero_test false e = refl

either : (a b : Bool) → a ≡ false → b ≡ false → (a || b) ≡ false
either true b e f = absurd cc
either false b e f = f

writes_some : (p : ℕ) (writes : List (ℕ × ℕ)) → writes_times p writes ≡ 0 → list_any (λ write. write.0 == p) writes
    ≡ false
writes_some p [] e = refl
writes_some p (write ∷ writes) e =
    (let both = none_of_two (one write.0 p) (writes_times p writes) e in
    either (write.0 == p) (list_any (λ w. w.0 == p) writes) (zero_test (write.0 == p) both.0)
    (writes_some p writes both.1))

reading_some : (p : ℕ) (reading : Option ℕ) → maybe reading p ≡ 0 → is_place p reading ≡ false
reading_some p None e = refl
reading_some p (Some place) e = zero_test (place == p) e

slot_some : (p : ℕ) (slot : Slot) → slot_times p slot ≡ 0 → slot_awaits p slot ≡ false
slot_some p Empty e = refl
slot_some p (File file) e = refl
slot_some p (Buffered file buffer) e =
    (let both = none_of_two (maybe buffer.reading p) (writes_times p buffer.deferred) e in
    either (is_place p buffer.reading) (list_any (λ w. w.0 == p) buffer.deferred) (reading_some p buffer.reading both.0)
    (writes_some p buffer.deferred both.1))

slots_some : (p : ℕ) (slots : List Slot) → slots_times p slots ≡ 0 → list_any (slot_awaits p) slots ≡ false
slots_some p [] e = refl
slots_some p (slot ∷ slots) e =
    (let both = none_of_two (slot_times p slot) (slots_times p slots) e in
    either (slot_awaits p slot) (list_any (slot_awaits p) slots) (slot_some p slot both.0)
    (slots_some p slots both.1))

pub some_awaits : (p : ℕ) (slots : List Slot) → list_any (slot_awaits p) slots ≡ true → slots_times p slots ≢ 0
some_awaits p slots e none = (let clash : false ≡ true = sym (slots_some p slots none) ∙ e in absurd cc)
