-- What keeps the deferred writes of buffers within the limit.
use Rattle.std.proofs.Common.{◌≡◌, ◌<◌, ◌≤◌, ◌==◌, ℕ, zero, suc, Bool, true, false, List, [], ◌∷◌, refl, sym, subst, arith, if◌then◌else◌}
use Rattle.std.specs.Prelude.{length, drop, slice_set, slice_index_or}
use Rattle.std.proofs.lemmas.Bool.Decides.{nat_tests}
use Rattle.sftp_model.specs.declared.outcome.Outcome.{Outcome}
use Rattle.sftp_model.specs.declared.slot.Facts.{Facts}
use Rattle.sftp_model.specs.declared.slot.Move.{Move}
use Rattle.sftp_model.specs.declared.slot.Move.TheVariants.{Wait, Done}
use Rattle.sftp_model.specs.declared.slot.FileAt.{FileAt}
use Rattle.sftp_model.specs.declared.slot.Buffer.{Buffer}
use Rattle.sftp_model.specs.declared.slot.Slot.{Slot}
use Rattle.sftp_model.specs.declared.slot.Slot.TheVariants.{Empty, File, Buffered}
use Rattle.sftp_model.specs.declared.slot.Site.{Site}
use Rattle.sftp_model.specs.Slots.{slot_at, with_slot}
use Rattle.plan_model.specs.Moves.{Answers, Own, further}
use Rattle.plan_model.specs.BufferPlans.{pending_bytes, with_deferred, taken_out, is_full, with_capacity, deferrable_len, after_write, carried_length, with_oldest_settled, after_writes}
use Rattle.plan_model.specs.RequestCounts.{EachHasByte, IsWithinLimit, BuffersWithin}
use Rattle.plan_model.proofs.MoveLaws.{by_status}
use Rattle.plan_model.proofs.CountLaws.{answered_in}
use Rattle.plan_model.proofs.BufferCounts.{after_within}

-- ---- slots that are set

abbrev pub SlotWithin : Facts → Slot → Type 0
SlotWithin facts (Buffered file buffer) = IsWithinLimit facts buffer
SlotWithin facts other = Unit {0}

to_slots : (facts : Facts) (site : Site) (k : ℕ) → BuffersWithin facts site → SlotWithin facts (slot_at site k)
to_slots facts site k w = by_slot (slot_at site k) refl
  where
    by_slot : (x : Slot) → slot_at site k ≡ x → SlotWithin facts x
    by_slot Empty is = tt
    by_slot (File file) is = tt
    by_slot (Buffered file buffer) is = w k file buffer is

pub set_cases : (P : Slot → Type 0) (slots : List Slot) (k j : ℕ) (x : Slot) → P (slice_index_or slots j Empty) → P x
    → P (slice_index_or (slice_set slots k x) j Empty)
set_cases P [] k j x old new = old
set_cases P (slot ∷ slots) zero zero x old new = new
set_cases P (slot ∷ slots) zero (suc j) x old new = old
set_cases P (slot ∷ slots) (suc k) zero x old new = old
set_cases P (slot ∷ slots) (suc k) (suc j) x old new = set_cases P slots k j x old new

pub within_set : (facts : Facts) (site : Site) (slot : ℕ) (x : Slot) → SlotWithin facts x → BuffersWithin facts site
    → BuffersWithin facts (with_slot site slot x)
within_set facts site slot x new w = λ j file buffer is. subst (SlotWithin facts) is
    (set_cases (SlotWithin facts) site.slots slot j x (to_slots facts site j w) new)

-- ---- where the window is full, the oldest write is taken out

dropped : (writes : List (ℕ × ℕ)) (limit : ℕ) → 1 ≤ limit → pending_bytes writes ≡ limit → EachHasByte writes
    → EachHasByte (drop 1 writes) × (pending_bytes (drop 1 writes) < limit)
dropped [] limit some full each = absurd (omega (arith, some, full))
dropped (write ∷ writes) limit some full each = let one : 1 ≤ write.1 = each.0 in (each.1, omega (arith, one, full))

pub freed_within : (facts : Facts) (buffer : Buffer) → 1 ≤ facts.write_limit → IsWithinLimit facts buffer
    → IsWithinLimit facts (with_oldest_settled facts buffer) ×
    (pending_bytes (with_oldest_settled facts buffer).deferred < facts.write_limit)
freed_within facts buffer some w = by_test (is_full facts buffer) refl
  where
    equal : (n m : ℕ) → (n == m) ≡ true → n ≡ m
    equal n m e = grind (arith, nat_tests)

    below : (n m : ℕ) → (n == m) ≡ false → n ≤ m → n < m
    below n m e le = grind (arith, nat_tests)

    by_test : (t : Bool) → is_full facts buffer ≡ t
        → IsWithinLimit facts (if t then record buffer { deferred = drop 1 buffer.deferred } else buffer)
        × (pending_bytes (if t then record buffer { deferred = drop 1 buffer.deferred } else buffer).deferred <
        facts.write_limit)
    by_test true is =
        let d : EachHasByte (drop 1 buffer.deferred) × (pending_bytes (drop 1 buffer.deferred) < facts.write_limit) =
        dropped buffer.deferred facts.write_limit some (equal (pending_bytes buffer.deferred) facts.write_limit is)
        w.each
        in
        (record { within = omega (arith, d.1); each = d.0 }, d.1)
    by_test false is = (w, below (pending_bytes buffer.deferred) facts.write_limit is w.within)

pub by_capacity : (P : Move → Type 0) (slot : ℕ) (file : FileAt) (buffer : Buffer) (site : Site) (facts : Facts)
    (answers : Answers) (go : Buffer → Site → Move) → 1 ≤ facts.write_limit → IsWithinLimit facts buffer
    → BuffersWithin facts site
    → ((place : ℕ) → P (Wait place)) → ((o : Outcome) (x : Site) → BuffersWithin facts x → P (Done o x))
    → ((x : Site) → BuffersWithin facts x → P (go (with_oldest_settled facts buffer) x))
    → P (with_capacity slot file buffer site facts answers go)
by_capacity P slot file buffer site facts answers go some w b waits ends goes = by_test (is_full facts buffer) refl goes
  where
    equal : (n m : ℕ) → (n == m) ≡ true → n ≡ m
    equal n m e = grind (arith, nat_tests)

    taken : (writes : List (ℕ × ℕ)) → buffer.deferred ≡ writes → EachHasByte writes → pending_bytes writes
        ≡ facts.write_limit
        → ((x : Site) → BuffersWithin facts x → P (go (record buffer { deferred = drop 1 buffer.deferred }) x))
        → P (taken_out slot file buffer site answers writes go)
    taken [] is each full goes = absurd (omega (arith, some, full))
    taken (write ∷ writes) is each full goes =
        let one : 1 ≤ write.1 = each.0 in
        let left : BuffersWithin facts (with_deferred slot file buffer site writes) =
        within_set facts site slot (Buffered file (record buffer { deferred = writes }))
        (record { within = omega (arith, one, full); each = each.1 }) b in
        answered_in P answers write.0 (answers write.0) _ refl (waits write.0) (λ r k.
        by_status P r (with_deferred slot file buffer site writes) _
        (λ o. ends o (with_deferred slot file buffer site writes) left)
        (subst (λ (l : List (ℕ × ℕ)). P (go (record buffer { deferred = drop 1 l })
        (with_deferred slot file buffer site writes))) is (goes (with_deferred slot file buffer site writes) left)))

    by_test : (t : Bool) → is_full facts buffer ≡ t → ((x : Site) → BuffersWithin facts x
        → P (go (if t then record buffer { deferred = drop 1 buffer.deferred } else buffer) x))
        → P (if t then taken_out slot file buffer site answers buffer.deferred go else go buffer site)
    by_test true is goes = taken buffer.deferred refl w.each (equal (pending_bytes buffer.deferred) facts.write_limit
        is) goes
    by_test false is goes = goes site b

-- ---- a WRITE of at least a byte, and of no more than the limit leaves

pub some_deferrable : (facts : Facts) (bytes : List ℕ) (buffer : Buffer) → 1 ≤ facts.write_len
    → pending_bytes buffer.deferred < facts.write_limit → 1 ≤ length bytes → 1 ≤ deferrable_len facts bytes buffer
some_deferrable facts bytes buffer len free some = omega (arith, len, free, some)

pub written_within : (facts : Facts) (bytes : List ℕ) (buffer : Buffer) (place : ℕ) → IsWithinLimit facts buffer
    → pending_bytes buffer.deferred < facts.write_limit → 1 ≤ deferrable_len facts bytes buffer
    → IsWithinLimit facts (after_write buffer place (deferrable_len facts bytes buffer))
written_within facts bytes buffer place w free some = after_within facts buffer place
    (deferrable_len facts bytes buffer) w some (omega (arith, free))

-- the own WRITEs of a call carry what its plan sends
abbrev pub Carries : Facts → List ℕ → Buffer → Own → Type 0
Carries facts bytes buffer [] = Unit {0}
Carries facts bytes buffer (asked ∷ later) =
    (carried_length asked.1 ≡ deferrable_len facts bytes (with_oldest_settled facts buffer))
    × (1 ≤ deferrable_len facts bytes (with_oldest_settled facts buffer))
    × Carries facts (drop (deferrable_len facts bytes (with_oldest_settled facts buffer)) bytes)
    (after_write (with_oldest_settled facts buffer) asked.0 (deferrable_len facts bytes
    (with_oldest_settled facts buffer))) later

-- what such WRITEs leave
pub carried_within : (facts : Facts) (bytes : List ℕ) (file : FileAt) (buffer : Buffer) (own : Own)
    → 1 ≤ facts.write_limit → IsWithinLimit facts buffer → Carries facts bytes buffer own
    → SlotWithin facts (after_writes facts file buffer own)
carried_within facts bytes file buffer [] some w c = w
carried_within facts bytes file buffer (asked ∷ later) some w c =
    let f : IsWithinLimit facts (with_oldest_settled facts buffer)
    × (pending_bytes (with_oldest_settled facts buffer).deferred < facts.write_limit) =
    freed_within facts buffer some w in
    subst (λ (n : ℕ). SlotWithin facts (after_writes facts (further file n)
    (after_write (with_oldest_settled facts buffer) asked.0 n) later)) (sym c.0)
    (carried_within facts (drop (deferrable_len facts bytes (with_oldest_settled facts buffer)) bytes)
    (further file (deferrable_len facts bytes (with_oldest_settled facts buffer)))
    (after_write (with_oldest_settled facts buffer) asked.0 (deferrable_len facts bytes
    (with_oldest_settled facts buffer))) later some
    (written_within facts bytes (with_oldest_settled facts buffer) asked.0 f.0 f.1 c.1) c.2)
