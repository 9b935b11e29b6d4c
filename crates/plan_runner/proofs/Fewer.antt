-- What awaits no more replies than before.
use Rattle.std.proofs.Common.{◌≡◌, ◌<◌, ◌≤◌, ◌+◌, ◌-◌, ℕ, zero, suc, List, [], ◌∷◌, Option, Some, None, Ok, Err, length, refl, sym, subst, arith}
use Rattle.std.specs.Prelude.{IfOk, Result, slice_index_or, slice_set}
use Rattle.ssh_encoding.specs.declared.out_of_memory.OutOfMemory.{OutOfMemory}
use Rattle.sftp_model.specs.declared.slot.FileAt.{FileAt}
use Rattle.sftp_model.specs.declared.slot.Facts.{Facts}
use Rattle.sftp_model.specs.declared.slot.Site.{Site}
use Rattle.sftp_model.specs.declared.slot.Slot.{Slot}
use Rattle.sftp_model.specs.declared.slot.Slot.TheVariants.{Empty, File, Buffered}
use Rattle.sftp_model.specs.Slots.{with_slot}
use Rattle.plan_runner.specs.declared.next.Next.{Next}
use Rattle.plan_runner.specs.declared.next.Next.TheVariants as step
use Rattle.plan_runner.specs.Runners.{keep_in}
use Rattle.plan_runner.specs.Sound.{IsKept, KeepsSite, KeepsRunningSound}
use Rattle.plan_runner.specs.Pending.{AwaitsNoMore, PendsAfter, one, pends, pends_idle, slot_times, slots_times}
use Rattle.plan_runner.proofs.Keeping.{set_count}

-- a slot that is set
pub set_times : (q : ℕ) (slots : List Slot) (k : ℕ) (x : Slot) → k < length slots
    → slots_times q (slice_set slots k x) + slot_times q (slice_index_or slots k Empty)
    ≡ slots_times q slots + slot_times q x
set_times q [] k x lt = absurd (omega (arith, lt))
set_times q (slot ∷ slots) zero x lt = omega arith
set_times q (slot ∷ slots) (suc k) x lt = (let rest : slots_times q (slice_set slots k x) + slot_times q
    (slice_index_or slots k Empty) ≡ slots_times q slots + slot_times q x = set_times q slots k x (omega (arith, lt)) in
    omega arith)

pub fewer_set : (site new : Site) (k : ℕ) (x : Slot) → new ≡ with_slot site k x → k < length site.slots
    → ((q : ℕ) → slot_times q x ≡ 0) → AwaitsNoMore site new
fewer_set site new k x is lt none = subst (λ (s : Site). AwaitsNoMore site s) (sym is) (record {
  each = λ q. (let set : slots_times q (slice_set site.slots k x) + slot_times q (slice_index_or site.slots k Empty)
      ≡ slots_times q site.slots + slot_times q x = set_times q site.slots k x lt in
      let zero_here : slot_times q x ≡ 0 = none q in omega (arith, set, zero_here));
})

pub fewer_file : (site new : Site) (k : ℕ) (file : FileAt) → new ≡ with_slot site k (File file) → k < length site.slots
    → AwaitsNoMore site new
fewer_file site new k file is lt = fewer_set site new k (File file) is lt (λ q. refl)

pub fewer_self : (site : Site) → AwaitsNoMore site site
fewer_self site = record { each = λ q. (omega arith) }

pub fewer_then : (a b c : Site) → AwaitsNoMore a b → AwaitsNoMore b c → AwaitsNoMore a c
fewer_then a b c f g = record {
  each = λ q. (let x : slots_times q b.slots ≤ slots_times q a.slots = f.each q in
      let y : slots_times q c.slots ≤ slots_times q b.slots = g.each q in omega (arith, x, y));
}

pub fewer_files : (site new : Site) (j k : ℕ) (a b : FileAt) → new ≡ with_slot (with_slot site j (File a)) k (File b)
    → j < length site.slots → k < length site.slots → AwaitsNoMore site new
fewer_files site new j k a b is lj lk = fewer_then site (with_slot site j (File a)) new
    (fewer_file site (with_slot site j (File a)) j a refl lj)
    (fewer_file (with_slot site j (File a)) new k b is (subst (λ (n : ℕ). k < n) (sym (set_count site j (File a))) lk))

-- a buffer that awaits nothing
pub fewer_bare : (site new : Site) (k : ℕ) (file : FileAt) (len : ℕ) → new
    ≡ with_slot site k (Buffered file (record { len = len; bytes = []; deferred = []; reading = None }))
    → k < length site.slots → AwaitsNoMore site new
fewer_bare site new k file len is lt = fewer_set site new k (Buffered file
    (record { len = len; bytes = []; deferred = []; reading = None })) is lt (λ q. refl)

-- ---- a runner that goes on from a site between

pub pends_less : (less before : ℕ → ℕ) (place : ℕ) (site : Site) (n : Next) → ((q : ℕ) → less q ≤ before q)
    → PendsAfter less place site n → PendsAfter before place site n
pends_less less before place site (step.Ask a r) le p = λ q.
    (let x : pends q (Some r) site ≤ less q + one place q = p q in let y : less q ≤ before q = le q in
    omega (arith, x, y))
pends_less less before place site (step.Wait r) le p = λ q. (let x : pends q (Some r) site ≤ less q = p q in
    let y : less q ≤ before q = le q in omega (arith, x, y))
pends_less less before place site (step.Done o) le p = λ q. (let x : pends q None site ≤ less q = p q in
    let y : less q ≤ before q = le q in omega (arith, x, y))

pub pends_if_ok : (less before : ℕ → ℕ) (place : ℕ) (site : Site) (n : Result Next OutOfMemory)
    → ((q : ℕ) → less q ≤ before q) → IfOk n (λ x. PendsAfter less place site x)
    → IfOk n (λ x. PendsAfter before place site x)
pends_if_ok less before place site (Ok n) le p = pends_less less before place site n le p
pends_if_ok less before place site (Err e) le p = p

pub sounds_then : (bytes : List ℕ) (facts : Facts) (old mid : Site) (n : Result Next OutOfMemory)
    → KeepsSite facts old mid
    → IfOk n (λ x. KeepsRunningSound bytes facts mid mid x) → IfOk n (λ x. KeepsRunningSound bytes facts old mid x)
sounds_then bytes facts old mid (Ok n) keep s = (keep, s.1)
sounds_then bytes facts old mid (Err e) keep s = s

-- what a call's own request counted isn't awaited any more
pub taken_off : (a b : ℕ) → b ≤ (a + b) - a
taken_off a b = omega arith

pub read_pends : (a b c : ℕ) → b ≤ c → b ≤ (a + c) - a
read_pends a b c x = omega (arith, x)

pub fewer_kept : (slot : Option ℕ) (file : FileAt) (offset : ℕ) (old new : Site) → IsKept slot file old → new
    ≡ keep_in slot (record file { offset = offset }) old → AwaitsNoMore old new
fewer_kept None file offset old new kept is = subst (λ (s : Site). AwaitsNoMore old s) (sym is) (fewer_self old)
fewer_kept (Some slot) file offset old new kept is = fewer_file old new slot (record file { offset = offset }) is kept.0

-- after the reply to a request of its own a call goes on from the site where its file was moved
pub kept_pends : (slot : Option ℕ) (awaited : ℕ) (file : FileAt) (offset place : ℕ) (old new : Site) (n : Next)
    → IsKept slot file old → new ≡ keep_in slot (record file { offset = offset }) old
    → PendsAfter (pends_idle new) place new n
    → PendsAfter (λ q. (one awaited q + slots_times q old.slots) - one awaited q) place new n
kept_pends slot awaited file offset place old new n kept is p =
    pends_less (pends_idle new) (λ q. (one awaited q + slots_times q old.slots) - one awaited q) place new n
    (λ q. read_pends (one awaited q) (slots_times q new.slots) (slots_times q old.slots)
    ((fewer_kept slot file offset old new kept is).each q)) p
