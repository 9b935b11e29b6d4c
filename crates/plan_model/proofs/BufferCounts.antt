-- How many requests a `buf_write_all` makes at most.
use Rattle.std.proofs.Common.{◌≡◌, ◌<◌, ◌≤◌, ◌+◌, ◌==◌, ℕ, suc, List, [], ◌∷◌, refl, arith}
use Rattle.std.specs.Prelude.{length, drop, ◌++◌}
use Rattle.std.proofs.lemmas.Bool.Decides.{nat_tests}
use Rattle.std.proofs.lemmas.List.{length-drop}
use Rattle.sftp_model.specs.declared.outcome.Outcome.TheVariants as outcome
use Rattle.sftp_model.specs.declared.slot.Facts.{Facts}
use Rattle.sftp_model.specs.declared.slot.Move.{Move}
use Rattle.sftp_model.specs.declared.slot.Move.TheVariants.{Done}
use Rattle.sftp_model.specs.declared.slot.FileAt.{FileAt}
use Rattle.sftp_model.specs.declared.slot.Buffer.{Buffer}
use Rattle.sftp_model.specs.declared.slot.Site.{Site}
use Rattle.sftp_model.specs.declared.slot.Slot.TheVariants.{Buffered}
use Rattle.sftp_model.specs.Slots.{slot_at}
use Rattle.plan_model.specs.Moves.{Answers, Own}
use Rattle.plan_model.specs.BufferPlans.{
  pending_bytes,
  with_deferred,
  taken_out,
  is_full,
  with_capacity,
  deferrable_len,
  after_write,
  buffered_rest,
  buf_write_all_next,
}
use Rattle.plan_model.proofs.MoveLaws.{either, by_status, at_buffered}
use Rattle.plan_model.specs.RequestCounts.{AsksBelow, EachHasByte, IsWithinLimit}
use Rattle.plan_model.proofs.CountLaws.{raised, fresh, answered_in}

pending_more : (writes : List (ℕ × ℕ)) (place n : ℕ) → pending_bytes (writes ++ (place, n) ∷ [])
    ≡ pending_bytes writes + n
pending_more [] place n = omega arith
pending_more (write ∷ writes) place n = omega (arith, pending_more writes place n)

each_more : (writes : List (ℕ × ℕ)) (place n : ℕ) → EachHasByte writes → 1 ≤ n → EachHasByte (writes ++ (place, n) ∷ [])
each_more [] place n each some = (some, tt)
each_more (write ∷ writes) place n each some = (each.0, each_more writes place n each.1 some)

-- a WRITE of at most what the limit leaves keeps it
pub after_within : (facts : Facts) (buffer : Buffer) (place n : ℕ) → IsWithinLimit facts buffer → 1 ≤ n
    → pending_bytes buffer.deferred + n ≤ facts.write_limit → IsWithinLimit facts (after_write buffer place n)
after_within facts buffer place n w some le = record {
  within = omega (arith, le, pending_more buffer.deferred place n);
  each = each_more buffer.deferred place n w.each some;
}

-- ---- where the window is full

pub capacity_any : (made most slot : ℕ) (file : FileAt) (buffer : Buffer) (site : Site) (facts : Facts)
    (answers : Answers) (go : Buffer → Site → Move) → ((b : Buffer) (x : Site) → AsksBelow made most (go b x))
    → AsksBelow made most (with_capacity slot file buffer site facts answers go)
capacity_any made most slot file buffer site facts answers go goes =
    either (AsksBelow made most) (is_full facts buffer) (taken_out slot file buffer site answers buffer.deferred go)
    (go buffer site) (λ e. taken buffer.deferred) (λ e. goes buffer site)
  where
    taken : (writes : List (ℕ × ℕ)) → AsksBelow made most (taken_out slot file buffer site answers writes go)
    taken [] = goes buffer site
    taken (write ∷ writes) = answered_in (AsksBelow made most) answers write.0 (answers write.0) _ refl tt (λ r is.
        by_status (AsksBelow made most) r (with_deferred slot file buffer site writes) _ (λ o. tt)
        (goes (record buffer { deferred = writes }) (with_deferred slot file buffer site writes)))

-- after it less than the limit is pending
capacity_left : (made most slot : ℕ) (file : FileAt) (buffer : Buffer) (site : Site) (facts : Facts) (answers : Answers)
    (go : Buffer → Site → Move) → 1 ≤ facts.write_limit → IsWithinLimit facts buffer
    → ((b : Buffer) (x : Site) → IsWithinLimit facts b → pending_bytes b.deferred < facts.write_limit
    → AsksBelow made most (go b x)) → AsksBelow made most (with_capacity slot file buffer site facts answers go)
capacity_left made most slot file buffer site facts answers go some w goes =
    either (AsksBelow made most) (is_full facts buffer) (taken_out slot file buffer site answers buffer.deferred go)
    (go buffer site)
    (λ e. taken buffer.deferred w.each (grind (arith, nat_tests)))
    (λ e. let le : pending_bytes buffer.deferred ≤ facts.write_limit = w.within in
    goes buffer site w (grind (arith, nat_tests)))
  where
    taken : (writes : List (ℕ × ℕ)) → EachHasByte writes → pending_bytes writes ≡ facts.write_limit
        → AsksBelow made most (taken_out slot file buffer site answers writes go)
    taken [] each full = absurd (omega (arith, some, full))
    taken (write ∷ writes) each full = answered_in (AsksBelow made most) answers write.0 (answers write.0) _ refl tt
        (λ r is.
        by_status (AsksBelow made most) r (with_deferred slot file buffer site writes) _ (λ o. tt)
        (let one : 1 ≤ write.1 = each.0 in
        goes (record buffer { deferred = writes }) (with_deferred slot file buffer site writes)
        (record { within = omega (arith, full); each = each.1 }) (omega (arith, full, one))))

-- ---- buf_write_all: a request for each byte at most

nothing_asked : (slot : ℕ) (bytes : List ℕ) (file : FileAt) (buffer : Buffer) (site : Site) (facts : Facts) (own : Own)
    (answers : Answers) → length bytes ≡ 0 → AsksBelow (length own) 0
    (buffered_rest slot bytes file buffer site facts own answers)
nothing_asked slot bytes file buffer site facts [] answers none =
    either (AsksBelow 0 0) (length bytes == 0) (Done outcome.Done site) _ (λ z. tt)
    (λ z. absurd (grind (arith, nat_tests)))
nothing_asked slot bytes file buffer site facts (asked ∷ later) answers none =
    capacity_any (suc (length later)) 0 slot file buffer site facts answers _ (λ b x.
    raised (length later) 0 (suc (length later)) 0 _ (λ lt. absurd (omega (arith, lt)))
    (nothing_asked slot (drop (deferrable_len facts bytes b) bytes) _ _ _ facts later answers
    (omega (arith, none, length-drop (deferrable_len facts bytes b) bytes))))

pub buffered_within : (slot : ℕ) (bytes : List ℕ) (file : FileAt) (buffer : Buffer) (site : Site) (facts : Facts)
    (own : Own) (answers : Answers) → 1 ≤ facts.write_len → 1 ≤ facts.write_limit → IsWithinLimit facts buffer
    → AsksBelow (length own) (length bytes) (buffered_rest slot bytes file buffer site facts own answers)
buffered_within slot bytes file buffer site facts [] answers len limit w =
    either (AsksBelow 0 (length bytes)) (length bytes == 0) (Done outcome.Done site) _ (λ z. tt)
    (λ z. fresh (length bytes) _ (grind (arith, nat_tests)))
buffered_within slot [] file buffer site facts (asked ∷ later) answers len limit w =
    nothing_asked slot [] file buffer site facts (asked ∷ later) answers refl
buffered_within slot (c ∷ bytes) file buffer site facts (asked ∷ later) answers len limit w =
    capacity_left (suc (length later)) (suc (length bytes)) slot file buffer site facts answers _ limit w
    (λ b x wb free.
    raised (length later) (length (drop (deferrable_len facts (c ∷ bytes) b) (c ∷ bytes))) (suc (length later))
    (suc (length bytes)) _ (λ lt. omega (
      arith,
      lt,
      len,
      free,
      length-drop (deferrable_len facts (c ∷ bytes) b) (c ∷ bytes),
    ))
    (buffered_within slot (drop (deferrable_len facts (c ∷ bytes) b) (c ∷ bytes)) _
    (after_write b asked.0 (deferrable_len facts (c ∷ bytes) b)) _ facts later answers len limit
    (after_within facts b asked.0 (deferrable_len facts (c ∷ bytes) b) wb (omega (arith, len, free))
    (omega (arith, free)))))

pub buf_write_all_within : (slot : ℕ) (bytes : List ℕ) (site : Site) (facts : Facts) (own : Own) (answers : Answers)
    → 1 ≤ facts.write_len → 1 ≤ facts.write_limit → ((file : FileAt) (buffer : Buffer) → slot_at site slot
    ≡ Buffered file buffer → IsWithinLimit facts buffer)
    → AsksBelow (length own) (length bytes) (buf_write_all_next slot bytes site facts own answers)
buf_write_all_within slot bytes site facts own answers len limit within =
    at_buffered (AsksBelow (length own) (length bytes)) (slot_at site slot) site _ (λ o. tt)
    (λ file buffer at. buffered_within slot bytes file buffer site facts own answers len limit
    (within file buffer at))
