-- Buffered writes keep the limit, and so do those that are cancelled.
use Rattle.std.proofs.Common.{◌≡◌, ◌<◌, ◌≤◌, ◌==◌, ℕ, Bool, true, false, List, [], ◌∷◌, refl, subst, arith, if◌then◌else◌}
use Rattle.std.specs.Prelude.{◌++◌, length, not, take, drop}
use Rattle.std.proofs.lemmas.Bool.Decides.{nat_tests}
use Rattle.std.proofs.lemmas.List.{length-take}
use Rattle.sftp_model.specs.declared.outcome.Outcome.{Outcome}
use Rattle.sftp_model.specs.declared.outcome.Outcome.TheVariants as outcome
use Rattle.sftp_model.specs.declared.error.IoKind.TheVariants as kind
use Rattle.sftp_model.specs.declared.request.Request.{Request}
use Rattle.sftp_model.specs.declared.request.Request.TheVariants as request
use Rattle.sftp_model.specs.declared.slot.Facts.{Facts}
use Rattle.sftp_model.specs.declared.slot.Move.{Move}
use Rattle.sftp_model.specs.declared.slot.Move.TheVariants.{Ask, Wait, Done}
use Rattle.sftp_model.specs.declared.slot.FileAt.{FileAt}
use Rattle.sftp_model.specs.declared.slot.Buffer.{Buffer}
use Rattle.sftp_model.specs.declared.slot.Slot.{Slot}
use Rattle.sftp_model.specs.declared.slot.Slot.TheVariants.{Buffered}
use Rattle.sftp_model.specs.declared.slot.Site.{Site}
use Rattle.sftp_model.specs.Slots.{slot_at, with_slot}
use Rattle.plan_model.specs.Moves.{Answers, Own, ask_write, handle_of, overflows, refuse_locally, on_buffered, further}
use Rattle.plan_model.specs.OwnRequests.{oldest_first, AreAsked}
use Rattle.plan_model.specs.BufferPlans.{
  pending_bytes,
  deferrable_len,
  ask_deferred,
  after_write,
  written_slot,
  send_next,
  buf_write_file_next,
  buf_write_next,
  buffered_rest,
  buf_write_all_next,
  carried_length,
  with_oldest_settled,
}
use Rattle.plan_model.specs.RequestCounts.{IsWithinLimit, BuffersWithin, LeavesWithin}
use Rattle.plan_model.proofs.MoveLaws.{either}
use Rattle.plan_model.proofs.LeftSites.{write_leaves}
use Rattle.plan_model.proofs.LimitLaws.{within_set, freed_within, by_capacity, some_deferrable, written_within, Carries}

-- ---- what is asked, and what is left where nothing is

pub asks_same : (q r : Request) → Ask q ≡ Ask r → q ≡ r
asks_same q r e = cc

write_carries : (file : FileAt) (bytes : List ℕ) (site : Site) (answers : Answers) (r : Request)
    → ask_write file bytes site answers ≡ Ask r → carried_length r ≡ length bytes
write_carries file bytes site answers r e = by_tests (not file.writable) (overflows file.offset (length bytes)) e
  where
    q : Request
    q = request.Write (handle_of (answers file.grant)) file.offset bytes

    by_tests : (a b : Bool) → (if a then refuse_locally kind.NotWritable site else if b then
        refuse_locally kind.OffsetOverflow site else Ask q) ≡ Ask r → carried_length r ≡ length bytes
    by_tests true b e = absurd cc
    by_tests false true e = absurd cc
    by_tests false false e = subst (λ (x : Request). carried_length x ≡ length bytes) (asks_same q r e) refl

deferred_carries : (file : FileAt) (bytes : List ℕ) (facts : Facts) (answers : Answers) (b : Buffer) (x : Site)
    (r : Request) → ask_deferred file bytes facts answers b x ≡ Ask r → carried_length r ≡ deferrable_len facts bytes b
deferred_carries file bytes facts answers b x r e =
    let c : carried_length r ≡ length (take (deferrable_len facts bytes b) bytes) =
    write_carries file (take (deferrable_len facts bytes b) bytes) x answers r e in
    omega (arith, c, length-take (deferrable_len facts bytes b) bytes)

filled : (bytes : List ℕ) → (length bytes == 0) ≡ false → 1 ≤ length bytes
filled bytes e = grind (arith, nat_tests)

pub no_done : (o : Outcome) (x : Site) (r : Request) → Done o x ≡ Ask r → ⊥
no_done o x r e = absurd cc

pub no_wait : (place : ℕ) (r : Request) → Wait place ≡ Ask r → ⊥
no_wait place r e = absurd cc

-- the first bytes of a buffer's WRITE, where there are some
first_some : (facts : Facts) (bytes : List ℕ) (buffer : Buffer) → 1 ≤ facts.write_len → 1 ≤ facts.write_limit
    → IsWithinLimit facts buffer → 1 ≤ length bytes → 1 ≤ deferrable_len facts bytes (with_oldest_settled facts buffer)
first_some facts bytes buffer len limit w some = some_deferrable facts bytes (with_oldest_settled facts buffer) len
    (freed_within facts buffer limit w).1 some

-- ---- buf_write_all

next_within : (facts : Facts) (slot : ℕ) (bytes : List ℕ) (file : FileAt) (buffer : Buffer) (x : Site) (place : ℕ)
    → 1 ≤ facts.write_limit → IsWithinLimit facts buffer → 1 ≤ deferrable_len facts bytes
    (with_oldest_settled facts buffer)
    → IsWithinLimit facts (after_write (with_oldest_settled facts buffer) place
    (deferrable_len facts bytes (with_oldest_settled facts buffer)))
next_within facts slot bytes file buffer x place limit w some =
    let f : IsWithinLimit facts (with_oldest_settled facts buffer)
    × (pending_bytes (with_oldest_settled facts buffer).deferred < facts.write_limit) =
    freed_within facts buffer limit w in
    written_within facts bytes (with_oldest_settled facts buffer) place f.0 f.1 some

rest_carries : (slot : ℕ) (bytes : List ℕ) (file : FileAt) (buffer : Buffer) (site : Site) (facts : Facts) (own : Own)
    (answers : Answers) (place : ℕ) (r : Request) → 1 ≤ facts.write_len → 1 ≤ facts.write_limit
    → IsWithinLimit facts buffer
    → BuffersWithin facts site → Carries facts bytes buffer own
    → buffered_rest slot bytes file buffer site facts own answers ≡ Ask r
    → Carries facts bytes buffer (own ++ (place, r) ∷ [])
rest_carries slot bytes file buffer site facts [] answers place r len limit w b c e =
    either (λ (m : Move). m ≡ Ask r → Carries facts bytes buffer ((place, r) ∷ [])) (length bytes == 0)
    (Done outcome.Done site) _ (λ z k. absurd (no_done outcome.Done site r k))
    (λ z. either (λ (m : Move). m ≡ Ask r → Carries facts bytes buffer ((place, r) ∷ [])) (not file.writable)
    (refuse_locally kind.NotWritable site) _ (λ n k. absurd (no_done _ site r k))
    (λ n. by_capacity (λ (m : Move). m ≡ Ask r → Carries facts bytes buffer ((place, r) ∷ [])) slot file buffer site
    facts answers (ask_deferred file bytes facts answers) limit w b
    (λ p k. absurd (no_wait p r k)) (λ o x h k. absurd (no_done o x r k))
    (λ x h k. (
      deferred_carries file bytes facts answers (with_oldest_settled facts buffer) x r k,
      first_some facts bytes buffer len limit w (filled bytes z),
      tt,
    )))) e
rest_carries slot bytes file buffer site facts (asked ∷ later) answers place r len limit w b c e =
    by_capacity (λ (m : Move). m ≡ Ask r → Carries facts bytes buffer (asked ∷ (later ++ (place, r) ∷ []))) slot file
    buffer site facts answers _ limit w b
    (λ p k. absurd (no_wait p r k)) (λ o x h k. absurd (no_done o x r k))
    (λ x h k. (
      c.0,
      c.1,
      rest_carries slot (drop (deferrable_len facts bytes (with_oldest_settled facts buffer)) bytes)
          (further file (deferrable_len facts bytes (with_oldest_settled facts buffer)))
          (after_write (with_oldest_settled facts buffer) asked.0
          (deferrable_len facts bytes (with_oldest_settled facts buffer)))
          (with_slot x slot (written_slot file (with_oldest_settled facts buffer) asked.0
          (deferrable_len facts bytes (with_oldest_settled facts buffer)))) facts later answers place r len limit
          (next_within facts slot bytes file buffer x asked.0 limit w c.1)
          (within_set facts x slot (written_slot file (with_oldest_settled facts buffer) asked.0
          (deferrable_len facts bytes (with_oldest_settled facts buffer)))
          (next_within facts slot bytes file buffer x asked.0
          limit w c.1) h) c.2 k,
    )) e

pub rest_leaves : (slot : ℕ) (bytes : List ℕ) (file : FileAt) (buffer : Buffer) (site : Site) (facts : Facts)
    (own : Own) (answers : Answers) → 1 ≤ facts.write_limit → IsWithinLimit facts buffer
    → BuffersWithin facts site → Carries facts bytes buffer own
    → LeavesWithin facts (buffered_rest slot bytes file buffer site facts own answers)
rest_leaves slot bytes file buffer site facts [] answers limit w b c =
    either (LeavesWithin facts) (length bytes == 0) (Done outcome.Done site) _ (λ z. b)
    (λ z. either (LeavesWithin facts) (not file.writable) (refuse_locally kind.NotWritable site) _ (λ n. b)
    (λ n. by_capacity (LeavesWithin facts) slot file buffer site facts answers (ask_deferred file bytes facts answers)
    limit w b (λ p. tt) (λ o x h. h)
    (λ x h. write_leaves (BuffersWithin facts) file (take (deferrable_len facts bytes
    (with_oldest_settled facts buffer)) bytes) x answers h)))
rest_leaves slot bytes file buffer site facts (asked ∷ later) answers limit w b c =
    by_capacity (LeavesWithin facts) slot file buffer site facts answers _ limit w b (λ p. tt) (λ o x h. h)
    (λ x h. rest_leaves slot (drop (deferrable_len facts bytes (with_oldest_settled facts buffer)) bytes)
    (further file (deferrable_len facts bytes (with_oldest_settled facts buffer)))
    (after_write (with_oldest_settled facts buffer) asked.0 (deferrable_len facts bytes
    (with_oldest_settled facts buffer)))
    (with_slot x slot (written_slot file (with_oldest_settled facts buffer) asked.0
    (deferrable_len facts bytes (with_oldest_settled facts buffer)))) facts later answers limit
    (next_within facts slot bytes file buffer x asked.0 limit w c.1)
    (within_set facts x slot (written_slot file (with_oldest_settled facts buffer) asked.0
    (deferrable_len facts bytes (with_oldest_settled facts buffer)))
    (next_within facts slot bytes file buffer x asked.0 limit w
    c.1) h) c.2)

pub all_carry : (slot : ℕ) (bytes : List ℕ) (site : Site) (facts : Facts) (file : FileAt) (buffer : Buffer) (past : Own)
    (answers : Answers) → 1 ≤ facts.write_len → 1 ≤ facts.write_limit → BuffersWithin facts site → slot_at site slot
    ≡ Buffered file buffer
    → AreAsked (buf_write_all_next slot bytes site facts) past answers → Carries facts bytes buffer (oldest_first past)
all_carry slot bytes site facts file buffer [] answers len limit b at asked = tt
all_carry slot bytes site facts file buffer (a ∷ past) answers len limit b at (before, earlier, is, none, stays) =
    rest_carries slot bytes file buffer site facts (oldest_first past) before a.0 a.1 len limit (b slot file buffer at)
    b
    (all_carry slot bytes site facts file buffer past before len limit b at earlier)
    (subst (λ (x : Slot). on_buffered x site (λ f u. buffered_rest slot bytes f u site facts (oldest_first past) before)
    ≡ Ask a.1) at is)

-- ---- buf_write

pub sent_leaves : (slot : ℕ) (bytes : List ℕ) (file : FileAt) (buffer : Buffer) (site : Site) (facts : Facts)
    (own : Own) (answers : Answers) → 1 ≤ facts.write_len → 1 ≤ facts.write_limit → IsWithinLimit facts buffer
    → BuffersWithin facts site → LeavesWithin facts (buf_write_file_next slot bytes site facts own answers file buffer)
sent_leaves slot bytes file buffer site facts own answers len limit w b =
    either (LeavesWithin facts) (not file.writable) (refuse_locally kind.NotWritable site) _ (λ n. b)
    (λ n. either (LeavesWithin facts) (length bytes == 0) (Done (outcome.Count 0) site) _ (λ z. b)
    (λ z. by_capacity (LeavesWithin facts) slot file buffer site facts answers
    (send_next slot file bytes facts own answers) limit w b (λ p. tt) (λ o x h. h)
    (λ x h. by_own own x h (first_some facts bytes buffer len limit w (filled bytes z)))))
  where
    by_own : (o : Own) (x : Site) → BuffersWithin facts x → 1 ≤ deferrable_len facts bytes
        (with_oldest_settled facts buffer)
        → LeavesWithin facts (send_next slot file bytes facts o answers (with_oldest_settled facts buffer) x)
    by_own [] x h some = write_leaves (BuffersWithin facts) file
        (take (deferrable_len facts bytes (with_oldest_settled facts buffer)) bytes) x answers h
    by_own (asked ∷ later) x h some =
        within_set facts x slot (written_slot file (with_oldest_settled facts buffer) asked.0
        (deferrable_len facts bytes (with_oldest_settled facts buffer)))
        (next_within facts slot bytes file buffer x asked.0 limit
        w some) h

sent_carries : (slot : ℕ) (bytes : List ℕ) (file : FileAt) (buffer : Buffer) (site : Site) (facts : Facts) (own : Own)
    (answers : Answers) (place : ℕ) (r : Request) → 1 ≤ facts.write_len → 1 ≤ facts.write_limit
    → IsWithinLimit facts buffer
    → BuffersWithin facts site → buf_write_file_next slot bytes site facts own answers file buffer ≡ Ask r
    → Carries facts bytes buffer (own ++ (place, r) ∷ [])
sent_carries slot bytes file buffer site facts own answers place r len limit w b e =
    either (λ (m : Move). m ≡ Ask r → Carries facts bytes buffer (own ++ (place, r) ∷ [])) (not file.writable)
    (refuse_locally kind.NotWritable site) _ (λ n k. absurd (no_done _ site r k))
    (λ n. either (λ (m : Move). m ≡ Ask r → Carries facts bytes buffer (own ++ (place, r) ∷ [])) (length bytes == 0)
    (Done (outcome.Count 0) site) _ (λ z k. absurd (no_done (outcome.Count 0) site r k))
    (λ z. by_capacity (λ (m : Move). m ≡ Ask r → Carries facts bytes buffer (own ++ (place, r) ∷ [])) slot file buffer
    site facts answers (send_next slot file bytes facts own answers) limit w b
    (λ p k. absurd (no_wait p r k)) (λ o x h k. absurd (no_done o x r k))
    (λ x h k. by_own own x (first_some facts bytes buffer len limit w (filled bytes z)) k))) e
  where
    by_own : (o : Own) (x : Site) → 1 ≤ deferrable_len facts bytes (with_oldest_settled facts buffer)
        → send_next slot file bytes facts o answers (with_oldest_settled facts buffer) x ≡ Ask r
        → Carries facts bytes buffer (o ++ (place, r) ∷ [])
    by_own [] x some k = (deferred_carries file bytes facts answers (with_oldest_settled facts buffer) x r k, some, tt)
    by_own (asked ∷ later) x some k = absurd (no_done _ _ r k)

pub one_carries : (slot : ℕ) (bytes : List ℕ) (site : Site) (facts : Facts) (file : FileAt) (buffer : Buffer)
    (past : Own) (answers : Answers) → 1 ≤ facts.write_len → 1 ≤ facts.write_limit → BuffersWithin facts site
    → slot_at site slot ≡ Buffered file buffer
    → AreAsked (buf_write_next slot bytes site facts) past answers → Carries facts bytes buffer (oldest_first past)
one_carries slot bytes site facts file buffer [] answers len limit b at asked = tt
one_carries slot bytes site facts file buffer (a ∷ past) answers len limit b at (before, earlier, is, none, stays) =
    sent_carries slot bytes file buffer site facts (oldest_first past) before a.0 a.1 len limit (b slot file buffer at)
    b
    (subst (λ (x : Slot). on_buffered x site (buf_write_file_next slot bytes site facts (oldest_first past) before)
    ≡ Ask a.1) at is)
