-- What the core counts for a buffered file, after a submit and after a poll of the oldest status.
use Rattle.std.proofs.Common.{
  ◌≡◌,
  ◌≤◌,
  ◌<◌,
  ◌^◌,
  ◌+◌,
  ◌-◌,
  ◌∙◌,
  refl,
  sym,
  ap,
  subst,
  arith,
  ℕ,
  Bool,
  true,
  false,
  List,
  [],
  ◌∷◌,
  ◌++◌,
  Option,
  Some,
  None,
  drop,
}
use Rattle.sftp_model.specs.declared.slot.Facts.{Facts}
use Rattle.sftp_model.specs.declared.answers.Expected.{Expected}
use Rattle.sftp_model.specs.declared.answers.Expected.TheVariants as expected
use Rattle.plan_state.proofs.Keeping.{holds_still, submitted_holds}
use Rattle.plan_state.proofs.OthersKept.{submitted_keeps}
use Rattle.plan_state.specs.Asked.{HoldsTicket, SubmitsAsking, queued_by}
use Rattle.plan_state.specs.declared.submission.Asking.{Asking}
use Rattle.plan_state.specs.declared.submission.Asking.TheVariants.{Whole, Parts}
use Rattle.sftp_core.specs.Core.{Core, after_poll, record_at, reply_in}
use Rattle.sftp_core.specs.Table.{expected_at}
use Rattle.sftp_core.proofs.Elsewhere.{poll_elsewhere, put_elsewhere}
use Rattle.plan_model.specs.BufferPlans.{is_good, pending_bytes}
use Rattle.sftp_buffered.specs.declared.file.DeferredWrite.{DeferredWrite}
use Rattle.sftp_buffered.specs.declared.file.ReadUnderWay.{ReadUnderWay}
use Rattle.sftp_buffered.specs.Buffered.{AreApart, AreHeld, CompatValue, IsHeldRead, writes_of}
use Rattle.sftp_buffered.specs.Steps.{with_deferred_write, with_oldest_settled, freed_core, oldest_len, oldest_polled, oldest_reply, room_of}
use Rattle.sftp_buffered.specs.Writes.{IsDeferred}

-- a free id is none that is held
pub not_free : (core : Core) (q ticket : ℕ) (kind : Expected) → HoldsTicket core q kind → record_at core ticket ≡ None
    → q ≡ ticket → ⊥
not_free core q ticket kind h free same =
    (let clash : Some kind ≡ None = sym h.expects ∙ (ap (λ (k : ℕ). expected_at (record_at core k)) same
    ∙ ap expected_at free) in cc)

queued_apart : (core : Core) (ticket : ℕ) (asking : Asking) (q : ℕ) → (q ≡ ticket → ⊥)
    → record_at (queued_by core ticket asking) q ≡ record_at core q
queued_apart core ticket (Whole asked) q h = put_elsewhere core.table ticket _ q h
queued_apart core ticket (Parts handle offset parts) q h = put_elsewhere core.table ticket _ q h

-- a submit leaves what is held
pub submit_leaves : (old new : Core) (asking : Asking) (ticket q : ℕ) (kind : Expected)
    → SubmitsAsking old asking ticket new → HoldsTicket old q kind → record_at new q ≡ record_at old q
submit_leaves old new asking ticket q kind s h =
    ap (λ (c : Core). record_at c q) s.queued ∙ queued_apart old ticket asking q (not_free old q ticket kind h s.free)

-- the oldest deferred write stays the oldest
pub oldest_stays : (old new : Core) (asking : Asking) (ticket : ℕ) (ds more : List DeferredWrite)
    → SubmitsAsking old asking ticket new → AreHeld old ds
    → is_good (oldest_reply old ds) ≡ true → oldest_reply new (ds ++ more) ≡ oldest_reply old ds
oldest_stays old new asking ticket [] more s held good = absurd cc
oldest_stays old new asking ticket (d ∷ ds) more s held good =
    ap reply_in (submit_leaves old new asking ticket d.ticket expected.Status s held.0)

pub len_stays : (core : Core) (ds more : List DeferredWrite) → is_good (oldest_reply core ds) ≡ true
    → oldest_len (ds ++ more) ≡ oldest_len ds
len_stays core [] more good = absurd cc
len_stays core (d ∷ ds) more good = refl

-- a deferred write more
apart_last : (ticket : ℕ) (ds : List DeferredWrite) (last : DeferredWrite) → AreApart ticket ds
    → (ticket ≡ last.ticket → ⊥) → AreApart ticket (ds ++ last ∷ [])
apart_last ticket [] last apart new = (new, tt)
apart_last ticket (d ∷ ds) last apart new = (apart.0, apart_last ticket ds last apart.1 new)

pub held_last : (old new : Core) (asking : Asking) (ds : List DeferredWrite) (last : DeferredWrite)
    → SubmitsAsking old asking last.ticket new
    → HoldsTicket new last.ticket expected.Status → AreHeld old ds → AreHeld new (ds ++ last ∷ [])
held_last old new asking [] last s here held = (here, tt, tt)
held_last old new asking (d ∷ ds) last s here held = (
  (submitted_keeps old new asking last.ticket s).holds d.ticket expected.Status held.0,
  apart_last d.ticket ds last held.1 (not_free old d.ticket last.ticket expected.Status held.0 s.free),
  held_last old new asking ds last s here held.2,
)

-- a READ under way is no deferred write
pub other_kind : (core : Core) (q t len : ℕ) → HoldsTicket core q (expected.Content len)
    → HoldsTicket core t expected.Status → q ≡ t → ⊥
other_kind core q t len read write same =
    (let clash : Some (expected.Content len) ≡ Some expected.Status = sym read.expects
    ∙ (ap (λ (k : ℕ). expected_at (record_at core k)) same ∙ write.expects) in cc)

pub read_stays : (old new : Core) (asking : Asking) (ticket : ℕ) (r : Option ReadUnderWay)
    → SubmitsAsking old asking ticket new → IsHeldRead old r → IsHeldRead new r
read_stays old new asking ticket None s held = tt
read_stays old new asking ticket (Some r) s held = (submitted_keeps old new asking ticket s).holds r.ticket
    (expected.Content r.len) held

pub read_polled : (core : Core) (ds : List DeferredWrite) (r : Option ReadUnderWay) → AreHeld core ds
    → IsHeldRead core r → IsHeldRead (oldest_polled core ds) r
read_polled core ds None writes held = tt
read_polled core [] (Some r) writes held = held
read_polled core (d ∷ ds) (Some r) writes held =
    holds_still core (after_poll core d.ticket) r.ticket (expected.Content r.len)
    (poll_elsewhere core d.ticket core.fault (record_at core d.ticket) r.ticket
    (other_kind core r.ticket d.ticket r.len held writes.0)) held

pub read_freed : (full : Bool) (core : Core) (c : CompatValue) → AreHeld core c.deferred → IsHeldRead core c.reading
    → IsHeldRead (freed_core full core c) (with_oldest_settled full c).reading
read_freed true core c writes held = read_polled core c.deferred c.reading writes held
read_freed false core c writes held = held

-- what making way doesn't touch
pub freed_reading : (full : Bool) (c : CompatValue) → (with_oldest_settled full c).reading ≡ c.reading
freed_reading true c = refl
freed_reading false c = refl

pub freed_file : (full : Bool) (c : CompatValue) → (with_oldest_settled full c).file ≡ c.file
freed_file true c = refl
freed_file false c = refl

pub freed_place : (full : Bool) (c : CompatValue) → (with_oldest_settled full c).place ≡ c.place
freed_place true c = refl
freed_place false c = refl

pub freed_pending : (full : Bool) (core : Core) (c : CompatValue) (n ticket : ℕ)
    → (full ≡ true → is_good (oldest_reply core c.deferred) ≡ true)
    → (with_oldest_settled full (with_deferred_write c n ticket)).pending ≡ (with_oldest_settled full c).pending
freed_pending true core c n ticket good = (λ i. c.pending - len_stays core c.deferred
    (record { place = c.place; len = n; ticket = ticket } ∷ []) (good refl) i)
freed_pending false core c n ticket good = refl

pub drop_stays : (core : Core) (ds more : List DeferredWrite) → is_good (oldest_reply core ds) ≡ true
    → drop 1 (ds ++ more) ≡ drop 1 ds ++ more
drop_stays core [] more good = absurd cc
drop_stays core (d ∷ ds) more good = refl

-- ---- a write that was deferred

abbrev pub parts_of : CompatValue → List (List ℕ) → Asking
parts_of p parts = Parts p.file.grant.handle p.file.offset parts

pub deferred_held : (parts : List (List ℕ)) (n : ℕ) (old new : Core) (p q : CompatValue)
    → IsDeferred parts n old new p q → AreHeld old p.deferred → AreHeld new q.deferred
deferred_held parts n old new p q d held =
    subst (λ (x : CompatValue). AreHeld new x.deferred) (sym d.left)
    (held_last old new (parts_of p parts) p.deferred (record { place = p.place; len = n; ticket = d.ticket })
    d.submitted
    (submitted_holds old new (parts_of p parts) d.ticket expected.Status d.submitted refl) held)

pub deferred_read : (parts : List (List ℕ)) (n : ℕ) (old new : Core) (p q : CompatValue)
    → IsDeferred parts n old new p q → IsHeldRead old p.reading → IsHeldRead new q.reading
deferred_read parts n old new p q d held =
    subst (λ (x : CompatValue). IsHeldRead new x.reading) (sym d.left)
    (read_stays old new (parts_of p parts) d.ticket p.reading d.submitted held)

-- making way before or after the next write is deferred
pub freed_deferring : (full : Bool) (core : Core) (c : CompatValue) (n ticket : ℕ)
    → (full ≡ true → is_good (oldest_reply core c.deferred) ≡ true)
    → with_oldest_settled full (with_deferred_write c n ticket)
    ≡ with_deferred_write (with_oldest_settled full c) n ticket
freed_deferring true core c n ticket good =
    let more : List DeferredWrite = record { place = c.place; len = n; ticket = ticket } ∷ [] in
    (λ i. record c {
      deferred = drop_stays core c.deferred more (good refl) i;
      pending =
          c.pending - len_stays core c.deferred more (good refl) i;
      place = c.place + 1;
    })
freed_deferring false core c n ticket good = refl

-- the sum without the oldest
pub counted_less : (ds : List DeferredWrite) → pending_bytes (writes_of ds) - oldest_len ds
    ≡ pending_bytes (writes_of (drop 1 ds))
counted_less [] = refl
counted_less (d ∷ ds) = omega arith

-- the oldest is counted
pub oldest_counted : (ds : List DeferredWrite) → oldest_len ds ≤ pending_bytes (writes_of ds)
oldest_counted [] = omega arith
oldest_counted (d ∷ ds) = omega arith

-- what is pending and the room together are a number of 64 bits
pub room_counts : (full : Bool) (c : CompatValue) (facts : Facts) (n : ℕ) → n
    ≡ room_of facts (with_oldest_settled full c) → c.pending < 2 ^ 64 → facts.write_limit < 2 ^ 64
    → (with_oldest_settled full c).pending + n < 2 ^ 64
room_counts true c facts n e pending limit = omega (arith, e, pending, limit)
room_counts false c facts n e pending limit = omega (arith, e, pending, limit)

polled_stays : (old core : Core) (ds more : List DeferredWrite) → is_good (oldest_reply old ds) ≡ true
    → oldest_polled core (ds ++ more) ≡ oldest_polled core ds
polled_stays old core [] more good = absurd cc
polled_stays old core (d ∷ ds) more good = refl

-- the core once the oldest status made way, before or after the next write was deferred
pub freed_core_deferring : (full : Bool) (old core : Core) (c : CompatValue) (n ticket : ℕ)
    → (full ≡ true → is_good (oldest_reply old c.deferred) ≡ true)
    → freed_core full core (with_deferred_write c n ticket) ≡ freed_core full core c
freed_core_deferring true old core c n ticket good = polled_stays old core c.deferred
    (record { place = c.place; len = n; ticket = ticket } ∷ []) (good refl)
freed_core_deferring false old core c n ticket good = refl
