-- What holds between polls, after each part of a poll.
use Rattle.std.proofs.Common.{
  ◌≡◌,
  ◌≤◌,
  ◌<◌,
  ◌+◌,
  ◌-◌,
  ◌∙◌,
  ◌^◌,
  refl,
  sym,
  ap,
  subst,
  arith,
  ℕ,
  Bool,
  true,
  false,
  List,
  [],
  ◌∷◌,
  ◌++◌,
  Option,
  Some,
  None,
  Result,
  Ok,
  Err,
  IfOk,
  IfErr,
  length,
  drop,
  length-drop,
}
use Rattle.sftp_model.specs.declared.answers.Expected.TheVariants as expected
use Rattle.sftp_model.specs.declared.error.Error.{Error}
use Rattle.sftp_model.specs.declared.error.Error.TheVariants as error
use Rattle.sftp_model.specs.declared.error.IoKind.TheVariants as kind
use Rattle.plan_model.specs.BufferPlans.{is_good, pending_bytes}
use Rattle.sftp_core.specs.Core.{Core, core_after_abandon, after_poll, record_at}
use Rattle.sftp_core.proofs.Elsewhere.{abandon_elsewhere, poll_elsewhere}
use Rattle.plan_state.specs.Asked.{HoldsTicket, SubmitsAsking}
use Rattle.plan_state.specs.declared.poll.Poll.TheVariants as poll
use Rattle.plan_state.proofs.Keeping.{holds_still, submitted_holds}
use Rattle.sftp_buffered.specs.declared.file.DeferredWrite.{DeferredWrite}
use Rattle.sftp_buffered.specs.declared.file.ReadUnderWay.{ReadUnderWay}
use Rattle.sftp_buffered.specs.Buffered.{AreApart, AreHeld, AreRising, CompatValue, IsCounted, IsPlaced, IsHeld, IsHeldRead, IsSound, len_of, writes_of}
use Rattle.sftp_buffered.specs.Steps.{
  IsLeft,
  LooksAtOldest,
  after_written,
  with_deferred_write,
  with_oldest_settled,
  freed_core,
  oldest_len,
  oldest_polled,
  oldest_reply,
  read_dropped,
  without_oldest,
}
use Rattle.sftp_buffered.specs.Writes.{SendsWrites, SendsNoWrite}
use Rattle.sftp_buffered.proofs.Holding.{counted_less, freed_deferring, freed_file, freed_reading, held_last, other_kind, parts_of, read_polled, read_stays}

pub held_but : (old new : Core) (t : ℕ) (ds : List DeferredWrite)
    → ((q : ℕ) → (q ≡ t → ⊥) → record_at new q ≡ record_at old q)
    → AreApart t ds → AreHeld old ds → AreHeld new ds
held_but old new t [] same apart held = tt
held_but old new t (d ∷ ds) same apart held = (
  holds_still old new d.ticket expected.Status (same d.ticket (λ e. apart.0 (sym e))) held.0,
  held.1,
  held_but old new t ds same apart.1 held.2,
)

held_taken : (core : Core) (ds : List DeferredWrite) → AreHeld core ds → AreHeld (oldest_polled core ds) (drop 1 ds)
held_taken core [] held = tt
held_taken core (d ∷ ds) held = held_but core (after_poll core d.ticket) d.ticket ds
    (λ q. poll_elsewhere core d.ticket core.fault (record_at core d.ticket) q) held.1 held.2

pending_last : (ds : List DeferredWrite) (d : DeferredWrite) → pending_bytes (writes_of (ds ++ d ∷ []))
    ≡ pending_bytes (writes_of ds) + d.len
pending_last [] d = omega arith
pending_last (x ∷ ds) d = (let h = pending_last ds d in omega (arith, h))

-- ---- places

pub rising_from : (lower from : ℕ) (ds : List DeferredWrite) (to : ℕ) → lower ≤ from → AreRising from ds to
    → AreRising lower ds to
rising_from lower from [] to le h = omega (arith, le, h)
rising_from lower from (d ∷ ds) to le h = (omega (arith, le, h.0), h.1)

rising_less : (ds : List DeferredWrite) (to : ℕ) → AreRising 1 ds to → AreRising 1 (drop 1 ds) to
rising_less [] to h = h
rising_less (d ∷ ds) to h = rising_from 1 (d.place + 1) ds to (omega arith) h.1

rising_last : (from : ℕ) (ds : List DeferredWrite) (to n ticket : ℕ) → AreRising from ds to
    → AreRising from (ds ++ record { place = to; len = n; ticket = ticket } ∷ []) (to + 1)
rising_last from [] to n ticket h = (h, omega arith)
rising_last from (d ∷ ds) to n ticket h = (h.0, rising_last (d.place + 1) ds to n ticket h.1)

placed_less : (r : Option ReadUnderWay) (ds : List DeferredWrite) (next : ℕ) → IsPlaced r ds next
    → IsPlaced r (drop 1 ds) next
placed_less None ds next h = tt
placed_less (Some r) [] next h = h
placed_less (Some r) (d ∷ ds) next h = (h.0, h.1, h.2.1)

-- ---- the oldest taken out

held_without : (core : Core) (c : CompatValue) → IsHeld core c
    → IsHeld (oldest_polled core c.deferred) (without_oldest c)
held_without core c h = record {
  writes = held_taken core c.deferred h.writes;
  read =
      read_polled core c.deferred c.reading h.writes h.read;
}

counted_without : (c : CompatValue) → IsCounted c → IsCounted (without_oldest c)
counted_without c k =
    record {
      pending = ap (λ (n : ℕ). n - oldest_len c.deferred) k.pending ∙ counted_less c.deferred;
      rising = rising_less c.deferred c.place k.rising;
      placed = placed_less c.reading c.deferred c.place k.placed;
      ends = k.ends;
      capacity = k.capacity;
    }

pub sound_taken : (core : Core) (c : CompatValue) → IsSound core c
    → IsSound (oldest_polled core c.deferred) (without_oldest c)
sound_taken core c s = record { held = held_without core c s.held; counted = counted_without c s.counted }

held_freed : (full : Bool) (core : Core) (c : CompatValue) → IsHeld core c
    → IsHeld (freed_core full core c) (with_oldest_settled full c)
held_freed true core c h = held_without core c h
held_freed false core c h = h

counted_freed : (full : Bool) (c : CompatValue) → IsCounted c → IsCounted (with_oldest_settled full c)
counted_freed true c k = counted_without c k
counted_freed false c k = k

pub sound_freed : (full : Bool) (core : Core) (c : CompatValue) → IsSound core c
    → IsSound (freed_core full core c) (with_oldest_settled full c)
sound_freed full core c s = record { held = held_freed full core c s.held; counted = counted_freed full c s.counted }

-- ---- one more

held_more : (old new : Core) (parts : List (List ℕ)) (c : CompatValue) (n ticket : ℕ)
    → SubmitsAsking old (parts_of c parts) ticket new → IsHeld old c → IsHeld new (with_deferred_write c n ticket)
held_more old new parts c n ticket s h =
    record {
      writes = held_last old new (parts_of c parts) c.deferred (record { place = c.place; len = n; ticket = ticket }) s
          (submitted_holds old new (parts_of c parts) ticket expected.Status s refl) h.writes;
      read = read_stays old new (parts_of c parts) ticket c.reading s h.read;
    }

-- ---- the READ dropped

pub apart_read : (core : Core) (r : ReadUnderWay) (ds : List DeferredWrite)
    → HoldsTicket core r.ticket (expected.Content r.len) → AreHeld core ds → AreApart r.ticket ds
apart_read core r [] read held = tt
apart_read core r (d ∷ ds) read held = (
  other_kind core r.ticket d.ticket r.len read held.0,
  apart_read core r ds read held.2,
)

pub held_dropped : (core : Core) (r : Option ReadUnderWay) (ds : List DeferredWrite) → IsHeldRead core r
    → AreHeld core ds → AreHeld (read_dropped core r) ds
held_dropped core None ds read held = held
held_dropped core (Some r) ds read held =
    held_but core (core_after_abandon core r.ticket) r.ticket ds
    (λ q. abandon_elsewhere core r.ticket (record_at core r.ticket) q) (apart_read core r ds read held) held

ends_behind : (offset n kept : ℕ) (xs : List ℕ) → offset + n < 2 ^ 64 → offset + length xs + kept < 2 ^ 64
    → offset + n + length (drop n xs) + 0 < 2 ^ 64
ends_behind offset n kept xs fits ends = (let len : length (drop n xs) ≡ length xs - n = length-drop n xs in
    omega (arith, len, fits, ends))

less_left : (n most : ℕ) (xs : List ℕ) → length xs ≤ most → length (drop n xs) ≤ most
less_left n most xs fits = (let len : length (drop n xs) ≡ length xs - n = length-drop n xs in omega (arith, len, fits))

counted_behind : (c : CompatValue) (n ticket : ℕ) → c.file.offset + n < 2 ^ 64 → IsCounted c
    → IsCounted (after_written (with_deferred_write c n ticket) n)
counted_behind c n ticket fits k =
    record {
      pending = ap (λ (m : ℕ). m + n) k.pending ∙ sym (pending_last c.deferred
          (record { place = c.place; len = n; ticket = ticket }));
      rising = rising_last 1 c.deferred c.place n ticket k.rising;
      placed = tt;
      ends = ends_behind c.file.offset n (len_of c.reading) c.buffered fits k.ends;
      capacity = less_left n c.capacity c.buffered k.capacity;
    }

-- ---- a send

pub sound_sent : (full : Bool) (parts : List (List ℕ)) (old new : Core) (p q : CompatValue) (n : ℕ) → IsSound old p
    → (full ≡ true → is_good (oldest_reply old p.deferred) ≡ true) → SendsWrites full parts old new p q n
    → IsSound new q
sound_sent full parts old new p q n sound good s =
    let a : CompatValue = with_deferred_write p n s.ticket in
    let h : IsHeld (freed_core full s.middle a) (with_oldest_settled full a) =
    held_freed full s.middle a (held_more old s.middle parts p n s.ticket s.submitted sound.held) in
    let read : IsHeldRead (freed_core full s.middle a) p.reading =
    subst (λ (r : Option ReadUnderWay). IsHeldRead (freed_core full s.middle a) r) (freed_reading full a) h.read in
    let held : IsHeld (read_dropped (freed_core full s.middle a) p.reading)
    (after_written (with_oldest_settled full a) n) =
    record {
      writes = held_dropped (freed_core full s.middle a) p.reading (with_oldest_settled full a).deferred read
          h.writes;
      read = tt;
    } in
    let fits : (with_oldest_settled full p).file.offset + n < 2 ^ 64 =
    subst (λ f. f.offset + n < 2 ^ 64) (sym (freed_file full p)) s.fits in
    let counted : IsCounted (after_written (with_oldest_settled full a) n) =
    subst (λ (x : CompatValue). IsCounted (after_written x n)) (sym (freed_deferring full old p n s.ticket good))
    (counted_behind (with_oldest_settled full p) n s.ticket fits (counted_freed full p sound.counted)) in
    record {
      held = subst (λ (x : CompatValue). IsHeld new x) (sym s.left)
          (subst (λ (x : Core). IsHeld x (after_written (with_oldest_settled full a) n)) (sym s.core) held);
      counted = subst (λ (x : CompatValue). IsCounted x) (sym s.left) counted;
    }

pub sound_at : (old new : Core) (p q : CompatValue) → new ≡ old → q ≡ p → IsSound old p → IsSound new q
sound_at old new p q core same s = subst (λ (x : CompatValue). IsSound new x) (sym same)
    (subst (λ (x : Core). IsSound x p) (sym core) s)

pub sound_left : (old new : Core) (p q : CompatValue) → IsLeft old new p q → IsSound old p → IsSound new q
sound_left old new p q l s = sound_at old new p q l.core l.same s

pub sound_unsent : (full : Bool) (n : ℕ) (old new : Core) (p q : CompatValue) (e : Error) → IsSound old p
    → SendsNoWrite full n old new p q e → IsSound new q
sound_unsent full n old new p q error.OutOfMemory s u = sound_left old new p q u s
sound_unsent full n old new p q (error.BackgroundTaskFailure fault) s u = sound_left old new p q u.2 s
sound_unsent full n old new p q (error.IOError kind.OffsetOverflow) s u =
    sound_at (freed_core full old p) new (with_oldest_settled full p) q u.2 u.1 (sound_freed full old p s)
sound_unsent full n old new p q other s u = absurd u

pub sound_send : (full : Bool) (parts : List (List ℕ)) (n : ℕ) (old new : Core) (p q : CompatValue)
    (result : Result ℕ Error) → IsSound old p
    → (full ≡ true → is_good (oldest_reply old p.deferred) ≡ true)
    → IfOk result (λ k. (k ≡ n) × SendsWrites full parts old new p q n)
    → IfErr result (SendsNoWrite full n old new p q) → IsSound new q
sound_send full parts n old new p q (Ok k) s good ok err = sound_sent full parts old new p q n s good ok.1
sound_send full parts n old new p q (Err e) s good ok err = sound_unsent full n old new p q e s err

pub still : (old new : Core) (p q : CompatValue) → IsLeft old new p q → is_good (oldest_reply old p.deferred) ≡ true
    → is_good (oldest_reply new q.deferred) ≡ true
still old new p q l good = ap (λ (c : CompatValue). is_good (oldest_reply new c.deferred)) l.same
    ∙ (ap (λ (c : Core). is_good (oldest_reply c p.deferred)) l.core ∙ good)

-- a look at the oldest status
pub sound_looked : (old new : Core) (p q : CompatValue) (e : Error) → LooksAtOldest old new p q (poll.Ready (Err e))
    → IsSound old p → IsSound new q
sound_looked old new p q (error.BackgroundTaskFailure fault) f s = sound_left old new p q f.2 s
sound_looked old new p q other f s = sound_at (oldest_polled old p.deferred) new (without_oldest p) q f.core f.left
    (sound_taken old p s)
