-- Parts under way, over what a core does.
use Rattle.std.proofs.Common.{◌≡◌, ◌≢◌, ◌<◌, ℕ, ◌+◌, true, false, List, [], ◌∷◌, ◌++◌, length, refl, sym, ap, ◌∙◌, subst, arith, Option, Some, None}
use Rattle.std.specs.Prelude.{IsTrue}
use Rattle.sftp_core.specs.declared.id_record.IdRecord.{IdRecord}
use Rattle.sftp_model.specs.declared.error.Fault.{Fault}
use Rattle.sftp_core.specs.declared.id_record.IdRecord.TheVariants.{Waiting, Answered, Granted}
use Rattle.sftp_core.specs.Table.{handle_in_reply}
use Rattle.sftp_core.specs.Core.{Core, abandon_leaves, core_after_abandon, after_poll, record_at, core_after_drop, given_leaves, is_ticket, poll_leaves}
use Rattle.sftp_core.proofs.Elsewhere.{abandon_phase, poll_phase}
use Rattle.plan_state.specs.Asked.{HoldsTicket, SubmitsAsking}
use Rattle.plan_state.specs.Keeping.{KeepsHeld, KeepsGrants}
use Rattle.plan_state.specs.declared.submission.Asking.{Asking}
use Rattle.plan_state.specs.declared.submission.Asking.TheVariants.{Whole, Parts}
use Rattle.plan_state.proofs.Keeping.{grants_both, keeps_same}
use Rattle.plan_state.proofs.OthersKept.{
  cancelled_keeps_grants,
  cancelled_on,
  polled_keeps_grants,
  polled_on,
  submitted_keeps,
}
use Rattle.sftp_streams.specs.declared.parts.Part.{Part}
use Rattle.sftp_streams.specs.Parts.{AreAwaited, IsApart, KeepsOthersHeld, KindOf, parts_len, without_parts}

-- ---- parts stay

pub keeps_parts : (kind : KindOf) (old new : Core) (parts : List Part) → KeepsHeld old new → AreAwaited kind old parts
    → AreAwaited kind new parts
keeps_parts kind old new [] keeps held = tt
keeps_parts kind old new (part ∷ later) keeps (h, some, own, held) =
    (keeps.holds part.ticket (kind part) h, some, own, keeps_parts kind old new later keeps held)

pub others_awaited : (kind : KindOf) (core : Core) (t : ℕ) (parts : List Part) → IsApart t parts
    → AreAwaited kind core parts → AreAwaited kind (after_poll core t) parts
others_awaited kind core t [] apart held = tt
others_awaited kind core t (part ∷ later) (ne, apart) (h, some, own, held) = (
  polled_on core t part.ticket (kind part) (λ e. ne (sym e)) h,
  some,
  own,
  others_awaited kind core t later apart held,
)

-- ---- a ticket more

not_none : (p : Option IdRecord) → IsTrue (is_ticket p) → p ≡ None → ⊥
not_none p y e = (let bad : false ≡ true = subst (λ x. IsTrue (is_ticket x)) e y in cc)

pub apart_from : (kind : KindOf) (core : Core) (t : ℕ) (parts : List Part) → record_at core t ≡ None
    → AreAwaited kind core parts → IsApart t parts
apart_from kind core t [] free held = tt
apart_from kind core t (part ∷ later) free (h, some, own, held) = (
  λ e. not_none (record_at core part.ticket) h.counted (ap (record_at core) (sym e) ∙ free),
  apart_from kind core t later free held,
)

abbrev pub new_part : ℕ → ℕ → Part
new_part t len = record { ticket = t; len = len }

last_apart : (t n len : ℕ) (parts : List Part) → t ≢ n → IsApart t parts → IsApart t (parts ++ new_part n len ∷ [])
last_apart t n len [] ne apart = (ne, tt)
last_apart t n len (part ∷ later) ne (first, apart) = (first, last_apart t n len later ne apart)

pub last_awaited : (kind : KindOf) (core : Core) (n len : ℕ) (parts : List Part) → AreAwaited kind core parts
    → IsApart n parts → HoldsTicket core n (kind (new_part n len)) → 0 < len
    → AreAwaited kind core (parts ++ new_part n len ∷ [])
last_awaited kind core n len [] held apart h some = (h, some, tt, tt)
last_awaited kind core n len (part ∷ later) (first, s, own, held) (ne, apart) h some = (
  first,
  s,
  last_apart part.ticket n len later (λ e. ne (sym e)) own,
  last_awaited kind core n len later held apart h some,
)

pub last_len : (n len : ℕ) (parts : List Part) → parts_len (parts ++ new_part n len ∷ []) ≡ parts_len parts + len
last_len n len [] = omega (arith)
last_len n len (part ∷ later) = (let e = last_len n len later in omega (arith, e))

pub last_count : (n len : ℕ) (parts : List Part) → length (parts ++ new_part n len ∷ []) ≡ length parts + 1
last_count n len [] = refl
last_count n len (part ∷ later) = (let e = last_count n len later in omega (arith, e))

-- ---- what others hold

pub others_same : (parts : List Part) (core : Core) → KeepsOthersHeld parts core core
others_same parts core = record {
  holds = λ t k apart h. h;
  grants = (keeps_same core).grants;
  phase = refl;
  fault =
      refl;
}

phase_queued : (old new : Core) (asking : Asking) (ticket : ℕ) → SubmitsAsking old asking ticket new → new.phase
    ≡ old.phase
phase_queued old new (Whole asked) ticket s = ap (λ (x : Core). x.phase) s.queued
phase_queued old new (Parts handle offset parts) ticket s = ap (λ (x : Core). x.phase) s.queued

pub fault_queued : (old new : Core) (asking : Asking) (ticket : ℕ) → SubmitsAsking old asking ticket new → new.fault
    ≡ old.fault
fault_queued old new (Whole asked) ticket s = ap (λ (x : Core). x.fault) s.queued
fault_queued old new (Parts handle offset parts) ticket s = ap (λ (x : Core). x.fault) s.queued

pub others_submitted : (old new : Core) (asking : Asking) (ticket : ℕ) → SubmitsAsking old asking ticket new
    → KeepsOthersHeld [] old new
others_submitted old new asking ticket s =
    let keeps = submitted_keeps old new asking ticket s in
    record {
      holds = λ t k apart h. keeps.holds t k h;
      grants = keeps.grants;
      phase = phase_queued old new asking ticket s;
      fault = fault_queued old new asking ticket s;
    }

pub others_then : (a b c : Core) → KeepsOthersHeld [] a b → KeepsOthersHeld [] b c → KeepsOthersHeld [] a c
others_then a b c x y = record {
  holds = λ t k apart h. y.holds t k tt (x.holds t k tt h);
  grants = grants_both a b c x.grants y.grants;
  phase = y.phase ∙ x.phase;
  fault = y.fault ∙ x.fault;
}

pub others_all : (parts : List Part) (a b : Core) → KeepsOthersHeld [] a b → KeepsOthersHeld parts a b
others_all parts a b x = record {
  holds = λ t k apart h. x.holds t k tt h;
  grants = x.grants;
  phase = x.phase;
  fault =
      x.fault;
}

-- ---- neither a poll nor an abandon touches the fault

given_fault : (core : Core) (k : ℕ) (brought : Option (List ℕ)) → (given_leaves core k brought).fault ≡ core.fault
given_fault core k (Some handle) = refl
given_fault core k None = refl

pub poll_fault : (core : Core) (k : ℕ) (f : Option Fault) (p : Option IdRecord) → (poll_leaves core k f p).fault
    ≡ core.fault
poll_fault core k f (Some (Answered e r)) = given_fault core k (handle_in_reply r)
poll_fault core k (Some f) (Some (Waiting e s w)) = refl
poll_fault core k None (Some (Waiting e s w)) = refl
poll_fault core k f (Some (Granted handle users)) = refl
poll_fault core k f None = refl

dropped_fault : (core : Core) (k : ℕ) (brought : Option (List ℕ)) → (core_after_drop core k brought).fault ≡ core.fault
dropped_fault core k (Some handle) = refl
dropped_fault core k None = refl

pub abandon_fault : (core : Core) (k : ℕ) (p : Option IdRecord) → (abandon_leaves core k p).fault ≡ core.fault
abandon_fault core k (Some (Waiting e s w)) = refl
abandon_fault core k (Some (Answered e r)) = dropped_fault core k (handle_in_reply r)
abandon_fault core k (Some (Granted handle users)) = refl
abandon_fault core k None = refl

pub others_polled : (kind : KindOf) (core : Core) (part : Part) (later : List Part)
    → AreAwaited kind core (part ∷ later) → KeepsOthersHeld (part ∷ later) core (after_poll core part.ticket)
others_polled kind core part later held = record {
  holds = λ t k apart h. polled_on core part.ticket t k apart.0 h;
  grants = polled_keeps_grants core part.ticket held.0.counted;
  phase = poll_phase core part.ticket core.fault (record_at core part.ticket);
  fault = poll_fault core part.ticket core.fault (record_at core part.ticket);
}

-- ---- parts are given up

pub others_stay : (kind : KindOf) (core : Core) (t : ℕ) (parts : List Part) → IsApart t parts
    → AreAwaited kind core parts → AreAwaited kind (core_after_abandon core t) parts
others_stay kind core t [] apart held = tt
others_stay kind core t (part ∷ later) (ne, apart) (h, some, own, held) = (
  cancelled_on core t part.ticket (kind part) (λ e. ne (sym e)) h,
  some,
  own,
  others_stay kind core t later apart held,
)

pub others_given_up : (kind : KindOf) (core : Core) (parts : List Part) → AreAwaited kind core parts
    → KeepsOthersHeld parts core (without_parts core parts)
others_given_up kind core [] held = others_same [] core
others_given_up kind core (part ∷ later) (h, some, own, held) =
    let mid = core_after_abandon core part.ticket in
    let below = others_given_up kind mid later (others_stay kind core part.ticket later own held) in
    record {
      holds = λ t k apart x. below.holds t k apart.1 (cancelled_on core part.ticket t k apart.0 x);
      grants = grants_both core mid (without_parts mid later) (cancelled_keeps_grants core part.ticket h.counted)
          below.grants;
      phase = below.phase ∙ abandon_phase core part.ticket (record_at core part.ticket);
      fault = below.fault ∙ abandon_fault core part.ticket (record_at core part.ticket);
    }
