-- What is left where the requests of a buffered file are given up.
use Rattle.std.proofs.Common.{
  ◌≡◌,
  ◌<◌,
  ◌+◌,
  ◌^◌,
  ◌∙◌,
  refl,
  sym,
  ap,
  subst,
  arith,
  ℕ,
  true,
  false,
  List,
  [],
  ◌∷◌,
  ◌++◌,
  Option,
  Some,
  None,
  Ok,
  Err,
  length,
  if◌then◌else◌,
}
use Rattle.std.specs.Prelude.{nat_le}
use Rattle.std.specs.Option.{option_to_list}
use Rattle.sftp_core.specs.Core.{Core, core_after_abandon, record_at}
use Rattle.sftp_core.proofs.Elsewhere.{abandon_elsewhere}
use Rattle.sftp_file.specs.Files.{FileValue}
use Rattle.sftp_buffered.specs.declared.file.DeferredWrite.{DeferredWrite}
use Rattle.sftp_buffered.specs.Buffered.{AreApart, AreHeld, CompatValue, IsApart, IsSound, LeavesOthers, len_of, new_value}
use Rattle.sftp_buffered.specs.Steps.{IsLeft, read_dropped}
use Rattle.sftp_buffered.specs.Whole.{AbandonsRequests, EmptiesBuffer, ShrinksCapacity, all_dropped, with_empty_buffer}
use Rattle.sftp_buffered.proofs.Others.{others_abandoned, others_both, others_dropped, others_left, others_same}
use Rattle.sftp_buffered.proofs.Sound.{held_but, held_dropped, sound_left}

-- ---- the deferred writes

held_rest : (core : Core) (d : DeferredWrite) (ds : List DeferredWrite) → AreHeld core (d ∷ ds)
    → AreHeld (core_after_abandon core d.ticket) ds
held_rest core d ds held = held_but core (core_after_abandon core d.ticket) d.ticket ds
    (λ q. abandon_elsewhere core d.ticket (record_at core d.ticket) q) held.1 held.2

-- the first of the writes were abandoned
pub record DropsSoFar (old : Core) (all : List DeferredWrite) (core : Core) (ds : List DeferredWrite) : Type 0 where
  pub held : AreHeld core ds
  pub drops : all_dropped core ds ≡ all_dropped old all

pub drops_none : (core : Core) (ds : List DeferredWrite) → AreHeld core ds → DropsSoFar core ds core ds
drops_none core ds held = record { held = held; drops = refl }

pub drops_on : (old core new : Core) (all ds rest : List DeferredWrite) (r : Option DeferredWrite) (d : DeferredWrite)
    → DropsSoFar old all core ds → ds ≡ option_to_list r ++ rest → r ≡ Some d → new ≡ core_after_abandon core d.ticket
    → DropsSoFar old all new rest
drops_on old core new all ds rest r d s items is next =
    let cons : ds ≡ d ∷ rest = items ∙ ap (λ (x : Option DeferredWrite). option_to_list x ++ rest) is in
    subst (λ (x : Core). DropsSoFar old all x rest) (sym next)
    (record {
      held = held_rest core d rest (subst (AreHeld core) cons s.held);
      drops = ap (all_dropped core) (sym cons)
          ∙ s.drops;
    })

pub drops_all : (old core : Core) (all ds rest : List DeferredWrite) (r : Option DeferredWrite)
    → DropsSoFar old all core ds → ds ≡ option_to_list r ++ rest → r ≡ None → rest ≡ [] → core ≡ all_dropped old all
drops_all old core all ds rest r s items is none =
    let nothing : ds ≡ [] = items ∙ (ap (λ (x : Option DeferredWrite). option_to_list x ++ rest) is ∙ none) in
    sym (ap (all_dropped core) nothing) ∙ s.drops

others_all : (core : Core) (ds : List DeferredWrite) (c : CompatValue)
    → ((other : ℕ) → IsApart other c → AreApart other ds) → AreHeld core ds → LeavesOthers core (all_dropped core ds) c
others_all core [] c own held = others_same core c
others_all core (d ∷ ds) c own held =
    others_both core (core_after_abandon core d.ticket) (all_dropped (core_after_abandon core d.ticket) ds) c
    (others_abandoned core d.ticket c held.0.counted (λ other apart. (own other apart).0))
    (others_all (core_after_abandon core d.ticket) ds c (λ other apart. (own other apart).1) (held_rest core d ds held))

-- all that is under way
pub abandons : (old mid new : Core) (c : CompatValue) → IsSound old c → mid ≡ read_dropped old c.reading → new
    ≡ all_dropped mid c.deferred → AbandonsRequests old new c
abandons old mid new c s read writes =
    let all : new ≡ all_dropped (read_dropped old c.reading) c.deferred = writes
    ∙ ap (λ (x : Core). all_dropped x c.deferred) read in
    record {
      core = all;
      others = subst (λ (x : Core). LeavesOthers old x c) (sym all)
          (others_both old (read_dropped old c.reading) (all_dropped (read_dropped old c.reading) c.deferred) c
          (others_dropped old c.reading c (λ other apart. apart.read) s.held.read)
          (others_all (read_dropped old c.reading) c.deferred c (λ other apart. apart.writes)
          (held_dropped old c.reading c.deferred s.held.read s.held.writes)));
    }

-- ---- the capacity

no_ends : (offset a b : ℕ) → offset + a + b < 2 ^ 64 → offset + 0 + 0 < 2 ^ 64
no_ends offset a b ends = omega (arith, ends)

emptied_sound : (core : Core) (c : CompatValue) (cap : ℕ) → IsSound core c
    → IsSound (read_dropped core c.reading) (record (with_empty_buffer c) { capacity = cap })
emptied_sound core c cap s =
    record {
      held = record { writes = held_dropped core c.reading c.deferred s.held.read s.held.writes; read = tt };
      counted = record {
        pending = s.counted.pending;
        rising = s.counted.rising;
        placed = tt;
        ends = no_ends c.file.offset (length c.buffered) (len_of c.reading) s.counted.ends;
        capacity = omega arith;
      };
    }

pub shrinks : {E : Type 0} (cap : ℕ) (old new : Core) (p q : CompatValue) → nat_le p.capacity cap ≡ false
    → IsSound old p → q ≡ record (with_empty_buffer p) { capacity = cap } → new ≡ read_dropped old p.reading
    → ShrinksCapacity {E = E} cap old new p q (Ok tt)
shrinks cap old new p q over s left core =
    record {
      shrinks = (
        left ∙ sym (λ i. if over i then p else record (with_empty_buffer p) { capacity = cap }),
        core ∙ sym (λ i. if over i then old else read_dropped old p.reading),
      );
      sound = subst (λ (x : CompatValue). IsSound new x) (sym left)
          (subst (λ (x : Core). IsSound x (record (with_empty_buffer p) { capacity = cap })) (sym core)
          (emptied_sound old p cap s));
      others = subst (λ (x : Core). LeavesOthers old x p) (sym core)
          (others_dropped old p.reading p (λ other apart. apart.read) s.held.read);
    }

pub fits_already : {E : Type 0} (cap : ℕ) (core : Core) (c : CompatValue) → nat_le c.capacity cap ≡ true
    → IsSound core c → ShrinksCapacity {E = E} cap core core c c (Ok tt)
fits_already cap core c within s =
    record {
      shrinks = (
        sym (λ i. if within i then c else record (with_empty_buffer c) { capacity = cap }),
        sym (λ i. if within i then core else read_dropped core c.reading),
      );
      sound = s;
      others = others_same core c;
    }

pub shrink_refused : {E : Type 0} (cap : ℕ) (old new : Core) (p q : CompatValue) (e : E) → IsSound old p
    → IsLeft old new p q → ShrinksCapacity {E = E} cap old new p q (Err e)
shrink_refused cap old new p q e s l = record {
  shrinks = l;
  sound = sound_left old new p q l s;
  others =
      others_left old new p l.core;
}

-- ---- the file below, lent

pub empties : (old new : Core) (c : CompatValue) → IsSound old c → new ≡ read_dropped old c.reading
    → EmptiesBuffer old new c
empties old new c s is =
    record {
      core = is;
      sound = λ file below. subst (λ (x : Core). IsSound x (record (with_empty_buffer c) { file = file })) (sym is)
          (record {
            held = record { writes = held_dropped old c.reading c.deferred s.held.read s.held.writes; read = tt };
            counted = record {
              pending = s.counted.pending;
              rising = s.counted.rising;
              placed = tt;
              ends = omega (arith, below);
              capacity = omega arith;
            };
          });
      others = subst (λ (x : Core). LeavesOthers old x c) (sym is)
          (others_dropped old c.reading c (λ other apart. apart.read) s.held.read);
    }

-- ---- a file of which nothing is under way

pub new_sound : (core : Core) (file : FileValue) (buffer_len : ℕ) → file.offset < 2 ^ 64
    → IsSound core (new_value file buffer_len)
new_sound core file buffer_len below =
    record {
      held = record { writes = tt; read = tt };
      counted = record {
        pending = refl;
        rising = omega arith;
        placed = tt;
        ends = omega (arith, below);
        capacity =
            omega arith;
      };
    }
