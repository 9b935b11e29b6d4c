-- What is left of what is under way.
use Rattle.std.proofs.Common.{◌≡◌, ◌≤◌, ◌∙◌, refl, sym, ap, subst, arith, ℕ, Bool, true, false, List, [], ◌∷◌, ◌++◌, Option, inl, inr, take, drop, length}
use Rattle.std.specs.Prelude.{◌+◌, max}
use Rattle.std.proofs.lemmas.List.{append_assoc}
use Rattle.sftp_core.specs.Core.{Core, after_poll}
use Rattle.sftp_buffered.specs.declared.file.DeferredWrite.{DeferredWrite}
use Rattle.sftp_buffered.specs.declared.file.ReadUnderWay.{ReadUnderWay}
use Rattle.sftp_buffered.specs.Buffered.{AreApart, CompatValue, IsApart, IsOther, LeavesOthers, len_of}
use Rattle.sftp_buffered.specs.Steps.{AreTaken, AreTakenAlone, IsReadLeft, IsRestOf, all_polled, with_oldest_settled, freed_core, oldest_polled, without_oldest}

-- ---- the oldest writes

pub taken_none : (core : Core) (c : CompatValue) → AreTaken core core c c
taken_none core c = record { gone = []; deferred = refl; core = refl }

first_and_rest : (ds : List DeferredWrite) → ds ≡ take 1 ds ++ drop 1 ds
first_and_rest [] = refl
first_and_rest (d ∷ ds) = refl

first_polled : (core : Core) (ds : List DeferredWrite) → oldest_polled core ds ≡ all_polled core (take 1 ds)
first_polled core [] = refl
first_polled core (d ∷ ds) = refl

polled_both : (core : Core) (ds es : List DeferredWrite) → all_polled core (ds ++ es)
    ≡ all_polled (all_polled core ds) es
polled_both core [] es = refl
polled_both core (d ∷ ds) es = polled_both (after_poll core d.ticket) ds es

-- one more
pub taken_more : (old core : Core) (p c : CompatValue) → AreTaken old core p c
    → AreTaken old (oldest_polled core c.deferred) p (without_oldest c)
taken_more old core p c t =
    record {
      gone = t.gone ++ take 1 c.deferred;
      deferred = t.deferred ∙ (ap (λ (xs : List DeferredWrite). t.gone ++ xs) (first_and_rest c.deferred)
          ∙ sym (append_assoc t.gone (take 1 c.deferred) (drop 1 c.deferred)));
      core = first_polled core c.deferred
          ∙ (ap (λ (x : Core). all_polled x (take 1 c.deferred)) t.core
          ∙ sym (polled_both old t.gone (take 1 c.deferred)));
    }

pub taken_at : (old mid new : Core) (p r q : CompatValue) → AreTaken old mid p r → new ≡ mid → q ≡ r
    → AreTaken old new p q
taken_at old mid new p r q t core same = subst (λ (x : CompatValue). AreTaken old new p x) (sym same)
    (subst (λ (x : Core). AreTaken old x p r) (sym core) t)

-- ---- and the READ

pub rest_at : (old mid new : Core) (p r q : CompatValue) → IsRestOf old mid p r → new ≡ mid → q ≡ r
    → IsRestOf old new p q
rest_at old mid new p r q t core same = subst (λ (x : CompatValue). IsRestOf old new p x) (sym same)
    (subst (λ (x : Core). IsRestOf old x p r) (sym core) t)

-- with the same READ
pub rest_by : (old mid : Core) (p q : CompatValue) → AreTaken old mid p q → q.reading ≡ p.reading → q.place ≡ p.place
    → q.capacity ≡ p.capacity → IsRestOf old mid p q
rest_by old mid p q t read place capacity =
    record {
      between = mid;
      taken = t;
      reading = inl (read, refl);
      place = place;
      capacity =
          subst (λ (n : ℕ). p.capacity ≤ n) (sym capacity) (omega arith);
      most = subst (λ (n : ℕ). n ≤ max p.capacity (length p.buffered + len_of p.reading)) (sym capacity) (omega arith);
    }

pub rest_same : (core : Core) (c : CompatValue) → IsRestOf core core c c
rest_same core c = record {
  between = core;
  taken = taken_none core c;
  reading = inl (refl, refl);
  place = refl;
  capacity = omega arith;
  most = omega arith;
}

-- the oldest status made way in a full window
pub rest_freed : (full : Bool) (core : Core) (c : CompatValue)
    → IsRestOf core (freed_core full core c) c (with_oldest_settled full c)
rest_freed true core c =
    record {
      between = oldest_polled core c.deferred;
      taken = taken_more core core c c (taken_none core c);
      reading = inl (refl, refl);
      place = refl;
      capacity = omega arith;
      most = omega arith;
    }
rest_freed false core c = rest_same core c

pub alone_freed : (full : Bool) (core : Core) (c : CompatValue)
    → AreTakenAlone core (freed_core full core c) c (with_oldest_settled full c)
alone_freed true core c = record { taken = taken_more core core c c (taken_none core c); same = refl }
alone_freed false core c = record { taken = taken_none core c; same = refl }

-- ---- what is left to others

pub apart_later : (ticket : ℕ) (gone ds : List DeferredWrite) → AreApart ticket (gone ++ ds) → AreApart ticket ds
apart_later ticket [] ds apart = apart
apart_later ticket (d ∷ gone) ds apart = apart_later ticket gone ds apart.1

-- a ticket of another is none of what is left
pub apart_taken : (ticket : ℕ) (old new : Core) (p q : CompatValue) → AreTaken old new p q → q.reading ≡ p.reading
    → IsApart ticket p → IsApart ticket q
apart_taken ticket old new p q t same apart =
    record {
      writes = apart_later ticket t.gone q.deferred (subst (AreApart ticket) t.deferred apart.writes);
      read = subst (IsOther ticket) (sym same) apart.read;
    }

pub others_taken : (old mid new : Core) (p q : CompatValue) → AreTaken old mid p q → q.reading ≡ p.reading
    → LeavesOthers mid new q → LeavesOthers mid new p
others_taken old mid new p q t same h =
    record {
      holds = λ ticket kind apart x. h.holds ticket kind (apart_taken ticket old mid p q t same apart) x;
      grants = h.grants;
      phase = h.phase;
      options = h.options;
    }

-- ---- a ticket of another stays none of the file's

read_later : (ticket : ℕ) (old new : Core) (r s : Option ReadUnderWay) → IsReadLeft old new r s → IsOther ticket r
    → IsOther ticket s
read_later ticket old new r s (inl left) other = subst (IsOther ticket) (sym left.0) other
read_later ticket old new r s (inr left) other = subst (IsOther ticket) (sym left.0) tt

pub apart_rest : (ticket : ℕ) (old new : Core) (p q : CompatValue) → IsRestOf old new p q → IsApart ticket p
    → IsApart ticket q
apart_rest ticket old new p q r apart =
    record {
      writes = apart_later ticket r.taken.gone q.deferred (subst (AreApart ticket) r.taken.deferred apart.writes);
      read = read_later ticket r.between new p.reading q.reading r.reading apart.read;
    }
