use Rattle.std.proofs.Common.{
  ◌≡◌,
  ℕ,
  ◌<◌,
  ◌≤◌,
  true,
  false,
  ltb,
  List,
  [],
  ◌∷◌,
  ◌++◌,
  refl,
  ap,
  sym,
  ◌∙◌,
  append_assoc,
  append-nil,
  Result,
  Ok,
  Err,
  Option,
  Some,
  None,
  ◌⊎◌,
  inl,
  inr,
}
use Rattle.std.specs.Prelude.{IsErrAnd, OnOk, IfErr, cond, Bool}
use Rattle.ssh_encoding.specs.declared.error.Error.{Error}
use Rattle.std.proofs.lemmas.Bool.{le-ltb, lt-ltb, ltb-false}
use Rattle.ssh_encoding.specs.declared.error.Error.TheVariants.{OutOfMemory, Length, Overflow}
use Rattle.ssh_encoding.specs.Writing.{IsPart, WritesValue, max_usize, max_uint32, len_refusal, prefixed_refusal, or_else}

pub part_none : (old new list : List ℕ) → new ≡ old → IsPart old new list
part_none old new list h = record { part = []; more = list; whole = refl; added = h ∙ sym (append-nil old) }

pub part_more : (old new a b : List ℕ) → IsPart old new a → IsPart old new (a ++ b)
part_more old new a b h = record {
  part = h.part;
  more = h.more ++ b;
  whole = ap (λ l. l ++ b) h.whole
      ∙ append_assoc h.part h.more b;
  added = h.added;
}

pub part_after : (old mid new a b : List ℕ) → mid ≡ old ++ a → IsPart mid new b → IsPart old new (a ++ b)
part_after old mid new a b m h = record {
  part = a ++ h.part;
  more = h.more;
  whole = ap (λ l. a ++ l) h.whole
      ∙ sym (append_assoc a h.part h.more);
  added = h.added ∙ ap (λ l. l ++ h.part) m ∙ append_assoc old a h.part;
}

pub ruleset parts = (part_none, part_more, part_after, append_assoc)

-- the first of two lists is refused
pub stops : {T : Type 0} (old new a b : List ℕ) (r : Result T Error) (e : Error) (first all : Option Error)
    → IsErrAnd r (λ d. d ≡ e) → IsPart old new a × ((e ≡ OutOfMemory) ⊎ (first ≡ Some e))
    → (first ≡ Some e → all ≡ Some e) → WritesValue old new r (a ++ b) all
stops old new a b (Ok v) e first all s h k = absurd s
stops old new a b (Err d) e first all s h k = rw s (
  part_more old new a b h.0,
  elim h.1 [ inl m ↦ inl m | inr q ↦ inr (k q) ],
)

-- the first of two lists was written
pub goes : {T : Type 0} (old mid new a b : List ℕ) (r : Result T Error) (refusal : Option Error) → mid ≡ old ++ a
    → WritesValue mid new r b refusal → WritesValue old new r (a ++ b) refusal
goes old mid new a b (Ok v) refusal m h = (h.0 ∙ ap (λ l. l ++ b) m ∙ append_assoc old a b, h.1)
goes old mid new a b (Err e) refusal m h = (part_after old mid new a b m h.0, h.1)

-- what `usize` can't hold is refused before anything is written
pub too_long : {T : Type 0} (old list : List ℕ) (r : Result T Error) (e : Error) (n : ℕ) (last : Option Error)
    → IsErrAnd r (λ d. d ≡ e) → (e ≡ Length) × (max_usize < n) → WritesValue old old r list (prefixed_refusal n last)
unfolding prefixed_refusal
too_long old list (Ok v) e n last s h = absurd s
too_long old list (Err d) e n last s h =
    let long : ltb max_usize n ≡ true = lt-ltb _ _ h.1 in
    rw (s, h.0, long) (part_none old old list refl, inr refl)

-- a length that `usize` holds
pub prefixed_is : (n : ℕ) (last : Option Error) → n ≤ max_usize → prefixed_refusal n last ≡ or_else (len_refusal n) last
unfolding prefixed_refusal
prefixed_is n last h = let short : ltb max_usize n ≡ false = le-ltb _ _ h in rw short refl

-- the length itself is refused
pub prefixed_stops : (n : ℕ) (last : Option Error) (e : Error) → n ≤ max_usize → len_refusal n ≡ Some e
    → prefixed_refusal n last ≡ Some e
prefixed_stops n last e h k = rw (prefixed_is n last h, k) refl

-- the length was written
pub prefixed_goes : (n : ℕ) (last : Option Error) → n ≤ max_usize → len_refusal n ≡ None → prefixed_refusal n last
    ≡ last
prefixed_goes n last h k = rw (prefixed_is n last h, k) refl

len_fits_at : (n : ℕ) (t : Bool) → ltb max_uint32 n ≡ t → cond t (Some Overflow) None ≡ None → n ≤ max_uint32
len_fits_at n true e h = absurd cc
len_fits_at n false e h = ltb-false _ _ e

-- a length that isn't refused fits four bytes
pub len_fits : (n : ℕ) → len_refusal n ≡ None → n ≤ max_uint32
unfolding len_refusal
len_fits n h = len_fits_at n (ltb max_uint32 n) refl h

-- what can only be refused for want of memory
pub never_refused : {T : Type 0} (old new list : List ℕ) (r : Result T Error) → OnOk r (new ≡ old ++ list)
    → IfErr r (λ e. (e ≡ OutOfMemory) × IsPart old new list) → WritesValue old new r list None
never_refused old new list (Ok v) ok err = (ok, refl)
never_refused old new list (Err e) ok err = (err.1, inl err.0)
