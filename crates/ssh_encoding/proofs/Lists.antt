-- A list of values written one after another, up to one of them.
use Rattle.std.proofs.Common.{
  ◌≡◌,
  ℕ,
  ◌+◌,
  ◌<◌,
  ◌≤◌,
  List,
  [],
  ◌∷◌,
  ◌++◌,
  length,
  take,
  drop,
  get_or,
  Result,
  Ok,
  Err,
  Option,
  Some,
  None,
  ◌⊎◌,
  inl,
  inr,
  refl,
  ap,
  sym,
  ◌∙◌,
  append-nil,
  length-append,
  add-one,
  arith,
  ltb,
  false,
}
use Rattle.std.specs.Prelude.{IsErrAnd, IfErr}
use Rattle.std.specs.List.{flat_map}
use Rattle.std.proofs.Math.Seq.{take-suc}
use Rattle.std.proofs.lemmas.Bool.{le-ltb}
use Rattle.std.proofs.lemmas.Grind.{flat_map-append}
use Rattle.std.proofs.lemmas.List.{take-append-drop}
use Rattle.ssh_encoding.specs.declared.error.Error.{Error}
use Rattle.ssh_encoding.specs.declared.error.Error.TheVariants.{OutOfMemory, Length}
use Rattle.ssh_encoding.specs.Writing.{IsPart, CountsBytes, string, uint32, string_refusal, len_refusal, max_usize, max_uint32}
use Rattle.ssh_encoding.proofs.Parts.{part_after, part_more}

-- one value more
pub flat_map_step : {X : Type 0} (f : X → List ℕ) (xs : List X) (i : ℕ) (x : X) → i < length xs → x ≡ get_or xs i x
    → flat_map f (take (i + 1) xs) ≡ flat_map f (take i xs) ++ f x
flat_map_step f xs i x h e =
    ap (λ n. flat_map f (take n xs)) (add-one i)
    ∙ ap (λ l. flat_map f l) (take-suc xs i x h)
    ∙ flat_map-append f (take i xs) (get_or xs i x ∷ [])
    ∙ ap (λ y. flat_map f (take i xs) ++ flat_map f (y ∷ [])) (sym e)
    ∙ ap (λ l. flat_map f (take i xs) ++ l) (append-nil (f x))

-- the values before one, the one, and those after it
pub flat_map_around : {X : Type 0} (f : X → List ℕ) (xs : List X) (i : ℕ) (x : X) → i < length xs → x ≡ get_or xs i x
    → flat_map f xs ≡ flat_map f (take i xs) ++ f x ++ flat_map f (drop (i + 1) xs)
flat_map_around f xs i x h e =
    ap (λ l. flat_map f l) (sym (take-append-drop (i + 1) xs)) ∙ flat_map-append f (take (i + 1) xs) (drop (i + 1) xs)
    ∙ ap (λ l. l ++ flat_map f (drop (i + 1) xs)) (flat_map_step f xs i x h e)

pub flat_map_room : {X : Type 0} (f : X → List ℕ) (xs : List X) (i : ℕ) (x : X) → i < length xs → x ≡ get_or xs i x
    → length (flat_map f (take i xs)) + length (f x) ≤ length (flat_map f xs)
flat_map_room f xs i x h e =
    rw (
      ap (λ l. length l) (flat_map_around f xs i x h e),
      length-append (flat_map f (take i xs) ++ f x)
          (flat_map f (drop (i + 1) xs)),
      length-append (flat_map f (take i xs)) (f x),
    ) (omega arith)

-- a sum that a further value takes over the limit
pub counts_over : {X : Type 0} (f : X → List ℕ) (xs : List X) (i : ℕ) (x : X) (r : Result ℕ Error) (e : Error)
    → i < length xs → x ≡ get_or xs i x
    → IsErrAnd r (λ d. d ≡ e) → e ≡ Length → max_usize < length (flat_map f (take i xs)) + length (f x)
    → CountsBytes r (length (flat_map f xs))
counts_over f xs i x (Ok n) e h is s l over = absurd s
counts_over f xs i x (Err d) e h is s l over = let room = flat_map_room f xs i x h is in
    (s ∙ l, omega (arith, room, over))

-- a string within the limit isn't refused
pub string_fits : (written content : List ℕ) (refusal : Option Error) → written ≡ string content → refusal
    ≡ string_refusal content → length written ≤ max_uint32 → refusal ≡ None
unfolding string len_refusal
string_fits written content refusal w r h =
    let more : length content ≤ length written = rw (w, length-append (uint32 (length content)) content) (omega arith)
    in
    let short : ltb max_uint32 (length content) ≡ false = le-ltb _ _ (omega (arith, more, h)) in
    rw (r, short) refl

-- a value in the middle found no memory
pub stops_within : {T : Type 0} (old mid new before one after all : List ℕ) (r : Result T Error) (e : Error)
    (refusal : Option Error) → all ≡ before ++ one ++ after → mid ≡ old ++ before → refusal ≡ None
    → IsErrAnd r (λ d. d ≡ e) → IsPart mid new one × ((e ≡ OutOfMemory) ⊎ (refusal ≡ Some e))
    → IfErr r (λ d. (d ≡ OutOfMemory) × IsPart old new all)
stops_within old mid new before one after all (Ok v) e refusal a m none s h = absurd s
stops_within old mid new before one after all (Err d) e refusal a m none s h = (
  s ∙ elim h.1 [
    | inl o ↦ o
    | inr q ↦ absurd (let bad : (let n : Option Error = None in n) ≡ Some e = sym none ∙ q in
        cc)
  ],
  rw a (part_more old new (before ++ one) after (part_after old mid new before one m h.0)),
)

pub length_step : {X : Type 0} (f : X → List ℕ) (xs : List X) (i : ℕ) (x : X) → i < length xs → x ≡ get_or xs i x
    → length (flat_map f (take (i + 1) xs)) ≡ length (flat_map f (take i xs)) + length (f x)
length_step f xs i x h e = ap (λ l. length l) (flat_map_step f xs i x h e)
    ∙ length-append (flat_map f (take i xs)) (f x)
