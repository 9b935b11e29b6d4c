use Rattle.std.proofs.Common.{
  ◌≡◌,
  ℕ,
  zero,
  suc,
  ◌==◌,
  true,
  false,
  List,
  [],
  ◌∷◌,
  ◌++◌,
  length,
  Result,
  Ok,
  Err,
  refl,
  ap,
  sym,
  append_assoc,
  append-nil,
  arith,
}
use Rattle.std.proofs.lemmas.Grind.{common_steps}
use Rattle.ssh_encoding.specs.declared.error.Error.{Error}
use Rattle.ssh_encoding.specs.Reading.{with_prefix, texts_within, text_at}

pub with_front_none : {A : Type 0} (read : Result (List A × List ℕ) Error) → with_prefix [] read ≡ read
with_front_none (Ok x) = refl
with_front_none (Err e) = refl

pub with_front_twice : {A : Type 0} (a b : List A) (read : Result (List A × List ℕ) Error)
    → with_prefix a (with_prefix b read) ≡ with_prefix (a ++ b) read
with_front_twice a b (Ok x) = ap (λ l. Ok (l, x.1)) (sym (append_assoc a b x.0))
with_front_twice a b (Err e) = refl

-- one more text
pub texts_more : (front : List (List ℕ)) (fuel less : ℕ) (bytes text rest : List ℕ) → fuel ≡ suc less
    → (length bytes == 0) ≡ false → text_at bytes ≡ Ok (text, rest)
    → with_prefix front (texts_within fuel bytes) ≡ with_prefix (front ++ text ∷ []) (texts_within less rest)
texts_more front fuel less [] text rest f n h = absurd cc
texts_more front fuel less (b ∷ bytes) text rest f n h = rw f
    (rw h (with_front_twice front (text ∷ []) (texts_within less rest)))

-- a refusal
pub texts_refused : (front : List (List ℕ)) (fuel less : ℕ) (bytes : List ℕ) (e : Error) → fuel ≡ suc less
    → (length bytes == 0) ≡ false → text_at bytes ≡ Err e
    → with_prefix front (texts_within fuel bytes) ≡ Err e
texts_refused front fuel less [] e f n h = absurd cc
texts_refused front fuel less (b ∷ bytes) e f n h = rw f (rw h refl)

-- the end
pub texts_end : (front : List (List ℕ)) (fuel : ℕ) (bytes : List ℕ) → (length bytes == 0) ≡ true
    → with_prefix front (texts_within fuel bytes) ≡ Ok (front, bytes)
texts_end front zero [] h = ap (λ l. Ok (l, [])) (append-nil front)
texts_end front (suc fuel) [] h = ap (λ l. Ok (l, [])) (append-nil front)
texts_end front fuel (b ∷ bytes) h = absurd (grind (arith, common_steps))

pub texts_spent : (front : List (List ℕ)) (fuel : ℕ) (bytes : List ℕ) → fuel ≡ 0
    → with_prefix front (texts_within fuel bytes) ≡ Ok (front, bytes)
texts_spent front fuel bytes h = rw h (ap (λ l. Ok (l, bytes)) (append-nil front))

pub ruleset texts = (with_front_none, texts_more, texts_refused, texts_end, texts_spent)
