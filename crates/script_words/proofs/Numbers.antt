-- Numbers that are cut at 2^64 while their digits are read.
use Rattle.std.proofs.Common.{
  ◌≡◌,
  ◌+◌,
  ◌-◌,
  ◌*◌,
  ◌^◌,
  ◌<◌,
  ◌∷◌,
  [],
  ℕ,
  suc,
  List,
  Bool,
  true,
  false,
  Option,
  Some,
  None,
  min,
  drop,
  length,
  get_or,
  refl,
  ap,
  sym,
  ◌∙◌,
  arith,
  inl,
  inr,
  add-one,
  drop-cons,
}
use Rattle.std.proofs.lemmas.Bool.{cases_Bool, cases_lt, lt-leb}
use Rattle.std.specs.Prelude.{◌&&◌, nat_le, Err}
use Rattle.std.specs.Option.{option_map}
use Rattle.script_words.specs.declared.reason.Reason.TheVariants as reason
use Rattle.script_words.specs.Lines.{digits_behind, is_digit, within}

abbrev pub capped : Option ℕ → Option ℕ
capped number = option_map (λ n. min n (2 ^ 64)) number

digit_behind : (n b : ℕ) (bytes : List ℕ) → is_digit b ≡ true → digits_behind n (b ∷ bytes)
    ≡ digits_behind (n * 10 + (b - 48)) bytes
digit_behind n b bytes e = rw e refl

other_behind : (n b : ℕ) (bytes : List ℕ) → is_digit b ≡ false → digits_behind n (b ∷ bytes) ≡ None
other_behind n b bytes e = rw e refl

-- what is read behind a number that was cut is cut too
capped_behind : (n : ℕ) (bytes : List ℕ) → capped (digits_behind (min n (2 ^ 64)) bytes)
    ≡ capped (digits_behind n bytes)
capped_behind n [] = ap Some (omega arith)
capped_behind n (b ∷ bytes) =
    elim (cases_Bool (is_digit b)) [
      | inl e ↦
          let cut = min n (2 ^ 64) in
          let same : min (cut * 10 + (b - 48)) (2 ^ 64) ≡ min (n * 10 + (b - 48)) (2 ^ 64) = omega arith in
          ap capped (digit_behind cut b bytes e) ∙ sym (capped_behind (cut * 10 + (b - 48)) bytes)
          ∙ ap (λ (m : ℕ). capped (digits_behind m bytes)) same
          ∙ capped_behind (n * 10 + (b - 48)) bytes ∙ sym (ap capped (digit_behind n b bytes e))
      | inr e ↦ ap capped (other_behind (min n (2 ^ 64)) b bytes e) ∙ sym (ap capped (other_behind n b bytes e))
    ]

-- one digit more
pub digit_more : (n : ℕ) (word : List ℕ) (i : ℕ) → i < length word → is_digit (get_or word i 0) ≡ true
    → capped (digits_behind n (drop i word)) ≡ capped (digits_behind (min (n * 10 + (get_or word i 0 - 48)) (2 ^ 64))
    (drop (i + 1) word))
digit_more n word i lt e =
    rw (add-one, drop-cons word i 0)
    (ap capped (digit_behind n (get_or word i 0) (drop (suc i) word) e)
    ∙ sym (capped_behind (n * 10 + (get_or word i 0 - 48)) (drop (suc i) word)))

-- a byte that is no digit
pub digit_none : (n : ℕ) (word : List ℕ) (i : ℕ) → i < length word → is_digit (get_or word i 0) ≡ false
    → capped (digits_behind n (drop i word)) ≡ None
digit_none n word i lt e = rw (drop-cons word i 0) (ap capped (other_behind n (get_or word i 0) (drop (suc i) word) e))

no_more : (b : Bool) → (b && false) ≡ false
no_more true = refl
no_more false = refl

too_great : (least most n : ℕ) → most < n → within least most (Some n) ≡ Err reason.Range
too_great least most n gt = rw (lt-leb n most gt, no_more (nat_le least n)) refl

within_less : (least most n : ℕ) → most < 2 ^ 64 → within least most (Some (min n (2 ^ 64)))
    ≡ within least most (Some n)
within_less least most n small =
    elim (cases_lt n (2 ^ 64)) [
      | inl lt ↦ ap (λ (m : ℕ). within least most (Some m)) (omega arith)
      | inr ge ↦
          let cut : min n (2 ^ 64) ≡ 2 ^ 64 = omega arith in
          ap (λ (m : ℕ). within least most (Some m)) cut ∙ too_great least most (2 ^ 64) small
          ∙ sym (too_great least most n (omega arith))
    ]

-- a range of 64 bits is told by the number that was cut
pub within_capped : (least most : ℕ) (number : Option ℕ) → most < 2 ^ 64 → within least most (capped number)
    ≡ within least most number
within_capped least most None small = refl
within_capped least most (Some n) small = within_less least most n small
