-- The digits of a number are what `{}` writes of it.
use Rattle.std.specs.Prelude.{ℕ, zero, suc, ◌≡◌, ◌<◌, ◌+◌, ◌^◌, ◌==◌, Bool, true, false, List, [], ◌∷◌, codes, map, if◌then◌else◌, refl}
use Rattle.std.proofs.Common.{arith, sym, ◌∙◌}
use Rattle.std.specs.Int.Digits.{digits_of}
use Rattle.std.proofs.Math.Dec.{eqb-suc-zero}
use Rattle.std.specs.Fmt.{decimal}
use Rattle.std.specs.Str.Parse.{AllDigits, digits_value}
use Rattle.std.proofs.lemmas.Fmt.{decimal-digits_of, decimal-digits_value}
use Rattle.std.proofs.lemmas.Str.Parse.{IsNumeralModel}
use Rattle.script_text.specs.Texts.{number_text}

own_words : IsNumeralModel (AllDigits 10) (digits_value 10)
own_words = record { to = λ ds h. h; from = λ ds h. h; same = λ ds h. refl }

not_zero : (b : Bool) (xs ys : List ℕ) → b ≡ false → (if b then xs else ys) ≡ ys
not_zero true xs ys e = absurd cc
not_zero false xs ys e = refl

pub number_decimal : (n : ℕ) → n < 2 ^ 64 → number_text n ≡ decimal n
number_decimal zero lt = let h : decimal 0 ≡ 48 ∷ [] = decimal-digits_value own_words (48 ∷ []) (omega arith, tt)
    (omega arith) (λ e. refl) lt in sym h
number_decimal (suc n) lt = not_zero (suc n == 0) (codes "0") (map (λ d. 48 + d) (digits_of 10 (suc n)))
    (eqb-suc-zero n) ∙ sym (decimal-digits_of (suc n) (omega arith) lt)
