-- Parts of bytes.
use Rattle.std.proofs.Common.{◌≡◌, ◌≤◌, ◌+◌, ◌-◌, ℕ, zero, suc, List, [], ◌∷◌, ◌++◌, length, take, drop, refl, ap, sym, ◌∙◌, arith}
use Rattle.std.proofs.lemmas.List.{drop-drop, drop-take, drop_at, take-take, take_all}

-- the first of more bytes, and those behind them
pub take_two : {X : Type 0} (a b : ℕ) (xs : List X) → take (a + b) xs ≡ take a xs ++ take b (drop a xs)
take_two zero b xs = let on : 0 + b ≡ b = omega arith in (λ i. take (on i) xs)
take_two (suc a) b [] = let on : suc a + b ≡ suc (a + b) = omega arith in
    (λ i. take (on i) []) ∙ sym (take_all b [] (omega arith))
take_two (suc a) b (x ∷ xs) = let on : suc a + b ≡ suc (a + b) = omega arith in
    (λ i. take (on i) (x ∷ xs)) ∙ (λ i. x ∷ take_two a b xs i)

-- what stands behind more bytes
pub drop_first : {X : Type 0} (off : ℕ) (xs more rest : List X) → drop off xs ≡ more ++ rest
    → drop (off + length more) xs ≡ rest
drop_first off xs more rest is =
    sym (drop-drop (length more) off xs) ∙ (ap (drop (length more)) is ∙ drop_at more rest (length more) refl)

-- a part that begins within the first n and ends there is the same part of all
pub part_of : {X : Type 0} (skipped len n : ℕ) (xs : List X) → skipped + len ≤ n → take len (drop skipped (take n xs))
    ≡ take len (drop skipped xs)
part_of skipped len n xs le =
    let is : n ≡ skipped + (n - skipped) = omega (arith, le) in
    ap (λ (k : ℕ). take len (drop skipped (take k xs))) is
    ∙ (ap (take len) (drop-take skipped (n - skipped) xs) ∙ take-take len (n - skipped) (drop skipped xs)
    (omega (arith, le)))
