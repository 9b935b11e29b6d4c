-- Pieces that join to nothing.
use Rattle.std.proofs.Common.{◌≡◌, ◌∙◌, refl, sym, ap, arith, ℕ, Bool, false, List, [], ◌∷◌, ◌++◌, ◌==◌, length, suc, take, min}
use Rattle.std.specs.Prelude.{◌&&◌}
use Rattle.std.specs.List.{list_all}
use Rattle.std.proofs.lemmas.Bool.Decides.{nat_tests}
use Rattle.std.proofs.lemmas.List.{take_min}
use Rattle.sftp_model.specs.Pieces.{joined_pieces}

some_test : (n : ℕ) → (suc n == 0) ≡ false
some_test n = grind (arith, nat_tests)

both_none : (xs ys : List ℕ) → ((length xs == 0) && (length ys == 0)) ≡ (length (xs ++ ys) == 0)
both_none [] ys = refl
both_none (x ∷ xs) ys = (let one = some_test (length xs) in let all = some_test (length (xs ++ ys)) in
    ap (λ (b : Bool). b && (length ys == 0)) one ∙ sym all)

pub none_joined : (pieces : List (List ℕ)) → list_all (λ (piece : List ℕ). length piece == 0) pieces
    ≡ (length (joined_pieces pieces) == 0)
none_joined [] = refl
none_joined (piece ∷ pieces) = ap (λ (b : Bool). (length piece == 0) && b) (none_joined pieces)
    ∙ both_none piece (joined_pieces pieces)

-- the first bytes, as many as there are
pub first_of : (n limit : ℕ) (xs ys : List ℕ) → n ≡ min (length xs) limit → ys ≡ take limit xs → ys ≡ take n xs
first_of n limit xs ys len is =
    (let swap : min limit (length xs) ≡ n = omega (arith, len) in is
    ∙ (sym (take_min limit xs) ∙ ap (λ (k : ℕ). take k xs) swap))
