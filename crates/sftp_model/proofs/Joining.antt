-- Laws of pieces that are joined.
use Rattle.std.proofs.Common.{ℕ, ◌≡◌, ◌==◌, ◌<◌, ◌&&◌, List, [], ◌∷◌, ◌++◌, length, refl, ap, ◌∙◌, sym, append_assoc, arith}
use Rattle.std.specs.List.{list_all}
use Rattle.std.specs.Cmp.Lexicographic.{pointwise}
use Rattle.std.proofs.lemmas.List.{append-nil}
use Rattle.std.proofs.Math.Dec.{eqb-suc-zero}
use Rattle.sftp_model.specs.Pieces.{joined_pieces}

-- a piece that is added at the end
pub joined-push : (pieces : List (List ℕ)) (piece : List ℕ) → joined_pieces (pieces ++ piece ∷ [])
    ≡ joined_pieces pieces ++ piece
joined-push [] piece = append-nil piece
joined-push (p ∷ pieces) piece = ap (λ (l : List ℕ). p ++ l) (joined-push pieces piece)
    ∙ sym (append_assoc p (joined_pieces pieces) piece)

-- only no bytes are the same as no bytes
pub pointwise_none : (bytes : List ℕ) (pieces : List (List ℕ)) → pointwise ◌==◌ [] (bytes ++ joined_pieces pieces)
    ≡ ((length bytes == 0) && list_all (λ (p : List ℕ). length p == 0) pieces)
pointwise_none (b ∷ bytes) pieces = rw (eqb-suc-zero (length bytes)) refl
pointwise_none [] [] = refl
pointwise_none [] ([] ∷ pieces) = pointwise_none [] pieces
pointwise_none [] ((b ∷ piece) ∷ pieces) = rw (eqb-suc-zero (length piece)) refl

-- where one side is used up, the other must be nothing
pub nothing_left : (ours theirs : List ℕ) (lefts rights : List (List ℕ)) → length ours < 1 → length lefts < 1
    → pointwise ◌==◌ (ours ++ joined_pieces lefts) (theirs ++ joined_pieces rights)
    ≡ ((length theirs == 0) && list_all (λ (p : List ℕ). length p == 0) rights)
nothing_left [] theirs [] rights p q = pointwise_none theirs rights
nothing_left (x ∷ ours) theirs lefts rights p q = absurd (omega arith)
nothing_left [] theirs (x ∷ lefts) rights p q = absurd (omega arith)

pub ruleset joining = (joined-push, nothing_left)
