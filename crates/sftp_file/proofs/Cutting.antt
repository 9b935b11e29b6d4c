-- Pieces that are cut out of others.
use Rattle.std.proofs.Common.{◌≡◌, ◌∙◌, refl, sym, ap, arith, ℕ, ◌+◌, ◌-◌, ◌<◌, zero, suc, List, [], ◌∷◌, ◌++◌, length, take, drop, min, get_or, length-append}
use Rattle.std.proofs.lemmas.List.{drop_min, length-drop, take_min}
use Rattle.sftp_model.specs.Pieces.{joined_pieces}
use Rattle.sftp_wire.proofs.Lengths.{joined_step}
use Rattle.sftp_core.proofs.Cuts.{taken}
use Rattle.sftp_file.specs.Parts.{cut_at, with_filled}

-- ---- two lists

-- what is taken of two is taken of the first, and the rest of the second
pub take_two : (n : ℕ) (xs ys : List ℕ) → take n (xs ++ ys) ≡ take n xs ++ take (n - length xs) ys
take_two n [] ys = let d : n - 0 ≡ n = omega arith in rw d (take_none n ys)
  where
    take_none : (n : ℕ) (ys : List ℕ) → take n ys ≡ take n [] ++ take n ys
    take_none zero ys = refl
    take_none (suc n) ys = refl
take_two zero (x ∷ xs) ys = let d : 0 - suc (length xs) ≡ 0 = omega arith in rw d refl
take_two (suc n) (x ∷ xs) ys =
    let d : suc n - suc (length xs) ≡ n - length xs = omega arith in
    rw d (ap (λ (l : List ℕ). x ∷ l) (take_two n xs ys))

drop_two : (n : ℕ) (xs ys : List ℕ) → drop n (xs ++ ys) ≡ drop n xs ++ drop (n - length xs) ys
drop_two n [] ys = let d : n - 0 ≡ n = omega arith in rw d (drop_none n ys)
  where
    drop_none : (n : ℕ) (ys : List ℕ) → drop n ys ≡ drop n [] ++ drop n ys
    drop_none zero ys = refl
    drop_none (suc n) ys = refl
drop_two zero (x ∷ xs) ys = let d : 0 - suc (length xs) ≡ 0 = omega arith in rw d refl
drop_two (suc n) (x ∷ xs) ys = let d : suc n - suc (length xs) ≡ n - length xs = omega arith in rw d (drop_two n xs ys)

pub take_all_of_none : (n m : ℕ) → (◌≡◌ {A = List ℕ} (take n (drop m [])) [])
take_all_of_none zero zero = refl
take_all_of_none zero (suc m) = refl
take_all_of_none (suc n) zero = refl
take_all_of_none (suc n) (suc m) = refl

-- ---- a cut

joined_filled : (piece : List ℕ) (pieces : List (List ℕ)) → joined_pieces (with_filled piece pieces) ≡ piece
    ++ joined_pieces pieces
joined_filled [] pieces = refl
joined_filled (x ∷ xs) pieces = refl

-- what is cut out, joined, is that part of the pieces, joined
pub joined_cut : (pieces : List (List ℕ)) (from len : ℕ) → joined_pieces (cut_at from len pieces)
    ≡ take len (drop from (joined_pieces pieces))
joined_cut [] from len = sym (take_all_of_none len from)
joined_cut (piece ∷ pieces) from len =
    joined_filled (take len (drop from piece)) (cut_at (from - length piece) (len - length (drop from piece)) pieces)
    ∙ (ap (λ (l : List ℕ). take len (drop from piece) ++ l) (joined_cut pieces (from - length piece)
    (len - length (drop from piece)))
    ∙ (sym (take_two len (drop from piece) (drop (from - length piece) (joined_pieces pieces)))
    ∙ ap (take len) (sym (drop_two from piece (joined_pieces pieces)))))

-- ---- a step of the cut

-- the part of one piece
part_is : (piece : List ℕ) (from left start len : ℕ) → start ≡ min from (length piece) → len
    ≡ min left (length piece - start)
    → take (start + len - start) (drop start piece) ≡ take left (drop from piece)
part_is piece from left start len is so =
    let d : start + len - start ≡ len = omega arith in
    let e : drop start piece ≡ drop from piece = ap (λ (n : ℕ). drop n piece) is ∙ drop_min from piece in
    let l : len ≡ min left (length (drop from piece)) = omega (arith, length-drop from piece) in
    ap (λ (n : ℕ). take n (drop start piece)) (d ∙ l) ∙ (ap (take (min left (length (drop from piece)))) e
    ∙ take_min left (drop from piece))

filled_append : (piece : List ℕ) (a b : List (List ℕ)) → with_filled piece (a ++ b) ≡ with_filled piece a ++ b
filled_append [] a b = refl
filled_append (x ∷ xs) a b = refl

-- a piece more
cut_more : (pieces : List (List ℕ)) (piece : List ℕ) (from len : ℕ)
    → cut_at from len (pieces ++ piece ∷ [])
    ≡ cut_at from len pieces ++ with_filled (take (len - length (drop from (joined_pieces pieces)))
    (drop (from - length (joined_pieces pieces)) piece)) []
cut_more [] piece from len =
    let none : List ℕ = [] in
    let l : len - length (drop from none) ≡ len = omega (arith, length-drop from none) in
    let f : from - 0 ≡ from = omega arith in
    λ i. with_filled (take (sym l i) (drop (sym f i) piece)) []
cut_more (p ∷ pieces) piece from len =
    let f : from - length p - length (joined_pieces pieces) ≡ from - length (p ++ joined_pieces pieces) =
    omega (arith, length-append p (joined_pieces pieces)) in
    let l : len - length (drop from p) - length (drop (from - length p) (joined_pieces pieces))
    ≡ len - length (drop from (p ++ joined_pieces pieces)) = omega (
      arith,
      length-append p (joined_pieces pieces),
      length-drop from p,
      length-drop (from - length p) (joined_pieces pieces),
      length-drop from (p ++ joined_pieces pieces),
    ) in
    ap (with_filled (take len (drop from p))) (cut_more pieces piece (from - length p) (len - length (drop from p)))
    ∙ (filled_append (take len (drop from p)) (cut_at (from - length p) (len - length (drop from p)) pieces) _
    ∙ (λ i. with_filled (take len (drop from p)) (cut_at (from - length p) (len - length (drop from p)) pieces)
    ++ with_filled (take (l i) (drop (f i) piece)) []))

-- what a loop over the pieces has cut
abbrev pub IsCutTo : List (List ℕ) → ℕ → ℕ → ℕ → List (List ℕ) → ℕ → ℕ → Type 0
IsCutTo pieces from limit i parts before left =
    (parts ≡ cut_at from limit (take i pieces)) × (before ≡ from - length (joined_pieces (take i pieces)))
    × (left ≡ limit - length (drop from (joined_pieces (take i pieces))))

pub cut_pushed : (pieces : List (List ℕ)) (i : ℕ) (piece : List ℕ) (from limit before left start len : ℕ)
    (parts after : List (List ℕ)) (part : List ℕ)
    → i < length pieces → piece ≡ get_or pieces i piece → IsCutTo pieces from limit i parts before left
    → start ≡ min before (length piece) → len ≡ min left (length piece - start) → part
    ≡ take (start + len - start) (drop start piece)
    → after ≡ parts ++ with_filled part [] → IsCutTo pieces from limit (i + 1) after (before - start) (left - len)
cut_pushed pieces i piece from limit before left start len parts after part h e inv is so p pushed =
    let more : take (i + 1) pieces ≡ take i pieces ++ piece ∷ [] = taken pieces i piece h e in
    let bytes : joined_pieces (take (i + 1) pieces) ≡ joined_pieces (take i pieces) ++ piece =
    joined_step pieces i piece h e in
    let long : length (joined_pieces (take (i + 1) pieces)) ≡ length (joined_pieces (take i pieces)) + length piece =
    ap (λ (l : List ℕ). length l) bytes ∙ length-append (joined_pieces (take i pieces)) piece in
    let dropped : length (drop from (joined_pieces (take (i + 1) pieces)))
    ≡ length (joined_pieces (take (i + 1) pieces)) - from =
    length-drop from (joined_pieces (take (i + 1) pieces)) in
    let was : length (drop from (joined_pieces (take i pieces))) ≡ length (joined_pieces (take i pieces)) - from =
    length-drop from (joined_pieces (take i pieces)) in
    let cut : part ≡ take (limit - length (drop from (joined_pieces (take i pieces))))
    (drop (from - length (joined_pieces (take i pieces))) piece) =
    p ∙ (part_is piece before left start len is so ∙ (λ j. take (inv.2 j) (drop (inv.1 j) piece))) in (
      pushed ∙ ((λ j. inv.0 j ++ with_filled (cut j) []) ∙ (sym (cut_more (take i pieces) piece from limit)
          ∙ ap (cut_at from limit) (sym more))),
      omega (arith, inv.1, is, long),
      omega (arith, inv.1, inv.2, is, so, long, dropped, was),
    )
