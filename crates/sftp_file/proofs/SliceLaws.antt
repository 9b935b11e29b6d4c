-- The first bytes of pieces.
use Rattle.std.proofs.Common.{
  ◌≡◌,
  ◌∙◌,
  refl,
  sym,
  ap,
  subst,
  arith,
  ℕ,
  ◌+◌,
  ◌-◌,
  ◌<◌,
  ◌≤◌,
  zero,
  suc,
  List,
  [],
  ◌∷◌,
  ◌++◌,
  length,
  take,
  drop,
  get_or,
  append-nil,
  append_assoc,
  length-append,
  Option,
  Some,
  None,
  IfNone,
  IfSome,
  inl,
  inr,
}
use Rattle.std.proofs.lemmas.List.{take-append-le}
use Rattle.sftp_model.specs.Pieces.{joined_pieces}
use Rattle.sftp_wire.proofs.Lengths.{joined_step}
use Rattle.sftp_file.specs.Slices.{IsCutOff}
use Rattle.sftp_file.proofs.Cutting.{take_two}

-- so many bytes may still be taken behind so many pieces
abbrev pub IsLeft : List (List ℕ) → ℕ → ℕ → ℕ → Type 0
IsLeft pieces limit i left = length (joined_pieces (take i pieces)) + left ≡ limit

joined_at : (pieces : List (List ℕ)) (i : ℕ) → joined_pieces (take i pieces) ++ joined_pieces (drop i pieces)
    ≡ joined_pieces pieces
joined_at [] zero = refl
joined_at [] (suc i) = refl
joined_at (b ∷ pieces) zero = refl
joined_at (b ∷ pieces) (suc i) = append_assoc b (joined_pieces (take i pieces)) (joined_pieces (drop i pieces))
    ∙ ap (λ (l : List ℕ). b ++ l) (joined_at pieces i)

more_long : (pieces : List (List ℕ)) (i : ℕ) (piece : List ℕ) → i < length pieces → piece ≡ get_or pieces i piece
    → length (joined_pieces (take (i + 1) pieces)) ≡ length (joined_pieces (take i pieces)) + length piece
more_long pieces i piece h e = ap (λ (l : List ℕ). length l) (joined_step pieces i piece h e)
    ∙ length-append (joined_pieces (take i pieces)) piece

-- one piece more is whole
pub left_next : (pieces : List (List ℕ)) (i : ℕ) (piece : List ℕ) (left limit : ℕ) → i < length pieces → piece
    ≡ get_or pieces i piece → IsLeft pieces limit i left → length piece ≤ left
    → IsLeft pieces limit (i + 1) (left - length piece)
left_next pieces i piece left limit h e counts fits = omega (arith, more_long pieces i piece h e, counts, fits)

-- ---- the end

take-long : (n : ℕ) (l : List ℕ) → length l ≤ n → take n l ≡ l
take-long zero [] le = refl
take-long (suc n) [] le = refl
take-long zero (x ∷ xs) le = absurd (omega (arith, le))
take-long (suc n) (x ∷ xs) le = ap (λ (l : List ℕ). x ∷ l) (take-long n xs (omega (arith, le)))

-- the next piece is longer than what may be taken
pub cut_off : (pieces : List (List ℕ)) (i : ℕ) (piece part : List ℕ) (left limit : ℕ) → i < length pieces → piece
    ≡ get_or pieces i piece → IsLeft pieces limit i left
    → left < length piece → 1 ≤ limit → part ≡ take left piece → IsCutOff pieces limit (Some (limit, i, part))
cut_off pieces i piece part left limit h e counts over some is =
    let a : List ℕ = joined_pieces (take i pieces) in
    let later : List ℕ = joined_pieces (drop (i + 1) pieces) in
    let all : joined_pieces pieces ≡ a ++ (piece ++ later) =
    sym (joined_at pieces (i + 1)) ∙ (ap (λ (l : List ℕ). l ++ later) (joined_step pieces i piece h e)
    ∙ append_assoc a piece later) in
    let len : length (joined_pieces pieces) ≡ length a + length (piece ++ later) = ap (λ (l : List ℕ). length l) all
    ∙ length-append a (piece ++ later) in
    let more : length (piece ++ later) ≡ length piece + length later = length-append piece later in
    let rest : limit - length a ≡ left = omega (arith, counts) in
    let whole : take limit a ≡ a = take-long limit a (omega (arith, counts)) in
    let front : take (limit - length a) (piece ++ later) ≡ part = ap (λ (n : ℕ). take n (piece ++ later)) rest
    ∙ (take-append-le left piece later (omega (arith, over)) ∙ sym is) in (
      omega (arith, len, more, counts, over),
      some,
      omega (arith, h),
      sym (ap (take limit) all ∙ (take_two limit a (piece ++ later) ∙ (λ j. whole j ++ front j))),
      inr (let next = more_long pieces i piece h e in omega (arith, next, counts, over)),
    )

no_length : (l : List ℕ) → length l ≡ 0 → l ≡ []
no_length [] e = refl
no_length (x ∷ xs) e = absurd (omega (arith, e))

cut_all : (pieces : List (List ℕ)) (left limit len : ℕ) → length (joined_pieces pieces) + left ≡ limit → len
    ≡ limit - left → 0 < len
    → IsCutOff pieces limit (Some (len, length pieces, []))
cut_all pieces left limit len counts is some =
    let same : len ≡ length (joined_pieces pieces) = omega (arith, counts, is) in (
      omega (arith, same, counts),
      some,
      omega arith,
      append-nil (joined_pieces (take (length pieces) pieces)) ∙
          (ap joined_pieces (take_all_pieces pieces) ∙ sym (take-long len (joined_pieces pieces)
          (omega (arith, same)))),
      inl refl,
    )
  where
    take_all_pieces : (l : List (List ℕ)) → take (length l) l ≡ l
    take_all_pieces [] = refl
    take_all_pieces (x ∷ xs) = ap (λ (l : List (List ℕ)). x ∷ l) (take_all_pieces xs)

-- all pieces are whole; or all are empty
pub cut_counted : (pieces : List (List ℕ)) (whole left limit len : ℕ) (result : Option (ℕ × ℕ × List ℕ)) → whole
    ≡ length pieces → length (joined_pieces pieces) + left ≡ limit → len ≡ limit - left
    → IfNone result (len ≡ 0) → IfSome result (λ (first : ℕ × ℕ × List ℕ). (0 < len) × (first ≡ (len, whole, [])))
    → IsCutOff pieces limit result
cut_counted pieces whole left limit len None all counts is none some =
    no_length (joined_pieces pieces) (omega (arith, counts, is, none))
cut_counted pieces whole left limit len (Some first) all counts is none some =
    subst (λ (x : ℕ × ℕ × List ℕ). IsCutOff pieces limit (Some x)) (sym (some.1 ∙ (λ i. (len, all i, []))))
    (cut_all pieces left limit len counts is some.0)
