-- Pieces of some bytes, each with its offset, that don't overlap: put in order and joined they are the bytes, where one
-- begins at the start and at the end of each that doesn't end at the end of the bytes.
use Rattle.std.proofs.Common.{◌≡◌, ℕ, ◌+◌, ◌<◌, ◌≤◌, Bool, true, false, List, [], ◌∷◌, ◌++◌, length, drop, if◌then◌else◌, refl, ap, sym, ◌∙◌, arith, inl, inr}
use Rattle.std.specs.Prelude.{◌⊎◌, filter, flat_map, nat_le, cond}
use Rattle.std.proofs.lemmas.Bool.Decides.{nat_tests}
use Rattle.std.proofs.lemmas.List.{drop_all, drop_at, drop-drop, length-append}
use Rattle.plan_model.specs.WindowPlans.{content_end, in_order, put_in_order}
use Rattle.plan_model.proofs.Among.{Among, from_filter}

abbrev pub Piece : Type 0
Piece = ℕ × List ℕ

-- some bytes that stand at the offset
abbrev pub IsPiece : List ℕ → Piece → Type 0
IsPiece bytes x = (1 ≤ length x.1) × ((rest : List ℕ) × (drop x.0 bytes ≡ x.1 ++ rest))

-- one of the two ends where the other begins or before
abbrev pub AreApart : Piece → Piece → Type 0
AreApart x y = (content_end x ≤ y.0) ⊎ (content_end y ≤ x.0)

-- each two of them are apart
abbrev pub StandApart : List Piece → Type 0
StandApart [] = Unit {0}
StandApart (x ∷ xs) = ((y : Piece) → Among y xs → AreApart x y) × StandApart xs

-- each ends where a later one begins or before
abbrev InOrder : List Piece → Type 0
InOrder [] = Unit {0}
InOrder (x ∷ xs) = ((y : Piece) → Among y xs → content_end x ≤ y.0) × InOrder xs

-- ---- in order

among_put : (x got : Piece) (xs : List Piece) → Among x (put_in_order got xs) → (x ≡ got) ⊎ Among x xs
among_put x got [] (inl e) = inl e
among_put x got [] (inr h) = absurd h
among_put x got (first ∷ rest) h = by_test (nat_le got.0 first.0) h (λ k. among_put x got rest k)
  where
    by_test : (b : Bool) → Among x (if b then got ∷ first ∷ rest else first ∷ put_in_order got rest)
        → (Among x (put_in_order got rest) → (x ≡ got) ⊎ Among x rest) → (x ≡ got) ⊎ Among x (first ∷ rest)
    by_test true h later = h
    by_test false (inl e) later = inr (inl e)
    by_test false (inr k) later = elim (later k) [ inl e ↦ inl e | inr m ↦ inr (inr m) ]

put_among : (x got : Piece) (xs : List Piece) → (x ≡ got) ⊎ Among x xs → Among x (put_in_order got xs)
put_among x got [] h = h
put_among x got (first ∷ rest) h = by_test (nat_le got.0 first.0) h (λ k. put_among x got rest k)
  where
    by_test : (b : Bool) → (x ≡ got) ⊎ Among x (first ∷ rest) →
        ((x ≡ got) ⊎ Among x rest → Among x (put_in_order got rest))
        → Among x (if b then got ∷ first ∷ rest else first ∷ put_in_order got rest)
    by_test true h later = h
    by_test false (inl e) later = inr (later (inl e))
    by_test false (inr (inl e)) later = inl e
    by_test false (inr (inr k)) later = inr (later (inr k))

pub among_order : (x : Piece) (xs : List Piece) → Among x (in_order xs) → Among x xs
among_order x [] h = h
among_order x (y ∷ ys) h = elim (among_put x y (in_order ys) h) [ inl e ↦ inl e | inr k ↦ inr (among_order x ys k) ]

pub order_among : (x : Piece) (xs : List Piece) → Among x xs → Among x (in_order xs)
order_among x [] h = h
order_among x (y ∷ ys) (inl e) = put_among x y (in_order ys) (inl e)
order_among x (y ∷ ys) (inr k) = put_among x y (in_order ys) (inr (order_among x ys k))

put_ordered : (got : Piece) (xs : List Piece) → 1 ≤ length got.1 → ((y : Piece) → Among y xs → 1 ≤ length y.1)
    → ((y : Piece) → Among y xs → AreApart got y) → InOrder xs → InOrder (put_in_order got xs)
put_ordered got [] some all apart ordered = (λ y h. absurd h, tt)
put_ordered got (first ∷ rest) some all apart ordered =
    by_test (nat_le got.0 first.0) refl (put_ordered got rest some (λ y k. all y (inr k)) (λ y k. apart y (inr k))
    ordered.1)
  where
    before : got.0 ≤ first.0 → (y : Piece) → Among y (first ∷ rest) → content_end got ≤ y.0
    before le y (inl e) =
        (let same : y.0 ≡ first.0 = ap (λ (w : Piece). w.0) e in
        let full = all first (inl refl) in
        elim (apart first (inl refl)) [
          | inl a ↦ omega (arith, a, same)
          | inr b ↦
              absurd (let c : first.0 + length first.1 ≤ got.0 = b in omega (arith, c, le, full))
        ])
    before le y (inr k) =
        (let ordered_on : first.0 + length first.1 ≤ y.0 = ordered.0 y k in
        let full = all y (inr k) in
        elim (apart y (inr k)) [
          | inl a ↦ a
          | inr b ↦ absurd (let c : y.0 + length y.1 ≤ got.0 = b in
              omega (arith, c, le, full, ordered_on))
        ])

    later : first.0 < got.0 → (y : Piece) → Among y (put_in_order got rest) → content_end first ≤ y.0
    later lt y h = elim (among_put y got rest h) [
      | inl e ↦
          (let same : y.0 ≡ got.0 = ap (λ (w : Piece). w.0) e in
          elim (apart first (inl refl)) [
            | inl a ↦ absurd (let c : got.0 + length got.1 ≤ first.0 = a in
                omega (arith, c, lt))
            | inr b ↦ omega (arith, b, same)
          ])
      | inr k ↦ ordered.0 y k
    ]

    by_test : (b : Bool) → nat_le got.0 first.0 ≡ b → InOrder (put_in_order got rest)
        → InOrder (if b then got ∷ first ∷ rest else first ∷ put_in_order got rest)
    by_test true is rest_ordered = (before (let le : got.0 ≤ first.0 = grind (arith, nat_tests) in le), ordered)
    by_test false is rest_ordered = (later (let lt : first.0 < got.0 = grind (arith, nat_tests) in lt), rest_ordered)

ordered_all : (xs : List Piece) → ((y : Piece) → Among y xs → 1 ≤ length y.1) → StandApart xs → InOrder (in_order xs)
ordered_all [] all apart = tt
ordered_all (x ∷ xs) all apart =
    put_ordered x (in_order xs) (all x (inl refl)) (λ y h. all y (inr (among_order y xs h)))
    (λ y h. apart.0 y (among_order y xs h)) (ordered_all xs (λ y k. all y (inr k)) apart.1)

-- ---- joined

abbrev joined : List Piece → List ℕ
joined xs = flat_map (λ got. got.1) xs

-- a piece that begins at an offset
pub record BeginsAt (xs : List Piece) (offset : ℕ) : Type 0 where
  pub piece : Piece
  pub there : Among piece xs
  pub at : piece.0 ≡ offset

-- pieces from an offset on
record Cover (bytes : List ℕ) (from : ℕ) (xs : List Piece) : Type 0 where
  pieces : (x : Piece) → Among x xs → IsPiece bytes x
  ordered : InOrder xs
  after : (x : Piece) → Among x xs → from ≤ x.0
  here : from < length bytes → BeginsAt xs from
  next : (x : Piece) → Among x xs → content_end x < length bytes → BeginsAt xs (content_end x)

-- where a piece stands, the bytes go on
stands_below : (bytes : List ℕ) (x : Piece) → IsPiece bytes x → x.0 < length bytes
stands_below bytes x is = by_order (nat_le (length bytes) x.0) refl
  where
    by_order : (b : Bool) → nat_le (length bytes) x.0 ≡ b → x.0 < length bytes
    by_order true e =
        (let le : length bytes ≤ x.0 = grind (arith, nat_tests) in
        let none : [] ≡ x.1 ++ is.1.0 = sym (drop_all x.0 bytes le) ∙ is.1.1 in
        let l : 0 ≡ length (x.1 ++ is.1.0) = ap length none in
        let m = length-append x.1 is.1.0 in
        let some = is.0 in
        absurd (omega (arith, l, m, some)))
    by_order false e = (let lt : x.0 < length bytes = grind (arith, nat_tests) in lt)

begins_in : (xs : List Piece) (x : Piece) (offset : ℕ) → BeginsAt (x ∷ xs) offset → x.0 < offset → BeginsAt xs offset
begins_in xs x offset b lt = by_case b.there
  where
    by_case : (b.piece ≡ x) ⊎ Among b.piece xs → BeginsAt xs offset
    by_case (inl e) = absurd (let same : b.piece.0 ≡ x.0 = ap (λ (w : Piece). w.0) e in let at = b.at in
        omega (arith, same, at, lt))
    by_case (inr k) = record { piece = b.piece; there = k; at = b.at }

covers : (bytes : List ℕ) (from : ℕ) (xs : List Piece) → Cover bytes from xs → joined xs ≡ drop from bytes
covers bytes from [] c = by_order (nat_le (length bytes) from) refl
  where
    by_order : (b : Bool) → nat_le (length bytes) from ≡ b → [] ≡ drop from bytes
    by_order true e = sym (drop_all from bytes (let le : length bytes ≤ from = grind (arith, nat_tests) in le))
    by_order false e = absurd ((c.here (let lt : from < length bytes = grind (arith, nat_tests) in lt)).there)
covers bytes from (x ∷ xs) c =
    let is : IsPiece bytes x = c.pieces x (inl refl) in
    let below = stands_below bytes x is in
    let after_is = c.after x (inl refl) in
    let some = is.0 in
    let first = c.here (omega (arith, below, after_is)) in
    let at : x.0 ≡ from = starts first in
    let whole : drop from bytes ≡ x.1 ++ is.1.0 = ap (λ (k : ℕ). drop k bytes) (sym at) ∙ is.1.1 in
    let rest : drop (content_end x) bytes ≡ is.1.0 =
    sym (drop-drop (length x.1) x.0 bytes) ∙ (ap (drop (length x.1)) is.1.1 ∙ drop_at x.1 is.1.0 (length x.1) refl)
    in
    let more : Cover bytes (content_end x) xs = record {
      pieces = λ y k. c.pieces y (inr k);
      ordered = c.ordered.1;
      after = λ y k. c.ordered.0 y k;
      here = λ lt. begins_in xs x (content_end x) (c.next x (inl refl) lt) (omega (arith, some));
      next = λ y k lt. (let past : x.0 + length x.1 ≤ y.0 = c.ordered.0 y k in
          begins_in xs x (content_end y) (c.next y (inr k) lt) (omega (arith, past, some)));
    } in
    ap (λ (w : List ℕ). x.1 ++ w) (covers bytes (content_end x) xs more ∙ rest) ∙ sym whole
  where
    starts : BeginsAt (x ∷ xs) from → x.0 ≡ from
    starts b = by_case b.there
      where
        by_case : (b.piece ≡ x) ⊎ Among b.piece xs → x.0 ≡ from
        by_case (inl e) = sym (ap (λ (w : Piece). w.0) e) ∙ b.at
        by_case (inr k) =
            (let past : x.0 + length x.1 ≤ b.piece.0 = c.ordered.0 b.piece k in
            let at = b.at in
            let le = c.after x (inl refl) in
            omega (arith, past, at, le))

begins_order : (xs : List Piece) (offset : ℕ) → BeginsAt xs offset → BeginsAt (in_order xs) offset
begins_order xs offset b = record { piece = b.piece; there = order_among b.piece xs b.there; at = b.at }

pub pieces_join : (bytes : List ℕ) (xs : List Piece) → ((x : Piece) → Among x xs → IsPiece bytes x) → StandApart xs
    → (0 < length bytes → BeginsAt xs 0)
    → ((x : Piece) → Among x xs → content_end x < length bytes → BeginsAt xs (content_end x))
    → flat_map (λ got. got.1) (in_order xs) ≡ bytes
pieces_join bytes xs pieces apart here next =
    covers bytes 0 (in_order xs)
    (record {
      pieces = λ x h. pieces x (among_order x xs h);
      ordered = ordered_all xs (λ y k. (pieces y k).0) apart;
      after = λ x h. omega arith;
      here = λ lt. begins_order xs 0 (here lt);
      next = λ x h lt. begins_order xs (content_end x) (next x (among_order x xs h) lt);
    })

-- ---- a part of the pieces

pub filtered_apart : (test : Piece → Bool) (xs : List Piece) → StandApart xs → StandApart (filter test xs)
filtered_apart test [] apart = tt
filtered_apart test (x ∷ xs) apart = by_test (test x) (filtered_apart test xs apart.1)
  where
    by_test : (b : Bool) → StandApart (filter test xs) → StandApart (cond b (x ∷ filter test xs) (filter test xs))
    by_test true rest = (λ y h. apart.0 y (from_filter test y xs h).0, rest)
    by_test false rest = rest
