-- The name of an old file until the new one has its name.
use Rattle.std.proofs.Common.{◌≡◌, ◌≢◌, ◌≤◌, ◌<◌, ◌+◌, ◌-◌, ◌==◌, nat_lt, ℕ, Bool, true, false, List, [], ◌∷◌, ◌++◌, codes, length, take, drop, refl, sym, ap, ◌∙◌, subst, arith, if◌then◌else◌}
use Rattle.std.proofs.lemmas.List.{length-append, length-drop, length-take-le, take-append-drop}
use Rattle.sftp_model.specs.Paths.{slash}
use Rattle.transfer_copy.specs.Asides.{MAX_PART_LEN, aside_of, before_old, name_len_from}

-- a name has at most the bytes of the path, and those without a slash before it
pub name_bound : (len : ℕ) (path : List ℕ) → name_len_from len path ≤ len + length path
name_bound len [] = omega arith
name_bound len (b ∷ path) = by_test (b == slash) (name_bound 0 path) (name_bound (len + 1) path)
  where
    by_test : (t : Bool) → name_len_from 0 path ≤ 0 + length path → name_len_from (len + 1) path ≤ len + 1 + length path
        → name_len_from (if t then 0 else len + 1) path ≤ len + length (b ∷ path)
    by_test true anew more = omega (arith, anew)
    by_test false anew more = omega (arith, more)

name_joined : (len : ℕ) (xs ys : List ℕ) → name_len_from len (xs ++ ys) ≡ name_len_from (name_len_from len xs) ys
name_joined len [] ys = refl
name_joined len (b ∷ xs) ys = name_joined (if b == slash then 0 else len + 1) xs ys

-- where a name has more bytes than the end of its path, no slash stands in that end
name_end : (len : ℕ) (ys : List ℕ) → length ys < name_len_from len ys → name_len_from len ys ≡ len + length ys
name_end len [] long = omega arith
name_end len (b ∷ ys) long = by_test (b == slash) long (name_bound 0 ys) (name_end (len + 1) ys)
  where
    by_test : (t : Bool) → length (b ∷ ys) < name_len_from (if t then 0 else len + 1) ys
        → name_len_from 0 ys ≤ 0 + length ys
        → (length ys < name_len_from (len + 1) ys → name_len_from (len + 1) ys ≡ len + 1 + length ys)
        → name_len_from (if t then 0 else len + 1) ys ≡ len + length (b ∷ ys)
    by_test true longer few more = absurd (omega (arith, longer, few))
    by_test false longer few more = let is = more (omega (arith, longer)) in omega (arith, is)

old_len : (len : ℕ) → name_len_from len (codes ".old") ≡ len + 4
old_len len = omega arith

-- the last five bytes of a long name
name_cut : (part : List ℕ) → MAX_PART_LEN < name_len_from 0 part
    → name_len_from 0 (take (length part - 5) part) + 5 ≡ name_len_from 0 part
name_cut part long =
    let head = take (length part - 5) part in
    let end = drop (length part - 5) part in
    let bound = name_bound 0 part in
    let whole = length-drop (length part - 5) part in
    let five : length end ≡ 5 = omega (arith, bound, whole, long) in
    let joined : name_len_from 0 part ≡ name_len_from (name_len_from 0 head) end =
    ap (λ l. name_len_from 0 l) (sym (take-append-drop (length part - 5) part)) ∙ name_joined 0 head end in
    let last = name_end (name_len_from 0 head) end (omega (arith, long, joined, five)) in
    omega (arith, joined, last, five)

pub old_fits : (part : List ℕ) → name_len_from 0 part ≤ 255 → name_len_from 0 (aside_of part) ≤ 255
unfolding aside_of before_old
old_fits part fits = by_test (nat_lt MAX_PART_LEN (name_len_from 0 part)) refl
  where
    by_test : (t : Bool) → nat_lt MAX_PART_LEN (name_len_from 0 part) ≡ t
        → name_len_from 0 ((if t then take (length part - 5) part else part) ++ codes ".old") ≤ 255
    by_test true is =
        let long : MAX_PART_LEN < name_len_from 0 part = grind (arith, is) in
        let cut = name_cut part long in
        let joined = name_joined 0 (take (length part - 5) part) (codes ".old") in
        let old = old_len (name_len_from 0 (take (length part - 5) part)) in
        omega (arith, cut, joined, old, fits)
    by_test false is =
        let short : name_len_from 0 part ≤ MAX_PART_LEN = grind (arith, is) in
        let joined = name_joined 0 part (codes ".old") in
        let old = old_len (name_len_from 0 part) in
        omega (arith, joined, old, short)

-- the name aside has another length than that of the part
pub other_than_part : (part : List ℕ) → aside_of part ≢ part
unfolding aside_of before_old
other_than_part part same = by_test (nat_lt MAX_PART_LEN (name_len_from 0 part)) refl
    (ap (λ (l : List ℕ). length l) same)
  where
    by_test : (t : Bool) → nat_lt MAX_PART_LEN (name_len_from 0 part) ≡ t
        → length ((if t then take (length part - 5) part else part) ++ codes ".old") ≡ length part → ⊥
    by_test true is len =
        let long : MAX_PART_LEN < name_len_from 0 part = grind (arith, is) in
        let bound = name_bound 0 part in
        let head = length-take-le (length part - 5) part (omega arith) in
        let all = length-append (take (length part - 5) part) (codes ".old") in
        omega (arith, long, bound, head, all, len)
    by_test false is len = let all = length-append part (codes ".old") in omega (arith, all, len)

-- a name that is cut has five bytes
pub cut_within : (part : List ℕ) (len : ℕ) → len ≡ name_len_from 0 part → MAX_PART_LEN < len → 5 ≤ length part
cut_within part len is long = let bound = name_bound 0 part in omega (arith, is, long, bound)
