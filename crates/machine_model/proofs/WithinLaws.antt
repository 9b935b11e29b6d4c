-- Names within others, parents, and names that move.
use Rattle.std.proofs.Common.{◌≡◌, ◌≢◌, ℕ, ◌+◌, ◌-◌, Bool, true, false, List, [], ◌∷◌, ◌++◌, length, take, drop, refl, ap, sym, ◌∙◌, subst, arith, inl, inr}
use Rattle.std.specs.Prelude.{◌⊎◌}
use Rattle.std.proofs.Math.Seq.{drop-append_seam, take-append-add, take-append_seam, take-length}
use Rattle.std.proofs.lemmas.List.{append_assoc, length-append, take_more}
use Rattle.std.proofs.lemmas.Slice.Eq.{bytes_eq-Decides, starts_is}
use Rattle.machine_model.specs.Components.{Name, is_within, last_of, moved_name, parent_of}

pub cons_not_nil : (part : List ℕ) (parts : Name) → part ∷ parts ≢ []
cons_not_nil part parts is = let l : length (part ∷ parts) ≡ 0 = ap length is in absurd (omega (arith, l))

-- ---- within

pub within_split : (old name : Name) → is_within old name ≡ true → name ≡ old ++ drop (length old) name
within_split old name e = (starts_is bytes_eq-Decides name old (is_within old name) refl).0 e

pub within_join : (old rest : Name) → is_within old (old ++ rest) ≡ true
within_join old rest = (starts_is bytes_eq-Decides (old ++ rest) old (is_within old (old ++ rest)) refl).1 rest refl

-- a name is within another one, with this rest, or it isn't
abbrev pub Lies : Name → Name → Type 0
Lies old name = ((rest : Name) × (name ≡ old ++ rest)) ⊎ (is_within old name ≡ false)

pub lies : (old name : Name) → Lies old name
lies old name = by_test (is_within old name) refl
  where
    by_test : (b : Bool) → is_within old name ≡ b → Lies old name
    by_test true e = inl (drop (length old) name, within_split old name e)
    by_test false e = inr e

-- ---- parents

pub parent_push : (name : Name) (part : List ℕ) → parent_of (name ++ part ∷ []) ≡ name
parent_push name part =
    let l = length-append name (part ∷ []) in
    ap (λ (k : ℕ). take k (name ++ part ∷ [])) (let n : length (name ++ part ∷ []) - 1 ≡ length name = omega (arith, l)
    in n) ∙ take-append_seam name (part ∷ [])

pub parent_below : (old : Name) (part : List ℕ) (rest : Name) → parent_of (old ++ part ∷ rest) ≡ old
    ++ parent_of (part ∷ rest)
parent_below old part rest =
    let l = length-append old (part ∷ rest) in
    ap (λ (k : ℕ). take k (old ++ part ∷ rest)) (let n : length (old ++ part ∷ rest) - 1 ≡ length old + length rest =
    omega (arith, l) in n) ∙ (take-append-add old (part ∷ rest) (length rest)
    ∙ ap (λ (k : ℕ). old ++ take k (part ∷ rest)) (let n : length rest ≡ length (part ∷ rest) - 1 = omega arith in
    n))

pub parent_last : (name : Name) → name ≢ [] → name ≡ parent_of name ++ last_of name ∷ []
parent_last [] ne = absurd (ne refl)
parent_last (part ∷ parts) ne =
    sym (take-length (part ∷ parts)) ∙ (ap (λ (k : ℕ). take k (part ∷ parts))
    (let n : length (part ∷ parts) ≡ length (part ∷ parts) - 1 + 1 = omega arith in n)
    ∙ take_more (part ∷ parts) (length (part ∷ parts) - 1) [] (omega arith))

-- what stands within a name has a parent within it, or is it
pub parent_within : (old name : Name) → name ≢ [] → is_within old (parent_of name) ≡ true → is_within old name ≡ true
parent_within old name ne e =
    let rest : Name = drop (length old) (parent_of name) in
    let whole : name ≡ old ++ (rest ++ last_of name ∷ []) =
    parent_last name ne ∙ (ap (λ (w : Name). w ++ last_of name ∷ []) (within_split old (parent_of name) e)
    ∙ append_assoc old rest (last_of name ∷ [])) in
    subst (λ (w : Name). is_within old w ≡ true) (sym whole) (within_join old (rest ++ last_of name ∷ []))

pub parent_outside : (old name : Name) → name ≢ [] → is_within old name ≡ false → is_within old (parent_of name) ≡ false
parent_outside old name ne e = by_test (is_within old (parent_of name)) refl
  where
    by_test : (b : Bool) → is_within old (parent_of name) ≡ b → b ≡ false
    by_test true t = absurd (let w : is_within old name ≡ true = parent_within old name ne t in let both : true
        ≡ false = sym w ∙ e in cc)
    by_test false t = refl

-- ---- moved names

pub moved_within : (old to rest : Name) → moved_name old to (old ++ rest) ≡ to ++ rest
moved_within old to rest = rw (within_join old rest, drop-append_seam old rest) refl

pub moved_outside : (old to name : Name) → is_within old name ≡ false → moved_name old to name ≡ name
moved_outside old to name e = rw e refl
