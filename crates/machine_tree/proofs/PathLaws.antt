-- Names as paths from the root.
use Rattle.std.proofs.Common.{◌≡◌, ℕ, ◌+◌, ◌<◌, ◌≤◌, List, [], ◌∷◌, ◌++◌, length, take, drop, suc, ◌-◌, refl, ap, sym, ◌∙◌, get_or, arith}
use Rattle.std.specs.Prelude.{flat_map}
use Rattle.std.proofs.lemmas.List.{length-append, append-nil, take_all, take_more}
use Rattle.std.proofs.lemmas.Grind.{flat_map-append}
use Rattle.std.proofs.Math.Seq.{take-append_seam}
use Rattle.machine_model.specs.Components.{Name, parent_of, text_of_name}
use Rattle.machine_tree.specs.Names.{with_slash_before}

slashed_all : (part : List ℕ) (parts : List (List ℕ)) → flat_map with_slash_before (part ∷ parts)
    ≡ 47 ∷ text_of_name (part ∷ parts)
slashed_all part [] = ap (λ l. let m : List ℕ = 47 ∷ l in m) (append-nil part)
slashed_all part (next ∷ parts) = ap (λ l. let m : List ℕ = 47 ∷ part ++ l in m) (slashed_all next parts)

-- a name that isn't the root's, with a slash before each component
pub slashed_name : (name : Name) → (name ≡ [] → ⊥) → flat_map with_slash_before name ≡ 47 ∷ text_of_name name
slashed_name [] h = absurd (h refl)
slashed_name (part ∷ parts) h = slashed_all part parts

-- a name without the first slash
pub written_none : (name : Name) (text : List ℕ) → text ≡ flat_map with_slash_before name → length text < 1 → []
    ≡ text_of_name name
written_none [] text e h = refl
written_none (part ∷ parts) text e h = absurd (let l : length text ≡ suc (length (text_of_name (part ∷ parts))) =
    ap length (e ∙ slashed_all part parts) in omega (arith, h, l))

pub written_rest : (name : Name) (text : List ℕ) → text ≡ flat_map with_slash_before name
    → take (length text - 1) (drop 1 text) ≡ text_of_name name
written_rest [] text e = rw e refl
written_rest (part ∷ parts) text e = rw (e ∙ slashed_all part parts) (take_whole (text_of_name (part ∷ parts)))
  where
    take_whole : (xs : List ℕ) → take (length (47 ∷ xs) - 1) xs ≡ xs
    take_whole xs = take_all (length (47 ∷ xs) - 1) xs (omega arith)

-- ---- the parent of a name as it is written

last_split : {X : Type 0} (xs : List X) (x : X) → 1 ≤ length xs → x ≡ get_or xs (length xs - 1) x
    → take (length xs - 1) xs ++ x ∷ [] ≡ xs
last_split xs x some is =
    ap (λ w. take (length xs - 1) xs ++ w ∷ []) is
    ∙ (sym (take_more xs (length xs - 1) x (omega (arith, some)))
    ∙ take_all (length xs - 1 + 1) xs (omega (arith, some)))

pub parent_text : (name : Name) (last text : List ℕ) → text ≡ flat_map with_slash_before name → 1 ≤ length name → last
    ≡ get_or name (length name - 1) last
    → take (length text - (1 + length last)) text ≡ flat_map with_slash_before (parent_of name)
parent_text name last text e some is =
    let prefix : List ℕ = flat_map with_slash_before (parent_of name) in
    let end : List ℕ = flat_map with_slash_before (last ∷ []) in
    let whole : text ≡ prefix ++ end = e ∙ ap (flat_map with_slash_before) (sym (last_split name last some is))
    ∙ flat_map-append with_slash_before (parent_of name) (last ∷ []) in
    let len_end : length end ≡ suc (length last) = ap length (slashed_all last []) in
    let len_text : length text ≡ length prefix + length end = ap length whole ∙ length-append prefix end in
    let n : length text - (1 + length last) ≡ length prefix = omega (arith, len_end, len_text) in
    ap (λ (k : ℕ). take k text) n ∙ ap (take (length prefix)) whole ∙ take-append_seam prefix end
