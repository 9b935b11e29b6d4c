-- The directories that a path goes through.
use Rattle.std.proofs.Common.{◌≡◌, ◌∙◌, ◌++◌, ◌≤◌, ◌+◌, ◌-◌, List, ℕ, zero, suc, [], ◌∷◌, ap, arith, sym}
use Rattle.std.specs.Prelude.{length}
use Rattle.std.proofs.lemmas.List.{append-nil, append_assoc}
use Rattle.sftp_client.specs.DirPaths.{dir_at, dirs_before, dirs_of}

cut_at : (path : List ℕ) (n more : ℕ) → (rest : List (List ℕ))
    × (dirs_before path (n + more) ≡ dirs_before path n ++ rest)
cut_at path n zero =
    let same : n + 0 ≡ n = omega arith in
    ([], ap (λ (k : ℕ). dirs_before path k) same ∙ sym (append-nil (dirs_before path n)))
cut_at path n (suc more) =
    let before = cut_at path n more in
    let next : n + suc more ≡ suc (n + more) = omega arith in (
      before.0 ++ dir_at path (n + more),
      ap (λ (k : ℕ). dirs_before path k) next ∙ (ap (λ (l : List (List ℕ)). l ++ dir_at path (n + more)) before.1
          ∙ append_assoc (dirs_before path n) before.0 (dir_at path (n + more))),
    )

-- the directories before a place begin those of the path
pub dirs_cut : (path : List ℕ) (n : ℕ) → n ≤ length path
    → (rest : List (List ℕ)) × (dirs_of path ≡ dirs_before path n ++ rest)
dirs_cut path n within =
    let more = cut_at path n (length path - n) in
    let all : n + (length path - n) ≡ length path = omega arith in (
      more.0 ++ path ∷ [],
      ap (λ (k : ℕ). dirs_before path k ++ path ∷ []) (sym all)
          ∙ (ap (λ (l : List (List ℕ)). l ++ path ∷ []) more.1 ∙ append_assoc (dirs_before path n) more.0 (path ∷ [])),
    )

pub dirs_next : (path : List ℕ) (n : ℕ) → dirs_before path (n + 1) ≡ dirs_before path n ++ dir_at path n
dirs_next path n =
    let next : n + 1 ≡ suc n = omega arith in
    ap (λ (k : ℕ). dirs_before path k) next
