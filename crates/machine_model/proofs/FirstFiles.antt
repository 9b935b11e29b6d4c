-- A tree that a server may begin with has each file under one name.
use Rattle.std.proofs.Common.{◌≡◌, ℕ, ◌+◌, ◌<◌, ◌≤◌, true, false, List, [], ◌∷◌, ◌++◌, length, ap, sym, ◌∙◌, arith, inl, inr}
use Rattle.std.proofs.lemmas.List.{length-map}
use Rattle.machine_model.proofs.HasLaws.{has_append}
use Rattle.machine_model.proofs.FirstTrees.{first_are_directories}
use Rattle.machine_model.specs.Changes.{IsWellFormed}
use Rattle.machine_model.specs.Components.{Name}
use Rattle.machine_model.specs.FirstTree.{FirstFile, first_directories, first_tree, may_begin, numbered_files}
use Rattle.machine_model.specs.Listing.{is_file}
use Rattle.machine_model.specs.Pairs.{HasEntry}
use Rattle.machine_model.specs.declared.node.Node.{Node}
use Rattle.machine_model.specs.declared.node.Node.TheVariants as node

-- a file's number
abbrev number : Node → ℕ
number node.Directory = 0
number (node.File file) = file

-- the number is one of those that the files have
numbers : (n : ℕ) (files : List FirstFile) (name : Name) (k : ℕ) → HasEntry (numbered_files n files) (name, node.File k)
    → (n ≤ k) × (k < n + length files)
numbers n [] name k h = absurd h
numbers n (file ∷ files) name k (inl e) = let same : n ≡ k = ap (λ (w : Name × Node). number w.1) e in
    (omega (arith, same), omega (arith, same))
numbers n (file ∷ files) name k (inr h) = let more = numbers (n + 1) files name k h in let low = more.0 in let high =
    more.1 in (omega (arith, low), omega (arith, high))

numbers_differ : (n : ℕ) (files : List FirstFile) (a b : Name) (k : ℕ)
    → HasEntry (numbered_files n files) (a, node.File k)
    → HasEntry (numbered_files n files) (b, node.File k) → a ≡ b
numbers_differ n [] a b k x y = absurd x
numbers_differ n (file ∷ files) a b k (inl x) (inl y) = sym (ap (λ (w : Name × Node). w.0) x)
    ∙ ap (λ (w : Name × Node). w.0) y
numbers_differ n (file ∷ files) a b k (inl x) (inr y) = let same : n ≡ k = ap (λ (w : Name × Node). number w.1) x in
    let more = (numbers (n + 1) files b k y).0 in absurd (omega (arith, same, more))
numbers_differ n (file ∷ files) a b k (inr x) (inl y) = let same : n ≡ k = ap (λ (w : Name × Node). number w.1) y in
    let more = (numbers (n + 1) files a k x).0 in absurd (omega (arith, same, more))
numbers_differ n (file ∷ files) a b k (inr x) (inr y) = numbers_differ (n + 1) files a b k x y

pub first_well_formed : (files : List FirstFile) (dirs : List (List ℕ)) → may_begin files dirs ≡ true
    → IsWellFormed (first_tree files dirs)
first_well_formed files dirs h = record {
  named = λ name k has. (let high = (numbers 0 files name k (file_numbered name k has)).1 in let l =
      length-map files (λ (file : FirstFile). file.1) in omega (arith, high, l));
  held = λ handle held has. absurd has;
  alone = λ a b k x y. numbers_differ 0 files a b k (file_numbered a k x) (file_numbered b k y);
}
  where
    file_numbered : (name : Name) (k : ℕ) → HasEntry (first_directories files dirs ++ numbered_files 0 files)
        (name, node.File k)
        → HasEntry (numbered_files 0 files) (name, node.File k)
    file_numbered name k has = elim (has_append (first_directories files dirs) (numbered_files 0 files)
        (name, node.File k) has) [
          | inl dir ↦ absurd (let is : node.File k ≡ node.Directory =
              first_are_directories files dirs name (node.File k) dir in let both : false ≡ true = ap is_file (sym is)
              in
              cc)
          | inr file ↦ file
        ]
