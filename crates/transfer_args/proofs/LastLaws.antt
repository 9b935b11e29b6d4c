-- The last of some words.
use Rattle.std.proofs.Common.{◌≡◌, ◌<◌, ℕ, List, [], ◌∷◌, ◌++◌, Some, length, map, refl, ap, ◌∙◌, arith}
use Rattle.std.specs.Option.{option_map}
use Rattle.std.proofs.lemmas.List.{map-append}
use Rattle.transfer_args.specs.Words.{Copies, copy_of, copy_to, split_last}
use Rattle.transfer_args.specs.declared.asked.Direction.{Direction}
use Rattle.transfer_args.specs.declared.options.Options.{Options}

split_snoc : (words : List (List ℕ)) (word : List ℕ) → split_last (words ++ word ∷ []) ≡ Some (words, word)
split_snoc [] word = refl
split_snoc (first ∷ []) word = refl
split_snoc (first ∷ next ∷ words) word = ap (option_map (λ s. (first ∷ s.0, s.1))) (split_snoc (next ∷ words) word)

copied_some : {A : Type 0} (way : Direction) (o : Options) (f : A → List ℕ) (sources : List A) (target : List ℕ)
    → 0 < length sources → copy_to way o (Some (map f sources, target)) ≡ Some (Copies way o (map f sources) target)
copied_some way o f [] target some = absurd (omega (arith, some))
copied_some way o f (source ∷ sources) target some = refl

-- The words before the last one are copied to it.
pub copied_to : {A : Type 0} (way : Direction) (o : Options) (f : A → List ℕ) (all sources : List A) (target : A)
    → all ≡ sources ++ target ∷ [] → 0 < length sources
    → copy_of way o (map f all) ≡ Some (Copies way o (map f sources) (f target))
copied_to {A = A} way o f all sources target last some =
    ap (λ (l : List A). copy_of way o (map f l)) last
    ∙ ap (copy_of way o) (map-append f sources (target ∷ []))
    ∙ ap (copy_to way o) (split_snoc (map f sources) (f target))
    ∙ copied_some way o f sources (f target) some

-- One more word at the end.
pub map_push : {A : Type 0} (f : A → List ℕ) (words : List A) (word : A)
    → map f (words ++ word ∷ []) ≡ map f words ++ f word ∷ []
map_push f words word = map-append f words (word ∷ [])
