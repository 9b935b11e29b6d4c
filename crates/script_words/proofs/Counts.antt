-- Lines of another number of words than they may have.
use Rattle.std.proofs.Common.{◌≡◌, ◌≢◌, ◌∷◌, [], ℕ, List, length, refl}
use Rattle.std.specs.Prelude.{Result, Err}
use Rattle.script_words.specs.declared.reason.Reason.{Reason}
use Rattle.script_words.specs.declared.reason.Reason.TheVariants as reason
use Rattle.script_words.specs.Lines.{no_word, one_word, two_words, three_words, four_words}

pub not_none : {A : Type 0} (x : A) (words : List (List ℕ)) → length words ≢ 0 → no_word x words ≡ Err reason.Count
not_none x [] more = absurd (more refl)
not_none x (a ∷ words) more = refl

pub not_one : {A : Type 0} (f : List ℕ → Result A Reason) (words : List (List ℕ)) → length words ≢ 1 → one_word f words
    ≡ Err reason.Count
not_one f [] other = refl
not_one f (a ∷ []) other = absurd (other refl)
not_one f (a ∷ b ∷ words) other = refl

pub not_two : {A : Type 0} (f : List ℕ → List ℕ → Result A Reason) (words : List (List ℕ)) → length words ≢ 2
    → two_words f words ≡ Err reason.Count
not_two f [] other = refl
not_two f (a ∷ []) other = refl
not_two f (a ∷ b ∷ []) other = absurd (other refl)
not_two f (a ∷ b ∷ c ∷ words) other = refl

pub not_three : {A : Type 0} (f : List ℕ → List ℕ → List ℕ → Result A Reason) (words : List (List ℕ)) → length words ≢ 3
    → three_words f words ≡ Err reason.Count
not_three f [] other = refl
not_three f (a ∷ []) other = refl
not_three f (a ∷ b ∷ []) other = refl
not_three f (a ∷ b ∷ c ∷ []) other = absurd (other refl)
not_three f (a ∷ b ∷ c ∷ d ∷ words) other = refl

pub not_four : {A : Type 0} (f : List ℕ → List ℕ → List ℕ → List ℕ → Result A Reason) (words : List (List ℕ))
    → length words ≢ 4 → four_words f words ≡ Err reason.Count
not_four f [] other = refl
not_four f (a ∷ []) other = refl
not_four f (a ∷ b ∷ []) other = refl
not_four f (a ∷ b ∷ c ∷ []) other = refl
not_four f (a ∷ b ∷ c ∷ d ∷ []) other = absurd (other refl)
not_four f (a ∷ b ∷ c ∷ d ∷ e ∷ words) other = refl
