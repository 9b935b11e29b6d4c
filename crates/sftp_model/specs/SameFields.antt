-- Equality tests of enums: a value of an enum is a choice of a variant and of its fields, and the derived test goes by
-- these.
use Rattle.std.specs.Prelude.{List, [], ◌∷◌, ◌≡◌, ◌&&◌, Bool, false}
use Rattle.std.specs.Bool.{Decides}
use Rattle.std.proofs.Common.{ap, inl, inr}
use Rattle.sftp_values.specs.Same.{and_decides, decides_by}
use denote.Enum.Compared.{Each, by}
use denote.Enum.Declared.{Choice}
use denote.Struct.Field.{Field}
use denote.Struct.Values.{Values}

-- The test of each variant's fields decides their equality.
abbrev pub EachDecides : (variants : List (List Field)) → Each Bool variants → Type 0
EachDecides [] tests = Unit {0}
EachDecides (fields ∷ variants) tests = ((x y : Values fields) → Decides (tests.0 x y) (x ≡ y))
    × EachDecides variants tests.1

-- Two choices are equal if they are of one variant and its fields are equal.
pub choice_decides : (variants : List (List Field)) (tests : Each Bool variants) → EachDecides variants tests
    → (c d : Choice variants) → Decides (by false false variants tests c d) (c ≡ d)
choice_decides [] tests h c d = absurd c
choice_decides (fields ∷ variants) tests h (inl x) (inl y) = decides_by _ (λ e. ap inl e) (λ e. cc) (h.0 x y)
choice_decides (fields ∷ variants) tests h (inl x) (inr y) = (λ e. absurd cc, λ e. absurd cc)
choice_decides (fields ∷ variants) tests h (inr x) (inl y) = (λ e. absurd cc, λ e. absurd cc)
choice_decides (fields ∷ variants) tests h (inr x) (inr y) =
    decides_by _ (λ e. ap inr e) (λ e. cc) (choice_decides variants tests.1 h.1 x y)

-- ---- Fields

-- The last field.
pub last : {A : Type 0} (E : A → A → Bool) → ((a b : A) → Decides (E a b) (a ≡ b)) → (x y : A × Unit {0})
    → Decides (E x.0 y.0) (x ≡ y)
last E h x y = decides_by _ (λ e. λ i. (e i, tt)) (λ e. ap (λ p. p.0) e) (h x.0 y.0)

-- A field before others.
pub first : {A B : Type 0} (E : A → A → Bool) (R : B → B → Bool) → ((a b : A) → Decides (E a b) (a ≡ b))
    → ((a b : B) → Decides (R a b) (a ≡ b))
    → (x y : A × B) → Decides (E x.0 y.0 && R x.1 y.1) (x ≡ y)
first E R h k x y = decides_by _ (λ e. λ i. (e.0 i, e.1 i)) (λ e. (ap (λ p. p.0) e, ap (λ p. p.1) e))
    (and_decides _ _ (h x.0 y.0) (k x.1 y.1))
