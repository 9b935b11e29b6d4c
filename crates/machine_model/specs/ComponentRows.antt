-- Worked examples of the names that paths denote, each beside a case that nearly is one.
use Rattle.std.specs.Prelude.{ℕ, ◌≡◌, true, false, List, [], ◌∷◌, codes, refl, replicate}
use Rattle.machine_model.specs.Components.{
  Name,
  components,
  is_child,
  is_long_name,
  is_within,
  last_of,
  moved_name,
  parent_of,
  text_of_name,
}

abbrev one : List ℕ → Name
one a = a ∷ []

abbrev two : List ℕ → List ℕ → Name
two a b = a ∷ b ∷ []

pub of_nothing : components [] ≡ []
unfolding components
of_nothing = refl

pub of_root : components (codes "/") ≡ []
unfolding components
of_root = refl

pub of_one : components (codes "a") ≡ one (codes "a")
unfolding components
of_one = refl

pub of_slashes : components (codes "//a///b/") ≡ two (codes "a") (codes "b")
unfolding components
of_slashes = refl

pub of_dots : components (codes "./a/./b/.") ≡ two (codes "a") (codes "b")
unfolding components
of_dots = refl

pub of_up : components (codes "x/../z") ≡ one (codes "z")
unfolding components
of_up = refl

pub of_up_above : components (codes "../../a") ≡ one (codes "a")
unfolding components
of_up_above = refl

pub of_up_twice : components (codes "a/b/c/../../d") ≡ two (codes "a") (codes "d")
unfolding components
of_up_twice = refl

-- Three dots are a component, and so is a component that begins with a dot.
pub of_more_dots : components (codes ".../.a") ≡ two (codes "...") (codes ".a")
unfolding components
of_more_dots = refl

pub of_spaces : components (codes " / ") ≡ two (codes " ") (codes " ")
unfolding components
of_spaces = refl

pub parents : parent_of (two (codes "a") (codes "b")) ≡ one (codes "a")
parents = refl

pub parent_of_root : parent_of [] ≡ []
parent_of_root = refl

pub lasts : last_of (two (codes "a") (codes "b")) ≡ codes "b"
lasts = refl

pub writes : text_of_name (two (codes "a") (codes "b")) ≡ codes "a/b"
writes = refl

pub writes_root : text_of_name [] ≡ []
writes_root = refl

pub within_itself : is_within (one (codes "a")) (one (codes "a")) ≡ true
within_itself = refl

pub within_parent : is_within (one (codes "a")) (two (codes "a") (codes "b")) ≡ true
within_parent = refl

pub within_child : is_within (two (codes "a") (codes "b")) (one (codes "a")) ≡ false
within_child = refl

-- The written name begins with the other one, and the name does not.
pub within_bytes : is_within (one (codes "a")) (one (codes "ab")) ≡ false
within_bytes = refl

pub child : is_child [] (one (codes "a")) ≡ true
child = refl

pub grandchild : is_child [] (two (codes "a") (codes "b")) ≡ false
grandchild = refl

pub no_child : is_child (one (codes "a")) (one (codes "a")) ≡ false
no_child = refl

pub other_child : is_child (one (codes "b")) (two (codes "a") (codes "b")) ≡ false
other_child = refl

pub at_limit : is_long_name (two (replicate 300 97) (replicate 255 97)) ≡ false
at_limit = refl

pub past_limit : is_long_name (one (replicate 256 97)) ≡ true
past_limit = refl

pub moves : moved_name (one (codes "a")) (two (codes "x") (codes "y")) (two (codes "a") (codes "b"))
    ≡ codes "x" ∷ codes "y" ∷ codes "b" ∷ []
moves = refl

pub moves_itself : moved_name (one (codes "a")) (one (codes "x")) (one (codes "a")) ≡ one (codes "x")
moves_itself = refl

pub moves_no_other : moved_name (one (codes "a")) (one (codes "x")) (one (codes "ab")) ≡ one (codes "ab")
moves_no_other = refl
