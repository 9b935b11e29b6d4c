-- Worked names and paths.
use Rattle.std.specs.Prelude.{◌≡◌, true, false, ℕ, List, [], ◌∷◌, ◌++◌, codes, replicate, refl}
use Rattle.machine_model.specs.Components.{components}
use Rattle.transfer_plan.specs.Cuts.{is_part_name, part_of, stem_of}
use Rattle.transfer_plan.specs.Names.{is_component, path_in}

-- ---- Accepted names

pub plain : is_component (codes "hosts") ≡ true
unfolding is_component
plain = refl

pub hidden : is_component (codes ".profile") ≡ true
unfolding is_component
hidden = refl

pub three_dots : is_component (codes "...") ≡ true
unfolding is_component
three_dots = refl

-- A space, a line end and a byte beyond ASCII are accepted.
pub odd_bytes : is_component (32 ∷ 10 ∷ 255 ∷ []) ≡ true
unfolding is_component
odd_bytes = refl

-- ---- Refused names

pub empty : is_component [] ≡ false
unfolding is_component
empty = refl

pub itself : is_component (codes ".") ≡ false
unfolding is_component
itself = refl

pub above : is_component (codes "..") ≡ false
unfolding is_component
above = refl

pub leads_up : is_component (codes "../x") ≡ false
unfolding is_component
leads_up = refl

pub absolute : is_component (codes "/etc/passwd") ≡ false
unfolding is_component
absolute = refl

pub leads_down : is_component (codes "a/b") ≡ false
unfolding is_component
leads_down = refl

pub slash_alone : is_component (codes "/") ≡ false
unfolding is_component
slash_alone = refl

pub zero_byte : is_component (97 ∷ 0 ∷ []) ≡ false
unfolding is_component
zero_byte = refl

-- ---- Paths

pub in_folder : path_in (codes "a/b") (codes "c") ≡ codes "a/b/c"
in_folder = refl

pub in_root : path_in (codes "/") (codes "c") ≡ codes "/c"
in_root = refl

pub in_none : path_in [] (codes "c") ≡ codes "c"
in_none = refl

-- A name that is no component would lead out of the directory.
pub would_lead_out : components (path_in (codes "a/b") (codes "../c")) ≡ codes "a" ∷ codes "c" ∷ []
unfolding components
would_lead_out = refl

-- ---- The path of a part, in which a file is written until all its bytes are there

abbrev run : List ℕ
run = codes "00c0ffee12345678"

pub part_beside : part_of (codes "a/b") run ≡ codes "a/.b.00c0ffee12345678.part"
unfolding stem_of
part_beside = refl

pub part_at_the_root : part_of (codes "/b") run ≡ codes "/.b.00c0ffee12345678.part"
unfolding stem_of
part_at_the_root = refl

pub part_here : part_of (codes "b") run ≡ codes ".b.00c0ffee12345678.part"
unfolding stem_of
part_here = refl

-- A name of 232 bytes is used as a whole, and its part has a name of 255.
pub whole_name : part_of (codes "a/" ++ replicate 232 120) run
    ≡ codes "a/." ++ (replicate 232 120 ++ codes ".00c0ffee12345678.part")
unfolding stem_of
whole_name = refl

-- Of a name of 233 bytes, or of 255, the last 232 are used.
pub name_of_233 : part_of (codes "a/b" ++ replicate 232 120) run
    ≡ codes "a/." ++ (replicate 232 120 ++ codes ".00c0ffee12345678.part")
unfolding stem_of
name_of_233 = refl

pub name_of_255 : part_of (codes "a/" ++ (replicate 23 98 ++ replicate 232 120)) run
    ≡ codes "a/." ++ (replicate 232 120 ++ codes ".00c0ffee12345678.part")
unfolding stem_of
name_of_255 = refl

-- The two bytes 195 and 169 are one character. It is not cut: the part has none of it.
pub name_with_character : part_of (codes "a/" ++ (195 ∷ 169 ∷ replicate 231 120)) run
    ≡ codes "a/." ++ (replicate 231 120 ++ codes ".00c0ffee12345678.part")
unfolding stem_of
name_with_character = refl

-- ---- The names of parts

pub own_part : is_part_name (codes "b") (codes ".b.00c0ffee12345678.part") ≡ true
unfolding is_part_name
own_part = refl

-- A name may have dots, also those of a part.
pub part_of_part :
    is_part_name (codes ".b.00c0ffee12345678.part") (codes "..b.00c0ffee12345678.part.0123456789abcdef.part") ≡ true
unfolding is_part_name
part_of_part = refl

pub of_another : is_part_name (codes "c") (codes ".b.00c0ffee12345678.part") ≡ false
unfolding is_part_name
of_another = refl

pub without_run : is_part_name (codes "b") (codes ".b.part") ≡ false
unfolding is_part_name
without_run = refl

pub short_run : is_part_name (codes "b") (codes ".b.0c0ffee12345678.part") ≡ false
unfolding is_part_name
short_run = refl

pub long_run : is_part_name (codes "b") (codes ".b.000c0ffee12345678.part") ≡ false
unfolding is_part_name
long_run = refl

-- Capital letters are no digits.
pub capital_run : is_part_name (codes "b") (codes ".b.00C0FFEE12345678.part") ≡ false
unfolding is_part_name
capital_run = refl

pub longer_ending : is_part_name (codes "b") (codes ".b.00c0ffee12345678.parts") ≡ false
unfolding is_part_name
longer_ending = refl

-- The part of a name with more than 232 bytes is not recognized, and would not be if it had all of them.
pub of_cut_name : is_part_name (98 ∷ replicate 232 120)
    (codes "." ++ (replicate 232 120 ++ codes ".00c0ffee12345678.part")) ≡ false
unfolding is_part_name
of_cut_name = refl

pub of_long_name : is_part_name (replicate 233 120)
    (codes "." ++ (replicate 233 120 ++ codes ".00c0ffee12345678.part")) ≡ false
unfolding is_part_name
of_long_name = refl
