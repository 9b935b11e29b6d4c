-- Worked patterns, paths and filters.
use Rattle.std.specs.Prelude.{◌≡◌, true, false, [], ◌∷◌, codes, refl}
use Rattle.transfer_filter.specs.Filters.{leaves_out}
use Rattle.transfer_filter.specs.Matches.{matches_entry}
use Rattle.transfer_filter.specs.Patterns.{is_pattern}
use Rattle.transfer_filter.specs.declared.effect.Effect.TheVariants.{Exclude, Include}

-- ---- Texts that are patterns, and texts that are refused

pub a_name : is_pattern (codes "a.o") ≡ true
a_name = refl

pub stars_alone : is_pattern (codes "**") ≡ true
stars_alone = refl

pub nothing : is_pattern [] ≡ false
nothing = refl

pub a_slash_alone : is_pattern (codes "/") ≡ false
a_slash_alone = refl

pub slashes_alone : is_pattern (codes "//") ≡ false
slashes_alone = refl

pub a_set_of_bytes : is_pattern (codes "*.[ch]") ≡ false
a_set_of_bytes = refl

pub a_backslash : is_pattern (codes "a\\*") ≡ false
a_backslash = refl

pub three_stars : is_pattern (codes "a/***") ≡ false
three_stars = refl

pub two_times_two_stars : is_pattern (codes "**/a/**") ≡ true
two_times_two_stars = refl

-- ---- Where a pattern matches

-- A pattern without a slash is compared with the last component.
pub at_the_root : matches_entry (codes "a") (codes "a") false ≡ true
at_the_root = refl

pub further_down : matches_entry (codes "a") (codes "x/y/a") false ≡ true
further_down = refl

pub not_an_end_of_a_name : matches_entry (codes "a") (codes "xa") false ≡ false
not_an_end_of_a_name = refl

pub not_a_directory_of_the_path : matches_entry (codes "a") (codes "a/b") false ≡ false
not_a_directory_of_the_path = refl

-- A pattern that begins with a slash is compared with the whole path.
pub an_anchored_name : matches_entry (codes "/a") (codes "a") false ≡ true
an_anchored_name = refl

pub an_anchored_name_further_down : matches_entry (codes "/a") (codes "x/a") false ≡ false
an_anchored_name_further_down = refl

pub an_anchored_path : matches_entry (codes "/a/b/c") (codes "a/b/c") false ≡ true
an_anchored_path = refl

-- A pattern with another slash is compared with the end of the path, from a component on.
pub two_components : matches_entry (codes "a/b") (codes "x/a/b") false ≡ true
two_components = refl

pub two_components_within_a_name : matches_entry (codes "a/b") (codes "xa/b") false ≡ false
two_components_within_a_name = refl

pub two_components_are_no_three : matches_entry (codes "a/b") (codes "a/x/b") false ≡ false
two_components_are_no_three = refl

-- A pattern that ends with a slash matches directories alone.
pub a_directory : matches_entry (codes "a/") (codes "x/a") true ≡ true
a_directory = refl

pub not_a_file : matches_entry (codes "a/") (codes "x/a") false ≡ false
not_a_file = refl

pub an_anchored_directory : matches_entry (codes "/a/") (codes "a") true ≡ true
an_anchored_directory = refl

-- ---- Wildcards

pub one_byte : matches_entry (codes "a?c") (codes "abc") false ≡ true
one_byte = refl

pub no_byte : matches_entry (codes "a?c") (codes "ac") false ≡ false
no_byte = refl

pub no_slash : matches_entry (codes "a?c") (codes "a/c") false ≡ false
no_slash = refl

-- One byte is matched, and not a character of two.
pub a_byte_of_a_long_character : matches_entry (codes "?") (195 ∷ 169 ∷ []) false ≡ false
a_byte_of_a_long_character = refl

pub an_ending : matches_entry (codes "*.o") (codes "x/a.o") false ≡ true
an_ending = refl

pub a_star_that_matches_nothing : matches_entry (codes "a*") (codes "a") false ≡ true
a_star_that_matches_nothing = refl

pub a_star_stops_at_a_slash : matches_entry (codes "/a*c") (codes "ab/c") false ≡ false
a_star_stops_at_a_slash = refl

pub a_star_within_a_component : matches_entry (codes "a/*/c") (codes "a/b/c") false ≡ true
a_star_within_a_component = refl

pub a_star_within_two_components : matches_entry (codes "a/*/c") (codes "a/b/b/c") false ≡ false
a_star_within_two_components = refl

pub two_stars_pass_slashes : matches_entry (codes "/a**c") (codes "ab/b/c") false ≡ true
two_stars_pass_slashes = refl

pub two_stars_within_two_components : matches_entry (codes "a/**/c") (codes "x/a/b/b/c") false ≡ true
two_stars_within_two_components = refl

pub two_stars_want_both_slashes : matches_entry (codes "a/**/c") (codes "a/c") false ≡ false
two_stars_want_both_slashes = refl

pub two_stars_at_the_end : matches_entry (codes "a/**") (codes "a/b/c") false ≡ true
two_stars_at_the_end = refl

pub not_the_directory_itself : matches_entry (codes "a/**") (codes "a") true ≡ false
not_the_directory_itself = refl

pub two_stars_at_the_start : matches_entry (codes "**/a") (codes "x/y/a") false ≡ true
two_stars_at_the_start = refl

pub two_stars_at_the_root : matches_entry (codes "**/a") (codes "a") false ≡ true
two_stars_at_the_root = refl

pub two_stars_before_a_byte : matches_entry (codes "**a") (codes "x/ya") false ≡ true
two_stars_before_a_byte = refl

pub many_stars : matches_entry (codes "*a*a*a*b") (codes "aaaaaaaaaaaaaaaa") false ≡ false
many_stars = refl

-- ---- Filters

pub no_rule : leaves_out [] (codes "a") false ≡ false
no_rule = refl

pub no_rule_matches : leaves_out ((Exclude, codes "b") ∷ []) (codes "a") false ≡ false
no_rule_matches = refl

pub excluded : leaves_out ((Exclude, codes "*.o") ∷ []) (codes "x/a.o") false ≡ true
excluded = refl

-- The first rule that matches decides.
pub included_first : leaves_out ((Include, codes "a.o") ∷ (Exclude, codes "*.o") ∷ []) (codes "a.o") false ≡ false
included_first = refl

pub excluded_first : leaves_out ((Exclude, codes "*.o") ∷ (Include, codes "a.o") ∷ []) (codes "a.o") false ≡ true
excluded_first = refl

pub a_rule_of_directories_is_passed : leaves_out ((Include, codes "*/") ∷ (Exclude, codes "*") ∷ []) (codes "a") false
    ≡ true
a_rule_of_directories_is_passed = refl

pub directories_alone : leaves_out ((Include, codes "*/") ∷ (Exclude, codes "*") ∷ []) (codes "a") true ≡ false
directories_alone = refl
