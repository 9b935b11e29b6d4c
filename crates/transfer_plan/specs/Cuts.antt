-- believed: MAX_STEM_LEN, continues_character, from_character, stem_of, dotted, part_of
-- The places at which a path is cut, and the names of part files.
use Rattle.std.specs.Prelude.{
  ◌≡◌,
  ◌≢◌,
  ◌≤◌,
  ◌==◌,
  ◌+◌,
  ◌-◌,
  ◌&&◌,
  ◌||◌,
  ℕ,
  Bool,
  true,
  false,
  not,
  nat_lt,
  List,
  [],
  ◌∷◌,
  ◌++◌,
  codes,
  drop,
  length,
  take,
  Option,
  Some,
  None,
  if◌then◌else◌,
}
use Rattle.transfer_plan.specs.Names.{MAX_NAME_LEN, is_component}
use Rattle.std.specs.List.{list_all, list_any}
use Rattle.std.specs.Str.{bytes_eq}
use Rattle.sftp_model.specs.Paths.{last_byte, slash, with_separator}

-- The path is cut after its last slash, or at its start if it has none.
pub record EndsFolder (path : List ℕ) (len : ℕ) : Type 0 where
  pub within : len ≤ length path
  pub closed : with_separator (take len path) ≡ take len path
  pub behind : list_any (λ b. b == slash) (drop len path) ≡ false

-- All slashes at the end of the path are left out, and nothing else.
pub record EndsText (path : List ℕ) (len : ℕ) : Type 0 where
  pub within : len ≤ length path
  pub text : last_byte (take len path) ≢ Some slash
  pub slashes : list_all (λ b. b == slash) (drop len path) ≡ true

-- The part after the last slash of a path, when the slashes at its end are left out. It is empty only if the path has
-- nothing but slashes.
pub record IsLastPart (path last : List ℕ) : Type 0 where
  pub folder : List ℕ
  pub slashes : List ℕ
  pub whole : path ≡ folder ++ last ++ slashes
  pub closed : with_separator folder ≡ folder
  pub filled : last ≡ [] → folder ≡ []
  pub last_one : list_any (λ b. b == slash) last ≡ false
  pub only : list_all (λ b. b == slash) slashes ≡ true

-- The last part, if it is a component.
abbrev pub NamesLast : List ℕ → Option (List ℕ) → Type 0
NamesLast path (Some last) = (is_component last ≡ true) × IsLastPart path last
NamesLast path None = (last : List ℕ) × (is_component last ≡ false) × IsLastPart path last

-- ---- Part files

-- The most bytes of a file's name in the name of its part.
abbrev pub MAX_STEM_LEN : ℕ
MAX_STEM_LEN = 232

-- True for a byte that continues a character of UTF-8: one of 128 to 191.
abbrev pub continues_character : ℕ → Bool
continues_character b = not (nat_lt b 128) && nat_lt b 192

-- The bytes without those at their start that continue a character.
abbrev pub from_character : List ℕ → List ℕ
from_character [] = []
from_character (b ∷ later) = if continues_character b then from_character later else b ∷ later

-- The bytes of a file's name that the name of its part has. These are all of them if there are at most 232, otherwise
-- the last 232, from the first whole character on.
unfoldable pub stem_of : List ℕ → List ℕ
stem_of name =
    if nat_lt MAX_STEM_LEN (length name) then from_character (drop (length name - MAX_STEM_LEN) name) else name

-- `.NAME.RUN.part`
abbrev pub dotted : List ℕ → List ℕ → List ℕ
dotted name run = codes "." ++ (name ++ (codes "." ++ (run ++ codes ".part")))

-- The path of a file's part in a run, in the directory of the file. The file's name comes after the last slash of the
-- path.
abbrev pub part_of : List ℕ → List ℕ → List ℕ
part_of [] run = dotted [] run
part_of (b ∷ path) run =
    if list_any (λ c. c == slash) (b ∷ path) then b ∷ part_of path run else dotted (stem_of (b ∷ path)) run

-- At most 255 bytes come after the last slash of the path: they are the end of `name`, or all of it.
pub record HasShortName (path : List ℕ) : Type 0 where
  pub folder : List ℕ
  pub name : List ℕ
  pub whole : path ≡ folder ++ name
  pub closed : with_separator folder ≡ folder
  pub fits : length name ≤ MAX_NAME_LEN

-- True for 0-9 and a-f.
abbrev pub is_hex_digit : ℕ → Bool
is_hex_digit b = (not (nat_lt b 48) && nat_lt b 58) || (not (nat_lt b 97) && nat_lt b 103)

-- True for the number of a run: 16 digits.
abbrev pub is_run : List ℕ → Bool
is_run run = length run == 16 && list_all is_hex_digit run

-- The bytes of an entry's name that are the number of a run, if the entry is a part of the file of this name.
abbrev pub run_in : List ℕ → List ℕ → List ℕ
run_in name entry = take 16 (drop (length name + 2) entry)

-- True if the entry is named `.NAME.RUN.part` for this NAME, which has at most 232 bytes, and RUN is the number of a
-- run.
unfoldable pub is_part_name : List ℕ → List ℕ → Bool
is_part_name name entry =
    not (nat_lt MAX_STEM_LEN (length name)) && is_run (run_in name entry)
    && bytes_eq entry (dotted name (run_in name entry))
