-- Where a path is cut.
use Rattle.std.proofs.Common.{
  Bor,
  ◌≡◌,
  ◌≢◌,
  ◌≤◌,
  ◌<◌,
  ◌-◌,
  ◌+◌,
  ◌==◌,
  ◌&&◌,
  ◌||◌,
  ℕ,
  Bool,
  true,
  false,
  not,
  nat_lt,
  List,
  [],
  ◌∷◌,
  ◌++◌,
  Option,
  Some,
  None,
  codes,
  length,
  take,
  drop,
  if◌then◌else◌,
  refl,
  sym,
  ap,
  ◌∙◌,
  subst,
  arith,
}
use Rattle.std.specs.List.{list_all, list_any}
use Rattle.std.specs.Prelude.{MatchOption}
use Rattle.std.specs.Str.{bytes_eq}
use Rattle.std.proofs.Math.Seq.{drop-append_seam, take-append_seam}
use Rattle.std.proofs.lemmas.Bool.{and_parts}
use Rattle.std.proofs.lemmas.List.{
  append_assoc,
  append_cancel_left,
  append_cancel_right,
  length-append,
  length-drop,
  take-append-drop,
  take_all,
  take_rest,
}
use Rattle.std.proofs.lemmas.Slice.Eq.{bytes_eq-Decides}
use Rattle.sftp_model.specs.Paths.{last_byte, separator_behind, slash, with_separator}
use Rattle.transfer_plan.specs.Cuts.{
  EndsFolder,
  EndsText,
  HasShortName,
  IsLastPart,
  MAX_STEM_LEN,
  continues_character,
  dotted,
  from_character,
  is_hex_digit,
  is_part_name,
  is_run,
  part_of,
  run_in,
  stem_of,
}
use Rattle.transfer_plan.proofs.PathLaws.{Last, Nothing, ending, last_is}

-- no slash stands behind this place
pub record IsBehind (path : List ℕ) (len : ℕ) : Type 0 where
  pub within : len ≤ length path
  pub behind : list_any (λ b. b == slash) (drop len path) ≡ false

-- slashes alone stand behind this place
pub record AreSlashes (path : List ℕ) (len : ℕ) : Type 0 where
  pub within : len ≤ length path
  pub slashes : list_all (λ b. b == slash) (drop len path) ≡ true

-- what is closed by a slash, and ends in none, is nothing
open_end : (front : List ℕ) (b : ℕ) (t : Bool) → (b == slash) ≡ t
    → (front ++ b ∷ []) ++ (if t then [] else slash ∷ []) ≡ front ++ b ∷ [] → b ≢ slash → ⊥
open_end front b true is closed other = other (grind (arith, is))
open_end front b false is closed other =
    let longer : length ((front ++ b ∷ []) ++ slash ∷ []) ≡ length (front ++ b ∷ []) + 1
    = length-append (front ++ b ∷ []) (slash ∷ []) in
    let same : length ((front ++ b ∷ []) ++ slash ∷ []) ≡ length (front ++ b ∷ []) = ap length closed in
    omega (arith, longer, same)

is_nothing : (text : List ℕ) → with_separator text ≡ text → last_byte text ≢ Some slash → text ≡ []
is_nothing text closed other = elim (ending text) [
  | Nothing e ↦ e
  | Last front b e ↦
      let ends : last_byte text ≡ Some b = ap last_byte e ∙ last_is front b in
      let whole : (front ++ b ∷ []) ++ separator_behind (Some b) ≡ front ++ b ∷ [] =
      subst (λ (l : List ℕ). l ++ separator_behind (Some b) ≡ l) e
      (subst (λ (last : Option ℕ). text ++ separator_behind last ≡ text) ends closed) in
      absurd (open_end front b (b == slash) refl whole (λ at. other (ends ∙ ap (λ c. Some c) at)))
]

-- what stands behind the last slash of the text
pub last_part : (path text : List ℕ) (n k : ℕ) → EndsText path n → text ≡ take n path → EndsFolder text k
    → IsLastPart path (take (length text - k) (drop k text))
last_part path text n k ends is h = subst (IsLastPart path) (sym (take_rest text k)) (record {
  folder = take k text;
  slashes = drop n path;
  whole =
      sym (ap (λ (l : List ℕ). l ++ drop n path) (take-append-drop k text) ∙ ap (λ (l : List ℕ). l ++ drop n path) is
      ∙ take-append-drop n path);
  closed = h.closed;
  filled = λ none.
      let len : length (drop k text) ≡ length text - k = length-drop k text in
      let zero : length (drop k text) ≡ 0 = ap length none in
      let all : take k text ≡ text = take_all k text (omega (arith, len, zero)) in
      let closed : with_separator text ≡ text = subst (λ (l : List ℕ). with_separator l ≡ l) all h.closed in
      let other : last_byte text ≢ Some slash = subst (λ (l : List ℕ). last_byte l ≢ Some slash) (sym is) ends.text in
      all ∙ is_nothing text closed other;
  last_one = h.behind;
  only = ends.slashes;
})

-- ---- the path of a part

-- an empty name is its own stem
no_stem : (run : List ℕ) → dotted (stem_of []) run ≡ dotted [] run
unfolding stem_of
no_stem run = refl

or_true : (a : Bool) → (a || true) ≡ true
or_true true = refl
or_true false = refl

-- what is closed by a slash and has a byte before it is closed behind that byte
closed_rest : (b : ℕ) (folder : List ℕ) → with_separator (b ∷ folder) ≡ b ∷ folder → with_separator folder ≡ folder
closed_rest b folder closed = elim (ending folder) [
  | Nothing e ↦ subst (λ (l : List ℕ). with_separator l ≡ l) (sym e) refl
  | Last front x e ↦
      let here : last_byte folder ≡ Some x = ap last_byte e ∙ last_is front x in
      let more : last_byte (b ∷ folder) ≡ Some x = ap (λ (l : List ℕ). last_byte (b ∷ l)) e ∙ last_is (b ∷ front) x in
      let whole : (b ∷ folder) ++ separator_behind (Some x) ≡ b ∷ folder =
      subst (λ (last : Option ℕ). (b ∷ folder) ++ separator_behind last ≡ b ∷ folder) more closed in
      subst (λ (last : Option ℕ). folder ++ separator_behind last ≡ folder) (sym here) (ap (drop 1) whole)
]

-- a folder's path that is closed has a slash
has_slash : (b : ℕ) (folder name : List ℕ) → with_separator (b ∷ folder) ≡ b ∷ folder
    → list_any (λ c. c == slash) (b ∷ (folder ++ name)) ≡ true
has_slash b [] name closed = by_test (b == slash) refl
  where
    by_test : (t : Bool) → (b == slash) ≡ t → ((b == slash) || list_any (λ c. c == slash) name) ≡ true
    by_test true is = rw is refl
    by_test false is =
        let long : (b ∷ []) ++ slash ∷ [] ≡ b ∷ [] =
        subst (λ (t : Bool). (b ∷ []) ++ (if t then [] else slash ∷ []) ≡ b ∷ []) is closed in
        absurd (let len : 2 ≡ 1 = ap length long in omega (arith, len))
has_slash b (c ∷ folder) name closed =
    rw (has_slash c folder name (closed_rest b (c ∷ folder) closed)) (or_true (b == slash))

by_folder : (folder name run : List ℕ) → with_separator folder ≡ folder → list_any (λ c. c == slash) name ≡ false
    → folder ++ dotted (stem_of name) run ≡ part_of (folder ++ name) run
by_folder [] [] run closed last = no_stem run
by_folder [] (b ∷ name) run closed last = rw last refl
by_folder (b ∷ folder) name run closed last =
    rw (has_slash b folder name closed) (ap (λ (l : List ℕ). b ∷ l)
    (by_folder folder name run (closed_rest b folder closed) last))

-- the path of the part beside a path that is cut behind its last slash
pub part_is : (path run : List ℕ) (len : ℕ) → EndsFolder path len
    → take len path ++ dotted (stem_of (drop len path)) run ≡ part_of path run
part_is path run len h =
    by_folder (take len path) (drop len path) run h.closed h.behind
    ∙ ap (λ (l : List ℕ). part_of l run) (take-append-drop len path)

-- ---- the length of its name

shorter_character : (bytes : List ℕ) → length (from_character bytes) ≤ length bytes
shorter_character [] = omega arith
shorter_character (b ∷ later) = by_test (continues_character b) (shorter_character later)
  where
    by_test : (t : Bool) → length (from_character later) ≤ length later
        → length (if t then from_character later else b ∷ later) ≤ length (b ∷ later)
    by_test true less = omega (arith, less)
    by_test false less = omega arith

short_stem : (name : List ℕ) → length (stem_of name) ≤ MAX_STEM_LEN
unfolding stem_of
short_stem name = by_test (nat_lt MAX_STEM_LEN (length name)) refl
  where
    by_test : (t : Bool) → nat_lt MAX_STEM_LEN (length name) ≡ t
        → length (if t then from_character (drop (length name - MAX_STEM_LEN) name) else name) ≤ MAX_STEM_LEN
    by_test true is =
        let less = shorter_character (drop (length name - MAX_STEM_LEN) name) in
        let len = length-drop (length name - MAX_STEM_LEN) name in
        let long : MAX_STEM_LEN < length name = grind (arith, is) in
        omega (arith, less, len, long)
    by_test false is = grind (arith, is)

pub short_part : (path run : List ℕ) (len : ℕ) → EndsFolder path len → length run ≤ 16
    → HasShortName (take len path ++ dotted (stem_of (drop len path)) run)
short_part path run len h short = record {
  folder = take len path;
  name = dotted (stem_of (drop len path)) run;
  whole = refl;
  closed = h.closed;
  fits =
      let stem = short_stem (drop len path) in
      let first = length-append (stem_of (drop len path)) (codes "." ++ (run ++ codes ".part")) in
      let last = length-append run (codes ".part") in
      omega (arith, stem, first, last, short);
}

-- ---- the names of parts

-- the bytes between the name and the ending
run_is : (name run : List ℕ) → length run ≡ 16 → run_in name (dotted name run) ≡ run
run_is name run len =
    let two : length (codes "." ++ (name ++ codes ".")) ≡ length name + 2 =
    let more = length-append name (codes ".") in omega (arith, more) in
    ap (λ (l : List ℕ). take 16 (drop (length name + 2) (46 ∷ l)))
    (sym (append_assoc name (codes ".") (run ++ codes ".part")))
    ∙ ap (λ (n : ℕ). take 16 (drop n ((codes "." ++ (name ++ codes ".")) ++ (run ++ codes ".part")))) (sym two)
    ∙ ap (take 16) (drop-append_seam (codes "." ++ (name ++ codes ".")) (run ++ codes ".part"))
    ∙ ap (λ (n : ℕ). take n (run ++ codes ".part")) (sym len)
    ∙ take-append_seam run (codes ".part")

-- the number is that of the name
same_run : (name run other : List ℕ) → dotted name run ≡ dotted name other → run ≡ other
same_run name run other e =
    append_cancel_right run other (codes ".part") (ap (drop 1)
    (append_cancel_left name (codes "." ++ (run ++ codes ".part")) (codes "." ++ (other ++ codes ".part"))
    (ap (drop 1) e)))

-- what a test of names says
named_parts : (name entry : List ℕ) → is_part_name name entry ≡ true
    → (run : List ℕ) × (is_run run ≡ true) × (entry ≡ dotted name run)
unfolding is_part_name
named_parts name entry is =
    let both = and_parts (not (nat_lt MAX_STEM_LEN (length name)) && is_run (run_in name entry))
    (bytes_eq entry (dotted name (run_in name entry))) is in
    let digits = and_parts (not (nat_lt MAX_STEM_LEN (length name))) (is_run (run_in name entry)) both.0 in
    (run_in name entry, digits.1, (bytes_eq-Decides entry (dotted name (run_in name entry))).0 both.1)

-- the name of a part is one
has_name : (name entry run : List ℕ) → nat_lt MAX_STEM_LEN (length name) ≡ false → entry ≡ dotted name run
    → is_run run ≡ true → is_part_name name entry ≡ true
unfolding is_part_name
has_name name entry run short is number =
    let len : length run ≡ 16 = grind (arith, (and_parts (length run == 16) (list_all is_hex_digit run) number).0) in
    let same : run_in name entry ≡ run = ap (run_in name) is ∙ run_is name run len in
    rw short (rw same (rw number ((bytes_eq-Decides entry (dotted name run)).1 is)))

-- a name of this form is a part's if the number is that of a run
pub part_named : (name entry run : List ℕ) → length name ≤ MAX_STEM_LEN → entry ≡ dotted name run
    → is_run run ≡ is_part_name name entry
part_named name entry run short is = by_test (is_run run) (is_part_name name entry) refl refl
  where
    by_test : (a b : Bool) → is_run run ≡ a → is_part_name name entry ≡ b → a ≡ b
    by_test true true x y = refl
    by_test false false x y = refl
    by_test true false x y =
        absurd (let both : true ≡ false = sym (has_name name entry run (grind (arith, short)) is x) ∙ y in cc)
    by_test false true x y =
        let h = named_parts name entry y in
        let same : run ≡ h.0 = same_run name run (h.0) (sym is ∙ h.2) in
        absurd (let both : true ≡ false = sym (h.1) ∙ ap is_run (sym same) ∙ x in cc)

-- and no other name is
pub none_named : (name entry : List ℕ) → ((run : List ℕ) → entry ≢ dotted name run) → false ≡ is_part_name name entry
none_named name entry none = by_test (is_part_name name entry) refl
  where
    by_test : (t : Bool) → is_part_name name entry ≡ t → false ≡ t
    by_test false is = refl
    by_test true is = let h = named_parts name entry is in absurd (none (h.0) (h.2))

-- a long name has no part that is recognized
pub long_named : (name entry : List ℕ) → MAX_STEM_LEN < length name → false ≡ is_part_name name entry
unfolding is_part_name
long_named name entry long = let is : nat_lt MAX_STEM_LEN (length name) ≡ true = grind (arith, long) in rw is refl

-- ---- names taken apart

pub not_dot : (name entry run : List ℕ) → ((rest : List ℕ) → entry ≢ codes "." ++ rest) → entry ≢ dotted name run
not_dot name entry run none is = none (name ++ (codes "." ++ (run ++ codes ".part"))) is

pub not_name : (name entry rest run : List ℕ) → entry ≡ codes "." ++ rest → ((more : List ℕ) → rest ≢ name ++ more)
    → entry ≢ dotted name run
not_name name entry rest run dot none is =
    none (codes "." ++ (run ++ codes ".part")) (ap (drop 1) (sym dot ∙ is))

pub not_second : (name entry rest more run : List ℕ) → entry ≡ codes "." ++ rest → rest ≡ name ++ more
    → ((last : List ℕ) → more ≢ codes "." ++ last) → entry ≢ dotted name run
not_second name entry rest more run dot named none is =
    none (run ++ codes ".part") (append_cancel_left name more (codes "." ++ (run ++ codes ".part"))
    (sym named ∙ ap (drop 1) (sym dot ∙ is)))

-- what is left at the end
pub by_ending : (name entry rest more last : List ℕ) (found : Option (Bor (List ℕ))) → entry ≡ codes "." ++ rest
    → rest ≡ name ++ more → more ≡ codes "." ++ last
    → MatchOption found ((run : List ℕ) → last ≢ run ++ codes ".part") (λ run. last ≡ run.now ++ codes ".part")
    → MatchOption found ((run : List ℕ) → entry ≢ dotted name run) (λ run. entry ≡ dotted name run.now)
by_ending name entry rest more last None dot named second none = λ run is.
    none run (append_cancel_left (codes ".") last (run ++ codes ".part")
    (sym second ∙ append_cancel_left name more (codes "." ++ (run ++ codes ".part"))
    (sym named ∙ ap (drop 1) (sym dot ∙ is))))
by_ending name entry rest more last (Some run) dot named second some =
    dot ∙ ap (λ (l : List ℕ). codes "." ++ l) (named ∙ ap (λ (l : List ℕ). name ++ l)
    (second ∙ ap (λ (l : List ℕ). codes "." ++ l) some))

-- ---- as the code writes it

pub built_part : (folder stem run : List ℕ)
    → ((((folder ++ codes ".") ++ stem) ++ codes ".") ++ run) ++ codes ".part" ≡ folder ++ dotted stem run
built_part folder stem run =
    append_assoc (((folder ++ codes ".") ++ stem) ++ codes ".") run (codes ".part")
    ∙ append_assoc ((folder ++ codes ".") ++ stem) (codes ".") (run ++ codes ".part")
    ∙ append_assoc (folder ++ codes ".") stem (codes "." ++ (run ++ codes ".part"))
    ∙ append_assoc folder (codes ".") (stem ++ (codes "." ++ (run ++ codes ".part")))
