-- The rows of texts.
use Rattle.std.proofs.Common.{
  ◌≡◌,
  ◌≤◌,
  ◌<◌,
  ◌+◌,
  ◌-◌,
  ◌≢◌,
  ◌==◌,
  ◌&&◌,
  ◌||◌,
  ℕ,
  Bool,
  true,
  false,
  not,
  List,
  [],
  ◌∷◌,
  ◌++◌,
  codes,
  drop,
  take,
  length,
  set,
  get_or,
  if◌then◌else◌,
  refl,
  sym,
  ap,
  ◌∙◌,
  subst,
  arith,
  inl,
  inr,
}
use Rattle.std.proofs.lemmas.Bool.{cases_eq}
use Rattle.std.proofs.lemmas.List.{
  drop-drop,
  drop_more,
  get_or-drop,
  get_or-set_other,
  get_or-set_same,
  length-drop,
  length-set,
  take_rest,
}
use Rattle.transfer_filter.specs.Matches.{
  AnyByte,
  Literal,
  Star,
  Token,
  TwoStars,
  is_question_mark,
  is_rooted,
  is_star,
  matches_path,
  matches_text,
  rooted_pattern,
  tokens_of,
}
use Rattle.transfer_filter.specs.Patterns.{is_slash}
use Rattle.transfer_filter.specs.Rows.{IsRow, cell_of, starts_with_star}

-- ---- One byte of a pattern before the rest

-- the empty text
none_by_one : (s q : Bool) (b : ℕ) (later : List Token)
    → (s && matches_text later []) ≡ matches_text ((if s then Star else if q then AnyByte else Literal b) ∷ later) []
none_by_one true q b later = refl
none_by_one false true b later = refl
none_by_one false false b later = refl

none_by_two : (s q t : Bool) (b : ℕ) (later rest : List Token)
    → (t ≡ true → matches_text later [] ≡ matches_text rest [])
    → (s && matches_text later [])
    ≡ matches_text (if s && t then TwoStars ∷ rest else (if s then Star else if q then AnyByte else Literal b) ∷ later)
    []
none_by_two true q true b later rest same = same refl
none_by_two true q false b later rest same = refl
none_by_two false q t b later rest same = none_by_one false q b later

pub none_more : (b : ℕ) (rest : List ℕ) → (is_star b && matches_text (tokens_of rest) [])
    ≡ matches_text (tokens_of (b ∷ rest)) []
none_more b [] = none_by_one (is_star b) (is_question_mark b) b []
none_more b (c ∷ rest) =
    none_by_two (is_star b) (is_question_mark b) (is_star c) b (tokens_of (c ∷ rest)) (tokens_of rest)
    (λ e. sym (none_more c rest) ∙ ap (λ t. t && matches_text (tokens_of rest) []) e)

-- a byte and then a text
cell_by_one : (s q : Bool) (b byte : ℕ) (later : List Token) (text : List ℕ) (first here after : Bool)
    → here ≡ matches_text ((if s then Star else if q then AnyByte else Literal b) ∷ later) text → after
    ≡ matches_text later text
    → first ≡ matches_text later (byte ∷ text)
    → (if s then first || (not (is_slash byte) && here)
    else if q then not (is_slash byte) && after
    else (byte == b) && after)
    ≡ matches_text ((if s then Star else if q then AnyByte else Literal b) ∷ later) (byte ∷ text)
cell_by_one true q b byte later text first here after h a f = λ i. f i || (not (is_slash byte) && h i)
cell_by_one false true b byte later text first here after h a f = λ i. not (is_slash byte) && a i
cell_by_one false false b byte later text first here after h a f = λ i. (byte == b) && a i

cell_by_two : (s t q : Bool) (b byte : ℕ) (later rest : List Token) (text : List ℕ) (first second here after : Bool)
    → here ≡ matches_text (if s && t then TwoStars ∷ rest else
    (if s then Star else if q then AnyByte else Literal b) ∷ later)
    text → after ≡ matches_text later text → first ≡ matches_text later (byte ∷ text)
    → (t ≡ true → second ≡ matches_text rest (byte ∷ text))
    → (if s then (if t then second || here else first || (not (is_slash byte) && here))
    else if q then not (is_slash byte) && after
    else (byte == b) && after)
    ≡ matches_text (if s && t then TwoStars ∷ rest else (if s then Star else if q then AnyByte else Literal b) ∷ later)
    (byte ∷ text)
cell_by_two true true q b byte later rest text first second here after h a f e = λ i. e refl i || h i
cell_by_two true false q b byte later rest text first second here after h a f e =
    cell_by_one true q b byte later text first here after h a f
cell_by_two false t q b byte later rest text first second here after h a f e =
    cell_by_one false q b byte later text first here after h a f

cell_is : (b byte : ℕ) (rest : List ℕ) (text : List ℕ) (later : List Bool) (here after : Bool)
    → here ≡ matches_text (tokens_of (b ∷ rest)) text → after ≡ matches_text (tokens_of rest) text
    → get_or later 0 false ≡ matches_text (tokens_of rest) (byte ∷ text)
    → (starts_with_star rest ≡ true → get_or later 1 false ≡ matches_text (tokens_of (drop 1 rest)) (byte ∷ text))
    → cell_of (b ∷ rest) later here after byte ≡ matches_text (tokens_of (b ∷ rest)) (byte ∷ text)
cell_is b byte [] text later here after h a f e =
    cell_by_one (is_star b) (is_question_mark b) b byte [] text (get_or later 0 false) here after h a f
cell_is b byte (c ∷ rest) text later here after h a f e =
    cell_by_two (is_star b) (is_star c) (is_question_mark b) b byte (tokens_of (c ∷ rest)) (tokens_of rest) text
    (get_or later 0 false) (get_or later 1 false) here after h a f e

-- ---- A row that is computed from its end

-- the cells from a place on are those of the longer text, and those before it are not changed yet
pub record HasRowFrom (glob : List ℕ) (start row : List Bool) (byte : ℕ) (carried : Bool) (at : ℕ) : Type 0 where
  pub within : at ≤ length glob
  pub same_len : length row ≡ length start
  pub before : (k : ℕ) → k < at → get_or row k false ≡ get_or start k false
  pub after : (text : List ℕ) → IsRow glob start text → carried ≡ matches_text (tokens_of (drop at glob)) text
  pub done : (text : List ℕ) → IsRow glob start text → (k : ℕ) → at ≤ k → k ≤ length glob
      → get_or row k false ≡ matches_text (tokens_of (drop k glob)) (byte ∷ text)

has_star : (bytes : List ℕ) → starts_with_star bytes ≡ true → 0 < length bytes
has_star [] e = absurd cc
has_star (b ∷ bytes) e = omega arith

-- the cell at a place, by those after it
cell_at : (glob : List ℕ) (start row : List Bool) (byte : ℕ) (carried : Bool) (n : ℕ) → n < length glob
    → HasRowFrom glob start row byte carried (n + 1) → (text : List ℕ) → IsRow glob start text
    → cell_of (drop n glob) (drop (n + 1) row) (get_or row n false) carried byte
    ≡ matches_text (tokens_of (drop n glob)) (byte ∷ text)
cell_at glob start row byte carried n less h text is =
    let split : drop n glob ≡ get_or glob n 0 ∷ drop (n + 1) glob = drop_more glob n 0 less in
    let here : get_or row n false ≡ matches_text (tokens_of (drop n glob)) text =
    h.before n (omega arith) ∙ is n (omega (arith, less)) in
    let first : get_or (drop (n + 1) row) 0 false ≡ get_or row (n + 1) false =
    get_or-drop (n + 1) row 0 false
    ∙ ap (λ (m : ℕ). get_or row m false) (let same : n + 1 + 0 ≡ n + 1 = omega arith in same) in
    let second : get_or (drop (n + 1) row) 1 false ≡ get_or row (n + 1 + 1) false = get_or-drop (n + 1) row 1 false in
    subst (λ (rest : List ℕ). cell_of rest (drop (n + 1) row) (get_or row n false) carried byte
    ≡ matches_text (tokens_of rest) (byte ∷ text)) (sym split)
    (cell_is (get_or glob n 0) byte (drop (n + 1) glob) text (drop (n + 1) row) (get_or row n false) carried
    (here ∙ ap (λ (rest : List ℕ). matches_text (tokens_of rest) text) split) (h.after text is)
    (first ∙ h.done text is (n + 1) (omega arith) (omega (arith, less)))
    (λ star.
    let some : 0 < length (drop (n + 1) glob) = has_star (drop (n + 1) glob) star in
    let len = length-drop (n + 1) glob in
    second
    ∙ h.done text is (n + 1 + 1) (omega arith) (omega (arith, some, len))
    ∙ ap (λ (rest : List ℕ). matches_text (tokens_of rest) (byte ∷ text)) (sym (drop-drop 1 (n + 1) glob))))

-- one more cell, which the code computes from the ends of two slices
pub stepped : (glob : List ℕ) (start row : List Bool) (byte : ℕ) (carried v : Bool) (at n : ℕ) → at ≡ n + 1
    → length glob < length start → HasRowFrom glob start row byte carried at
    → v ≡ cell_of (take (length glob - n) (drop n glob)) (take (length row - (n + 1)) (drop (n + 1) row))
    (get_or row n false) carried byte
    → HasRowFrom glob start (set row n v) byte (get_or row n false) n
stepped glob start row byte carried v at n next room was e =
    let h : HasRowFrom glob start row byte carried (n + 1) =
    subst (λ (m : ℕ). HasRowFrom glob start row byte carried m) next was in
    let within : n + 1 ≤ length glob = h.within in
    let less : n < length glob = omega (arith, within) in
    let same : length row ≡ length start = h.same_len in
    let inside : n < length row = omega (arith, less, same, room) in
    record {
      within = omega (arith, within);
      same_len = length-set row n v ∙ same;
      before = λ k below.
          let other : k ≢ n = omega (arith, below) in
          get_or-set_other row n k v false other ∙ h.before k (omega (arith, below));
      after = λ text is. h.before n (omega arith) ∙ is n (omega (arith, less));
      done = λ text is k from to. elim (cases_eq k n) [
        | inl at_place ↦
            subst (λ (m : ℕ). get_or (set row n v) m false ≡ matches_text (tokens_of (drop m glob)) (byte ∷ text))
            (sym at_place)
            (get_or-set_same row n v false inside
            ∙ e
            ∙ (λ i. cell_of (take_rest glob n i) (take_rest row (n + 1) i) (get_or row n false) carried byte)
            ∙ cell_at glob start row byte carried n less h text is)
        | inr other ↦
            get_or-set_other row n k v false other
            ∙ h.done text is k (omega (arith, from, other)) to
      ];
    }

-- ---- The row of the empty text, computed from its end

pub starred : (b : ℕ) (next v : Bool) → b ≡ 42 → v ≡ next → v ≡ (is_star b && next)
starred b next v is e = let yes : (b == 42) ≡ true = grind (arith, is) in rw yes e

pub unstarred : (b : ℕ) (next v : Bool) → b ≢ 42 → v ≡ is_star b → v ≡ (is_star b && next)
unstarred b next v other e = let no : (b == 42) ≡ false = grind (arith, other) in e ∙ rw no refl

pub none_stepped : (glob : List ℕ) (row : List Bool) (v : Bool) (at n : ℕ) → at ≡ n + 1 → at ≤ length glob
    → length glob < length row
    → ((k : ℕ) → at ≤ k → k ≤ length glob → get_or row k false ≡ matches_text (tokens_of (drop k glob)) [])
    → v ≡ (is_star (get_or glob n 0) && get_or row at false) → (k : ℕ) → n ≤ k → k ≤ length glob
    → get_or (set row n v) k false ≡ matches_text (tokens_of (drop k glob)) []
none_stepped glob row v at n next within room done e k from to = elim (cases_eq k n) [
  | inl at_place ↦
      let split : drop n glob ≡ get_or glob n 0 ∷ drop at glob =
      drop_more glob n 0 (omega (arith, next, within))
      ∙ ap (λ (m : ℕ). get_or glob n 0 ∷ drop m glob) (sym next) in
      subst (λ (m : ℕ). get_or (set row n v) m false ≡ matches_text (tokens_of (drop m glob)) []) (sym at_place)
      (get_or-set_same row n v false (omega (arith, next, within, room))
      ∙ e
      ∙ ap (λ b. is_star (get_or glob n 0) && b) (done at (omega arith) within)
      ∙ none_more (get_or glob n 0) (drop at glob)
      ∙ ap (λ (rest : List ℕ). matches_text (tokens_of rest) []) (sym split))
  | inr other ↦
      get_or-set_other row n k v false other ∙ done k (omega (arith, from, other, next)) to
]

-- ---- A whole path

-- the tokens of a pattern that matches after any slash
with_slash : (glob : List ℕ) → tokens_of (codes "/" ++ glob) ≡ Literal 47 ∷ tokens_of glob
with_slash [] = refl
with_slash (b ∷ glob) = refl

loose_tokens : (glob : List ℕ) → is_rooted glob ≡ false
    → TwoStars ∷ Literal 47 ∷ tokens_of glob ≡ tokens_of (rooted_pattern glob)
loose_tokens glob e =
    ap (λ tokens. TwoStars ∷ tokens) (sym (with_slash glob))
    ∙ ap (λ b. tokens_of (if b then glob else codes "**/" ++ glob)) (sym e)

pub rooted_end : (glob path : List ℕ) (row : List Bool) → is_rooted glob ≡ true → IsRow glob row (47 ∷ path)
    → get_or row 0 false ≡ matches_path glob path
rooted_end glob path row e is =
    is 0 (omega arith)
    ∙ ap (λ b. matches_text (tokens_of (if b then glob else codes "**/" ++ glob)) (codes "/" ++ path)) (sym e)

-- after the first slash or after a later one
loose_end : (glob path : List ℕ) (row : List Bool) (at : ℕ) (found : Bool) → at ≤ 0 → is_rooted glob ≡ false
    → IsRow glob row (drop at path) → found ≡ matches_text (TwoStars ∷ Literal 47 ∷ tokens_of glob) (drop at path)
    → (get_or row 0 false || found) ≡ matches_path glob path
loose_end glob path row at found none e is f =
    let zero : at ≡ 0 = omega (arith, none) in
    let all : drop at path ≡ path = ap (λ (n : ℕ). drop n path) zero in
    (λ i. is 0 (omega arith) i || f i)
    ∙ ap (λ (text : List ℕ). matches_text (tokens_of glob) text
    || matches_text (TwoStars ∷ Literal 47 ∷ tokens_of glob) text) all
    ∙ ap (λ (tokens : List Token). matches_text tokens (codes "/" ++ path)) (loose_tokens glob e)

pub loose_here : (glob path : List ℕ) (row : List Bool) (at : ℕ) (found : Bool) → at ≤ 0 → is_rooted glob ≡ false
    → IsRow glob row (drop at path) → found ≡ matches_text (TwoStars ∷ Literal 47 ∷ tokens_of glob) (drop at path)
    → get_or row 0 false ≡ true → get_or row 0 false ≡ matches_path glob path
loose_here glob path row at found none e is f here =
    here ∙ ap (λ b. b || found) (sym here) ∙ loose_end glob path row at found none e is f

pub loose_later : (glob path : List ℕ) (row : List Bool) (at : ℕ) (found : Bool) → at ≤ 0 → is_rooted glob ≡ false
    → IsRow glob row (drop at path) → found ≡ matches_text (TwoStars ∷ Literal 47 ∷ tokens_of glob) (drop at path)
    → get_or row 0 false ≡ false → found ≡ matches_path glob path
loose_later glob path row at found none e is f other =
    ap (λ b. b || found) (sym other) ∙ loose_end glob path row at found none e is f
