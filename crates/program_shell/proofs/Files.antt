-- The lines of a server's files and directories, up to one of them.
use Rattle.std.proofs.Common.{
  ◌≡◌,
  ◌<◌,
  ◌≤◌,
  ℕ,
  zero,
  suc,
  get_or,
  append-nil,
  ◌+◌,
  Bool,
  true,
  false,
  List,
  [],
  ◌∷◌,
  ◌++◌,
  filter,
  length,
  take,
  refl,
  ap,
  sym,
  ◌∙◌,
  append_assoc,
  arith,
  if◌then◌else◌,
  add-one,
}
use Rattle.std.specs.Prelude.{Option}
use Rattle.std.specs.List.{flat_map}
use Rattle.std.specs.Option.{option_map}
use Rattle.std.proofs.lemmas.Option.{slice_get-get_or}
use Rattle.std.proofs.Math.Seq.{take-suc, take-length}
use Rattle.std.proofs.lemmas.Grind.{flat_map-append}
use Rattle.machine_model.specs.Components.{Name, text_of_name}
use Rattle.machine_model.specs.FileTree.{FileTree}
use Rattle.machine_model.specs.Listing.{dir_at, file_at, has_directory, has_file, in_name_order, node_bytes, placed_name}
use Rattle.machine_model.specs.NameRequests.{is_before}
use Rattle.machine_model.specs.declared.node.Node.{Node}
use Rattle.machine_model.specs.declared.node.Node.TheVariants as node
use Rattle.script_text.specs.Texts.{dir_lines, dir_text, file_lines, file_text}
use Rattle.program_shell.specs.Texts.{dir_text_of, file_text_of}

-- the first k lines
abbrev lines_below : (ℕ → List ℕ) → ℕ → List ℕ
lines_below line zero = []
lines_below line (suc k) = lines_below line k ++ line k

-- the lines of the first k files
abbrev pub file_lines_below : FileTree → ℕ → List ℕ
file_lines_below tree k = lines_below (λ i. file_text_of (file_at tree i)) k

-- and of the first k directories
abbrev pub dir_lines_below : FileTree → ℕ → List ℕ
dir_lines_below tree k = lines_below (λ i. dir_text_of (dir_at tree i)) k

-- one line more
line_step : (old mid new : List ℕ) (line : ℕ → List ℕ) (k : ℕ) → mid ≡ old ++ lines_below line k → new ≡ mid ++ line k
    → new ≡ old ++ lines_below line (k + 1)
line_step old mid new line k h n = rw (add-one k) (n ∙ ap (λ (l : List ℕ). l ++ line k) h
    ∙ append_assoc old (lines_below line k) (line k))

pub file_step : (old mid new : List ℕ) (tree : FileTree) (k : ℕ) → mid ≡ old ++ file_lines_below tree k → new ≡ mid
    ++ file_text_of (file_at tree k) → new ≡ old ++ file_lines_below tree (k + 1)
file_step old mid new tree k h n = line_step old mid new (λ i. file_text_of (file_at tree i)) k h n

pub dir_step : (old mid new : List ℕ) (tree : FileTree) (k : ℕ) → mid ≡ old ++ dir_lines_below tree k → new ≡ mid
    ++ dir_text_of (dir_at tree k) → new ≡ old ++ dir_lines_below tree (k + 1)
dir_step old mid new tree k h n = line_step old mid new (λ i. dir_text_of (dir_at tree i)) k h n

-- ---- all of them

abbrev pub Pair : Type 0
Pair = Name × Node

pub nowhere : Pair
nowhere = ([], node.Directory)

below_is : (xs : List Pair) (line : ℕ → List ℕ) (text : Pair → List ℕ) (k : ℕ)
    → ((i : ℕ) → i < length xs → line i ≡ text (get_or xs i nowhere)) → k ≤ length xs → lines_below line k
    ≡ flat_map text (take k xs)
below_is xs line text zero each le = refl
below_is xs line text (suc k) each le =
    let lt : k < length xs = omega (arith, le) in
    let x : Pair = get_or xs k nowhere in
    ap (λ (l : List ℕ). l ++ line k) (below_is xs line text k each (omega (arith, le)))
    ∙ ap (λ (l : List ℕ). flat_map text (take k xs) ++ l) (each k lt ∙ sym (append-nil (text x)))
    ∙ sym (flat_map-append text (take k xs) (x ∷ []))
    ∙ ap (λ (l : List Pair). flat_map text l) (sym (take-suc xs k nowhere lt))

all_lines : (xs : List Pair) (line : ℕ → List ℕ) (text : Pair → List ℕ) (n : ℕ)
    → ((i : ℕ) → i < length xs → line i ≡ text (get_or xs i nowhere)) → n ≡ length xs → lines_below line n
    ≡ flat_map text xs
all_lines xs line text n each is =
    below_is xs line text n each (omega (arith, is)) ∙ ap (λ (l : List Pair). flat_map text l)
    (ap (λ (k : ℕ). take k xs) is ∙ take-length xs)

-- as many pass in the order of names as in any
counted_by : (test : Pair → Bool) (b : Bool) (pair other : Pair) (pairs : List Pair)
    → length (filter test (placed_name pair pairs)) ≡ length (filter test (pair ∷ pairs))
    → length (filter test (if b then other ∷ placed_name pair pairs else pair ∷ other ∷ pairs))
    ≡ length (filter test (pair ∷ other ∷ pairs))
counted_by test false pair other pairs h = refl
counted_by test true pair other pairs h = by_tests (test pair) (test other) (placed_name pair pairs) h
  where
    by_tests : (a b : Bool) (placed : List Pair) → length (filter test placed)
        ≡ length (if a then pair ∷ filter test pairs else filter test pairs)
        → length (if b then other ∷ filter test placed else filter test placed)
        ≡ length (if a then pair ∷ (if b then other ∷ filter test pairs else filter test pairs) else
        (if b then other ∷ filter test pairs else filter test pairs))
    by_tests true true placed h = ap suc h
    by_tests true false placed h = h
    by_tests false true placed h = ap suc h
    by_tests false false placed h = h

counted_in : (test : Pair → Bool) (pair : Pair) (pairs : List Pair) → length (filter test (placed_name pair pairs))
    ≡ length (filter test (pair ∷ pairs))
counted_in test pair [] = refl
counted_in test pair (other ∷ pairs) = counted_by test (is_before (text_of_name other.0) (text_of_name pair.0)) pair
    other pairs (counted_in test pair pairs)

one_more : (test : Pair → Bool) (pair : Pair) (xs ys : List Pair) → length (filter test xs) ≡ length (filter test ys)
    → length (filter test (pair ∷ xs)) ≡ length (filter test (pair ∷ ys))
one_more test pair xs ys h = by_test (test pair)
  where
    by_test : (b : Bool) → length (if b then pair ∷ filter test xs else filter test xs)
        ≡ length (if b then pair ∷ filter test ys else filter test ys)
    by_test true = ap suc h
    by_test false = h

pub counted : (test : Pair → Bool) (pairs : List Pair) → length (filter test (in_name_order pairs))
    ≡ length (filter test pairs)
counted test [] = refl
counted test (pair ∷ pairs) = counted_in test pair (in_name_order pairs)
    ∙ one_more test pair (in_name_order pairs) pairs (counted test pairs)

-- as many files as names have one
pub files_end : (tree : FileTree) (n : ℕ) → n ≡ length (filter has_file tree.names) → file_lines_below tree n
    ≡ file_lines tree
files_end tree n is =
    let xs : List Pair = filter has_file (in_name_order tree.names) in
    all_lines xs (λ k. file_text_of (file_at tree k)) (λ pair. file_text (text_of_name pair.0) (node_bytes tree pair.1))
    n
    (λ i lt. ap (λ (o : Option Pair). file_text_of (option_map (λ pair. (text_of_name pair.0, node_bytes tree pair.1))
    o))
    (slice_get-get_or xs i nowhere lt)) (is ∙ sym (counted has_file tree.names))

-- and as many directories
pub dirs_end : (tree : FileTree) (n : ℕ) → n ≡ length (filter has_directory tree.names) → dir_lines_below tree n
    ≡ dir_lines tree
dirs_end tree n is =
    let xs : List Pair = filter has_directory (in_name_order tree.names) in
    all_lines xs (λ k. dir_text_of (dir_at tree k)) (λ pair. dir_text (text_of_name pair.0)) n
    (λ i lt. ap (λ (o : Option Pair). dir_text_of (option_map (λ pair. text_of_name pair.0) o))
    (slice_get-get_or xs i nowhere lt)) (is ∙ sym (counted has_directory tree.names))
