-- A listing of a tree's directory has each filename once.
use Rattle.std.proofs.Common.{◌≡◌, ℕ, ◌+◌, ◌==◌, Bool, true, false, List, [], ◌∷◌, ◌++◌, length, drop, Some, None, if◌then◌else◌, refl, ap, sym, ◌∙◌, arith}
use Rattle.std.specs.Prelude.{map, filter}
use Rattle.std.specs.Str.{bytes_eq}
use Rattle.std.proofs.lemmas.Bool.{eqb-true, or_parts}
use Rattle.std.proofs.lemmas.List.{length-append}
use Rattle.sftp_model.specs.declared.reply.NameEntry.{NameEntry}
use Rattle.machine_model.proofs.NameLaws.{handles_tell, names_tell}
use Rattle.machine_model.proofs.PairLaws.{differs}
use Rattle.machine_model.proofs.WithinLaws.{parent_last, parent_push, within_split}
use Rattle.machine_model.specs.Components.{Name, is_child, is_within, last_of, parent_of, same_name}
use Rattle.machine_model.specs.FileTree.{FileTree, value_at_key}
use Rattle.machine_model.specs.NameRequests.{entries_at, entry_of, in_order, is_before, insert_in_order}
use Rattle.machine_model.specs.Trees.{IsTree, ListOnce, StandOnce, has_filename}
use Rattle.machine_model.specs.declared.node.Node.{Node}

-- ---- order

placed_lacks : (e : NameEntry) (entries : List NameEntry) (f : List ℕ) → bytes_eq e.filename f ≡ false
    → has_filename entries f ≡ false → has_filename (insert_in_order e entries) f ≡ false
placed_lacks e [] f h k = rw h refl
placed_lacks e (other ∷ entries) f h k =
    let both = or_parts (bytes_eq other.filename f) (has_filename entries f) k in
    by_test (is_before other.filename e.filename) both.0 both.1 (placed_lacks e entries f h both.1)
  where
    by_test : (b : Bool) → bytes_eq other.filename f ≡ false → has_filename entries f ≡ false
        → has_filename (insert_in_order e entries) f ≡ false → has_filename
        (if b then other ∷ insert_in_order e entries else e ∷ other ∷ entries) f ≡ false
    by_test true x y more = rw (x, more) refl
    by_test false x y more = rw (h, x, y) refl

in_order_lacks : (entries : List NameEntry) (f : List ℕ) → has_filename entries f ≡ false
    → has_filename (in_order entries) f ≡ false
in_order_lacks [] f h = refl
in_order_lacks (e ∷ entries) f h = let both = or_parts (bytes_eq e.filename f) (has_filename entries f) h in
    placed_lacks e (in_order entries) f both.0 (in_order_lacks entries f both.1)

placed_once : (e : NameEntry) (entries : List NameEntry) → has_filename entries e.filename ≡ false → ListOnce entries
    → ListOnce (insert_in_order e entries)
placed_once e [] h once = (refl, tt)
placed_once e (other ∷ entries) h once =
    let both = or_parts (bytes_eq other.filename e.filename) (has_filename entries e.filename) h in
    by_test (is_before other.filename e.filename) both.0 (placed_once e entries both.1 once.1)
  where
    turned : bytes_eq other.filename e.filename ≡ false → bytes_eq e.filename other.filename ≡ false
    turned x = differs bytes_eq handles_tell e.filename other.filename
        (λ same. let t = (handles_tell other.filename e.filename).1 (sym same) in
        absurd (let both : true ≡ false = sym t ∙ x in cc))

    by_test : (b : Bool) → bytes_eq other.filename e.filename ≡ false → ListOnce (insert_in_order e entries)
        → ListOnce (if b then other ∷ insert_in_order e entries else e ∷ other ∷ entries)
    by_test true x more = (placed_lacks e entries other.filename (turned x) once.0, more)
    by_test false x more = (h, once)

in_order_once : (entries : List NameEntry) → ListOnce entries → ListOnce (in_order entries)
in_order_once [] once = tt
in_order_once (e ∷ entries) once = placed_once e (in_order entries) (in_order_lacks entries e.filename once.0)
    (in_order_once entries once.1)

-- ---- children

-- a child is told by its last component
child_is : (directory name : Name) → is_child directory name ≡ true → name ≡ directory ++ last_of name ∷ []
child_is directory name e = by_test (length name == length directory + 1) refl e
  where
    by_rest : (rest : Name) → name ≡ directory ++ rest → length name ≡ length directory + 1 → name ≡ directory
        ++ last_of name ∷ []
    by_rest [] is l = (let k : length name ≡ length directory + 0 = ap length is ∙ length-append directory [] in
        absurd (omega (arith, k, l)))
    by_rest (part ∷ []) is l =
        (let up : parent_of name ≡ directory = ap parent_of is ∙ parent_push directory part in
        parent_last name (λ none. (let zero : length name ≡ 0 = ap length none in absurd (omega (arith, zero, l))))
        ∙ ap (λ (w : Name). w ++ last_of name ∷ []) up)
    by_rest (part ∷ next ∷ rest) is l = (let k : length name ≡ length directory + length (part ∷ next ∷ rest) =
        ap length is ∙ length-append directory (part ∷ next ∷ rest) in absurd (omega (arith, k, l)))

    by_test : (b : Bool) → (length name == length directory + 1) ≡ b → (if b then is_within directory name else false)
        ≡ true → name ≡ directory ++ last_of name ∷ []
    by_test true l w = by_rest (drop (length directory) name) (within_split directory name w)
        (eqb-true (length name) (length directory + 1) l)
    by_test false l w = absurd cc

-- the entries of a directory, not in order
abbrev children : FileTree → Name → List (Name × Node) → List NameEntry
children tree directory names = map (entry_of tree) (filter (λ pair. is_child directory pair.0) names)

children_lack : (tree : FileTree) (directory name : Name) (names : List (Name × Node)) → is_child directory name ≡ true
    → value_at_key same_name names name ≡ None
    → has_filename (children tree directory names) (last_of name) ≡ false
children_lack tree directory name [] child none = refl
children_lack tree directory name (p ∷ names) child none = by_tests (same_name p.0 name) (is_child directory p.0) refl
    refl none (children_lack tree directory name names child)
  where
    by_tests : (s b : Bool) → same_name p.0 name ≡ s → is_child directory p.0 ≡ b
        → (if s then Some p.1 else value_at_key same_name names name) ≡ None
        → (value_at_key same_name names name ≡ None → has_filename (children tree directory names) (last_of name)
        ≡ false)
        → has_filename (map (entry_of tree) (if b then p ∷ filter (λ pair. is_child directory pair.0) names else
        filter (λ pair. is_child directory pair.0) names)) (last_of name) ≡ false
    by_tests true b same c x more = absurd cc
    by_tests false false other c x more = more x
    by_tests false true other c x more =
        (let apart : bytes_eq (last_of p.0) (last_of name) ≡ false =
        differs bytes_eq handles_tell (last_of p.0) (last_of name) (λ e.
        let is : p.0 ≡ name = child_is directory p.0 c ∙ (ap (λ (w : List ℕ). directory ++ w ∷ []) e
        ∙ sym (child_is directory name child)) in
        let same = (names_tell p.0 name).1 is in
        absurd (let both : true ≡ false = sym same ∙ other in cc)) in
        rw (apart, more x) refl)

children_once : (tree : FileTree) (directory : Name) (names : List (Name × Node)) → StandOnce names
    → ListOnce (children tree directory names)
children_once tree directory [] once = tt
children_once tree directory (p ∷ names) once = by_test (is_child directory p.0) refl
    (children_once tree directory names once.1)
  where
    by_test : (b : Bool) → is_child directory p.0 ≡ b → ListOnce (children tree directory names)
        → ListOnce (map (entry_of tree) (if b then p ∷ filter (λ pair. is_child directory pair.0) names else
        filter (λ pair. is_child directory pair.0) names))
    by_test true c more = (children_lack tree directory p.0 names c once.0, more)
    by_test false c more = more

pub lists_once : (tree : FileTree) (name : Name) → IsTree tree → ListOnce (entries_at tree name)
lists_once tree name t = in_order_once (children tree name tree.names) (children_once tree name tree.names t.once)
