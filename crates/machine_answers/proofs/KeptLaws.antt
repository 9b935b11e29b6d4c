-- What changes keep.
use Rattle.std.proofs.Common.{
  ◌≡◌,
  ℕ,
  ◌+◌,
  Bool,
  true,
  false,
  List,
  [],
  ◌∷◌,
  ◌++◌,
  drop,
  Option,
  Some,
  None,
  if◌then◌else◌,
  refl,
  ap,
  arith,
}
use Rattle.std.specs.Str.{bytes_eq}
use Rattle.std.proofs.lemmas.Slice.Eq.{bytes_eq-Decides}
use Rattle.sftp_model.specs.declared.reply.NameEntry.{NameEntry}
use Rattle.machine_model.specs.declared.opened.Opened.TheVariants as opened
use Rattle.machine_model.specs.declared.opened.Opened.{Opened}
use Rattle.machine_model.specs.FileTree.{value_at_key, without_key, with_value_at, entries_of}
use Rattle.machine_tree.specs.Numbers.{AllBelow, given_pairs, numbered_handle, without_first}

-- ---- open handles

pub below_push : (n : ℕ) (pairs : List (List ℕ × Opened)) (o : Opened) → AllBelow n pairs
    → AllBelow (n + 1) (pairs ++ (numbered_handle n, o) ∷ [])
below_push n [] o h = ((n, omega arith, refl), tt)
below_push n (pair ∷ pairs) o h = (
  let b = h.0 in (b.0, (let l = b.1 in omega (arith, l)), b.2),
  below_push n pairs o h.1,
)

pub below_without : (n : ℕ) (pairs : List (List ℕ × Opened)) (handle : List ℕ) → AllBelow n pairs
    → AllBelow n (without_key bytes_eq pairs handle)
below_without n [] handle h = h
below_without n (pair ∷ pairs) handle h = by_test (bytes_eq pair.0 handle) (below_without n pairs handle h.1)
  where
    by_test : (b : Bool) → AllBelow n (without_key bytes_eq pairs handle)
        → AllBelow n (if b then pairs else pair ∷ without_key bytes_eq pairs handle)
    by_test true more = h.1
    by_test false more = (h.0, more)

pub below_given : (n : ℕ) (pairs : List (List ℕ × Opened)) (handle : List ℕ) (k : ℕ) → AllBelow n pairs
    → AllBelow n (given_pairs pairs handle k)
below_given n [] handle k h = h
below_given n (pair ∷ pairs) handle k h = by_test (bytes_eq pair.0 handle) (below_given n pairs handle k h.1)
  where
    by_test : (b : Bool) → AllBelow n (given_pairs pairs handle k)
        → AllBelow n (if b then (pair.0, without_first k pair.1) ∷ pairs else pair ∷ given_pairs pairs handle k)
    by_test true more = h
    by_test false more = (h.0, more)

-- ---- entries that were given

pub given_replaced : (pairs : List (List ℕ × Opened)) (handle : List ℕ) (n : ℕ) (entries : List NameEntry)
    → entries_of (value_at_key bytes_eq pairs handle) ≡ Some entries
    → given_pairs pairs handle n ≡ with_value_at bytes_eq pairs handle (opened.Directory (drop n entries))
given_replaced [] handle n entries h = absurd cc
given_replaced (pair ∷ pairs) handle n entries h = by_test (bytes_eq pair.0 handle) refl h
    (given_replaced pairs handle n entries)
  where
    of_pair : (o : Opened) → entries_of (Some o) ≡ Some entries → without_first n o ≡ opened.Directory (drop n entries)
    of_pair (opened.File held) e = absurd cc
    of_pair (opened.Directory old) e = ap (λ (w : Option (List NameEntry)). opened.Directory
        (drop n (elim w [ None ↦ entries | Some es ↦ es ]))) e

    by_test : (b : Bool) → bytes_eq pair.0 handle ≡ b → entries_of
        (if b then Some pair.1 else value_at_key bytes_eq pairs handle) ≡ Some entries
        → (entries_of (value_at_key bytes_eq pairs handle) ≡ Some entries → given_pairs pairs handle n
        ≡ with_value_at bytes_eq pairs handle (opened.Directory (drop n entries)))
        → (if b then (pair.0, without_first n pair.1) ∷ pairs else pair ∷ given_pairs pairs handle n)
        ≡ (if b then (handle, opened.Directory (drop n entries)) ∷ pairs else
        pair ∷ with_value_at bytes_eq pairs handle (opened.Directory (drop n entries)))
    by_test true is e more = rw ((bytes_eq-Decides pair.0 handle).0 is, of_pair pair.1 e) refl
    by_test false is e more = ap (λ l. pair ∷ l) (more e)
