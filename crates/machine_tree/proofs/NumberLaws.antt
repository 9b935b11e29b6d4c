-- Handles are found by their numbers.
use Rattle.std.proofs.Common.{◌≡◌, ℕ, ◌<◌, ◌^◌, Bool, true, false, List, [], ◌∷◌, ◌++◌, Option, Some, None, if◌then◌else◌, refl, ap, sym, ◌∙◌, subst, arith}
use Rattle.std.specs.BTreeMap.{insert_entry, is_at}
use Rattle.std.specs.Cmp.{nat_cmp_is}
use Rattle.std.specs.Int.{w32, from_be_bytes}
use Rattle.std.specs.Map.{lookup, remove_entry, set_value, values_of}
use Rattle.std.specs.List.{list_any}
use Rattle.std.specs.Ordering.{is_eq, nat_cmp, match_ordering}
use Rattle.std.specs.declared.cmp.Ordering.{Ordering}
use Rattle.std.specs.declared.cmp.Ordering.TheVariants.{Less, Equal, Greater}
use Rattle.std.specs.Str.{bytes_eq}
use Rattle.std.proofs.lemmas.Nat.{from_be_bytes-to_be_bytes_4}
use Rattle.std.specs.Prelude.{◌||◌, MatchOption, Result, Ok, Err, OnOk, OnErr}
use Rattle.std.proofs.lemmas.Bool.Decides.{nat_tests}
use Rattle.std.proofs.lemmas.Slice.Eq.{bytes_eq-Decides}
use Rattle.machine_model.specs.declared.opened.Opened.{Opened}
use Rattle.machine_model.specs.FileTree.{value_at_key, opens_file, without_key}
use Rattle.machine_tree.specs.Numbers.{AllBelow, AreNumbers, IsBelow, given_pairs, numbered_handle, with_handles, without_first}

-- ---- a handle has one number

pub number_one : (n k : ℕ) → n < 2 ^ 32 → k < 2 ^ 32 → numbered_handle k ≡ numbered_handle n → k ≡ n
number_one n k a b e = sym (from_be_bytes-to_be_bytes_4 k b) ∙ ap (λ w. from_be_bytes w32 w) e
    ∙ from_be_bytes-to_be_bytes_4 n a

at_number : (n k : ℕ) → n < 2 ^ 32 → k < 2 ^ 32 → is_eq (nat_cmp n k) ≡ bytes_eq (numbered_handle k) (numbered_handle n)
at_number n k a b = by_test (bytes_eq (numbered_handle k) (numbered_handle n)) refl
  where
    by_test : (t : Bool) → bytes_eq (numbered_handle k) (numbered_handle n) ≡ t → is_eq (nat_cmp n k) ≡ t
    by_test true e =
        let same : n ≡ k = sym (number_one n k a b ((bytes_eq-Decides (numbered_handle k) (numbered_handle n)).0 e)) in
        ap is_eq (sym (nat_cmp_is n k Equal same))
    by_test false e = by_order (nat_cmp n k) refl
      where
        apart : n ≡ k → ⊥
        apart same = let t : bytes_eq (numbered_handle k) (numbered_handle n) ≡ true =
            (bytes_eq-Decides (numbered_handle k) (numbered_handle n)).1 (ap numbered_handle (sym same)) in
            (let both : true ≡ false = sym t ∙ e in cc)

        by_order : (o : Ordering) → nat_cmp n k ≡ o → is_eq o ≡ false
        by_order Less h = refl
        by_order Equal h = absurd (apart (let s : n ≡ k = grind (arith, nat_tests) in s))
        by_order Greater h = refl

-- ---- what is found, put and taken by a number

pub lookup_found : (entries : List (ℕ × Opened)) (n : ℕ) → AreNumbers entries → n < 2 ^ 32
    → lookup (is_at (nat_cmp n)) entries ≡ value_at_key bytes_eq (with_handles entries) (numbered_handle n)
lookup_found [] n a b = refl
lookup_found (e ∷ entries) n a b =
    ap (λ (t : Bool). if t then Some e.1 else lookup (is_at (nat_cmp n)) entries) (at_number n e.0 b a.0)
    ∙ ap (λ (w : Option Opened). if bytes_eq (numbered_handle e.0) (numbered_handle n) then Some e.1 else w)
    (lookup_found entries n a.1 b)

pub removed : (entries : List (ℕ × Opened)) (n : ℕ) → AreNumbers entries → n < 2 ^ 32
    → with_handles (remove_entry (is_at (nat_cmp n)) entries) ≡ without_key bytes_eq (with_handles entries)
    (numbered_handle n)
removed [] n a b = refl
removed (e ∷ entries) n a b =
    ap (λ (t : Bool). with_handles (if t then entries else e ∷ remove_entry (is_at (nat_cmp n)) entries))
    (at_number n e.0 b a.0)
    ∙ by_test (bytes_eq (numbered_handle e.0) (numbered_handle n)) (removed entries n a.1 b)
  where
    by_test : (t : Bool) → with_handles (remove_entry (is_at (nat_cmp n)) entries)
        ≡ without_key bytes_eq (with_handles entries) (numbered_handle n)
        → with_handles (if t then entries else e ∷ remove_entry (is_at (nat_cmp n)) entries)
        ≡ (if t then with_handles entries else (numbered_handle e.0, e.1) ∷ without_key bytes_eq (with_handles entries)
        (numbered_handle n))
    by_test true more = refl
    by_test false more = ap (λ w. (numbered_handle e.0, e.1) ∷ w) more

pub given_set : (entries : List (ℕ × Opened)) (n k : ℕ) (v : Opened) → AreNumbers entries → n < 2 ^ 32
    → lookup (is_at (nat_cmp n)) entries ≡ Some v
    → with_handles (set_value (is_at (nat_cmp n)) entries (without_first k v))
    ≡ given_pairs (with_handles entries) (numbered_handle n) k
given_set [] n k v a b h = absurd cc
given_set (e ∷ entries) n k v a b h =
    let at : is_eq (nat_cmp n e.0) ≡ bytes_eq (numbered_handle e.0) (numbered_handle n) = at_number n e.0 b a.0 in
    ap (λ (t : Bool). with_handles (if t then (e.0, without_first k v) ∷ entries else
    e ∷ set_value (is_at (nat_cmp n)) entries (without_first k v))) at
    ∙ by_test (bytes_eq (numbered_handle e.0) (numbered_handle n))
    (ap (λ (t : Bool). if t then Some e.1 else lookup (is_at (nat_cmp n)) entries) (sym at) ∙ h)
    (given_set entries n k v a.1 b)
  where
    by_test : (t : Bool) → (if t then Some e.1 else lookup (is_at (nat_cmp n)) entries) ≡ Some v
        → (lookup (is_at (nat_cmp n)) entries ≡ Some v
        → with_handles (set_value (is_at (nat_cmp n)) entries (without_first k v))
        ≡ given_pairs (with_handles entries) (numbered_handle n) k)
        → with_handles (if t then (e.0, without_first k v) ∷ entries else
        e ∷ set_value (is_at (nat_cmp n)) entries (without_first k v))
        ≡ (if t then (numbered_handle e.0, without_first k e.1) ∷ with_handles entries else
        (numbered_handle e.0, e.1) ∷ given_pairs (with_handles entries) (numbered_handle n) k)
    by_test true is more = let same : v ≡ e.1 = cc in ap (λ (w : Opened). (numbered_handle e.0, without_first k w) ∷
        with_handles entries) same
    by_test false is more = ap (λ w. (numbered_handle e.0, e.1) ∷ w) (more is)

pub number_below : (n k : ℕ) → n < 2 ^ 32 → k < 2 ^ 32 → IsBelow n (numbered_handle k) → k < n
number_below n k a b below =
    let l : below.0 < n = below.1 in
    let same : k ≡ below.0 = number_one below.0 k (omega (arith, a, l)) b below.2 in
    omega (arith, l, same)

-- a number above all others comes last
pub inserted : (entries : List (ℕ × Opened)) (n : ℕ) (v : Opened) → AreNumbers entries → n < 2 ^ 32
    → AllBelow n (with_handles entries)
    → insert_entry nat_cmp entries n v ≡ entries ++ (n, v) ∷ []
inserted [] n v a b h = refl
inserted (e ∷ entries) n v a b h =
    let greater : nat_cmp n e.0 ≡ Greater = sym (nat_cmp_is n e.0 Greater (number_below n e.0 b a.0 h.0)) in
    ap (λ (o : Ordering). match_ordering o ((n, v) ∷ e ∷ entries) ((e.0, v) ∷ entries)
    (e ∷ insert_entry nat_cmp entries n v)) greater
    ∙ ap (λ w. e ∷ w) (inserted entries n v a.1 b h.1)

pub pushed : (entries : List (ℕ × Opened)) (n : ℕ) (v : Opened) → with_handles (entries ++ (n, v) ∷ [])
    ≡ with_handles entries ++ (numbered_handle n, v) ∷ []
pushed [] n v = refl
pushed (e ∷ entries) n v = ap (λ w. (numbered_handle e.0, e.1) ∷ w) (pushed entries n v)

-- ---- the numbers stay

pub numbers_push : (entries : List (ℕ × Opened)) (n : ℕ) (v : Opened) → AreNumbers entries → n < 2 ^ 32
    → AreNumbers (entries ++ (n, v) ∷ [])
numbers_push [] n v a b = (b, tt)
numbers_push (e ∷ entries) n v a b = (a.0, numbers_push entries n v a.1 b)

pub numbers_remove : (entries : List (ℕ × Opened)) (test : ℕ → Bool) → AreNumbers entries
    → AreNumbers (remove_entry test entries)
numbers_remove [] test a = a
numbers_remove (e ∷ entries) test a = by_test (test e.0) (numbers_remove entries test a.1)
  where
    by_test : (t : Bool) → AreNumbers (remove_entry test entries)
        → AreNumbers (if t then entries else e ∷ remove_entry test entries)
    by_test true more = a.1
    by_test false more = (a.0, more)

pub numbers_set : (entries : List (ℕ × Opened)) (test : ℕ → Bool) (v : Opened) → AreNumbers entries
    → AreNumbers (set_value test entries v)
numbers_set [] test v a = a
numbers_set (e ∷ entries) test v a = by_test (test e.0) (numbers_set entries test v a.1)
  where
    by_test : (t : Bool) → AreNumbers (set_value test entries v)
        → AreNumbers (if t then (e.0, v) ∷ entries else e ∷ set_value test entries v)
    by_test true more = a
    by_test false more = (a.0, more)

-- ---- a handle that has no number, or that isn't open

pub none_found : (entries : List (ℕ × Opened)) (handle : List ℕ)
    → ((n : ℕ) → bytes_eq (numbered_handle n) handle ≡ false)
    → value_at_key bytes_eq (with_handles entries) handle ≡ None
none_found [] handle h = refl
none_found (e ∷ entries) handle h = rw (h e.0) (none_found entries handle h)

pub without_none : (pairs : List (List ℕ × Opened)) (handle : List ℕ) → value_at_key bytes_eq pairs handle ≡ None
    → without_key bytes_eq pairs handle ≡ pairs
without_none [] handle h = refl
without_none (pair ∷ pairs) handle h = by_test (bytes_eq pair.0 handle) h (without_none pairs handle)
  where
    by_test : (t : Bool) → (if t then Some pair.1 else value_at_key bytes_eq pairs handle) ≡ None
        → (value_at_key bytes_eq pairs handle ≡ None → without_key bytes_eq pairs handle ≡ pairs)
        → (if t then pairs else pair ∷ without_key bytes_eq pairs handle) ≡ pair ∷ pairs
    by_test true is more = absurd cc
    by_test false is more = ap (λ w. pair ∷ w) (more is)

pub given_none : (pairs : List (List ℕ × Opened)) (handle : List ℕ) (k : ℕ) → value_at_key bytes_eq pairs handle ≡ None
    → given_pairs pairs handle k ≡ pairs
given_none [] handle k h = refl
given_none (pair ∷ pairs) handle k h = by_test (bytes_eq pair.0 handle) h (given_none pairs handle k)
  where
    by_test : (t : Bool) → (if t then Some pair.1 else value_at_key bytes_eq pairs handle) ≡ None
        → (value_at_key bytes_eq pairs handle ≡ None → given_pairs pairs handle k ≡ pairs)
        → (if t then (pair.0, without_first k pair.1) ∷ pairs else pair ∷ given_pairs pairs handle k) ≡ pair ∷ pairs
    by_test true is more = absurd cc
    by_test false is more = ap (λ w. pair ∷ w) (more is)

-- the last one is taken back
pub taken_back : (n : ℕ) (pairs : List (List ℕ × Opened)) (o : Opened) → n < 2 ^ 32 → AllBelow n pairs
    → without_key bytes_eq (pairs ++ (numbered_handle n, o) ∷ []) (numbered_handle n) ≡ pairs
taken_back n [] o b h = let same : bytes_eq (numbered_handle n) (numbered_handle n) ≡ true =
    (bytes_eq-Decides (numbered_handle n) (numbered_handle n)).1 refl in rw same refl
taken_back n (pair ∷ pairs) o b h = by_test (bytes_eq pair.0 (numbered_handle n)) refl (taken_back n pairs o b h.1)
  where
    by_test : (t : Bool) → bytes_eq pair.0 (numbered_handle n) ≡ t
        → without_key bytes_eq (pairs ++ (numbered_handle n, o) ∷ []) (numbered_handle n) ≡ pairs
        → (if t then pairs ++ (numbered_handle n, o) ∷ [] else pair ∷ without_key bytes_eq
        (pairs ++ (numbered_handle n, o) ∷ []) (numbered_handle n)) ≡ pair ∷ pairs
    by_test true e more = absurd (
        let l : h.0.0 < n = h.0.1 in
        let same : h.0.0 ≡ n = number_one n h.0.0 b (omega (arith, b, l))
        (sym h.0.2 ∙ (bytes_eq-Decides pair.0 (numbered_handle n)).0 e) in omega (arith, l, same))
    by_test false e more = ap (λ w. pair ∷ w) more

pub put_back : (n : ℕ) (pairs pushed left : List (List ℕ × Opened)) (handle : List ℕ) (o : Opened) → n < 2 ^ 32
    → AllBelow n pairs
    → pushed ≡ pairs ++ (numbered_handle n, o) ∷ [] → handle ≡ numbered_handle n → left
    ≡ without_key bytes_eq pushed handle → left ≡ pairs
put_back n pairs pushed left handle o b h is named gone =
    gone ∙ ap (without_key bytes_eq pushed) named ∙ ap (λ (w : List (List ℕ × Opened)). without_key bytes_eq w
    (numbered_handle n)) is ∙ taken_back n pairs o b h

-- ---- a file that is open

pub held_values : (entries : List (ℕ × Opened)) (file : ℕ) →
    list_any (λ pair. opens_file file pair.1) (with_handles entries) ≡ list_any (opens_file file) (values_of entries)
held_values [] file = refl
held_values (e ∷ entries) file = ap (λ (t : Bool). opens_file file e.1 || t) (held_values entries file)

-- ---- the handles as they are seen

abbrev pub IsNumberOf : ℕ → List ℕ → Type 0
IsNumberOf n handle = (n < 2 ^ 32) × (numbered_handle n ≡ handle)

pub found_at : (entries : List (ℕ × Opened)) (pairs : List (List ℕ × Opened)) (handle : List ℕ) (n : ℕ)
    → AreNumbers entries → IsNumberOf n handle
    → with_handles entries ≡ pairs → lookup (is_at (nat_cmp n)) entries ≡ value_at_key bytes_eq pairs handle
found_at entries pairs handle n a at view =
    lookup_found entries n a at.0 ∙ ap (λ (w : List (List ℕ × Opened)). value_at_key bytes_eq w (numbered_handle n))
    view ∙ ap (value_at_key bytes_eq pairs) at.1

pub removed_at : (entries left : List (ℕ × Opened)) (pairs : List (List ℕ × Opened)) (handle : List ℕ) (n : ℕ)
    → AreNumbers entries → IsNumberOf n handle
    → with_handles entries ≡ pairs → left ≡ remove_entry (is_at (nat_cmp n)) entries → with_handles left
    ≡ without_key bytes_eq pairs handle
removed_at entries left pairs handle n a at view is =
    ap with_handles is ∙ removed entries n a at.0 ∙ ap (λ (w : List (List ℕ × Opened)). without_key bytes_eq w
    (numbered_handle n)) view
    ∙ ap (without_key bytes_eq pairs) at.1

pub given_at_number : (entries left : List (ℕ × Opened)) (pairs : List (List ℕ × Opened)) (handle : List ℕ) (n k : ℕ)
    → AreNumbers entries → IsNumberOf n handle
    → with_handles entries ≡ pairs
    → MatchOption (lookup (is_at (nat_cmp n)) entries) (left ≡ entries)
    (λ had. left ≡ set_value (is_at (nat_cmp n)) entries (without_first k had))
    → with_handles left ≡ given_pairs pairs handle k
given_at_number entries left pairs handle n k a at view is = by_value (lookup (is_at (nat_cmp n)) entries) refl is
  where
    by_value : (o : Option Opened) → lookup (is_at (nat_cmp n)) entries ≡ o
        → MatchOption o (left ≡ entries) (λ had. left ≡ set_value (is_at (nat_cmp n)) entries (without_first k had))
        → with_handles left ≡ given_pairs pairs handle k
    by_value None e same = ap with_handles same ∙ view ∙ sym (given_none pairs handle k
        (sym (found_at entries pairs handle n a at view) ∙ e))
    by_value (Some had) e set =
        ap with_handles set ∙ given_set entries n k had a at.0 e
        ∙ ap (λ (w : List (List ℕ × Opened)). given_pairs w (numbered_handle n) k) view
        ∙ ap (λ (w : List ℕ). given_pairs pairs w k) at.1

pub numbers_given : (entries left : List (ℕ × Opened)) (n k : ℕ) → AreNumbers entries
    → MatchOption (lookup (is_at (nat_cmp n)) entries) (left ≡ entries)
    (λ had. left ≡ set_value (is_at (nat_cmp n)) entries (without_first k had)) → AreNumbers left
numbers_given entries left n k a is = by_value (lookup (is_at (nat_cmp n)) entries) is
  where
    by_value : (o : Option Opened)
        → MatchOption o (left ≡ entries) (λ had. left ≡ set_value (is_at (nat_cmp n)) entries (without_first k had))
        → AreNumbers left
    by_value None same = subst (λ (w : List (ℕ × Opened)). AreNumbers w) (sym same) a
    by_value (Some had) set = subst (λ (w : List (ℕ × Opened)). AreNumbers w) (sym set)
        (numbers_set entries (is_at (nat_cmp n)) (without_first k had) a)

pub pushed_at : (entries left : List (ℕ × Opened)) (pairs : List (List ℕ × Opened)) (n : ℕ) (v : Opened)
    → AreNumbers entries → n < 2 ^ 32
    → with_handles entries ≡ pairs → AllBelow n pairs → left ≡ insert_entry nat_cmp entries n v
    → AreNumbers left × (with_handles left ≡ pairs ++ (numbered_handle n, v) ∷ [])
pushed_at entries left pairs n v a b view below is =
    let last : left ≡ entries ++ (n, v) ∷ [] = is ∙ inserted entries n v a b
    (subst (λ (w : List (List ℕ × Opened)). AllBelow n w) (sym view) below) in (
      subst (λ (w : List (ℕ × Opened)). AreNumbers w) (sym last) (numbers_push entries n v a b),
      ap with_handles last ∙ pushed entries n v ∙ ap (λ (w : List (List ℕ × Opened)). w ++ (numbered_handle n, v) ∷ [])
          view,
    )

-- the same, whichever way it ends
pub numbers_put : {A E : Type 0} (entries left : List (ℕ × Opened)) (pairs : List (List ℕ × Opened)) (n : ℕ)
    (v : Opened) (result : Result A E)
    → AreNumbers entries → n < 2 ^ 32 → with_handles entries ≡ pairs → AllBelow n pairs
    → OnOk result (left ≡ insert_entry nat_cmp entries n v)
    → OnErr result (left ≡ entries) → AreNumbers left
numbers_put entries left pairs n v (Ok x) a b view below ok err = (pushed_at entries left pairs n v a b view below ok).0
numbers_put entries left pairs n v (Err e) a b view below ok err =
    subst (λ (w : List (ℕ × Opened)). AreNumbers w) (sym err) a

pub put_last : {A E : Type 0} (entries left : List (ℕ × Opened)) (pairs : List (List ℕ × Opened)) (n : ℕ) (v : Opened)
    (result : Result A E)
    → AreNumbers entries → n < 2 ^ 32 → with_handles entries ≡ pairs → AllBelow n pairs
    → OnOk result (left ≡ insert_entry nat_cmp entries n v)
    → OnOk result (with_handles left ≡ pairs ++ (numbered_handle n, v) ∷ [])
put_last entries left pairs n v (Ok x) a b view below ok = (pushed_at entries left pairs n v a b view below ok).1
put_last entries left pairs n v (Err e) a b view below ok = tt

-- a handle that has no number isn't open
pub none_open : (entries : List (ℕ × Opened)) (pairs : List (List ℕ × Opened)) (handle : List ℕ)
    → ((n : ℕ) → bytes_eq (numbered_handle n) handle ≡ false)
    → with_handles entries ≡ pairs → value_at_key bytes_eq pairs handle ≡ None
none_open entries pairs handle h view = ap (λ (w : List (List ℕ × Opened)). value_at_key bytes_eq w handle) (sym view)
    ∙ none_found entries handle h
