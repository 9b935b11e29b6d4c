-- The entries of a listing.
use Rattle.std.proofs.Common.{◌≡◌, ◌&&◌, ◌||◌, ◌⊎◌, ℕ, Bool, true, false, not, List, [], ◌∷◌, ◌++◌, ◌∙◌, Some, refl, sym, ap, subst, inl, inr, if◌then◌else◌}
use Rattle.std.specs.List.{list_any}
use Rattle.std.specs.Str.{bytes_eq}
use Rattle.std.proofs.lemmas.List.{append_assoc, append-nil}
use Rattle.std.proofs.lemmas.List.Folds.{list_any-append}
use Rattle.std.proofs.lemmas.Slice.Eq.{bytes_eq-Decides}
use Rattle.transfer_sync.specs.Listings.{can_follow, can_follow_all, has_entry, name_in_directory}
use Rattle.transfer_plan.specs.Names.{is_component}
use Rattle.transfer_sync.specs.Entries.{entry_of_path, has_open_directory, is_open_directory}
use Rattle.transfer_sync.specs.Paths.{directory_of}
use Rattle.transfer_sync.specs.declared.entry.Entry.{Entry}

-- ---- Tests

pub both_left : (a b : Bool) → (a && b) ≡ true → a ≡ true
both_left true b is = refl
both_left false b is = is

pub both_right : (a b : Bool) → (a && b) ≡ true → b ≡ true
both_right true b is = is
both_right false b is = absurd cc

pub both : (a b : Bool) → a ≡ true → b ≡ true → (a && b) ≡ true
both a b x y = rw x y

pub none_left : (a b : Bool) → (a || b) ≡ false → a ≡ false
none_left false b is = refl
none_left true b is = is

pub none_right : (a b : Bool) → (a || b) ≡ false → b ≡ false
none_right false b is = is
none_right true b is = absurd cc

pub none : (a b : Bool) → a ≡ false → b ≡ false → (a || b) ≡ false
none a b x y = rw x y

pub some_left : (a b : Bool) → a ≡ true → (a || b) ≡ true
some_left a b x = rw x refl

pub some_right : (a b : Bool) → b ≡ true → (a || b) ≡ true
some_right true b y = refl
some_right false b y = y

pub one_of : (a b : Bool) → (a || b) ≡ true → (a ≡ true) ⊎ (b ≡ true)
one_of true b is = inl refl
one_of false b is = inr is

pub not_so : (a : Bool) → not a ≡ true → a ≡ false
not_so false is = refl
not_so true is = absurd cc

pub not_not : (a : Bool) → not a ≡ false → a ≡ true
not_not true is = refl
not_not false is = absurd cc

pub clash : {A : Type 0} (a : Bool) → a ≡ true → a ≡ false → A
clash a x y = absurd (let e : true ≡ false = sym x ∙ y in cc)

-- ---- Paths

pub same_path : (p : List ℕ) → bytes_eq p p ≡ true
same_path p = (bytes_eq-Decides p p).1 refl

pub is_same : (p q : List ℕ) → bytes_eq p q ≡ true → p ≡ q
is_same p q is = (bytes_eq-Decides p q).0 is

pub eq_path : (p q : List ℕ) → p ≡ q → bytes_eq p q ≡ true
eq_path p q is = (bytes_eq-Decides p q).1 is

-- ---- Entries

abbrev pub IsIn : List Entry → Entry → Type 0
IsIn [] e = ⊥
IsIn (x ∷ xs) e = (x ≡ e) ⊎ IsIn xs e

pub in_left : (xs ys : List Entry) (e : Entry) → IsIn xs e → IsIn (xs ++ ys) e
in_left [] ys e is = absurd is
in_left (x ∷ xs) ys e (inl is) = inl is
in_left (x ∷ xs) ys e (inr is) = inr (in_left xs ys e is)

pub in_right : (xs ys : List Entry) (e : Entry) → IsIn ys e → IsIn (xs ++ ys) e
in_right [] ys e is = is
in_right (x ∷ xs) ys e is = inr (in_right xs ys e is)

pub in_either : (xs ys : List Entry) (e : Entry) → IsIn (xs ++ ys) e → IsIn xs e ⊎ IsIn ys e
in_either [] ys e is = inr is
in_either (x ∷ xs) ys e (inl is) = inl (inl is)
in_either (x ∷ xs) ys e (inr is) = elim (in_either xs ys e is) [ inl a ↦ inl (inr a) | inr b ↦ inr b ]

pub has_in : (xs : List Entry) (e : Entry) → IsIn xs e → has_entry xs e.path ≡ true
has_in [] e is = absurd is
has_in (x ∷ xs) e (inl is) = some_left (bytes_eq e.path x.path) (has_entry xs e.path)
    (eq_path e.path x.path (ap (λ (y : Entry). y.path) (sym is)))
has_in (x ∷ xs) e (inr is) = some_right (bytes_eq e.path x.path) (has_entry xs e.path) (has_in xs e is)

pub in_at : (xs : List Entry) (p : List ℕ) (e : Entry) → entry_of_path xs p ≡ Some e → IsIn xs e × (p ≡ e.path)
in_at [] p e is = absurd cc
in_at (x ∷ xs) p e is = by_test (bytes_eq p x.path) refl is (in_at xs p e)
  where
    by_test : (t : Bool) → bytes_eq p x.path ≡ t → (if t then Some x else entry_of_path xs p) ≡ Some e
        → (entry_of_path xs p ≡ Some e → IsIn xs e × (p ≡ e.path)) → IsIn (x ∷ xs) e × (p ≡ e.path)
    by_test true test is later =
        let one : x ≡ e = cc in (inl one, is_same p x.path test ∙ ap (λ (y : Entry). y.path) one)
    by_test false test is later = let found = later is in (inr found.0, found.1)

-- The facts of an entry that may follow these.
pub record IsFollower (before : List Entry) (e : Entry) : Type 0 where
  pub named : is_component (name_in_directory e.path) ≡ true
  pub has_parent : has_open_directory before (directory_of e.path) ≡ true
  pub new : has_entry before e.path ≡ false

pub follower : (before : List Entry) (e : Entry) → can_follow before e ≡ true → IsFollower before e
follower before e is =
    let first = both_left (is_component (name_in_directory e.path) && has_open_directory before (directory_of e.path))
    (not (has_entry before e.path)) is in
    record {
      named = both_left (is_component (name_in_directory e.path)) (has_open_directory before (directory_of e.path))
          first;
      has_parent = both_right (is_component (name_in_directory e.path))
          (has_open_directory before (directory_of e.path)) first;
      new = not_so (has_entry before e.path)
          (both_right (is_component (name_in_directory e.path) && has_open_directory before (directory_of e.path))
          (not (has_entry before e.path)) is);
    }

pub head_follower : (before : List Entry) (x : Entry) (later : List Entry) → can_follow_all before (x ∷ later) ≡ true
    → IsFollower before x
head_follower before x later h = follower before x (both_left (can_follow before x)
    (can_follow_all (before ++ x ∷ []) later) h)

pub tail_listed : (before : List Entry) (x : Entry) (later : List Entry) → can_follow_all before (x ∷ later) ≡ true
    → can_follow_all (before ++ x ∷ []) later ≡ true
tail_listed before x later h = both_right (can_follow before x) (can_follow_all (before ++ x ∷ []) later) h

-- No entry of a listing has the path of one before it.
pub distinct_path : (before xs : List Entry) (e : Entry) → can_follow_all before xs ≡ true → IsIn xs e
    → has_entry before e.path ≡ false
distinct_path before [] e h is = absurd is
distinct_path before (x ∷ later) e h (inl is) =
    subst (λ (y : Entry). has_entry before y.path ≡ false) is (head_follower before x later h).new
distinct_path before (x ∷ later) e h (inr is) =
    none_left (has_entry before e.path) (has_entry (x ∷ []) e.path)
    (sym (list_any-append (λ (y : Entry). bytes_eq e.path y.path) before (x ∷ []))
    ∙ distinct_path (before ++ x ∷ []) later e (tail_listed before x later h) is)

pub other_path : (before : List Entry) (x : Entry) (later : List Entry) (e : Entry) → can_follow_all before (x ∷ later)
    ≡ true
    → IsIn later e → bytes_eq e.path x.path ≡ false
other_path before x later e h is =
    none_left (bytes_eq e.path x.path) false
    (none_right (has_entry before e.path) (has_entry (x ∷ []) e.path)
    (sym (list_any-append (λ (y : Entry). bytes_eq e.path y.path) before (x ∷ []))
    ∙ distinct_path (before ++ x ∷ []) later e (tail_listed before x later h) is))

pub at_in : (before xs : List Entry) (e : Entry) → can_follow_all before xs ≡ true → IsIn xs e → entry_of_path xs e.path
    ≡ Some e
at_in before [] e h is = absurd is
at_in before (x ∷ later) e h (inl is) =
    ap (λ (t : Bool). if t then Some x else entry_of_path later e.path)
    (eq_path e.path x.path (ap (λ (y : Entry). y.path) (sym is)))
    ∙ ap (λ (y : Entry). Some y) is
at_in before (x ∷ later) e h (inr is) =
    ap (λ (t : Bool). if t then Some x else entry_of_path later e.path) (other_path before x later e h is)
    ∙ at_in (before ++ x ∷ []) later e (tail_listed before x later h) is

-- Each path has one entry.
pub one_in : (before xs : List Entry) (a b : Entry) → can_follow_all before xs ≡ true → IsIn xs a → IsIn xs b → a.path
    ≡ b.path → a ≡ b
one_in before xs a b h ia ib same =
    let e : Some a ≡ Some b = sym (at_in before xs a h ia)
    ∙ (ap (λ (p : List ℕ). entry_of_path xs p) same ∙ at_in before xs b h ib) in cc

no_name : is_component (name_in_directory []) ≡ false
unfolding is_component
no_name = refl

pub not_root : (before xs : List Entry) (e : Entry) → can_follow_all before xs ≡ true → IsIn xs e → e.path ≡ [] → ⊥
not_root before [] e h is root = absurd is
not_root before (x ∷ later) e h (inl is) root =
    let here : x.path ≡ [] = ap (λ (y : Entry). y.path) is ∙ root in
    clash (is_component (name_in_directory x.path)) (head_follower before x later h).named
    (ap (λ (p : List ℕ). is_component (name_in_directory p)) here ∙ no_name)
not_root before (x ∷ later) e h (inr is) root = not_root (before ++ x ∷ []) later e (tail_listed before x later h) is
    root

-- ---- Directories

pub opens_more : (before : List Entry) (x : Entry) (p : List ℕ) → has_open_directory before p ≡ true
    → has_open_directory (before ++ x ∷ []) p ≡ true
opens_more before x p is = elim (one_of (bytes_eq p []) (list_any
    (λ (e : Entry). bytes_eq p e.path && is_open_directory e) before) is) [
      | inl root ↦ some_left (bytes_eq p []) (list_any (λ (e : Entry). bytes_eq p e.path && is_open_directory e)
          (before ++ x ∷ [])) root
      | inr there ↦ some_right (bytes_eq p []) (list_any (λ (e : Entry). bytes_eq p e.path && is_open_directory e)
          (before ++ x ∷ []))
          (list_any-append (λ (e : Entry). bytes_eq p e.path && is_open_directory e) before (x ∷ [])
          ∙ some_left (list_any (λ (e : Entry). bytes_eq p e.path && is_open_directory e) before)
          (list_any (λ (e : Entry). bytes_eq p e.path && is_open_directory e) (x ∷ [])) there)
    ]

-- An entry of this path that is a directory whose entries are listed.
pub record IsParent (xs : List Entry) (p : List ℕ) : Type 0 where
  pub parent : Entry
  pub among : IsIn xs parent
  pub at : parent.path ≡ p
  pub opens : is_open_directory parent ≡ true

pub find_parent : (xs : List Entry) (p : List ℕ) → list_any (λ (e : Entry). bytes_eq p e.path && is_open_directory e) xs
    ≡ true → IsParent xs p
find_parent [] p is = absurd cc
find_parent (x ∷ xs) p is = elim (one_of (bytes_eq p x.path && is_open_directory x)
    (list_any (λ (e : Entry). bytes_eq p e.path && is_open_directory e) xs) is) [
      | inl here ↦ record {
        parent = x;
        among = inl refl;
        at = sym (is_same p x.path (both_left (bytes_eq p x.path) (is_open_directory x) here));
        opens = both_right (bytes_eq p x.path) (is_open_directory x) here;
      }
      | inr there ↦ let h = find_parent xs p there in record {
        parent = h.parent;
        among = inr h.among;
        at = h.at;
        opens =
            h.opens;
      }
    ]

-- A path whose entries are listed is the root, or that of such a directory.
pub parent_or_root : (xs : List Entry) (p : List ℕ) → has_open_directory xs p ≡ true → (p ≡ []) ⊎ IsParent xs p
parent_or_root xs p is = elim (one_of (bytes_eq p []) (list_any
    (λ (e : Entry). bytes_eq p e.path && is_open_directory e) xs) is) [
      | inl root ↦ inl (is_same p [] root)
      | inr there ↦ inr (find_parent xs p there)
    ]

-- The directory of an entry does not come after it.
pub elsewhere : (before xs : List Entry) (p : List ℕ) → can_follow_all before xs ≡ true → has_open_directory before p
    ≡ true → has_entry xs p ≡ false
elsewhere before [] p h opens = refl
elsewhere before (x ∷ later) p h opens =
    none (bytes_eq p x.path) (has_entry later p) (by_test (bytes_eq p x.path) refl)
    (elsewhere (before ++ x ∷ []) later p (tail_listed before x later h) (opens_more before x p opens))
  where
    by_test : (t : Bool) → bytes_eq p x.path ≡ t → bytes_eq p x.path ≡ false
    by_test false is = is
    by_test true is =
        let same : p ≡ x.path = is_same p x.path is in
        elim (parent_or_root before p opens) [
          | inl root ↦ absurd (not_root before (x ∷ later) x h (inl refl) (sym same ∙ root))
          | inr parent ↦
              clash (has_entry before x.path)
              (ap (λ (q : List ℕ). has_entry before q) (sym (parent.at ∙ same))
              ∙ has_in before parent.parent parent.among)
              (head_follower before x later h).new
        ]

-- An entry of a listing is in the root or in a directory of the listing.
pub has_parent : (before xs : List Entry) (e : Entry) → can_follow_all before xs ≡ true → IsIn xs e
    → has_open_directory (before ++ xs) (directory_of e.path) ≡ true
has_parent before [] e h is = absurd is
has_parent before (x ∷ later) e h (inl is) =
    ap (λ (y : Entry). has_open_directory (before ++ x ∷ later) (directory_of y.path)) (sym is)
    ∙ wide (x ∷ later) before (directory_of x.path) (head_follower before x later h).has_parent
  where
    wide : (ys : List Entry) (bs : List Entry) (p : List ℕ) → has_open_directory bs p ≡ true
        → has_open_directory (bs ++ ys) p ≡ true
    wide [] bs p opens = ap (λ (l : List Entry). has_open_directory l p) (append-nil bs) ∙ opens
    wide (y ∷ ys) bs p opens = ap (λ (l : List Entry). has_open_directory l p) (sym (append_assoc bs (y ∷ []) ys))
        ∙ wide ys (bs ++ y ∷ []) p (opens_more bs y p opens)
has_parent before (x ∷ later) e h (inr is) =
    ap (λ (l : List Entry). has_open_directory l (directory_of e.path)) (sym (append_assoc before (x ∷ []) later))
    ∙ has_parent (before ++ x ∷ []) later e (tail_listed before x later h) is

pub wider : (ys : List Entry) (bs : List Entry) (p : List ℕ) → has_open_directory bs p ≡ true
    → has_open_directory (bs ++ ys) p ≡ true
wider [] bs p opens = ap (λ (l : List Entry). has_open_directory l p) (append-nil bs) ∙ opens
wider (y ∷ ys) bs p opens = ap (λ (l : List Entry). has_open_directory l p) (sym (append_assoc bs (y ∷ []) ys))
    ∙ wider ys (bs ++ y ∷ []) p (opens_more bs y p opens)
