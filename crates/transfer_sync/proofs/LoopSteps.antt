-- Another entry in each of the loops.
use Rattle.std.proofs.Common.{◌≡◌, ◌&&◌, ◌||◌, ◌+◌, ◌<◌, ℕ, zero, suc, Bool, true, false, not, List, [], ◌∷◌, ◌++◌, ◌∙◌, Option, Some, None, length, take, get_or, refl, sym, ap, subst, arith, if◌then◌else◌}
use Rattle.std.specs.List.{list_any, slice_get}
use Rattle.std.specs.Option.{is_some}
use Rattle.std.specs.Str.{bytes_eq}
use Rattle.std.proofs.lemmas.List.{append_assoc, append-nil, take_more, length-take-le}
use Rattle.std.proofs.lemmas.List.Folds.{list_any-append}
use Rattle.std.proofs.lemmas.Option.{slice_get-get_or}
use Rattle.std.proofs.lemmas.Slice.Eq.{bytes_eq-Decides}
use Rattle.transfer_plan.specs.Names.{is_component}
use Rattle.transfer_sync.specs.Listings.{IsFault, IsIndexOf, IsPlaceOf, can_follow, can_follow_all, listing_fault, has_entry, is_listing, name_in_directory, with_open_directory}
use Rattle.transfer_sync.specs.Entries.{entry_of_path, has_open_directory, is_open_directory}
use Rattle.transfer_sync.specs.Paths.{Paths, directory_of, no_path, with_path}
use Rattle.transfer_sync.specs.PathMaps.{Places, no_place, with_place}
use Rattle.transfer_sync.specs.Verdicts.{blocked_after_entries, blocked_after_entry, choice_of}
use Rattle.transfer_sync.specs.declared.entry.Entry.{Entry}
use Rattle.transfer_sync.specs.declared.listing.ListingError.{ListingError}
use Rattle.transfer_sync.specs.declared.listing.ListingError.TheVariants.{BadName, NoDirectory, Twice}

-- ---- Entries that pass a test

pub choice_append : {X : Type 0} (test : Entry → Bool) (make : Entry → X) (xs ys : List Entry)
    → choice_of test make (xs ++ ys) ≡ choice_of test make xs ++ choice_of test make ys
choice_append test make [] ys = refl
choice_append test make (x ∷ xs) ys = by_test (test x) (choice_append test make xs ys)
  where
    by_test : (t : Bool) → choice_of test make (xs ++ ys) ≡ choice_of test make xs ++ choice_of test make ys
        → (if t then make x ∷ choice_of test make (xs ++ ys) else choice_of test make (xs ++ ys))
        ≡ (if t then make x ∷ choice_of test make xs else choice_of test make xs) ++ choice_of test make ys
    by_test true more = ap (λ l. make x ∷ l) more
    by_test false more = more

-- An entry that passes.
pub choice_with : {X : Type 0} (test : Entry → Bool) (make : Entry → X) (xs : List Entry) (i : ℕ) (e : Entry)
    (first all : List X)
    (made : X) → i < length xs → e ≡ get_or xs i e → test e ≡ true → made ≡ make e
    → all ≡ first ++ choice_of test make (take i xs) → all ++ made ∷ [] ≡ first ++ choice_of test make (take (i + 1) xs)
choice_with test make xs i e first all made within is passes built before =
    let more : choice_of test make (take (i + 1) xs) ≡ choice_of test make (take i xs) ++ make e ∷ [] =
    ap (λ l. choice_of test make l) (take_more xs i e within)
    ∙ (ap (λ (x : Entry). choice_of test make (take i xs ++ x ∷ [])) (sym is)
    ∙ (choice_append test make (take i xs) (e ∷ [])
    ∙ ap (λ (t : Bool). choice_of test make (take i xs) ++ (if t then make e ∷ [] else [])) passes)) in
    ap (λ m. all ++ m ∷ []) built
    ∙ (ap (λ l. l ++ make e ∷ []) before
    ∙ (append_assoc first (choice_of test make (take i xs)) (make e ∷ [])
    ∙ ap (λ l. first ++ l) (sym more)))

-- An entry that does not pass.
pub choice_without : {X : Type 0} (test : Entry → Bool) (make : Entry → X) (xs : List Entry) (i : ℕ) (e : Entry)
    (first all : List X)
    → i < length xs → e ≡ get_or xs i e → test e ≡ false → all ≡ first ++ choice_of test make (take i xs)
    → all ≡ first ++ choice_of test make (take (i + 1) xs)
choice_without test make xs i e first all within is fails before =
    let more : choice_of test make (take (i + 1) xs) ≡ choice_of test make (take i xs) ++ [] =
    ap (λ l. choice_of test make l) (take_more xs i e within)
    ∙ (ap (λ (x : Entry). choice_of test make (take i xs ++ x ∷ [])) (sym is)
    ∙ (choice_append test make (take i xs) (e ∷ [])
    ∙ ap (λ (t : Bool). choice_of test make (take i xs) ++ (if t then make e ∷ [] else [])) fails)) in
    before ∙ ap (λ l. first ++ l) (sym (more ∙ append-nil (choice_of test make (take i xs))))

-- ---- Blocked paths

blocked_append : (gone : Paths) (target : List Entry) (b : Paths) (xs ys : List Entry)
    → blocked_after_entries gone target b (xs ++ ys) ≡ blocked_after_entries gone target
    (blocked_after_entries gone target b xs) ys
blocked_append gone target b [] ys = refl
blocked_append gone target b (x ∷ xs) ys = blocked_append gone target (blocked_after_entry gone target b x) xs ys

pub blocked_more : (gone : Paths) (target : List Entry) (b now next : Paths) (xs : List Entry) (i : ℕ) (e : Entry)
    → i < length xs → e ≡ get_or xs i e → now ≡ blocked_after_entries gone target b (take i xs)
    → next ≡ blocked_after_entry gone target now e → next ≡ blocked_after_entries gone target b (take (i + 1) xs)
blocked_more gone target b now next xs i e within is before step =
    step
    ∙ (ap (λ (p : Paths). blocked_after_entry gone target p e) before
    ∙ sym (ap (λ l. blocked_after_entries gone target b l) (take_more xs i e within)
    ∙ (ap (λ (x : Entry). blocked_after_entries gone target b (take i xs ++ x ∷ [])) (sym is)
    ∙ blocked_append gone target b (take i xs) (e ∷ []))))

-- ---- Listings

or_false : (a : Bool) → (a || false) ≡ a
or_false true = refl
or_false false = refl

and_true : (a : Bool) → (a && true) ≡ a
and_true true = refl
and_true false = refl

pub all_append : (before xs ys : List Entry) → can_follow_all before (xs ++ ys)
    ≡ (can_follow_all before xs && can_follow_all (before ++ xs) ys)
all_append before [] ys = ap (λ l. can_follow_all l ys) (sym (append-nil before))
all_append before (x ∷ xs) ys =
    ap (λ b. can_follow before x && b) (all_append (before ++ x ∷ []) xs ys)
    ∙ (and_assoc (can_follow before x) (can_follow_all (before ++ x ∷ []) xs)
    (can_follow_all (before ++ x ∷ [] ++ xs) ys)
    ∙ ap (λ l. (can_follow before x && can_follow_all (before ++ x ∷ []) xs) && can_follow_all l ys)
    (append_assoc before (x ∷ []) xs))
  where
    and_assoc : (a b c : Bool) → (a && (b && c)) ≡ ((a && b) && c)
    and_assoc true b c = refl
    and_assoc false b c = refl

pub at_none : (entries : List Entry) (path : List ℕ) → entry_of_path entries path ≡ None → has_entry entries path
    ≡ false
at_none [] path none = refl
at_none (e ∷ entries) path none = by_test (bytes_eq path e.path) none (at_none entries path)
  where
    by_test : (t : Bool) → (if t then Some e else entry_of_path entries path) ≡ None
        → (entry_of_path entries path ≡ None → has_entry entries path ≡ false)
        → (t || has_entry entries path) ≡ false
    by_test true none later = absurd cc
    by_test false none later = later none

pub at_some : (entries : List Entry) (path : List ℕ) (x : Entry) → entry_of_path entries path ≡ Some x
    → has_entry entries path ≡ true
at_some [] path x is = absurd cc
at_some (e ∷ entries) path x is = by_test (bytes_eq path e.path) is (at_some entries path x)
  where
    by_test : (t : Bool) → (if t then Some e else entry_of_path entries path) ≡ Some x
        → (entry_of_path entries path ≡ Some x → has_entry entries path ≡ true)
        → (t || has_entry entries path) ≡ true
    by_test true is later = refl
    by_test false is later = later is

pub at_append : (xs ys : List Entry) (path : List ℕ) (x : Entry) → entry_of_path xs path ≡ Some x
    → entry_of_path (xs ++ ys) path
    ≡ Some x
at_append [] ys path x is = absurd cc
at_append (e ∷ xs) ys path x is = by_test (bytes_eq path e.path) is (at_append xs ys path x)
  where
    by_test : (t : Bool) → (if t then Some e else entry_of_path xs path) ≡ Some x
        → (entry_of_path xs path ≡ Some x → entry_of_path (xs ++ ys) path ≡ Some x)
        → (if t then Some e else entry_of_path (xs ++ ys) path) ≡ Some x
    by_test true is later = is
    by_test false is later = later is

at_after : (xs ys : List Entry) (path : List ℕ) → entry_of_path xs path ≡ None → entry_of_path (xs ++ ys) path
    ≡ entry_of_path ys path
at_after [] ys path none = refl
at_after (e ∷ xs) ys path none = by_test (bytes_eq path e.path) none (at_after xs ys path)
  where
    by_test : (t : Bool) → (if t then Some e else entry_of_path xs path) ≡ None
        → (entry_of_path xs path ≡ None → entry_of_path (xs ++ ys) path ≡ entry_of_path ys path)
        → (if t then Some e else entry_of_path (xs ++ ys) path) ≡ entry_of_path ys path
    by_test true none later = absurd cc
    by_test false none later = later none

got_before : (xs ys : List Entry) (n : ℕ) (x : Entry) → slice_get xs n ≡ Some x → slice_get (xs ++ ys) n ≡ Some x
got_before [] ys n x is = absurd cc
got_before (e ∷ xs) ys zero x is = is
got_before (e ∷ xs) ys (suc n) x is = got_before xs ys n x is

got_at : (xs : List Entry) (x : Entry) (n : ℕ) → length xs ≡ n → slice_get (xs ++ x ∷ []) n ≡ Some x
got_at [] x zero is = refl
got_at [] x (suc n) is = absurd cc
got_at (e ∷ xs) x zero is = absurd cc
got_at (e ∷ xs) x (suc n) is = got_at xs x n (omega (arith, is))

-- An entry is recorded that may follow these.
pub index_more : (entries : List Entry) (places : Places) (e : Entry) (n : ℕ) → length entries ≡ n
    → IsIndexOf entries places
    → can_follow entries e ≡ true → places e.path ≡ None → IsIndexOf (entries ++ e ∷ []) (with_place places e.path n)
index_more entries places e n len h fits free = record {
  listing = all_append [] entries (e ∷ []) ∙ (λ i. h.listing i && (and_true (can_follow entries e) ∙ fits) i);
  placed = λ path. by_test path (bytes_eq path e.path) refl;
}
  where
    none_at : (path : List ℕ) (o : Option ℕ) → places path ≡ o → o ≡ None → entry_of_path entries path ≡ None
    none_at path None is none = subst (λ (o : Option ℕ). IsPlaceOf entries path o) is (h.placed path)
    none_at path (Some k) is none = absurd cc

    old : (path : List ℕ) (o : Option ℕ) → bytes_eq path e.path ≡ false → IsPlaceOf entries path o
        → IsPlaceOf (entries ++ e ∷ []) path o
    old path None other none = at_after entries (e ∷ []) path none
        ∙ ap (λ (t : Bool). if t then Some e else None) other
    old path (Some k) other found =
        (found.0, got_before entries (e ∷ []) k found.0 found.1, at_append entries (e ∷ []) path found.0 found.2)

    by_test : (path : List ℕ) (t : Bool) → bytes_eq path e.path ≡ t
        → IsPlaceOf (entries ++ e ∷ []) path (if t then Some n else places path)
    by_test path true is =
        let same : path ≡ e.path = (bytes_eq-Decides path e.path).0 is in
        let none : entry_of_path entries path ≡ None = none_at path (places path) refl
        (ap (λ (p : List ℕ). places p) same ∙ free) in (
          e,
          got_at entries e n len,
          at_after entries (e ∷ []) path none
              ∙ ap (λ (t : Bool). if t then Some e else None) is,
        )
    by_test path false is = old path (places path) is (h.placed path)

-- An entry without a fault may follow these.
fault_tests : (named parent there : Bool) (place : ℕ)
    → (if not named then Some (BadName place) else if not parent then Some (NoDirectory place)
    else if there then Some (Twice place) else None) ≡ None
    → (named && parent && not there) ≡ true
fault_tests false parent there place none = absurd cc
fault_tests true false there place none = absurd cc
fault_tests true true true place none = absurd cc
fault_tests true true false place none = refl

found_test : (entries : List Entry) (places : Places) (path : List ℕ) (o : Option ℕ) → places path ≡ o
    → IsPlaceOf entries path o
    → is_some o ≡ has_entry entries path
found_test entries places path None is h = sym (at_none entries path h)
found_test entries places path (Some k) is h = sym (at_some entries path h.0 h.2)

tests : (entries : List Entry) (places : Places) (directories : Paths) (place : ℕ) (e : Entry)
    → IsIndexOf entries places
    → directories ≡ has_open_directory entries
    → listing_fault places directories place e
    ≡ (if not (is_component (name_in_directory e.path)) then Some (BadName place)
    else if not (has_open_directory entries (directory_of e.path)) then Some (NoDirectory place)
    else if has_entry entries e.path then Some (Twice place) else None)
tests entries places directories place e h opens =
    λ i. if not (is_component (name_in_directory e.path)) then Some (BadName place)
    else if not (opens i (directory_of e.path)) then Some (NoDirectory place)
    else if found_test entries places e.path (places e.path) refl (h.placed e.path) i then Some (Twice place) else None

pub no_fault : (entries : List Entry) (places : Places) (directories : Paths) (place : ℕ) (e : Entry)
    → IsIndexOf entries places
    → directories ≡ has_open_directory entries → listing_fault places directories place e ≡ None → can_follow entries e
    ≡ true
no_fault entries places directories place e h opens none =
    fault_tests (is_component (name_in_directory e.path)) (has_open_directory entries (directory_of e.path))
    (has_entry entries e.path) place
    (sym (tests entries places directories place e h opens) ∙ none)

free_of : (o : Option ℕ) (a b : Option ListingError) (place : ℕ) → (named parent : Bool)
    → (if not named then a else if not parent then b else if is_some o then Some (Twice place) else None) ≡ None
    → a ≡ Some (BadName place) → b ≡ Some (NoDirectory place) → o ≡ None
free_of None a b place named parent none ha hb = refl
free_of (Some k) a b place false parent none ha hb = absurd cc
free_of (Some k) a b place true false none ha hb = absurd cc
free_of (Some k) a b place true true none ha hb = absurd cc

pub is_free : (places : Places) (directories : Paths) (place : ℕ) (e : Entry) → listing_fault places directories place e
    ≡ None
    → places e.path ≡ None
is_free places directories place e none =
    free_of (places e.path) (Some (BadName place)) (Some (NoDirectory place)) place
    (is_component (name_in_directory e.path))
    (directories (directory_of e.path)) none refl refl

-- The fault of an entry that may not follow those before it, by the tests.
which_fault : (entries : List Entry) (i : ℕ) (e : Entry) (fault : ListingError) (named parent there : Bool)
    → is_component (name_in_directory e.path) ≡ named
    → has_open_directory (take i entries) (directory_of e.path) ≡ parent
    → has_entry (take i entries) e.path ≡ there
    → slice_get entries i ≡ Some e
    → is_listing (take i entries) ≡ true
    → (if not named then Some (BadName i) else if not parent then Some (NoDirectory i)
    else if there then Some (Twice i) else None) ≡ Some fault
    → IsFault entries fault
which_fault entries i e fault false parent there is_named is_parent is_there at before is =
    let same : BadName i ≡ fault = cc in
    subst (λ (f : ListingError). IsFault entries f) same
    (record { entry = e; at = at; before = before; fault = λ j. not (is_named j) })
which_fault entries i e fault true false there is_named is_parent is_there at before is =
    let same : NoDirectory i ≡ fault = cc in
    subst (λ (f : ListingError). IsFault entries f) same
    (record { entry = e; at = at; before = before; fault = λ j. not (is_parent j) })
which_fault entries i e fault true true true is_named is_parent is_there at before is =
    let same : Twice i ≡ fault = cc in
    subst (λ (f : ListingError). IsFault entries f) same
    (record { entry = e; at = at; before = before; fault = is_there })
which_fault entries i e fault true true false is_named is_parent is_there at before is = absurd cc

-- The fault that was found is that of the first entry that is at fault.
pub first_fault : (entries : List Entry) (i : ℕ) (e : Entry) (places : Places) (directories : Paths)
    (fault : ListingError)
    → i < length entries → e ≡ get_or entries i e → IsIndexOf (take i entries) places → directories
    ≡ has_open_directory (take i entries)
    → listing_fault places directories i e ≡ Some fault → IsFault entries fault
first_fault entries i e places directories fault within is h opens has =
    which_fault entries i e fault (is_component (name_in_directory e.path))
    (has_open_directory (take i entries) (directory_of e.path))
    (has_entry (take i entries) e.path) refl refl refl
    (slice_get-get_or entries i e within ∙ ap (λ (x : Entry). Some x) (sym is)) h.listing
    (sym (tests (take i entries) places directories i e h opens) ∙ has)

or_in : (a r b o : Bool) → o ≡ true → ((a || r) || b) ≡ (a || (r || ((b && o) || false)))
or_in true r b o is = refl
or_in false true b o is = refl
or_in false false true true is = refl
or_in false false true false is = absurd cc
or_in false false false o is = refl

or_out : (a r b o : Bool) → o ≡ false → (a || r) ≡ (a || (r || ((b && o) || false)))
or_out true r b o is = refl
or_out false true b o is = refl
or_out false false true true is = absurd cc
or_out false false true false is = refl
or_out false false false o is = refl

-- Another directory, if the entry is one.
pub opens_more : (entries : List Entry) (e : Entry) → with_open_directory (has_open_directory entries) e
    ≡ has_open_directory (entries ++ e ∷ [])
opens_more entries e = λ i. λ path. (by_test path (is_open_directory e) refl
    ∙ ap (λ b. bytes_eq path [] || b) (sym (list_any-append (λ (x : Entry). bytes_eq path x.path && is_open_directory x)
    entries (e ∷ [])))) i
  where
    by_test : (path : List ℕ) (t : Bool) → is_open_directory e ≡ t
        → (if t then with_path (has_open_directory entries) e.path else has_open_directory entries) path
        ≡ (bytes_eq path [] || (list_any (λ (x : Entry). bytes_eq path x.path && is_open_directory x) entries
        || ((bytes_eq path e.path && is_open_directory e) || false)))
    by_test path true is = or_in (bytes_eq path []) (list_any (λ (x : Entry). bytes_eq path x.path
        && is_open_directory x) entries) (bytes_eq path e.path) (is_open_directory e) is
    by_test path false is = or_out (bytes_eq path []) (list_any
        (λ (x : Entry). bytes_eq path x.path && is_open_directory x) entries) (bytes_eq path e.path)
        (is_open_directory e) is

-- ---- The loop over a walk

-- The places and the directories are those of these entries.
pub record IsRecorded (entries : List Entry) (places : Places) (directories : Paths) : Type 0 where
  pub indexed : IsIndexOf entries places
  pub directories_are : directories ≡ has_open_directory entries

pub recorded : (entries : List Entry) (i : ℕ) (e : Entry) (places new : Places) (directories wider : Paths)
    → i < length entries
    → e ≡ get_or entries i e → IsIndexOf (take i entries) places → directories ≡ has_open_directory (take i entries)
    → listing_fault places directories i e ≡ None → new ≡ with_place places e.path i → wider
    ≡ with_open_directory directories e
    → IsRecorded (take (i + 1) entries) new wider
recorded entries i e places new directories wider within is h opens none placed widened =
    let len : length (take i entries) ≡ i = length-take-le i entries (omega arith) in
    let all : take (i + 1) entries ≡ take i entries ++ e ∷ [] =
    take_more entries i e within ∙ ap (λ (x : Entry). take i entries ++ x ∷ []) (sym is) in
    let more : IsIndexOf (take i entries ++ e ∷ []) (with_place places e.path i) =
    index_more (take i entries) places e i len h (no_fault (take i entries) places directories i e h opens none)
    (is_free places directories i e none) in
    record {
      indexed = subst (λ (l : List Entry). IsIndexOf l new) (sym all)
          (subst (λ (p : Places). IsIndexOf (take i entries ++ e ∷ []) p) (sym placed) more);
      directories_are = widened
          ∙ (ap (λ (p : Paths). with_open_directory p e) opens
          ∙ (opens_more (take i entries) e ∙ ap (λ (l : List Entry). has_open_directory l) (sym all)));
    }

pub nothing_recorded : (places : Places) → places ≡ no_place → IsIndexOf [] places
nothing_recorded places is = record {
  listing = refl;
  placed = λ path. subst (λ (o : Option ℕ). IsPlaceOf [] path o) (λ i. sym is i path) refl;
}

pub nothing_opens : (old new : Paths) (path : List ℕ) → old ≡ no_path → path ≡ [] → new ≡ with_path old path → new
    ≡ has_open_directory []
nothing_opens old new path none empty is = λ i. λ other. (ap (λ (p : Paths). p other) is
    ∙ ((λ j. none j other || bytes_eq other (empty j)) ∙ sym (or_false (bytes_eq other [])))) i
