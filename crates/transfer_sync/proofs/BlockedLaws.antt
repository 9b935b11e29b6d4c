-- The entries of the source for which nothing is done.
use Rattle.std.proofs.Common.{◌≡◌, ◌||◌, ◌⊎◌, ℕ, Bool, true, false, List, [], ◌∷◌, ◌++◌, ◌∙◌, Some, refl, ap, subst, inl, inr, if◌then◌else◌}
use Rattle.std.specs.Str.{bytes_eq}
use Rattle.transfer_sync.specs.Listings.{can_follow_all, has_entry, is_listing}
use Rattle.transfer_sync.specs.Entries.{entry_of_path}
use Rattle.transfer_sync.specs.Paths.{Paths, directory_of, no_path, with_path}
use Rattle.transfer_sync.specs.Verdicts.{blocked_after_entries, blocked_after_entry, blocked_paths, entry_left_at, is_blocked, is_ignored, is_in_way, sweep_of}
use Rattle.transfer_sync.specs.Theorems.{HasSkipReason, skips_entry}
use Rattle.transfer_sync.specs.declared.entry.Entry.{Entry}
use Rattle.transfer_sync.specs.declared.rules.Rules.{Rules}
use Rattle.transfer_sync.proofs.ListingLaws.{IsIn, at_in, clash, elsewhere, head_follower, is_same, none_left, none_right, one_of, opens_more, same_path, some_left, some_right, tail_listed}

abbrev blocked_by : Bool → Paths → Entry → Paths
blocked_by t b x = if t then with_path b x.path else b

-- A blocked path stays blocked.
grows : (gone : Paths) (target : List Entry) (b : Paths) (xs : List Entry) (p : List ℕ) → b p ≡ true
    → blocked_after_entries gone target b xs p ≡ true
grows gone target b [] p is = is
grows gone target b (x ∷ xs) p is = grows gone target (blocked_after_entry gone target b x) xs p
    (by_test (is_blocked gone target b x))
  where
    by_test : (t : Bool) → blocked_by t b x p ≡ true
    by_test true = some_left (b p) (bytes_eq p x.path) is
    by_test false = is

-- Only paths of entries become blocked.
from_list : (gone : Paths) (target : List Entry) (b : Paths) (xs : List Entry) (p : List ℕ) → has_entry xs p ≡ false
    → blocked_after_entries gone target b xs p ≡ b p
from_list gone target b [] p free = refl
from_list gone target b (x ∷ xs) p free =
    from_list gone target (blocked_after_entry gone target b x) xs p
    (none_right (bytes_eq p x.path) (has_entry xs p) free)
    ∙ by_test (is_blocked gone target b x)
  where
    or_none : (a c : Bool) → c ≡ false → (a || c) ≡ a
    or_none true c is = refl
    or_none false c is = is

    by_test : (t : Bool) → blocked_by t b x p ≡ b p
    by_test true = or_none (b p) (bytes_eq p x.path) (none_left (bytes_eq p x.path) (has_entry xs p) free)
    by_test false = refl

-- An entry whose path is not blocked at the end is not blocked by the paths at the end.
pub not_blocked : (gone : Paths) (target : List Entry) (b : Paths) (before xs : List Entry) (e : Entry)
    → can_follow_all before xs ≡ true
    → IsIn xs e → blocked_after_entries gone target b xs e.path ≡ false
    → is_blocked gone target (blocked_after_entries gone target b xs) e ≡ false
not_blocked gone target b before [] e h is free = absurd is
not_blocked gone target b before (x ∷ later) e h (inr is) free =
    not_blocked gone target (blocked_after_entry gone target b x) (before ++ x ∷ []) later e
    (tail_listed before x later h) is free
not_blocked gone target b before (x ∷ later) e h (inl is) free =
    subst (λ (y : Entry). is_blocked gone target (blocked_after_entries gone target
    (blocked_after_entry gone target b x) later) y ≡ false) is
    (by_test (is_blocked gone target b x) refl
    (ap (λ (y : Entry). blocked_after_entries gone target (blocked_after_entry gone target b x) later y.path) is
    ∙ free))
  where
    by_test : (t : Bool) → is_blocked gone target b x ≡ t → blocked_after_entries gone target (blocked_by t b x) later
        x.path ≡ false
        → is_blocked gone target (blocked_after_entries gone target (blocked_by t b x) later) x ≡ false
    by_test true test free =
        clash (blocked_after_entries gone target (blocked_by true b x) later x.path)
        (grows gone target (blocked_by true b x) later x.path (some_right (b x.path) (bytes_eq x.path x.path)
        (same_path x.path))) free
    by_test false test free =
        let same : blocked_after_entries gone target b later (directory_of x.path) ≡ b (directory_of x.path) =
        from_list gone target b later (directory_of x.path)
        (elsewhere (before ++ x ∷ []) later (directory_of x.path) (tail_listed before x later h)
        (opens_more before x (directory_of x.path) (head_follower before x later h).has_parent)) in
        (λ i. is_ignored x || same i || is_in_way (entry_left_at gone target x.path) x.kind) ∙ test

-- ---- Why a path is blocked

-- An entry of that path is blocked.
pub record IsBlockedEntry (gone : Paths) (target : List Entry) (final : Paths) (xs : List Entry) (p : List ℕ) : Type 0
  where
    pub entry : Entry
    pub among : IsIn xs entry
    pub at : p ≡ entry.path
    pub skip_reason : is_blocked gone target final entry ≡ true

-- An entry that is blocked by earlier paths is blocked by the paths at the end.
later_too : (gone : Paths) (target : List Entry) (b final : Paths) (x : Entry)
    → ((p : List ℕ) → b p ≡ true → final p ≡ true) → is_blocked gone target b x ≡ true → is_blocked gone target final x
    ≡ true
later_too gone target b final x more is =
    elim (one_of (is_ignored x || b (directory_of x.path)) (is_in_way (entry_left_at gone target x.path) x.kind) is) [
      | inl first ↦
          some_left (is_ignored x || final (directory_of x.path)) (is_in_way (entry_left_at gone target x.path) x.kind)
          (elim (one_of (is_ignored x) (b (directory_of x.path)) first) [
            | inl out ↦ some_left (is_ignored x) (final (directory_of x.path)) out
            | inr above ↦ some_right (is_ignored x) (final (directory_of x.path)) (more (directory_of x.path) above)
          ])
      | inr way ↦ some_right (is_ignored x || final (directory_of x.path))
          (is_in_way (entry_left_at gone target x.path) x.kind) way
    ]

pub blocked_why : (gone : Paths) (target : List Entry) (b : Paths) (xs : List Entry) (p : List ℕ)
    → blocked_after_entries gone target b xs p ≡ true → (b p ≡ true)
    ⊎ IsBlockedEntry gone target (blocked_after_entries gone target b xs) xs p
blocked_why gone target b [] p is = inl is
blocked_why gone target b (x ∷ xs) p is =
    elim (blocked_why gone target (blocked_after_entry gone target b x) xs p is) [
      | inl early ↦ by_test (is_blocked gone target b x) refl early
      | inr h ↦ inr (record { entry = h.entry; among = inr h.among; at = h.at; skip_reason = h.skip_reason })
    ]
  where
    more : (q : List ℕ) → b q ≡ true → blocked_after_entries gone target (blocked_after_entry gone target b x) xs q
        ≡ true
    more q at = grows gone target b (x ∷ xs) q at

    by_test : (t : Bool) → is_blocked gone target b x ≡ t → blocked_by t b x p ≡ true
        → (b p ≡ true) ⊎ IsBlockedEntry gone target (blocked_after_entries gone target
        (blocked_after_entry gone target b x) xs) (x ∷ xs) p
    by_test false test early = inl early
    by_test true test early = elim (one_of (b p) (bytes_eq p x.path) early) [
      | inl old ↦ inl old
      | inr here ↦ inr (record {
        entry = x;
        among = inl refl;
        at = is_same p x.path here;
        skip_reason = later_too gone target b (blocked_after_entries gone target (blocked_after_entry gone target b x)
            xs) x more test;
      })
    ]

-- A skipped entry is ignored, has something in its way, or is in a skipped directory.
pub skip_reason : (rules : Rules) (source target : List Entry) → is_listing source ≡ true → (s : Entry)
    → skips_entry rules source target s ≡ true → HasSkipReason rules source target s
skip_reason rules source target listed s is =
    elim (one_of (is_ignored s || blocked_paths rules source target (directory_of s.path))
    (is_in_way (entry_left_at (sweep_of rules source target).gone target s.path) s.kind) is) [
      | inl first ↦ elim (one_of (is_ignored s) (blocked_paths rules source target (directory_of s.path)) first) [
        | inl out ↦ inl out
        | inr above ↦ inr (inr (by_why
            (blocked_why (sweep_of rules source target).gone target no_path source (directory_of s.path) above)))
      ]
      | inr way ↦ inr (inl way)
    ]
  where
    by_why : (false ≡ true) ⊎ IsBlockedEntry (sweep_of rules source target).gone target
        (blocked_paths rules source target) source (directory_of s.path)
        → (f : Entry) × (entry_of_path source (directory_of s.path) ≡ Some f)
        × (skips_entry rules source target f ≡ true)
    by_why (inl bad) = absurd cc
    by_why (inr h) = (
      h.entry,
      ap (λ (q : List ℕ). entry_of_path source q) h.at ∙ at_in [] source h.entry listed h.among,
      h.skip_reason,
    )
