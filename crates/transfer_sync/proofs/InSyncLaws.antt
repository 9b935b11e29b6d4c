-- If nothing differs, nothing is done.
use Rattle.std.proofs.Common.{◌≡◌, ◌&&◌, ◌||◌, ℕ, Bool, true, false, not, List, [], ◌∷◌, ◌++◌, ◌∙◌, Option, Some, None, map, refl, ap, inl, inr, if◌then◌else◌}
use Rattle.transfer_sync.specs.Entries.{entry_of_path, is_directory, is_file, is_link, is_same_kind}
use Rattle.transfer_sync.specs.Listings.{is_listing}
use Rattle.transfer_sync.specs.Paths.{Paths, directory_of, with_path}
use Rattle.transfer_sync.specs.Theorems.{AreInSync, is_up_to_date}
use Rattle.transfer_sync.specs.Verdicts.{
  SweepValue,
  blocked_paths,
  choice_of,
  conflicts_of,
  entry_left_at,
  has_other_attributes,
  is_blocked,
  is_conflict,
  is_ignored,
  is_in_source,
  is_in_way,
  is_other_content,
  is_other_kind,
  stays_in_target,
  sweep_of,
}
use Rattle.transfer_sync.specs.Actions.{action_of, actions_of, actions_of_part, has_part_action, is_in_part, removal_action}
use Rattle.transfer_sync.specs.declared.entry.Entry.{Entry}
use Rattle.transfer_sync.specs.declared.rules.Rules.{Rules}
use Rattle.transfer_sync.specs.declared.verdict.Part.{Part}
use Rattle.transfer_sync.specs.declared.verdict.Part.TheVariants.{Directories, Files, Links, Attributes}
use Rattle.transfer_sync.proofs.ListingLaws.{IsIn, at_in, both_left, both_right, none_left, not_so}

abbrev sweep_by : Bool → SweepValue → Entry → SweepValue
sweep_by t w x = if t then record w { kept = with_path w.kept (directory_of x.path) }
    else record w { gone = with_path w.gone x.path; removed = w.removed ++ x ∷ [] }

pub choice_none : {X : Type 0} (test : Entry → Bool) (make : Entry → X) (xs : List Entry)
    → ((e : Entry) → IsIn xs e → test e ≡ false) → choice_of test make xs ≡ []
choice_none test make [] fails = refl
choice_none test make (x ∷ xs) fails =
    ap (λ (t : Bool). if t then make x ∷ choice_of test make xs else choice_of test make xs) (fails x (inl refl))
    ∙ choice_none test make xs (λ e is. fails e (inr is))

-- ---- The target

stay_by : (nd ex kept wanted : Bool) → (nd || ex || wanted) ≡ true → (nd || ex || kept || wanted) ≡ true
stay_by true ex kept wanted is = refl
stay_by false true kept wanted is = refl
stay_by false false true wanted is = refl
stay_by false false false wanted is = is

-- Nothing is removed.
pub record RemovesNothing (rules : Rules) (source xs : List Entry) : Type 0 where
  pub removed : (sweep_of rules source xs).removed ≡ []
  pub gone : (p : List ℕ) → (sweep_of rules source xs).gone p ≡ false

pub still : (rules : Rules) (source xs : List Entry)
    → ((t : Entry) → IsIn xs t → (not rules.delete || t.excluded || is_in_source (entry_of_path source t.path) t)
    ≡ true)
    → RemovesNothing rules source xs
still rules source [] all = record { removed = refl; gone = λ p. refl }
still rules source (x ∷ xs) all =
    let later = still rules source xs (λ t is. all t (inr is)) in
    let test : stays_in_target rules source (sweep_of rules source xs).kept x ≡ true =
    stay_by (not rules.delete) x.excluded ((sweep_of rules source xs).kept x.path)
    (is_in_source (entry_of_path source x.path) x) (all x (inl refl)) in
    record {
      removed = ap (λ (t : Bool). (sweep_by t (sweep_of rules source xs) x).removed) test ∙ later.removed;
      gone = λ p. ap (λ (t : Bool). (sweep_by t (sweep_of rules source xs) x).gone p) test ∙ later.gone p;
    }

-- ---- The source

pub not_due : (rules : Rules) (part : Part) (s : Entry) (o : Option Entry) → is_up_to_date rules s o ≡ true
    → has_part_action rules part o s.kind ≡ false
not_due rules part s None asked = absurd cc
not_due rules part s (Some t) asked = by_part part
  where
    first : (not t.excluded && is_same_kind s.kind t.kind && not (is_other_content rules s.kind t.kind)) ≡ true
    first = both_left (not t.excluded && is_same_kind s.kind t.kind && not (is_other_content rules s.kind t.kind))
        (not (rules.keep && has_other_attributes s.kind t.kind)) asked

    as_it_is : is_other_content rules s.kind t.kind ≡ false
    as_it_is = not_so (is_other_content rules s.kind t.kind)
        (both_right (not t.excluded && is_same_kind s.kind t.kind) (not (is_other_content rules s.kind t.kind)) first)

    attributes : (rules.keep && has_other_attributes s.kind t.kind) ≡ false
    attributes = not_so (rules.keep && has_other_attributes s.kind t.kind)
        (both_right (not t.excluded && is_same_kind s.kind t.kind && not (is_other_content rules s.kind t.kind))
        (not (rules.keep && has_other_attributes s.kind t.kind)) asked)

    and_none : (a b : Bool) → b ≡ false → (a && b) ≡ false
    and_none true b is = is
    and_none false b is = refl

    three : (a b c : Bool) → (a && c) ≡ false → (a && b && c) ≡ false
    three true true c is = is
    three true false c is = refl
    three false b c is = refl

    by_part : (p : Part) → has_part_action rules p (Some t) s.kind ≡ false
    by_part Directories = and_none (is_directory s.kind) (is_other_content rules s.kind t.kind) as_it_is
    by_part Files = and_none (is_file s.kind) (is_other_content rules s.kind t.kind) as_it_is
    by_part Links = and_none (is_link s.kind) (is_other_content rules s.kind t.kind) as_it_is
    by_part Attributes = three rules.keep (not (is_other_content rules s.kind t.kind))
        (has_other_attributes s.kind t.kind) attributes

no_conflict : (rules : Rules) (s : Entry) (o : Option Entry) → is_up_to_date rules s o ≡ true → is_other_kind o s.kind
    ≡ false
no_conflict rules s None asked = refl
no_conflict rules s (Some t) asked =
    let first : (not t.excluded && is_same_kind s.kind t.kind) ≡ true =
    both_left (not t.excluded && is_same_kind s.kind t.kind) (not (is_other_content rules s.kind t.kind))
    (both_left (not t.excluded && is_same_kind s.kind t.kind && not (is_other_content rules s.kind t.kind))
    (not (rules.keep && has_other_attributes s.kind t.kind)) asked) in
    let same : is_same_kind s.kind t.kind ≡ true = both_right (not t.excluded) (is_same_kind s.kind t.kind) first in
    ap (λ (b : Bool). not t.excluded && not b) same ∙ and_false (not t.excluded)
  where
    and_false : (a : Bool) → (a && false) ≡ false
    and_false true = refl
    and_false false = refl

module _ (rules : Rules) (source target : List Entry) (listed : is_listing source ≡ true)
    (found : is_listing target ≡ true)
    (alike : AreInSync rules source target) where
  is_still : RemovesNothing rules source target
  is_still = still rules source target (λ t is. alike.target_entries t.path t (at_in [] target t found is))

  left_as : (e : Entry) → entry_left_at (sweep_of rules source target).gone target e.path ≡ entry_of_path target e.path
  left_as e = ap (λ (t : Bool). if t then None else entry_of_path target e.path) (is_still.gone e.path)

  asked : (e : Entry) → IsIn source e → is_ignored e ≡ false
      → is_up_to_date rules e (entry_left_at (sweep_of rules source target).gone target e.path) ≡ true
  asked e is out = ap (λ (o : Option Entry). is_up_to_date rules e o) (left_as e)
      ∙ alike.source_entries e.path e (at_in [] source e listed is) out

  not_in_part : (part : Part) (blocked : Paths) (e : Entry) → IsIn source e
      → is_in_part rules part (sweep_of rules source target).gone target blocked e ≡ false
  not_in_part part blocked e is = by_test (is_blocked (sweep_of rules source target).gone target blocked e) refl
    where
      by_test : (t : Bool) → is_blocked (sweep_of rules source target).gone target blocked e ≡ t
          → (not t && has_part_action rules part (entry_left_at (sweep_of rules source target).gone target e.path)
          e.kind) ≡ false
      by_test true test = refl
      by_test false test =
          let out : is_ignored e ≡ false =
          none_left (is_ignored e) (blocked (directory_of e.path))
          (none_left (is_ignored e || blocked (directory_of e.path))
          (is_in_way (entry_left_at (sweep_of rules source target).gone target e.path) e.kind) test) in
          not_due rules part e (entry_left_at (sweep_of rules source target).gone target e.path) (asked e is out)

  no_part : (part : Part) (blocked : Paths) → actions_of_part rules part (sweep_of rules source target).gone target
      blocked source ≡ []
  no_part part blocked = choice_none (is_in_part rules part (sweep_of rules source target).gone target blocked)
      (action_of part) source
      (λ e is. not_in_part part blocked e is)

  pub no_action_needed : actions_of rules source target ≡ []
  no_action_needed = λ i. map removal_action (is_still.removed i)
      ++ (no_part Directories (blocked_paths rules source target) i
      ++ (no_part Files (blocked_paths rules source target) i
      ++ (no_part Links (blocked_paths rules source target) i ++ no_part Attributes (blocked_paths rules source target)
      i)))

  pub no_conflict_reported : conflicts_of rules source target ≡ []
  no_conflict_reported = choice_none
      (is_conflict (sweep_of rules source target).gone target (blocked_paths rules source target))
      (λ (e : Entry). e.path) source
      (λ e is. by_test e is (is_ignored e || blocked_paths rules source target (directory_of e.path)) refl)
    where
      by_test : (e : Entry) → IsIn source e → (t : Bool) → (is_ignored e
          || blocked_paths rules source target (directory_of e.path)) ≡ t
          → (not t && is_other_kind (entry_left_at (sweep_of rules source target).gone target e.path) e.kind) ≡ false
      by_test e is true test = refl
      by_test e is false test =
          no_conflict rules e (entry_left_at (sweep_of rules source target).gone target e.path)
          (asked e is (none_left (is_ignored e) (blocked_paths rules source target (directory_of e.path)) test))
