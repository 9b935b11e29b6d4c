-- No action is at a path that is up to date, nor at one that is not listed.
use Rattle.std.proofs.Common.{◌≡◌, ◌&&◌, ◌||◌, ℕ, Bool, true, false, not, List, [], ◌∷◌, ◌++◌, ◌∙◌, Option, Some, None, map, refl, sym, ap, inl, inr, if◌then◌else◌}
use Rattle.std.specs.Str.{bytes_eq}
use Rattle.transfer_sync.specs.Entries.{entry_of_path, is_directory, is_file, is_link, is_same_kind}
use Rattle.transfer_sync.specs.Listings.{is_listing}
use Rattle.transfer_sync.specs.Paths.{Paths}
use Rattle.transfer_sync.specs.Theorems.{HasNoActionAt, is_up_to_date}
use Rattle.transfer_sync.specs.Actions.{action_of, actions_of, actions_of_part, has_part_action, is_in_part, removal_action, removal_actions}
use Rattle.transfer_sync.specs.Verdicts.{blocked_paths, entry_left_at, has_other_attributes, is_blocked, is_ignored, is_in_source, is_other_content, sweep_of}
use Rattle.transfer_sync.specs.declared.action.Action.{Action}
use Rattle.transfer_sync.specs.declared.entry.Entry.{Entry}
use Rattle.transfer_sync.specs.declared.rules.Rules.{Rules}
use Rattle.transfer_sync.specs.declared.verdict.Part.{Part}
use Rattle.transfer_sync.specs.declared.verdict.Part.TheVariants.{Directories, Files, Links, Attributes}
use Rattle.transfer_sync.proofs.ListingLaws.{IsIn, at_in, both_left, both_right, clash, in_at, is_same, none_left, none_right, one_in}
use Rattle.transfer_sync.proofs.InSyncLaws.{not_due}
use Rattle.transfer_sync.proofs.InterruptLaws.{removed_are}
use Rattle.transfer_sync.proofs.SweepLaws.{gone_is}

not_at : (p q : List ℕ) → (q ≡ p → ⊥) → bytes_eq p q ≡ false
not_at p q distinct_path = by_test (bytes_eq p q) refl
  where
    by_test : (t : Bool) → bytes_eq p q ≡ t → bytes_eq p q ≡ false
    by_test false is = is
    by_test true is = absurd (distinct_path (sym (is_same p q is)))

no_action_append : (xs ys : List Action) (p : List ℕ) → HasNoActionAt xs p → HasNoActionAt ys p
    → HasNoActionAt (xs ++ ys) p
no_action_append [] ys p a b = b
no_action_append (x ∷ xs) ys p a b = (a.0, no_action_append xs ys p a.1 b)

no_removal_at : (p : List ℕ) (rs : List Entry) → ((r : Entry) → IsIn rs r → r.path ≡ p → ⊥)
    → HasNoActionAt (map removal_action rs) p
no_removal_at p [] all = tt
no_removal_at p (r ∷ rs) all = (not_at p r.path (all r (inl refl)), no_removal_at p rs (λ q i. all q (inr i)))

no_part_action_at : (rules : Rules) (part : Part) (gone : Paths) (target : List Entry) (blocked : Paths) (p : List ℕ)
    (xs : List Entry)
    → ((e : Entry) → IsIn xs e → e.path ≡ p → is_in_part rules part gone target blocked e ≡ false)
    → HasNoActionAt (actions_of_part rules part gone target blocked xs) p
no_part_action_at rules part gone target blocked p [] all = tt
no_part_action_at rules part gone target blocked p (x ∷ xs) all =
    by_test (is_in_part rules part gone target blocked x) refl
    (no_part_action_at rules part gone target blocked p xs (λ e i. all e (inr i)))
  where
    by_test : (b : Bool) → is_in_part rules part gone target blocked x ≡ b
        → HasNoActionAt (actions_of_part rules part gone target blocked xs) p
        → HasNoActionAt (if b then action_of part x ∷ actions_of_part rules part gone target blocked xs else
        actions_of_part rules part gone target blocked xs) p
    by_test true is more =
        (not_at p x.path (λ same. clash (is_in_part rules part gone target blocked x) is (all x (inl refl) same)), more)
    by_test false is more = more

module _ (rules : Rules) (source target : List Entry) (p : List ℕ) where
  no_action_at : ((r : Entry) → IsIn (sweep_of rules source target).removed r → r.path ≡ p → ⊥)
      → ((part : Part) (e : Entry) → IsIn source e → e.path ≡ p
      → is_in_part rules part (sweep_of rules source target).gone target (blocked_paths rules source target) e ≡ false)
      → HasNoActionAt (actions_of rules source target) p
  no_action_at removed parts =
      no_action_append (removal_actions rules source target) (of Directories
      ++ (of Files ++ (of Links ++ of Attributes))) p
      (no_removal_at p (sweep_of rules source target).removed removed)
      (no_action_append (of Directories) (of Files ++ (of Links ++ of Attributes)) p (no_part_action Directories)
      (no_action_append (of Files) (of Links ++ of Attributes) p (no_part_action Files)
      (no_action_append (of Links) (of Attributes) p (no_part_action Links) (no_part_action Attributes))))
    where
      of : Part → List Action
      of part = actions_of_part rules part (sweep_of rules source target).gone target
          (blocked_paths rules source target) source

      no_part_action : (part : Part)
          → HasNoActionAt (actions_of_part rules part (sweep_of rules source target).gone target
          (blocked_paths rules source target) source) p
      no_part_action part = no_part_action_at rules part (sweep_of rules source target).gone target
          (blocked_paths rules source target) p source (parts part)

-- Neither walk found the path.
pub no_action_if_unlisted : (rules : Rules) (source target : List Entry) → is_listing source ≡ true → is_listing target
    ≡ true → (p : List ℕ)
    → entry_of_path source p ≡ None → entry_of_path target p ≡ None → HasNoActionAt (actions_of rules source target) p
no_action_if_unlisted rules source target listed found p no_s no_t =
    no_action_at rules source target p
    (λ r is same. absurd (nowhere target found r (removed_are rules source target r is).among same no_t))
    (λ part e is same. absurd (nowhere source listed e is same no_s))
  where
    nowhere : (xs : List Entry) → is_listing xs ≡ true → (e : Entry) → IsIn xs e → e.path ≡ p → entry_of_path xs p
        ≡ None → ⊥
    nowhere xs h e is same no_e =
        let at : Some e ≡ None = sym (at_in [] xs e h is) ∙ (ap (λ (q : List ℕ). entry_of_path xs q) same ∙ no_e) in
        absurd cc

-- The path is up to date.
module _ (rules : Rules) (source target : List Entry) (listed : is_listing source ≡ true)
    (found : is_listing target ≡ true)
    (p : List ℕ) (s t : Entry) (at_s : entry_of_path source p ≡ Some s) (at_t : entry_of_path target p ≡ Some t)
    (out : is_ignored s ≡ false)
    (asked : is_up_to_date rules s (Some t) ≡ true) where
  same_kinds : is_same_kind s.kind t.kind ≡ true
  same_kinds = both_right (not t.excluded) (is_same_kind s.kind t.kind)
      (both_left (not t.excluded && is_same_kind s.kind t.kind) (not (is_other_content rules s.kind t.kind))
      (both_left (not t.excluded && is_same_kind s.kind t.kind && not (is_other_content rules s.kind t.kind))
      (not (rules.keep && has_other_attributes s.kind t.kind)) asked))

  wanted : (r : Entry) → IsIn target r → r.path ≡ p → is_in_source (entry_of_path source r.path) r ≡ true
  wanted r is same =
      let there = in_at target p t at_t in
      let one : r ≡ t = one_in [] target r t found is there.0 (same ∙ there.1) in
      let first : s.excluded ≡ false = none_left s.excluded (not
      (is_file s.kind || is_directory s.kind || is_link s.kind)) out in
      ap (λ (q : List ℕ). is_in_source (entry_of_path source q) r) same
      ∙ (ap (λ (o : Option Entry). is_in_source o r) at_s
      ∙ (ap (λ (y : Entry). not s.excluded && is_same_kind s.kind y.kind) one ∙ (λ i. not (first i) && same_kinds i)))

  pub no_action_if_current : HasNoActionAt (actions_of rules source target) p
  no_action_if_current = no_action_at rules source target p
      (λ r is same. let g = removed_are rules source target r is in
      clash (is_in_source (entry_of_path source r.path) r) (wanted r g.among same)
      (none_right (not rules.delete || r.excluded) (is_in_source (entry_of_path source r.path) r) g.goes))
      (λ part e is same. by_part part e is same)
    where
      not_gone : (b : Bool) → (sweep_of rules source target).gone p ≡ b → (sweep_of rules source target).gone p ≡ false
      not_gone false is = is
      not_gone true is =
          let g = gone_is rules source target p is in
          clash (is_in_source (entry_of_path source (g.entry).path) g.entry) (wanted g.entry g.among (sym g.at))
          (none_right (not rules.delete || (g.entry).excluded) (is_in_source (entry_of_path source (g.entry).path)
          g.entry)
          g.goes)

      left : entry_left_at (sweep_of rules source target).gone target p ≡ Some t
      left = ap (λ (b : Bool). if b then None else entry_of_path target p)
          (not_gone ((sweep_of rules source target).gone p) refl) ∙ at_t

      by_part : (part : Part) (e : Entry) → IsIn source e → e.path ≡ p
          → is_in_part rules part (sweep_of rules source target).gone target (blocked_paths rules source target) e
          ≡ false
      by_part part e is same =
          let there = in_at source p s at_s in
          let one : e ≡ s = one_in [] source e s listed is there.0 (same ∙ there.1) in
          let due : has_part_action rules part (entry_left_at (sweep_of rules source target).gone target e.path) e.kind
          ≡ false =
          ap (λ (q : List ℕ). has_part_action rules part (entry_left_at (sweep_of rules source target).gone target q)
          e.kind) same
          ∙ (ap (λ (o : Option Entry). has_part_action rules part o e.kind) left
          ∙ (ap (λ (y : Entry). has_part_action rules part (Some t) y.kind) one ∙ not_due rules part s (Some t) asked))
          in
          and_none (not (is_blocked (sweep_of rules source target).gone target (blocked_paths rules source target) e))
          (has_part_action rules part (entry_left_at (sweep_of rules source target).gone target e.path) e.kind) due
        where
          and_none : (a b : Bool) → b ≡ false → (a && b) ≡ false
          and_none true b is_f = is_f
          and_none false b is_f = refl
