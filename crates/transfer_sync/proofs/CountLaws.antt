-- The number of removals.
use Rattle.std.proofs.Common.{◌≡◌, ◌+◌, ℕ, suc, Bool, true, false, List, [], ◌∷◌, ◌||◌, not, ◌++◌, ◌∙◌, Option, Some, None, length, map, refl, sym, ap, subst, arith, if◌then◌else◌}
use Rattle.std.proofs.lemmas.Bool.Decides.{nat_tests}
use Rattle.std.proofs.lemmas.List.{append-nil}
use Rattle.transfer_sync.specs.Entries.{entry_of_path, is_directory}
use Rattle.transfer_sync.specs.Paths.{Paths}
use Rattle.transfer_sync.specs.Plans.{has_too_many_removals, is_over_limit}
use Rattle.transfer_sync.specs.Theorems.{IsWithinMaxDelete, is_removal, removal_count}
use Rattle.transfer_sync.specs.Actions.{action_of, actions_after_removals, actions_of, actions_of_part, is_in_part, removal_action, removal_actions, step_of}
use Rattle.transfer_sync.specs.Verdicts.{blocked_paths, choice_of, is_in_source, sweep_of}
use Rattle.transfer_sync.specs.declared.action.Action.{Action}
use Rattle.transfer_sync.specs.declared.action.Step.TheVariants.{RemoveFile, RemoveDirectory}
use Rattle.transfer_sync.specs.declared.entry.Entry.{Entry}
use Rattle.transfer_sync.specs.declared.rules.Rules.{Rules}
use Rattle.transfer_sync.proofs.InSyncLaws.{still}
use Rattle.transfer_sync.specs.declared.verdict.Part.{Part}
use Rattle.transfer_sync.specs.declared.verdict.Part.TheVariants.{Directories, Files, Links, Attributes}

all_removed : (xs : List Entry) (ys : List Action) → removal_count (map removal_action xs ++ ys)
    ≡ length (map removal_action xs) + removal_count ys
all_removed [] ys = omega arith
all_removed (x ∷ xs) ys = by_test (is_directory x.kind) (all_removed xs ys)
  where
    by_test : (b : Bool) → removal_count (map removal_action xs ++ ys)
        ≡ length (map removal_action xs) + removal_count ys
        → (if is_removal (if b then RemoveDirectory else RemoveFile) then
        suc (removal_count (map removal_action xs ++ ys)) else removal_count (map removal_action xs ++ ys))
        ≡ suc (length (map removal_action xs)) + removal_count ys
    by_test true more = omega (arith, more)
    by_test false more = omega (arith, more)

no_removal : (part : Part) (e : Entry) → is_removal (step_of part e.kind) ≡ false
no_removal Directories e = refl
no_removal Files e = refl
no_removal Links e = refl
no_removal Attributes e = refl

none_removed : (test : Entry → Bool) (part : Part) (xs : List Entry) (ys : List Action)
    → removal_count (choice_of test (action_of part) xs ++ ys) ≡ removal_count ys
none_removed test part [] ys = refl
none_removed test part (x ∷ xs) ys = by_test (test x) (none_removed test part xs ys)
  where
    by_test : (t : Bool) → removal_count (choice_of test (action_of part) xs ++ ys) ≡ removal_count ys
        → removal_count ((if t then action_of part x ∷ choice_of test (action_of part) xs else
        choice_of test (action_of part) xs) ++ ys) ≡ removal_count ys
    by_test true more =
        ap (λ (b : Bool). if b then suc (removal_count (choice_of test (action_of part) xs ++ ys)) else
        removal_count (choice_of test (action_of part) xs ++ ys))
        (no_removal part x) ∙ more
    by_test false more = more

made_none : (rules : Rules) (gone : Paths) (target : List Entry) (blocked : Paths) (source : List Entry)
    → removal_count (actions_after_removals rules gone target blocked source) ≡ 0
made_none rules gone target blocked source =
    none_removed (test Directories) Directories source (of Files ++ (of Links ++ of Attributes))
    ∙ (none_removed (test Files) Files source (of Links ++ of Attributes)
    ∙ (none_removed (test Links) Links source (of Attributes)
    ∙ (ap (λ l. removal_count l) (sym (append-nil (of Attributes)))
    ∙ none_removed (test Attributes) Attributes source [])))
  where
    test : Part → Entry → Bool
    test part = is_in_part rules part gone target blocked

    of : Part → List Action
    of part = actions_of_part rules part gone target blocked source

pub count : (rules : Rules) (source target : List Entry)
    → removal_count (actions_of rules source target) ≡ length (removal_actions rules source target)
count rules source target =
    all_removed (sweep_of rules source target).removed
    (actions_after_removals rules (sweep_of rules source target).gone target (blocked_paths rules source target) source)
    ∙ (ap (λ (n : ℕ). length (removal_actions rules source target) + n)
    (made_none rules (sweep_of rules source target).gone target (blocked_paths rules source target) source)
    ∙ omega arith)

within : (o : Option ℕ) (n : ℕ) → is_over_limit o n ≡ false → IsWithinMaxDelete o n
within None n is = tt
within (Some most) n is = grind (arith, nat_tests)

pub within_limit : (rules : Rules) (source target : List Entry)
    → has_too_many_removals rules (length (removal_actions rules source target)) ≡ false
    → IsWithinMaxDelete rules.max_delete (removal_count (actions_of rules source target))
within_limit rules source target is =
    subst (λ (n : ℕ). IsWithinMaxDelete rules.max_delete n) (sym (count rules source target))
    (within rules.max_delete (length (removal_actions rules source target)) is)

-- Without `delete` there is none.
pub no_removals : (rules : Rules) (source target : List Entry) → rules.delete ≡ false
    → removal_count (actions_of rules source target) ≡ 0
no_removals rules source target keeps =
    count rules source target
    ∙ ap (λ (l : List Entry). length (map removal_action l))
    (still rules source target (λ t is. (λ i. not (keeps i) || t.excluded
    || is_in_source (entry_of_path source t.path) t))).removed
