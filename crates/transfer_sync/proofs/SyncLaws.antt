-- All promises of a plan.
use Rattle.std.proofs.Common.{◌≡◌, ◌&&◌, Bool, true, false, List, length, refl, sym, subst}
use Rattle.transfer_sync.specs.Actions.{actions_of, removal_actions}
use Rattle.transfer_sync.specs.Entries.{TreeListing}
use Rattle.transfer_sync.specs.Listings.{is_listing}
use Rattle.transfer_sync.specs.Plans.{IsPlan, has_too_many_removals}
use Rattle.transfer_sync.specs.Rules.{rules_for}
use Rattle.transfer_sync.specs.Theorems.{IsSync, KeepsRules}
use Rattle.transfer_sync.specs.declared.action.Action.{Action}
use Rattle.transfer_sync.specs.declared.entry.Entry.{Entry}
use Rattle.transfer_sync.specs.declared.plan.Plan.{Plan}
use Rattle.transfer_sync.specs.declared.rules.Rules.{Rules}
use Rattle.transfer_sync.proofs.BlockedLaws.{skip_reason}
use Rattle.transfer_sync.proofs.CountLaws.{within_limit, no_removals}
use Rattle.transfer_sync.proofs.FinalTreeLaws.{final_tree_of}
use Rattle.transfer_sync.proofs.InsideLaws.{all_inside}
use Rattle.transfer_sync.proofs.OrderLaws.{all_applied}
use Rattle.transfer_sync.proofs.InSyncLaws.{no_action_needed, no_conflict_reported}
use Rattle.transfer_sync.proofs.ExcludedLaws.{stays_above, no_action_below}
use Rattle.transfer_sync.proofs.UpToDateLaws.{no_action_if_current, no_action_if_unlisted}
use Rattle.transfer_sync.proofs.InterruptLaws.{intermediate_node}
use Rattle.transfer_sync.proofs.MirrorLaws.{mirror, no_conflicts, stay_reason, removal_reason}

rules_kept : (rules : Rules) (source target : List Entry) → is_listing source ≡ true → is_listing target ≡ true
    → has_too_many_removals rules (length (removal_actions rules source target)) ≡ false
    → KeepsRules rules source target (actions_of rules source target)
rules_kept rules source target listed found within = record {
  nothing_to_do = λ alike. no_action_needed rules source target listed found alike;
  nothing_to_report = λ alike. no_conflict_reported rules source target listed found alike;
  equal_paths = λ path s t at_s at_t out asked. no_action_if_current rules source target listed found path s t at_s at_t
      out asked;
  unknown_paths = λ path no_s no_t. no_action_if_unlisted rules source target listed found path no_s no_t;
  excluded_paths = λ path t at out other n is. no_action_below rules source target listed found path t at out other n
      is;
  directories_above = λ path t at out n. stays_above rules source target listed found path t at out n;
  order = λ from to tree seen. all_applied rules source target listed found from to tree seen;
  final_tree = λ from to tree seen. final_tree_of rules source target listed from to tree seen;
  mirror_tree = λ deletes plain from to tree seen trusts.
      mirror rules source target listed found deletes plain from to tree seen trusts;
  mirror_conflicts = λ deletes plain. no_conflicts rules source target listed found deletes plain;
  removal_reasons = λ path is. removal_reason rules source target found path is;
  stay_reasons = λ path t at stay. stay_reason rules source target found path t at stay;
  skip_reasons = λ s is. skip_reason rules source target listed s is;
  additive = λ keeps. no_removals rules source target keeps;
  limit = within_limit rules source target within;
  interrupted_tree = λ from to tree seen done later is path.
      intermediate_node rules source target listed found from tree (actions_of rules source target) done later refl is
      path;
}

no_deletion : (delete complete : Bool) → complete ≡ false → (delete && complete) ≡ false
no_deletion true complete is = is
no_deletion false complete is = refl

-- A plan of the code keeps all promises.
pub sync_of : (rules : Rules) (source target : TreeListing) (plan : Plan) → is_listing source.entries ≡ true
    → is_listing target.entries ≡ true
    → IsPlan (rules_for rules source.complete) source.entries target.entries plan
    → IsSync rules source target plan.actions.items
sync_of rules source target plan listed found is =
    subst (λ (l : List Action). IsSync rules source target l) (sym is.actions)
    (record {
      keeps_rules = rules_kept (rules_for rules source.complete) source.entries target.entries listed found is.limit;
      safe = λ incomplete. no_removals (rules_for rules source.complete) source.entries target.entries
          (no_deletion rules.delete source.complete incomplete);
      inside = all_inside (rules_for rules source.complete) source.entries target.entries listed found;
    })
