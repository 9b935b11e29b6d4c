-- What a move between names leaves of another one.
use Rattle.std.proofs.Common.{◌≡◌, Bool, true, false, ◌++◌, length, drop, if◌then◌else◌, refl, sym, ◌∙◌, subst}
use Rattle.std.proofs.lemmas.Bool.{both_ways, false_from_ne_true}
use Rattle.machine_model.proofs.NameLaws.{names_tell}
use Rattle.machine_model.proofs.WithinLaws.{within_join}
use Rattle.machine_model.specs.Components.{Name, is_within, moved_name, same_name}

-- a move between two names that another one doesn't stand within leads none to it and none away
pub moves_others : (old to name k : Name) → is_within old name ≡ false → is_within to name ≡ false
    → same_name (moved_name old to k) name ≡ same_name k name
moves_others old to name k from into = by_test (is_within old k) refl
  where
    by_test : (b : Bool) → is_within old k ≡ b → same_name (if b then to ++ drop (length old) k else k) name
        ≡ same_name k name
    by_test true is =
        false_from_ne_true _
        (λ t. both_ways (is_within to name) into (subst (λ (w : Name). is_within to w ≡ true)
        ((names_tell (to ++ drop (length old) k) name).0 t) (within_join to (drop (length old) k))))
        ∙ sym (false_from_ne_true _ (λ t. both_ways (is_within old name) from
        (subst (λ (w : Name). is_within old w ≡ true) ((names_tell k name).0 t) is)))
    by_test false is = refl
