-- The last lane of several.
use Rattle.std.proofs.Common.{◌≡◌, ◌∷◌, ◌++◌, [], List, refl, ap}
use Rattle.plan_model.specs.declared.call.Call.{Call}
use Rattle.plan_model.specs.declared.call.Lane.{Lane}
use Rattle.script_grammar.specs.Scripts.{call_at_end}

pub at_end : (front : List Lane) (lane : Lane) (c : Call) → call_at_end (front ++ lane ∷ []) c ≡ front
    ++ record { calls = lane.calls ++ c ∷ [] } ∷ []
at_end [] lane c = refl
at_end (first ∷ []) lane c = refl
at_end (first ∷ next ∷ front) lane c = ap (λ (lanes : List Lane). first ∷ lanes) (at_end (next ∷ front) lane c)
