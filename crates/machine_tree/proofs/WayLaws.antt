-- The way from the root to a directory.
use Rattle.std.proofs.Common.{◌≡◌, ℕ, ◌+◌, ◌<◌, List, [], length, take, drop, ap, sym, ◌∙◌}
use Rattle.std.proofs.lemmas.List.{at_drop_more, take_more}
use Rattle.machine_model.specs.Components.{Name}
use Rattle.machine_model.specs.FirstTree.{with_directory, with_way}
use Rattle.machine_model.specs.declared.node.Node.{Node}

-- one directory is passed
pub way_step : (names : List (Name × Node)) (name : Name) (i : ℕ) → i < length name
    → with_way names (take i name) (drop i name) ≡ with_way (with_directory names (take (i + 1) name))
    (take (i + 1) name) (drop (i + 1) name)
way_step names name i h =
    at_drop_more (with_way names (take i name)) name i [] h
    ∙ ap (λ (w : Name). with_way (with_directory names w) w (drop (i + 1) name)) (sym (take_more name i [] h))
