use Rattle.std.proofs.Common.{rules, ◌≡◌, ◌++◌, ◌+◌, add-one, take, drop, ap, sym, ◌∙◌}
use Rattle.std.specs.Prelude.{map}
use Rattle.std.specs.List.{remove}
use Rattle.std.proofs.lemmas.List.{map-append}
use Rattle.machine_model.specs.Components.{Name, moved_name, same_name}
use Rattle.machine_model.specs.declared.node.Node.{Node}
use Rattle.machine_model.specs.FileTree.{without_key}
use Rattle.machine_tree.proofs.moves.names_but.Goals as goal

pub returns : goal.returns
returns c =
    let f : Name × Node → Name × Node = λ pair. (moved_name c.args.old.now c.args.to.now pair.0, pair.1) in
    let pairs = c.args.pairs.now in
    let i = c.in-Some.index in
    let first : c.add_moved.new.names ≡ map f (take i pairs) = search rules in
    let second : c.add_moved-2.new.names ≡ c.add_moved.new.names ++ map f (drop (i + 1) pairs) =
    c.in_ok-add_moved-2.ensures ∙ ap (λ w. c.add_moved.new.names ++ map f w) c.split_at.ensures.back in
    let there : remove pairs i ≡ without_key same_name pairs c.args.to.now = search rules in
    second ∙ ap (λ l. l ++ map f (drop (i + 1) pairs)) first ∙ sym (map-append f (take i pairs) (drop (i + 1) pairs))
    ∙ ap (λ k. map f (take i pairs ++ drop k pairs)) (add-one i) ∙ ap (map f) there
