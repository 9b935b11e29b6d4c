use Rattle.std.proofs.Common.{rules, ◌≡◌, ◌∙◌, ◌<◌, ◌^◌, List, ℕ, [], ◌∷◌, ◌++◌, ap, sym, subst, arith}
use Rattle.machine_model.specs.FileTree.{FileTree}
use Rattle.machine_model.specs.declared.opened.Opened.{Opened}
use Rattle.machine_tree.specs.Numbers.{AllBelow, numbered_handle}
use Rattle.machine_tree.proofs.NumberLaws.{put_back}
use Rattle.machine_answers.specs.MachineState.{MachineState}
use Rattle.machine_answers.proofs.KeptLaws.{below_push}
use Rattle.machine_answers.proofs.store.Store.create.Goals as goal

pub invariant_of-self-then-is_err : goal.invariant_of-self-then-is_err
invariant_of-self-then-is_err c =
    let count = ap (λ (w : MachineState). w.grants) c.self.view_is in
    let fits : c.self.inside.grants < 2 ^ 32 = omega (arith, count, c.requires) in
    let handle : c.as_bytes.result.now ≡ numbered_handle c.self.inside.grants = search rules in
    let pushed : c.push.new.self ≡ c.self.inside.handles ++ (numbered_handle c.self.inside.grants, c.args.opened) ∷ [] =
    search rules in
    let back = put_back c.self.inside.grants c.self.inside.handles c.push.new.self c.remove.new.self
    c.as_bytes.result.now c.args.opened fits
    c.self.invariant.handles pushed handle c.remove.ensures in
    record {
      handles = subst (λ (w : List (List ℕ × Opened)). AllBelow c.self.inside.grants w) (sym back)
          c.self.invariant.handles;
      count = c.self.invariant.count;
    }

pub returns-then-is_err-clause-unchanged : goal.returns-then-is_err-clause-unchanged
returns-then-is_err-clause-unchanged c =
    let count = ap (λ (w : MachineState). w.grants) c.self.view_is in
    let fits : c.self.inside.grants < 2 ^ 32 = omega (arith, count, c.requires) in
    let handle : c.as_bytes.result.now ≡ numbered_handle c.self.inside.grants = search rules in
    let pushed : c.push.new.self ≡ c.self.inside.handles ++ (numbered_handle c.self.inside.grants, c.args.opened) ∷ [] =
    search rules in
    let back = put_back c.self.inside.grants c.self.inside.handles c.push.new.self c.remove.new.self
    c.as_bytes.result.now c.args.opened fits
    c.self.invariant.handles pushed handle c.remove.ensures in
    let names : c.push-2.new.self ≡ c.self.inside.names = search rules in
    let files : c.reserve.new.self.items ≡ c.self.inside.files.items = search rules in
    (λ i. let tree : FileTree = record { names = names i; files = files i; handles = back i } in
    let state : MachineState = record { tree = tree; config = c.self.inside.config; grants = c.self.inside.grants } in
    state)
    ∙ c.self.view_is

pub invariant_of-self-2 : goal.invariant_of-self-2
invariant_of-self-2 c =
    let count = ap (λ (w : MachineState). w.grants) c.self.view_is in
    let pushed : c.push.new.self ≡ c.self.inside.handles ++ (numbered_handle c.self.inside.grants, c.args.opened) ∷ [] =
    search rules in
    record {
      handles = rw pushed (below_push c.self.inside.grants c.self.inside.handles c.args.opened
          c.self.invariant.handles);
      count = omega (arith, count, c.requires);
    }
