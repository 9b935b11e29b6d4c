use Rattle.std.proofs.Common.{rules, ◌≡◌, [], ◌∷◌, ◌++◌, ap, arith}
use Rattle.machine_tree.specs.Numbers.{numbered_handle}
use Rattle.machine_answers.specs.MachineState.{MachineState}
use Rattle.machine_answers.proofs.KeptLaws.{below_push}
use Rattle.machine_answers.proofs.store.Store.grant.Goals as goal

pub invariant_of-self-2 : goal.invariant_of-self-2
invariant_of-self-2 c =
    let count = ap (λ (w : MachineState). w.grants) c.self.view_is in
    let pushed : c.push.new.self ≡ c.self.inside.handles ++ (numbered_handle c.self.inside.grants, c.args.opened) ∷ [] =
    search rules in
    rw pushed (record {
      handles = below_push c.self.inside.grants c.self.inside.handles c.args.opened c.self.invariant.handles;
      count = omega (arith, count, c.requires);
    })
