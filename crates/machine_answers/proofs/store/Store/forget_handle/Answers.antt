use Rattle.machine_answers.proofs.KeptLaws.{below_without}
use Rattle.machine_answers.proofs.store.Store.forget_handle.Goals as goal

pub invariant_of-self : goal.invariant_of-self
invariant_of-self c = rw c.remove.ensures (record {
  handles = below_without c.self.inside.grants c.self.inside.handles c.args.handle.now c.self.invariant.handles;
  count = c.self.invariant.count;
})
