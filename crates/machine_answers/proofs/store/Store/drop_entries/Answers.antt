use Rattle.machine_answers.proofs.KeptLaws.{below_given}
use Rattle.machine_answers.proofs.store.Store.drop_entries.Goals as goal

pub invariant_of-self : goal.invariant_of-self
invariant_of-self c = rw c.drop_entries.ensures (record {
  handles = below_given c.self.inside.grants c.self.inside.handles c.args.handle.now c.args.n c.self.invariant.handles;
  count = c.self.invariant.count;
})
