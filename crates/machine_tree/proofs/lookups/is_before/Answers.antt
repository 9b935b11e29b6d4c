use Rattle.std.proofs.Common.{◌∙◌}
use Rattle.machine_tree.proofs.OrderLaws.{before_is}
use Rattle.machine_tree.proofs.lookups.is_before.Goals as goal

pub returns : goal.returns
returns c = c.lt.ensures ∙ before_is c.args.bytes.now c.args.others.now
