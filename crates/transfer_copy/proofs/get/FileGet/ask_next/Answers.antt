use Rattle.std.proofs.Common.{rules, ◌<◌, ◌+◌, ◌^◌}
use Rattle.transfer_copy.proofs.GetLaws.{asked_on}
use Rattle.transfer_copy.proofs.get.FileGet.ask_next.Goals as goal

pub returns-in-Ok-clause-leaves : goal.returns-in-Ok-clause-leaves
returns-in-Ok-clause-leaves c =
    let small : c.args.self.now.next + c.min-len.result < 2 ^ 64 = search rules in
    asked_on c.args.core.now c.ask_read.new.core c.args.self.now c.ask_read.new.self c.min-len.result
    (search rules) c.requires.reads.1 (search rules) small c.in-Ok.ensures.ok.0 c.in-Ok.ensures.ok.1
