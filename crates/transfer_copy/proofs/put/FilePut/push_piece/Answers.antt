use Rattle.std.proofs.Common.{rules, ◌≡◌, ◌<◌, ◌+◌, ◌^◌, length}
use Rattle.transfer_copy.proofs.PutLaws.{wrote_on}
use Rattle.transfer_copy.proofs.put.FilePut.push_piece.Goals as goal

pub returns-in-Ok-clause-leaves : goal.returns-in-Ok-clause-leaves
returns-in-Ok-clause-leaves c =
    let len_is : c.len.result ≡ length c.args.bytes.now = search rules in
    let small : c.args.self.now.next + c.len.result < 2 ^ 64 = search rules in
    wrote_on c.args.core.now c.ask_write.new.core c.args.self.now c.ask_write.new.self c.args.bytes.now c.len.result
    (search rules) c.requires.writes.1 (search rules) len_is small c.in-Ok.ensures.ok.0 c.in-Ok.ensures.ok.1
