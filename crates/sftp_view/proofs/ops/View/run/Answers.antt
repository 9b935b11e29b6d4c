use Rattle.std.proofs.Common.{rules}
use Rattle.sftp_view.proofs.OpLaws.{get_too_long, got_nothing, may_put, put_too_long}
use Rattle.sftp_view.proofs.ops.View.run.Goals as goal

pub returns-then-len-eq0 : goal.returns-then-len-eq0
returns-then-len-eq0 g c =
    got_nothing c.args.self.now c.args.op.now c.in-Get.name c.new-then-len-eq0.result c.in-Get.offset c.in-Get.len
    (g.L.LinkState.state c.args.link.now)
    c.in-Get.is (search rules) (search rules) c.requires.may.idle

pub returns-then-passes_length : goal.returns-then-passes_length
returns-then-passes_length g c =
    get_too_long c.args.self.now c.args.op.now c.in-Get.name c.in-Get.offset c.in-Get.len
    (g.L.LinkState.state c.args.link.now) c.in-Get.is (search rules)
    (search rules) c.requires.may.idle

pub returns-then-passes_length-2 : goal.returns-then-passes_length-2
returns-then-passes_length-2 g c =
    put_too_long c.args.self.now c.args.op.now c.in-Put.name c.in-Put.offset c.in-Put.content
    (g.L.LinkState.state c.args.link.now) c.in-Put.is (search rules)
    c.requires.may.idle

pub put-requires : goal.put-requires
put-requires g c =
    may_put c.args.self.now c.args.op.now c.in-Put.name c.in-Put.offset c.in-Put.content
    (g.L.LinkState.state c.args.link.now) c.in-Put.is (search rules) c.requires.may
