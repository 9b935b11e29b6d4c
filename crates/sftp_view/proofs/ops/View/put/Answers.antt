use Rattle.std.proofs.Common.{rules}
use Rattle.sftp_view.proofs.OpLaws.{put_done}
use Rattle.sftp_view.proofs.ops.View.put.Goals as goal

pub returns-in-Ok-forget : goal.returns-in-Ok-forget
returns-in-Ok-forget g c =
    put_done c.args.self.now.session c.write_file.new.session c.args.self.now.cache c.forget.new.self
    c.args.self.now.block c.args.path.now c.args.offset
    c.args.content.now (g.L.LinkState.state c.args.link.now) (g.L.LinkState.state c.write_file.new.link)
    c.in_ok-answer.answer c.in-Ok.name (search rules)
    c.in-Ok-forget.ensures c.in_ok-answer.ensures
