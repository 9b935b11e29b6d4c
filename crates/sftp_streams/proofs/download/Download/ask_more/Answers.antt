use Rattle.std.proofs.Common.{rules, ◌<◌, length}
use Rattle.sftp_streams.proofs.AskLaws.{fills}
use Rattle.sftp_streams.proofs.download.Download.ask_more.Goals as goal

pub loop-self-preserved : goal.loop-self-preserved
loop-self-preserved c =
    let less : length c.loop-self.self.parts < c.loop-self.self.window = search rules in
    fills c.args.core.now c.loop-self.core c.ask_next.new.core c.args.self.now c.loop-self.self c.ask_next.new.self
    c.loop-self.invariant less c.in_ok-ask_next.ensures.ok
