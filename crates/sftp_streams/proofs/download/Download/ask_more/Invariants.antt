use Rattle.std.proofs.Common.{◌-◌, length}
use Rattle.sftp_streams.proofs.AskLaws.{Filling}
use Rattle.sftp_streams.proofs.download.Download.ask_more.Given as goal

abbrev pub invariant-loop-self : goal.invariant-loop-self
invariant-loop-self l = Filling l.initial.core l.initial.self l.core l.self

abbrev pub decreases-loop-self : goal.decreases-loop-self
decreases-loop-self l = l.self.window - length l.self.parts
