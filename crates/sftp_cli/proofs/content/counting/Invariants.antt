use Rattle.sftp_cli.proofs.Steps.{Counted}
use Rattle.sftp_cli.proofs.content.counting.Given as goal

abbrev pub invariant-loop-i : goal.invariant-loop-i
invariant-loop-i l = Counted l.w l.count l.i l.bytes.items
