use Rattle.sftp_link.proofs.ScriptSteps.{bytes_sent-got}
use Rattle.sftp_link.proofs.scripted_link.ScriptedLinkLinkIn.recv.Goals as goal

pub invariant_of-self-2 : goal.invariant_of-self-2
invariant_of-self-2 c =
    cc (
      c.self.invariant,
      bytes_sent-got c.self.inside.log.items c.new.result,
      c.reserve.ensures.items,
      c.add_piece.ensures,
    )
