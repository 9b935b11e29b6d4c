use Rattle.sftp_link.proofs.ScriptSteps.{bytes_sent-sent}
use Rattle.sftp_link.proofs.scripted_link.ScriptedLinkLinkOut.send.Goals as goal

pub invariant_of-self-2 : goal.invariant_of-self-2
invariant_of-self-2 c =
    cc (
      c.self.invariant,
      bytes_sent-sent c.self.inside.log.items c.new.result,
      c.reserve.ensures.items,
      c.add_piece.ensures,
      c.in_ok-piece.ensures.items,
      c.in_ok-extend_from_slice.ensures.items,
      c.new.ensures,
    )
