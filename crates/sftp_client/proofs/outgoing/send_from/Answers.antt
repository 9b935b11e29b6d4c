use Rattle.std.proofs.Common.{ℕ, List, subst, sym}
use Rattle.std.specs.Prelude.{Err, Some}
use Rattle.sftp_link.specs.Moves.{HasSent}
use Rattle.sftp_client.specs.Outgoing.{unsent_from}
use Rattle.sftp_client.proofs.Sending.{SentSoFar, left_unsent, sent_next, sent_until}
use Rattle.sftp_client.proofs.outgoing.send_from.Goals as goal

pub returns-in-Err-clause-sends : goal.returns-in-Err-clause-sends
returns-in-Err-clause-sends g c =
    let less : HasSent g.L.LinkState.Service (unsent_from (Some c.args.pieces.now) c.loop-piece.piece c.loop-piece.offset)
    (g.L.LinkState.state c.loop-piece.link) (g.L.LinkState.state c.send_some.new.link) (Err c.in-Err.e) =
    rw c.in-Err.is at c.send_some.ensures in
    rw c.fault.ensures (sent_until _
    (unsent_from (Some c.args.pieces.now) c.loop-piece.piece c.loop-piece.offset) c.in-Err.e
    c.loop-piece.invariant.so less
    (left_unsent c.args.pieces.now c.loop-piece.piece c.loop-piece.offset c.loop-piece.invariant.at
    c.loop-piece-test.true))

pub loop-piece-preserved : goal.loop-piece-preserved
loop-piece-preserved g c = record {
  at = c.pass.ensures.at;
  so = subst (λ (w : List ℕ). SentSoFar (unsent_from (Some c.args.pieces.now) c.args.piece.now c.args.offset.now) w
      (g.L.LinkState.state c.args.link.now) (g.L.LinkState.state c.send_some.new.link)) (sym c.pass.ensures.passed)
      (sent_next _ (unsent_from (Some c.args.pieces.now) c.loop-piece.piece c.loop-piece.offset) c.in-Ok.n
      c.loop-piece.invariant.so
      (rw c.in-Ok.is at c.send_some.ensures));
}
