use Rattle.std.proofs.Common.{◌∙◌, arith}
use Rattle.sftp_client.proofs.Sending.{passes}
use Rattle.sftp_client.proofs.outgoing.pass.Goals as goal

pub loop-left-preserved : goal.loop-left-preserved
loop-left-preserved c =
    let len = c.len.ensures.value in
    let next = passes c.args.pieces.now c.loop-left.piece c.loop-left.offset c.loop-left.left
    c.index-pieces-piece.result _
    c.index-pieces-piece.is c.loop-left.invariant.at c.loop-left-test.true c.loop-left.invariant.within
    (omega (arith, len, c.if-left-rest.false)) in
    rw len (record {
      at = (c.loop-left.invariant.at.0, next.at);
      passed = next.passed ∙ c.loop-left.invariant.passed;
      within = next.within;
    })
