use Rattle.std.proofs.Common.{arith}
use Rattle.sftp_link.proofs.Telling.{told_on, went_piece, went_less_before}
use Rattle.std.proofs.lemmas.Result.{err_from_is_err_and}
use Rattle.sftp_link.proofs.whole.write_all.Goals as goal

pub returns-in_err-at-clause-bytes : goal.returns-in_err-at-clause-bytes
returns-in_err-at-clause-bytes g c =
    let p = err_from_is_err_and c.from_residual.result c.from_residual.ensures.1 in
    rw (p.1) (told_on _ _ _ _ _ _ c.loop-at.invariant.2 c.in_err-at.ensures.bytes
    (went_less_before c.args.bytes.now c.loop-at.at c.loop-at-test.true))

pub loop-at-preserved : goal.loop-at-preserved
loop-at-preserved g c = (
  let some = c.in_ok-at.ensures.within.0 (omega arith) in omega (arith, some, c.in_ok-at.ensures.within.1),
  omega (arith, c.in_ok-at.ensures.cause),
  told_on _ _ _ _ _ _ c.loop-at.invariant.2 c.in_ok-at.ensures.bytes
      (went_piece c.args.bytes.now c.loop-at.at c.in_ok-at.field-0),
)
