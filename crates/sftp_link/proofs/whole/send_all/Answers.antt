use Rattle.std.proofs.Common.{arith, rules}
use Rattle.sftp_link.proofs.Telling.{told_on, sent_piece, sent_less_before}
use Rattle.std.proofs.lemmas.Result.{err_from_is_err_and}
use Rattle.sftp_link.proofs.whole.send_all.Goals as goal

pub returns-in_err-at-clause-log : goal.returns-in_err-at-clause-log
returns-in_err-at-clause-log g c =
    let p = err_from_is_err_and c.from_residual.result c.from_residual.ensures.1 in
    rw (p.1) (told_on _ _ _ _ _ _ c.loop-at.invariant.sent c.in_err-at.ensures.log
    (sent_less_before c.args.bytes.now c.loop-at.at c.loop-at-test.true))

pub loop-at-preserved : goal.loop-at-preserved
loop-at-preserved g c = record {
  within = omega (arith, c.in_ok-at.ensures.within);
  faults = search rules;
  service = search rules;
  ended = search rules;
  sent = told_on _ _ _ _ _ _ c.loop-at.invariant.sent c.in_ok-at.ensures.log
      (sent_piece c.args.bytes.now c.loop-at.at c.in_ok-at.field-0);
}
