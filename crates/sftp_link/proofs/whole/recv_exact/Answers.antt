use Rattle.std.proofs.Common.{arith, rules, ◌<◌, length}
use Rattle.std.proofs.lemmas.Result.{err_from_is_err_and}
use Rattle.sftp_link.proofs.Telling.{told_on, got_piece, got_less, got_less_end}
use Rattle.sftp_link.proofs.whole.recv_exact.Goals as goal

pub returns-in_err-n-clause-log : goal.returns-in_err-n-clause-log
returns-in_err-n-clause-log g c =
    let p = err_from_is_err_and c.from_residual.result c.from_residual.ensures.1 in
    let some : 0 < length c.recv.new.room = omega arith in
    rw (p.1) (told_on _ _ _ _ _ _ c.loop-at.invariant.got c.in_err-n.ensures.log
    (got_less c.loop-at.room c.recv.new.room c.loop-at.at some))

pub returns-then-n-eq0-clause-log : goal.returns-then-n-eq0-clause-log
returns-then-n-eq0-clause-log g c =
    let some : 0 < length c.recv.new.room = omega arith in
    told_on _ _ _ _ _ _ c.loop-at.invariant.got c.in_ok-n.ensures.log
    (got_less_end c.loop-at.room c.recv.new.room c.loop-at.at c.in_ok-n.n some c.if-n-eq0.true)

pub loop-at-preserved : goal.loop-at-preserved
loop-at-preserved g c = record {
  within = omega (arith, c.in_ok-n.ensures.within);
  faults = search rules;
  service = search rules;
  ended = search rules;
  got = told_on _ _ _ _ _ _ c.loop-at.invariant.got c.in_ok-n.ensures.log
      (got_piece c.loop-at.room c.recv.new.room c.loop-at.at c.in_ok-n.n c.loop-at.invariant.within
      c.in_ok-n.ensures.within);
}
