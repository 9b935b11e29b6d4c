use Rattle.std.proofs.Common.{arith}
use Rattle.ssh_encoding.proofs.Lists.{length_step, counts_over}
use Rattle.ssh_encoding.proofs.encode_lists.strings_len.Goals as goal

pub returns-in_err-encoded_len : goal.returns-in_err-encoded_len
returns-in_err-encoded_len g c = counts_over g.T.Encode.written _ _ _ _ _ c.loop-item-test.true c.item-item.is
    c.from_residual.ensures.1 c.in_err-encoded_len.ensures.0 (omega (arith, c.in_err-encoded_len.ensures.1))

pub returns-in_err-total : goal.returns-in_err-total
returns-in_err-total g c = counts_over g.T.Encode.written _ _ _ _ _ c.loop-item-test.true c.item-item.is
    c.from_residual-in_err-total.ensures.1 c.in_err-total.ensures.0
    (rw (← c.loop-item.invariant.sum, ← c.in_ok-encoded_len.ensures.0) c.in_err-total.ensures.1)

pub loop-item-preserved : goal.loop-item-preserved
loop-item-preserved g c = record {
  sum = rw (
    length_step g.T.Encode.written c.args.items.now c.loop-item.item-index c.item-item.result
        c.loop-item-test.true c.item-item.is,
    ← c.loop-item.invariant.sum,
    ← c.in_ok-encoded_len.ensures.0,
  )
      c.in_ok-total.ensures.0;
  fits = rw c.in_ok-total.ensures.0 c.in_ok-total.ensures.1;
}
