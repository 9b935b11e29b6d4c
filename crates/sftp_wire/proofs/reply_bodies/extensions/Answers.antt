use Rattle.std.proofs.Common.{arith, inl, inr, ◌-◌, ◌+◌, ◌∙◌, sym}
use Rattle.std.proofs.lemmas.Result.{err_from_is_err_and}
use Rattle.sftp_model.specs.Readings.{extensions_at}
use Rattle.sftp_wire.proofs.Counting.{pairs_more, pair_name_refused, pair_value_refused}
use Rattle.sftp_wire.proofs.reply_bodies.extensions.Goals as goal

pub loop-i-preserved : goal.loop-i-preserved
loop-i-preserved g c =
    let most = c.remaining_len-most.result in
    rw (c.pair_bit-set.ensures, c.deref.ensures.value, c.deref-in-loop-i.ensures.value)
    (sym (pairs_more (most - c.loop-i.i) (most - (c.loop-i.i + 1)) c.loop-i.set (g.R.Reader.left c.loop-i.reader) _ _ _
    _ (omega arith) (sym c.is_finished.ensures ∙ c.if-is_finished.false) c.in_ok-name.ensures.read
    c.in_ok-value.ensures.read) ∙ c.loop-i.invariant)

pub returns-in_err-name : goal.returns-in_err-name
unfolding extensions_at
returns-in_err-name g c =
    let p = err_from_is_err_and c.from_residual.result c.from_residual.ensures.1 in
    let most = c.remaining_len-most.result in
    rw (p.1, p.2) (elim c.in_err-name.ensures.read [
      | inl m ↦ inl m
      | inr r ↦ inr (rw (← c.remaining_len-most.ensures) (sym c.loop-i.invariant
          ∙ pair_name_refused (most - c.loop-i.i) (most - (c.loop-i.i + 1)) c.loop-i.set
          (g.R.Reader.left c.loop-i.reader) _ (omega arith) (sym c.is_finished.ensures ∙ c.if-is_finished.false) r))
    ])

pub returns-in_err-value : goal.returns-in_err-value
unfolding extensions_at
returns-in_err-value g c =
    let p = err_from_is_err_and c.from_residual-in_err-value.result c.from_residual-in_err-value.ensures.1 in
    let most = c.remaining_len-most.result in
    rw (p.1, p.2) (elim c.in_err-value.ensures.read [
      | inl m ↦ inl m
      | inr r ↦ inr (rw (← c.remaining_len-most.ensures) (sym c.loop-i.invariant
          ∙ pair_value_refused (most - c.loop-i.i) (most - (c.loop-i.i + 1)) c.loop-i.set
          (g.R.Reader.left c.loop-i.reader) _ _ _ (omega arith) (sym c.is_finished.ensures ∙ c.if-is_finished.false)
          c.in_ok-name.ensures.read r))
    ])
