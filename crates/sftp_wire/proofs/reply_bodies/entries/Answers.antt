use Rattle.std.proofs.Common.{arith, inl, inr, ◌-◌, ◌+◌, ◌∙◌, sym}
use Rattle.std.proofs.lemmas.Result.{err_from_is_err_and}
use Rattle.sftp_wire.proofs.Counting.{entries_more, entries_refused}
use Rattle.sftp_wire.proofs.reply_bodies.entries.Goals as goal

pub loop-i-preserved : goal.loop-i-preserved
loop-i-preserved g c =
    rw c.in_ok-add.ensures.ok
    (entries_more c.loop-i.entries.items (c.args.count - c.loop-i.i) (c.args.count - (c.loop-i.i + 1)) _ _ _
    (omega arith) c.in_ok-entry.ensures ∙ c.loop-i.invariant)

pub returns-in_err-entry : goal.returns-in_err-entry
returns-in_err-entry g c =
    let p = err_from_is_err_and c.from_residual.result c.from_residual.ensures.1 in
    rw (p.1, p.2) (elim c.in_err-entry.ensures [
      | inl m ↦ inl m
      | inr r ↦ inr (sym c.loop-i.invariant ∙ entries_refused c.loop-i.entries.items (c.args.count - c.loop-i.i)
          (c.args.count - (c.loop-i.i + 1)) _ _ (omega arith) r)
    ])
