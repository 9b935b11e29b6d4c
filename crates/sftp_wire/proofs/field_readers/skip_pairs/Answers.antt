use Rattle.std.proofs.Common.{arith, inl, inr, ◌-◌, ◌+◌, ◌∙◌, sym, ap, ℕ, List, Result}
use Rattle.std.proofs.lemmas.Result.{err_from_is_err_and}
use Rattle.sftp_model.specs.declared.frame_error.FrameError.{FrameError}
use Rattle.sftp_wire.specs.Reading.{passed_to}
use Rattle.sftp_wire.proofs.Passing.{pairs_step, name_refused, value_refused}
use Rattle.sftp_wire.proofs.field_readers.skip_pairs.Goals as goal

pub loop-i-preserved : goal.loop-i-preserved
loop-i-preserved g c =
    sym (pairs_step (c.args.count - c.loop-i.i) (c.args.count - (c.loop-i.i + 1)) _ _ _ (omega arith)
    c.in_ok-skip_text.ensures c.in_ok-skip_text-2.ensures) ∙ c.loop-i.invariant

pub returns-in_err-skip_text : goal.returns-in_err-skip_text
returns-in_err-skip_text g c =
    let p = err_from_is_err_and c.from_residual.result c.from_residual.ensures.1 in
    rw (p.1, p.2) (elim c.in_err-skip_text.ensures [
      | inl m ↦ inl m
      | inr r ↦ inr (ap (λ (x : Result (List ℕ) FrameError). passed_to x)
          (sym c.loop-i.invariant ∙ name_refused (c.args.count - c.loop-i.i) (c.args.count - (c.loop-i.i + 1)) _ _
          (omega arith) r))
    ])

pub returns-in_err-skip_text-2 : goal.returns-in_err-skip_text-2
returns-in_err-skip_text-2 g c =
    let p = err_from_is_err_and c.from_residual-in_err-skip_text-2.result c.from_residual-in_err-skip_text-2.ensures.1
    in
    rw (p.1, p.2) (elim c.in_err-skip_text-2.ensures [
      | inl m ↦ inl m
      | inr r ↦ inr (ap (λ (x : Result (List ℕ) FrameError). passed_to x)
          (sym c.loop-i.invariant ∙ value_refused (c.args.count - c.loop-i.i) (c.args.count - (c.loop-i.i + 1)) _ _ _
          (omega arith) c.in_ok-skip_text.ensures r))
    ])
