use Rattle.session_model.specs.declared.turn.Turn.TheVariants as turn
use Rattle.std.proofs.Common.{[], ◌∷◌}
use Rattle.link_frames.proofs.Joining.{escaped}
use Rattle.session_driver.proofs.Loops.{first_fails, first_then, last_is}
use Rattle.session_driver.proofs.runs.one_round.Goals as goal

pub returns-in_err-step_turn-clause-ongoing : goal.returns-in_err-step_turn-clause-ongoing
returns-in_err-step_turn-clause-ongoing g c =
    rw (escaped c.from_residual.result c.in_err-step_turn.field-0.0 c.from_residual.ensures.1)
    (first_fails (turn.Step c.args.lane) (turn.Flush ∷ turn.Take ∷ []) c.in_err-step_turn.ensures.ongoing)

pub returns-in_err-flush_turn-clause-ongoing : goal.returns-in_err-flush_turn-clause-ongoing
returns-in_err-flush_turn-clause-ongoing g c =
    rw (escaped c.from_residual-in_err-flush_turn.result c.in_err-flush_turn.field-0.0
    c.from_residual-in_err-flush_turn.ensures.1)
    (first_then (turn.Step c.args.lane) (turn.Flush ∷ turn.Take ∷ []) c.in_ok-step_turn.ensures.ongoing
    (first_fails turn.Flush (turn.Take ∷ []) c.in_err-flush_turn.ensures.ongoing))

pub returns-clause-ongoing : goal.returns-clause-ongoing
returns-clause-ongoing g c =
    first_then (turn.Step c.args.lane) (turn.Flush ∷ turn.Take ∷ []) c.in_ok-step_turn.ensures.ongoing
    (first_then turn.Flush (turn.Take ∷ []) c.in_ok-flush_turn.ensures.ongoing
    (last_is turn.Take c.take_turn.ensures.ongoing))
