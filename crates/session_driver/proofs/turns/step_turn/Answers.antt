use Rattle.std.proofs.Common.{inl, refl}
use Rattle.session_model.specs.declared.turn.Turn.TheVariants as turn
use Rattle.session_driver.specs.Ongoing.{turn_of}
use Rattle.session_driver.proofs.Joining.{no_memory}
use Rattle.session_driver.proofs.Parts.{is_nothing, is_some_event, step_is, step_none}
use Rattle.session_driver.proofs.turns.step_turn.Goals as goal

pub returns-in-Err-clause-ongoing : goal.returns-in-Err-clause-ongoing
returns-in-Err-clause-ongoing g c = no_memory (turn_of (turn.Step c.args.lane)) _ _ _ (inl refl) c.in-Err.ensures.left

pub returns-then-eq-clause-ongoing : goal.returns-then-eq-clause-ongoing
returns-then-eq-clause-ongoing g c = step_none c.args.lane c.in-Ok.stepped _ _ _
    (is_nothing c.in-Ok.stepped c.if-eq.ensures) c.in-Ok.ensures.ok c.in-Ok.ensures.goes c.requires.ready

pub returns-clause-ongoing : goal.returns-clause-ongoing
returns-clause-ongoing g c = step_is c.args.lane c.in-Ok.stepped _ _ _ (is_some_event c.in-Ok.stepped c.if-eq.ensures)
    c.in-Ok.ensures.ok c.in-Ok.ensures.goes c.requires.ready c.settle.ensures.ongoing
