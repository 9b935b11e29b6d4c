use Rattle.std.proofs.Common.{inl, refl}
use Rattle.session_model.specs.declared.turn.Turn.TheVariants as turn
use Rattle.session_driver.specs.Ongoing.{turn_of}
use Rattle.session_driver.proofs.Joining.{no_memory}
use Rattle.session_driver.proofs.Parts.{cancel_is, cancel_none}
use Rattle.session_driver.proofs.turns.cancel_turn.Goals as goal

pub returns-in-Ok-true : goal.returns-in-Ok-true
returns-in-Ok-true g c = record {
  ongoing = cancel_is c.args.lane c.in-Ok-true.field-0 _ _ _ c.in-Ok-true.field-0-test
      c.in-Ok-true.ensures.ok c.in-Ok-true.ensures.goes c.requires.ready c.settle.ensures.ongoing;
}

pub returns-in-Ok-false : goal.returns-in-Ok-false
returns-in-Ok-false g c = record {
  ongoing = cancel_none c.args.lane c.in-Ok-false.field-0 _ _ _
      c.in-Ok-false.field-0-test c.in-Ok-false.ensures.ok c.in-Ok-false.ensures.goes c.requires.ready;
}

pub returns-in-Err : goal.returns-in-Err
returns-in-Err g c = record {
  ongoing = no_memory (turn_of (turn.Cancel c.args.lane)) _ _ _ (inl refl)
      c.in-Err.ensures.left;
}
