use Rattle.std.proofs.lemmas.List.{take_more}
use Rattle.link_frames.proofs.Joining.{escaped}
use Rattle.session_driver.proofs.Loops.{turns_begin, turns_next, turns_fail}
use Rattle.session_driver.proofs.runs.run_turns.Goals as goal

pub loop-turn-init : goal.loop-turn-init
loop-turn-init g c = turns_begin c.args.schedule.now _ _ c.requires.ready

pub returns-in_err-one_turn : goal.returns-in_err-one_turn
returns-in_err-one_turn g c =
    rw (escaped c.from_residual.result c.in_err-one_turn.field-0.0 c.from_residual.ensures.1)
    (record {
      ongoing = turns_fail c.args.schedule.now c.loop-turn.turn-index _
          (take_more c.args.schedule.now c.loop-turn.turn-index _ c.loop-turn-test.true) c.loop-turn.invariant
          c.in_err-one_turn.ensures.ongoing;
    })

pub loop-turn-preserved : goal.loop-turn-preserved
loop-turn-preserved g c = turns_next c.args.schedule.now c.loop-turn.turn-index _
    (take_more c.args.schedule.now c.loop-turn.turn-index _ c.loop-turn-test.true) c.loop-turn.invariant
    c.in_ok-one_turn.ensures.ongoing
