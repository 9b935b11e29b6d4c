use Rattle.session_driver.proofs.Journals.{some_awaited, none_awaited, is_awaited}
use Rattle.link_frames.proofs.Joining.{escaped}
use Rattle.session_driver.proofs.Parts.{taken_on, take_is, take_none, unread, refused_take}
use Rattle.session_driver.proofs.turns.take_turn.Goals as goal

pub returns-then-awaited-eq0-clause-ongoing : goal.returns-then-awaited-eq0-clause-ongoing
returns-then-awaited-eq0-clause-ongoing g c = take_none _ _ (none_awaited _ _ c.awaited.ensures c.if-awaited-eq0.true)
    c.requires.ready

pub returns-in_err-reader-clause-ongoing : goal.returns-in_err-reader-clause-ongoing
returns-in_err-reader-clause-ongoing g c =
    rw (escaped c.from_residual.result c.in_err-reader.field-0.0 c.from_residual.ensures.1)
    (unread _ _ _ _ (some_awaited _ _ c.awaited.ensures c.if-awaited-eq0.false) c.in_err-reader.ensures.stops
    c.in_err-reader.ensures.caused)

pub returns-in-Ok-clause-ongoing : goal.returns-in-Ok-clause-ongoing
returns-in-Ok-clause-ongoing g c =
    take_is c.in-Some.body.now
    (taken_on _ _ _ _ _ c.in-Some.body.now _ c.requires.ready (is_awaited _
    (some_awaited _ _ c.awaited.ensures c.if-awaited-eq0.false)) c.in-Ok.ensures.ok c.in-Ok.ensures.goes
    c.in-Some.ensures.spelled.0 c.in-Some.ensures.spelled.1 c.in_ok-reader.ensures.log
    c.in_ok-reader.ensures.caused)
    c.settle.ensures.ongoing

pub returns-clause-ongoing : goal.returns-clause-ongoing
returns-clause-ongoing g c =
    rw c.refused.ensures.error
    (refused_take _ _ _ _ _ c.in-Err.e c.in-Some.body.now _ (some_awaited _ _ c.awaited.ensures c.if-awaited-eq0.false)
    c.in_ok-reader.ensures.whole.prefix c.in-Some.ensures.spelled.0 c.in-Some.ensures.spelled.1
    c.in-Err.ensures.refused c.in-Err.ensures.left c.in_ok-reader.ensures.log c.in_ok-reader.ensures.caused)
