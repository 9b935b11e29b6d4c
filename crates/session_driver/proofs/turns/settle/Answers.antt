use Rattle.std.proofs.Common.{◌∙◌, sym}
use Rattle.session_driver.proofs.Parts.{settle_full, settle_none}
use Rattle.session_driver.proofs.turns.settle.Goals as goal

pub returns-then-not-wants_flush-clause-ongoing : goal.returns-then-not-wants_flush-clause-ongoing
returns-then-not-wants_flush-clause-ongoing g c = settle_none _ _
    (sym c.wants_flush.ensures ∙ c.if-not-wants_flush.true) c.requires.ready

pub returns-clause-ongoing : goal.returns-clause-ongoing
returns-clause-ongoing g c = settle_full (sym c.wants_flush.ensures ∙ c.if-not-wants_flush.false)
    c.flush.ensures.ongoing
