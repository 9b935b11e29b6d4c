use Rattle.session_driver.proofs.Parts.{flush_is, flush_leaves}
use Rattle.session_driver.proofs.turns.flush_turn.Goals as goal

pub returns-clause-ongoing : goal.returns-clause-ongoing
returns-clause-ongoing g c = flush_is c.flush.ensures.ongoing

pub returns-clause-awaits : goal.returns-clause-awaits
returns-clause-awaits g c = flush_leaves c.flush.ensures.ongoing
