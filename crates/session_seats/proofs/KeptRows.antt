-- The state at the start is one of the rule.
use Rattle.std.proofs.Common.{refl, [], ◌∷◌}
use Rattle.session_seats.specs.Rules.{Kept, home}
use Rattle.session_seats.specs.RuleRows.{at_home, itself, nothing_yet, value}
use Rattle.session_seats.proofs.Steps.{begins}

pub kept_at_start : Kept itself (at_home value (home nothing_yet ∷ []))
kept_at_start = begins itself nothing_yet value refl
