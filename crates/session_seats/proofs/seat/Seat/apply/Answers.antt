use Rattle.session_seats.proofs.HoldLaws.{hold_map}
use Rattle.session_seats.proofs.seat.Seat.apply.Goals as goal

pub returns-clause-held : goal.returns-clause-held
returns-clause-held g c = hold_map g.S.Held.shown _ _ c.hold-did.ensures.held c.hold-did.ensures.held.did.0
