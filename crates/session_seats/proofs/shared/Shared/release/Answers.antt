use Rattle.std.proofs.Common.{rules}
use Rattle.session_seats.proofs.HoldLaws.{releases_at, gave_at}
use Rattle.session_seats.proofs.shared.Shared.release.Goals as goal

pub store-requires : goal.store-requires
store-requires g c = (search rules, search rules, releases_at g.S.Held.shown _ _ _ c.requires.held)

pub returns-clause-gave : goal.returns-clause-gave
returns-clause-gave g c = gave_at g.S.Held.shown c.args.seat.now.me c.store.new.seat.me 0 c.store.ensures.2
