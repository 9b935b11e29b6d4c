use Rattle.std.proofs.Common.{◌∙◌, sym}
use Rattle.session_seats.proofs.JoinLaws.{all_whole}
use Rattle.session_seats.proofs.ended.has_all.Goals as goal

pub returns-then-seat : goal.returns-then-seat
returns-then-seat g c is = (c.if-seat.true, all_whole c.args.others.now (sym c.are_whole.ensures ∙ is))
