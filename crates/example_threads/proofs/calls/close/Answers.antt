use Rattle.std.proofs.Common.{◌∷◌, [], subst, sym}
use Rattle.session_seats.specs.Closes.{AllOf}
use Rattle.example_threads.proofs.Seats.{all_append}
use Rattle.example_threads.proofs.calls.close.Goals as goal

pub close-requires : goal.close-requires
close-requires g c =
    let z = c.args.shared.shared.table.shared.table_id in
    let crew = c.args.crew in
    let o = c.requires.others in
    let all = all_append z crew.lanes.items (crew.home ∷ crew.sender ∷ crew.reader ∷ []) c.requires.lanes
    (o.0, (o.1, (o.2, tt))) in
    record { own = subst (λ l. AllOf z l) (sym c.in-Ok.ensures) all }
