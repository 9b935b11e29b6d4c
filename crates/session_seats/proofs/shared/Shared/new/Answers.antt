use Rattle.std.proofs.Common.{rules, ◌≡◌, [], ◌∷◌, subst, sym, List}
use Rattle.atomic_table.specs.Table.{opening}
use Rattle.session_seats.specs.Rules.{Kept, home}
use Rattle.session_seats.proofs.Steps.{begins}
use Rattle.session_seats.proofs.shared.Shared.new.Goals as goal

pub new-requires-3 : goal.new-requires-3
new-requires-3 g c =
    let items : c.push_reserved.new.self.items ≡ c.args.value ∷ [] = search rules in
    subst (λ (ys : List _). Kept g.S.Held.shown (opening (0 ∷ []) ys (home c.args.origin.now))) (sym items)
    (begins g.S.Held.shown c.args.origin.now c.args.value c.requires)
