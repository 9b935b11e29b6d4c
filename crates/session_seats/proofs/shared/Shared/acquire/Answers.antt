use Rattle.std.proofs.Common.{rules, ◌∷◌, ap, ◌∙◌, subst}
use Rattle.session_seats.specs.Rules.{first, ShowsSightOf, with_claims_held}
use Rattle.session_seats.proofs.HoldLaws.{acquires_as, has_taken}
use Rattle.session_seats.proofs.shared.Shared.acquire.Goals as goal

pub compare_exchange-requires : goal.compare_exchange-requires
compare_exchange-requires g c =
    let i = c.loop.invariant in
    (search rules, search rules, acquires_as g.S.Held.shown _ _ _ c.args.seat.now.me c.requires.free i.1)

pub returns-then-compare_exchange-eq0-clause-taken : goal.returns-then-compare_exchange-eq0-clause-taken
returns-then-compare_exchange-eq0-clause-taken g c =
    let i = c.loop.invariant in
    let t = c.compare_exchange.ensures.2.0 (search rules) in
    let n = c.compare_exchange.new.seat.me in
    let m = c.args.seat.now.me in
    has_taken g.S.Held.shown m n c.requires.free t.0 t.1
    (t.2 ∙ ap (λ (x : _). (with_claims_held t.1 (g.S.Held.shown t.0).users x.0, (0, t.0) ∷ x.1)) i.1)
    (subst (λ (x : _). ShowsSightOf (first x.0.claims) t.1 (g.S.Held.shown t.0)) i.1 t.3)
