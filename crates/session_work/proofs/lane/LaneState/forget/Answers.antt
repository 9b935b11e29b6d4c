use Rattle.std.proofs.Common.{◌≡◌, ap, ◌∙◌, ℕ, List}
use Rattle.session_laws.specs.Lanes.{LaneValue, Ticketed}
use Rattle.session_laws.specs.Places.{without_index}
use Rattle.session_work.proofs.Polling.{without_is}
use Rattle.session_work.proofs.lane.LaneState.forget.Goals as goal

pub returns-clause-lane : goal.returns-clause-lane
returns-clause-lane c =
    let items : List Ticketed = c.self.inside.tokens.tickets.items in
    let k : ℕ = c.args.k in
    let tickets : items ≡ c.args.self.now.tickets = ap (λ (x : LaneValue). x.tickets) c.self.view_is in
    λ i. record {
      running = (ap (λ (x : LaneValue). x.running) c.self.view_is) i;
      site = (ap (λ (x : LaneValue). x.site) c.self.view_is) i;
      tickets = (c.remove.ensures.by_index.2 ∙ (without_is k items
          ∙ ap (λ (xs : List Ticketed). without_index k xs) tickets)) i;
      grants = (ap (λ (x : LaneValue). x.grants) c.self.view_is) i;
      ended = (ap (λ (x : LaneValue). x.ended) c.self.view_is) i;
    }
