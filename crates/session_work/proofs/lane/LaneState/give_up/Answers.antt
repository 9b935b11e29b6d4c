use Rattle.std.proofs.Common.{rules, Option, sym, ◌∙◌, ◌≡◌, ◌+◌, ap, refl, subst, ℕ, List, [], Some, None}
use Rattle.plan_runner.specs.Pending.{own_place, AwaitsNoMore}
use Rattle.session_laws.specs.Lanes.{Ticketed, ticket_places, LaneValue}
use Rattle.session_laws.specs.Places.{IsRising, is_in}
use Rattle.sftp_model.specs.declared.slot.Site.{Site}
use Rattle.plan_runner.specs.Cancelling.{left_behind}
use Rattle.plan_runner.specs.Sound.{KeepsSite}
use Rattle.plan_runner.specs.declared.next.Running.{Running}
use Rattle.plan_runner.specs.declared.next.Running.TheVariants as running
use Rattle.session_work.specs.Tokens.{TellReplies}
use Rattle.session_work.proofs.GivenUp.{keeps_all, place_gone}
use Rattle.session_work.proofs.lane.LaneState.give_up.Goals as goal

pub returns-in-Some-own_place-clause-gone : goal.returns-in-Some-own_place-clause-gone
returns-in-Some-own_place-clause-gone c = λ p mine.
    (let v : LaneValue = c.args.self.now in
    let was : v.running ≡ Some c.in-Some.running = search rules in
    let tickets : c.self.inside.tokens.tickets.items ≡ v.tickets = ap (λ (x : LaneValue). x.tickets) c.self.view_is in
    let both : ◌≡◌ {A = Option ℕ} (Some c.in-Some-own_place.place) (Some p) = sym c.in-Some-own_place.is
    ∙ (c.own_place.ensures ∙ (ap own_place (sym was) ∙ mine)) in
    let same : c.in-Some-own_place.place ≡ p = cc in
    let rising : IsRising (ticket_places c.self.inside.tokens.tickets.items) =
    subst (λ (ts : List Ticketed). IsRising (ticket_places ts)) (sym tickets) c.requires.may.rising in
    ap (λ (q : ℕ). is_in q (ticket_places c.give_up.new.self.tickets.items)) (sym same)
    ∙ place_gone c.args.core.now c.give_up.new.core c.self.inside.tokens.tickets.items c.give_up.new.self.tickets.items
    c.reserve.new.self.items c.give_up.new.self.grants.items c.in-Some-own_place.place rising c.give_up.ensures)

pub returns-in-Flushing-clause-ok : goal.returns-in-Flushing-clause-ok
returns-in-Flushing-clause-ok c =
    let v : LaneValue = c.args.self.now in
    let was : v.running ≡ Some c.in-Some.running = search rules in
    let site : c.self.inside.site ≡ v.site = ap (λ (x : LaneValue). x.site) c.self.view_is in
    let none : own_place v.running ≡ None = ap own_place was ∙ (sym c.own_place.ensures ∙ c.in_default-own_place.is) in
    let grants : c.reserve.new.self.items ≡ v.grants = search rules in
    keeps_all c.args.core.now c.args.core.now v _ none refl c.replace.ensures.after
    (ap (λ (x : LaneValue). x.tickets) c.self.view_is) grants
    (ap (λ (n : ℕ). n + 1) (ap (λ (x : LaneValue). x.ended) c.self.view_is))
    (subst (λ (x : Site). AwaitsNoMore x c.take_good.new.site) site c.take_good.ensures.fewer)
    (λ facts. subst (λ (x : Site). KeepsSite facts x c.take_good.new.site) site (c.take_good.ensures.keeps facts))

pub returns-in-Flushing-clause-leaves : goal.returns-in-Flushing-clause-leaves
returns-in-Flushing-clause-leaves c = λ r bytes facts answers runs tell.
    (let v : LaneValue = c.args.self.now in
    let was : v.running ≡ Some c.in-Some.running = search rules in
    let site : c.self.inside.site ≡ v.site = ap (λ (x : LaneValue). x.site) c.self.view_is in
    let tickets : c.self.inside.tokens.tickets.items ≡ v.tickets = ap (λ (x : LaneValue). x.tickets) c.self.view_is in
    let one : (◌≡◌ {A = Option Running} (Some r) (Some (running.Flushing c.in-Flushing.slot))) = sym runs
    ∙ (was ∙ ap (λ (x : Running). Some x) c.in-Flushing.is) in
    let same : r ≡ running.Flushing c.in-Flushing.slot = cc in
    ap (λ (x : Running). left_behind x bytes v.site facts [] answers) same
    ∙ (ap (λ (x : Site). left_behind (running.Flushing c.in-Flushing.slot) bytes x facts [] answers) (sym site)
    ∙ c.take_good.ensures.leaves facts answers (subst (λ (ts : List Ticketed). TellReplies c.args.core.now ts answers)
    (sym tickets) tell)))
