use Rattle.std.proofs.Common.{rules, ◌≡◌, ◌<◌, ap, sym, ◌∙◌, ℕ, true, false, length, List, Option, Some, None}
use Rattle.std.specs.Prelude.{slice_get}
use Rattle.sftp_model.specs.declared.reply.Reply.{Reply}
use Rattle.plan_model.specs.BufferPlans.{is_good}
use Rattle.sftp_core.specs.Core.{record_at, is_ticket, reply_in}
use Rattle.session_laws.specs.Lanes.{Ticketed, ticket_places}
use Rattle.session_laws.specs.Places.{is_in}
use Rattle.session_work.proofs.Polling.{get_there, tickets_out}
use Rattle.session_work.proofs.tokens.Tokens.is_good.Goals as goal

pub unreachable-requires : goal.unreachable-requires
unreachable-requires c =
    let items : List Ticketed = c.args.self.now.tickets.items in
    let out : is_in c.args.place (ticket_places items) ≡ false =
    tickets_out items c.args.place (λ k t got. c.ticket_at.ensures.missing k t c.in_default.is
    (ap (λ (xs : List Ticketed). slice_get xs k) c.deref.ensures.value ∙ got)) in
    let clash : false ≡ true = sym out ∙ c.requires.awaited in
    cc

pub peek-requires : goal.peek-requires
peek-requires c =
    let items : List Ticketed = c.args.self.now.tickets.items in
    let k : ℕ = c.in-Some.k in
    let t : Ticketed = c.index.result.now in
    let lt : k < length items = search rules in
    let got : slice_get items k ≡ Some t = get_there items k t lt ∙ ap (λ (x : Ticketed). Some x) (sym c.index.ensures)
    in
    ap (λ (x : Ticketed). is_ticket (record_at c.args.core.now x.ticket)) c.behind-self.view_is
    ∙ c.requires.counted k t got

pub returns-in-Some-peek : goal.returns-in-Some-peek
returns-in-Some-peek c = λ answers tell.
    (let items : List Ticketed = c.args.self.now.tickets.items in
    let k : ℕ = c.in-Some.k in
    let t : Ticketed = c.index.result.now in
    let lt : k < length items = search rules in
    let got : slice_get items k ≡ Some t = get_there items k t lt ∙ ap (λ (x : Ticketed). Some x) (sym c.index.ensures)
    in
    let place : t.place ≡ c.args.place = c.ticket_at.ensures.found k t c.in-Some.is
    (ap (λ (xs : List Ticketed). slice_get xs k) c.deref.ensures.value ∙ got) in
    let came : reply_in (record_at c.args.core.now c.behind-self.inside.ticket) ≡ Some c.in-Some-peek.reply.now =
    search rules in
    let told : Some c.in-Some-peek.reply.now ≡ answers c.args.place =
    sym came ∙ (ap (λ (x : Ticketed). reply_in (record_at c.args.core.now x.ticket)) c.behind-self.view_is
    ∙ (tell k t got ∙ ap answers place)) in
    c.is_good.ensures ∙ ap is_good told)

pub returns-in-None : goal.returns-in-None
returns-in-None c = λ answers tell.
    (let items : List Ticketed = c.args.self.now.tickets.items in
    let k : ℕ = c.in-Some.k in
    let t : Ticketed = c.index.result.now in
    let lt : k < length items = search rules in
    let got : slice_get items k ≡ Some t = get_there items k t lt ∙ ap (λ (x : Ticketed). Some x) (sym c.index.ensures)
    in
    let place : t.place ≡ c.args.place = c.ticket_at.ensures.found k t c.in-Some.is
    (ap (λ (xs : List Ticketed). slice_get xs k) c.deref.ensures.value ∙ got) in
    let missing : reply_in (record_at c.args.core.now c.behind-self.inside.ticket) ≡ None = search rules in
    let told : ◌≡◌ {A = Option Reply} None (answers c.args.place) = sym missing
    ∙ (ap (λ (x : Ticketed). reply_in (record_at c.args.core.now x.ticket)) c.behind-self.view_is
    ∙ (tell k t got ∙ ap answers place)) in
    ap is_good told)
