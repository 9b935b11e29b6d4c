use Rattle.std.proofs.Common.{rules, ◌≡◌, ◌<◌, length, sym, ◌∙◌, ap, Some, None, ℕ, List, inl}
use Rattle.std.specs.Prelude.{slice_get}
use Rattle.sftp_core.specs.Core.{Core, core_after_abandon, record_at, reply_in}
use Rattle.session_laws.specs.Lanes.{Ticketed}
use Rattle.session_laws.specs.Places.{without_index}
use Rattle.session_work.specs.declared.tokens.Tokens.{Tokens}
use Rattle.session_work.proofs.GivenUp.{missing_there, nothing_came, taken_given_up}
use Rattle.session_work.proofs.Polling.{get_there, without_is}
use Rattle.session_work.proofs.tokens.Tokens.give_up.Goals as goal

pub returns-then-is_some : goal.returns-then-is_some
returns-then-is_some c =
    taken_given_up c.args.core.now c.reply.new.core c.args.self.now.tickets.items c.reply.new.self.tickets.items
    c.args.self.now.grants.items c.reply.new.self.grants.items c.args.place c.reply.result
    (sym c.is_some.ensures ∙ c.if-is_some.true)
    c.reply.ensures.came

pub returns : goal.returns
returns c =
    let items : List Ticketed = c.args.self.now.tickets.items in
    let left : List Ticketed = c.reply.new.self.tickets.items in
    let none : c.reply.result ≡ None = search rules in
    let m = c.reply.ensures.missing none in
    let stays = c.reply.ensures.waits none in
    let same : left ≡ items = ap (λ (x : Tokens). x.tickets.items) stays.1 in
    let k : ℕ = c.in-Some.k in
    let t : Ticketed = c.remove.result in
    let lt : k < length left = search rules in
    let got : slice_get left k ≡ Some t = get_there left k t lt
    ∙ ap (λ (x : Ticketed). Some x) (sym c.remove.ensures.value) in
    let here : slice_get items k ≡ Some t = ap (λ (ts : List Ticketed). slice_get ts k) (sym same) ∙ got in
    let stands : t.place ≡ c.args.place = c.ticket_at.ensures.found k t c.in-Some.is
    (ap (λ (ts : List Ticketed). slice_get ts k) c.deref.ensures.value ∙ got) in
    let ticket : t.ticket ≡ c.ticket.inside.ticket = ap (λ (x : Ticketed). x.ticket) (sym c.ticket.view_is) in
    let missing : reply_in (record_at c.args.core.now c.ticket.inside.ticket) ≡ None =
    missing_there c.args.core.now items m.0 k m.1.0 t c.args.place c.ticket.inside.ticket c.requires.rising m.1.1.0
    here m.1.1.1 stands ticket m.1.1.2 in
    record {
      k = k;
      ticket = c.ticket.inside.ticket;
      here = here ∙ (λ i. Some (record { place = stands i; ticket = ticket i }));
      rest = c.remove.ensures.by_index.2 ∙ (without_is k left ∙ ap (λ (ts : List Ticketed). without_index k ts) same);
      how = inl (
        λ handle. nothing_came _ handle missing,
        (
          c.abandon.ensures
              ∙ ap (λ (x : Core). core_after_abandon x c.ticket.inside.ticket) stays.0,
          ap (λ (x : Tokens). x.grants.items) stays.1,
        ),
      );
    }
