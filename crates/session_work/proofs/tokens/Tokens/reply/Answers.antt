use Rattle.std.proofs.Common.{rules, ◌≡◌, ◌<◌, ◌++◌, ◌∷◌, [], length, true, false, sym, ◌∙◌, ap, subst, Some, Ok, ℕ, List}
use Rattle.std.specs.Prelude.{◌≤◌, slice_get}
use Rattle.std.specs.FinMap as fin
use Rattle.sftp_model.specs.declared.reply.Reply.TheVariants as reply
use Rattle.sftp_core.specs.Core.{Core, record_at, is_ticket, polled_with, reply_in}
use Rattle.sftp_core.specs.declared.id_record.IdRecord.TheVariants.{Granted}
use Rattle.sftp_core.specs.declared.tokens.Polled.TheVariants as polled
use Rattle.session_laws.specs.Lanes.{Held, Ticketed, ticket_places}
use Rattle.session_laws.specs.Places.{is_in}
use Rattle.session_work.proofs.Polling.{
  copied_none,
  gave_grant,
  gave_reply,
  get_there,
  grants_more,
  grants_stay,
  plain_grants,
  polls_few,
  tickets_out,
  without_is,
}
use Rattle.session_work.proofs.tokens.Tokens.reply.Goals as goal

pub unreachable-requires : goal.unreachable-requires
unreachable-requires c =
    let items : List Ticketed = c.args.self.now.tickets.items in
    let out : is_in c.args.place (ticket_places items) ≡ false =
    tickets_out items c.args.place (λ k t got. c.ticket_at.ensures.missing k t c.in_default.is
    (ap (λ (xs : List Ticketed). slice_get xs k) c.deref.ensures.value ∙ got)) in
    let clash : false ≡ true = sym out ∙ c.requires.awaited in
    cc

pub peek-requires : goal.peek-requires
peek-requires c =
    let items : List Ticketed = c.args.self.now.tickets.items in
    let k : ℕ = c.in-Some.k in
    let t : Ticketed = c.index.result.now in
    let lt : k < length items = search rules in
    let got : slice_get items k ≡ Some t = get_there items k t lt ∙ ap (λ (x : Ticketed). Some x) (sym c.index.ensures)
    in
    ap (λ (x : Ticketed). is_ticket (record_at c.args.core.now x.ticket)) c.behind-self.view_is
    ∙ c.requires.counted k t got

pub returns-then-is_none-clause-missing : goal.returns-then-is_none-clause-missing
returns-then-is_none-clause-missing c =
    let items : List Ticketed = c.args.self.now.tickets.items in
    let k : ℕ = c.in-Some.k in
    let t : Ticketed = c.index.result.now in
    let lt : k < length items = search rules in
    let got : slice_get items k ≡ Some t = get_there items k t lt ∙ ap (λ (x : Ticketed). Some x) (sym c.index.ensures)
    in
    λ e. (
      k,
      (
        t,
        (
          got,
          c.ticket_at.ensures.found k t c.in-Some.is (ap (λ (xs : List Ticketed). slice_get xs k) c.deref.ensures.value
              ∙ got),
          ap (λ (x : Ticketed). reply_in (record_at c.args.core.now x.ticket)) (sym c.behind-self.view_is)
              ∙ (sym c.peek.ensures.value ∙ copied_none c.peek.result c.if-is_none.ensures),
        ),
      ),
    )

pub returns-in-Ok-Reply-clause-came : goal.returns-in-Ok-Reply-clause-came
returns-in-Ok-Reply-clause-came c =
    let items : List Ticketed = c.args.self.now.tickets.items in
    let k : ℕ = c.in-Some.k in
    let t : Ticketed = c.remove.result in
    let lt : k < length items = search rules in
    let got : slice_get items k ≡ Some t = get_there items k t lt
    ∙ ap (λ (x : Ticketed). Some x) (sym c.remove.ensures.value) in
    let stands : t.place ≡ c.args.place = c.ticket_at.ensures.found k t c.in-Some.is
    (ap (λ (xs : List Ticketed). slice_get xs k) c.deref.ensures.value ∙ got) in
    let same : t.ticket ≡ c.ticket.inside.ticket = ap (λ (x : Ticketed). x.ticket) (sym c.ticket.view_is) in
    let gave : polled_with c.args.core.now c.ticket.inside.ticket ≡ Ok (polled.Reply c.in-Ok-Reply.reply) = search rules
    in
    record {
      k = k;
      ticket = c.ticket.inside.ticket;
      here = got ∙ (λ i. Some (record { place = stands i; ticket = same i }));
      came = (gave_reply c.ticket.inside.ticket _ _ c.in-Ok-Reply.reply gave).0;
      core = c.poll.ensures.after;
      rest = c.remove.ensures.by_index.2 ∙ without_is k items;
      now = plain_grants c.args.self.now.grants.items c.args.place c.ticket.inside.ticket _ _ c.in-Ok-Reply.reply gave;
    }

pub returns-in-Ok-Granted-clause-came : goal.returns-in-Ok-Granted-clause-came
returns-in-Ok-Granted-clause-came c =
    let items : List Ticketed = c.args.self.now.tickets.items in
    let grants : List Held = c.args.self.now.grants.items in
    let k : ℕ = c.in-Some.k in
    let t : Ticketed = c.remove.result in
    let lt : k < length items = search rules in
    let got : slice_get items k ≡ Some t = get_there items k t lt
    ∙ ap (λ (x : Ticketed). Some x) (sym c.remove.ensures.value) in
    let stands : t.place ≡ c.args.place = c.ticket_at.ensures.found k t c.in-Some.is
    (ap (λ (xs : List Ticketed). slice_get xs k) c.deref.ensures.value ∙ got) in
    let same : t.ticket ≡ c.ticket.inside.ticket = ap (λ (x : Ticketed). x.ticket) (sym c.ticket.view_is) in
    let gave : polled_with c.args.core.now c.ticket.inside.ticket ≡ Ok (polled.Granted c.in-Ok-Granted.grant) =
    search rules in
    let handle : c.in-Ok-Granted.grant.handle ≡ c.copied-handle.result =
    sym (c.copied-handle.ensures ∙ c.handle.ensures) in
    let x = gave_grant c.ticket.inside.ticket _ _ c.in-Ok-Granted.grant gave in
    let pushed : c.push.new.self.items ≡ grants ++ (record { place = c.args.place; grant = c.in-Ok-Granted.grant }) ∷ []
    = search rules in
    record {
      k = k;
      ticket = c.ticket.inside.ticket;
      here = got ∙ (λ i. Some (record { place = stands i; ticket = same i }));
      came = x.0 ∙ ap (λ (h : List ℕ). Some (reply.Handle h)) handle;
      core = c.poll.ensures.after;
      rest = c.remove.ensures.by_index.2 ∙ without_is k items;
      now = pushed ∙ (λ i. grants ++ (record { place = c.args.place; grant = record { id = x.1 i; handle = handle i } })
          ∷ []);
    }

pub returns-in-Ok-Reply-clause-leaves : goal.returns-in-Ok-Reply-clause-leaves
returns-in-Ok-Reply-clause-leaves c = record {
  held =
      λ held k g here.
      (let items : List Ticketed = c.args.self.now.tickets.items in
      let t : Ticketed = c.remove.result in
      let lt : c.in-Some.k < length items = search rules in
      let got : slice_get items c.in-Some.k ≡ Some t = get_there items c.in-Some.k t lt
      ∙ ap (λ (x : Ticketed). Some x) (sym c.remove.ensures.value) in
      let counted : is_ticket (record_at c.args.core.now c.ticket.inside.ticket) ≡ true =
      ap (λ (x : Ticketed). is_ticket (record_at c.args.core.now x.ticket)) c.ticket.view_is
      ∙ c.requires.counted c.in-Some.k t got in
      subst (λ (x : Core). record_at x g.grant.id ≡ Some (Granted g.grant.handle 1)) (sym c.poll.ensures.after)
      (grants_stay c.args.core.now c.ticket.inside.ticket c.args.self.now.grants.items counted held k g here));
  ready = search rules;
  few =
      subst (λ (x : Core). fin.len x.table ≤ fin.len c.args.core.now.table)
      (sym c.poll.ensures.after) (polls_few c.args.core.now c.ticket.inside.ticket);
  len = search rules;
  capacity = search rules;
}

pub returns-in-Ok-Granted-clause-leaves : goal.returns-in-Ok-Granted-clause-leaves
returns-in-Ok-Granted-clause-leaves c = record {
  held =
      λ held k g here.
      (let items : List Ticketed = c.args.self.now.tickets.items in
      let grants : List Held = c.args.self.now.grants.items in
      let t : Ticketed = c.remove.result in
      let lt : c.in-Some.k < length items = search rules in
      let got : slice_get items c.in-Some.k ≡ Some t = get_there items c.in-Some.k t lt
      ∙ ap (λ (x : Ticketed). Some x) (sym c.remove.ensures.value) in
      let counted : is_ticket (record_at c.args.core.now c.ticket.inside.ticket) ≡ true =
      ap (λ (x : Ticketed). is_ticket (record_at c.args.core.now x.ticket)) c.ticket.view_is
      ∙ c.requires.counted c.in-Some.k t got in
      let gave : polled_with c.args.core.now c.ticket.inside.ticket ≡ Ok (polled.Granted c.in-Ok-Granted.grant) =
      search rules in
      let pushed : c.push.new.self.items ≡ grants ++ (record { place = c.args.place; grant = c.in-Ok-Granted.grant }) ∷
      [] = search rules in
      subst (λ (x : Core). record_at x g.grant.id ≡ Some (Granted g.grant.handle 1)) (sym c.poll.ensures.after)
      (grants_more c.args.core.now c.ticket.inside.ticket c.args.place grants c.in-Ok-Granted.grant counted gave held k
      g
      (ap (λ (xs : List Held). slice_get xs k) (sym pushed) ∙ here)));
  ready = search rules;
  few =
      subst (λ (x : Core). fin.len x.table ≤ fin.len c.args.core.now.table)
      (sym c.poll.ensures.after) (polls_few c.args.core.now c.ticket.inside.ticket);
  len = search rules;
  capacity = search rules;
}
