use Rattle.std.proofs.Common.{rules, ◌≡◌, ap, subst, sym, ◌∙◌, ℕ, List, Option, Some, None}
use Rattle.std.specs.Prelude.{IfOk, slice_get}
use Rattle.sftp_model.specs.declared.reply.Reply.{Reply}
use Rattle.sftp_model.specs.declared.slot.Site.{Site}
use Rattle.plan_runner.specs.declared.next.Next.{Next}
use Rattle.plan_runner.specs.declared.next.Running.{Running}
use Rattle.plan_runner.specs.Runners.{after, awaited_place, bytes_of}
use Rattle.plan_runner.specs.Sound.{AsksWithin, IsFittingReply}
use Rattle.plan_runner.specs.Asking.{BeginsAsking, GoesOnAsking, HasGrant, WidensAsking, opened_after}
use Rattle.plan_runner.specs.Pending.{reads_under}
use Rattle.session_laws.specs.Lanes.{Held, LaneValue, Ticketed, ticket_places}
use Rattle.session_laws.specs.Places.{is_in}
use Rattle.session_work.specs.Tokens.{AreGrants, SpendsTicket}
use Rattle.sftp_core.specs.Core.{Core}
use Rattle.session_laws.specs.Rest.{opened_in}
use Rattle.session_work.specs.Turning.{MayAsk, RangesBy, SettlesMove, SettlesMeanwhile, WentOn, AnswersUnreplied}
use Rattle.session_work.specs.declared.tokens.Tokens.{Tokens}
use Rattle.session_work.proofs.AskLaws.{held_after, held_first, held_on, may_ask, may_ask_more, may_ask_on, turned_meanwhile, turned_replied, turned_unreplied}
use Rattle.session_work.proofs.lane.LaneState.turn.Goals as goal

pub settle-requires-clause-may : goal.settle-requires-clause-may
settle-requires-clause-may c =
    let v : LaneValue = c.args.self.now in
    let n : Next = c.in_ok-next.next in
    let grants : c.reserve-2.new.self.items ≡ v.grants = search rules in
    let site : c.self.inside.site ≡ v.site = ap (λ (x : LaneValue). x.site) c.self.view_is in
    let asks : BeginsAsking None c.args.place v.site c.begin.new.site n =
    subst (λ (x : Site). BeginsAsking None c.args.place x c.begin.new.site n) site c.in_ok-next.ensures.asks in
    subst (λ (gs : List Held). MayAsk gs n) (sym grants) (may_ask None c.args.place v.site c.begin.new.site v.grants n
    asks (held_first v c.requires.holds))

pub settle-requires-in_default-awaited-clause-may : goal.settle-requires-in_default-awaited-clause-may
settle-requires-in_default-awaited-clause-may c =
    let v : LaneValue = c.args.self.now in
    let n : Next = c.in_ok-next-2.next in
    let grants : c.reserve-2.new.self.items ≡ v.grants = search rules in
    let was : v.running ≡ Some c.in-Some.running = search rules in
    let site : c.self.inside.site ≡ v.site = ap (λ (x : LaneValue). x.site) c.self.view_is in
    let asks : GoesOnAsking (opened_after c.in-Some.running None) c.args.place (reads_under (Some c.in-Some.running))
    v.site c.resume.new.site n = subst (λ (x : Site). GoesOnAsking (opened_after c.in-Some.running None)
    c.args.place (reads_under (Some c.in-Some.running)) x c.resume.new.site n) site c.in_ok-next-2.ensures.asks in
    subst (λ (gs : List Held). MayAsk gs n) (sym grants) (may_ask_on _ c.args.place _ v.site c.resume.new.site v.grants
    n asks (held_on v c.in-Some.running was c.requires.holds))

pub settle-requires-2-clause-may : goal.settle-requires-2-clause-may
settle-requires-2-clause-may c =
    let v : LaneValue = c.args.self.now in
    let tickets : c.reserve.new.self.items ≡ v.tickets = search rules in
    let grants : c.reserve-2.new.self.items ≡ v.grants = search rules in
    let was : v.running ≡ Some c.in-Some.running = search rules in
    let looks : awaited_place c.in-Some.running v.site ≡ Some c.in-Some-awaited.awaited = search rules in
    let site : c.self.inside.site ≡ v.site = ap (λ (x : LaneValue). x.site) c.self.view_is in
    let spent : SpendsTicket c.args.core.now c.reply.new.core v.tickets c.reply.new.self.tickets.items v.grants
    c.reply.new.self.grants.items c.in-Some-awaited.awaited c.in-Some-reply.reply =
    subst (λ (ts : List Ticketed). SpendsTicket c.args.core.now c.reply.new.core ts c.reply.new.self.tickets.items
    v.grants
    c.reply.new.self.grants.items c.in-Some-awaited.awaited c.in-Some-reply.reply) tickets
    (subst (λ (gs : List Held). SpendsTicket c.args.core.now c.reply.new.core c.reserve.new.self.items
    c.reply.new.self.tickets.items gs c.reply.new.self.grants.items c.in-Some-awaited.awaited c.in-Some-reply.reply)
    grants c.in-Some-reply.ensures.came) in
    let asks : GoesOnAsking (opened_after c.in-Some.running (Some c.in-Some-reply.reply)) c.args.place
    (reads_under (Some c.in-Some.running)) v.site c.resume-2.new.site c.in_ok-next-4.next =
    subst (λ (x : Site). GoesOnAsking (opened_after c.in-Some.running (Some c.in-Some-reply.reply)) c.args.place
    (reads_under (Some c.in-Some.running)) x c.resume-2.new.site c.in_ok-next-4.next) site
    c.in_ok-next-4.ensures.asks in
    subst (λ (gs : List Held). MayAsk gs c.in_ok-next-4.next) (sym spent.now)
    (may_ask_on _ _ _ _ _ _ c.in_ok-next-4.next asks
    (held_after v c.in-Some.running c.in-Some-reply.reply c.in-Some-awaited.awaited spent.ticket was looks
    c.requires.holds))

pub returns-clause-turned : goal.returns-clause-turned
returns-clause-turned c =
    let v : LaneValue = c.args.self.now in
    let tickets : c.reserve.new.self.items ≡ v.tickets = search rules in
    let grants : c.reserve-2.new.self.items ≡ v.grants = search rules in
    let was : v.running ≡ Some c.in-Some.running = search rules in
    let looks : awaited_place c.in-Some.running v.site ≡ Some c.in-Some-awaited.awaited = search rules in
    let site : c.self.inside.site ≡ v.site = ap (λ (x : LaneValue). x.site) c.self.view_is in
    let spent : SpendsTicket c.args.core.now c.reply.new.core v.tickets c.reply.new.self.tickets.items v.grants
    c.reply.new.self.grants.items c.in-Some-awaited.awaited c.in-Some-reply.reply =
    subst (λ (ts : List Ticketed). SpendsTicket c.args.core.now c.reply.new.core ts c.reply.new.self.tickets.items
    v.grants
    c.reply.new.self.grants.items c.in-Some-awaited.awaited c.in-Some-reply.reply) tickets
    (subst (λ (gs : List Held). SpendsTicket c.args.core.now c.reply.new.core c.reserve.new.self.items
    c.reply.new.self.tickets.items gs c.reply.new.self.grants.items c.in-Some-awaited.awaited c.in-Some-reply.reply)
    grants c.in-Some-reply.ensures.came) in
    let went : WentOn c.in-Some.running (Some c.in-Some-reply.reply) c.args.call.now c.args.facts.now c.args.place
    v.site c.resume-2.new.site c.in_ok-next-4.next =
    subst (λ (x : Site). WentOn c.in-Some.running (Some c.in-Some-reply.reply) c.args.call.now c.args.facts.now
    c.args.place x c.resume-2.new.site c.in_ok-next-4.next) site c.in_ok-next-4.ensures.went in
    let asks : GoesOnAsking (opened_after c.in-Some.running (Some c.in-Some-reply.reply)) c.args.place
    (reads_under (Some c.in-Some.running)) v.site c.resume-2.new.site c.in_ok-next-4.next =
    subst (λ (x : Site). GoesOnAsking (opened_after c.in-Some.running (Some c.in-Some-reply.reply)) c.args.place
    (reads_under (Some c.in-Some.running)) x c.resume-2.new.site c.in_ok-next-4.next) site
    c.in_ok-next-4.ensures.asks in
    turned_replied c.args.call.now c.args.facts.now c.args.place c.args.core.now c.reply.new.core c.settle-2.new.core v
    _ c.in-Some.running c.in-Some-awaited.awaited c.in-Some-reply.reply c.reply.new.self.tickets.items
    c.reply.new.self.grants.items c.in_ok-next-4.next c.settle-2.result
    was looks spent went asks c.in_ok-next-4.ensures.by (ap (λ (x : LaneValue). x.ended) c.self.view_is)
    c.settle-2.ensures.settled

pub returns-in_default-awaited-clause-turned : goal.returns-in_default-awaited-clause-turned
returns-in_default-awaited-clause-turned c =
    let v : LaneValue = c.args.self.now in
    let n : Next = c.in_ok-next-2.next in
    let r : Running = c.in-Some.running in
    let tickets : c.reserve.new.self.items ≡ v.tickets = search rules in
    let grants : c.reserve-2.new.self.items ≡ v.grants = search rules in
    let was : v.running ≡ Some r = search rules in
    let looks : awaited_place r v.site ≡ None = search rules in
    let site : c.self.inside.site ≡ v.site = ap (λ (x : LaneValue). x.site) c.self.view_is in
    let went : WentOn r None c.args.call.now c.args.facts.now c.args.place v.site c.resume.new.site n =
    subst (λ (x : Site). WentOn r None c.args.call.now c.args.facts.now c.args.place x c.resume.new.site n) site
    c.in_ok-next-2.ensures.went in
    let asks : GoesOnAsking (opened_after r None) c.args.place (reads_under (Some r)) v.site c.resume.new.site n =
    subst (λ (x : Site). GoesOnAsking (opened_after r None) c.args.place (reads_under (Some r)) x c.resume.new.site n)
    site c.in_ok-next-2.ensures.asks in
    let to = c.settle-in_default-awaited in
    let settles : IfOk to.result (λ m. SettlesMove c.args.core.now to.new.core v.tickets to.new.tokens.tickets.items
    v.grants to.new.tokens.grants.items to.new.running c.args.place n m) =
    subst (λ (ts : List Ticketed). IfOk to.result (λ m. SettlesMove c.args.core.now to.new.core ts
    to.new.tokens.tickets.items v.grants to.new.tokens.grants.items to.new.running c.args.place n m)) tickets
    (subst (λ (gs : List Held). IfOk to.result (λ m. SettlesMove c.args.core.now to.new.core c.reserve.new.self.items
    to.new.tokens.tickets.items gs to.new.tokens.grants.items to.new.running c.args.place n m)) grants
    to.ensures.settled) in
    turned_unreplied c.args.call.now c.args.facts.now c.args.place c.args.core.now to.new.core v _ r n to.result was
    looks went asks c.in_ok-next-2.ensures.by (ap (λ (x : LaneValue). x.ended) c.self.view_is) settles

pub settle_meanwhile-requires-clause-may : goal.settle_meanwhile-requires-clause-may
settle_meanwhile-requires-clause-may c =
    let v : LaneValue = c.args.self.now in
    let n : Next = c.in_ok-next-3.next in
    let r : Running = c.in-Some.running in
    let grants : c.reserve-2.new.self.items ≡ v.grants = search rules in
    let was : v.running ≡ Some r = search rules in
    let site : c.self.inside.site ≡ v.site = ap (λ (x : LaneValue). x.site) c.self.view_is in
    let stays = c.reply.ensures.waits c.in_default-reply.is in
    let asks : WidensAsking r c.args.place v.site n = subst (λ (x : Site). WidensAsking r c.args.place x n) site
    c.in_ok-next-3.ensures.asks in
    subst (λ (gs : List Held). MayAsk gs n) (sym (ap (λ (x : Tokens). x.grants.items) stays.1 ∙ grants))
    (may_ask_more r c.args.place v.site v.grants n asks (λ g has. c.requires.holds g
    (subst (λ (o : Option Running). HasGrant v.site (opened_in o) g) (sym was) has)))

pub returns-in_default-reply-clause-turned : goal.returns-in_default-reply-clause-turned
returns-in_default-reply-clause-turned c =
    let v : LaneValue = c.args.self.now in
    let n : Next = c.in_ok-next-3.next in
    let r : Running = c.in-Some.running in
    let tickets : c.reserve.new.self.items ≡ v.tickets = search rules in
    let grants : c.reserve-2.new.self.items ≡ v.grants = search rules in
    let was : v.running ≡ Some r = search rules in
    let looks : awaited_place r v.site ≡ Some c.in-Some-awaited.awaited = search rules in
    let site : c.self.inside.site ≡ v.site = ap (λ (x : LaneValue). x.site) c.self.view_is in
    let m = c.reply.ensures.missing c.in_default-reply.is in
    let stays = c.reply.ensures.waits c.in_default-reply.is in
    let ran : AnswersUnreplied r c.args.call.now c.args.facts.now c.args.place v.site n =
    subst (λ (x : Site). AnswersUnreplied r c.args.call.now c.args.facts.now c.args.place x n) site
    c.in_ok-next-3.ensures.widened in
    let asks : WidensAsking r c.args.place v.site n = subst (λ (x : Site). WidensAsking r c.args.place x n) site
    c.in_ok-next-3.ensures.asks in
    let to = c.settle_meanwhile in
    let settles : IfOk to.result (λ y. SettlesMeanwhile c.args.core.now to.new.core v.tickets
    to.new.tokens.tickets.items v.grants to.new.tokens.grants.items to.new.running c.args.place n y) =
    subst (λ (x : Core). IfOk to.result (λ y. SettlesMeanwhile x to.new.core v.tickets to.new.tokens.tickets.items
    v.grants to.new.tokens.grants.items to.new.running c.args.place n y)) stays.0
    (subst (λ (ts : List Ticketed). IfOk to.result (λ y. SettlesMeanwhile c.reply.new.core to.new.core ts
    to.new.tokens.tickets.items v.grants to.new.tokens.grants.items to.new.running c.args.place n y))
    (ap (λ (x : Tokens). x.tickets.items) stays.1 ∙ tickets)
    (subst (λ (gs : List Held). IfOk to.result (λ y. SettlesMeanwhile c.reply.new.core to.new.core
    c.reply.new.self.tickets.items to.new.tokens.tickets.items gs to.new.tokens.grants.items to.new.running
    c.args.place n y)) (ap (λ (x : Tokens). x.grants.items) stays.1 ∙ grants)
    to.ensures.settled)) in
    turned_meanwhile c.args.call.now c.args.facts.now c.args.place c.args.core.now to.new.core v _ r m.0 m.1.0 n
    to.result was (looks ∙ ap (λ (k : ℕ). Some k) (sym m.1.1.1))
    (ap (λ (ts : List Ticketed). slice_get ts m.0) (sym tickets) ∙ m.1.1.0) m.1.1.2 ran asks
    c.in_ok-next-3.ensures.reads site (ap (λ (x : LaneValue). x.ended) c.self.view_is) settles

pub resume-requires-2 : goal.resume-requires-2
resume-requires-2 c = record {
  safe = search rules;
  fits = (
      let v : LaneValue = c.args.self.now in
      let tickets : c.reserve.new.self.items ≡ v.tickets = search rules in
      let was : v.running ≡ Some c.in-Some.running = search rules in
      let looks : awaited_place c.in-Some.running v.site ≡ Some c.in-Some-awaited.awaited = search rules in
      let spent = c.in-Some-reply.ensures.came in
      subst (λ (o : Option Reply). IsFittingReply c.in-Some.running o) spent.came
      (c.requires.fits spent.k (record { place = c.in-Some-awaited.awaited; ticket = spent.ticket }) c.in-Some.running
      (ap (λ (ts : List Ticketed). slice_get ts spent.k) (sym tickets) ∙ spent.here) was looks)
      );
  range = (
      let v : LaneValue = c.args.self.now in
      let r : Running = c.in-Some.running in
      let bytes : List ℕ = bytes_of (c.args.call.now) in
      let tickets : c.reserve.new.self.items ≡ v.tickets = search rules in
      let was : v.running ≡ Some r = search rules in
      let looks : awaited_place r v.site ≡ Some c.in-Some-awaited.awaited = search rules in
      let site : c.self.inside.site ≡ v.site = ap (λ (x : LaneValue). x.site) c.self.view_is in
      let spent = c.in-Some-reply.ensures.came in
      subst (λ (x : Site). AsksWithin c.args.facts.now (after r bytes x c.args.facts.now (Some c.in-Some-reply.reply)))
      (sym site)
      (subst (λ (o : Option Reply). RangesBy r bytes v.site c.args.facts.now o) spent.came
      (c.requires.range.some spent.k (record { place = c.in-Some-awaited.awaited; ticket = spent.ticket }) r
      (ap (λ (ts : List Ticketed). slice_get ts spent.k) (sym tickets) ∙ spent.here) was looks))
      );
}

pub settle-requires-2-clause-submit : goal.settle-requires-2-clause-submit
settle-requires-2-clause-submit c = record {
  room = search rules;
  held = (
      let grants : c.reserve-2.new.self.items ≡ c.args.self.now.grants = search rules in
      λ k g got. c.reply.ensures.leaves.held (subst (λ (gs : List Held). AreGrants c.args.core.now gs) (sym grants)
      c.requires.held) k g got
      );
  ready = search rules;
  few = search rules;
}

pub settle-requires-in_default-awaited-clause-submit : goal.settle-requires-in_default-awaited-clause-submit
settle-requires-in_default-awaited-clause-submit c = record {
  room = search rules;
  held = (
      let grants : c.reserve-2.new.self.items ≡ c.args.self.now.grants = search rules in
      subst (λ (gs : List Held). AreGrants c.args.core.now gs) (sym grants) c.requires.held
      );
  ready = search rules;
  few = search rules;
}

pub reply-requires : goal.reply-requires
reply-requires c = record {
  counted = search rules;
  awaited = (
      let v : LaneValue = c.args.self.now in
      let tickets : c.reserve.new.self.items ≡ v.tickets = search rules in
      let was : v.running ≡ Some c.in-Some.running = search rules in
      let looks : awaited_place c.in-Some.running v.site ≡ Some c.in-Some-awaited.awaited = search rules in
      ap (λ (ts : List Ticketed). is_in c.in-Some-awaited.awaited (ticket_places ts)) tickets
      ∙ c.requires.awaits c.in-Some.running c.in-Some-awaited.awaited was looks
      );
  unfailed = search rules;
  room = search rules;
}
