use Rattle.std.proofs.Common.{rules, ◌≡◌, ◌<◌, ap, sym, ◌∙◌, subst, ℕ, length, List, Option, Some}
use Rattle.std.specs.Prelude.{slice_get}
use Rattle.sftp_core.specs.Core.{Core, core_after_abandon, record_at, is_ticket, core_after_release}
use Rattle.sftp_core.specs.Grant.{GrantValue}
use Rattle.sftp_core.specs.declared.id_record.IdRecord.TheVariants.{Granted}
use Rattle.session_laws.specs.Ends.{let_go}
use Rattle.session_laws.specs.Lanes.{Held, LaneValue}
use Rattle.session_laws.specs.Places.{without_index}
use Rattle.session_work.proofs.AskLaws.{last_gives}
use Rattle.session_work.proofs.LettingGo.{close_counted}
use Rattle.session_work.proofs.Polling.{get_there, without_is}
use Rattle.session_work.proofs.lane.LaneState.release.Goals as goal

pub abandon-requires : goal.abandon-requires
abandon-requires c =
    let v : LaneValue = c.args.self.now in
    let items : List Held = c.self.inside.tokens.grants.items in
    let held : Held = c.remove.result in
    let grant : GrantValue = c.grant.inside.grant in
    let grants : items ≡ v.grants = ap (λ (x : LaneValue). x.grants) c.self.view_is in
    let lt : c.args.k < length items = search rules in
    let got : slice_get items c.args.k ≡ Some held = get_there items c.args.k held lt
    ∙ ap (λ (x : Held). Some x) (sym c.remove.ensures.value) in
    let view : held.grant ≡ grant = ap (λ (x : Held). x.grant) (sym c.grant.view_is) in
    let here : record_at c.args.core.now grant.id ≡ Some (Granted grant.handle 1) =
    subst (λ (x : GrantValue). record_at c.args.core.now x.id ≡ Some (Granted x.handle 1)) view
    (c.requires.held c.args.k held (ap (λ (xs : List Held). slice_get xs c.args.k) (sym grants) ∙ got)) in
    let gives : ◌≡◌ {A = Option ℕ} (Some c.in-Some.ticket) (Some grant.id) = sym c.in-Some.is
    ∙ (c.release.ensures.answer ∙ last_gives c.args.core.now grant here) in
    let ticket : c.in-Some.ticket ≡ grant.id = cc in
    ap (λ (x : Core). is_ticket (record_at x c.in-Some.ticket)) c.release.ensures.after
    ∙ (ap (λ (n : ℕ). is_ticket (record_at (core_after_release c.args.core.now grant) n)) ticket
    ∙ close_counted c.args.core.now grant here)

pub returns-clause-released : goal.returns-clause-released
returns-clause-released c = λ g asked.
    (let v : LaneValue = c.args.self.now in
    let items : List Held = c.self.inside.tokens.grants.items in
    let held : Held = c.remove.result in
    let grant : GrantValue = c.grant.inside.grant in
    let grants : items ≡ v.grants = ap (λ (x : LaneValue). x.grants) c.self.view_is in
    let lt : c.args.k < length items = search rules in
    let got : slice_get items c.args.k ≡ Some held = get_there items c.args.k held lt
    ∙ ap (λ (x : Held). Some x) (sym c.remove.ensures.value) in
    let both : ◌≡◌ {A = Option Held} (Some held) (Some g) = sym got
    ∙ (ap (λ (xs : List Held). slice_get xs c.args.k) grants ∙ asked) in
    let same : held ≡ g = cc in
    let view : grant ≡ g.grant = ap (λ (x : Held). x.grant) c.grant.view_is ∙ ap (λ (x : Held). x.grant) same in
    let here : record_at c.args.core.now grant.id ≡ Some (Granted grant.handle 1) =
    subst (λ (x : GrantValue). record_at c.args.core.now x.id ≡ Some (Granted x.handle 1)) (sym view)
    (c.requires.held c.args.k g asked) in
    let gives : ◌≡◌ {A = Option ℕ} (Some c.in-Some.ticket) (Some grant.id) = sym c.in-Some.is
    ∙ (c.release.ensures.answer ∙ last_gives c.args.core.now grant here) in
    let ticket : c.in-Some.ticket ≡ grant.id = cc in (
      c.id-id.ensures ∙ (ticket ∙ ap (λ (x : GrantValue). x.id) view),
      (
        c.copied-handle.ensures ∙ (c.handle.ensures ∙ ap (λ (x : GrantValue). x.handle) view),
        c.abandon.ensures ∙ ((λ i. core_after_abandon (c.release.ensures.after i) (ticket i))
            ∙ ap (λ (x : GrantValue). let_go c.args.core.now x) view),
      ),
    ))

pub returns-clause-lane : goal.returns-clause-lane
returns-clause-lane c =
    let v : LaneValue = c.args.self.now in
    let items : List Held = c.self.inside.tokens.grants.items in
    let k : ℕ = c.args.k in
    let grants : items ≡ v.grants = ap (λ (x : LaneValue). x.grants) c.self.view_is in
    λ i. record {
      running = (ap (λ (x : LaneValue). x.running) c.self.view_is) i;
      site = (ap (λ (x : LaneValue). x.site) c.self.view_is) i;
      tickets = (ap (λ (x : LaneValue). x.tickets) c.self.view_is) i;
      grants = (c.remove.ensures.by_index.2 ∙ (without_is k items ∙ ap (λ (xs : List Held). without_index k xs) grants))
          i;
      ended = (ap (λ (x : LaneValue). x.ended) c.self.view_is) i;
    }
