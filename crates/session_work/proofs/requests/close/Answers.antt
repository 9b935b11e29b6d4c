use Rattle.std.proofs.Common.{rules, ◌≡◌, ◌<◌, ◌++◌, ◌∷◌, [], ap, sym, ◌∙◌, subst, ℕ, true, false, length, List, Option, Some, None}
use Rattle.std.specs.Prelude.{slice_get}
use Rattle.sftp_model.specs.declared.request.Request.TheVariants as request
use Rattle.sftp_core.specs.Core.{record_at}
use Rattle.sftp_core.specs.Grant.{GrantValue}
use Rattle.sftp_core.specs.declared.id_record.IdRecord.TheVariants.{Granted}
use Rattle.session_laws.specs.Lanes.{Held, Ticketed, grant_places}
use Rattle.session_laws.specs.Places.{is_in}
use Rattle.session_work.proofs.AskLaws.{grant_is, last_gives}
use Rattle.session_work.proofs.Polling.{get_there, grants_out, without_is}
use Rattle.session_work.proofs.requests.close.Goals as goal

pub unreachable-requires : goal.unreachable-requires
unreachable-requires c =
    let items : List Held = c.args.tokens.now.grants.items in
    let out : is_in c.args.grant (grant_places items) ≡ false =
    grants_out items c.args.grant (λ k g got. c.grant_at.ensures.missing k g c.in_default.is
    (ap (λ (xs : List Held). slice_get xs k) c.deref.ensures.value ∙ got)) in
    let clash : false ≡ true = sym out ∙ c.requires.named in
    cc

pub release-requires : goal.release-requires
release-requires c =
    let items : List Held = c.args.tokens.now.grants.items in
    let held : Held = c.remove.result in
    let lt : c.in-Some.k < length items = search rules in
    let got : slice_get items c.in-Some.k ≡ Some held = get_there items c.in-Some.k held lt
    ∙ ap (λ (x : Held). Some x) (sym c.remove.ensures.value) in
    let here : record_at c.args.core.now c.grant.inside.grant.id ≡ Some (Granted c.grant.inside.grant.handle 1) =
    subst (λ (x : Held). record_at c.args.core.now x.grant.id ≡ Some (Granted x.grant.handle 1)) (sym c.grant.view_is)
    (c.requires.held c.in-Some.k held got) in
    grant_is c.args.core.now c.grant.inside.grant here

pub unreachable-requires-in_default-release : goal.unreachable-requires-in_default-release
unreachable-requires-in_default-release c =
    let items : List Held = c.args.tokens.now.grants.items in
    let held : Held = c.remove.result in
    let lt : c.in-Some.k < length items = search rules in
    let got : slice_get items c.in-Some.k ≡ Some held = get_there items c.in-Some.k held lt
    ∙ ap (λ (x : Held). Some x) (sym c.remove.ensures.value) in
    let here : record_at c.args.core.now c.grant.inside.grant.id ≡ Some (Granted c.grant.inside.grant.handle 1) =
    subst (λ (x : Held). record_at c.args.core.now x.grant.id ≡ Some (Granted x.grant.handle 1)) (sym c.grant.view_is)
    (c.requires.held c.in-Some.k held got) in
    let clash : ◌≡◌ {A = Option ℕ} None (Some c.grant.inside.grant.id) = sym c.in_default-release.is
    ∙ (c.release.ensures.answer ∙ last_gives c.args.core.now c.grant.inside.grant here) in
    cc

pub returns : goal.returns
returns c =
    let items : List Held = c.args.tokens.now.grants.items in
    let tickets : List Ticketed = c.args.tokens.now.tickets.items in
    let k : ℕ = c.in-Some.k in
    let held : Held = c.remove.result in
    let grant : GrantValue = c.grant.inside.grant in
    let lt : k < length items = search rules in
    let got : slice_get items k ≡ Some held = get_there items k held lt
    ∙ ap (λ (x : Held). Some x) (sym c.remove.ensures.value) in
    let stands : held.place ≡ c.args.grant = c.grant_at.ensures.found k held c.in-Some.is
    (ap (λ (xs : List Held). slice_get xs k) c.deref.ensures.value ∙ got) in
    let view : held.grant ≡ grant = ap (λ (x : Held). x.grant) (sym c.grant.view_is) in
    let here : record_at c.args.core.now grant.id ≡ Some (Granted grant.handle 1) =
    subst (λ (x : GrantValue). record_at c.args.core.now x.id ≡ Some (Granted x.handle 1)) view
    (c.requires.held k held got) in
    let gives : ◌≡◌ {A = Option ℕ} (Some c.in-Some-release.ticket) (Some grant.id) = sym c.in-Some-release.is
    ∙ (c.release.ensures.answer ∙ last_gives c.args.core.now grant here) in
    let ticket : c.in-Some-release.ticket ≡ grant.id = cc in
    let pushed : c.push.new.self.items ≡ tickets ++ (record { place = c.args.place; ticket = c.in-Some-release.ticket })
    ∷ [] = search rules in
    record {
      k = k;
      grant = grant;
      here = got ∙ (λ i. Some (record { place = stands i; grant = view i }));
      same = c.id-id.ensures ∙ ticket;
      is = ap (λ (h : List ℕ). request.Close h) (c.copied-handle.ensures ∙ c.handle.ensures);
      core = c.release.ensures.after;
      pushed = pushed ∙ ap (λ (n : ℕ). tickets ++ (record { place = c.args.place; ticket = n }) ∷ [])
          (sym c.id-id.ensures);
      kept = c.remove.ensures.by_index.2 ∙ without_is k items;
    }
