use Rattle.std.proofs.Common.{rules, ◌≡◌, ◌<◌, ap, sym, ◌∙◌, ℕ, true, false, length, List, Some}
use Rattle.std.specs.Prelude.{slice_get}
use Rattle.session_laws.specs.Lanes.{Held, grant_places}
use Rattle.session_laws.specs.Places.{is_in}
use Rattle.session_work.proofs.Polling.{get_there, grants_out}
use Rattle.session_work.proofs.tokens.Tokens.handle_of.Goals as goal

pub unreachable-requires : goal.unreachable-requires
unreachable-requires c =
    let items : List Held = c.args.self.now.grants.items in
    let out : is_in c.args.place (grant_places items) ≡ false =
    grants_out items c.args.place (λ k g got. c.grant_at.ensures.missing k g c.in_default.is
    (ap (λ (xs : List Held). slice_get xs k) c.deref.ensures.value ∙ got)) in
    let clash : false ≡ true = sym out ∙ c.requires in
    cc

pub returns : goal.returns
returns c =
    let items : List Held = c.args.self.now.grants.items in
    let k : ℕ = c.in-Some.k in
    let held : Held = c.index.result.now in
    let lt : k < length items = search rules in
    let got : slice_get items k ≡ Some held = get_there items k held lt
    ∙ ap (λ (x : Held). Some x) (sym c.index.ensures) in
    record {
      k = k;
      held = held;
      here = got;
      stands = c.grant_at.ensures.found k held c.in-Some.is (ap (λ (xs : List Held). slice_get xs k)
          c.deref.ensures.value ∙ got);
      bears = c.copied.ensures ∙ (c.handle.ensures ∙ ap (λ (x : Held). x.grant.handle) c.behind-self.view_is);
    }
