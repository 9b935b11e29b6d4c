use Rattle.std.proofs.Common.{◌≡◌, ◌∷◌, ◌++◌, [], List, ap, ◌∙◌}
use Rattle.std.specs.Prelude.{slice_set}
use Rattle.plan_model.specs.declared.call.Call.{Call}
use Rattle.plan_model.specs.declared.call.Lane.{Lane}
use Rattle.session_driver.specs.Adding.{with_call}
use Rattle.session_work.proofs.AddedLaws.{on_err, on_ok, set_back, with_call_set}
use Rattle.session_work.proofs.calls.add_call.Goals as goal

pub returns-clause-added : goal.returns-clause-added
returns-clause-added c =
    let lanes : List Lane = c.args.lanes.now in
    let was : Lane = c.replace-was.result in
    on_ok c.push_last-added.result _ (c.set.new.self ≡ with_call lanes c.args.lane c.args.call)
    (λ last. let calls : c.new-3.result ≡ was.calls ++ c.args.call ∷ [] = c.new-3.ensures ∙ last
    ∙ ap (λ (xs : List Call). xs ++ c.args.call ∷ []) c.into_vec-calls.ensures in
    c.set.ensures ∙ (λ i. slice_set (c.replace-was.ensures.after i) c.args.lane (record { calls = calls i }))
    ∙ with_call_set lanes c.args.lane c.args.call was _ c.replace-was.ensures.answer) c.push_last-added.ensures.last

pub returns-clause-unchanged : goal.returns-clause-unchanged
returns-clause-unchanged c =
    let lanes : List Lane = c.args.lanes.now in
    let was : Lane = c.replace-was.result in
    on_err c.push_last-added.result _ (c.set.new.self ≡ lanes)
    (λ left. let calls : c.new-3.result ≡ was.calls = c.new-3.ensures ∙ left ∙ c.into_vec-calls.ensures in
    c.set.ensures ∙ (λ i. slice_set (c.replace-was.ensures.after i) c.args.lane (record { calls = calls i }))
    ∙ set_back lanes c.args.lane _ was c.replace-was.ensures.answer) c.push_last-added.ensures.unchanged
