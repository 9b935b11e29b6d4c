use Rattle.std.proofs.Common.{◌≡◌, ◌∷◌, ◌++◌, [], List, ap, ◌∙◌}
use Rattle.std.specs.Prelude.{slice_set}
use Rattle.sftp_model.specs.declared.outcome.Outcome.{Outcome}
use Rattle.session_work.specs.Reports.{with_outcome}
use Rattle.session_work.proofs.AddedLaws.{on_err, on_ok, set_back}
use Rattle.session_work.proofs.ReportLaws.{put_back}
use Rattle.session_work.proofs.journal.keep_outcome.Goals as goal

pub returns-clause-kept : goal.returns-clause-kept
returns-clause-kept c =
    let lists : List (List Outcome) = c.args.lists.now in
    let was : List Outcome = c.replace.result in
    let emptied : c.replace.new.self ≡ slice_set lists c.args.lane [] = c.replace.ensures.after
    ∙ ap (slice_set lists c.args.lane) (c.new-2.ensures ∙ c.new.ensures.items) in
    on_ok c.push_last-kept.result _ (c.set.new.self ≡ with_outcome lists c.args.lane c.args.outcome)
    (λ last. let list : c.new-3.result ≡ was ++ c.args.outcome ∷ [] = c.new-3.ensures ∙ last
    ∙ ap (λ (xs : List Outcome). xs ++ c.args.outcome ∷ []) c.into_vec-list.ensures in
    c.set.ensures ∙ (λ i. slice_set (emptied i) c.args.lane (list i))
    ∙ put_back lists c.args.lane was c.args.outcome c.replace.ensures.answer) c.push_last-kept.ensures.last

pub returns-clause-unchanged : goal.returns-clause-unchanged
returns-clause-unchanged c =
    let lists : List (List Outcome) = c.args.lists.now in
    let was : List Outcome = c.replace.result in
    on_err c.push_last-kept.result _ (c.set.new.self ≡ lists)
    (λ left. let list : c.new-3.result ≡ was = c.new-3.ensures ∙ left ∙ c.into_vec-list.ensures in
    c.set.ensures ∙ (λ i. slice_set (c.replace.ensures.after i) c.args.lane (list i))
    ∙ set_back lists c.args.lane _ was c.replace.ensures.answer) c.push_last-kept.ensures.unchanged
