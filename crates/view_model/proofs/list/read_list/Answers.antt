use Rattle.std.proofs.Common.{◌≡◌, Ok, rules, subst, sym}
use Rattle.script_words.specs.Lines.{lines_of, read_by}
use Rattle.view_model.specs.CanView.{CanView}
use Rattle.view_model.specs.Lists.{line_by, nothing_read}
use Rattle.view_model.proofs.ListLaws.{draft_can_view}
use Rattle.view_model.proofs.list.read_list.Goals as goal

pub returns-clause-views : goal.returns-clause-views
returns-clause-views c =
    let read : read_by line_by 1 (nothing_read c.args.block) (lines_of c.args.text.now) ≡ Ok c.in_ok-draft.draft =
    search rules in
    subst (CanView c.args.block) (sym c.into_list.ensures) (draft_can_view c.args.block c.args.text.now
    c.in_ok-draft.draft read)
