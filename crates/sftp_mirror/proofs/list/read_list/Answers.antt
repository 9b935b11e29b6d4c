use Rattle.std.proofs.Common.{◌≡◌, ◌≤◌, Ok, length, rules, subst, sym}
use Rattle.script_words.specs.Lines.{lines_of, read_by}
use Rattle.script_grammar.specs.Scripts.{MAX_SCRIPT_LEN}
use Rattle.sftp_mirror.specs.CanCopy.{CanCopy}
use Rattle.sftp_mirror.specs.Lists.{line_by, nothing_read}
use Rattle.sftp_mirror.proofs.ListLaws.{draft_can_copy}
use Rattle.sftp_mirror.proofs.list.read_list.Goals as goal

pub returns-clause-copies : goal.returns-clause-copies
returns-clause-copies c =
    let short : length c.args.text.now ≤ MAX_SCRIPT_LEN = search rules in
    let read : read_by line_by 1 nothing_read (lines_of c.args.text.now) ≡ Ok c.in_ok-draft.draft = search rules in
    subst CanCopy (sym c.into_list.ensures) (draft_can_copy c.args.text.now c.in_ok-draft.draft short read)
