use Rattle.std.proofs.Common.{rules, ◌≡◌, sym, subst}
use Rattle.sftp_fs.specs.WholeWrites.{WroteOn}
use Rattle.sftp_fs.specs.declared.fs_write.Writing.{Writing}
use Rattle.sftp_fs.specs.declared.fs_write.Writing.TheVariants as writing
use Rattle.sftp_fs.proofs.OpenedWrites.{opened_on}
use Rattle.sftp_fs.proofs.fs_write.poll_stage.Goals as goal

pub returns-in-Opened : goal.returns-in-Opened
returns-in-Opened c =
    let is : c.args.stage ≡ writing.Opened c.in-Opened.grant c.in-Opened.content = search rules in
    subst (λ (p : Writing). WroteOn c.args.facts c.args.core.now c.begin.new.core p c.begin.result.1 c.begin.result.0)
    (sym is)
    (opened_on c.args.facts c.args.core.now c.begin.new.core c.in-Opened.grant c.in-Opened.content c.begin.result.1
    c.begin.result.0
    c.begin.ensures)

pub returns-in-Parts : goal.returns-in-Parts
returns-in-Parts c =
    let is : c.args.stage ≡ writing.Parts c.in-Parts.grant c.in-Parts.call = search rules in
    subst (λ (p : Writing). WroteOn c.args.facts c.args.core.now c.go_on.new.core p c.go_on.result.1 c.go_on.result.0)
    (sym is)
    (c.go_on.ensures c.args.facts)
