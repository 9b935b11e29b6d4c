use Rattle.std.proofs.Common.{rules, ◌≡◌, sym, subst}
use Rattle.sftp_fs.specs.WholeWrites.{CancelsWrite, IsWriteHeld}
use Rattle.sftp_fs.specs.declared.fs_write.Writing.{Writing}
use Rattle.sftp_fs.specs.declared.fs_write.Writing.TheVariants as writing
use Rattle.sftp_fs.proofs.OpenedWrites.{drops_nothing, drops_opened, drops_opening, drops_parts}
use Rattle.sftp_fs.proofs.fs_write.cancel.Goals as goal

pub returns-in-Opening : goal.returns-in-Opening
returns-in-Opening c =
    let is : c.args.stage ≡ writing.Opening c.in-Opening.call c.in-Opening._content = search rules in
    subst (λ (p : Writing). CancelsWrite c.args.core.now c.cancel.new.core p) (sym is)
    (drops_opening c.args.core.now c.cancel.new.core c.in-Opening.call c.in-Opening._content c.cancel.ensures)

pub returns-in-Opened : goal.returns-in-Opened
returns-in-Opened c =
    let is : c.args.stage ≡ writing.Opened c.in-Opened.grant c.in-Opened._content = search rules in
    let held : IsWriteHeld c.args.core.now (writing.Opened c.in-Opened.grant c.in-Opened._content) =
    subst (λ (p : Writing). IsWriteHeld c.args.core.now p) is c.requires in
    subst (λ (p : Writing). CancelsWrite c.args.core.now c.close.new.core p) (sym is)
    (drops_opened c.args.core.now c.close.new.core c.in-Opened.grant c.in-Opened._content held c.close.ensures)

pub returns-in-Parts : goal.returns-in-Parts
returns-in-Parts c =
    let is : c.args.stage ≡ writing.Parts c.in-Parts.grant c.in-Parts.call = search rules in
    let held : IsWriteHeld c.args.core.now (writing.Parts c.in-Parts.grant c.in-Parts.call) =
    subst (λ (p : Writing). IsWriteHeld c.args.core.now p) is c.requires in
    subst (λ (p : Writing). CancelsWrite c.args.core.now c.close-in-Parts.new.core p) (sym is)
    (drops_parts c.args.core.now c.cancel-in-Parts.new.core c.close-in-Parts.new.core c.in-Parts.grant c.in-Parts.call
    held.0 held.1
    c.cancel-in-Parts.ensures c.close-in-Parts.ensures)
