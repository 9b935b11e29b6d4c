use Rattle.std.proofs.Common.{subst, Ok, Err}
use Rattle.sftp_model.specs.declared.request.Request.{Request}
use Rattle.sftp_core.specs.Grant.{GrantValue}
use Rattle.sftp_fs.specs.Grants.{grant_meaning}
use Rattle.sftp_fs.specs.PathStarts.{AsksFirst}
use Rattle.sftp_fs_read.proofs.OpenLaws.{read_asked, read_refused}
use Rattle.sftp_fs_read.proofs.fs_read.FsStartRead.start_read.Goals as goal

pub returns-in-Ok : goal.returns-in-Ok
returns-in-Ok c =
    read_asked c.args.path.now c.args.self.now c.in_ok-path.path c.facts-facts.result _ c.args.core.now
    c.ask.new.core c.in-Ok.call c.in_ok-path.ensures.path c.facts-facts.ensures.is c.facts-facts.ensures.fits
    (subst (λ (r : Request). AsksFirst {V = GrantValue} grant_meaning r _ c.args.core.now c.ask.new.core
    (Ok c.in-Ok.call))
    c.open_to_read.ensures c.in-Ok.ensures)

pub returns-in-Err : goal.returns-in-Err
returns-in-Err c =
    read_refused c.args.path.now c.args.self.now c.in_ok-path.path _ c.args.core.now c.ask.new.core c.in-Err.e
    c.in_ok-path.ensures.path
    (subst (λ (r : Request). AsksFirst {V = GrantValue} grant_meaning r _ c.args.core.now c.ask.new.core
    (Err c.in-Err.e))
    c.open_to_read.ensures c.in-Err.ensures)
