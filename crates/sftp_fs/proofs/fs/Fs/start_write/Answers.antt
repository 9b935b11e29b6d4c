use Rattle.std.proofs.Common.{subst, Ok, Err}
use Rattle.sftp_model.specs.declared.request.Request.{Request}
use Rattle.sftp_core.specs.Grant.{GrantValue}
use Rattle.sftp_fs.specs.Grants.{grant_meaning}
use Rattle.sftp_fs.specs.PathStarts.{AsksFirst}
use Rattle.sftp_fs.proofs.WriteStarts.{write_asked, write_refused}
use Rattle.sftp_fs.proofs.fs.Fs.start_write.Goals as goal

pub returns-in-Ok-ask : goal.returns-in-Ok-ask
returns-in-Ok-ask c =
    write_asked c.args.path.now c.args.content.now c.args.self.now c.in_ok-path.path c.in-Ok.content
    c.facts-facts.result _ c.args.core.now
    c.ask.new.core c.in-Ok-ask.call c.in_ok-path.ensures.path c.facts-facts.ensures.is c.in-Ok.ensures
    (subst (λ (r : Request). AsksFirst {V = GrantValue} grant_meaning r _ c.args.core.now c.ask.new.core
    (Ok c.in-Ok-ask.call))
    c.open_to_replace.ensures c.in-Ok-ask.ensures)

pub returns-in-Err : goal.returns-in-Err
returns-in-Err c =
    write_refused c.args.path.now c.args.content.now c.args.self.now c.in_ok-path.path _ c.args.core.now c.ask.new.core
    c.in-Err.e
    c.in_ok-path.ensures.path
    (subst (λ (r : Request). AsksFirst {V = GrantValue} grant_meaning r _ c.args.core.now c.ask.new.core
    (Err c.in-Err.e))
    c.open_to_replace.ensures c.in-Err.ensures)
