use Rattle.std.proofs.Common.{rules, subst, [], ◌∷◌}
use Rattle.plan_state.specs.Asked.{SubmitsAsking}
use Rattle.plan_state.specs.declared.submission.Asking.TheVariants as asking
use Rattle.sftp_streams.specs.Uploads.{UploadValue}
use Rattle.sftp_streams.proofs.PushLaws.{pushed}
use Rattle.sftp_streams.proofs.upload.Upload.ask.Goals as goal

pub returns-clause-ok : goal.returns-clause-ok
returns-clause-ok c =
    let submitted : SubmitsAsking c.args.core.now (asking.Parts c.args.self.now.handle c.args.self.now.next
    (c.args.bytes.now ∷ [])) c.in_ok-ticket.ticket c.submit_write.new.core =
    subst (λ (x : UploadValue). SubmitsAsking c.args.core.now (asking.Parts x.handle x.next (c.args.bytes.now ∷ []))
    c.in_ok-ticket.ticket c.submit_write.new.core) c.self.view_is c.in_ok-ticket.ensures.ok in
    pushed c.args.core.now c.submit_write.new.core c.args.self.now _ c.args.bytes.now c.in_ok-ticket.ticket c.requires
    submitted (search rules)
