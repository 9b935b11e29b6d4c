use Rattle.std.proofs.Common.{rules, refl}
use Rattle.plan_state.specs.Asked.{SubmitsAsking}
use Rattle.plan_state.specs.declared.submission.Asking.TheVariants.{Whole}
use Rattle.sftp_model.specs.declared.request.Request.TheVariants as request
use Rattle.transfer_copy.specs.Holdings.{AsksForSync, file_handle}
use Rattle.transfer_copy.proofs.HoldingLaws.{part_asked}
use Rattle.transfer_copy.proofs.holding.Holding.ask_sync.Goals as goal

pub returns-in-Ok-clause-ok : goal.returns-in-Ok-clause-ok
returns-in-Ok-clause-ok c =
    let submitted : SubmitsAsking c.args.core.now (Whole (request.Fsync (file_handle c.args.self.now.file)))
    c.in-Ok.ticket c.submit.new.core = search rules in
    let asks : AsksForSync c.args.core.now c.args.self.now c.submit.new.core _ =
    record { ticket = c.in-Ok.ticket; submitted = submitted; now = search rules } in
    (asks, part_asked c.args.core.now c.submit.new.core c.args.self.now _ _ 0 refl c.requires.held asks)
