use Rattle.std.proofs.Common.{rules, refl, [], ◌∷◌}
use Rattle.plan_state.specs.Asked.{SubmitsAsking}
use Rattle.plan_state.specs.declared.submission.Asking.TheVariants.{Parts}
use Rattle.transfer_copy.specs.Holdings.{AsksForWrite, file_handle}
use Rattle.transfer_copy.proofs.HoldingLaws.{part_asked}
use Rattle.transfer_copy.proofs.holding.Holding.ask_write.Goals as goal

pub returns-in-Ok-clause-ok : goal.returns-in-Ok-clause-ok
returns-in-Ok-clause-ok c =
    let submitted : SubmitsAsking c.args.core.now (Parts (file_handle c.args.self.now.file) c.args.offset
    (c.args.bytes.now ∷ [])) c.in-Ok.ticket c.submit_write.new.core = search rules in
    let asks : AsksForWrite c.args.core.now c.args.self.now c.args.offset c.args.bytes.now c.submit_write.new.core _ =
    record { ticket = c.in-Ok.ticket; submitted = submitted; now = search rules } in
    (asks, part_asked c.args.core.now c.submit_write.new.core c.args.self.now _ _ _ refl c.requires.held asks)
