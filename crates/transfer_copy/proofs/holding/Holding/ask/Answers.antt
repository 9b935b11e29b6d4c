use Rattle.std.proofs.Common.{◌≡◌, ◌∙◌, ap}
use Rattle.transfer_copy.specs.declared.holding.FileHold.TheVariants as hold
use Rattle.transfer_copy.specs.Holdings.{AsksFile}
use Rattle.transfer_copy.proofs.HoldingLaws.{file_asked}
use Rattle.transfer_copy.proofs.holding.Holding.ask.Goals as goal

pub returns-in-Ok-clause-ok : goal.returns-in-Ok-clause-ok
returns-in-Ok-clause-ok c =
    let file_is : c.put.new.self ≡ hold.Asked c.in-Ok.ticket c.of.result = c.put.ensures in
    let asks : AsksFile c.args.core.now c.args.self.now c.args.request.now c.submit.new.core _ = record {
      ticket = c.in-Ok.ticket;
      submitted = c.in-Ok.ensures.ok;
      now = λ i. record (c.self.view_is i) { file = (file_is ∙ ap (hold.Asked c.in-Ok.ticket) c.of.ensures) i };
    } in (
      asks,
      file_asked c.args.core.now c.submit.new.core c.args.self.now _ c.args.request.now c.requires.nothing
          c.requires.held asks,
    )
