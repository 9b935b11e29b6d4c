use Rattle.transfer_copy.proofs.HoldingLaws.{apart_both}
use Rattle.transfer_copy.proofs.PutLaws.{put_again, put_restores}
use Rattle.transfer_copy.proofs.put.FilePut.name_again.Goals as goal

pub returns-in-Done-clause-did : goal.returns-in-Done-clause-did
returns-in-Done-clause-did c =
    put_again c.args.core.now c.settle_status.new.core c.ask_removal.new.core c.args.self.now c.ask_removal.new.self
    c.settle_status.new.self c.args.part.now c.args.remote.now c.ask_removal.result
    c.in-Done.ensures.answers.0 c.ask_removal.ensures.did

pub returns-in-NotDone-clause-did : goal.returns-in-NotDone-clause-did
returns-in-NotDone-clause-did c =
    put_restores c.args.core.now c.settle_status.new.core c.ask.new.core c.args.self.now c.ask.new.self
    c.settle_status.new.self c.args.part.now c.args.remote.now c.in-NotDone.e c.ask.result
    c.in-NotDone.ensures.answers.0 c.ask.ensures.did

pub returns-in-NotDone-clause-leaves : goal.returns-in-NotDone-clause-leaves
returns-in-NotDone-clause-leaves c = record {
  putting = c.ask.ensures.leaves.putting;
  apart = apart_both c.args.self.now.holding c.settle_status.new.self c.ask.new.self.holding c.args.core.now
      c.settle_status.new.core c.ask.new.core c.in-NotDone.ensures.apart c.ask.ensures.leaves.apart;
}
