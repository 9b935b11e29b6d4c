use Rattle.transfer_copy.proofs.PutLaws.{put_aside, put_not_aside, refused_ended, refused_leaves}
use Rattle.transfer_copy.proofs.put.FilePut.set_aside.Goals as goal

pub returns-in-Done-clause-did : goal.returns-in-Done-clause-did
returns-in-Done-clause-did c =
    put_aside c.args.core.now c.settle_status.new.core c.ask.new.core c.args.self.now c.ask.new.self
    c.settle_status.new.self c.args.part.now c.args.remote.now c.ask.result
    c.in-Done.ensures.answers.0 c.ask.ensures.did

pub returns-in-NotDone-clause-did : goal.returns-in-NotDone-clause-did
returns-in-NotDone-clause-did c =
    put_not_aside c.args.core.now c.settle_status.new.core c.args.self.now c.end_refused.new.self
    c.settle_status.new.self c.args.part.now c.args.remote.now c.in-NotDone._e c.end_refused.result
    c.in-NotDone.ensures.answers.0 c.end_refused.ensures

pub returns-in-NotDone-clause-leaves : goal.returns-in-NotDone-clause-leaves
returns-in-NotDone-clause-leaves c =
    refused_leaves c.args.core.now c.settle_status.new.core c.args.self.now c.end_refused.new.self c.settle_status.new.self
    c.end_refused.result c.requires.0.putting.opened c.in-NotDone.ensures.answers.1 c.in-NotDone.ensures.apart
    c.end_refused.ensures

pub returns-in-NotDone-clause-ended : goal.returns-in-NotDone-clause-ended
returns-in-NotDone-clause-ended c =
    refused_ended (record c.args.self.now { holding = c.settle_status.new.self }) c.end_refused.new.self
    c.end_refused.result c.end_refused.ensures
