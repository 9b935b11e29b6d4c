use Rattle.std.proofs.Common.{rules}
use Rattle.transfer_copy.proofs.PutLaws.{put_finds, put_finds_none, refused_ended, refused_leaves}
use Rattle.transfer_copy.proofs.put.FilePut.check.Goals as goal

pub returns-in-NotFound-clause-did : goal.returns-in-NotFound-clause-did
returns-in-NotFound-clause-did c =
    put_finds_none c.args.core.now c.settle_attrs.new.core c.args.self.now c.end_refused.new.self
    c.settle_attrs.new.self c.args.part.now c.args.remote.now c.end_refused.result
    c.in-NotFound.ensures.answers.0 c.end_refused.ensures

pub returns-in-NotFound-clause-leaves : goal.returns-in-NotFound-clause-leaves
returns-in-NotFound-clause-leaves c =
    refused_leaves c.args.core.now c.settle_attrs.new.core c.args.self.now c.end_refused.new.self c.settle_attrs.new.self
    c.end_refused.result c.requires.0.putting.opened c.in-NotFound.ensures.answers.1 c.in-NotFound.ensures.apart
    c.end_refused.ensures

pub returns-in-NotFound-clause-ended : goal.returns-in-NotFound-clause-ended
returns-in-NotFound-clause-ended c =
    refused_ended (record c.args.self.now { holding = c.settle_attrs.new.self }) c.end_refused.new.self
    c.end_refused.result c.end_refused.ensures

pub returns-else-is_directory-clause-did : goal.returns-else-is_directory-clause-did
returns-else-is_directory-clause-did c =
    put_finds c.args.core.now c.settle_attrs.new.core c.ask.new.core c.args.self.now c.ask.new.self
    c.settle_attrs.new.self c.args.part.now c.args.remote.now c.in-Found.attrs c.ask.result
    c.in-Found.ensures.answers.0 (search rules) c.ask.ensures.did
