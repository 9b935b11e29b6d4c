use Rattle.std.proofs.Common.{rules, ◌≡◌, []}
use Rattle.sftp_fs.specs.Parts.{IsPart, first_part}
use Rattle.sftp_fs.proofs.WriteSteps.{begun_asking, begun_empty, begun_refused}
use Rattle.sftp_fs.proofs.fs_write.begin.Goals as goal

pub returns-in-Ok : goal.returns-in-Ok
returns-in-Ok c =
    let first : c.in-Ok-Some.runner ≡ first_part c.args.grant.handle c.args.facts c.args.content = search rules in
    let part : IsPart c.in-Ok-Some.runner c.in-Ok-Some.asking = search rules in
    begun_asking c.args.facts c.args.core.now c.ask.new.core c.args.grant c.args.content c.in-Ok-Some.runner
    c.in-Ok-Some.asking c.in-Ok.call
    first part c.requires.owned c.in-Ok.ensures.started c.in-Ok.ensures.begins c.ask.ensures.keeps

pub returns-in-Err-ask : goal.returns-in-Err-ask
returns-in-Err-ask c =
    let first : c.in-Ok-Some.runner ≡ first_part c.args.grant.handle c.args.facts c.args.content = search rules in
    let part : IsPart c.in-Ok-Some.runner c.in-Ok-Some.asking = search rules in
    begun_refused c.args.facts c.args.core.now c.ask.new.core c.unbegun.new.core c.args.grant c.args.content
    c.in-Ok-Some.runner
    c.in-Ok-Some.asking c.in-Err-ask.e c.unbegun.result first part c.requires.owned c.in-Err-ask.ensures.started
    c.unbegun.ensures

pub returns-in-Ok-None : goal.returns-in-Ok-None
returns-in-Ok-None c =
    let empty : c.args.content ≡ [] = search rules in
    begun_empty c.args.facts c.args.core.now c.close.new.core c.args.grant c.args.content c.requires.owned empty
    c.close.ensures
