use Rattle.std.proofs.Common.{rules, ◌≡◌}
use Rattle.sftp_file.proofs.WriteLaws.{write_all_starts}
use Rattle.sftp_file.proofs.file.File.write_pieces.Goals as goal

pub returns-in-Ask-clause-starts : goal.returns-in-Ask-clause-starts
returns-in-Ask-clause-starts c =
    let bears : c.handle-handle.result.now ≡ c.args.self.now.grant.handle = search rules in
    write_all_starts c.args.self.now c.at-file.result c.handle-handle.result.now c.as_slice.result.now
    c.args.pieces.items c.facts-facts.result c.in-Ask.asking c.in-Ask.len c.in-Ok.part c.writing-runner.result
    c.args.core.now c.ask.new.core c.ask.result
    c.at-file.ensures bears c.as_slice.ensures.value c.facts-facts.ensures.is c.writing-runner.ensures c.in-Ask.is
    c.in-Ok.ensures.part c.ask.ensures.started c.ask.ensures.begins c.ask.ensures.keeps
