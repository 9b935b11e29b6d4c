use Rattle.std.proofs.Common.{◌≡◌, ◌++◌, rules, subst}
use Rattle.example_client.specs.Files.{IsRead}
use Rattle.example_client.proofs.Steps.{reads_end, reads_next}
use Rattle.example_client.proofs.files.read_to_end.Goals as goal

pub returns-in-None-clause-read : goal.returns-in-None-clause-read
returns-in-None-clause-read g c =
    reads_end c.max_read_len-len.result g.L.LinkState.state c.loop.counter c.args.sftp.now c.loop.sftp c.read.new.self
    c.args.file.now
    c.loop.file c.read.new.file c.loop.bytes.items c.loop.invariant
    (subst (λ a. IsRead c.max_read_len-len.result g.L.LinkState.state c.loop.sftp c.read.new.self c.loop.file
    c.read.new.file a) c.in-None.is
    c.in_ok-part.ensures)

pub loop-preserved : goal.loop-preserved
loop-preserved g c =
    let here = subst (λ a. IsRead c.max_read_len-len.result g.L.LinkState.state c.loop.sftp c.read.new.self c.loop.file
    c.read.new.file a)
    c.in-Some.is c.in_ok-part.ensures in
    let joins : c.append.new.bytes.items ≡ c.loop.bytes.items ++ c.in-Some.part = search rules in
    reads_next c.max_read_len-len.result g.L.LinkState.state c.loop.counter c.args.sftp.now c.loop.sftp c.read.new.self
    c.args.file.now
    c.loop.file c.read.new.file c.loop.bytes.items c.in-Some.part c.append.new.bytes.items c.loop.invariant here joins
    (search rules) (search rules)
