use Rattle.std.proofs.Common.{◌≡◌, ◌∙◌, length, rules, sym}
use Rattle.std.specs.Vec.Iter.{into_iter_len}
use Rattle.std.proofs.lemmas.Iterator.Adapters.{YieldsList-from_vec}
use Rattle.std.proofs.lemmas.Iterator.Consumers.{YieldsList-end}
use Rattle.std.proofs.lemmas.List.{map-id}
use Rattle.example_client.proofs.Downloading.{all_started, started_first, started_more}
use Rattle.example_client.proofs.downloads.start_reads.Goals as goal

pub loop-file-init : goal.loop-file-init
loop-file-init g c =
    started_first g.L.LinkState.state c.args.sftp.now c.args.reads.now.items c.requires.usable c.requires.none

pub loop-file-preserved : goal.loop-file-preserved
loop-file-preserved g c =
    started_more g.L.LinkState.state c.args.sftp.now c.loop-file.yielded c.loop-file.sftp c.start_read.new.sftp
    c.in-Some.file c.loop-file.reads.items c.start_read.new.reads.items c.loop-file.invariant
    c.in_ok-start_read.ensures.went c.in_ok-start_read.ensures.under_way

pub returns-clause-went : goal.returns-clause-went
returns-clause-went g c =
    let len : into_iter_len c.into_iter-file-iterator.result ≡ length c.args.files.items = search rules in
    let yields = YieldsList-from_vec c.args.files.items c.into_iter-file-iterator.ensures.into_iter_gives.0 len in
    let ends = YieldsList-end yields c.loop-file.yielded c.loop-file.file-iterator c.loop-file.yielded_by c.next.result
    c.next.new.self c.in-None.is c.next.ensures.steps in
    let all : c.loop-file.yielded ≡ c.args.files.items = sym (map-id c.loop-file.yielded) ∙ ends.0 in
    all_started g.L.LinkState.state c.args.sftp.now c.loop-file.yielded c.args.files.items c.loop-file.sftp
    c.loop-file.reads.items c.loop-file.invariant all
