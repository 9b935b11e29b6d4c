use Rattle.std.proofs.Common.{◌≡◌, ◌∷◌, [], List, rules, subst}
use Rattle.example_client.specs.declared.downloads.Reading.{Reading}
use Rattle.example_client.proofs.Downloading.{HasDownloaded, all_ended, downloaded_more}
use Rattle.example_client.proofs.downloads.end_reads.Goals as goal

pub loop-preserved : goal.loop-preserved
loop-preserved g c =
    let state = g.L.LinkState.state in
    downloaded_more state c.args.sftp.now [] c.args.reads.now.items c.loop.sftp c.poll_read.new.sftp [] []
    (c.in-Some.reading ∷ c.pop_front.new.self.items) c.poll_read.new.reads.items c.loop.done.items
    c.poll_read.new.done.items
    (subst (λ (l : List Reading). HasDownloaded state c.args.sftp.now [] c.args.reads.now.items c.loop.sftp [] l
    c.loop.done.items) c.in-Some.ensures.items c.loop.invariant)
    c.in_ok-poll_read-in-Some.ensures.went
    (record { usable = c.in_ok-poll_read-in-Some.ensures.usable; held = c.in_ok-poll_read-in-Some.ensures.held })

pub returns-in-None-clause-done : goal.returns-in-None-clause-done
returns-in-None-clause-done g c =
    let none : c.loop.reads.items ≡ [] = search rules in
    all_ended g.L.LinkState.state c.args.sftp.now c.args.reads.now.items c.loop.sftp c.loop.reads.items
    c.loop.done.items c.loop.invariant none
