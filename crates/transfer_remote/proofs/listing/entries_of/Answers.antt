use Rattle.std.proofs.Common.{Ok, rules, subst}
use Rattle.sftp_client.specs.Listed.{HasListed}
use Rattle.sftp_client.proofs.DirCalling.{entries_end, entries_next}
use Rattle.transfer_remote.proofs.listing.entries_of.Goals as goal

pub returns-in-None-clause-listed : goal.returns-in-None-clause-listed
returns-in-None-clause-listed g c =
    entries_end g.L.LinkState.state c.loop.counter c.args.sftp.now c.loop.sftp c.next_entry.new.self c.args.dir.now
    c.loop.dir c.next_entry.new.listing c.loop.entries.items c.loop.invariant
    (subst (λ a. HasListed g.L.LinkState.state c.loop.sftp c.next_entry.new.self c.loop.dir c.next_entry.new.listing
    (Ok a)) c.in-None.is c.in-Ok.ensures)

pub loop-preserved : goal.loop-preserved
loop-preserved g c =
    let here = subst (λ a. HasListed g.L.LinkState.state c.loop.sftp c.next_entry.new.self c.loop.dir
    c.next_entry.new.listing (Ok a)) c.in-Some.is c.in-Ok.ensures in
    entries_next g.L.LinkState.state c.loop.counter c.args.sftp.now c.loop.sftp c.next_entry.new.self c.args.dir.now
    c.loop.dir c.next_entry.new.listing c.loop.entries.items c.in-Some.entry c.push_entry.new.entries.items
    c.loop.invariant here c.in-Ok-push_entry.ensures (search rules)
