use Rattle.sftp_client.proofs.DirCalling.{EntriesOn}
use Rattle.transfer_remote.proofs.listing.entries_of.Given as goal

abbrev pub invariant-loop : goal.invariant-loop
invariant-loop g l = EntriesOn g.L.LinkState.state l.counter l.fn.sftp l.sftp l.fn.dir l.dir l.entries.items
