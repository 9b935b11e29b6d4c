use Rattle.sftp_client.proofs.Listing.{ListsOn}
use Rattle.sftp_client.proofs.sftp.Sftp.next_entry.Given as goal

abbrev pub invariant-loop : goal.invariant-loop
invariant-loop g l = ListsOn g.L.LinkState.state l.counter l.fn.self l.self l.fn.listing l.listing
