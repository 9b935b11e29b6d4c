use Rattle.sftp_client.proofs.DirCalling.{EntriesOn}
use Rattle.sftp_client.proofs.sftp.Sftp.entries_of.Given as goal

abbrev pub invariant-loop : goal.invariant-loop
invariant-loop g l = EntriesOn g.L.LinkState.state l.counter l.fn.self l.self l.fn.listing l.listing l.entries.items
