use Rattle.std.proofs.Common.{[]}
use Rattle.example_client.proofs.Downloading.{HasDownloaded}
use Rattle.example_client.proofs.downloads.end_reads.Given as goal

abbrev pub invariant-loop : goal.invariant-loop
invariant-loop g l = HasDownloaded g.L.LinkState.state l.fn.sftp [] l.fn.reads.items l.sftp [] l.reads.items
    l.done.items
