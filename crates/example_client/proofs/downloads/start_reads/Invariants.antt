use Rattle.example_client.proofs.Downloading.{HasStarted}
use Rattle.example_client.proofs.downloads.start_reads.Given as goal

abbrev pub invariant-loop-file : goal.invariant-loop-file
invariant-loop-file g l = HasStarted g.L.LinkState.state l.fn.sftp l.yielded l.sftp l.reads.items
