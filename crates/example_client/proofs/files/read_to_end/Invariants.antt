use Rattle.example_client.proofs.Steps.{ReadsOn}
use Rattle.example_client.proofs.files.read_to_end.Given as goal

abbrev pub invariant-loop : goal.invariant-loop
invariant-loop g l = ReadsOn l.len g.L.LinkState.state l.counter l.fn.sftp l.sftp l.fn.file l.file l.bytes.items
