use Rattle.example_client.proofs.Sizing.{SizesOn}
use Rattle.example_client.proofs.sizes.answers.Given as goal

abbrev pub invariant-loop : goal.invariant-loop
invariant-loop g l = SizesOn g.L.LinkState.state l.paths l.fn.sftp l.asked l.sftp l.calls l.sizes.items
