use Rattle.session_driver.specs.Ongoing.{run_state}
use Rattle.sftp_lanes.specs.Seen.{seen_of}
use Rattle.sftp_view.proofs.BlockLaws.{ReadsSoFar}
use Rattle.sftp_view.proofs.blocks.read_block.Given as goal

abbrev pub invariant-loop-read : goal.invariant-loop-read
invariant-loop-read g l =
    ReadsSoFar l.block l._read l.bytes.items (run_state (seen_of l.fn.session) (g.L.LinkState.state l.fn.link))
    (run_state (seen_of l.session) (g.L.LinkState.state l.link))
