use Rattle.sftp_map_server.proofs.Bounds.{version_within}
use Rattle.sftp_map_server.proofs.state.ServerState.greet.Goals as goal

pub frame_of-requires : goal.frame_of-requires
frame_of-requires c = rw c.version.ensures (version_within c.config.result 0)
