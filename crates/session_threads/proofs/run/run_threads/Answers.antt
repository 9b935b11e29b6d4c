use denote.Param.Send.{sendable}
use Rattle.std.proofs.Crossing.{crosses}
use Rattle.session_threads.proofs.Sends.{error_sends, run_syncs, seat_sends}
use Rattle.session_threads.proofs.run.run_threads.Goals as goal

pub join_mut-requires-send-F : goal.join_mut-requires-send-F
join_mut-requires-send-F g c κs = search (sendable, run_syncs, seat_sends, c.type_bounds) depth 20

pub join_mut-requires-send-A : goal.join_mut-requires-send-A
join_mut-requires-send-A g c κs = search (sendable, crosses, error_sends) depth 20
