use denote.Param.Send.{sendable}
use Rattle.std.proofs.Crossing.{crosses}
use Rattle.session_threads.proofs.Sends.{error_sends, run_syncs, seat_sends}
use Rattle.example_threads.proofs.Sends.{link_sends}
use Rattle.example_threads.proofs.calls.run_threads.Goals as goal

pub join_mut-sent-requires-send-F : goal.join_mut-sent-requires-send-F
join_mut-sent-requires-send-F g c κs = search (sendable, run_syncs, seat_sends, link_sends, c.type_bounds) depth 20

pub join_mut-sent-requires-send-A : goal.join_mut-sent-requires-send-A
join_mut-sent-requires-send-A g c κs = search (sendable, crosses, error_sends) depth 20
