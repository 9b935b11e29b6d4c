use denote.Param.Send.{sendable}
use Rattle.std.proofs.Crossing.{crosses}
use Rattle.sftp_link.proofs.piece.Piece.TheSendSync as piece
use Rattle.example_threads.proofs.Sends.{server_sends}
use Rattle.example_threads.proofs.main.Goals as goal

pub run_often-requires-send-P-Out : goal.run_often-requires-send-P-Out
run_often-requires-send-P-Out g c κs = search (sendable, crosses, server_sends, piece.the_field_send) depth 20

pub run_often-requires-send-P-In : goal.run_often-requires-send-P-In
run_often-requires-send-P-In g c κs = search (sendable, crosses, server_sends, piece.the_field_send) depth 20
