use denote.Param.Send.{sendable}
use Rattle.std.proofs.Crossing.{crosses}
use Rattle.sftp_link.proofs.piece.Piece.TheSendSync as piece
use Rattle.sftp_share.proofs.Sends.{server_sends}
use Rattle.sftp_share.proofs.main.Goals as goal

pub share-requires-send-P-Out : goal.share-requires-send-P-Out
share-requires-send-P-Out g c κs = search (sendable, crosses, server_sends, piece.the_field_send) depth 20

pub share-requires-send-P-In : goal.share-requires-send-P-In
share-requires-send-P-In g c κs = search (sendable, crosses, server_sends, piece.the_field_send) depth 20
