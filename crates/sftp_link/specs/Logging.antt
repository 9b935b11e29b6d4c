-- A link with a log of its own, the oldest piece first.
use Rattle.std.specs.Prelude.{List, Bool}
use Rattle.sftp_link.specs.declared.piece.Piece.{Piece}

-- `starved` says that the last call found no memory for the log, and so did not reach the link.
pub record Logging (L : Type 0) : Type 0 where
  pub link : L
  pub pieces : List Piece
  pub starved : Bool
