-- believed: IsNewHalf, Halves, halves_of
-- The views of a half of a server in memory.
use Rattle.std.specs.Prelude.{◌≡◌, ℕ, List, [], Bool, false, Option, Some}
use Rattle.sftp_link.specs.declared.piece.Piece.{Piece}
use Rattle.sftp_link.specs.Dialled.{IsEmptyLog}
use Rattle.sftp_link.specs.Views.{LinkView}

-- The pieces that it moved, the newest first, and whether its last call found the end.
pub record Half : Type 0 where
  pub log : List Piece
  pub ended : Bool

-- No call was made on it.
abbrev pub fresh_half : Half
fresh_half = record { log = []; ended = false }

abbrev pub half_view : Half → LinkView (Unit {0})
half_view h = record { log = Some h.log; faults = 0; ended = h.ended; service = tt }

-- No call was made on it.
pub record IsNewHalf {Service : Type 0} (half : LinkView Service) : Type 0 where
  pub log : IsEmptyLog half.log
  pub faults : half.faults ≡ 0
  pub ended : half.ended ≡ false

-- The views of two halves: the pieces that each moved, the newest first, if it reports them; how often each failed; and
-- whether the last call on the half from which bytes come found the end.
pub record Halves : Type 0 where
  pub sent : Option (List Piece)
  pub got : Option (List Piece)
  pub out_faults : ℕ
  pub in_faults : ℕ
  pub ended : Bool

abbrev pub halves_of : {A B : Type 0} → LinkView A → LinkView B → Halves
halves_of out input = record {
  sent = out.log;
  got = input.log;
  out_faults = out.faults;
  in_faults = input.faults;
  ended = input.ended;
}
