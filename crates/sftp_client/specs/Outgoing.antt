-- Bytes that were handed out and are not sent yet.
use Rattle.std.specs.Prelude.{◌≡◌, ◌<◌, ℕ, List, [], ◌∷◌, ◌++◌, length, drop, Option, None, Some, Result, OnOk, OnErr, IfErr}
use Rattle.sftp_model.specs.Pieces.{joined_pieces}
use Rattle.sftp_model.specs.declared.error.Error.{Error}
use Rattle.sftp_core.specs.Frames.{AreFilled}
use Rattle.sftp_core.specs.Pieces.{ChunkValue}
use Rattle.sftp_link.specs.Told.{IfLogged, SentAll}
use Rattle.sftp_link.specs.Views.{LinkView}
use Rattle.link_frames.specs.Causes.{IsCausedByLink, IsUnsent}

-- The pieces of a chunk, if there is one.
abbrev pub chunk_pieces : Option ChunkValue → Option (List (List ℕ))
chunk_pieces None = None
chunk_pieces (Some chunk) = Some chunk.pieces

-- The bytes of a chunk from a piece on, and of that piece from an offset on.
abbrev pub unsent_from : Option (List (List ℕ)) → ℕ → ℕ → List ℕ
unsent_from None piece offset = []
unsent_from (Some pieces) piece offset = drop offset (joined_pieces (drop piece pieces))

-- The offset lies in the first piece, or there is no piece.
abbrev pub IsWithin : List (List ℕ) → ℕ → Type 0
IsWithin [] offset = offset ≡ 0
IsWithin (piece ∷ pieces) offset = offset < length piece

-- A position in a chunk that has no empty piece.
abbrev pub IsAt : Option (List (List ℕ)) → ℕ → ℕ → Type 0
IsAt None piece offset = Unit {0}
IsAt (Some pieces) piece offset = AreFilled pieces × IsWithin (drop piece pieces) offset

-- These are the first of the bytes.
abbrev pub IsPrefixOf : List ℕ → List ℕ → Type 0
IsPrefixOf first bytes = (rest : List ℕ) × (bytes ≡ first ++ rest)

-- The first of the unsent bytes were sent, in their order, and the rest is still unsent; after success there is no
-- rest.
pub record SendsOn {Service T : Type 0} (old new : List ℕ) (before now : LinkView Service) (result : Result T Error) :
    Type 0 where
  pub sent : List ℕ
  pub cut : old ≡ sent ++ new
  pub whole : OnOk result (new ≡ [])
  pub rest : OnErr result (0 < length new)
  pub log : IfLogged (SentAll sent) before.log now.log
  pub only : IfErr result IsUnsent
  pub caused : IsCausedByLink before now result
