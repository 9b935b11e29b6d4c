-- Bytes that are gathered before they are sent.
use Rattle.std.specs.Prelude.{◌≡◌, ℕ, List, ◌++◌, Option, Result, Ok, Err}
use Rattle.sftp_model.specs.declared.error.Error.{Error}
use Rattle.sftp_link.specs.declared.piece.Piece.{Piece}
use Rattle.sftp_link.specs.Log.{SentOn}
use Rattle.sftp_link.specs.Told.{IfLogged, SentLess}
use Rattle.sftp_link.specs.Views.{LinkView}
use Rattle.link_frames.specs.Causes.{IsCausedByLink, IsUnsent}

-- All of these bytes were sent except the gathered ones, which are the last.
abbrev pub SentBut : List ℕ → List ℕ → List Piece → List Piece → Type 0
SentBut bytes gathered before now = (sent : List ℕ) × (bytes ≡ sent ++ gathered) × SentOn before now sent

-- The log after these bytes came: all were sent except the gathered ones, or a prefix that is not the whole was sent.
abbrev pub SentButOrNot : {T : Type 0} → List ℕ → List ℕ → Option (List Piece) → Option (List Piece) → Result T Error
    → Type 0
SentButOrNot bytes gathered before now (Ok x) = IfLogged (SentBut bytes gathered) before now
SentButOrNot bytes gathered before now (Err e) = IsUnsent e × IfLogged (SentLess bytes) before now

-- These bytes were sent except the gathered ones, which are the last; or a prefix of them was sent, and the result says
-- why not all.
pub record GathersBytes {Service T : Type 0} (bytes gathered : List ℕ) (before now : LinkView Service)
    (result : Result T Error) : Type 0 where
  pub log : SentButOrNot bytes gathered before.log now.log result
  pub caused : IsCausedByLink before now result
