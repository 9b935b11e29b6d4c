-- believed, except fault_of_link
-- The errors that a run over a link may return, and their causes.
use Rattle.std.specs.Prelude.{◌≡◌, ◌<◌, ℕ, Bool, true, Option, List, Result, Ok, Err, IfErr}
use Rattle.sftp_model.specs.declared.error.Error.{Error}
use Rattle.sftp_model.specs.declared.error.Error.TheVariants as error
use Rattle.sftp_model.specs.declared.error.Error.TheVariants.{LinkFault, LinkEnded}
use Rattle.sftp_link.specs.declared.device_error.DeviceError.{DeviceError}
use Rattle.sftp_link.specs.declared.device_error.DeviceError.TheVariants as device
use Rattle.sftp_link.specs.declared.piece.Piece.{Piece}
use Rattle.sftp_link.specs.Told.{IfLogged, SentAll, SentLess}
use Rattle.sftp_link.specs.Views.{LinkView}

-- A fault of the link is returned only if its count of faults rose. With any other result the count is unchanged.
abbrev pub CountsLinkFault : {T : Type 0} → ℕ → ℕ → Result T Error → Type 0
CountsLinkFault before now (Err LinkFault) = before < now
CountsLinkFault before now other = now ≡ before

-- The end is returned only if the link's last call found it.
abbrev pub EndCause : {T : Type 0} → Bool → Result T Error → Type 0
EndCause ended (Err LinkEnded) = ended ≡ true
EndCause ended other = Unit {0}

-- The errors that a run over a link may return, even over a link that reports nothing: those of memory and of the link,
-- and those that can be the first thing wrong with a frame.
abbrev pub IsRunError : Error → Type 0
IsRunError error.OutOfMemory = Unit {0}
IsRunError error.LinkFault = Unit {0}
IsRunError error.LinkEnded = Unit {0}
IsRunError (error.UnsupportedSftpProtocol version) = Unit {0}
IsRunError (error.FormatError kind) = Unit {0}
IsRunError (error.HandleTooLong len) = Unit {0}
IsRunError (error.InvalidResponseId id) = Unit {0}
IsRunError (error.InvalidResponse id) = Unit {0}
IsRunError (error.SftpError code message language) = Unit {0}
IsRunError other = ⊥

-- The relation between a link and a result: the link shows why the result is an error, and it serves from the same as
-- before.
pub record IsCausedByLink {Service T : Type 0} (before now : LinkView Service) (result : Result T Error) : Type 0 where
  pub cause : CountsLinkFault before.faults now.faults result
  pub end : EndCause now.ended result
  pub only : IfErr result IsRunError
  pub service : now.service ≡ before.service

-- The error of a run for a failed call of a link.
abbrev pub fault_of_link : DeviceError → Error
fault_of_link device.OutOfMemory = error.OutOfMemory
fault_of_link device.Failed = error.LinkFault

-- The errors if not all bytes could be sent: out of memory, or a fault of the link.
abbrev pub IsUnsent : Error → Type 0
IsUnsent error.OutOfMemory = Unit {0}
IsUnsent error.LinkFault = Unit {0}
IsUnsent other = ⊥

-- The log after all the bytes were to be sent: all of them were sent, or a prefix that is not the whole.
abbrev pub SentOrNot : {T : Type 0} → List ℕ → Option (List Piece) → Option (List Piece) → Result T Error → Type 0
SentOrNot bytes before now (Ok x) = IfLogged (SentAll bytes) before now
SentOrNot bytes before now (Err e) = IsUnsent e × IfLogged (SentLess bytes) before now

-- All the bytes were sent; or a prefix of them was sent, and the result says why not all.
pub record SentBy {Service T : Type 0} (bytes : List ℕ) (before now : LinkView Service) (result : Result T Error) : Type
    0 where
  pub log : SentOrNot bytes before.log now.log result
  pub caused : IsCausedByLink before now result
