-- The bytes that a link logs, whatever order its sends and recvs have among each other.
use Rattle.std.specs.Prelude.{◌≡◌, ◌≤◌, ℕ, List, [], ◌∷◌, ◌++◌, length, take, Result, Ok, Err}
use Rattle.ssh_encoding.specs.Writing.{string}
use Rattle.sftp_link.specs.Causes.{CountsDeviceFault}
use Rattle.sftp_link.specs.Told.{GotAll, IfLogged}
use Rattle.sftp_link.specs.Views.{LinkView}
use Rattle.sftp_link.specs.declared.device_error.DeviceError.{DeviceError}
use Rattle.sftp_link.specs.declared.piece.Piece.{Piece}
use Rattle.sftp_link.specs.declared.piece.Piece.TheVariants.{Sent, Got}
use Rattle.ssh_channel.specs.declared.packets.Packet.{Packet}
use Rattle.ssh_channel.specs.declared.packets.Packet.TheVariants.{Whole, TooLong, End}

-- All bytes that were sent, and all that were received, in order. A log has its newest piece first.
abbrev pub sent_bytes : List Piece → List ℕ
sent_bytes [] = []
sent_bytes (Sent piece ∷ before) = sent_bytes before ++ piece
sent_bytes (Got piece ∷ before) = sent_bytes before

abbrev pub received_bytes : List Piece → List ℕ
received_bytes [] = []
received_bytes (Sent piece ∷ before) = received_bytes before
received_bytes (Got piece ∷ before) = received_bytes before ++ piece

-- The pieces since then: joined, those that were sent are the first bytes, and those that were received the second.
abbrev pub LogsBytes : List ℕ → List ℕ → List Piece → List Piece → Type 0
LogsBytes sent received before now =
    (group : List Piece) × (now ≡ group ++ before) × (sent_bytes group ≡ sent) × (received_bytes group ≡ received)

-- A packet came whole, its body is at the start of the buffer, and nothing else moved.
abbrev pub ReceivesWhole : {S : Type 0} → List ℕ → LinkView S → LinkView S → Packet → Type 0
ReceivesWhole buffer before now (Whole n) =
    (n ≤ length buffer) × IfLogged (GotAll (string (take n buffer))) before.log now.log
ReceivesWhole buffer before now (TooLong n) = Unit {0}
ReceivesWhole buffer before now End = Unit {0}

abbrev pub IfReceived : {S : Type 0} → List ℕ → LinkView S → LinkView S → Result Packet DeviceError → Type 0
IfReceived buffer before now (Ok packet) = ReceivesWhole buffer before now packet
IfReceived buffer before now (Err e) = Unit {0}

-- The next packet came, or the end, or a length for which there is no room; or it failed.
pub record ReceivesPacket {S : Type 0} (buffer : List ℕ) (before now : LinkView S) (result : Result Packet DeviceError)
    : Type 0 where
  pub log : IfReceived buffer before now result
  pub cause : CountsDeviceFault before.faults now.faults result
  pub same : now.service ≡ before.service
