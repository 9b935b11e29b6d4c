-- The state of a channel over its link, and the effect of its calls.
use Rattle.std.specs.Prelude.{◌≡◌, ◌⊎◌, ◌+◌, ◌≤◌, ◌<◌, true, false, ℕ, Bool, List, [], ◌++◌, take, length, None, Some, Option, Result, Ok, Err, OnOk, OnErr, IsSome}
use Rattle.std.specs.List.{flat_map, sum_by}
use Rattle.ssh_encoding.specs.Writing.{string}
use Rattle.sftp_link.specs.Causes.{CountsDeviceFault}
use Rattle.sftp_link.specs.Told.{SentAll, IfLogged}
use Rattle.sftp_link.specs.Views.{LinkView}
use Rattle.sftp_link.specs.declared.device_error.DeviceError.{DeviceError}
use Rattle.sftp_link.specs.declared.device_error.DeviceError.TheVariants.{OutOfMemory}
use Rattle.ssh_channel.specs.Messages.{answer_of, data_message, packet}
use Rattle.ssh_channel.specs.Numbers.{MAX_PACKET}
use Rattle.ssh_channel.specs.LogBytes.{LogsBytes}
use Rattle.ssh_channel.specs.ChannelStates.{AppliesBody, AreAllowed, ChannelData, ConsumesAhead, adjust_packet, after_adjust, after_exchanges, grant_of, payload_of, sent_in_exchanges}
use Rattle.ssh_channel.specs.declared.message.Message.{Message}
use Rattle.ssh_channel.specs.declared.refusal.Refusal.{Refusal}
use Rattle.ssh_channel.specs.declared.refusal.Refusal.TheVariants.{Lost}

-- The link to the master; the buffer for a body; the state of the channel; the reason why it cannot be used any more,
-- if there is one; the number of calls that it failed by itself; and whether the last call was a recv that found the
-- end.
pub record SshChannelState (L : Type 0) : Type 0 where
  pub link : L
  pub buffer : List ℕ
  pub channel : ChannelData
  pub refusal : Option Refusal
  pub faults : ℕ
  pub ended : Bool

-- It reports no pieces, and its faults are its own and those of the link to the master.
abbrev pub channel_view : {L S : Type 0} → (L → LinkView S) → SshChannelState L → LinkView S
channel_view view c = record {
  log = None;
  faults = (view c.link).faults + c.faults;
  ended = c.ended;
  service = (view c.link).service;
}

-- ---- Exchanges

-- A channel with a refusal receives no body.
abbrev pub ReceivesIfUsable : Option Refusal → List (List ℕ) → Type 0
ReceivesIfUsable None bodies = Unit {0}
ReceivesIfUsable (Some why) bodies = bodies ≡ []

-- These bodies came whole, each was a message that was allowed, and each was answered; the window was adjusted between
-- them. Nothing else moved over the link, and nothing else changed.
pub record ReceivesBodies {L S : Type 0} (state : L → LinkView S) (bodies : List (List ℕ)) (old new : SshChannelState L)
    : Type 0 where
  pub log : IfLogged (LogsBytes (sent_in_exchanges old.channel bodies) (flat_map string bodies)) (state old.link).log
      (state new.link).log
  pub usable : ReceivesIfUsable old.refusal bodies
  pub allowed : AreAllowed old.channel bodies
  pub channel : new.channel ≡ after_exchanges old.channel bodies
  pub left : new ≡ record old { link = new.link; buffer = new.buffer; channel = new.channel }

-- Some bodies, the oldest first.
abbrev pub ReceivesSome : {L S : Type 0} → (L → LinkView S) → SshChannelState L → SshChannelState L → Type 0
ReceivesSome state old new = (bodies : List (List ℕ)) × ReceivesBodies state bodies old new

-- ---- All calls

-- The faults and errors of a call, and the bytes ahead: those of before still are.
pub record KeepsAhead {L S T : Type 0} (state : L → LinkView S) (old new : SshChannelState L)
    (result : Result T DeviceError) : Type 0 where
  pub cause : CountsDeviceFault ((state old.link).faults + old.faults) ((state new.link).faults + new.faults) result
  pub same : (state new.link).service ≡ (state old.link).service
  pub ahead : (more : List ℕ) × (new.channel.ahead ≡ old.channel.ahead ++ more)

-- After an error there is a refusal. Only if memory ran out between two messages there may be none: then the messages
-- before were received whole, and the channel can be used on.
abbrev pub FailsBetween : {L S T : Type 0} → (L → LinkView S) → SshChannelState L → SshChannelState L
    → Result T DeviceError
    → Type 0
FailsBetween state old new (Ok x) = Unit {0}
FailsBetween state old new (Err e) = IsSome new.refusal ⊎ ((e ≡ OutOfMemory) × ReceivesSome state old new)

-- ---- Parts of a call

-- Bytes were sent whole; or the connection is lost.
pub record SendsWhole {L S : Type 0} (state : L → LinkView S) (bytes : List ℕ) (old new : SshChannelState L)
    (result : Result (Unit {0}) DeviceError) : Type 0 where
  pub log : OnOk result (IfLogged (SentAll bytes) (state old.link).log (state new.link).log)
  pub cause : CountsDeviceFault (state old.link).faults (state new.link).faults result
  pub same : (state new.link).service ≡ (state old.link).service
  pub left : OnOk result (new ≡ record old { link = new.link })
  pub lost : OnErr result (new ≡ record old { link = new.link; refusal = Some Lost })

-- The window was adjusted, if that is worth a message.
pub record AdjustsWindow {L S : Type 0} (state : L → LinkView S) (old new : SshChannelState L)
    (result : Result (Unit {0}) DeviceError) : Type 0 where
  pub log : OnOk result (IfLogged (SentAll (adjust_packet old.channel)) (state old.link).log (state new.link).log)
  pub left : OnOk result (new ≡ record old { link = new.link; channel = after_adjust old.channel })
  pub keeps : KeepsAhead state old new result

-- The body in the first n bytes of the buffer was applied and answered.
pub record AnswersBody {L S : Type 0} (state : L → LinkView S) (n : ℕ) (old new : SshChannelState L) : Type 0 where
  pub message : Message
  pub applies : AppliesBody old.channel new.channel (take n old.buffer) message
  pub log : IfLogged (SentAll (answer_of old.channel.peer_number message)) (state old.link).log (state new.link).log
  pub left : new ≡ record old { link = new.link; channel = new.channel }

-- ---- Sends

-- A message of some of these bytes may be sent.
pub record IsWritable (bytes : List ℕ) (channel : ChannelData) : Type 0 where
  pub some : 0 < length bytes
  pub window : 0 < channel.window
  pub unclosed : channel.closed ≡ false

-- Some bodies came while the window was shut, and then one message of the first n bytes was sent. The window is the one
-- of before and the sum of what these bodies granted, without the n bytes; the payload of their DATA was appended to
-- the bytes ahead.
pub record SendsMessage {L S : Type 0} (state : L → LinkView S) (bytes : List ℕ) (old new : SshChannelState L) (n : ℕ)
    : Type 0 where
  pub bodies : List (List ℕ)
  pub allowed : AreAllowed old.channel bodies
  pub within : (0 < n) × (n ≤ length bytes)
  pub most : (n ≤ old.channel.max_packet) × (n ≤ MAX_PACKET)
  pub window : new.channel.window + n ≡ old.channel.window + sum_by grant_of bodies
  pub order : new.channel.ahead ≡ old.channel.ahead ++ flat_map payload_of bodies
  pub channel : new.channel ≡ record (after_exchanges old.channel bodies) { window = new.channel.window }
  pub unclosed : new.channel.closed ≡ false
  pub log : IfLogged (LogsBytes
      (sent_in_exchanges old.channel bodies ++ packet (data_message old.channel.peer_number (take n bytes)))
      (flat_map string bodies)) (state old.link).log (state new.link).log
  pub refusal : new.refusal ≡ old.refusal

-- A failed call: the bytes ahead still are, and there is a refusal, except as `FailsBetween` says.
pub record FailsCall {L S : Type 0} (state : L → LinkView S) (old new : SshChannelState L) (error : DeviceError)
    : Type 0 where
  pub ahead : (more : List ℕ) × (new.channel.ahead ≡ old.channel.ahead ++ more)
  pub refused : IsSome new.refusal ⊎ ((error ≡ OutOfMemory)
      × ReceivesSome state (record old { ended = new.ended }) new)

abbrev pub SendDid : {L S : Type 0} → (L → LinkView S) → List ℕ → SshChannelState L → SshChannelState L
    → Result ℕ DeviceError
    → Type 0
SendDid state bytes old new (Ok n) = SendsMessage state bytes old new n
SendDid state bytes old new (Err e) = FailsCall state old new e

-- ---- Recvs

-- Some bodies came while nothing was ahead, and then the first n bytes ahead were returned: none only after the peer's
-- EOF or CLOSE. The bytes ahead before and then the payload of the DATA of these bodies are, in order, the bytes that
-- were returned and then those ahead now. The window is the one of before and the sum of what these bodies granted.
pub record ReturnsBytes {L S : Type 0} (state : L → LinkView S) (room : List ℕ) (old new : SshChannelState L) (n : ℕ)
    : Type 0 where
  pub bodies : List (List ℕ)
  pub allowed : AreAllowed old.channel bodies
  pub order : old.channel.ahead ++ flat_map payload_of bodies ≡ take n room ++ new.channel.ahead
  pub window : new.channel.window ≡ old.channel.window + sum_by grant_of bodies
  pub end : n ≡ 0 → new.channel.eof ≡ true
  pub usable : ReceivesIfUsable old.refusal bodies
  pub channel : ConsumesAhead (after_exchanges old.channel bodies) new.channel room n
  pub log : IfLogged (LogsBytes (sent_in_exchanges old.channel bodies) (flat_map string bodies)) (state old.link).log
      (state new.link).log
  pub refusal : new.refusal ≡ old.refusal

abbrev pub RecvDid : {L S : Type 0} → (L → LinkView S) → List ℕ → SshChannelState L → SshChannelState L
    → Result ℕ DeviceError
    → Type 0
RecvDid state room old new (Ok n) = ReturnsBytes state room old new n
RecvDid state room old new (Err e) = FailsCall state old new e
