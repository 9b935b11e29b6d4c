-- The messages of RFC 4254 that concern one channel, by the data types of RFC 4251, as OpenSSH's master carries them in
-- proxy mode. A packet is a length of four bytes and a body; a body is one byte of padding length, which is 0, and a
-- message.
use Rattle.std.specs.Prelude.{ℕ, ◌==◌, ◌&&◌, Bool, not, true, false, List, [], ◌∷◌, ◌++◌, length, drop, Result, Ok, Err, nat_lt, if◌then◌else◌}
use Rattle.std.specs.Int.{w32}
use Rattle.std.specs.Str.{bytes_eq}
use Rattle.ssh_encoding.specs.declared.error.Error.{Error}
use Rattle.ssh_encoding.specs.declared.error.Error.TheVariants as errors
use Rattle.ssh_encoding.specs.Reading.{◌>>=◌, byte_at, bytes_at, bool_at, number_at}
use Rattle.ssh_encoding.specs.Writing.{uint32, string}
use Rattle.ssh_channel.specs.Numbers.{
  SSH_MSG_CHANNEL_CLOSE,
  SSH_MSG_CHANNEL_DATA,
  SSH_MSG_CHANNEL_EOF,
  SSH_MSG_CHANNEL_EXTENDED_DATA,
  SSH_MSG_CHANNEL_FAILURE,
  SSH_MSG_CHANNEL_OPEN,
  SSH_MSG_CHANNEL_OPEN_CONFIRMATION,
  SSH_MSG_CHANNEL_OPEN_FAILURE,
  SSH_MSG_CHANNEL_REQUEST,
  SSH_MSG_CHANNEL_SUCCESS,
  SSH_MSG_CHANNEL_WINDOW_ADJUST,
  SSH_MSG_GLOBAL_REQUEST,
  SSH_MSG_REQUEST_FAILURE,
}
use Rattle.ssh_channel.specs.declared.message.Message.{Message}
use Rattle.ssh_channel.specs.declared.message.Message.TheVariants as says

-- ---- Readings: a message and the bytes after its fields, or the first refusal

-- n bytes that are passed over, and a value.
abbrev pub after_skip : {A : Type 0} → A → ℕ → List ℕ → Result (A × List ℕ) Error
after_skip value n bytes = if nat_lt (length bytes) n then Err errors.Length else Ok (value, drop n bytes)

-- No bytes follow.
abbrev pub finished_at : Message → List ℕ → Result (Message × List ℕ) Error
finished_at message [] = Ok (message, [])
finished_at message (b ∷ bytes) = Err (errors.TrailingData (length (b ∷ bytes)))

-- Exactly n bytes follow.
abbrev pub followed_at : Message → ℕ → List ℕ → Result (Message × List ℕ) Error
followed_at message n bytes = if length bytes == n then Ok (message, bytes) else Err errors.Length

-- uint32 channel, string bytes (section 5.2).
unfoldable pub data_at : List ℕ → Result (Message × List ℕ) Error
data_at bytes = do
  channel ← number_at w32 bytes
  len ← number_at w32 channel.1
  followed_at (says.Data channel.0) len.0 len.1

-- uint32 channel, uint32 stream, string bytes (section 5.2).
unfoldable pub extended_data_at : List ℕ → Result (Message × List ℕ) Error
extended_data_at bytes = do
  channel ← number_at w32 bytes
  stream ← number_at w32 channel.1
  len ← number_at w32 stream.1
  followed_at (says.ExtendedData channel.0) len.0 len.1

-- uint32 channel, uint32 bytes (section 5.2).
unfoldable pub window_adjust_at : List ℕ → Result (Message × List ℕ) Error
window_adjust_at bytes = do
  channel ← number_at w32 bytes
  more ← number_at w32 channel.1
  finished_at (says.WindowAdjust channel.0 more.0) more.1

-- The message of a kind that has a channel alone.
abbrev pub channel_only : ℕ → ℕ → Message
channel_only kind channel =
    if kind == SSH_MSG_CHANNEL_EOF then says.Eof channel
    else if kind == SSH_MSG_CHANNEL_CLOSE then says.Close channel
    else if kind == SSH_MSG_CHANNEL_SUCCESS then says.Success channel
    else says.Failure channel

-- uint32 channel (sections 5.3 and 5.4).
unfoldable pub channel_only_at : ℕ → List ℕ → Result (Message × List ℕ) Error
channel_only_at kind bytes = do
  channel ← number_at w32 bytes
  finished_at (channel_only kind channel.0) channel.1

-- "exit-status".
abbrev pub exit_status_name : List ℕ
exit_status_name = 101 ∷ 120 ∷ 105 ∷ 116 ∷ 45 ∷ 115 ∷ 116 ∷ 97 ∷ 116 ∷ 117 ∷ 115 ∷ []

-- Eleven bytes: whether they are "exit-status".
abbrev pub exit_status_name_at : List ℕ → Result (Bool × List ℕ) Error
exit_status_name_at bytes = bytes_at 11 bytes >>= λ name. Ok (bytes_eq name.0 exit_status_name, name.1)

-- string name: whether it is "exit-status". A name of another length is not.
unfoldable pub is_exit_status_at : List ℕ → Result (Bool × List ℕ) Error
is_exit_status_at bytes = do
  len ← number_at w32 bytes
  (if len.0 == 11 then exit_status_name_at len.1 else after_skip false len.0 len.1)

-- uint32 status, of a channel (section 6.10).
unfoldable pub exit_status_at : ℕ → List ℕ → Result (Message × List ℕ) Error
exit_status_at channel bytes = do
  status ← number_at w32 bytes
  finished_at (says.ExitStatus channel status.0) status.1

-- uint32 channel, string name, boolean wants a reply, and more by the name (section 5.4). An "exit-status" wants no
-- reply.
unfoldable pub channel_request_at : List ℕ → Result (Message × List ℕ) Error
channel_request_at bytes = do
  channel ← number_at w32 bytes
  status ← is_exit_status_at channel.1
  wants ← bool_at status.1
  (if status.0 && not wants.0 then exit_status_at channel.0 wants.1 else Ok (says.Request channel.0 wants.0, wants.1))

-- string name, boolean wants a reply, and more by the name (section 4).
unfoldable pub global_request_at : List ℕ → Result (Message × List ℕ) Error
global_request_at bytes = do
  len ← number_at w32 bytes
  name ← after_skip {A = Unit {0}} tt len.0 len.1
  wants ← bool_at name.1
  Ok (says.GlobalRequest wants.0, wants.1)

-- uint32 channel, uint32 its number with the sender, uint32 window, uint32 most bytes of a message (section 5.1).
unfoldable pub open_confirmation_at : List ℕ → Result (Message × List ℕ) Error
open_confirmation_at bytes = do
  channel ← number_at w32 bytes
  number ← number_at w32 channel.1
  window ← number_at w32 number.1
  most ← number_at w32 window.1
  Ok (says.OpenConfirmation channel.0 number.0 window.0 most.0, most.1)

-- uint32 channel, uint32 reason, and a text (section 5.1).
unfoldable pub open_failure_at : List ℕ → Result (Message × List ℕ) Error
open_failure_at bytes = do
  channel ← number_at w32 bytes
  reason ← number_at w32 channel.1
  Ok (says.OpenFailure channel.0 reason.0, reason.1)

-- The fields of a kind of message.
unfoldable pub fields_at : ℕ → List ℕ → Result (Message × List ℕ) Error
fields_at kind bytes =
    if kind == SSH_MSG_CHANNEL_DATA then data_at bytes
    else if kind == SSH_MSG_CHANNEL_EXTENDED_DATA then extended_data_at bytes
    else if kind == SSH_MSG_CHANNEL_WINDOW_ADJUST then window_adjust_at bytes
    else if kind == SSH_MSG_CHANNEL_EOF then channel_only_at kind bytes
    else if kind == SSH_MSG_CHANNEL_CLOSE then channel_only_at kind bytes
    else if kind == SSH_MSG_CHANNEL_SUCCESS then channel_only_at kind bytes
    else if kind == SSH_MSG_CHANNEL_FAILURE then channel_only_at kind bytes
    else if kind == SSH_MSG_CHANNEL_REQUEST then channel_request_at bytes
    else if kind == SSH_MSG_GLOBAL_REQUEST then global_request_at bytes
    else if kind == SSH_MSG_CHANNEL_OPEN_CONFIRMATION then open_confirmation_at bytes
    else if kind == SSH_MSG_CHANNEL_OPEN_FAILURE then open_failure_at bytes
    else Err (errors.InvalidDiscriminant kind)

-- A body: byte padding length, which is 0, byte kind, and the fields of that kind.
unfoldable pub message_at : List ℕ → Result (Message × List ℕ) Error
message_at body = do
  padding ← byte_at body
  kind ← (if padding.0 == 0 then byte_at padding.1 else Err errors.Length)
  fields_at kind.0 kind.1

-- ---- Messages that are sent

-- The packet of a message: a string, which begins with a padding length of 0.
abbrev pub packet : List ℕ → List ℕ
packet message = string (0 ∷ message)

-- A packet of PROTOCOL.mux with two numbers: a kind, and a version or the number of a request.
unfoldable pub mux_packet : ℕ → ℕ → List ℕ
mux_packet kind number = string (uint32 kind ++ uint32 number)

-- uint32 channel, string bytes (section 5.2).
unfoldable pub data_message : ℕ → List ℕ → List ℕ
data_message channel bytes = SSH_MSG_CHANNEL_DATA ∷ uint32 channel ++ string bytes

-- uint32 channel, uint32 bytes (section 5.2).
unfoldable pub window_adjust_message : ℕ → ℕ → List ℕ
window_adjust_message channel more = SSH_MSG_CHANNEL_WINDOW_ADJUST ∷ uint32 channel ++ uint32 more

-- byte kind, uint32 channel (sections 5.3 and 5.4).
unfoldable pub channel_message : ℕ → ℕ → List ℕ
channel_message kind channel = kind ∷ uint32 channel

-- string "session", uint32 channel, uint32 window, uint32 most bytes of a message (sections 5.1 and 6.1).
unfoldable pub open_message : ℕ → ℕ → ℕ → List ℕ
open_message channel window most =
    SSH_MSG_CHANNEL_OPEN ∷ string (115 ∷ 101 ∷ 115 ∷ 115 ∷ 105 ∷ 111 ∷ 110 ∷ []) ++ uint32 channel ++ uint32 window
    ++ uint32 most

-- uint32 channel, string "subsystem", boolean true, string name (section 6.5).
unfoldable pub subsystem_message : ℕ → List ℕ → List ℕ
subsystem_message channel name =
    SSH_MSG_CHANNEL_REQUEST ∷ uint32 channel ++ string (115 ∷ 117 ∷ 98 ∷ 115 ∷ 121 ∷ 115 ∷ 116 ∷ 101 ∷ 109 ∷ [])
    ++ 1 ∷ string name

-- The packet that answers a message: a request that wants a reply is refused, CLOSE is answered by CLOSE, and other
-- messages have no answer.
abbrev pub answer_of : ℕ → Message → List ℕ
answer_of channel (says.Request number true) = packet (channel_message SSH_MSG_CHANNEL_FAILURE channel)
answer_of channel (says.Close number) = packet (channel_message SSH_MSG_CHANNEL_CLOSE channel)
answer_of channel (says.GlobalRequest true) = packet (SSH_MSG_REQUEST_FAILURE ∷ [])
answer_of channel other = []
