-- The state of a channel, and what the messages of the other side do to it.
use Rattle.std.specs.Prelude.{
  ◌≡◌,
  ◌+◌,
  ◌≤◌,
  ◌<◌,
  ℕ,
  Bool,
  true,
  false,
  List,
  [],
  ◌∷◌,
  ◌++◌,
  ◌==◌,
  ◌||◌,
  length,
  min,
  take,
  nat_lt,
  Option,
  Some,
  None,
  Result,
  Ok,
  Err,
  if◌then◌else◌,
}
use Rattle.ssh_encoding.specs.declared.error.Error.{Error}
use Rattle.ssh_channel.specs.Messages.{message_at, packet, window_adjust_message, answer_of}
use Rattle.ssh_channel.specs.Numbers.{ADJUST_AT, CHANNEL, WINDOW}
use Rattle.ssh_channel.specs.declared.condition.Condition.{Condition}
use Rattle.ssh_channel.specs.declared.condition.Condition.TheVariants.{Readable, Writable, Answered, Closed}
use Rattle.ssh_channel.specs.declared.message.Message.{Message}
use Rattle.ssh_channel.specs.declared.message.Message.TheVariants as says
use Rattle.ssh_channel.specs.declared.subsystem_reply.SubsystemReply.{SubsystemReply}
use Rattle.ssh_channel.specs.declared.subsystem_reply.SubsystemReply.TheVariants.{Awaited, Granted, Refused}

-- The channel's number on the other side; the number of bytes that may be sent, and the most in one message; the bytes
-- that came and were not returned yet; the number of bytes that were consumed since the window was last adjusted;
-- whether the stream ended, and whether the channel is closed; the reply to the request for the subsystem; and the
-- status of the server's program, if it was reported.
pub record ChannelData : Type 0 where
  pub peer_number : ℕ
  pub window : ℕ
  pub max_packet : ℕ
  pub ahead : List ℕ
  pub consumed : ℕ
  pub eof : Bool
  pub closed : Bool
  pub reply : SubsystemReply
  pub exit_status : Option ℕ

-- A channel that was opened now.
abbrev pub fresh_channel : ℕ → ℕ → ℕ → ChannelData
fresh_channel number window most = record {
  peer_number = number;
  window = window;
  max_packet = most;
  ahead = [];
  consumed = 0;
  eof = false;
  closed = false;
  reply = Awaited;
  exit_status = None;
}

-- The first bytes were returned: all of them, or as many of them as fit in the room.
abbrev pub GivesPrefix : List ℕ → List ℕ → List ℕ → ℕ → Type 0
GivesPrefix old new room n = (n ≡ min (length room) (length old)) × (old ≡ take n room ++ new)

-- Messages have room for a byte, and the bytes ahead and those consumed are within the window.
pub record IsWithinWindow (most : ℕ) (ahead : List ℕ) (consumed : ℕ) : Type 0 where
  pub some : 0 < most
  pub within : length ahead + consumed ≤ WINDOW

-- The first bytes ahead were returned and count as consumed. Nothing else changed.
pub record ConsumesAhead (old new : ChannelData) (room : List ℕ) (n : ℕ) : Type 0 where
  pub gives : GivesPrefix old.ahead new.ahead room n
  pub left : new ≡ record old { ahead = new.ahead; consumed = old.consumed + n }

-- True if the reply to the request for the subsystem came.
abbrev pub has_reply : SubsystemReply → Bool
has_reply Awaited = false
has_reply Granted = true
has_reply Refused = true

-- True if the condition that a call waits for is met.
abbrev pub meets_condition : Condition → ChannelData → Bool
meets_condition Readable t = nat_lt 0 (length t.ahead) || t.eof
meets_condition Writable t = nat_lt 0 t.window || t.closed
meets_condition Answered t = has_reply t.reply || t.closed
meets_condition Closed t = t.closed

-- The number of bytes by which the server's window is adjusted, or 0 while that is not worth a message.
abbrev pub adjustment : ChannelData → ℕ
adjustment t = if nat_lt t.consumed ADJUST_AT then 0 else t.consumed

-- ---- One message

-- The messages that are allowed: those for this channel, and requests that belong to no channel. Bytes come within the
-- window, and none after the end of the stream. A window stays below 2^32. A reply comes only while it is awaited.
abbrev pub IsAllowed : ChannelData → Message → List ℕ → Type 0
IsAllowed t (says.Data channel) bytes =
    (channel ≡ CHANNEL) × (t.eof ≡ false) × (length bytes + length t.ahead + t.consumed ≤ WINDOW)
IsAllowed t (says.ExtendedData channel) bytes = (channel ≡ CHANNEL)
    × (length bytes + length t.ahead + t.consumed ≤ WINDOW)
IsAllowed t (says.WindowAdjust channel more) bytes = (channel ≡ CHANNEL) × (t.window + more < 4294967296)
IsAllowed t (says.Eof channel) bytes = channel ≡ CHANNEL
IsAllowed t (says.Close channel) bytes = channel ≡ CHANNEL
IsAllowed t (says.Request channel wants) bytes = channel ≡ CHANNEL
IsAllowed t (says.ExitStatus channel status) bytes = channel ≡ CHANNEL
IsAllowed t (says.GlobalRequest wants) bytes = Unit {0}
IsAllowed t (says.Success channel) bytes = (channel ≡ CHANNEL) × (t.reply ≡ Awaited)
IsAllowed t (says.Failure channel) bytes = (channel ≡ CHANNEL) × (t.reply ≡ Awaited)
IsAllowed t other bytes = ⊥

-- The state after a message, of which these bytes follow the fields. Bytes of another stream are discarded, and count
-- as consumed.
abbrev pub after_message : ChannelData → Message → List ℕ → ChannelData
after_message t (says.Data channel) bytes = record t { ahead = t.ahead ++ bytes }
after_message t (says.ExtendedData channel) bytes = record t { consumed = t.consumed + length bytes }
after_message t (says.WindowAdjust channel more) bytes = record t { window = t.window + more }
after_message t (says.Eof channel) bytes = record t { eof = true }
after_message t (says.Close channel) bytes = record t { eof = true; closed = true }
after_message t (says.ExitStatus channel status) bytes = record t { exit_status = Some status }
after_message t (says.Success channel) bytes = record t { reply = Granted }
after_message t (says.Failure channel) bytes = record t { reply = Refused }
after_message t other bytes = t

-- A body was a message that is allowed, the channel was not closed, and the state is the one after the message.
pub record AppliesBody (old new : ChannelData) (body : List ℕ) (message : Message) : Type 0 where
  pub bytes : List ℕ
  pub read : message_at body ≡ Ok (message, bytes)
  pub unclosed : old.closed ≡ false
  pub allowed : IsAllowed old message bytes
  pub done : new ≡ after_message old message bytes

-- ---- What one body carries

-- The bytes of the stream: the payload of DATA.
abbrev pub payload_of_read : Result (Message × List ℕ) Error → List ℕ
payload_of_read (Ok (says.Data channel, bytes)) = bytes
payload_of_read other = []

abbrev pub payload_of : List ℕ → List ℕ
payload_of body = payload_of_read (message_at body)

-- The number of bytes that WINDOW_ADJUST lets this side send.
abbrev pub grant_of_read : Result (Message × List ℕ) Error → ℕ
grant_of_read (Ok (says.WindowAdjust channel more, bytes)) = more
grant_of_read other = 0

abbrev pub grant_of : List ℕ → ℕ
grant_of body = grant_of_read (message_at body)

-- ---- Exchanges: the window is adjusted if that is worth a message, and then a body comes and is answered

abbrev pub after_adjust : ChannelData → ChannelData
after_adjust t = if adjustment t == 0 then t else record t { consumed = 0 }

abbrev pub adjust_packet : ChannelData → List ℕ
adjust_packet t = if adjustment t == 0 then [] else packet (window_adjust_message t.peer_number (adjustment t))

abbrev pub after_read : ChannelData → Result (Message × List ℕ) Error → ChannelData
after_read t (Ok (message, bytes)) = after_message t message bytes
after_read t (Err e) = t

abbrev pub answer_to_read : ℕ → Result (Message × List ℕ) Error → List ℕ
answer_to_read number (Ok (message, bytes)) = answer_of number message
answer_to_read number (Err e) = []

abbrev pub IsAllowedRead : ChannelData → Result (Message × List ℕ) Error → Type 0
IsAllowedRead t (Ok (message, bytes)) = (t.closed ≡ false) × IsAllowed t message bytes
IsAllowedRead t (Err e) = ⊥

abbrev pub after_exchange : ChannelData → List ℕ → ChannelData
after_exchange t body = after_read (after_adjust t) (message_at body)

abbrev pub sent_in_exchange : ChannelData → List ℕ → List ℕ
sent_in_exchange t body = adjust_packet t ++ answer_to_read (after_adjust t).peer_number (message_at body)

-- The state after exchanges with these bodies, the oldest first, and the bytes that were sent in them.
abbrev pub after_exchanges : ChannelData → List (List ℕ) → ChannelData
after_exchanges t [] = t
after_exchanges t (body ∷ bodies) = after_exchanges (after_exchange t body) bodies

abbrev pub sent_in_exchanges : ChannelData → List (List ℕ) → List ℕ
sent_in_exchanges t [] = []
sent_in_exchanges t (body ∷ bodies) = sent_in_exchange t body ++ sent_in_exchanges (after_exchange t body) bodies

-- Each body was a message that was allowed when it came. None came after CLOSE.
abbrev pub AreAllowed : ChannelData → List (List ℕ) → Type 0
AreAllowed t [] = Unit {0}
AreAllowed t (body ∷ bodies) = IsAllowedRead (after_adjust t) (message_at body)
    × AreAllowed (after_exchange t body) bodies
