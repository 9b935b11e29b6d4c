-- The opening of a channel: the hellos and proxy mode of OpenSSH's PROTOCOL.mux, and then the session and its subsystem
-- by RFC 4254.
use Rattle.std.specs.Prelude.{◌≡◌, ◌+◌, ◌≤◌, ℕ, false, List, ◌++◌, take, length, None, Ok}
use Rattle.std.specs.Int.{w32}
use Rattle.std.specs.List.{flat_map}
use Rattle.ssh_encoding.specs.Reading.{number_at}
use Rattle.ssh_encoding.specs.Writing.{string}
use Rattle.sftp_link.specs.Told.{GotAll, IfLogged, SentAll}
use Rattle.sftp_link.specs.Views.{LinkView}
use Rattle.ssh_channel.specs.Messages.{message_at, mux_packet, open_message, packet, subsystem_message}
use Rattle.ssh_channel.specs.Numbers.{CHANNEL, MAX_PACKET, MUX_C_PROXY, MUX_MSG_HELLO, MUX_S_PROXY, MUX_VERSION, WINDOW}
use Rattle.ssh_channel.specs.LogBytes.{LogsBytes}
use Rattle.ssh_channel.specs.ChannelStates.{AreAllowed, ChannelData, after_exchanges, fresh_channel, sent_in_exchanges}
use Rattle.ssh_channel.specs.Channels.{SshChannelState}
use Rattle.ssh_channel.specs.declared.message.Message.TheVariants as says
use Rattle.ssh_channel.specs.declared.subsystem_reply.SubsystemReply.TheVariants.{Granted}

-- ---- The whole

-- A body begins with two numbers.
pub record BeginsWith (first second : ℕ) (body : List ℕ) : Type 0 where
  pub later : List ℕ
  pub rest : List ℕ
  pub kind : number_at w32 body ≡ Ok (first, later)
  pub number : number_at w32 later ≡ Ok (second, rest)

-- A body confirms the session, of which this is the state.
pub record ConfirmsSession (body : List ℕ) (channel : ChannelData) : Type 0 where
  pub number : ℕ
  pub window : ℕ
  pub most : ℕ
  pub rest : List ℕ
  pub confirmed : message_at body ≡ Ok (says.OpenConfirmation CHANNEL number window most, rest)
  pub fresh : channel ≡ fresh_channel number window most

-- The packets that are sent up to the request for the subsystem.
abbrev pub greeting_packets : List ℕ
greeting_packets = mux_packet MUX_MSG_HELLO MUX_VERSION ++ mux_packet MUX_C_PROXY 0

abbrev pub session_packet : List ℕ
session_packet = packet (open_message CHANNEL WINDOW MAX_PACKET)

abbrev pub subsystem_packet : ChannelData → List ℕ → List ℕ
subsystem_packet channel name = packet (subsystem_message channel.peer_number name)

-- The channel was opened. In order, the bytes that were sent are the hello, the request for proxy mode, that for a
-- session and that for the subsystem, and then what the exchanges sent. Those that came are the master's hello, its
-- grant of proxy mode, the confirmation of the session, and then bodies that were allowed, of which one grants the
-- subsystem.
pub record OpensChannel {L S : Type 0} (state : L → LinkView S) (name : List ℕ) (link : L) (new : SshChannelState L) :
    Type 0 where
  pub hello : List ℕ
  pub proxy : List ℕ
  pub request : ℕ
  pub confirmation : List ℕ
  pub fresh : ChannelData
  pub bodies : List (List ℕ)
  pub is_hello : BeginsWith MUX_MSG_HELLO MUX_VERSION hello
  pub is_proxy : BeginsWith MUX_S_PROXY request proxy
  pub is_confirmation : ConfirmsSession confirmation fresh
  pub allowed : AreAllowed fresh bodies
  pub channel : new.channel ≡ after_exchanges fresh bodies
  pub granted : new.channel.reply ≡ Granted
  pub log : IfLogged (LogsBytes
      (greeting_packets ++ (session_packet ++ (subsystem_packet fresh name ++ sent_in_exchanges fresh bodies)))
      ((string hello ++ string proxy) ++ (string confirmation ++ flat_map string bodies)))
      (state link).log (state new.link).log
  pub faults : (state new.link).faults ≡ (state link).faults
  pub same : (state new.link).service ≡ (state link).service
  pub usable : (new.refusal ≡ None) × (new.faults ≡ 0) × (new.ended ≡ false)

-- ---- Its parts

-- A packet was sent whole.
pub record SendsPacket {S : Type 0} (bytes : List ℕ) (before now : LinkView S) : Type 0 where
  pub log : IfLogged (SentAll bytes) before.log now.log
  pub faults : now.faults ≡ before.faults
  pub same : now.service ≡ before.service

-- A packet came whole, and its body is the first n bytes of the buffer.
pub record ReceivesBody {S : Type 0} (buffer : List ℕ) (n : ℕ) (before now : LinkView S) : Type 0 where
  pub within : n ≤ length buffer
  pub log : IfLogged (GotAll (string (take n buffer))) before.log now.log
  pub faults : now.faults ≡ before.faults
  pub same : now.service ≡ before.service

-- Both sides said hello with version 4, and the master granted proxy mode.
pub record GreetsMaster {S : Type 0} (before now : LinkView S) : Type 0 where
  pub hello : List ℕ
  pub proxy : List ℕ
  pub request : ℕ
  pub is_hello : BeginsWith MUX_MSG_HELLO MUX_VERSION hello
  pub is_proxy : BeginsWith MUX_S_PROXY request proxy
  pub log : IfLogged (LogsBytes greeting_packets (string hello ++ string proxy)) before.log now.log
  pub faults : now.faults ≡ before.faults
  pub same : now.service ≡ before.service

-- A session was asked for and confirmed.
pub record OpensSession {S : Type 0} (before now : LinkView S) (channel : ChannelData) : Type 0 where
  pub confirmation : List ℕ
  pub is_confirmation : ConfirmsSession confirmation channel
  pub log : IfLogged (LogsBytes session_packet (string confirmation)) before.log now.log
  pub faults : now.faults ≡ before.faults
  pub same : now.service ≡ before.service

-- The subsystem was asked for. Then these bodies came, of which one grants it.
pub record StartsSubsystem {L S : Type 0} (state : L → LinkView S) (name : List ℕ) (old new : SshChannelState L) :
    Type 0 where
  pub bodies : List (List ℕ)
  pub allowed : AreAllowed old.channel bodies
  pub channel : new.channel ≡ after_exchanges old.channel bodies
  pub granted : new.channel.reply ≡ Granted
  pub log : IfLogged (LogsBytes (subsystem_packet old.channel name ++ sent_in_exchanges old.channel bodies)
      (flat_map string bodies)) (state old.link).log (state new.link).log
  pub faults : (state new.link).faults + new.faults ≡ (state old.link).faults + old.faults
  pub same : (state new.link).service ≡ (state old.link).service
  pub left : new ≡ record old { link = new.link; buffer = new.buffer; channel = new.channel }
