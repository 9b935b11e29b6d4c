-- Worked rows by computation: messages that OpenSSH 9.2 sent and received, and some that it did not send. A body begins
-- with the padding length; a packet has its length before it.
use Rattle.std.specs.Prelude.{◌≡◌, [], ◌∷◌, false, Ok, Err, refl}
use Rattle.ssh_encoding.specs.Reading.{byte_at, bool_at}
use Rattle.ssh_encoding.specs.Writing.{string, uint32}
use Rattle.ssh_encoding.specs.declared.error.Error.TheVariants as errors
use Rattle.ssh_channel.specs.Messages.{
  channel_message,
  channel_only_at,
  channel_request_at,
  data_at,
  data_message,
  exit_status_at,
  extended_data_at,
  fields_at,
  is_exit_status_at,
  message_at,
  mux_packet,
  open_confirmation_at,
  open_failure_at,
  open_message,
  packet,
  subsystem_message,
  window_adjust_at,
}
use Rattle.ssh_channel.specs.Numbers.{CHANNEL, MAX_PACKET, MUX_C_PROXY, MUX_MSG_HELLO, MUX_VERSION, SSH_MSG_CHANNEL_CLOSE, WINDOW}
use Rattle.ssh_channel.specs.declared.message.Message.TheVariants as says

-- ---- Bodies that came

-- The session is confirmed, with a window of 0.
pub confirmation : message_at (0 ∷ 91 ∷ 0 ∷ 0 ∷ 0 ∷ 0 ∷ 0 ∷ 0 ∷ 0 ∷ 0 ∷ 0 ∷ 0 ∷ 0 ∷ 0 ∷ 0 ∷ 0 ∷ 128 ∷ 0 ∷ []) ≡ Ok
    (says.OpenConfirmation 0 0 0 32768, [])
unfolding message_at fields_at byte_at bool_at data_at extended_data_at window_adjust_at channel_only_at
    is_exit_status_at exit_status_at channel_request_at open_confirmation_at open_failure_at
confirmation = refl

-- The window comes after the request for the subsystem.
pub first_window : message_at (0 ∷ 93 ∷ 0 ∷ 0 ∷ 0 ∷ 0 ∷ 0 ∷ 32 ∷ 0 ∷ 0 ∷ []) ≡ Ok (says.WindowAdjust 0 2097152, [])
unfolding message_at fields_at byte_at bool_at data_at extended_data_at window_adjust_at channel_only_at
    is_exit_status_at exit_status_at channel_request_at open_confirmation_at open_failure_at
first_window = refl

-- The subsystem is granted.
pub subsystem_granted : message_at (0 ∷ 99 ∷ 0 ∷ 0 ∷ 0 ∷ 0 ∷ []) ≡ Ok (says.Success 0, [])
unfolding message_at fields_at byte_at bool_at data_at extended_data_at window_adjust_at channel_only_at
    is_exit_status_at exit_status_at channel_request_at open_confirmation_at open_failure_at
subsystem_granted = refl

-- Another subsystem is refused.
pub subsystem_refused : message_at (0 ∷ 100 ∷ 0 ∷ 0 ∷ 0 ∷ 0 ∷ []) ≡ Ok (says.Failure 0, [])
unfolding message_at fields_at byte_at bool_at data_at extended_data_at window_adjust_at channel_only_at
    is_exit_status_at exit_status_at channel_request_at open_confirmation_at open_failure_at
subsystem_refused = refl

-- A second session, where one is allowed: reason 2, and the text "open failed".
pub session_refused : message_at (0 ∷ 92 ∷ 0 ∷ 0 ∷ 0 ∷ 1 ∷ 0 ∷ 0 ∷ 0 ∷ 2 ∷ 0 ∷ 0 ∷ 0 ∷ 11 ∷ 111 ∷ 112 ∷ 101 ∷ 110 ∷ 32
    ∷ 102 ∷ 97 ∷ 105 ∷ 108 ∷ 101 ∷ 100 ∷ 0 ∷ 0 ∷ 0 ∷ 0 ∷ []) ≡ Ok (
      says.OpenFailure 1 2,
      0 ∷ 0 ∷ 0 ∷ 11 ∷ 111 ∷ 112 ∷ 101
          ∷ 110 ∷ 32 ∷ 102 ∷ 97 ∷ 105 ∷ 108 ∷ 101 ∷ 100 ∷ 0 ∷ 0 ∷ 0 ∷ 0 ∷ [],
    )
unfolding message_at fields_at byte_at bool_at data_at extended_data_at window_adjust_at channel_only_at
    is_exit_status_at exit_status_at channel_request_at open_confirmation_at open_failure_at
session_refused = refl

-- No more bytes come.
pub end_of_stream : message_at (0 ∷ 96 ∷ 0 ∷ 0 ∷ 0 ∷ 0 ∷ []) ≡ Ok (says.Eof 0, [])
unfolding message_at fields_at byte_at bool_at data_at extended_data_at window_adjust_at channel_only_at
    is_exit_status_at exit_status_at channel_request_at open_confirmation_at open_failure_at
end_of_stream = refl

-- The server's program ended with status 3.
pub status : message_at (0 ∷ 98 ∷ 0 ∷ 0 ∷ 0 ∷ 0 ∷ 0 ∷ 0 ∷ 0 ∷ 11 ∷ 101 ∷ 120 ∷ 105 ∷ 116 ∷ 45 ∷ 115 ∷ 116 ∷ 97 ∷ 116 ∷
    117 ∷ 115 ∷ 0 ∷ 0 ∷ 0 ∷ 0 ∷ 3 ∷ []) ≡ Ok (says.ExitStatus 0 3, [])
unfolding message_at fields_at byte_at bool_at data_at extended_data_at window_adjust_at channel_only_at
    is_exit_status_at exit_status_at channel_request_at open_confirmation_at open_failure_at
status = refl

-- Another request, "eow@openssh.com".
pub other_request : message_at (0 ∷ 98 ∷ 0 ∷ 0 ∷ 0 ∷ 0 ∷ 0 ∷ 0 ∷ 0 ∷ 15 ∷ 101 ∷ 111 ∷ 119 ∷ 64 ∷ 111 ∷ 112 ∷ 101 ∷ 110
    ∷ 115 ∷ 115 ∷ 104 ∷ 46 ∷ 99 ∷ 111 ∷ 109 ∷ 0 ∷ []) ≡ Ok (says.Request 0 false, [])
unfolding message_at fields_at byte_at bool_at data_at extended_data_at window_adjust_at channel_only_at
    is_exit_status_at exit_status_at channel_request_at open_confirmation_at open_failure_at
other_request = refl

-- The channel is closed.
pub closed : message_at (0 ∷ 97 ∷ 0 ∷ 0 ∷ 0 ∷ 0 ∷ []) ≡ Ok (says.Close 0, [])
unfolding message_at fields_at byte_at bool_at data_at extended_data_at window_adjust_at channel_only_at
    is_exit_status_at exit_status_at channel_request_at open_confirmation_at open_failure_at
closed = refl

-- Nine bytes of the stream.
pub some_bytes : message_at (0 ∷ 94 ∷ 0 ∷ 0 ∷ 0 ∷ 0 ∷ 0 ∷ 0 ∷ 0 ∷ 9 ∷ 0 ∷ 0 ∷ 0 ∷ 5 ∷ 1 ∷ 0 ∷ 0 ∷ 0 ∷ 3 ∷ []) ≡ Ok
    (says.Data 0, 0 ∷ 0 ∷ 0 ∷ 5 ∷ 1 ∷ 0 ∷ 0 ∷ 0 ∷ 3 ∷ [])
unfolding message_at fields_at byte_at bool_at data_at extended_data_at window_adjust_at channel_only_at
    is_exit_status_at exit_status_at channel_request_at open_confirmation_at open_failure_at
some_bytes = refl

-- Two bytes of standard error.
pub error_text : message_at (0 ∷ 95 ∷ 0 ∷ 0 ∷ 0 ∷ 0 ∷ 0 ∷ 0 ∷ 0 ∷ 1 ∷ 0 ∷ 0 ∷ 0 ∷ 2 ∷ 110 ∷ 111 ∷ []) ≡ Ok
    (says.ExtendedData 0, 110 ∷ 111 ∷ [])
unfolding message_at fields_at byte_at bool_at data_at extended_data_at window_adjust_at channel_only_at
    is_exit_status_at exit_status_at channel_request_at open_confirmation_at open_failure_at
error_text = refl

-- A string that is cut off.
pub cut_off : message_at (0 ∷ 94 ∷ 0 ∷ 0 ∷ 0 ∷ 0 ∷ 0 ∷ 0 ∷ 0 ∷ 9 ∷ 120 ∷ []) ≡ Err errors.Length
unfolding message_at fields_at byte_at bool_at data_at extended_data_at window_adjust_at channel_only_at
    is_exit_status_at exit_status_at channel_request_at open_confirmation_at open_failure_at
cut_off = refl

-- A byte after a window.
pub too_much : message_at (0 ∷ 93 ∷ 0 ∷ 0 ∷ 0 ∷ 0 ∷ 0 ∷ 0 ∷ 0 ∷ 1 ∷ 7 ∷ []) ≡ Err (errors.TrailingData 1)
unfolding message_at fields_at byte_at bool_at data_at extended_data_at window_adjust_at channel_only_at
    is_exit_status_at exit_status_at channel_request_at open_confirmation_at open_failure_at
too_much = refl

-- A padding length that is not 0.
pub padded : message_at (1 ∷ 97 ∷ 0 ∷ 0 ∷ 0 ∷ 0 ∷ []) ≡ Err errors.Length
unfolding message_at fields_at byte_at bool_at data_at extended_data_at window_adjust_at channel_only_at
    is_exit_status_at exit_status_at channel_request_at open_confirmation_at open_failure_at
padded = refl

-- A kind that no channel has.
pub unknown : message_at (0 ∷ 2 ∷ 0 ∷ 0 ∷ 0 ∷ 0 ∷ []) ≡ Err (errors.InvalidDiscriminant 2)
unfolding message_at fields_at byte_at bool_at data_at extended_data_at window_adjust_at channel_only_at
    is_exit_status_at exit_status_at channel_request_at open_confirmation_at open_failure_at
unknown = refl

-- ---- Packets that were sent

-- The hello.
pub says_hello : mux_packet MUX_MSG_HELLO MUX_VERSION ≡ 0 ∷ 0 ∷ 0 ∷ 8 ∷ 0 ∷ 0 ∷ 0 ∷ 1 ∷ 0 ∷ 0 ∷ 0 ∷ 4 ∷ []
unfolding string uint32 mux_packet
says_hello = refl

-- The request for proxy mode.
pub asks_for_proxy : mux_packet MUX_C_PROXY 0 ≡ 0 ∷ 0 ∷ 0 ∷ 8 ∷ 16 ∷ 0 ∷ 0 ∷ 15 ∷ 0 ∷ 0 ∷ 0 ∷ 0 ∷ []
unfolding string uint32 mux_packet
asks_for_proxy = refl

-- The request for a session.
pub asks_for_session : packet (open_message CHANNEL WINDOW MAX_PACKET) ≡ 0 ∷ 0 ∷ 0 ∷ 25 ∷ 0 ∷ 90 ∷ 0 ∷ 0 ∷ 0 ∷ 7 ∷ 115
    ∷ 101 ∷ 115 ∷ 115 ∷ 105 ∷ 111 ∷ 110 ∷ 0 ∷ 0 ∷ 0 ∷ 0 ∷ 0 ∷ 32 ∷ 0 ∷ 0 ∷ 0 ∷ 0 ∷ 128 ∷ 0 ∷ []
unfolding string uint32 open_message
asks_for_session = refl

-- The request for the subsystem "sftp".
pub asks_for_sftp : packet (subsystem_message 0 (115 ∷ 102 ∷ 116 ∷ 112 ∷ [])) ≡ 0 ∷ 0 ∷ 0 ∷ 28 ∷ 0 ∷ 98 ∷ 0 ∷ 0 ∷ 0 ∷
    0 ∷ 0 ∷ 0 ∷ 0 ∷ 9 ∷ 115 ∷ 117 ∷ 98 ∷ 115 ∷ 121 ∷ 115 ∷ 116 ∷ 101 ∷ 109 ∷ 1 ∷ 0 ∷ 0 ∷ 0 ∷ 4 ∷ 115 ∷ 102 ∷ 116 ∷ 112 ∷
    []
unfolding string uint32 subsystem_message
asks_for_sftp = refl

-- Nine bytes of the stream.
pub sends_bytes : packet (data_message 0 (0 ∷ 0 ∷ 0 ∷ 5 ∷ 1 ∷ 0 ∷ 0 ∷ 0 ∷ 3 ∷ [])) ≡ 0 ∷ 0 ∷ 0 ∷ 19 ∷ 0 ∷ 94 ∷ 0 ∷ 0 ∷
    0 ∷ 0 ∷ 0 ∷ 0 ∷ 0 ∷ 9 ∷ 0 ∷ 0 ∷ 0 ∷ 5 ∷ 1 ∷ 0 ∷ 0 ∷ 0 ∷ 3 ∷ []
unfolding string uint32 data_message
sends_bytes = refl

-- The answer to CLOSE.
pub closes : packet (channel_message SSH_MSG_CHANNEL_CLOSE 0) ≡ 0 ∷ 0 ∷ 0 ∷ 6 ∷ 0 ∷ 97 ∷ 0 ∷ 0 ∷ 0 ∷ 0 ∷ []
unfolding string uint32 channel_message
closes = refl
