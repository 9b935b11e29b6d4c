-- The numbers of RFC 4254 and of OpenSSH's PROTOCOL.mux under their names, and the bounds of this crate.
use Rattle.std.specs.Prelude.{ℕ}

-- ---- Types of messages (RFC 4254, section 9)

abbrev pub SSH_MSG_GLOBAL_REQUEST : ℕ
SSH_MSG_GLOBAL_REQUEST = 80

abbrev pub SSH_MSG_REQUEST_FAILURE : ℕ
SSH_MSG_REQUEST_FAILURE = 82

abbrev pub SSH_MSG_CHANNEL_OPEN : ℕ
SSH_MSG_CHANNEL_OPEN = 90

abbrev pub SSH_MSG_CHANNEL_OPEN_CONFIRMATION : ℕ
SSH_MSG_CHANNEL_OPEN_CONFIRMATION = 91

abbrev pub SSH_MSG_CHANNEL_OPEN_FAILURE : ℕ
SSH_MSG_CHANNEL_OPEN_FAILURE = 92

abbrev pub SSH_MSG_CHANNEL_WINDOW_ADJUST : ℕ
SSH_MSG_CHANNEL_WINDOW_ADJUST = 93

abbrev pub SSH_MSG_CHANNEL_DATA : ℕ
SSH_MSG_CHANNEL_DATA = 94

abbrev pub SSH_MSG_CHANNEL_EXTENDED_DATA : ℕ
SSH_MSG_CHANNEL_EXTENDED_DATA = 95

abbrev pub SSH_MSG_CHANNEL_EOF : ℕ
SSH_MSG_CHANNEL_EOF = 96

abbrev pub SSH_MSG_CHANNEL_CLOSE : ℕ
SSH_MSG_CHANNEL_CLOSE = 97

abbrev pub SSH_MSG_CHANNEL_REQUEST : ℕ
SSH_MSG_CHANNEL_REQUEST = 98

abbrev pub SSH_MSG_CHANNEL_SUCCESS : ℕ
SSH_MSG_CHANNEL_SUCCESS = 99

abbrev pub SSH_MSG_CHANNEL_FAILURE : ℕ
SSH_MSG_CHANNEL_FAILURE = 100

-- ---- Messages of OpenSSH's PROTOCOL.mux

abbrev pub MUX_MSG_HELLO : ℕ
MUX_MSG_HELLO = 1

abbrev pub MUX_C_PROXY : ℕ
MUX_C_PROXY = 268435471

abbrev pub MUX_S_PROXY : ℕ
MUX_S_PROXY = 2147483663

abbrev pub MUX_VERSION : ℕ
MUX_VERSION = 4

-- ---- Bounds of this crate

-- The number of the channel on this side.
abbrev pub CHANNEL : ℕ
CHANNEL = 0

-- The window that the server gets.
abbrev pub WINDOW : ℕ
WINDOW = 2097152

-- The number of consumed bytes from which on the window is adjusted.
abbrev pub ADJUST_AT : ℕ
ADJUST_AT = 1048576

-- The most payload bytes that the server may send in one message.
abbrev pub MAX_PACKET : ℕ
MAX_PACKET = 32768
