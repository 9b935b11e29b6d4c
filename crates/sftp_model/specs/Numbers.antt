-- believed, except SSH_FX_BAD_MESSAGE, SSH_FX_NO_CONNECTION, SSH_FX_CONNECTION_LOST
-- The numbers of draft-ietf-secsh-filexfer-02 under its names, and the bounds of this client.
use Rattle.std.specs.Prelude.{ℕ}

-- ---- Types of packets (section 3)

-- The hello of a client, with its version (section 4).
abbrev pub SSH_FXP_INIT : ℕ
SSH_FXP_INIT = 1

-- The hello of a server, with its version and its extensions (section 4).
abbrev pub SSH_FXP_VERSION : ℕ
SSH_FXP_VERSION = 2

-- Opens or creates a file (section 6.3).
abbrev pub SSH_FXP_OPEN : ℕ
SSH_FXP_OPEN = 3

-- Closes the handle of a file or a directory (section 6.3).
abbrev pub SSH_FXP_CLOSE : ℕ
SSH_FXP_CLOSE = 4

-- Reads bytes of a file (section 6.4).
abbrev pub SSH_FXP_READ : ℕ
SSH_FXP_READ = 5

-- Writes bytes of a file (section 6.4).
abbrev pub SSH_FXP_WRITE : ℕ
SSH_FXP_WRITE = 6

-- Asks for the attributes of a path; for a link, those of the link itself (section 6.8).
abbrev pub SSH_FXP_LSTAT : ℕ
SSH_FXP_LSTAT = 7

-- Asks for the attributes of an open file (section 6.8).
abbrev pub SSH_FXP_FSTAT : ℕ
SSH_FXP_FSTAT = 8

-- Sets attributes of a path (section 6.9).
abbrev pub SSH_FXP_SETSTAT : ℕ
SSH_FXP_SETSTAT = 9

-- Sets attributes of an open file (section 6.9).
abbrev pub SSH_FXP_FSETSTAT : ℕ
SSH_FXP_FSETSTAT = 10

-- Opens a directory (section 6.7).
abbrev pub SSH_FXP_OPENDIR : ℕ
SSH_FXP_OPENDIR = 11

-- Asks for further entries of an open directory (section 6.7).
abbrev pub SSH_FXP_READDIR : ℕ
SSH_FXP_READDIR = 12

-- Removes a file (section 6.5).
abbrev pub SSH_FXP_REMOVE : ℕ
SSH_FXP_REMOVE = 13

-- Creates a directory (section 6.6).
abbrev pub SSH_FXP_MKDIR : ℕ
SSH_FXP_MKDIR = 14

-- Removes a directory (section 6.6).
abbrev pub SSH_FXP_RMDIR : ℕ
SSH_FXP_RMDIR = 15

-- Asks for the absolute form of a path (section 6.11).
abbrev pub SSH_FXP_REALPATH : ℕ
SSH_FXP_REALPATH = 16

-- Asks for the attributes of a path; for a link, those of its target (section 6.8).
abbrev pub SSH_FXP_STAT : ℕ
SSH_FXP_STAT = 17

-- Renames a file or a directory (section 6.5).
abbrev pub SSH_FXP_RENAME : ℕ
SSH_FXP_RENAME = 18

-- Asks for the target of a symbolic link (section 6.10).
abbrev pub SSH_FXP_READLINK : ℕ
SSH_FXP_READLINK = 19

-- Creates a symbolic link (section 6.10).
abbrev pub SSH_FXP_SYMLINK : ℕ
SSH_FXP_SYMLINK = 20

-- The status of a request (section 7).
abbrev pub SSH_FXP_STATUS : ℕ
SSH_FXP_STATUS = 101

-- The handle of an opened file or directory (section 7).
abbrev pub SSH_FXP_HANDLE : ℕ
SSH_FXP_HANDLE = 102

-- Bytes that were read (section 7).
abbrev pub SSH_FXP_DATA : ℕ
SSH_FXP_DATA = 103

-- Names with their attributes (section 7).
abbrev pub SSH_FXP_NAME : ℕ
SSH_FXP_NAME = 104

-- Attributes (section 7).
abbrev pub SSH_FXP_ATTRS : ℕ
SSH_FXP_ATTRS = 105

-- A request of an extension, by its name (section 8).
abbrev pub SSH_FXP_EXTENDED : ℕ
SSH_FXP_EXTENDED = 200

-- The reply of an extension (section 8).
abbrev pub SSH_FXP_EXTENDED_REPLY : ℕ
SSH_FXP_EXTENDED_REPLY = 201

-- ---- Codes of a STATUS (section 7)

-- The request succeeded.
abbrev pub SSH_FX_OK : ℕ
SSH_FX_OK = 0

-- No bytes or names are left to read.
abbrev pub SSH_FX_EOF : ℕ
SSH_FX_EOF = 1

-- The file does not exist.
abbrev pub SSH_FX_NO_SUCH_FILE : ℕ
SSH_FX_NO_SUCH_FILE = 2

-- The user does not have the permission.
abbrev pub SSH_FX_PERMISSION_DENIED : ℕ
SSH_FX_PERMISSION_DENIED = 3

-- A failure without a code of its own.
abbrev pub SSH_FX_FAILURE : ℕ
SSH_FX_FAILURE = 4

-- A request that cannot be read.
abbrev pub SSH_FX_BAD_MESSAGE : ℕ
SSH_FX_BAD_MESSAGE = 5

-- No connection to the server exists; only a client reports it.
abbrev pub SSH_FX_NO_CONNECTION : ℕ
SSH_FX_NO_CONNECTION = 6

-- The connection to the server was lost; only a client reports it.
abbrev pub SSH_FX_CONNECTION_LOST : ℕ
SSH_FX_CONNECTION_LOST = 7

-- The server does not support the request.
abbrev pub SSH_FX_OP_UNSUPPORTED : ℕ
SSH_FX_OP_UNSUPPORTED = 8

-- ---- Flags of an OPEN (section 6.3)

-- The file is opened to read.
abbrev pub SSH_FXF_READ : ℕ
SSH_FXF_READ = 1

-- The file is opened to write.
abbrev pub SSH_FXF_WRITE : ℕ
SSH_FXF_WRITE = 2

-- Each write goes to the end of the file.
abbrev pub SSH_FXF_APPEND : ℕ
SSH_FXF_APPEND = 4

-- A file is created if it does not exist.
abbrev pub SSH_FXF_CREAT : ℕ
SSH_FXF_CREAT = 8

-- A file that exists is truncated.
abbrev pub SSH_FXF_TRUNC : ℕ
SSH_FXF_TRUNC = 16

-- The request fails if the file exists.
abbrev pub SSH_FXF_EXCL : ℕ
SSH_FXF_EXCL = 32

-- ---- Flags of attributes: the fields that are present (section 5)

-- The size is present.
abbrev pub SSH_FILEXFER_ATTR_SIZE : ℕ
SSH_FILEXFER_ATTR_SIZE = 1

-- The ids of user and group are present.
abbrev pub SSH_FILEXFER_ATTR_UIDGID : ℕ
SSH_FILEXFER_ATTR_UIDGID = 2

-- The permissions are present.
abbrev pub SSH_FILEXFER_ATTR_PERMISSIONS : ℕ
SSH_FILEXFER_ATTR_PERMISSIONS = 4

-- The times of the last access and the last change are present.
abbrev pub SSH_FILEXFER_ATTR_ACMODTIME : ℕ
SSH_FILEXFER_ATTR_ACMODTIME = 8

-- A count and pairs of strings are present.
abbrev pub SSH_FILEXFER_ATTR_EXTENDED : ℕ
SSH_FILEXFER_ATTR_EXTENDED = 2147483648

-- ---- Bits of the extensions that a server may offer (OpenSSH's PROTOCOL, section 4; `copy-data` belongs to
-- draft-ietf-secsh-filexfer-extensions-00, section 7)

-- Renames a file, and replaces any file that has the new name.
abbrev pub POSIX_RENAME : ℕ
POSIX_RENAME = 1

-- Gives a file another name.
abbrev pub HARDLINK : ℕ
HARDLINK = 2

-- Requests that an open file is written out.
abbrev pub FSYNC : ℕ
FSYNC = 4

-- Asks for the absolute form of a path that may begin with `~`.
abbrev pub EXPAND_PATH : ℕ
EXPAND_PATH = 8

-- Copies bytes of one open file into another.
abbrev pub COPY_DATA : ℕ
COPY_DATA = 16

-- Asks for the limits of the server.
abbrev pub LIMITS : ℕ
LIMITS = 32

-- ---- Bounds of this client

-- The greatest length of a frame's body and of a string in it, in bytes.
abbrev pub MAX_BODY_LEN : ℕ
MAX_BODY_LEN = 1048575

-- The greatest length of a handle, in bytes (section 7).
abbrev pub MAX_HANDLE_LEN : ℕ
MAX_HANDLE_LEN = 256

-- The most bytes that one READ asks for or one WRITE carries. 300 bytes of a body are left for its other fields.
abbrev pub MAX_TRANSFER_LEN : ℕ
MAX_TRANSFER_LEN = 1048275
