-- believed
-- The text that is printed for a session: its frames in their order, the outcomes of its calls, and the files and
-- directories of its server.
use Rattle.std.specs.Prelude.{ℕ, ◌+◌, ◌==◌, false, List, [], ◌∷◌, ◌++◌, codes, drop, filter, map, if◌then◌else◌}
use Rattle.std.specs.Int.Digits.{digits_of}
use Rattle.std.specs.List.{flat_map}
use Rattle.ssh_encoding.specs.Canonical.{hex_text}
use Rattle.sftp_model.specs.declared.error.Error.{Error}
use Rattle.sftp_model.specs.declared.error.Error.TheVariants as error
use Rattle.sftp_model.specs.declared.error.IoKind.{IoKind}
use Rattle.sftp_model.specs.declared.error.IoKind.TheVariants as kind
use Rattle.sftp_model.specs.declared.outcome.Outcome.{Outcome}
use Rattle.sftp_model.specs.declared.outcome.Outcome.TheVariants as outcome
use Rattle.sftp_model.specs.declared.request.Request.{Request}
use Rattle.sftp_model.specs.declared.request.Request.TheVariants as request
use Rattle.sftp_model.specs.declared.reply.Reply.{Reply}
use Rattle.sftp_model.specs.declared.reply.Reply.TheVariants as reply
use Rattle.sftp_model.specs.declared.reply.NameEntry.{NameEntry}
use Rattle.sftp_model.specs.Frames.{request_body, reply_body, attributes}
use Rattle.sftp_model.specs.Numbers.{COPY_DATA, EXPAND_PATH, FSYNC, HARDLINK, POSIX_RENAME}
use Rattle.machine_model.specs.Components.{text_of_name}
use Rattle.machine_model.specs.FileTree.{FileTree}
use Rattle.machine_model.specs.Listing.{has_directory, has_file, in_name_order, node_bytes}
use Rattle.session_model.specs.declared.event.Event.TheVariants.{Send, Take}
use Rattle.session_model.specs.declared.entry.Entry.{Entry}
use Rattle.session_model.specs.declared.entry.Entry.TheVariants as entry
use Rattle.session_model.specs.Readings.{unsent_requests}

-- The words of a line and its line feed.
abbrev pub line : List ℕ → List ℕ
line bytes = bytes ++ 10 ∷ []

-- Bytes as pairs of digits, or `-` for none.
abbrev pub hex_word : List ℕ → List ℕ
hex_word [] = codes "-"
hex_word (b ∷ bytes) = hex_text false (b ∷ bytes)

-- A number in decimal digits, the highest first.
abbrev pub number_text : ℕ → List ℕ
number_text n = if n == 0 then codes "0" else map (λ d. 48 + d) (digits_of 10 n)

-- ---- Frames

-- The word of a request.
abbrev pub request_word : Request → List ℕ
request_word (request.Init version) = codes "init"
request_word (request.OpenFile path flags attrs) = codes "open"
request_word (request.Close handle) = codes "close"
request_word (request.Read handle offset len) = codes "read"
request_word (request.Write handle offset content) = codes "write"
request_word (request.Lstat path) = codes "lstat"
request_word (request.Fstat handle) = codes "fstat"
request_word (request.Setstat path attrs) = codes "setstat"
request_word (request.Fsetstat handle attrs) = codes "fsetstat"
request_word (request.Opendir path) = codes "opendir"
request_word (request.Readdir handle) = codes "readdir"
request_word (request.Remove path) = codes "remove"
request_word (request.Mkdir path attrs) = codes "mkdir"
request_word (request.Rmdir path) = codes "rmdir"
request_word (request.Realpath path) = codes "realpath"
request_word (request.Stat path) = codes "stat"
request_word (request.Rename old to) = codes "rename"
request_word (request.Readlink path) = codes "readlink"
request_word (request.Symlink src dst) = codes "symlink"
request_word extension = codes "extended"

-- The word of a reply.
abbrev pub reply_word : Reply → List ℕ
reply_word (reply.Version version extensions) = codes "version"
reply_word (reply.Status code message language) = codes "status"
reply_word (reply.Handle handle) = codes "handle"
reply_word (reply.Content content) = codes "data"
reply_word (reply.Names names) = codes "name"
reply_word (reply.Attrs attrs) = codes "attrs"
reply_word (reply.Extended content) = codes "extended_reply"

-- The fields of a body, which come after the type byte and the id.
abbrev pub fields_of : List ℕ → List ℕ
fields_of body = drop 5 body

-- The line of a request that is sent.
abbrev pub request_line : ℕ × Request → List ℕ
request_line r = line (codes "> " ++ request_word r.1 ++ codes " " ++ hex_word (fields_of (request_body r.1 r.0)))

-- The line of a reply that is taken.
abbrev pub reply_line : Reply → List ℕ
reply_line r = line (codes "< " ++ reply_word r ++ codes " " ++ hex_word (fields_of (reply_body r 0)))

-- A line for each frame that a Send sends, and for each that a Take takes, in the order of the journal.
abbrev pub frame_lines : List Entry → List ℕ
frame_lines [] = []
frame_lines (entry.Event Send ∷ past) = frame_lines past ++ flat_map request_line (unsent_requests past)
frame_lines (entry.Event (Take id r) ∷ past) = frame_lines past ++ reply_line r
frame_lines (_ ∷ past) = frame_lines past

-- ---- Outcomes

-- The name of the error that the client found.
abbrev pub kind_name : IoKind → List ℕ
kind_name kind.NotReadable = codes "NotReadable"
kind_name kind.NotWritable = codes "NotWritable"
kind_name kind.SeekFromEnd = codes "SeekFromEnd"
kind_name kind.SeekOverflow = codes "SeekOverflow"
kind_name kind.SeekUnderflow = codes "SeekUnderflow"
kind_name kind.OffsetOverflow = codes "OffsetOverflow"
kind_name kind.PathTooLong = codes "PathTooLong"
kind_name kind.UnexpectedEof = codes "UnexpectedEof"

-- The word of a set that has one extension.
abbrev pub extension_word : ℕ → List ℕ
extension_word set =
    if set == POSIX_RENAME then codes "posix-rename"
    else if set == HARDLINK then codes "hardlink"
    else if set == FSYNC then codes "fsync"
    else if set == EXPAND_PATH then codes "expand-path"
    else if set == COPY_DATA then codes "copy-data"
    else codes "limits"

-- The text of a refusal: a call is refused by the server, for a missing extension, or by the client. Other errors end a
-- session.
abbrev pub refusal_text : Error → List ℕ
refusal_text (error.SftpError code message language) = codes " sftp " ++ number_text code
refusal_text (error.UnsupportedExtension set) = codes " extension " ++ extension_word set.0
refusal_text (error.IOError why) = codes " io " ++ kind_name why
refusal_text other = []

-- A file name after a space.
abbrev pub name_text : NameEntry → List ℕ
name_text e = codes " " ++ hex_word e.filename

-- The words of an outcome.
abbrev pub outcome_text : Outcome → List ℕ
outcome_text outcome.Done = codes "done"
outcome_text outcome.Opened = codes "opened"
outcome_text (outcome.Count n) = codes "count " ++ number_text n
outcome_text (outcome.Bytes bytes) = codes "read " ++ hex_word bytes
outcome_text outcome.End = codes "end"
outcome_text (outcome.Meta attrs) = codes "meta " ++ hex_word (attributes attrs)
outcome_text (outcome.Names names) = codes "names" ++ flat_map name_text names
outcome_text (outcome.Path path) = codes "path " ++ hex_word path
outcome_text (outcome.Refused why) = codes "refused" ++ refusal_text why
outcome_text outcome.NoFile = codes "nofile"
outcome_text outcome.Cancelled = codes "cancelled"
outcome_text outcome.GivenUp = codes "givenup"

-- The line of a call, by its lane and number.
abbrev pub outcome_line : ℕ → ℕ → Outcome → List ℕ
outcome_line lane call o = line (codes "lane " ++ number_text lane ++ codes " call " ++ number_text call ++ codes " "
    ++ outcome_text o)

-- The lines of a lane's outcomes, of which the first belongs to the call with this number.
abbrev pub outcome_lines : ℕ → ℕ → List Outcome → List ℕ
outcome_lines lane call [] = []
outcome_lines lane call (o ∷ outcomes) = outcome_line lane call o ++ outcome_lines lane (call + 1) outcomes

-- The lines of the lanes from this number on.
abbrev pub lane_lines : ℕ → List (List Outcome) → List ℕ
lane_lines lane [] = []
lane_lines lane (outcomes ∷ lanes) = outcome_lines lane 0 outcomes ++ lane_lines (lane + 1) lanes

-- ---- Files and directories

-- The line of a file.
abbrev pub file_text : List ℕ → List ℕ → List ℕ
file_text name content = line (codes "file " ++ hex_word name ++ codes " " ++ hex_word content)

-- A line for each name of a file, sorted by the bytes of the written names.
abbrev pub file_lines : FileTree → List ℕ
file_lines tree = flat_map (λ pair. file_text (text_of_name pair.0) (node_bytes tree pair.1))
    (filter has_file (in_name_order tree.names))

-- The line of a directory.
abbrev pub dir_text : List ℕ → List ℕ
dir_text name = line (codes "dir " ++ hex_word name)

-- A line for each name of a directory, sorted the same way. The root has no name.
abbrev pub dir_lines : FileTree → List ℕ
dir_lines tree = flat_map (λ pair. dir_text (text_of_name pair.0)) (filter has_directory (in_name_order tree.names))

-- ---- The whole text

-- The text of a journal and of the outcomes of its lanes.
abbrev pub text_of : List Entry → List (List Outcome) → List ℕ
text_of past outcomes = frame_lines past ++ lane_lines 0 outcomes

-- The text of a journal, of the outcomes, and of the files and directories that are left.
abbrev pub text_with_files : List Entry → List (List Outcome) → FileTree → List ℕ
text_with_files past outcomes tree = text_of past outcomes ++ file_lines tree ++ dir_lines tree
