-- believed, except MayAnswer, ends_reading, IsAfterHello
-- The replies that may answer a request (draft-ietf-secsh-filexfer-02, sections 6 and 7; OpenSSH's PROTOCOL, section
-- 4).
use Rattle.std.specs.Prelude.{ℕ, ◌==◌, Bool, true, false, not, ◌&&◌, ◌||◌, [], length, nat_lt, nat_le, IsTrue}
use Rattle.sftp_model.specs.declared.request.Request.{Request}
use Rattle.sftp_model.specs.declared.request.Request.TheVariants as request
use Rattle.sftp_model.specs.declared.reply.Reply.{Reply}
use Rattle.sftp_model.specs.declared.reply.Reply.TheVariants as reply
use Rattle.sftp_model.specs.declared.answers.Expected.{Expected}
use Rattle.sftp_model.specs.declared.answers.Expected.TheVariants as expected
use Rattle.sftp_model.specs.Numbers.{SSH_FX_OK, SSH_FX_EOF}

abbrev pub is_status : Reply → Bool
is_status (reply.Status code message language) = true
is_status other = false

-- True if the reply is a STATUS other than OK.
abbrev pub is_refusal : Reply → Bool
is_refusal (reply.Status code message language) = not (code == SSH_FX_OK)
is_refusal other = false

abbrev pub is_handle : Reply → Bool
is_handle (reply.Handle handle) = true
is_handle other = false

-- True if the reply is a DATA of 1 to `len` bytes.
abbrev pub is_content : ℕ → Reply → Bool
is_content len (reply.Content bytes) = nat_lt 0 (length bytes) && nat_le (length bytes) len
is_content len other = false

abbrev pub is_names : Reply → Bool
is_names (reply.Names names) = true
is_names other = false

-- True if the reply is a NAME of one entry or more.
abbrev pub is_some_names : Reply → Bool
is_some_names (reply.Names names) = nat_lt 0 (length names)
is_some_names other = false

abbrev pub is_attrs : Reply → Bool
is_attrs (reply.Attrs attrs) = true
is_attrs other = false

abbrev pub is_extended : Reply → Bool
is_extended (reply.Extended content) = true
is_extended other = false

-- True if the reply is VERSION, which answers the hello; no other reply does.
abbrev pub is_version : Reply → Bool
is_version (reply.Version version extensions) = true
is_version other = false

-- The replies that may answer a request: a reply of this kind, or for each but the last a STATUS other than OK.
abbrev pub expected_of : Request → Expected
expected_of (request.Init version) = expected.Version
expected_of (request.OpenFile path flags attrs) = expected.Handle
expected_of (request.Opendir path) = expected.Handle
expected_of (request.Read handle offset len) = expected.Content len
expected_of (request.Readdir handle) = expected.Names
expected_of (request.Lstat path) = expected.Attrs
expected_of (request.Fstat handle) = expected.Attrs
expected_of (request.Stat path) = expected.Attrs
expected_of (request.Realpath path) = expected.FirstName
expected_of (request.Readlink path) = expected.FirstName
expected_of (request.ExpandPath path) = expected.FirstName
expected_of request.LimitsQuery = expected.Limits
expected_of other = expected.Status

abbrev pub allows_reply : Expected → Reply → Bool
allows_reply expected.Version answer = is_version answer
allows_reply expected.Handle answer = is_handle answer || is_refusal answer
allows_reply (expected.Content len) answer = is_content len answer || is_refusal answer
allows_reply expected.Names answer = is_names answer || is_refusal answer
allows_reply expected.FirstName answer = is_some_names answer || is_refusal answer
allows_reply expected.Attrs answer = is_attrs answer || is_refusal answer
allows_reply expected.Limits answer = is_extended answer || is_refusal answer
allows_reply expected.Status answer = is_status answer

-- True if a reply may answer a request.
abbrev pub may_answer : Request → Reply → Bool
may_answer r answer = allows_reply (expected_of r) answer

abbrev pub MayAnswer : Request → Reply → Type 0
MayAnswer r answer = IsTrue (may_answer r answer)

-- True if the reply is a STATUS of EOF.
abbrev pub is_end_of_file : Reply → Bool
is_end_of_file (reply.Status code message language) = code == SSH_FX_EOF
is_end_of_file other = false

-- True if a reply says that no bytes or names are left to read. To requests other than READ and READDIR a STATUS of EOF
-- is a refusal like any other.
abbrev pub ends_reading : Request → Reply → Bool
ends_reading (request.Read handle offset len) answer = is_end_of_file answer
ends_reading (request.Readdir handle) answer = is_end_of_file answer
ends_reading other answer = false

-- ---- Abbreviations of replies

-- A STATUS with an empty message and language.
abbrev pub status : ℕ → Reply
status code = reply.Status code [] []

-- True for any request except the hello.
abbrev pub IsAfterHello : Request → Type 0
IsAfterHello (request.Init version) = ⊥
IsAfterHello other = Unit {0}
