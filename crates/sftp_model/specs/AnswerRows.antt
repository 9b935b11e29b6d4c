-- Worked examples of the replies that may answer a request, of session lengths and of paths, each beside a case that
-- nearly is one.
use Rattle.std.specs.Prelude.{ℕ, ◌≡◌, ◌-◌, ◌^◌, true, false, [], ◌∷◌, codes, Option, Some, None, refl}
use Rattle.sftp_model.specs.declared.config.Limits.{Limits}
use Rattle.sftp_model.specs.declared.request.Request.{Request}
use Rattle.sftp_model.specs.declared.request.Request.TheVariants as request
use Rattle.sftp_model.specs.declared.reply.Reply.TheVariants as reply
use Rattle.sftp_model.specs.Numbers.{SSH_FX_OK, SSH_FX_EOF, SSH_FX_NO_SUCH_FILE}
use Rattle.sftp_model.specs.Answers.{may_answer, ends_reading}
use Rattle.sftp_model.specs.Frames.{no_attributes}
use Rattle.sftp_model.specs.Lengths.{session_lengths}
use Rattle.sftp_model.specs.Paths.{is_absolute_path, joined_path}

-- ---- Replies to requests

abbrev open_a : Request
open_a = request.OpenFile (codes "a") (record { 0 = 1 }) no_attributes

pub open_by_handle : may_answer open_a (reply.Handle []) ≡ true
open_by_handle = refl

pub open_by_refusal : may_answer open_a (reply.Status SSH_FX_NO_SUCH_FILE [] []) ≡ true
open_by_refusal = refl

pub open_by_ok : may_answer open_a (reply.Status SSH_FX_OK [] []) ≡ false
open_by_ok = refl

pub open_by_content : may_answer open_a (reply.Content (1 ∷ [])) ≡ false
open_by_content = refl

abbrev read_one : Request
read_one = request.Read [] 0 1

pub read_by_one : may_answer read_one (reply.Content (1 ∷ [])) ≡ true
read_by_one = refl

pub read_by_two : may_answer read_one (reply.Content (1 ∷ 2 ∷ [])) ≡ false
read_by_two = refl

pub read_by_none : may_answer read_one (reply.Content []) ≡ false
read_by_none = refl

pub read_by_end : may_answer read_one (reply.Status SSH_FX_EOF [] []) ≡ true
read_by_end = refl

pub read_ends : ends_reading read_one (reply.Status SSH_FX_EOF [] []) ≡ true
read_ends = refl

pub open_is_refused : ends_reading open_a (reply.Status SSH_FX_EOF [] []) ≡ false
open_is_refused = refl

pub close_by_ok : may_answer (request.Close []) (reply.Status SSH_FX_OK [] []) ≡ true
close_by_ok = refl

pub close_by_handle : may_answer (request.Close []) (reply.Handle []) ≡ false
close_by_handle = refl

pub readdir_by_no_entry : may_answer (request.Readdir []) (reply.Names []) ≡ true
readdir_by_no_entry = refl

pub realpath_by_no_entry : may_answer (request.Realpath []) (reply.Names []) ≡ false
realpath_by_no_entry = refl

pub limits_by_reply : may_answer request.LimitsQuery (reply.Extended []) ≡ true
limits_by_reply = refl

pub stat_by_ok : may_answer (request.Stat []) (reply.Status SSH_FX_OK [] []) ≡ false
stat_by_ok = refl

-- ---- Session lengths

abbrev limits_of : ℕ → ℕ → ℕ → Option Limits
limits_of packet read write = Some (record {
  packet_len = packet;
  read_len = read;
  write_len = write;
  open_handles =
      0;
})

pub lengths_unset : session_lengths (limits_of 0 0 0) None None ≡ (32768, 32768)
lengths_unset = refl

pub lengths_greatest : session_lengths (limits_of (2 ^ 64 - 1) (2 ^ 64 - 1) (2 ^ 64 - 1)) None None ≡ (1048275, 1048275)
lengths_greatest = refl

-- A packet length below 300 leaves 0 bytes, and a session has at least 1.
pub lengths_of_short_packet : session_lengths (limits_of 10 (2 ^ 64 - 1) 5) None None ≡ (1, 5)
lengths_of_short_packet = refl

pub lengths_of_packet : session_lengths (limits_of 1000 (2 ^ 32) (2 ^ 32 - 1)) None None ≡ (700, 1048275)
lengths_of_packet = refl

pub lengths_without_limits : session_lengths None (Some 7) None ≡ (7, 32768)
lengths_without_limits = refl

pub lengths_of_options : session_lengths (limits_of 0 262144 5) (Some 40000) (Some 40000) ≡ (40000, 5)
lengths_of_options = refl

-- ---- Paths

pub relative : joined_path (codes "/x") (codes "a") ≡ codes "/x/a"
relative = refl

pub relative_behind_slash : joined_path (codes "/x/") (codes "a") ≡ codes "/x/a"
relative_behind_slash = refl

pub absolute : joined_path (codes "/x") (codes "/a") ≡ codes "/a"
absolute = refl

pub from_nowhere : joined_path [] (codes "a") ≡ codes "a"
from_nowhere = refl

pub of_nothing : joined_path (codes "/x") [] ≡ codes "/x/"
of_nothing = refl

pub nothing_is_relative : is_absolute_path [] ≡ false
nothing_is_relative = refl
