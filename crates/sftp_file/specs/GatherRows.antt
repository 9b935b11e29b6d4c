-- Worked reads of `n` bytes, each beside a near miss.
use Rattle.std.specs.Prelude.{ℕ, ◌≡◌, true, [], ◌∷◌, codes, Some, refl}
use Rattle.sftp_model.specs.declared.error.Error.TheVariants as error
use Rattle.sftp_model.specs.declared.error.IoKind.TheVariants as kind
use Rattle.sftp_model.specs.declared.outcome.Outcome.TheVariants as outcome
use Rattle.sftp_model.specs.declared.reply.Reply.{Reply}
use Rattle.sftp_model.specs.declared.reply.Reply.TheVariants as reply
use Rattle.sftp_model.specs.declared.request.Request.TheVariants as request
use Rattle.sftp_model.specs.declared.slot.FileAt.{FileAt}
use Rattle.sftp_model.specs.declared.slot.Move.TheVariants.{Ask, Done, Wait}
use Rattle.plan_model.specs.Moves.{Answers}
use Rattle.plan_model.specs.PlanWords.{after_handle, bare, handle}
use Rattle.plan_state.specs.declared.stage.Stage.TheVariants.{Asked, Ended}
use Rattle.sftp_file.specs.Files.{one_slot}
use Rattle.sftp_file.specs.Gathers.{ReadAllValue, bytes_out, after_data, read_all_left, without_bytes}

-- A file that was opened to read, at this offset.
abbrev stands : ℕ → FileAt
stands offset = record { grant = 0; readable = true; writable = true; offset = offset }

-- Six bytes are missing at offset 10, and a READ asks for four, the limit of the session. The buffer that was passed in
-- holds "<".
abbrev asks_four : ReadAllValue
asks_four =
    record {
      handle = handle;
      file = stands 10;
      facts = bare;
      place = 1;
      before = codes "<";
      got = [];
      missing = 6;
      len = 4;
    }

-- The answers with this reply to that READ.
abbrev taken : Reply → Answers
taken r = after_handle (r ∷ [])

pub waits_row : read_all_left asks_four [] (after_handle []) ≡ Wait 1
waits_row = refl

-- Three bytes came: the next READ asks for the three missing bytes after them.
pub short_row : read_all_left asks_four [] (taken (reply.Content (codes "abc"))) ≡ Ask (request.Read handle 13 3)
short_row = refl

-- Four bytes came: the last two are asked for.
pub full_row : read_all_left asks_four [] (taken (reply.Content (codes "abcd"))) ≡ Ask (request.Read handle 14 2)
full_row = refl

-- The file ended, or the server refused: the offset stays at that of the READ.
pub end_row : read_all_left asks_four [] (taken (reply.Status 1 [] []))
    ≡ Done (outcome.Refused (error.IOError kind.UnexpectedEof)) (one_slot (stands 10))
end_row = refl

pub refused_row : read_all_left asks_four [] (taken (reply.Status 3 [] []))
    ≡ Done (outcome.Refused (error.SftpError 3 [] [])) (one_slot (stands 10))
refused_row = refl

-- All the missing bytes came.
pub last_row : read_all_left (record asks_four { missing = 3; len = 3 }) [] (taken (reply.Content (codes "abc")))
    ≡ Done (outcome.Bytes (codes "abc")) (one_slot (stands 13))
last_row = refl

-- After a short reply, another brings the rest.
pub two_row : read_all_left (after_data asks_four (codes "abcd")) [] (λ place. Some (reply.Content (codes "ef")))
    ≡ Done (outcome.Bytes (codes "abcdef")) (one_slot (stands 16))
two_row = refl

-- A call that has ended returns its bytes; one that is under way keeps them.
abbrev got_three : ReadAllValue
got_three = after_data asks_four (codes "abc")

pub out_row : bytes_out (record { stage = Ended; runner = got_three }) ≡ codes "<abc"
out_row = refl

pub kept_row : bytes_out (record { stage = Asked 7; runner = got_three }) ≡ []
kept_row = refl

pub left_row : without_bytes (record { stage = Asked 7; runner = got_three })
    ≡ record { stage = Asked 7; runner = got_three }
left_row = refl
