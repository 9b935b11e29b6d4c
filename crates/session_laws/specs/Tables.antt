-- believed
-- The records that a core keeps under each id, by the journal and by the places that the lanes have tickets and grants
-- of.
use Rattle.std.specs.Prelude.{◌≡◌, ℕ, Bool, true, false, List, Option, Some, None}
use Rattle.sftp_model.specs.Answers.{expected_of}
use Rattle.sftp_model.specs.declared.answers.Expected.{Expected}
use Rattle.sftp_model.specs.declared.reply.Reply.{Reply}
use Rattle.sftp_core.specs.declared.id_record.IdRecord.{IdRecord}
use Rattle.sftp_core.specs.declared.id_record.IdRecord.TheVariants.{Waiting, Answered, Granted}
use Rattle.session_model.specs.declared.entry.Entry.{Entry}
use Rattle.session_model.specs.Ids.{IdState, Free, Pending, Replied, id_state}
use Rattle.sftp_model.specs.declared.reply.Reply.TheVariants as reply

-- A reply that a lane has a ticket for is kept for it. A handle that a lane has as a grant is a grant with one user.
abbrev pub record_of_reply : Bool → Bool → Expected → Reply → Option IdRecord
record_of_reply true granted expected r = Some (Answered expected r)
record_of_reply false true expected (reply.Handle handle) = Some (Granted handle 1)
record_of_reply false true expected other = None
record_of_reply false false expected r = None

-- The record under an id, by its last request.
abbrev pub stand : (ℕ → Bool) → (ℕ → Bool) → IdState → Option IdRecord
stand wanted granted Free = None
stand wanted granted (Pending place a was_sent) = Some (Waiting (expected_of a.request) was_sent (wanted place))
stand wanted granted (Replied place a r) = record_of_reply (wanted place) (granted place) (expected_of a.request) r

abbrev pub TableMatches : List Entry → (ℕ → Bool) → (ℕ → Bool) → (ℕ → Option IdRecord) → Type 0
TableMatches past wanted granted table = (id : ℕ) → table id ≡ stand wanted granted (id_state past id)

-- ---- The place of an id

abbrev pub place_of : IdState → Option ℕ
place_of Free = None
place_of (Pending place a was_sent) = Some place
place_of (Replied place a r) = Some place
