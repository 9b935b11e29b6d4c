-- believed
-- Journals that a link's log shows. A log has its newest piece first.
use Rattle.std.specs.Prelude.{◌≡◌, ◌≤◌, ℕ, List, [], ◌∷◌, length, Option, Some, None, Ok}
use Rattle.sftp_model.specs.declared.reply.Reply.{Reply}
use Rattle.sftp_model.specs.declared.request.Request.TheVariants as request
use Rattle.sftp_model.specs.Numbers.{MAX_BODY_LEN}
use Rattle.sftp_model.specs.Frames.{frame, request_frame}
use Rattle.sftp_model.specs.ReplyReadings.{reply_at}
use Rattle.sftp_link.specs.declared.piece.Piece.{Piece}
use Rattle.sftp_link.specs.Log.{SentOn, GotOn}
use Rattle.session_model.specs.declared.event.Event.TheVariants.{Send, Take}
use Rattle.session_model.specs.declared.entry.Entry.{Entry}
use Rattle.session_model.specs.declared.entry.Entry.TheVariants as entry
use Rattle.session_model.specs.Readings.{unsent_bytes}

-- These bytes are one frame that reads as this id, which VERSION lacks, and this reply.
pub record IsFrameOf (id : Option ℕ) (r : Reply) (bytes : List ℕ) : Type 0 where
  pub body : List ℕ
  pub framed : bytes ≡ frame body
  pub short : length body ≤ MAX_BODY_LEN
  pub reads : reply_at body ≡ Ok (id, r)

-- One frame was received that reads as this id and reply.
abbrev pub GotReply : Option ℕ → Reply → List Piece → List Piece → Type 0
GotReply id r before now = (bytes : List ℕ) × (IsFrameOf id r bytes × GotOn before now bytes)

-- The hello: the client speaks version 3.
abbrev pub hello_frame : List ℕ
hello_frame = request_frame (request.Init 3) 0

-- Since the log was `first`, it shows that the hello was sent and a VERSION received. After that it shows, in order,
-- the frames of the unsent requests for each Send, and for each Take one frame that reads as its id and reply.
abbrev pub ShowsExchange : Reply → List Entry → List Piece → List Piece → Type 0
ShowsExchange hello [] first log = (before : List Piece) × (SentOn first before hello_frame
    × GotReply None hello before log)
ShowsExchange hello (entry.Event Send ∷ past) first log = (before : List Piece)
    × (ShowsExchange hello past first before × SentOn before log (unsent_bytes past))
ShowsExchange hello (entry.Event (Take id r) ∷ past) first log = (before : List Piece)
    × (ShowsExchange hello past first before × GotReply (Some id) r before log)
ShowsExchange hello (other ∷ past) first log = ShowsExchange hello past first log
