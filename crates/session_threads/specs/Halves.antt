-- believed, except GotReplies, WorkersShow
-- The contents of the two halves of the link after a run, if they report them.
use Rattle.std.specs.Prelude.{◌≡◌, ℕ, List, ◌++◌, Some, None, reverse}
use Rattle.session_model.specs.declared.entry.Entry.{Entry}
use Rattle.session_model.specs.Shown.{IsFrameOf, hello_frame}
use Rattle.sftp_link.specs.declared.piece.Piece.{Piece}
use Rattle.sftp_link.specs.Log.{GotOn}
use Rattle.sftp_link.specs.Told.{SentAll, IfLogged}
use Rattle.sftp_link.specs.Views.{LinkView}
use Rattle.sftp_model.specs.declared.reply.Reply.{Reply}
use Rattle.sftp_tasks.specs.declared.report.SharedReport.{SharedReport}
use Rattle.sftp_tasks.specs.Sent.{AreFramesOf, sent_bytes, taken_replies}

-- The report's journal, the newest entry first.
abbrev pub past_in : SharedReport → List Entry
past_in r = reverse r.journal.items

-- A frame was received for each Take of the journal, in order, that reads as its id and reply.
abbrev pub GotReplies : List Entry → List Piece → List Piece → Type 0
GotReplies past before now = (bytes : List ℕ) × (AreFramesOf (taken_replies past) bytes × GotOn before now bytes)

-- A frame was received that reads as VERSION, and then one for each Take of the journal.
abbrev pub GotJournal : Reply → List Entry → List Piece → List Piece → Type 0
GotJournal hello past before now = (first : List ℕ) × ((rest : List ℕ) × (IsFrameOf None hello first
    × (AreFramesOf (taken_replies past) rest × GotOn before now (first ++ rest))))

module _ {A B : Type 0} (r : SharedReport) (out out' : LinkView A) (input input' : LinkView B) where
  -- The frames of all Sends of the journal were sent over the one half, and those of all Takes received from the other.
  pub record WorkersShow : Type 0 where
    pub sent : IfLogged (SentAll (sent_bytes (past_in r))) out.log out'.log
    pub got : IfLogged (GotReplies (past_in r)) input.log input'.log

  -- The hello's frame was sent over the one half, and then the frames of all Sends of the journal, in order. From the
  -- other a frame was received that reads as the report's VERSION, and then one for each Take of the journal, in order.
  pub record HalvesShow : Type 0 where
    pub hello : Reply
    pub told : r.report.hello ≡ Some hello
    pub sent : IfLogged (SentAll (hello_frame ++ sent_bytes (past_in r))) out.log out'.log
    pub got : IfLogged (GotJournal hello (past_in r)) input.log input'.log
