-- Sends and takes, which keep a session at rest.
use Rattle.std.specs.Prelude.{◌≡◌, ◌⊎◌, ◌<◌, ℕ, Bool, true, List, ◌∷◌, Some}
use Rattle.sftp_model.specs.Answers.{allows_reply}
use Rattle.sftp_model.specs.declared.answers.Expected.{Expected}
use Rattle.sftp_model.specs.declared.reply.Reply.{Reply}
use Rattle.sftp_core.specs.Core.{Core, record_at, handed_out}
use Rattle.sftp_core.specs.Take.{take_leaves}
use Rattle.sftp_core.specs.declared.id_record.IdRecord.TheVariants.{Waiting}
use Rattle.session_model.specs.declared.event.Event.TheVariants.{Send, Take}
use Rattle.session_model.specs.declared.entry.Entry.{Entry}
use Rattle.session_model.specs.declared.entry.Entry.TheVariants as entry
use Rattle.session_model.specs.Readings.{count_sent}
use Rattle.session_model.specs.Calls.{Setting}
use Rattle.session_model.specs.Journals.{IsNext, MayTake}
use Rattle.session_model.specs.Turns.{ClosesTo}
use Rattle.session_laws.specs.Lanes.{LaneValue}
use Rattle.session_laws.specs.Rest.{AtRest, weigh}

-- The queue is sent.
pub record SendsQueue (s : Setting) (past : List Entry) (core : Core) (lanes : ℕ → LaneValue) (begun : ℕ → Bool) : Type
    0
  where
    pub next : IsNext s past (entry.Event Send)
    pub rest : AtRest s (entry.Event Send ∷ past) (handed_out core) lanes begun
    pub work : weigh (handed_out core) ≡ weigh core

-- A request under this id was sent, awaits such a reply, and its reply is awaited by a lane or not.
pub record IsAwaited (core : Core) (id : ℕ) (r : Reply) : Type 0 where
  pub kind : Expected
  pub wanted : Bool
  pub here : record_at core id ≡ Some (Waiting kind true wanted)
  pub allowed : allows_reply kind r ≡ true

-- A reply was taken, and the CLOSE that is due then was queued, if there is one: the journal continued to `now`.
pub record TakesAndCloses (s : Setting) (past : List Entry) (core : Core) (lanes : ℕ → LaneValue) (begun : ℕ → Bool)
    (id : ℕ)
    (r : Reply) (now : List Entry) : Type 0 where
  pub may : MayTake past id r
  pub next : IsNext s past (entry.Event (Take id r))
  pub closes : ClosesTo s (entry.Event (Take id r) ∷ past) now
  pub rest : AtRest s now (take_leaves core id r (record_at core id)) lanes begun
  pub work : weigh (take_leaves core id r (record_at core id)) < weigh core
