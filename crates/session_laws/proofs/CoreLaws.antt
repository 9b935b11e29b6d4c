-- The core of a session, as it is queued to, polled, abandoned, sent and taken from.
use Rattle.std.proofs.Common.{◌≡◌, ℕ, Bool, List, [], ◌∷◌, ◌++◌, refl, ap, sym, ◌∙◌}
use Rattle.sftp_model.specs.declared.request.Request.{Request}
use Rattle.sftp_core.specs.declared.id_record.IdRecord.{IdRecord}
use Rattle.sftp_core.specs.Core.{Core, handed_out, queued_last, with_record, without_record as removed}
use Rattle.session_model.specs.declared.event.Owner.{Owner}
use Rattle.session_model.specs.declared.event.Event.TheVariants.{Send, Submit}
use Rattle.session_model.specs.declared.entry.Entry.{Entry}
use Rattle.session_model.specs.Readings.{unsent_requests}
use Rattle.session_model.specs.Calls.{Setting}
use Rattle.session_laws.specs.Lanes.{CoreTied}
use Rattle.session_model.specs.declared.entry.Entry.TheVariants as entry

-- a request is queued
pub core_queued : (s : Setting) (past : List Entry) (core : Core) (by : Owner) (id : ℕ) (r : Request) (wanted : Bool)
    → CoreTied s past core → CoreTied s (entry.Event (Submit by id r) ∷ past) (queued_last core id r wanted)
core_queued s past core by id r wanted c =
    record {
      info = c.info;
      phase = c.phase;
      read_len = c.read_len;
      unfailed = c.unfailed;
      greeted = c.greeted;
      queue =
          ap (λ (q : List (ℕ × Request)). q ++ (id, r) ∷ []) c.queue;
    }

-- what is queued is sent
pub core_sent : (s : Setting) (past : List Entry) (core : Core) → CoreTied s past core
    → CoreTied s (entry.Event Send ∷ past) (handed_out core)
core_sent s past core c = record {
  info = c.info;
  phase = c.phase;
  read_len = c.read_len;
  unfailed = c.unfailed;
  greeted = refl;
  queue = refl;
}

-- nothing is queued or sent, and another place stands under an id, or none
pub core_on : (s : Setting) (past now : List Entry) (core : Core) → unsent_requests now ≡ unsent_requests past
    → CoreTied s past core → CoreTied s now core
core_on s past now core same c = record {
  info = c.info;
  phase = c.phase;
  read_len = c.read_len;
  unfailed = c.unfailed;
  greeted = c.greeted;
  queue = c.queue ∙ sym same;
}

pub core_placed : (s : Setting) (past : List Entry) (core : Core) (id : ℕ) (p : IdRecord) → CoreTied s past core
    → CoreTied s past (with_record core id p)
core_placed s past core id p c = record {
  info = c.info;
  phase = c.phase;
  read_len = c.read_len;
  unfailed = c.unfailed;
  greeted = c.greeted;
  queue = c.queue;
}

pub core_removed : (s : Setting) (past : List Entry) (core : Core) (id : ℕ) → CoreTied s past core
    → CoreTied s past (removed core id)
core_removed s past core id c = record {
  info = c.info;
  phase = c.phase;
  read_len = c.read_len;
  unfailed = c.unfailed;
  greeted = c.greeted;
  queue = c.queue;
}
