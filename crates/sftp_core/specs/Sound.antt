-- The invariant of a core's fields.
use Rattle.std.specs.Prelude.{◌≡◌, ℕ, ◌+◌, ◌≤◌, Bool, List, if◌then◌else◌}
use Rattle.std.specs.FinMap as fin
use Rattle.std.specs.List.{All}
use Rattle.sftp_model.specs.declared.request.Request.{Request}
use Rattle.sftp_core.specs.declared.handshake.Handshake.{Handshake}
use Rattle.sftp_core.specs.Info.{IsRanged, most_ids}
use Rattle.sftp_core.specs.Frames.{IsShort}
use Rattle.sftp_core.specs.Table.{IdRecords, count, is_unsent, is_owing, IsAllowed, AllListed}

-- 1 for the hello while it is in the queue.
abbrev pub hello_queued : Bool → ℕ
hello_queued sent = if sent then 0 else 1

-- The invariant, with the length and the capacity of the queue. Each queued request is counted, each request that was
-- not handed out is in the queue, and each CLOSE that may come fits. No id is in use before the greeting, each kept
-- reply is allowed, and each queued frame is within the limit. An open session has lengths from 1 to 1048275.
pub record IsSound (hello_sent : Bool) (phase : Handshake) (queue : List (ℕ × Request)) (queued capacity : ℕ)
    (table : IdRecords) : Type 0 where
  pub unsent : queued ≡ count is_unsent table + hello_queued hello_sent
  pub listed : AllListed queue table
  pub reserved : queued + count is_owing table ≤ capacity
  pub few : fin.len table ≤ most_ids phase
  pub allowed : (id : ℕ) → IsAllowed (fin.get table id)
  pub short : All IsShort queue
  pub range : IsRanged phase
