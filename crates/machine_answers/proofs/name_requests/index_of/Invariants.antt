use Rattle.std.proofs.Common.{◌≡◌, ◌≤◌, ◌-◌, ◌++◌, ℕ, List, take, drop, length}
use Rattle.sftp_model.specs.declared.reply.NameEntry.{NameEntry}
use Rattle.machine_model.specs.NameRequests.{insert_in_order}
use Rattle.machine_answers.proofs.name_requests.index_of.Given as goal

-- the entry belongs among what is left
pub record IsPassed (entries : List NameEntry) (filename : List ℕ) (index : ℕ) : Type 0 where
  pub within : index ≤ length entries
  pub split : (entry : NameEntry) → entry.filename ≡ filename → insert_in_order entry entries ≡ take index entries
      ++ insert_in_order entry (drop index entries)

abbrev pub invariant-loop-index : goal.invariant-loop-index
invariant-loop-index l = IsPassed l.entries l.fn.filename l.index

abbrev pub decreases-loop-index : goal.decreases-loop-index
decreases-loop-index l = length l.entries - l.index
