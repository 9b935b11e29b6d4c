-- believed
-- The files that a whole run leaves: by the lanes that were passed in, and the reported outcomes of their calls.
use Rattle.std.specs.Prelude.{◌≡◌, ℕ, true, List, length}
use Rattle.sftp_model.specs.declared.outcome.Outcome.{Outcome}
use Rattle.machine_model.specs.Components.{Name}
use Rattle.machine_model.specs.FileTree.{FileTree, node_at}
use Rattle.plan_model.specs.declared.call.Lane.{Lane}
use Rattle.run_laws.specs.Steps.{HasBytes}
use Rattle.run_laws.specs.Flushes.{FlushNumbers, FlushesLast, IsAloneBut}
use Rattle.run_laws.specs.NameCalls.{none_writes}
use Rattle.run_laws.specs.ReadsBack.{IsAlone, WritesLast, calls_in}

-- The result of a whole run over a file machine, for any refusals of the choices, if a name belongs to one lane alone.
--
-- The file has the bytes that the lane last wrote as a whole. If the lane wrote none, the name has what it had at
-- first. A file that the lane opened with create or truncate, buffered, wrote to and flushed, as the last calls that
-- wrote it, has these bytes.
pub record LeavesFiles (lanes : List Lane) (tree left : FileTree) (outcomes : List (List Outcome)) : Type 0 where
  pub written : (name : Name) (lane writer : ℕ) (bytes : List ℕ) → IsAlone lanes name lane
      → WritesLast lanes outcomes name lane writer (length (calls_in lanes lane)) bytes → HasBytes left name bytes
  pub there : (name : Name) (lane : ℕ) (bytes : List ℕ) → IsAlone lanes name lane
      → none_writes name (calls_in lanes lane) ≡ true → HasBytes tree name bytes → HasBytes left name bytes
  pub as_begun : (name : Name) (lane : ℕ) → IsAlone lanes name lane
      → none_writes name (calls_in lanes lane) ≡ true → node_at left name ≡ node_at tree name
  pub flushed : (name : Name) (lane : ℕ) (n : FlushNumbers) (bytes : List ℕ) → IsAloneBut lanes name lane n
      → FlushesLast lanes outcomes name lane n (length (calls_in lanes lane)) bytes → HasBytes left name bytes
