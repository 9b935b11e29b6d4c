-- believed: MachineState, MAX_HANDLES, with_tree, with_grant, after_answer, answer
-- A server of files and directories in memory, which grants the numbers 0, 1, 2 and so on as its handles.
use Rattle.std.specs.Prelude.{◌≡◌, ◌<◌, ◌≤◌, ℕ, ◌+◌, ◌==◌, true, length, if◌then◌else◌}
use Rattle.sftp_model.specs.declared.config.Choice.{Choice}
use Rattle.sftp_model.specs.declared.config.ServerConfig.{ServerConfig}
use Rattle.sftp_model.specs.declared.request.Request.{Request}
use Rattle.sftp_model.specs.declared.reply.Reply.{Reply}
use Rattle.sftp_model.specs.Answers.{is_handle, status}
use Rattle.sftp_model.specs.Fits.{FitsReply}
use Rattle.sftp_model.specs.Frames.{reply_body}
use Rattle.sftp_model.specs.Numbers.{MAX_BODY_LEN, SSH_FX_FAILURE}
use Rattle.machine_model.specs.HandleRequests.{Answer}
use Rattle.machine_model.specs.FileTree.{FileTree}
use Rattle.machine_model.specs.Changes.{IsWellFormed}
use Rattle.machine_model.specs.FitTrees.{IsFit}
use Rattle.machine_model.specs.TreeAnswers.{apply}
use Rattle.machine_model.specs.Trees.{IsTree}
use Rattle.machine_tree.specs.Numbers.{AllBelow, numbered_handle}
use Rattle.machine_answers.specs.Changes.{FitsChange, LeadsToAnswer, tree_after_change, is_grant}
use Rattle.machine_answers.specs.declared.answered.Answered.{Answered}
use Rattle.machine_answers.specs.declared.change.Change.{Change}

-- Files and directories, the extensions and limits that the server offers, and the number of handles that it granted.
pub record MachineState : Type 0 where
  pub tree : FileTree
  pub config : ServerConfig
  pub grants : ℕ

-- The count of handles: the count of numbers of four bytes.
abbrev pub MAX_HANDLES : ℕ
MAX_HANDLES = 4294967296

-- The invariant of a server's files and directories: each name lies beneath a directory, no two names have one file,
-- and files and names are within their bounds.
pub record IsConsistent (tree : FileTree) : Type 0 where
  pub placed : IsTree tree
  pub numbered : IsWellFormed tree
  pub fit : IsFit tree

-- ---- Effects of a request

-- The state with another tree; the offer and the number of handles granted are unchanged.
abbrev pub with_tree : MachineState → FileTree → MachineState
with_tree state tree = record { tree = tree; config = state.config; grants = state.grants }

-- The same with another handle.
abbrev pub with_grant : MachineState → FileTree → MachineState
with_grant state tree = record { tree = tree; config = state.config; grants = state.grants + 1 }

-- The state after an answer. A HANDLE is counted; if all numbers were granted, it is refused.
abbrev pub after_answer : MachineState → Answer → Reply × MachineState
after_answer state x =
    if is_handle x.0 then (if state.grants == MAX_HANDLES then (status SSH_FX_FAILURE, state) else
    (x.0, with_grant state x.1))
    else (x.0, with_tree state x.1)

-- The reply to a request, and the state after it: as the definition says, with the next number as the handle.
abbrev pub answer : MachineState → Request → Choice → Reply × MachineState
answer state r choice = after_answer state (apply state.tree state.config r choice (numbered_handle state.grants))

-- The state after a change.
abbrev pub after_change : MachineState → Change → MachineState
after_change state c = record {
  tree = tree_after_change state.tree (numbered_handle state.grants) c;
  config = state.config;
  grants = if is_grant c then state.grants + 1 else state.grants;
}

-- A reply with a change is that answer.
abbrev pub MakesAnswer : MachineState → Reply × Change → Answer → Type 0
MakesAnswer state said x = LeadsToAnswer state.tree (numbered_handle state.grants) said x

-- ---- Answers that were found, and are not committed yet

-- The state after the answer.
abbrev pub left_by : MachineState → Answered → MachineState
left_by state answered = after_change state answered.change

-- The reply fits a frame, and its body is within the bound for any id.
pub record IsFramed (r : Reply) : Type 0 where
  pub fits : FitsReply r
  pub within : (id : ℕ) → length (reply_body r id) ≤ MAX_BODY_LEN

-- The answer may be committed: a handle is left if it grants one, and files and directories stay consistent.
pub record MayCommit (state : MachineState) (answered : Answered) : Type 0 where
  pub room : is_grant answered.change ≡ true → state.grants < MAX_HANDLES
  pub fits : FitsChange answered.change
  pub within : IsConsistent (left_by state answered).tree

-- ---- Handles

-- Each open handle was granted.
pub record IsValid (state : MachineState) : Type 0 where
  pub handles : AllBelow state.grants state.tree.handles
  pub count : state.grants ≤ MAX_HANDLES
