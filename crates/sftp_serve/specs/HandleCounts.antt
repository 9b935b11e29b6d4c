-- The number of open handles, as a server counts it.
use Rattle.std.specs.Prelude.{
  ◌≡◌,
  ◌≤◌,
  ℕ,
  ◌+◌,
  ◌-◌,
  ◌==◌,
  Bool,
  true,
  false,
  ◌&&◌,
  List,
  length,
  Some,
  if◌then◌else◌,
}
use Rattle.sftp_model.specs.declared.reply.Reply.{Reply}
use Rattle.sftp_model.specs.declared.reply.Reply.TheVariants as reply
use Rattle.sftp_model.specs.declared.request.Request.{Request}
use Rattle.sftp_model.specs.declared.request.Request.TheVariants as request
use Rattle.sftp_model.specs.Answers.{is_handle}
use Rattle.sftp_model.specs.Numbers.{SSH_FX_OK}
use Rattle.machine_answers.specs.MachineState.{MachineState}
use Rattle.script_grammar.specs.declared.script.Script.{Script}
use Rattle.sftp_serve.specs.Stream.{MAX_OPEN_HANDLES, ServedState, answers}
use Rattle.sftp_serve.specs.Words.{script_state}

-- True for CLOSE.
abbrev pub closes_handle : Request → Bool
closes_handle (request.Close handle) = true
closes_handle other = false

-- True for a STATUS of OK.
abbrev pub is_ok : Reply → Bool
is_ok (reply.Status code message language) = code == SSH_FX_OK
is_ok other = false

-- The count after a request was answered: another handle after a HANDLE, and one fewer after a CLOSE that succeeded.
abbrev pub counted_after : Request → Reply → ℕ → ℕ
counted_after r answer count =
    if is_handle answer then count + 1
    else if closes_handle r && is_ok answer then count - 1
    else count

-- The count is that of the machine's open handles, and within the bound.
pub record CountsHandles (machine : MachineState) (count : ℕ) : Type 0 where
  pub same : count ≡ length machine.tree.handles
  pub within : count ≤ MAX_OPEN_HANDLES

-- At most 4096 handles are open after any frames.
abbrev pub BoundsHandles : Type 0
BoundsHandles = (long : Bool) (script : Script) (bodies : List (List ℕ)) (sent : List ℕ) (left : ServedState)
    → answers (script_state long script) bodies ≡ Some (sent, left)
    → length left.machine.tree.handles ≤ MAX_OPEN_HANDLES
