-- What a request leaves, by its reply and its change.
use Rattle.std.proofs.Common.{◌≡◌, ◌==◌, Bool, true, false, if◌then◌else◌, refl, ap, sym, ◌∙◌}
use Rattle.sftp_model.specs.declared.reply.Reply.{Reply}
use Rattle.sftp_model.specs.Answers.{is_handle, status}
use Rattle.sftp_model.specs.Numbers.{SSH_FX_FAILURE}
use Rattle.machine_model.specs.FileTree.{FileTree}
use Rattle.machine_model.specs.HandleRequests.{Answer}
use Rattle.machine_tree.specs.Numbers.{numbered_handle}
use Rattle.machine_answers.specs.Changes.{tree_after_change, is_grant}
use Rattle.machine_answers.specs.MachineState.{MachineState, MakesAnswer, after_answer, after_change, with_grant, with_tree, MAX_HANDLES}
use Rattle.machine_answers.specs.declared.change.Change.{Change}

-- the tree that a change leaves
abbrev left : MachineState → Change → FileTree
left state c = tree_after_change state.tree (numbered_handle state.grants) c

-- a reply with what its change leaves, by whether a handle is granted and whether all were
abbrev by_flags : MachineState → Reply × Change → Bool → Bool → Reply × MachineState
by_flags state said grant full =
    if grant then (if full then (status SSH_FX_FAILURE, state) else (said.0, with_grant state (left state said.1)))
    else (said.0, with_tree state (left state said.1))

as_flags : (state : MachineState) (said : Reply × Change) (x : Answer) → MakesAnswer state said x → after_answer state x
    ≡ by_flags state said (is_grant said.1) (state.grants == MAX_HANDLES)
as_flags state said x t = rw (sym t.reply, sym t.left) (ap (λ b. by_flags state said b (state.grants == MAX_HANDLES))
    (ap is_handle t.reply ∙ sym t.grants))

-- no handle is granted, or one is left
by_grant : (state : MachineState) (said : Reply × Change) (b full : Bool) → is_grant said.1 ≡ b
    → (b ≡ true → full ≡ false) → by_flags state said b full ≡ (said.0, after_change state said.1)
by_grant state said true full e h = rw (h refl, e) refl
by_grant state said false full e h = rw e refl

pub granted : (state : MachineState) (said : Reply × Change) (x : Answer) → MakesAnswer state said x
    → (is_grant said.1 ≡ true → (state.grants == MAX_HANDLES) ≡ false) → after_answer state x
    ≡ (said.0, after_change state said.1)
granted state said x t h = as_flags state said x t ∙ by_grant state said (is_grant said.1) (state.grants == MAX_HANDLES)
    refl h

pub refused : (state : MachineState) (said : Reply × Change) (x : Answer) → MakesAnswer state said x → is_grant said.1
    ≡ true
    → (state.grants == MAX_HANDLES) ≡ true → after_answer state x ≡ (status SSH_FX_FAILURE, state)
refused state said x t h full = as_flags state said x t ∙ rw (h, full) refl
