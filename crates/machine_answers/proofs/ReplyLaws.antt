-- What a server replies may answer the request and fits a frame, and its tree stays consistent.
use Rattle.std.specs.Prelude.{Result, Ok, Err, IfOk}
use Rattle.std.proofs.Common.{subst, sym, ◌≡◌, ◌==◌, ℕ, ◌<◌, ◌≤◌, ◌^◌, length, Bool, true, false, if◌then◌else◌, arith, lit<, refl}
use Rattle.sftp_model.specs.declared.config.Choice.{Choice}
use Rattle.sftp_model.specs.declared.reply.Reply.{Reply}
use Rattle.sftp_model.specs.declared.request.Request.{Request}
use Rattle.sftp_model.specs.Answers.{MayAnswer, is_handle, IsAfterHello, status}
use Rattle.sftp_model.specs.Fits.{FitsReply}
use Rattle.sftp_model.specs.Frames.{reply_body}
use Rattle.sftp_model.specs.Numbers.{MAX_BODY_LEN, SSH_FX_FAILURE}
use Rattle.machine_model.specs.FileTree.{FileTree}
use Rattle.machine_model.specs.FitTrees.{GivesWithin, IsFit, MayReply}
use Rattle.machine_model.specs.HandleRequests.{Answer}
use Rattle.machine_model.specs.TreeAnswers.{apply}
use Rattle.machine_model.proofs.AnswerLaws.{tree_answers}
use Rattle.machine_model.proofs.FitLaws.{fit_after}
use Rattle.machine_model.proofs.ReplyFits.{body_within, says_fit}
use Rattle.machine_model.proofs.ReplyLaws.{tree_replies}
use Rattle.machine_model.proofs.StatusLaws.{status_allowed}
use Rattle.machine_model.proofs.StayingLaws.{tree_after}
use Rattle.machine_model.proofs.WellFormedLaws.{well_formed_after}
use Rattle.machine_answers.specs.declared.change.Change.{Change}
use Rattle.machine_tree.specs.Numbers.{numbered_handle}
use Rattle.machine_answers.specs.MachineState.{IsConsistent, IsFramed, MakesAnswer, after_change, MachineState, answer, with_grant, with_tree, MAX_HANDLES}

-- the answer of the definition, with the next number
abbrev defined : MachineState → Request → Choice → Answer
defined state r choice = apply state.tree state.config r choice (numbered_handle state.grants)

abbrev by_flags : MachineState → Answer → Bool → Bool → Reply × MachineState
by_flags state x grant full =
    if grant then (if full then (status SSH_FX_FAILURE, state) else (x.0, with_grant state x.1)) else
    (x.0, with_tree state x.1)

-- what holds of the tree before and after holds of what is left
fit_by : (state : MachineState) (x : Answer) (grant full : Bool) → IsFit state.tree → IsFit x.1
    → IsFit (by_flags state x grant full).1.tree
fit_by state x true true before after = before
fit_by state x true false before after = after
fit_by state x false full before after = after

pub fit_left : (state : MachineState) (r : Request) (choice : Choice) → IsFit state.tree
    → IsFit (answer state r choice).1.tree
fit_left state r choice fit =
    let x : Answer = defined state r choice in
    fit_by state x (is_handle x.0) (state.grants == MAX_HANDLES) fit
    (fit_after state.tree state.config r choice (numbered_handle state.grants) fit)

-- what holds of the reply and of the STATUS that refuses a grant holds of what is replied
reply_by : (P : Reply → Type 0) (state : MachineState) (x : Answer) (grant full : Bool) → P (status SSH_FX_FAILURE)
    → P x.0 → P (by_flags state x grant full).0
reply_by P state x true true refused said = refused
reply_by P state x true false refused said = said
reply_by P state x false full refused said = said

pub reply_answers : (state : MachineState) (r : Request) (choice : Choice) → IsAfterHello r
    → MayAnswer r (answer state r choice).0
reply_answers state r choice h =
    let x : Answer = defined state r choice in
    reply_by (λ w. MayAnswer r w) state x (is_handle x.0) (state.grants == MAX_HANDLES)
    (status_allowed r SSH_FX_FAILURE h refl) (tree_answers state.tree state.config r choice
    (numbered_handle state.grants) h).allowed

-- The reply is one that a tree may give.
pub may_reply : (state : MachineState) (r : Request) (choice : Choice) → IsFit state.tree → choice.refuse < 2 ^ 32
    → GivesWithin choice.cap r → MayReply (answer state r choice).0
may_reply state r choice fit code within =
    let x : Answer = defined state r choice in
    reply_by (λ w. MayReply w) state x (is_handle x.0) (state.grants == MAX_HANDLES) (lit< tt, refl, refl)
    (tree_replies state.tree state.config r choice (numbered_handle state.grants) fit (omega arith) code within).said

pub reply_fits : (state : MachineState) (r : Request) (choice : Choice) → IsFit state.tree → choice.refuse < 2 ^ 32
    → GivesWithin choice.cap r → FitsReply (answer state r choice).0
reply_fits state r choice fit code within = says_fit (answer state r choice).0
    (may_reply state r choice fit code within)

-- and its body is within the bound
pub reply_within : (state : MachineState) (r : Request) (choice : Choice) (id : ℕ) → IsFit state.tree
    → choice.refuse < 2 ^ 32 → GivesWithin choice.cap r → length (reply_body (answer state r choice).0 id) ≤
    MAX_BODY_LEN
reply_within state r choice id fit code within = body_within (answer state r choice).0 id
    (may_reply state r choice fit code within)

-- whichever way an answer ends
pub answers_where : {A E : Type 0} (state : MachineState) (r : Request) (choice : Choice) (reply : A → Reply)
    (result : Result A E) → IsAfterHello r
    → IfOk result (λ a. reply a ≡ (answer state r choice).0) → IfOk result (λ a. MayAnswer r (reply a))
answers_where state r choice reply (Ok a) h is = subst (λ (w : Reply). MayAnswer r w) (sym is)
    (reply_answers state r choice h)
answers_where state r choice reply (Err e) h is = tt

pub framed_where : {A E : Type 0} (state : MachineState) (r : Request) (choice : Choice) (reply : A → Reply)
    (result : Result A E) → IsFit state.tree → choice.refuse < 2 ^ 32
    → IfOk result (λ a. reply a ≡ (answer state r choice).0) →
    IfOk result (λ a. GivesWithin choice.cap r → IsFramed (reply a))
framed_where state r choice reply (Ok a) fit code is = λ within. record {
  fits = subst (λ (w : Reply). FitsReply w) (sym is) (reply_fits state r choice fit code within);
  within = λ id. subst (λ (w : Reply). length (reply_body w id) ≤ MAX_BODY_LEN) (sym is)
      (reply_within state r choice id fit code within);
}
framed_where state r choice reply (Err e) fit code is = tt

-- the change of an answer leaves a consistent tree
pub consistent_committed : (state : MachineState) (r : Request) (choice : Choice) (said : Reply × Change)
    → IsConsistent state.tree → MakesAnswer state said (defined state r choice)
    → IsConsistent (after_change state said.1).tree
consistent_committed state r choice said before makes =
    let after : IsConsistent (defined state r choice).1 = record {
      placed = tree_after state.tree state.config r choice (numbered_handle state.grants) before.placed;
      numbered = well_formed_after state.tree state.config r choice (numbered_handle state.grants) before.numbered;
      fit = fit_after state.tree state.config r choice (numbered_handle state.grants) before.fit;
    } in
    subst (λ (w : FileTree). IsConsistent w) (sym makes.left) after
