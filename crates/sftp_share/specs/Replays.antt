-- believed, except NoHello
-- The answers of a file machine to the requests of a trace, compared with the replies that were taken there.
use Rattle.std.specs.Prelude.{ℕ, ◌+◌, ◌==◌, Bool, true, false, List, [], ◌∷◌, drop, Option, Some, None, if◌then◌else◌}
use Rattle.sftp_model.specs.declared.config.Choice.{Choice}
use Rattle.sftp_model.specs.declared.request.Request.{Request}
use Rattle.sftp_model.specs.declared.request.Request.TheVariants as request
use Rattle.sftp_model.specs.declared.reply.Reply.{Reply}
use Rattle.sftp_model.specs.contracts.reply.ReplyPartialEq.TheImpl as same_reply
use Rattle.sftp_model.specs.Answers.{IsAfterHello}
use Rattle.machine_model.specs.FirstTree.{first_tree}
use Rattle.machine_model.specs.TreeAnswers.{first_choice}
use Rattle.machine_answers.specs.MachineState.{MachineState, answer}
use Rattle.session_model.specs.declared.event.Event.{Event}
use Rattle.session_model.specs.declared.event.Event.TheVariants.{Submit, Take}
use Rattle.script_grammar.specs.declared.script.Script.{Script}
use Rattle.sftp_share.specs.declared.outcome.Replay.{Replay}
use Rattle.sftp_share.specs.declared.outcome.Replay.TheVariants.{Serves, Differs}

-- ---- Choices

-- The query for limits takes no choice.
abbrev pub is_uncounted : Request → Bool
is_uncounted request.LimitsQuery = true
is_uncounted other = false

-- The choice for a request: the first that is left, but none for the query for limits.
abbrev pub choice_for : Request → List Choice → Choice
choice_for r choices = if is_uncounted r then first_choice [] else first_choice choices

-- The choices that it leaves.
abbrev pub choices_after : Request → List Choice → List Choice
choices_after r choices = if is_uncounted r then choices else drop 1 choices

-- ---- Replies that were taken

-- The reply to the request with an id, in the events after its Submit. It is that of the first Take with the id, unless
-- a further request has the id before.
abbrev pub reply_in : ℕ → List Event → Option Reply
reply_in id [] = None
reply_in id (Take i r ∷ later) = if i == id then Some r else reply_in id later
reply_in id (Submit by i r ∷ later) = if i == id then None else reply_in id later
reply_in id (_ ∷ later) = reply_in id later

-- True if no reply was taken, or the reply that was taken is this one.
abbrev pub is_reply : Option Reply → Reply → Bool
is_reply None r = true
is_reply (Some taken) r = same_reply.ghosts.eq taken r

-- ---- The replay

-- The machine answers the requests one after another, each with its choice, from this place on. It serves the events,
-- and this is its state at the end; or it differs at the first request whose taken reply is not its own.
abbrev pub replay_from : MachineState → List Choice → ℕ → List Event → Replay
replay_from machine choices place [] = Serves machine
replay_from machine choices place (Submit by id r ∷ later) =
    if is_reply (reply_in id later) (answer machine r (choice_for r choices)).0
    then replay_from (answer machine r (choice_for r choices)).1 (choices_after r choices) (place + 1) later
    else Differs place (answer machine r (choice_for r choices)).0
replay_from machine choices place (_ ∷ later) = replay_from machine choices place later

-- A machine of a script's files and directories, before the first request.
abbrev pub machine_of : Script → MachineState
machine_of script = record { tree = first_tree script.files script.dirs; config = script.server; grants = 0 }

-- The replay of a trace by the machine of a script, with the script's choices.
abbrev pub replay_of : Script → List Event → Replay
replay_of script trace = replay_from (machine_of script) script.choices 0 trace

-- No request is the hello.
abbrev pub NoHello : List Event → Type 0
NoHello [] = Unit {0}
NoHello (Submit by id r ∷ later) = IsAfterHello r × NoHello later
NoHello (_ ∷ later) = NoHello later
