-- Effects of a runner's answer on its lane, for any call.
use Rattle.std.specs.Prelude.{◌≡◌, ℕ, List, [], ◌∷◌, ◌++◌, Some, None}
use Rattle.sftp_model.specs.declared.slot.Move.TheVariants.{Ask, Done}
use Rattle.sftp_model.specs.declared.slot.Site.{Site}
use Rattle.plan_model.specs.Moves.{Plan}
use Rattle.plan_runner.specs.declared.next.Next.{Next}
use Rattle.plan_runner.specs.declared.next.Running.{Running}
use Rattle.plan_runner.specs.Runners.{RunsByPlan, AnswersWhileWaiting, bytes_of, request_with_handles}
use Rattle.plan_runner.specs.Cancelling.{LeavesCancelled, SiteAfterCancel, left_behind}
use Rattle.plan_runner.specs.Sound.{IsSound, KeepsRunningSound}
use Rattle.plan_runner.specs.Pending.{PendsAfter, pends}
use Rattle.plan_model.specs.declared.call.Call.{Call}
use Rattle.session_model.specs.declared.event.Event.TheVariants.{End}
use Rattle.session_model.specs.declared.entry.Entry.{Entry}
use Rattle.session_model.specs.Readings.{answer, count_submitted, count_ended, last_cancel}
use Rattle.session_model.specs.Calls.{Setting, move_of}
use Rattle.session_model.specs.Journals.{IsJournal}
use Rattle.session_laws.specs.Running.{IsFilled, request_of}
use Rattle.session_laws.specs.Lanes.{LaneGoes}
use Rattle.plan_runner.specs.declared.next.Next.TheVariants as step
use Rattle.session_model.specs.declared.entry.Entry.TheVariants as entry

-- The clauses of a runner's answer: it follows this plan, leaves what a cancelled call leaves, and awaits no more than
-- was awaited before and its own request. `old` is the lane's site before, and `new` its site after.
pub record RunnerStep (s : Setting) (past : List Entry) (c : Call) (plan : Plan) (leave : SiteAfterCancel)
    (before : ℕ → ℕ)
    (old new : Site) (n : Next) : Type 0 where
  pub goes : RunsByPlan plan (count_submitted past) (bytes_of c) new s.facts n
  pub left : LeavesCancelled leave (count_submitted past) (bytes_of c) new s.facts n
  pub sound : KeepsRunningSound (bytes_of c) s.facts old new n
  pub pends : PendsAfter before (count_submitted past) new n

-- The clauses of its answer while the reply that its call awaits is missing. The site stays.
pub record RunnerWidens (s : Setting) (past : List Entry) (c : Call) (running : Running) (site : Site) (n : Next) :
    Type 0 where
  pub goes : AnswersWhileWaiting running (count_submitted past) (bytes_of c) site s.facts n
  pub left : LeavesCancelled (left_behind running (bytes_of c) site s.facts) (count_submitted past) (bytes_of c) site
      s.facts n
  pub sound : IsSound (bytes_of c) site s.facts n
  pub pends : PendsAfter (λ q. pends q (Some running) site) (count_submitted past) site n

-- A request is the lane's move, and the lane continues from it; the same holds for an end. If the runner waits for
-- another reply the lane continues without an entry. Tickets of these places are left.
abbrev pub LaneGoesOn : Setting → List Entry → ℕ → List ℕ → Site → Next → Type 0
LaneGoesOn s past lane tickets site (step.Ask a r) =
    (move_of s past lane ≡ Some (Ask (request_with_handles a (answer past))))
    × ((id : ℕ) → IsFilled a (answer past) → LaneGoes s (request_of past lane id a ∷ past) lane (Some r) site
    (tickets ++ count_submitted past ∷ []))
LaneGoesOn s past lane tickets site (step.Wait r) = LaneGoes s past lane (Some r) site tickets
LaneGoesOn s past lane tickets site (step.Done o) =
    (move_of s past lane ≡ Some (Done o site))
    × (IsJournal s past → last_cancel past ≡ None → LaneGoes s (entry.Event (End lane (count_ended past lane) o) ∷ past)
    lane
    None site tickets)
