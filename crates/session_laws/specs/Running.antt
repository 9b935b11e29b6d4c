-- believed: remaining_plan, RunTied, site_if_cancelled, CancelTied
-- A lane's call by the journal of its session, for any call.
use Rattle.std.specs.Prelude.{◌≡◌, ℕ, List, [], ◌∷◌, ◌++◌, Option, Some, None}
use Rattle.sftp_model.specs.declared.slot.Facts.{Facts}
use Rattle.sftp_model.specs.declared.slot.Move.TheVariants.{Ask, Done}
use Rattle.sftp_model.specs.declared.request.Request.{Request}
use Rattle.sftp_model.specs.declared.slot.Site.{Site}
use Rattle.plan_model.specs.Moves.{Answers, Own, Plan}
use Rattle.plan_model.specs.OwnRequests.{ExtendsAnswers}
use Rattle.plan_runner.specs.declared.next.Asked.{Asked}
use Rattle.plan_runner.specs.declared.next.Running.{Running}
use Rattle.plan_runner.specs.declared.next.Next.{Next}
use Rattle.plan_runner.specs.Runners.{bytes_of, request_with_handles, residual}
use Rattle.plan_runner.specs.Cancelling.{SiteAfterCancel, left_behind}
use Rattle.plan_model.specs.declared.call.Call.{Call}
use Rattle.session_model.specs.declared.event.Event.TheVariants.{Submit}
use Rattle.session_model.specs.declared.entry.Entry.{Entry}
use Rattle.session_model.specs.Readings.{answer, count_ended, own}
use Rattle.session_model.specs.Calls.{Setting, current, move_of, site_of}
use Rattle.plan_runner.specs.declared.next.Asked.TheVariants as asked
use Rattle.plan_runner.specs.declared.next.Next.TheVariants as step
use Rattle.session_model.specs.declared.event.Owner.TheVariants as owner
use Rattle.session_model.specs.declared.entry.Entry.TheVariants as entry
use Rattle.plan_model.specs.CallPlans.{site_after_cancel, next}

-- ---- What a lane's call does from here

-- The rest of the plan of a lane's call: all of it if the call was not started.
abbrev pub remaining_plan : Option Running → Call → Site → Facts → Plan
remaining_plan None c site facts own answers = next c site facts own answers
remaining_plan (Some r) c site facts own answers = residual r (bytes_of c) site facts own answers

-- For all later requests and replies the rest of the plan is the plan of the lane's call.
abbrev pub RunTied : Setting → List Entry → ℕ → Option Running → Site → Type 0
RunTied s past lane running site =
    (c : Call) → current s past lane ≡ Some c → (answers : Answers) → ExtendsAnswers (answer past) answers
    → (later : Own)
    → next c (site_of s past lane) s.facts (own past lane (count_ended past lane) ++ later) answers
    ≡ remaining_plan running c site s.facts later answers

-- The site that a call leaves if it is cancelled from here.
abbrev pub site_if_cancelled : Option Running → Call → Site → Facts → SiteAfterCancel
site_if_cancelled None c site facts own answers = site_after_cancel c site facts own answers
site_if_cancelled (Some r) c site facts own answers = left_behind r (bytes_of c) site facts own answers

-- For all later requests and replies the lane's call leaves this if it is cancelled.
abbrev pub CancelTied : Setting → List Entry → ℕ → Option Running → Site → Type 0
CancelTied s past lane running site =
    (c : Call) → current s past lane ≡ Some c → (answers : Answers) → ExtendsAnswers (answer past) answers
    → (later : Own)
    → site_after_cancel c (site_of s past lane) s.facts (own past lane (count_ended past lane) ++ later) answers
    ≡ site_if_cancelled running c site s.facts later answers

-- ---- Effects of a runner's step on its lane

-- The places of the grants whose handles a request carries.
abbrev pub grants_named : Asked → List ℕ
grants_named (asked.Plain r) = []
grants_named (asked.Close grant) = grant ∷ []
grants_named (asked.Read grant offset len) = grant ∷ []
grants_named (asked.Write grant offset content) = grant ∷ []
grants_named (asked.Fstat grant) = grant ∷ []
grants_named (asked.Fsetstat grant attrs) = grant ∷ []
grants_named (asked.Fsync grant) = grant ∷ []
grants_named (asked.Readdir grant) = grant ∷ []
grants_named (asked.CopyData from from_offset len to to_offset) = from ∷ to ∷ []

-- The request is the same by all later replies: the handles of its grants have come.
abbrev pub IsFilled : Asked → Answers → Type 0
IsFilled a known = (answers : Answers) → ExtendsAnswers known answers → request_with_handles a answers
    ≡ request_with_handles a known

-- A request of the lane's current call.
abbrev pub own_request : List Entry → ℕ → ℕ → Request → Entry
own_request past lane id r = entry.Event (Submit (owner.Call lane (count_ended past lane)) id r)

-- The request that the lane's runner asks.
abbrev pub request_of : List Entry → ℕ → ℕ → Asked → Entry
request_of past lane id a = own_request past lane id (request_with_handles a (answer past))

-- The plan that a runner follows from here: that of its call, or the rest after the reply that it awaited.
abbrev pub IsFrom : List Entry → Option Running → Call → Site → Facts → Plan → Type 0
IsFrom past running c site facts plan =
    (answers : Answers) → ExtendsAnswers (answer past) answers → (later : Own)
    → remaining_plan running c site facts later answers
    ≡ plan later answers

-- The same for the site that the cancelled call leaves.
abbrev pub LeavesFrom : List Entry → Option Running → Call → Site → Facts → SiteAfterCancel → Type 0
LeavesFrom past running c site facts leave =
    (answers : Answers) → ExtendsAnswers (answer past) answers → (later : Own)
    → site_if_cancelled running c site facts later answers
    ≡ leave later answers

-- The answer of a runner is the lane's move, and the lane's call then follows the rest of its plan.
abbrev pub StepsByMove : Setting → List Entry → ℕ → Next → Site → Type 0
StepsByMove s past lane (step.Ask a r) site =
    (move_of s past lane ≡ Some (Ask (request_with_handles a (answer past))))
    × ((id : ℕ) → IsFilled a (answer past) → RunTied s (request_of past lane id a ∷ past) lane (Some r) site)
StepsByMove s past lane (step.Wait r) site = RunTied s past lane (Some r) site
StepsByMove s past lane (step.Done o) site = move_of s past lane ≡ Some (Done o site)

-- It also leaves what a cancelled call leaves.
abbrev pub CancelSteps : Setting → List Entry → ℕ → Next → Site → Type 0
CancelSteps s past lane (step.Ask a r) site = (id : ℕ) → IsFilled a (answer past)
    → CancelTied s (request_of past lane id a ∷ past) lane (Some r) site
CancelSteps s past lane (step.Wait r) site = CancelTied s past lane (Some r) site
CancelSteps s past lane (step.Done o) site = Unit {0}
