-- What each entry makes of a lane's call, once for all calls.
use Rattle.std.proofs.Common.{append_assoc, ◌≡◌, ℕ, false, List, [], ◌∷◌, ◌++◌, Option, Some, None, refl, ap, sym, ◌∙◌, subst}
use Rattle.std.proofs.lemmas.List.{append-nil}
use Rattle.sftp_model.specs.declared.reply.Reply.{Reply}
use Rattle.sftp_model.specs.declared.request.Request.{Request}
use Rattle.sftp_model.specs.declared.slot.Facts.{Facts}
use Rattle.sftp_model.specs.declared.slot.Site.{Site}
use Rattle.plan_model.specs.Moves.{Answers, Plan, Own}
use Rattle.plan_model.specs.OwnRequests.{ExtendsAnswers}
use Rattle.plan_runner.specs.declared.next.Running.{Running}
use Rattle.plan_runner.specs.declared.next.Next.{Next}
use Rattle.plan_runner.specs.Runners.{residual, after, awaited_place, request_with_handles, RunsByPlan, AnswersWhileWaiting, bytes_of, idle}
use Rattle.plan_runner.proofs.GoingLaws.{residual_came, residual_missing, residual_none}
use Rattle.plan_model.specs.declared.call.Call.{Call}
use Rattle.session_model.specs.declared.event.Owner.{Owner}
use Rattle.session_model.specs.declared.event.Event.TheVariants.{Submit}
use Rattle.session_model.specs.declared.entry.Entry.{Entry}
use Rattle.session_model.specs.Readings.{count_submitted, answer, count_ended, own, is_by}
use Rattle.session_model.specs.Calls.{Setting, current, site_of, move_of, move_at}
use Rattle.session_model.proofs.CallLaws.{own_submit, own_other}
use Rattle.session_laws.specs.Running.{RunTied, IsFrom, StepsByMove, remaining_plan, request_of}
use Rattle.plan_runner.specs.declared.next.Next.TheVariants as step
use Rattle.session_model.specs.declared.entry.Entry.TheVariants as entry
use Rattle.plan_model.specs.CallPlans.{next}

pub extends_self : (answers : Answers) → ExtendsAnswers answers answers
extends_self answers place r e = e

-- ---- a lane's move

-- the move of a call is what is left of its plan, at the replies so far
pub move_left : (s : Setting) (past : List Entry) (lane : ℕ) (running : Option Running) (site : Site) (c : Call)
    → RunTied s past lane running site → current s past lane ≡ Some c → move_of s past lane
    ≡ Some (remaining_plan running c site s.facts [] (answer past))
move_left s past lane running site c tied is =
    ap (λ x. move_at x (site_of s past lane) s.facts (own past lane (count_ended past lane)) (answer past)) is
    ∙ ap (λ m. Some m) (ap (λ (o : Own). next c (site_of s past lane) s.facts o (answer past))
    (sym (append-nil (own past lane (count_ended past lane))))
    ∙ tied c is (answer past) (extends_self (answer past)) [])

-- a call that was not begun
pub tied_idle : (s : Setting) (past : List Entry) (lane : ℕ) (site : Site) → own past lane (count_ended past lane) ≡ []
    → site
    ≡ site_of s past lane → RunTied s past lane None site
tied_idle s past lane site none same c is answers known later = rw (none, same) refl

-- ---- what others do

-- an entry that leaves the lane's readings, and no reply away
pub tied_by : (s : Setting) (past now : List Entry) (lane : ℕ) (running : Option Running) (site : Site)
    → current s now lane ≡ current s past lane → site_of s now lane ≡ site_of s past lane
    → own now lane (count_ended now lane) ≡ own past lane (count_ended past lane)
    → ExtendsAnswers (answer past) (answer now) → RunTied s past lane running site → RunTied s now lane running site
tied_by s past now lane running site ec es eo grows tied c is answers known later =
    ap (λ (x : Site). next c x s.facts (own now lane (count_ended now lane) ++ later) answers) es
    ∙ (ap (λ (o : Own). next c (site_of s past lane) s.facts (o ++ later) answers) eo
    ∙ tied c (sym ec ∙ is) answers (λ place r e. known place r (grows place r e)) later)

-- another's request
pub tied_other : (s : Setting) (past : List Entry) (lane id : ℕ) (by : Owner) (r : Request) (running : Option Running)
    (site : Site) → is_by by lane (count_ended past lane) ≡ false → RunTied s past lane running site
    → RunTied s (entry.Event (Submit by id r) ∷ past) lane running site
tied_other s past lane id by r running site other tied =
    tied_by s past (entry.Event (Submit by id r) ∷ past) lane running site refl refl
    (own_other past by id r lane (count_ended past lane) other) (λ place q e. e) tied

-- ---- what the lane's runner does

pub from_reply : (past : List Entry) (running : Running) (c : Call) (site : Site) (facts : Facts) (p : ℕ) (y : Reply)
    → awaited_place running site ≡ Some p → answer past p ≡ Some y →
    IsFrom past (Some running) c site facts (after running (bytes_of c) site facts (Some y))
from_reply past running c site facts p y at got answers known later =
    residual_came running (bytes_of c) site facts later answers p y at (known p y got)

pub from_none : (past : List Entry) (running : Running) (c : Call) (site : Site) (facts : Facts)
    → awaited_place running site
    ≡ None → IsFrom past (Some running) c site facts (after running (bytes_of c) site facts None)
from_none past running c site facts at answers known later =
    residual_none running (bytes_of c) site facts later answers at

-- an Ask, a wait for another reply, and an end, once for all calls
pub steps : (s : Setting) (past : List Entry) (lane : ℕ) (running : Option Running) (site later : Site) (c : Call)
    (plan : Plan) (n : Next) → RunTied s past lane running site → current s past lane ≡ Some c
    → IsFrom past running c site s.facts plan → RunsByPlan plan (count_submitted past) (bytes_of c) later s.facts n
    → StepsByMove s past lane n later
steps s past lane running site later c plan (step.Ask a r) tied is from goes =
    let now : Answers = answer past in (
      move_left s past lane running site c tied is ∙ ap (λ m. Some m) (from now (extends_self now) [] ∙ (goes now).0),
      λ id stays d same answers known more.
          (let q : Request = request_with_handles a now in
          let new : ℕ × Request = (count_submitted past, q) in
          let mine : Own = own past lane (count_ended past lane) in
          let here : c ≡ d = cc in
          let grown : own (request_of past lane id a ∷ past) lane (count_ended past lane) ≡ mine ++ new ∷ [] =
          own_submit past lane (count_ended past lane) id q in
          ap (λ (o : Own). next d (site_of s past lane) s.facts (o ++ more) answers) grown
          ∙ (ap (λ (o : Own). next d (site_of s past lane) s.facts o answers) (append_assoc mine (new ∷ []) more)
          ∙ (tied d same answers known (new ∷ more)
          ∙ subst (λ (x : Call). remaining_plan running x site s.facts (new ∷ more) answers
          ≡ residual r (bytes_of x) later s.facts more answers) here
          (from answers known (new ∷ more) ∙ (ap (λ (x : Request). plan ((count_submitted past, x) ∷ more) answers)
          (sym (stays answers known)) ∙ (goes answers).1 more))))),
    )
steps s past lane running site later c plan (step.Wait r) tied is from goes = λ d same answers known more.
    (let here : c ≡ d = cc in
    tied d same answers known more ∙ subst (λ (x : Call). remaining_plan running x site s.facts more answers
    ≡ residual r (bytes_of x) later s.facts more answers) here (from answers known more ∙ goes answers more))
steps s past lane running site later c plan (step.Done o) tied is from goes =
    let now : Answers = answer past in
    move_left s past lane running site c tied is ∙ ap (λ m. Some m) (from now (extends_self now) [] ∙ goes now)

-- the reply that is awaited did not come: the call does what it does meanwhile
pub waits : (s : Setting) (past : List Entry) (lane : ℕ) (running : Running) (site : Site) (c : Call) (p : ℕ)
    → RunTied s past lane (Some running) site → current s past lane ≡ Some c → awaited_place running site ≡ Some p
    → answer past p ≡ None
    → move_of s past lane ≡ Some (idle running (bytes_of c) site s.facts [] (answer past))
waits s past lane running site c p tied is at none =
    move_left s past lane (Some running) site c tied is ∙ ap (λ m. Some m)
    (residual_missing running (bytes_of c) site s.facts [] (answer past) p at none)

-- what the call answers meanwhile
pub widens : (s : Setting) (past : List Entry) (lane : ℕ) (running : Running) (site : Site) (c : Call) (p : ℕ)
    (n : Next) → RunTied s past lane (Some running) site → current s past lane ≡ Some c → awaited_place running site
    ≡ Some p
    → answer past p ≡ None
    → AnswersWhileWaiting running (count_submitted past) (bytes_of c) site s.facts n → StepsByMove s past lane n site
widens s past lane running site c p (step.Ask a r) tied is at none goes =
    let now : Answers = answer past in (
      waits s past lane running site c p tied is at none ∙ ap (λ m. Some m) (goes now).0,
      λ id stays d same answers known more.
          (let q : Request = request_with_handles a now in
          let mine : Own = own past lane (count_ended past lane) in
          let here : c ≡ d = cc in
          let grown : own (request_of past lane id a ∷ past) lane (count_ended past lane) ≡ mine
          ++ (count_submitted past, q) ∷ [] =
          own_submit past lane (count_ended past lane) id q in
          ap (λ (o : Own). next d (site_of s past lane) s.facts (o ++ more) answers) grown
          ∙ (ap (λ (o : Own). next d (site_of s past lane) s.facts o answers)
          (append_assoc mine ((count_submitted past, q) ∷ []) more)
          ∙ (tied d same answers known ((count_submitted past, q) ∷ more)
          ∙ subst (λ (x : Call). residual running (bytes_of x) site s.facts ((count_submitted past, q) ∷ more) answers
          ≡ residual r (bytes_of x) site s.facts more answers) here
          (ap (λ (x : Request). residual running (bytes_of c) site s.facts ((count_submitted past, x) ∷ more) answers)
          (sym (stays answers known)) ∙ (goes answers).1 more)))),
    )
widens s past lane running site c p (step.Wait r) tied is at none goes =
    subst (λ (x : Running). RunTied s past lane (Some x) site) (sym goes.0) tied
widens s past lane running site c p (step.Done o) tied is at none goes =
    waits s past lane running site c p tied is at none ∙ ap (λ m. Some m) (goes (answer past))
