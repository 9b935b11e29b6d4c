-- What a cancelled call leaves, once for all calls.
use Rattle.std.proofs.Common.{append_assoc, ◌≡◌, ℕ, List, [], ◌∷◌, ◌++◌, Option, Some, None, refl, ap, sym, ◌∙◌, subst}
use Rattle.std.proofs.lemmas.List.{append-nil}
use Rattle.sftp_model.specs.declared.request.Request.{Request}
use Rattle.sftp_model.specs.declared.slot.Site.{Site}
use Rattle.plan_model.specs.OwnRequests.{ExtendsAnswers}
use Rattle.plan_model.specs.Moves.{Own}
use Rattle.plan_runner.specs.declared.next.Running.{Running}
use Rattle.plan_runner.specs.declared.next.Next.{Next}
use Rattle.plan_runner.specs.Cancelling.{left_behind, LeavesCancelled, SiteAfterCancel}
use Rattle.plan_runner.specs.Runners.{bytes_of, request_with_handles}
use Rattle.plan_model.specs.declared.call.Call.{Call}
use Rattle.session_model.specs.declared.entry.Entry.{Entry}
use Rattle.session_model.specs.Readings.{count_submitted, answer, count_ended, own}
use Rattle.session_model.specs.Calls.{Setting, current, site_of}
use Rattle.session_model.proofs.CallLaws.{own_submit}
use Rattle.session_laws.specs.Running.{CancelSteps, LeavesFrom, CancelTied, site_if_cancelled, request_of}
use Rattle.session_laws.proofs.RunningLaws.{extends_self}
use Rattle.plan_runner.specs.declared.next.Next.TheVariants as step
use Rattle.plan_model.specs.CallPlans.{site_after_cancel}

pub cancel_idle : (s : Setting) (past : List Entry) (lane : ℕ) (site : Site) → own past lane (count_ended past lane)
    ≡ []
    → site ≡ site_of s past lane → CancelTied s past lane None site
cancel_idle s past lane site none same c is answers known later = rw (none, same) refl

pub cancel_by : (s : Setting) (past now : List Entry) (lane : ℕ) (running : Option Running) (site : Site)
    → current s now lane ≡ current s past lane → site_of s now lane ≡ site_of s past lane
    → own now lane (count_ended now lane) ≡ own past lane (count_ended past lane)
    → ExtendsAnswers (answer past) (answer now) → CancelTied s past lane running site
    → CancelTied s now lane running site
cancel_by s past now lane running site ec es eo grows tied c is answers known later =
    ap (λ (x : Site). site_after_cancel c x s.facts (own now lane (count_ended now lane) ++ later) answers) es
    ∙ (ap (λ (o : Own). site_after_cancel c (site_of s past lane) s.facts (o ++ later) answers) eo
    ∙ tied c (sym ec ∙ is) answers (λ place r e. known place r (grows place r e)) later)

pub cancel_steps : (s : Setting) (past : List Entry) (lane : ℕ) (running : Option Running) (site later : Site)
    (c : Call) (leave : SiteAfterCancel) (n : Next) → CancelTied s past lane running site → current s past lane ≡ Some c
    → LeavesFrom past running c site s.facts leave → LeavesCancelled leave (count_submitted past) (bytes_of c) later
    s.facts n → CancelSteps s past lane n later
cancel_steps s past lane running site later c leave (step.Ask a r) tied is from leaves =
    λ id stays d same answers known more.
    (let q : Request = request_with_handles a (answer past) in
    let new : ℕ × Request = (count_submitted past, q) in
    let mine : Own = own past lane (count_ended past lane) in
    let here : c ≡ d = cc in
    let grown : own (request_of past lane id a ∷ past) lane (count_ended past lane) ≡ mine ++ new ∷ [] =
    own_submit past lane (count_ended past lane) id q in
    ap (λ (o : Own). site_after_cancel d (site_of s past lane) s.facts (o ++ more) answers) grown
    ∙ (ap (λ (o : Own). site_after_cancel d (site_of s past lane) s.facts o answers) (append_assoc mine (new ∷ []) more)
    ∙ (tied d same answers known (new ∷ more)
    ∙ subst (λ (x : Call). site_if_cancelled running x site s.facts (new ∷ more) answers
    ≡ left_behind r (bytes_of x) later s.facts more answers) here
    (from answers known (new ∷ more) ∙ (ap (λ (x : Request). leave ((count_submitted past, x) ∷ more) answers)
    (sym (stays answers known)) ∙ leaves answers more)))))
cancel_steps s past lane running site later c leave (step.Wait r) tied is from leaves = λ d same answers known more.
    (let here : c ≡ d = cc in
    tied d same answers known more ∙ subst (λ (x : Call). site_if_cancelled running x site s.facts more answers
    ≡ left_behind r (bytes_of x) later s.facts more answers) here (from answers known more ∙ leaves answers more))
cancel_steps s past lane running site later c leave (step.Done o) tied is from leaves = tt

-- what the Cancel of a lane leaves
pub cancel_leaves : (s : Setting) (past : List Entry) (lane : ℕ) (running : Option Running) (site : Site) (c : Call)
    → CancelTied s past lane running site → current s past lane ≡ Some c
    → site_after_cancel c (site_of s past lane) s.facts (own past lane (count_ended past lane)) (answer past)
    ≡ site_if_cancelled running c site s.facts [] (answer past)
cancel_leaves s past lane running site c tied is =
    ap (λ (o : Own). site_after_cancel c (site_of s past lane) s.facts o (answer past))
    (sym (append-nil (own past lane (count_ended past lane)))) ∙ tied c is (answer past) (extends_self (answer past)) []
