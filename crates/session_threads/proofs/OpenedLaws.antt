-- A run whose session was opened.
use Rattle.std.proofs.Common.{◌≡◌, ◌∙◌, List, subst, inr, Ok, Err, ℕ}
use Rattle.std.specs.Prelude.{IfErr, IfOk, Result, reverse}
use Rattle.plan_model.specs.declared.call.Lane.{Lane}
use Rattle.session_seats.specs.declared.view.Sight.{Sight}
use Rattle.session_seats.specs.Holds.{sight_by}
use Rattle.sftp_link.specs.Views.{LinkView}
use Rattle.sftp_model.specs.declared.error.Error.{Error}
use Rattle.sftp_model.specs.declared.options.SftpOptions.{SftpOptions}
use Rattle.sftp_tasks.specs.declared.report.SharedReport.{SharedReport}
use Rattle.sftp_tasks.specs.Rounds.{Token}
use Rattle.sftp_tasks.specs.Sent.{SeesVersion}
use Rattle.session_threads.specs.Reports.{Ended, SendsHelloFirst, RunsOf, RunsShared, StopsBy, WorkersEnd, WorkersStop}
use Rattle.session_threads.specs.RunEnds.{IsEnded}
use Rattle.session_threads.specs.Running.{IsOf, SameMade}
use Rattle.session_threads.proofs.HalfLaws.{halves_show}
use Rattle.session_threads.proofs.RunReports.{runs_made}

pub runs_if : (lanes : List Lane) (options : SftpOptions) (first last : Sight) (r : Result SharedReport Error)
    → IsOf lanes options first → SameMade first last
    → IfOk r (RunsOf last) → IfOk r (RunsShared lanes options)
runs_if lanes options first last (Ok report) is same h = runs_made lanes options first last report is same h
runs_if lanes options first last (Err e) is same h = tt

pub over_if : (n m : ℕ) (r : Result SharedReport Error) → n ≡ m
    → IfOk r (λ report. IsEnded n (reverse report.journal.items))
    → IfOk r (λ report. IsEnded m (reverse report.journal.items))
over_if n m r same h = subst (λ (k : ℕ). IfOk r (λ report. IsEnded k (reverse report.journal.items))) same h

module _ {A B : Type 0} (out out_then out' : LinkView A) (input input_then input' : LinkView B) (home : Token) where
  -- the worker that sends saw the VERSION that the home seat took
  pub ends_if : (m : Token) (r : Result SharedReport Error) → (o : SendsHelloFirst home out out_then input input_then)
      → SeesVersion o.1.hello (sight_by m) → IfOk r (WorkersEnd out_then out' input_then input' m)
      → IfOk r (Ended out out' input input')
  ends_if m (Ok report) o sees h = record {
    home = home;
    out_then = out_then;
    input_then = input_then;
    opens = o;
    sent = h.sent;
    got = h.got;
    shown = halves_show o.0 home report out out_then out' input input_then input' o.1 h.shown (h.hello o.1.hello sees);
  }
  ends_if m (Err e) o sees h = tt

  pub stops_if : (lanes : List Lane) (options : SftpOptions) (first last : Sight) (r : Result SharedReport Error)
      → IsOf lanes options first → SameMade first last → SendsHelloFirst home out out_then input input_then
      → IfErr r (WorkersStop out_then out' input_then input' last.lanes last.options)
      → IfErr r (StopsBy lanes options out out' input input')
  stops_if lanes options first last (Ok report) is same o h = tt
  stops_if lanes options first last (Err e) is same o h =
      let stops = subst (λ (x : List Lane × SftpOptions). WorkersStop out_then out' input_then input' x.0 x.1 e)
      (λ i. ((same.0 ∙ is.0) i, (same.1 ∙ is.1) i)) h in
      inr (home, (out_then, (input_then, (o, stops))))
