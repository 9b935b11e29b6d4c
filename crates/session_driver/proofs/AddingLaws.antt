-- A call that is added and run is a part of a run.
use Rattle.std.proofs.Common.{◌≡◌, ℕ, List, ap, sym, subst, inr}
use Rattle.std.specs.Prelude.{Result, Ok}
use Rattle.sftp_model.specs.declared.error.Error.{Error}
use Rattle.sftp_link.specs.declared.piece.Piece.{Piece}
use Rattle.sftp_link.specs.Views.{LinkView}
use Rattle.plan_model.specs.declared.call.Call.{Call}
use Rattle.session_model.specs.Turns.{RunProgress}
use Rattle.session_driver.specs.Adding.{AddsTo, added_to, call_of}
use Rattle.session_driver.specs.Logs.{KeepsTrace}
use Rattle.session_driver.specs.Ongoing.{RunState, EndsLane, IsReady, AddsNothing, RunsPart, Part, run_state, lane_of}
use Rattle.session_driver.specs.RunsSoFar.{RoundsSoFar}
use Rattle.session_driver.specs.Session.{IsUnmoved, SessionView, StaysInPhase}
use Rattle.session_driver.proofs.Joining.{join, quiet, stays_hold, stays_self}

abbrev pub adding : ℕ → Call → Part
adding lane call = record { whole = λ s a b. b ≡ added_to a lane call; so_far = AddsNothing }

add_keeps : (lane : ℕ) (call : Call) (a b : RunProgress) → b ≡ added_to a lane call → (log : List Piece)
    → KeepsTrace a.past b.past log log
add_keeps lane call a b is log = subst (λ (w : RunProgress). KeepsTrace a.past w.past log log) (sym is)
    (λ hello first shown. shown)

pub add_on : {S : Type 0} (lane : ℕ) (call : Call) (a b : SessionView) (x : LinkView S) → AddsTo lane call a b
    → IsReady (run_state a x) → RunsPart (adding lane call) (run_state a x) (run_state b x) (Ok tt)
add_on lane call a b x t ready = quiet (adding lane call) a b x tt t.is t.goes
    (add_keeps lane call a.progress b.progress t.is) ready

pub call_is : {S : Type 0} (lane : ℕ) (call : Call) {a b c : RunState S} {result : Result (Unit {0}) Error}
    → RunsPart (adding lane call) a b (Ok tt) → RunsPart (lane_of lane) b c result
    → RunsPart (call_of lane call) a c result
call_is lane call {a = a} {b = b} {c = c} added went =
    join (λ u v. subst (λ (w : RunProgress). EndsLane a.seen.setting lane w c.seen.progress) u v)
    (λ u past part. inr (subst (λ (w : RunProgress). RoundsSoFar a.seen.setting lane w past) u part)) added went

-- there was no memory for the call
pub unmoved_self : (a b : SessionView) → b ≡ a → IsUnmoved a b
unmoved_self a b same = record {
  holds = stays_hold a b (subst (λ (w : SessionView). StaysInPhase a w) (sym same) (stays_self a));
  past = ap (λ (w : SessionView). w.progress.past) same;
}
