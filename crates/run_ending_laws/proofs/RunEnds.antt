-- Behind a whole run each call has its outcome.
use Rattle.std.proofs.Common.{◌≡◌, ◌<◌, ◌≤◌, ℕ, zero, suc, List, [], ◌∷◌, length, Option, Some, None, refl, ap, sym, subst, arith}
use Rattle.std.specs.Prelude.{slice_get}
use Rattle.sftp_model.specs.declared.outcome.Outcome.{Outcome}
use Rattle.plan_model.specs.declared.call.Call.{Call}
use Rattle.plan_model.specs.declared.call.Lane.{Lane}
use Rattle.session_model.specs.declared.entry.Entry.{Entry}
use Rattle.session_model.specs.declared.entry.Entry.TheVariants as entry
use Rattle.session_model.specs.declared.turn.Turn.{Turn}
use Rattle.session_model.specs.Calls.{Setting, calls_of, current, lane_calls}
use Rattle.session_model.specs.Readings.{count_ended, outcomes_of}
use Rattle.session_model.specs.Runs.{IsRun, LetsGoTo}
use Rattle.session_model.specs.Turns.{RunProgress, is_full}
use Rattle.session_model.proofs.WholeRunLaws.{Keeps, closes_keep, drains_pass, ends_pass, sends_keep}
use Rattle.run_laws.specs.ReadsBack.{call_in, calls_in}
use Rattle.run_laws.specs.RoundTrips.{outcome_at}
use Rattle.run_laws.proofs.CallEnds.{outcomes_count}
use Rattle.run_laws.proofs.HandedLanes.{AreHandedIn}
use Rattle.run_ending_laws.proofs.AloneTurns.{got_beyond}

idle_lets_go : (s : Setting) (n : ℕ) (before now : RunProgress) (lane : ℕ) → LetsGoTo s n before now
    → current s before.past lane ≡ None → current s now.past lane ≡ None
idle_lets_go s zero before now lane e none = subst (λ (w : RunProgress). current s w.past lane ≡ None) (sym e) none
idle_lets_go s (suc n) before now lane to none =
    let mid : current s to.0.past lane ≡ None = idle_lets_go s n before to.0 lane to.1.0 none in
    let first : List Entry = entry.LetGo n ∷ to.0.past in
    let rules = to.1.1.1 in
    let closing : Keeps s first rules.0 = closes_keep s first rules.0 rules.1.0.0 in
    let sending : Keeps s rules.0 now.past = sends_keep s rules.0 now.past (is_full s rules.0) rules.1.1 in
    sending.idle lane (closing.idle lane mid)

-- no lane has a call left
pub idle_at_end : (s : Setting) (turns : List Turn) (past : List Entry) (lane : ℕ) → IsRun s turns past
    → lane < length s.lanes → current s past lane ≡ None
idle_at_end s turns past lane (at, (by, is)) lt =
    subst (λ (p : List Entry). current s p lane ≡ None) is
    (Keeps.idle (drains_pass s by.drains.0 at.let_go at.drained by.drains.1).keeps lane
    (idle_lets_go s (length s.lanes) at.ended at.let_go lane by.lets_go
    ((ends_pass s (length s.lanes) at.turned at.ended by.ends).1 lane lt)))

got_some : {A : Type 0} (xs : List A) (n : ℕ) → n < length xs → (x : A) × (slice_get xs n ≡ Some x)
got_some [] n lt = absurd (omega (arith, lt))
got_some (x ∷ xs) zero lt = (x, refl)
got_some (x ∷ xs) (suc n) lt = got_some xs n (omega (arith, lt))

got_under : {A : Type 0} (xs : List A) (n : ℕ) (x : A) → slice_get xs n ≡ Some x → n < length xs
got_under [] n x e = absurd cc
got_under (y ∷ xs) zero x e = omega arith
got_under (y ∷ xs) (suc n) x e = (let more = got_under xs n x e in omega (arith, more))

pub lane_under : (lanes : List Lane) (lane k : ℕ) (c : Call) → call_in lanes lane k ≡ Some c → lane < length lanes
lane_under lanes lane k c e = by_lane (slice_get lanes lane) refl e
  where
    by_lane : (o : Option Lane) → slice_get lanes lane ≡ o → slice_get (calls_of o) k ≡ Some c → lane < length lanes
    by_lane None is e = absurd cc
    by_lane (Some l) is e = got_under lanes lane l is

pub outcome_there : (lanes : List Lane) (s : Setting) (turns : List Turn) (past : List Entry) (lane k : ℕ) (c : Call)
    → IsRun s turns past → s.lanes ≡ lanes
    → AreHandedIn lanes s past → call_in lanes lane k ≡ Some c → (o : Outcome) × (outcome_at past lane k ≡ Some o)
outcome_there lanes s turns past lane k c run given are e =
    let lt : lane < length s.lanes = subst (λ (l : List Lane). lane < length l) (sym given)
    (lane_under lanes lane k c e) in
    let all : length (lane_calls s past lane) ≤ count_ended past lane =
    got_beyond (lane_calls s past lane) (count_ended past lane) (idle_at_end s turns past lane run lt) in
    let within : k < length (calls_in lanes lane) = got_under (calls_in lanes lane) k c e in
    let same : length (lane_calls s past lane) ≡ length (calls_in lanes lane) = ap length (are lane) in
    let count : length (outcomes_of past lane) ≡ count_ended past lane = outcomes_count past lane in
    got_some (outcomes_of past lane) k (omega (arith, all, within, same, count))
