-- What begins a call of a lane is what begins the call of the plans that it is.
use Rattle.std.proofs.Common.{◌≡◌, ℕ, subst, sym, None, Ok, Err}
use Rattle.std.specs.Prelude.{IfOk, Result}
use Rattle.ssh_encoding.specs.declared.out_of_memory.OutOfMemory.{OutOfMemory}
use Rattle.sftp_model.specs.declared.outcome.Outcome.{Outcome}
use Rattle.sftp_model.specs.declared.slot.Facts.{Facts}
use Rattle.sftp_model.specs.declared.slot.Site.{Site}
use Rattle.plan_runner.specs.declared.next.Next.{Next}
use Rattle.plan_runner.specs.declared.next.Next.TheVariants as step
use Rattle.plan_runner.specs.Asking.{AwaitsAsked, BeginsAsking, OwnOn}
use Rattle.plan_runner.specs.Begun.{StartsAsPlanned}
use Rattle.plan_runner.proofs.OwnAsking.{own_begins}
use Rattle.plan_runner.specs.Runners.{BeginsByPlan, RunsByPlan, bytes_of}
use Rattle.plan_runner.specs.Cancelling.{BeginsLeaving, LeavesCancelled}
use Rattle.plan_runner.specs.Sound.{KeepsSite, KeepsRunningSound}
use Rattle.plan_runner.specs.Pending.{AwaitsNoMore, PendsAfter, pends_idle}
use Rattle.plan_model.specs.declared.call.Call.{Call}
use Rattle.session_work.specs.Turning.{BeginsLaneCall}
use Rattle.plan_model.specs.CallPlans.{site_after_cancel, next}

-- where it asks, waits or ends
pub begun : (c : Call) (p : Call) (place : ℕ) (old new : Site) (facts : Facts) (n : Next) → c ≡ p
    → BeginsByPlan p place old new facts n → BeginsLeaving p place old new facts n
    → KeepsRunningSound (bytes_of p) facts old new n
    → PendsAfter (pends_idle old) place new n → BeginsLaneCall c facts place old new n
begun c p place old new facts n is goes left sound pends = record {
  goes = subst (λ (q : Call). RunsByPlan (next q old facts) place (bytes_of q) new facts n) (sym is) goes;
  left = subst (λ (q : Call). LeavesCancelled (site_after_cancel q old facts) place (bytes_of q) new facts n) (sym is)
      left;
  sound = subst (λ (q : Call). KeepsRunningSound (bytes_of q) facts old new n) (sym is) sound;
  pends = pends;
}

-- the same where memory may be wanting
pub begun_if : (c : Call) (p : Call) (place : ℕ) (old new : Site) (facts : Facts) (n : Result Next OutOfMemory) → c ≡ p
    → IfOk n (StartsAsPlanned p place old new facts) → IfOk n (BeginsLaneCall c facts place old new)
begun_if c p place old new facts (Err e) is b = b
begun_if c p place old new facts (Ok n) is b = begun c p place old new facts n is b.goes b.left b.sound b.pends

-- where it ends at once
pub begun_local : (c : Call) (p : Call) (place : ℕ) (old new : Site) (facts : Facts) (o : Outcome) → c ≡ p
    → BeginsByPlan p place old new facts (step.Done o) → KeepsSite facts old new → AwaitsNoMore old new
    → BeginsLaneCall c facts place old new (step.Done o)
begun_local c p place old new facts o is goes keeps fewer = begun c p place old new facts (step.Done o) is goes tt
    (keeps, tt) fewer.each

-- a call of own requests asks what any call may ask
pub asks_if : (p : Call) (place : ℕ) (old new : Site) (facts : Facts) (n : Result Next OutOfMemory)
    → IfOk n (StartsAsPlanned p place old new facts) → IfOk n (BeginsAsking None place old new)
asks_if p place old new facts (Err e) b = b
asks_if p place old new facts (Ok n) b = own_begins None place old new n b.asks

-- and awaits just what it asks
pub own_first : (place : ℕ) (site : Site) (n : Next) → AwaitsAsked None place site n → OwnOn place n
own_first place site (step.Ask a r) asks = asks.awaits
own_first place site (step.Wait r) asks = asks
own_first place site (step.Done o) asks = tt

pub own_if : (p : Call) (place : ℕ) (old new : Site) (facts : Facts) (n : Result Next OutOfMemory)
    → IfOk n (StartsAsPlanned p place old new facts) → IfOk n (OwnOn place)
own_if p place old new facts (Err e) b = b
own_if p place old new facts (Ok n) b = own_first place old n b.asks
