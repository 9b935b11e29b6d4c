-- The start of a call, for any call.
use Rattle.std.specs.Prelude.{ℕ, None}
use Rattle.sftp_model.specs.declared.slot.Facts.{Facts}
use Rattle.sftp_model.specs.declared.slot.Site.{Site}
use Rattle.plan_model.specs.declared.call.Call.{Call}
use Rattle.plan_runner.specs.Asking.{AwaitsAsked}
use Rattle.plan_runner.specs.Cancelling.{BeginsLeaving}
use Rattle.plan_runner.specs.Runners.{BeginsByPlan, bytes_of}
use Rattle.plan_runner.specs.Pending.{PendsAfter, pends_idle}
use Rattle.plan_runner.specs.Sound.{KeepsRunningSound}
use Rattle.plan_runner.specs.declared.next.Next.{Next}

-- The call follows its plan, and the site that it leaves if it is cancelled is that of its plan. It has the facts that
-- it needs to continue. It awaits no reply that was not awaited before, except the one to the request that it asks.
pub record StartsAsPlanned (c : Call) (place : ℕ) (old new : Site) (facts : Facts) (n : Next) : Type 0 where
  pub goes : BeginsByPlan c place old new facts n
  pub left : BeginsLeaving c place old new facts n
  pub sound : KeepsRunningSound (bytes_of c) facts old new n
  pub pends : PendsAfter (pends_idle old) place new n
  pub asks : AwaitsAsked None place old n
