-- What begins a call, where memory may be wanting: the five parts are one record.
use Rattle.std.proofs.Common.{ℕ, None, Ok, Err}
use Rattle.std.specs.Prelude.{IfOk, Result}
use Rattle.ssh_encoding.specs.declared.out_of_memory.OutOfMemory.{OutOfMemory}
use Rattle.sftp_model.specs.declared.slot.Facts.{Facts}
use Rattle.sftp_model.specs.declared.slot.Site.{Site}
use Rattle.plan_model.specs.declared.call.Call.{Call}
use Rattle.plan_runner.specs.Asking.{AwaitsAsked}
use Rattle.plan_runner.specs.Begun.{StartsAsPlanned}
use Rattle.plan_runner.specs.Cancelling.{BeginsLeaving}
use Rattle.plan_runner.specs.Runners.{BeginsByPlan, bytes_of}
use Rattle.plan_runner.specs.Pending.{PendsAfter, pends_idle}
use Rattle.plan_runner.specs.Sound.{KeepsRunningSound}
use Rattle.plan_runner.specs.declared.next.Next.{Next}

pub begun_if : (c : Call) (place : ℕ) (old new : Site) (facts : Facts) (n : Result Next OutOfMemory)
    → IfOk n (BeginsByPlan c place old new facts) → IfOk n (BeginsLeaving c place old new facts)
    → IfOk n (KeepsRunningSound (bytes_of c) facts old new) → IfOk n (PendsAfter (pends_idle old) place new)
    → IfOk n (AwaitsAsked None place old) → IfOk n (StartsAsPlanned c place old new facts)
begun_if c place old new facts (Err e) goes left sound pends asks = goes
begun_if c place old new facts (Ok n) goes left sound pends asks =
    record { goes = goes; left = left; sound = sound; pends = pends; asks = asks }
