-- What callers of directories keep from call to call.
use Rattle.std.proofs.Common.{◌≡◌, ◌∙◌, arith, refl, sym, subst, ℕ, true, Option, None, Some, Result, Ok, Err}
use Rattle.sftp_model.specs.declared.answers.Expected.TheVariants as expected
use Rattle.sftp_model.specs.declared.error.Error.{Error}
use Rattle.sftp_core.specs.Core.{Core, IsGrant, record_at}
use Rattle.sftp_core.specs.Grant.{GrantValue}
use Rattle.sftp_core.specs.declared.id_record.IdRecord.TheVariants.{Granted}
use Rattle.plan_state.specs.declared.poll.Poll.{Poll}
use Rattle.plan_state.specs.declared.poll.Poll.TheVariants as poll
use Rattle.plan_state.specs.declared.stage.Stage.{Stage}
use Rattle.plan_state.specs.declared.stage.Stage.TheVariants.{Ended, Ready, Unsent, Asked, Came}
use Rattle.plan_state.specs.Calls.{CallValue, CancelsAwaited, CountsGrant, HoldsReady, IsOver, core_after_cancel, is_ended}
use Rattle.plan_state.specs.Keeping.{KeepsHeld}
use Rattle.plan_state.specs.Runners.{Meaning}
use Rattle.plan_state.proofs.OthersKept.{grant_at, grant_kept}
use Rattle.sftp_fs.specs.Listings.{IsAwaiting, IsListing, ListingValue, fresh_listing}

-- giving up a call that has answered leaves the core
pub ended_leaves : (core : Core) (stage : Stage) → is_ended stage ≡ true → core_after_cancel core stage ≡ core
ended_leaves core Ended over = refl
ended_leaves core Ready over = absurd cc
ended_leaves core (Unsent asking) over = absurd cc
ended_leaves core (Asked ticket) over = absurd cc
ended_leaves core (Came told) over = absurd cc

-- so that it holds what belongs to the value
pub given_kept : {W M V : Type 0} (s : Meaning W M V) (old new : Core) (call : CallValue M)
    (result : Poll (Result V Error))
    → HoldsReady s old result → IsOver call.stage result → CancelsAwaited old new call.stage → HoldsReady s new result
given_kept s old new call poll.Pending holds over cancels = tt
given_kept s old new call (poll.Ready (Err e)) holds over cancels = tt
given_kept s old new call (poll.Ready (Ok value)) holds over cancels =
    subst (λ (x : Core). CountsGrant x (s.grant value)) (sym (cancels.core ∙ ended_leaves old call.stage over)) holds

-- a directory that was given is counted
pub dir_granted : (core : Core) (dir : GrantValue) → record_at core dir.id ≡ Some (Granted dir.handle 1)
    → IsGrant core dir
dir_granted core dir here = grant_at core dir 1 here (omega arith)

-- and may be listed
pub fresh_is_listing : (core : Core) (dir : GrantValue) → IsGrant core dir → IsListing core (fresh_listing dir)
fresh_is_listing core dir here = record { granted = here; awaits = tt }

awaits_still : (old new : Core) (p : ListingValue) → KeepsHeld old new → IsAwaiting old p.asked → IsAwaiting new p.asked
awaits_still old new p k h = awaits p.asked h
  where
    awaits : (asked : Option ℕ) → IsAwaiting old asked → IsAwaiting new asked
    awaits None h = tt
    awaits (Some ticket) h = k.holds ticket expected.Names h

-- others leave a listing
pub listing_still : (old new : Core) (p : ListingValue) → KeepsHeld old new → IsListing old p → IsListing new p
listing_still old new p k h =
    record { granted = grant_kept old new p.grant k.grants h.granted; awaits = awaits_still old new p k h.awaits }

pub ruleset directory_steps = (given_kept, dir_granted, fresh_is_listing, listing_still)
