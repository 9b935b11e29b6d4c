-- Calls that are added to a lane of a session.
use Rattle.std.specs.Prelude.{◌≡◌, ◌≢◌, ◌⊎◌, ◌<◌, ◌≤◌, ℕ, true, false, length}
use Rattle.plan_model.specs.declared.call.Call.{Call}
use Rattle.plan_model.specs.Lanes.{are_ok}
use Rattle.session_model.specs.declared.entry.Entry.TheVariants as entry
use Rattle.session_model.specs.Journals.{IsNext}
use Rattle.session_model.specs.Readings.{was_let_go}
use Rattle.session_driver.specs.Adding.{with_call}
use Rattle.session_driver.specs.declared.session.Phase.TheVariants.{Failed}
use Rattle.session_driver.specs.Session.{IsLater}
use Rattle.session_work.specs.Adding.{added_in}
use Rattle.session_work.specs.Working.{contents_of, past_of}
use Rattle.sftp_lanes.specs.Seen.{SessionValue, setting_at}

-- A call may be appended to those of a lane: the lane exists and was not released, and the lanes with the call are
-- valid.
pub record CanAdd (lane : ℕ) (call : Call) (s : SessionValue) : Type 0 where
  pub there : lane < length s.work.calls
  pub held : was_let_go (past_of s.work) lane ≡ false
  pub ok : are_ok (with_call s.work.calls lane call) ≡ true

-- A call may not be appended: the lane doesn't exist, or it was released, or the lanes with the call are not valid.
abbrev pub CannotAdd : ℕ → Call → SessionValue → Type 0
CannotAdd lane call s =
    (length s.work.calls ≤ lane) ⊎ ((was_let_go (past_of s.work) lane ≡ true)
    ⊎ (are_ok (with_call s.work.calls lane call) ≡ false))

-- The lane and the journal have the call, and nothing else has changed.
pub record AddsCall (lane : ℕ) (call : Call) (old new : SessionValue) : Type 0 where
  pub unfailed : old.phase ≢ Failed
  pub rest : new ≡ record old { work = new.work }
  pub is : contents_of new.work ≡ added_in (contents_of old.work) lane call
  pub next : IsNext (setting_at old) (past_of old.work) (entry.Added lane call)
  pub later : IsLater (setting_at old) (past_of old.work) (past_of new.work)

-- Nothing has changed.
pub record IsSame (old new : SessionValue) : Type 0 where
  pub rest : new ≡ record old { work = new.work }
  pub contents : contents_of new.work ≡ contents_of old.work
