-- believed
-- A session between two calls of the copier.
use Rattle.std.specs.Prelude.{◌≡◌, ◌<◌, ◌-◌, ◌^◌, Bool, None, Result, Ok, IsSome, OnOk}
use Rattle.sftp_core.specs.Info.{info_of}
use Rattle.sftp_link.specs.Views.{LinkView}
use Rattle.plan_state.specs.Keeping.{KeepsHeld}
use Rattle.sftp_client.specs.Sessions.{FlushesQueue, SftpValue, TakesOrKept}

-- It is open, and if it keeps no fault its link may be called.
pub record IsGoing {L S : Type 0} (state : L → LinkView S) (s : SftpValue L) : Type 0 where
  pub opened : IsSome (info_of s.core.phase)
  pub alive : s.core.fault ≡ None → (state s.link).faults < 2 ^ 64 - 1

-- The queued frames were sent, and a frame was taken if a sent request had no reply.
abbrev pub FlushesAndTakes : {L S : Type 0} → (L → LinkView S) → SftpValue L → SftpValue L → Type 0
FlushesAndTakes {L = L} state old new = (mid : SftpValue L) × (took : Bool) × FlushesQueue state old mid (Ok tt)
    × TakesOrKept state mid new (Ok took)

-- The session may continue whether or not the turn succeeded, and it still holds what it held.
pub record TookTurn {L S E : Type 0} (state : L → LinkView S) (old new : SftpValue L) (result : Result (Unit {0}) E) :
    Type 0 where
  pub going : IsGoing state new
  pub keeps : KeepsHeld old.core new.core
  pub turns : OnOk result (FlushesAndTakes state old new)
