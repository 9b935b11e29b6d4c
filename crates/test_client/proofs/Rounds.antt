-- What a flush and a take leave of a session's core.
use Rattle.std.proofs.Common.{inl, inr}
use Rattle.std.specs.Prelude.{Bool, Ok, Err, IsSome}
use Rattle.sftp_core.specs.Core.{Core}
use Rattle.sftp_core.specs.Info.{info_of}
use Rattle.sftp_link.specs.Views.{LinkView}
use Rattle.sftp_model.specs.declared.error.Error.{Error}
use Rattle.plan_state.specs.Keeping.{KeepsHeld}
use Rattle.sftp_client.specs.Sessions.{FlushesQueue, SftpValue, TakesOrKept}
use Rattle.sftp_buffered.specs.Buffered.{CompatValue, IsSound}
use Rattle.sftp_buffered.proofs.Keeping.{kept_sound}
use Rattle.sftp_client.proofs.Waiting.{fail_stays, round_stays}

pub flush_stops : {L S : Type 0} (state : L → LinkView S) (old new : SftpValue L) (e : Error)
    → IsSome (info_of old.core.phase)
    → FlushesQueue state old new (Err e) → KeepsHeld old.core new.core
flush_stops state old new e opened h = fail_stays state old new e opened (inl h)

pub take_stops : {L S : Type 0} (state : L → LinkView S) (old mid new : SftpValue L) (e : Error)
    → IsSome (info_of old.core.phase)
    → FlushesQueue state old mid (Ok tt) → TakesOrKept state mid new (Err e) → KeepsHeld old.core new.core
take_stops state old mid new e opened h t = fail_stays state old new e opened (inr (mid, (h, t)))

pub round_goes : {L S : Type 0} (state : L → LinkView S) (old mid new : SftpValue L) (took : Bool)
    → IsSome (info_of old.core.phase)
    → FlushesQueue state old mid (Ok tt) → TakesOrKept state mid new (Ok took) → KeepsHeld old.core new.core
round_goes state old mid new took opened h t =
    round_stays state old new opened (record { mid = mid; took = took; sends = h; takes = t })

pub sound_stays : (old new : Core) (c : CompatValue) → KeepsHeld old new → IsSound old c → IsSound new c
sound_stays old new c keeps sound = kept_sound old new c keeps sound
