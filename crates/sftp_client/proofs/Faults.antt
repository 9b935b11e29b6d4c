-- The link's count of faults, and the kept fault, over the calls of a session.
use Rattle.std.proofs.Common.{◌≡◌, ◌<◌, ◌-◌, ◌^◌, ℕ, ap, refl, subst, sym, inl, inr}
use Rattle.std.specs.Prelude.{Option, None, Result, Ok, Err, IsSome}
use Rattle.sftp_model.specs.declared.error.Error.{Error}
use Rattle.sftp_model.specs.declared.error.Error.TheVariants as error
use Rattle.sftp_model.specs.declared.error.Fault.{Fault}
use Rattle.sftp_core.specs.Core.{Core}
use Rattle.sftp_link.specs.Views.{LinkView}
use Rattle.sftp_client.specs.Sessions.{IsCaused, IsKept, SendStops, SftpValue, TakesOrKept, kept_after, with_queue_handed_out}
use Rattle.sftp_client.specs.Waits.{KeepsFaults, RoundFails}

-- the count of faults is the same, whatever the result
pub faults_kept : {V : Type 0} (result : Result V Error) (before now : ℕ) (kept : Option Fault) → now ≡ before
    → KeepsFaults before now kept result
faults_kept (Ok value) before now kept same = same
faults_kept (Err error.LinkFault) before now kept same = inl same
faults_kept (Err other) before now kept same = same

-- another core keeps the same fault
pub faults_as : {V : Type 0} (result : Result V Error) (before now : ℕ) (kept same : Option Fault) → same ≡ kept
    → KeepsFaults before now kept result → KeepsFaults before now same result
faults_as result before now kept same is h =
    subst (λ (f : Option Fault). KeepsFaults before now f result) (sym is) h

-- so the link may be called, unless a fault is kept
pub still_alive : (V : Type 0) (before now : ℕ) (kept : Option Fault) (e : Error)
    → KeepsFaults {V = V} before now kept (Err e) → before < 2 ^ 64 - 1 → kept ≡ None → now < 2 ^ 64 - 1
still_alive V before now kept error.LinkFault (inl same) few none = subst (λ (n : ℕ). n < 2 ^ 64 - 1) (sym same) few
still_alive V before now kept error.LinkFault (inr some) few none =
    (let never = subst (λ (f : Option Fault). IsSome f) none some in absurd cc)
still_alive V before now kept other same few none = subst (λ (n : ℕ). n < 2 ^ 64 - 1) (sym same) few

-- ---- the faults of the link after a round that went wrong

kept_faults : {L S : Type 0} (V : Type 0) (state : L → LinkView S) (old new : SftpValue L) (e : Error)
    → IsKept old new e
    → KeepsFaults {V = V} (state old.link).faults (state new.link).faults new.core.fault (Err e)
kept_faults V state old new (error.BackgroundTaskFailure fault) kept =
    ap (λ (x : SftpValue _). (state x.link).faults) kept.1
kept_faults V state old new other kept = absurd kept

-- a fault of the link is kept
caused_faults : {S : Type 0} (V : Type 0) (before now : LinkView S) (old new : Core) (e : Error)
    → IsCaused before now e → new ≡ kept_after e old
    → KeepsFaults {V = V} before.faults now.faults new.fault (Err e)
caused_faults V before now old new error.LinkFault caused is =
    inr (subst (λ (c : Core). IsSome c.fault) (sym is) refl)
caused_faults V before now old new other caused is = caused.cause

some_faults : {S : Type 0} (V : Type 0) (before now : LinkView S) (kept : Option Fault) (e : Error)
    → IsCaused before now e → IsSome kept → KeepsFaults {V = V} before.faults now.faults kept (Err e)
some_faults V before now kept error.LinkFault caused some = inr some
some_faults V before now kept other caused some = caused.cause

stops_faults : {L S : Type 0} (V : Type 0) (state : L → LinkView S) (old new : SftpValue L) (e : Error)
    → SendStops state old new e
    → KeepsFaults {V = V} (state old.link).faults (state new.link).faults new.core.fault (Err e)
stops_faults V state old new e stops =
    caused_faults V (state old.link) (state new.link) old.core new.core e stops.caused
    (ap (λ (x : SftpValue _). x.core) stops.left)

take_faults : {L S : Type 0} (V : Type 0) (state : L → LinkView S) (old new : SftpValue L) (e : Error)
    → TakesOrKept state old new (Err e)
    → KeepsFaults {V = V} (state old.link).faults (state new.link).faults new.core.fault (Err e)
take_faults V state old new e (inl kept) = kept_faults V state old new e kept
take_faults V state old new e (inr (none, inl stops)) = stops_faults V state old new e stops
take_faults V state old new e (inr (none, inr (due, inl stops))) =
    caused_faults V (state old.link) (state new.link) old.core new.core e stops.caused
    (ap (λ (x : SftpValue _). x.core) stops.left)
take_faults V state old new e (inr (none, inr (due, inr refuses))) =
    some_faults V (state old.link) (state new.link) new.core.fault e refuses.caused
    (subst (λ (c : Core). IsSome c.fault) (sym (ap (λ (x : SftpValue _). x.core) refuses.left)) refl)

round_faults : {L S : Type 0} (V : Type 0) (state : L → LinkView S) (old new : SftpValue L) (e : Error)
    → RoundFails state old new e
    → KeepsFaults {V = V} (state old.link).faults (state new.link).faults new.core.fault (Err e)
round_faults V state old new e (inl (inl kept)) = kept_faults V state old new e kept
round_faults V state old new e (inl (inr (none, inl stops))) = stops_faults V state old new e stops
round_faults V state old new e (inl (inr (none, inr (inl stops)))) =
    stops_faults V state (with_queue_handed_out old) new e stops
round_faults V state old new e (inl (inr (none, inr (inr (memory, sends))))) =
    faults_kept {V = V} (Err e) (state old.link).faults (state new.link).faults new.core.fault sends.unfaulted.cause
round_faults V state old new e (inr (mid, (sends, takes))) =
    subst (λ (n : ℕ). KeepsFaults {V = V} n (state new.link).faults new.core.fault (Err e)) sends.1.unfaulted.cause
    (take_faults V state mid new e takes)

-- and before that round the count was that of the beginning
pub stop_faults : {L S : Type 0} (V : Type 0) (state : L → LinkView S) (first : ℕ) (old new : SftpValue L) (e : Error)
    → (state old.link).faults ≡ first → RoundFails state old new e
    → KeepsFaults {V = V} first (state new.link).faults new.core.fault (Err e)
stop_faults V state first old new e same fails =
    subst (λ (n : ℕ). KeepsFaults {V = V} n (state new.link).faults new.core.fault (Err e)) same
    (round_faults V state old new e fails)
