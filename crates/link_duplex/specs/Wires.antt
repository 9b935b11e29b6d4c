-- The view of a wire, and the effect of one call on it.
use Rattle.std.specs.Prelude.{◌≡◌, ◌<◌, ◌≤◌, ℕ, List, ◌∷◌, length, take, Option, Some, None, Result, Ok, Err, IfOk, IfSome}
use Rattle.sftp_link.specs.Causes.{CountsDeviceFault}
use Rattle.sftp_link.specs.Told.{LogsNothing, IfLogged}
use Rattle.sftp_link.specs.declared.device_error.DeviceError.{DeviceError}
use Rattle.sftp_link.specs.declared.device_error.DeviceError.TheVariants.{Failed}
use Rattle.link_duplex.specs.WireSteps.{WireStep, Put, Got, Waited}
use Rattle.link_duplex.specs.declared.wire.Readiness.{Readiness}

-- A wire: its steps, the newest first, if it reports them, and how often it failed.
pub record WireView : Type 0 where
  pub log : Option (List WireStep)
  pub faults : ℕ

-- The log has another step.
abbrev pub LogsStep : WireStep → List WireStep → List WireStep → Type 0
LogsStep step before now = now ≡ step ∷ before

-- The log after a put: the first n bytes were put, or none could be put now, or it failed.
abbrev pub LogsPut : Option (List WireStep) → Option (List WireStep) → List ℕ → Result (Option ℕ) DeviceError → Type 0
LogsPut before now bytes (Ok (Some n)) = IfLogged (LogsStep (Put (take n bytes))) before now
LogsPut before now bytes (Ok None) = IfLogged LogsNothing before now
LogsPut before now bytes (Err e) = IfLogged LogsNothing before now

-- The log after a get: n bytes were got, which are at the start of the room, or none had come, or it failed.
abbrev pub LogsGet : Option (List WireStep) → Option (List WireStep) → List ℕ → Result (Option ℕ) DeviceError → Type 0
LogsGet before now room (Ok (Some n)) = IfLogged (LogsStep (Got (take n room))) before now
LogsGet before now room (Ok None) = IfLogged LogsNothing before now
LogsGet before now room (Err e) = IfLogged LogsNothing before now

-- A put: it took bytes from the beginning of a piece, at least one, or none, or it failed.
pub record HasPut (bytes : List ℕ) (before now : WireView) (result : Result (Option ℕ) DeviceError) : Type 0 where
  pub within : IfOk result (λ put. IfSome put (λ n. (0 < n) × (n ≤ length bytes)))
  pub log : LogsPut before.log now.log bytes result
  pub cause : CountsDeviceFault before.faults now.faults result

-- A get: bytes came into the start of the room, or none had come, or it failed.
pub record HasGot (room : List ℕ) (before now : WireView) (result : Result (Option ℕ) DeviceError) : Type 0 where
  pub within : IfOk result (λ got. IfSome got (λ n. n ≤ length room))
  pub log : LogsGet before.log now.log room result
  pub cause : CountsDeviceFault before.faults now.faults result

-- A wait, whether or not it failed.
pub record HasWaited (readiness : Readiness) (before now : WireView) (result : Result (Unit {0}) DeviceError) : Type 0
  where
    pub log : IfLogged (LogsStep (Waited readiness)) before.log now.log
    pub cause : CountsDeviceFault before.faults now.faults result

-- A fault of the caller was counted, and no step was made.
pub record HasGivenUp (before now : WireView) (error : DeviceError) : Type 0 where
  pub is : error ≡ Failed
  pub log : now.log ≡ before.log
  pub more : before.faults < now.faults
