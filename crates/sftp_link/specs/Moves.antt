-- The effect of one call of the environment, by the views of the object before it and after it.
use Rattle.std.specs.Prelude.{◌≡◌, ◌<◌, ◌≤◌, ℕ, false, List, length, Some, Result, IfOk}
use Rattle.sftp_link.specs.declared.device_error.DeviceError.{DeviceError}
use Rattle.sftp_link.specs.Causes.{CountsDeviceFault}
use Rattle.sftp_link.specs.Dialled.{IsEmptyLog}
use Rattle.sftp_link.specs.Told.{TellsRead, IsEnd, LogsReceive, TellsSend, TellsWrite}
use Rattle.sftp_link.specs.Views.{DialView, LastLink, LinkView, SinkView, SourceView}

-- ---- Links

-- A send: it took some bytes from the beginning of a piece, at least one, or it failed and took none. The service of
-- the link is unchanged.
pub record HasSent (Service : Type 0) (bytes : List ℕ) (before now : LinkView Service) (result : Result ℕ DeviceError) :
    Type 0 where
  pub within : IfOk result (λ n. (0 < n) × (n ≤ length bytes))
  pub log : TellsSend before.log now.log bytes result
  pub end : now.ended ≡ false
  pub cause : CountsDeviceFault before.faults now.faults result
  pub same : now.service ≡ before.service

-- A recv: some bytes came into the start of the room, none only at the end, or it failed and none came.
pub record HasReceived (Service : Type 0) (room : List ℕ) (before now : LinkView Service)
    (result : Result ℕ DeviceError) : Type 0 where
  pub within : IfOk result (λ n. n ≤ length room)
  pub log : LogsReceive before.log now.log room result
  pub end : IsEnd now.ended result
  pub cause : CountsDeviceFault before.faults now.faults result
  pub same : now.service ≡ before.service

-- ---- Sources and sinks

-- A read: some bytes came into the start of the room, none only if none was left, or it failed and none came.
pub record HasRead (room : List ℕ) (before now : SourceView) (result : Result ℕ DeviceError) : Type 0 where
  pub within : IfOk result (λ n. n ≤ length room)
  pub bytes : TellsRead before.left now.left room result
  pub cause : CountsDeviceFault before.faults now.faults result

-- A write: it took some bytes from the beginning of a piece, at least one of a piece that is not empty. Or it failed,
-- and the bytes that the sink reports did not grow.
pub record HasWritten (piece : List ℕ) (before now : SinkView) (result : Result ℕ DeviceError) : Type 0 where
  pub within : IfOk result (λ n. (0 < length piece → 0 < n) × (n ≤ length piece))
  pub bytes : TellsWrite before.written now.written piece result
  pub cause : CountsDeviceFault before.faults now.faults result

-- ---- Dials

-- A dial: it returned a link on which no call was made, or it failed and returned none. In both cases the history is
-- the one that this dial makes of the one before, and the link that was put back last is unchanged.
pub record HasDialled {End Service History : Type 0} (view : End → LinkView Service) (longer : History → History)
    (before now : DialView History) (result : Result End DeviceError) : Type 0 where
  pub log : IfOk result (λ link. IsEmptyLog (view link).log)
  pub unfailed : IfOk result (λ link. (view link).faults ≡ 0)
  pub end : IfOk result (λ link. (view link).ended ≡ false)
  pub last : now.last ≡ before.last
  pub history : now.history ≡ longer before.history
  pub cause : CountsDeviceFault before.faults now.faults result

-- A link was put back, which is now the last one. It was no dial.
pub record HasPutBack {History : Type 0} (link : LastLink) (before now : DialView History) : Type 0 where
  pub last : now.last ≡ Some link
  pub history : now.history ≡ before.history
  pub faults : now.faults ≡ before.faults
