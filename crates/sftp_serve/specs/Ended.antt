-- The reason why no further frame is served, and its status.
use Rattle.std.specs.Prelude.{ℕ}
use Rattle.sftp_link.specs.declared.device_error.DeviceError.{DeviceError}
use Rattle.sftp_link.specs.declared.device_error.DeviceError.TheVariants as device
use Rattle.sftp_serve.specs.declared.stop.Stop.{Stop}
use Rattle.sftp_serve.specs.declared.stop.Stop.TheVariants as stop

-- The status.
abbrev pub stop_status : Stop → ℕ
stop_status stop.Ended = 0
stop_status stop.Broken = 1
stop_status stop.Faulted = 3
stop_status stop.OutOfMemory = 5

-- The reason for a failed call of the link.
abbrev pub stop_of : DeviceError → Stop
stop_of device.OutOfMemory = stop.OutOfMemory
stop_of device.Failed = stop.Faulted
