-- The record of a half of a link that records no bytes and never fails.
use Rattle.std.specs.Prelude.{Bool, None}
use Rattle.sftp_link.specs.Views.{LinkView}

-- The record, by a flag that is true if its last call met the end.
abbrev pub silent_link : Bool → LinkView (Unit {0})
silent_link ended = record { log = None; faults = 0; ended = ended; service = tt }
