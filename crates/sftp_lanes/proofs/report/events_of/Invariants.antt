use Rattle.std.proofs.Common.{◌≡◌, ◌≤◌, length}
use Rattle.std.specs.Prelude.{reverse, vec_capacity, vec_len}
use Rattle.session_model.specs.Readings.{trace_of}
use Rattle.sftp_lanes.proofs.report.events_of.Given as goal

abbrev pub invariant-loop-entry : goal.invariant-loop-entry
invariant-loop-entry l =
    (l.events.items ≡ trace_of (reverse l.yielded)) × (vec_len l.events ≤ length l.yielded)
    × (vec_capacity l.fn.empty ≤ vec_capacity l.events)
