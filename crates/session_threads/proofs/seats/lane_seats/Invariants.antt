use Rattle.std.proofs.Common.{◌≡◌, length, map}
use Rattle.session_seats.specs.Closes.{claim_by, claims_of}
use Rattle.session_seats.specs.Covers.{HomeGave}
use Rattle.sftp_tasks.specs.Reported.{lane_named}
use Rattle.session_threads.specs.Crews.{lanes_below}
use Rattle.session_threads.specs.Running.{AllMadeNothing, AllReady, HasGiven}
use Rattle.session_threads.proofs.seats.lane_seats.Given as goal

abbrev pub invariant-loop : goal.invariant-loop
invariant-loop g l =
    HasGiven l.shared.shared.table.shared.table_id l.initial.home l.home
    × AllReady l.shared.shared.table.shared.table_id l.seats.items
    × HomeGave (claim_by l.home) (claims_of l.seats.items)
    × (map lane_named l.seats.items ≡ lanes_below l.counter)
    × (length l.seats.items ≡ l.counter)
    × AllMadeNothing l.seats.items
