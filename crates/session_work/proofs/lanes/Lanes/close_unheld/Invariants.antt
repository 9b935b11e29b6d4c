use Rattle.std.proofs.Common.{◌<◌, ◌+◌, List, length}
use Rattle.std.specs.Prelude.{vec_len, vec_capacity}
use Rattle.session_model.specs.declared.entry.Entry.{Entry}
use Rattle.session_model.specs.Calls.{Setting}
use Rattle.session_work.specs.Closing.{IsClosingLane}
use Rattle.session_work.specs.Reports.{LeavesReports}
use Rattle.session_work.specs.Working.{contents_of, lane_in}
use Rattle.session_work.proofs.ClosingLaws.{Goes}
use Rattle.session_work.proofs.lanes.Lanes.close_unheld.Given as goal

abbrev pub invariant-loop-k : goal.invariant-loop-k
invariant-loop-k l =
    (vec_len l.self.journal + length (lane_in l.self.states.items l.lane).grants < vec_capacity l.self.journal)
    × ((s : Setting) (before : List Entry) → IsClosingLane s before l.lane (contents_of l.fn.self)
    → Goes s before l.lane (contents_of l.fn.self) (contents_of l.self))
    × LeavesReports l.fn.self l.self

abbrev pub decreases-loop-k : goal.decreases-loop-k
decreases-loop-k l = length (lane_in l.self.states.items l.lane).grants
