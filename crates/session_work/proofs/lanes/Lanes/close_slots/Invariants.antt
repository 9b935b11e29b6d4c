use Rattle.std.proofs.Common.{◌≡◌, ◌<◌, ◌+◌, List, length}
use Rattle.std.specs.Prelude.{vec_len, vec_capacity}
use Rattle.session_model.specs.declared.entry.Entry.{Entry}
use Rattle.session_model.specs.Calls.{Setting}
use Rattle.session_laws.specs.Rest.{begun_of}
use Rattle.session_work.specs.Letting.{LettingLane}
use Rattle.session_work.specs.Reports.{LeavesReports}
use Rattle.session_work.specs.Working.{contents_of, lane_in}
use Rattle.session_work.proofs.lanes.Lanes.close_slots.Given as goal

abbrev pub invariant-loop-rest : goal.invariant-loop-rest
invariant-loop-rest l =
    (vec_len l.self.journal + length (lane_in l.self.states.items l.lane).grants < vec_capacity l.self.journal)
    × ((s : Setting) (before : List Entry) → LettingLane s before l.lane (contents_of l.fn.self) l.fn.slots
    → LettingLane s before l.lane (contents_of l.self) l.rest)
    × (begun_of (lane_in l.self.states.items) ≡ begun_of (lane_in l.fn.self.states.items))
    × LeavesReports l.fn.self l.self

abbrev pub decreases-loop-rest : goal.decreases-loop-rest
decreases-loop-rest l = length l.rest
