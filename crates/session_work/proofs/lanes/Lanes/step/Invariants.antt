use Rattle.std.proofs.Common.{◌≡◌}
use Rattle.session_laws.specs.Rest.{begun_of}
use Rattle.session_model.specs.Calls.{Setting}
use Rattle.session_work.specs.Noting.{HasCall, OthersRun, with_begun, turns_left}
use Rattle.session_work.specs.SoFar.{HasRoom, IsLeft}
use Rattle.session_work.specs.Working.{IsWorking, NotesNothing, contents_of, lane_in}
use Rattle.session_work.proofs.lanes.Lanes.step.Given as goal

-- the turns so far left no entry, and the lane has the call that it had
abbrev pub invariant-loop-moved : goal.invariant-loop-moved
invariant-loop-moved l =
    ((s : Setting) → IsWorking s l.fn.self → NotesNothing s (contents_of l.fn.self)
    (with_begun (begun_of (lane_in l.fn.self.states.items)) (contents_of l.self)))
    × HasCall (contents_of l.self) l.lane
    × ((lane_in l.self.states.items l.lane).ended ≡ l.number)
    × OthersRun (begun_of (lane_in l.fn.self.states.items)) l.lane l.self.states.items
    × HasRoom l.self
    × IsLeft l.fn.self l.self

abbrev pub decreases-loop-moved : goal.decreases-loop-moved
decreases-loop-moved l = turns_left (lane_in l.self.states.items l.lane)
