use Rattle.std.proofs.Common.{◌≡◌, ◌<◌, None, length}
use Rattle.session_model.specs.Calls.{Setting}
use Rattle.session_work.specs.Reports.{reports_of}
use Rattle.session_work.specs.Working.{IsWorking, NotesNothing, contents_of, lane_in}
use Rattle.session_work.proofs.lanes.Lanes.forget_unawaited.Given as goal

abbrev pub invariant-loop-k : goal.invariant-loop-k
invariant-loop-k l =
    (l.lane < length l.self.states.items)
    × ((lane_in l.self.states.items l.lane).running ≡ None)
    × ((s : Setting) → IsWorking s l.fn.self → NotesNothing s (contents_of l.fn.self) (contents_of l.self))
    × (l.self.journal ≡ l.fn.self.journal)
    × (reports_of l.self ≡ reports_of l.fn.self)

abbrev pub decreases-loop-k : goal.decreases-loop-k
decreases-loop-k l = length (lane_in l.self.states.items l.lane).tickets
