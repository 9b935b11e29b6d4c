-- Worked values of how many ids calls may keep.
use Rattle.std.specs.Prelude.{◌≡◌, List, [], ◌∷◌, Option, Some, None, codes, refl}
use Rattle.sftp_model.specs.declared.slot.Facts.{Facts}
use Rattle.plan_model.specs.PlanWords.{facts}
use Rattle.plan_runner.specs.declared.next.Running.{Running}
use Rattle.plan_runner.specs.declared.next.Running.TheVariants as running
use Rattle.plan_model.specs.declared.call.Call.{Call}
use Rattle.plan_model.specs.declared.call.Call.TheVariants as call
use Rattle.session_laws.specs.Budgets.{budget, budgets, in_hand}

-- A session with at most eight READs under way.
abbrev pub eight : Facts
eight = facts 0 4 2 4 8

-- A lane reads from a file, reads another as a whole and asks for its attributes.
abbrev pub calls : List Call
calls = call.Read 0 4 ∷ call.FsRead (codes "b") 100 ∷ call.Stat (codes "b") ∷ []

-- The whole read, with two READs under way.
abbrev pub reading : Option Running
reading =
    Some (running.ReadingWhole 3 100
    (record {
      answered = [];
      waiting = record { place = 4; offset = 0; len = 4 } ∷ record
          { place = 5; offset = 4; len = 4 } ∷ [];
    }))

-- A whole read may keep nine ids, one of them for its handle.
pub whole_read : budget (call.FsRead (codes "b") 100) eight ≡ 9
whole_read = refl

-- A write of bytes that are left to a buffered file may keep one id for each byte, and two more.
pub buffered : budget (call.BufWriteAll 0 (codes "abc")) eight ≡ 5
buffered = refl

-- Any other call may keep two.
pub written : budget (call.FsWrite (codes "b") (codes "abc")) eight ≡ 2
written = refl

-- A lane keeps the budgets of its ended calls.
pub two_ended : budgets eight calls 2 ≡ 11
two_ended = refl

pub more_than_there_are : budgets eight calls 9 ≡ 13
more_than_there_are = refl

-- Of the running call it keeps no more than that made, or the READs that it has under way.
pub idle : in_hand 9 None 7 ≡ 0
idle = refl

pub under_way : in_hand 9 reading 7 ≡ 3
under_way = refl

pub one_made : in_hand 2 (Some (running.Flushing 0)) 1 ≡ 1
one_made = refl

pub many_made : in_hand 2 (Some (running.Flushing 0)) 7 ≡ 2
many_made = refl
