-- A lane that creates directories, one after another, before the other lanes start.
use Rattle.std.specs.Prelude.{◌≡◌, ℕ, zero, suc, List, [], ◌∷◌, ◌++◌, length, map, if◌then◌else◌}
use Rattle.sftp_model.specs.Frames.{no_attributes, is_too_long}
use Rattle.sftp_model.specs.declared.request.Request.{Request}
use Rattle.sftp_model.specs.declared.request.Request.TheVariants as request
use Rattle.plan_model.specs.Moves.{Own}
use Rattle.plan_model.specs.declared.call.Call.TheVariants as call
use Rattle.session_model.specs.declared.entry.Entry.{Entry}
use Rattle.session_model.specs.declared.turn.Turn.{Turn}
use Rattle.session_model.specs.declared.turn.Turn.TheVariants as turn
use Rattle.session_model.specs.Calls.{Setting}
use Rattle.session_model.specs.Served.{requests_sent}
use Rattle.run_laws.specs.ReadsBack.{calls_in}

-- ---- The requests

-- The MKDIR of a path.
abbrev pub mkdir_of : List ℕ → Request
mkdir_of path = request.Mkdir path no_attributes

-- The request of a path whose frame is not too long.
abbrev pub unless_too_long : Request → List Request
unless_too_long r = if is_too_long r then [] else r ∷ []

-- The requests of the calls that create these directories.
abbrev pub mkdirs : List (List ℕ) → List Request
mkdirs [] = []
mkdirs (path ∷ paths) = unless_too_long (mkdir_of path) ++ mkdirs paths

-- ---- Turns

-- A turn of the lane, a flush, a take and a turn of the lane: a call of one request ends in these.
abbrev pub call_turns : ℕ → List Turn
call_turns lane = turn.Step lane ∷ turn.Flush ∷ turn.Take ∷ turn.Step lane ∷ []

-- These turns, this many times, followed by others.
abbrev pub times_then : ℕ → List Turn → List Turn → List Turn
times_then zero turns later = later
times_then (suc n) turns later = turns ++ times_then n turns later

-- A lane creates the directories of these paths, and runs alone until it has.
pub record MakesFirst (s : Setting) (turns : List Turn) (paths : List (List ℕ)) : Type 0 where
  pub lane : ℕ
  pub calls : calls_in s.lanes lane ≡ map call.Mkdir paths
  pub later : List Turn
  pub order : turns ≡ times_then (length paths) (call_turns lane) later

-- The MKDIRs of these paths are the first requests that were sent.
pub record ComeFirst (past : List Entry) (paths : List (List ℕ)) : Type 0 where
  pub first : Own
  pub later : Own
  pub is : requests_sent past ≡ first ++ later
  pub made : map (λ r. r.1) first ≡ mkdirs paths
