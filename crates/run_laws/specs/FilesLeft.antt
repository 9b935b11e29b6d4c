-- The final state of a name, and the last call that concerns it.
use Rattle.std.specs.Prelude.{◌≡◌, ◌≢◌, ◌<◌, ℕ, true, List, [], ◌∷◌, Some}
use Rattle.sftp_model.specs.declared.reply.Reply.TheVariants as reply
use Rattle.sftp_model.specs.declared.request.Request.{Request}
use Rattle.machine_model.specs.Components.{Name, components}
use Rattle.machine_model.specs.FileTree.{FileTree, node_at}
use Rattle.plan_model.specs.FilePlans.{open_request}
use Rattle.plan_model.specs.Moves.{Own}
use Rattle.plan_model.specs.WholePlans.{to_replace}
use Rattle.session_model.specs.declared.entry.Entry.{Entry}
use Rattle.session_model.specs.Calls.{Setting}
use Rattle.session_model.specs.Readings.{AskedRequest, answer, asked_at, own}
use Rattle.run_laws.specs.Bearing.{grant_at}
use Rattle.run_laws.specs.GrantUses.{WritesBy}
use Rattle.run_laws.specs.InJournals.{IsOfLane, PassesAt, is_of_call}
use Rattle.run_laws.specs.Steps.{HasBytes}

-- A call of the lane that owns the name, by its number, with its requests. The requests of later calls pass the name
-- by.
pub record LaneLast (s : Setting) (past : List Entry) (name : Name) (lane call : ℕ) (w : ℕ × Request) (written : Own) :
    Type 0 where
  pub lanes : IsOfLane past name lane
  pub asks : own past lane call ≡ w ∷ written
  pub later : (place after : ℕ) → call < after → is_of_call past (lane, after) place ≡ true → PassesAt s past name place

-- A lane that owns the name. The requests of its calls pass the name by.
pub record LaneNever (s : Setting) (past : List Entry) (name : Name) (lane : ℕ) : Type 0 where
  pub lanes : IsOfLane past name lane
  pub passes : (place call : ℕ) → is_of_call past (lane, call) place ≡ true → PassesAt s past name place

-- Two calls of the lane that owns the name, by their numbers, with their requests. The first is an OPEN of the name
-- that creates or truncates its file, and it brought a handle. The requests of the second write by this handle, and use
-- this grant. The requests of the lane's other calls after the first pass the name by.
pub record LaneAnew (s : Setting) (past : List Entry) (name : Name) (lane opener writer : ℕ) (w : ℕ × Request)
    (written : Own) : Type 0 where
  pub lanes : IsOfLane past name lane
  pub opens : own past lane opener ≡ w ∷ []
  pub path : List ℕ
  pub anew : w.1 ≡ open_request to_replace path
  pub denotes : components path ≡ name
  pub handle : List ℕ
  pub came : answer past w.0 ≡ Some (reply.Handle handle)
  pub in_turn : opener < writer
  pub asks : own past lane writer ≡ written
  pub bears : (place : ℕ) (a : AskedRequest) → is_of_call past (lane, writer) place ≡ true → asked_at past place
      ≡ Some a
      → WritesBy a.request handle
  pub uses : (place : ℕ) → is_of_call past (lane, writer) place ≡ true → grant_at s past place ≡ Some w.0
  pub others : (place call : ℕ) → opener < call → call ≢ writer → is_of_call past (lane, call) place ≡ true
      → PassesAt s past name place

-- A name now has the file or directory that it had at first, and its file the same bytes.
pub record IsUntouched (first now : FileTree) (name : Name) : Type 0 where
  pub node : node_at now name ≡ node_at first name
  pub bytes : (bytes : List ℕ) → HasBytes first name bytes → HasBytes now name bytes
