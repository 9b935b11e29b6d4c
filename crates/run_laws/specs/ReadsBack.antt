-- believed
-- Bytes that were written are read back: by the lanes that were passed in, and the reported outcomes of their calls.
use Rattle.std.specs.Prelude.{
  ◌≡◌,
  ◌≢◌,
  ◌<◌,
  ℕ,
  suc,
  true,
  false,
  List,
  [],
  take,
  drop,
  Option,
  Some,
  slice_get,
  slice_index_or,
}
use Rattle.std.specs.List.{list_all}
use Rattle.sftp_model.specs.declared.config.Choice.{Choice}
use Rattle.sftp_model.specs.declared.error.Error.TheVariants as error
use Rattle.sftp_model.specs.declared.outcome.Outcome.{Outcome}
use Rattle.sftp_model.specs.declared.outcome.Outcome.TheVariants as outcome
use Rattle.machine_model.specs.Components.{Name, components}
use Rattle.machine_model.specs.FileTree.{FileTree, node_at}
use Rattle.plan_model.specs.declared.call.Call.{Call}
use Rattle.plan_model.specs.declared.call.Call.TheVariants as call
use Rattle.plan_model.specs.declared.call.Lane.{Lane}
use Rattle.session_model.specs.Calls.{calls_of}
use Rattle.run_laws.specs.CallsAmong.{GivesContent, HasNoFile, refusal_of}
use Rattle.run_laws.specs.Steps.{FeignNoEnd, HasBytes, RefuseNone}
use Rattle.run_laws.specs.NameCalls.{all_keep_off, may_own, none_writes}
use Rattle.run_laws.specs.RoundTrips.{passes_length}

-- ---- Calls and outcomes, by their lanes and numbers

-- The calls of a lane.
abbrev pub calls_in : List Lane → ℕ → List Call
calls_in lanes lane = calls_of (slice_get lanes lane)

-- A call of a lane.
abbrev pub call_in : List Lane → ℕ → ℕ → Option Call
call_in lanes lane k = slice_get (calls_in lanes lane) k

-- The outcome of a call of a lane.
abbrev pub outcome_in : List (List Outcome) → ℕ → ℕ → Option Outcome
outcome_in outcomes lane k = slice_get (slice_index_or outcomes lane []) k

-- ---- Lanes

-- A name belongs to one lane alone. Each call of the lane writes or reads a file as a whole, or keeps off the name and
-- opens no file. The calls of all other lanes keep off the name.
pub record IsAlone (lanes : List Lane) (name : Name) (lane : ℕ) : Type 0 where
  pub own : list_all (may_own name) (calls_in lanes lane) ≡ true
  pub others : (other : ℕ) → other ≢ lane → all_keep_off name [] (calls_in lanes other) ≡ true

-- A call of a lane reads the name's file as a whole, by a path that fits a frame. It ended with this outcome, and was
-- not cancelled.
pub record ReadsNamed (lanes : List Lane) (outcomes : List (List Outcome)) (name : Name) (lane reader : ℕ)
    (ended : Outcome)
    : Type 0 where
  pub path : List ℕ
  pub bound : ℕ
  pub is : call_in lanes lane reader ≡ Some (call.FsRead path bound)
  pub denotes : components path ≡ name
  pub short : passes_length path ≡ false
  pub ends : outcome_in outcomes lane reader ≡ Some ended
  pub uncancelled : ended ≢ outcome.Cancelled

-- A call of a lane reads the name's file as a whole, and returned these bytes.
pub record GotBytes (lanes : List Lane) (outcomes : List (List Outcome)) (name : Name) (lane reader : ℕ) (got : List ℕ)
    : Type 0 where
  pub path : List ℕ
  pub bound : ℕ
  pub is : call_in lanes lane reader ≡ Some (call.FsRead path bound)
  pub denotes : components path ≡ name
  pub ends : outcome_in outcomes lane reader ≡ Some (outcome.Bytes got)

-- A call of a lane writes the name's file as a whole, and it ended well; it is the lane's last before a later call that
-- does so.
pub record WritesLast (lanes : List Lane) (outcomes : List (List Outcome)) (name : Name) (lane writer reader : ℕ)
    (bytes : List ℕ) : Type 0 where
  pub path : List ℕ
  pub is : call_in lanes lane writer ≡ Some (call.FsWrite path bytes)
  pub denotes : components path ≡ name
  pub ends : outcome_in outcomes lane writer ≡ Some outcome.Done
  pub earlier : writer < reader
  pub last : none_writes name (drop (suc writer) (take reader (calls_in lanes lane))) ≡ true

-- ---- A whole run

-- The result of a whole run over a file machine, by the outcomes of its lanes, if a name belongs to one lane alone.
--
-- A call of the lane that reads its file as a whole returns the bytes that the lane last wrote before it. If the lane
-- wrote none before, it returns what the machine had at first: the bytes of the file, or the refusal if there was none.
-- If the choices refuse requests, and none feigns an end, a read may be refused, but the bytes that a read returned are
-- those.
pub record ReadsBack (lanes : List Lane) (choices : List Choice) (tree : FileTree) (outcomes : List (List Outcome)) :
    Type 0 where
  pub written : (name : Name) (lane writer reader : ℕ) (bytes : List ℕ) (ended : Outcome) → RefuseNone choices
      → IsAlone lanes name lane
      → WritesLast lanes outcomes name lane writer reader bytes → ReadsNamed lanes outcomes name lane reader ended
      → GivesContent ended bytes
  pub there : (name : Name) (lane reader : ℕ) (bytes : List ℕ) (ended : Outcome) → RefuseNone choices
      → IsAlone lanes name lane
      → none_writes name (take reader (calls_in lanes lane)) ≡ true → HasBytes tree name bytes
      → ReadsNamed lanes outcomes name lane reader ended → GivesContent ended bytes
  pub absent : (name : Name) (lane reader : ℕ) (ended : Outcome) → RefuseNone choices → IsAlone lanes name lane
      → none_writes name (take reader (calls_in lanes lane)) ≡ true → HasNoFile (node_at tree name)
      → ReadsNamed lanes outcomes name lane reader ended
      → ended ≡ outcome.Refused (error.SftpError (refusal_of (node_at tree name)) [] [])
  pub got_written : (name : Name) (lane writer reader : ℕ) (bytes got : List ℕ) → FeignNoEnd choices
      → IsAlone lanes name lane
      → WritesLast lanes outcomes name lane writer reader bytes → GotBytes lanes outcomes name lane reader got → got
      ≡ bytes
  pub got_there : (name : Name) (lane reader : ℕ) (got : List ℕ) → FeignNoEnd choices → IsAlone lanes name lane
      → none_writes name (take reader (calls_in lanes lane)) ≡ true → GotBytes lanes outcomes name lane reader got
      → HasBytes tree name got
