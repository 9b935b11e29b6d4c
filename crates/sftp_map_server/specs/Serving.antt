-- believed: ServerState, told_bits, version_reply, is_hello, id_of, Server, AllShort, server_of, fresh_server,
--   first_state, Serving
-- A file machine as a link: its replies to the bytes that come, and the bytes that it sends.
use Rattle.std.specs.Prelude.{
  ◌≡◌,
  ◌<◌,
  ◌≤◌,
  ℕ,
  Bool,
  true,
  false,
  nat_le,
  List,
  [],
  ◌∷◌,
  ◌++◌,
  length,
  drop,
  Option,
  Some,
  None,
  is_some,
  if◌then◌else◌,
}
use Rattle.std.specs.List.{flat_map}
use Rattle.std.specs.Result.{result_ok}
use Rattle.std.specs.Int.RustNames.{bit_and, bit_or}
use Rattle.sftp_link.specs.declared.piece.Piece.{Piece}
use Rattle.sftp_link.specs.declared.piece.Piece.TheVariants.{Sent, Got}
use Rattle.sftp_link.specs.Views.{LinkView}
use Rattle.ssh_encoding.specs.Writing.{string}
use Rattle.sftp_model.specs.declared.config.Choice.{Choice}
use Rattle.sftp_model.specs.declared.config.Limits.{Limits}
use Rattle.sftp_model.specs.declared.config.ServerConfig.{ServerConfig}
use Rattle.sftp_model.specs.declared.request.Request.{Request}
use Rattle.sftp_model.specs.declared.request.Request.TheVariants as request
use Rattle.sftp_model.specs.declared.reply.Reply.{Reply}
use Rattle.sftp_model.specs.declared.reply.Reply.TheVariants as reply
use Rattle.sftp_model.specs.Numbers.{LIMITS, MAX_BODY_LEN, MAX_TRANSFER_LEN}
use Rattle.sftp_model.specs.Frames.{reply_frame}
use Rattle.sftp_model.specs.RequestReadings.{request_at}
use Rattle.machine_model.specs.FileTree.{FileTree}
use Rattle.machine_model.specs.FirstTree.{FirstFile, first_tree}
use Rattle.machine_model.specs.HandleRequests.{capped_at}
use Rattle.machine_model.specs.TreeAnswers.{first_choice, limits_reply}
use Rattle.sftp_wire.specs.FrameReader.{fault_of, missing_bytes}
use Rattle.machine_answers.specs.MachineState.{MachineState, answer}
use Rattle.machine_answers.specs.WaitingFrames.{WaitingFrames, with_next_picked}

-- ---- The replies

-- Bytes that are sent at once, and frames that wait until they are picked.
pub record Replies : Type 0 where
  pub at_once : List ℕ
  pub later : List (List ℕ)

abbrev pub nothing : Replies
nothing = record { at_once = []; later = [] }

abbrev pub at_once : List ℕ → Replies
at_once frame = record { at_once = frame; later = [] }

abbrev pub later : List ℕ → Replies
later frame = record { at_once = []; later = frame ∷ [] }

-- The replies of one followed by those of the other.
abbrev pub both : Replies → Replies → Replies
both a b = record { at_once = a.at_once ++ b.at_once; later = a.later ++ b.later }

-- ---- One request

-- The machine, the choices that are left, whether the hello came, and whether the link is over.
pub record ServerState : Type 0 where
  pub machine : MachineState
  pub choices : List Choice
  pub greeted : Bool
  pub over : Bool

-- The extensions that VERSION lists, as bits: `limits` exactly if there are limits.
abbrev pub told_bits : ℕ → Option Limits → ℕ
told_bits bits None = bit_and bits 31
told_bits bits (Some limits) = bit_or bits LIMITS

-- The reply to the hello.
abbrev pub version_reply : ServerConfig → Reply
version_reply config = reply.Version 3 (record { 0 = told_bits config.extensions.0 config.limits })

abbrev pub is_hello : Request → Bool
is_hello (request.Init version) = true
is_hello other = false

abbrev pub is_query : Request → Bool
is_query request.LimitsQuery = true
is_query other = false

-- The id of a request; the hello has none.
abbrev pub id_of : Option ℕ → ℕ
id_of None = 0
id_of (Some id) = id

-- The link is over: no request is answered any more.
abbrev pub over_at : ServerState → ServerState
over_at d = record { machine = d.machine; choices = d.choices; greeted = d.greeted; over = true }

-- The next choice is taken, and the machine is in this state.
abbrev pub after_choice : ServerState → MachineState → ServerState
after_choice d left = record { machine = left; choices = drop 1 d.choices; greeted = d.greeted; over = d.over }

-- True if a READ returns at most the bytes that one DATA can carry: by the length asked for or by the cap.
abbrev pub gives_within : Request → Choice → Bool
gives_within (request.Read handle offset len) choice = nat_le (capped_at choice.cap len) MAX_TRANSFER_LEN
gives_within other choice = true

-- The hello is answered by VERSION, once and at once.
abbrev pub greet : ServerState → Replies × ServerState
greet d =
    if d.greeted then (nothing, over_at d)
    else (
      at_once (reply_frame (version_reply d.machine.config) 0),
      record { machine = d.machine; choices = d.choices; greeted = true; over = d.over },
    )

-- A request of the machine takes the next choice, and its reply waits.
abbrev pub serve : ServerState → Option ℕ → Request → Replies × ServerState
serve d id r =
    if gives_within r (first_choice d.choices) then (
      later (reply_frame (answer d.machine r (first_choice d.choices)).0 (id_of id)),
      after_choice d (answer d.machine r (first_choice d.choices)).1,
    )
    else (nothing, over_at d)

-- The replies to a request, and the state after it. The first request is the hello; the query for limits is answered at
-- once and takes no choice.
abbrev pub respond : ServerState → Option ℕ → Request → Replies × ServerState
respond d id r =
    if is_hello r then greet d
    else if d.greeted then
    (if is_query r then (at_once (reply_frame (limits_reply d.machine.config.limits) (id_of id)), d) else serve d id r)
    else (nothing, over_at d)

-- The effect of a body that was read; one that cannot be read as a request ends the link.
abbrev pub served_frame : ServerState → Option (Option ℕ × Request) → Replies × ServerState
served_frame d (Some asked) = respond d asked.0 asked.1
served_frame d None = (nothing, over_at d)

-- The effect of the body of a frame: no body is answered once the link is over.
unfoldable pub step : ServerState → List ℕ → Replies × ServerState
step d body = if d.over then (nothing, d) else served_frame d (result_ok (request_at body))

-- ---- Bytes that come and are sent

-- The replies to bodies, one after another.
abbrev pub all_said : ServerState → List (List ℕ) → Replies
all_said d [] = nothing
all_said d (body ∷ more) = both (step d body).0 (all_said (step d body).1 more)

abbrev pub all_left : ServerState → List (List ℕ) → ServerState
all_left d [] = d
all_left d (body ∷ more) = all_left (step d body).1 more

-- The state, the bytes that came of the next frame, and the frames still to be sent.
pub record Server : Type 0 where
  pub state : ServerState
  pub input : List ℕ
  pub output : WaitingFrames

-- The replies are added after the frames still to be sent.
abbrev pub with_said : WaitingFrames → Replies → WaitingFrames
with_said output said = record {
  ready = output.ready ++ said.at_once;
  waiting = output.waiting ++ said.later;
  picks =
      output.picks;
}

-- The state and the input after the frames that came whole. A length that is 0 or too great ends the link, and then the
-- bytes are dropped.
abbrev pub after_frames : ServerState → List ℕ → ServerState × List ℕ
after_frames d rest =
    if d.over then (d, [])
    else if is_some (fault_of rest) then (over_at d, [])
    else (d, rest)

-- Each body has a length that a frame may have.
abbrev pub AllShort : List (List ℕ) → Type 0
AllShort [] = Unit {0}
AllShort (body ∷ more) = (0 < length body) × (length body ≤ MAX_BODY_LEN) × AllShort more

-- Bytes came: the frames that are then whole are answered in order.
pub record AbsorbsBytes (before : Server) (bytes : List ℕ) (after : Server) : Type 0 where
  pub bodies : List (List ℕ)
  pub rest : List ℕ
  pub short : AllShort bodies
  pub framed : before.input ++ bytes ≡ flat_map string bodies ++ rest
  pub state : after.state ≡ (after_frames (all_left before.state bodies) rest).0
  pub input : after.input ≡ (after_frames (all_left before.state bodies) rest).1
  pub part : 0 < missing_bytes after.input
  pub output : after.output ≡ with_said before.output (all_said before.state bodies)

-- Bytes were sent, of the frame that is being sent or of the one that is picked next.
pub record GivesSome (before : Server) (bytes : List ℕ) (after : Server) : Type 0 where
  pub ready : (with_next_picked before.output).ready ≡ bytes ++ after.output.ready
  pub waiting : after.output.waiting ≡ (with_next_picked before.output).waiting
  pub picks : after.output.picks ≡ (with_next_picked before.output).picks
  pub input : after.input ≡ before.input
  pub state : after.state ≡ before.state

-- Bytes were sent. If none were, none are left, and nothing changes.
abbrev pub HandsBytes : Server → List ℕ → Server → Type 0
HandsBytes before [] after = (after ≡ before) × ((with_next_picked before.output).ready ≡ [])
HandsBytes before (b ∷ bytes) after = GivesSome before (b ∷ bytes) after

-- A log, with its newest piece first, is that of such a server.
abbrev pub IsServed : Server → List Piece → Server → Type 0
IsServed first [] now = now ≡ first
IsServed first (Sent bytes ∷ log) now = (mid : Server) × IsServed first log mid × AbsorbsBytes mid bytes now
IsServed first (Got bytes ∷ log) now = (mid : Server) × IsServed first log mid × HandsBytes mid bytes now

-- ---- A server in memory

-- A server's state by its parts.
abbrev pub server_of : ServerState → List ℕ → WaitingFrames → Server
server_of state input output = record { state = state; input = input; output = output }

-- A server to which no bytes were sent yet, with the picks for its replies.
abbrev pub fresh_server : ServerState → List ℕ → Server
fresh_server d picks = server_of d [] (record { ready = []; waiting = []; picks = picks })

-- The state of these files and directories before the first request.
abbrev pub first_state : List FirstFile → List (List ℕ) → ServerConfig → List Choice → ServerState
first_state files dirs config choices = record {
  machine = record { tree = first_tree files dirs; config = config; grants = 0 };
  choices = choices;
  greeted = false;
  over = false;
}

-- A server with its log, the newest piece first, and the flag of the end.
pub record Serving : Type 0 where
  pub first : Server
  pub now : Server
  pub log : List Piece
  pub ended : Bool

-- The files and directories that are left.
abbrev pub tree_left : Serving → FileTree
tree_left s = s.now.state.machine.tree

-- The extensions and limits that it offers.
abbrev pub config_of : Serving → ServerConfig
config_of s = s.first.state.machine.config

-- Its view as a link: it never fails, and serves from its first state.
abbrev pub server_view : Serving → LinkView Server
server_view s = record { log = Some s.log; faults = 0; ended = s.ended; service = s.first }

-- Its invariant: its log is that of such a server from the first state on, and it ends only if no bytes are left to be
-- sent.
pub record IsServing (first now : Server) (log : List Piece) (ended : Bool) : Type 0 where
  pub served : IsServed first log now
  pub part : 0 < missing_bytes now.input
  pub end : ended ≡ true → (with_next_picked now.output).ready ≡ []
