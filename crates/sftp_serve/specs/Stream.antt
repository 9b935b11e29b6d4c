-- believed, except first_state, IsSaid
-- A stream of frames that a client sends, and the machine's answer to each.
use Rattle.std.specs.Prelude.{
  ◌≡◌,
  ◌⊎◌,
  ◌<◌,
  ◌≤◌,
  ℕ,
  ◌==◌,
  nat_le,
  nat_lt,
  Bool,
  true,
  false,
  ◌&&◌,
  List,
  [],
  ◌∷◌,
  ◌++◌,
  length,
  take,
  drop,
  Option,
  None,
  Some,
  is_some,
  Result,
  Ok,
  Err,
  Vec,
  if◌then◌else◌,
}
use Rattle.std.specs.declared.alloc.Global.{Global}
use Rattle.std.specs.List.{flat_map}
use Rattle.std.specs.Option.{option_map}
use Rattle.std.specs.Int.{w32, from_be_bytes}
use Rattle.ssh_encoding.specs.Writing.{string}
use Rattle.sftp_model.specs.declared.config.Choice.{Choice}
use Rattle.sftp_model.specs.declared.frame_error.FormatKind.TheVariants as kinds
use Rattle.sftp_model.specs.declared.frame_error.FrameError.{FrameError}
use Rattle.sftp_model.specs.declared.frame_error.FrameError.TheVariants as errors
use Rattle.sftp_model.specs.declared.reply.Reply.{Reply}
use Rattle.sftp_model.specs.declared.request.Request.{Request}
use Rattle.sftp_model.specs.declared.request.Request.TheVariants as request
use Rattle.sftp_model.specs.Answers.{status}
use Rattle.sftp_model.specs.Numbers.{
  MAX_BODY_LEN,
  MAX_TRANSFER_LEN,
  SSH_FXP_EXTENDED,
  SSH_FX_FAILURE,
  SSH_FX_OK,
  SSH_FX_OP_UNSUPPORTED,
}
use Rattle.sftp_model.specs.Frames.{reply_frame}
use Rattle.sftp_model.specs.RequestReadings.{request_at}
use Rattle.sftp_wire.specs.FrameReader.{fault_of, missing_bytes}
use Rattle.machine_answers.specs.MachineState.{MachineState, answer}
use Rattle.sftp_map_server.specs.Serving.{AllShort, id_of, is_hello, version_reply}
use Rattle.sftp_serve.specs.Details.{shown_reply}

-- A flag that is true if replies are full, one that is true if the hello came, and the machine.
pub record ServedState : Type 0 where
  pub long : Bool
  pub greeted : Bool
  pub machine : MachineState

-- The state before the first frame.
abbrev pub first_state : Bool → MachineState → ServedState
first_state long machine = record { long = long; greeted = false; machine = machine }

-- ---- The bound on open handles

-- The most handles that are open at once.
abbrev pub MAX_OPEN_HANDLES : ℕ
MAX_OPEN_HANDLES = 4096

-- True for OPEN and OPENDIR.
abbrev pub opens_handle : Request → Bool
opens_handle (request.OpenFile path flags attrs) = true
opens_handle (request.Opendir path) = true
opens_handle other = false

-- The choice for a request while this many handles are open. An OPEN or an OPENDIR is refused with a failure if 4096 or
-- more are; no other request is refused. A DATA has at most the number of bytes that a frame can carry.
abbrev pub choice_for : ℕ → Request → Choice
choice_for count r = record {
  refuse = if opens_handle r && nat_le MAX_OPEN_HANDLES count then SSH_FX_FAILURE else SSH_FX_OK;
  cap = MAX_TRANSFER_LEN;
}

-- The machine's reply to a request, and the machine after it, by the choice for the handles that it has open.
abbrev pub chosen_answer : MachineState → Request → Reply × MachineState
chosen_answer machine r = answer machine r (choice_for (length machine.tree.handles) r)

-- ---- One frame

-- The hello of a client that knows version 3.
abbrev pub is_welcome : Request → Bool
is_welcome (request.Init version) = nat_le 3 version
is_welcome other = false

-- VERSION is sent, and the hello came.
abbrev pub version_answer : ServedState → List ℕ × ServedState
version_answer s = (
  reply_frame (version_reply s.machine.config) 0,
  record { long = s.long; greeted = true; machine = s.machine },
)

-- The machine's answer to a request, under the request's id.
abbrev pub machine_answer : ServedState → Option ℕ → Request → List ℕ × ServedState
machine_answer s id r = (
  reply_frame (shown_reply s.long (chosen_answer s.machine r).0) (id_of id),
  record { long = s.long; greeted = s.greeted; machine = (chosen_answer s.machine r).1 },
)

-- The answer to an extension that the protocol's profile doesn't have.
abbrev pub unsupported_answer : ServedState → ℕ → List ℕ × ServedState
unsupported_answer s id = (reply_frame (status SSH_FX_OP_UNSUPPORTED) id, s)

-- The id after the type of a body.
abbrev pub id_in : List ℕ → Option ℕ
id_in body = if nat_lt (length body) 5 then None else Some (from_be_bytes w32 (take 4 (drop 1 body)))

-- The id of a body that is no request because the name of its extension is none of the six.
abbrev pub unknown_id : List ℕ → FrameError → Option ℕ
unknown_id body (errors.Format (kinds.InvalidDiscriminant kind)) = if kind == SSH_FXP_EXTENDED then id_in body else None
unknown_id body other = None

-- The answer to a request, and the state after it; None if the request may not come here. The first request is the
-- hello.
abbrev pub to_request : ServedState → Option ℕ → Request → Option (List ℕ × ServedState)
to_request s id r =
    if s.greeted then (if is_hello r then None else Some (machine_answer s id r))
    else if is_welcome r then Some (version_answer s) else None

-- The answer to a body that reads as no request.
abbrev pub to_refused : ServedState → List ℕ → FrameError → Option (List ℕ × ServedState)
to_refused s body e = if s.greeted then option_map (unsupported_answer s) (unknown_id body e) else None

-- The answer to a body, by its reading.
abbrev pub to_read : ServedState → List ℕ → Result (Option ℕ × Request) FrameError → Option (List ℕ × ServedState)
to_read s body (Ok asked) = to_request s asked.0 asked.1
to_read s body (Err e) = to_refused s body e

-- The answer to the frame of this body, and the state after it; None if the frame may not come here.
unfoldable pub answer_to_frame : ServedState → List ℕ → Option (List ℕ × ServedState)
answer_to_frame s body = to_read s body (request_at body)

-- A call returned this answer, and left this state.
abbrev pub IsSaid : Option (List ℕ × ServedState) → Option (Vec ℕ Global) → ServedState → Type 0
IsSaid what None now = what ≡ None
IsSaid what (Some frame) now = what ≡ Some (frame.items, now)

-- ---- Frames one after another

-- One answer, and then those to the frames after it.
abbrev pub and_then : Option (List ℕ × ServedState) → (ServedState → Option (List ℕ × ServedState))
    → Option (List ℕ × ServedState)
and_then None more = None
and_then (Some x) more = option_map (λ y. (x.0 ++ y.0, y.1)) (more x.1)

-- The answers to the frames of these bodies, joined, and the state after them; None if one of them may not come at its
-- place.
abbrev pub answers : ServedState → List (List ℕ) → Option (List ℕ × ServedState)
answers s [] = Some ([], s)
answers s (body ∷ more) = and_then (answer_to_frame s body) (λ t. answers t more)

-- The bytes are `count` frames and a rest. The frames are answered with these bytes, and leave this state.
pub record IsAnswered (first : ServedState) (bytes : List ℕ) (count : ℕ) (sent : List ℕ) (left : ServedState)
    (rest : List ℕ) : Type 0 where
  pub bodies : List (List ℕ)
  pub short : AllShort bodies
  pub counted : length bodies ≡ count
  pub framed : bytes ≡ flat_map string bodies ++ rest
  pub answered : answers first bodies ≡ Some (sent, left)

-- The bytes are `count` frames and no more, and these are the answers.
abbrev pub IsStream : ServedState → List ℕ → ℕ → List ℕ → Type 0
IsStream first bytes count sent = (left : ServedState) × IsAnswered first bytes count sent left []

-- The first bytes of a frame, and not all of them.
pub record IsUnfinished (rest : List ℕ) : Type 0 where
  pub good : fault_of rest ≡ None
  pub short : 0 < missing_bytes rest

-- A frame that may not come here.
pub record IsUnfit (left : ServedState) (rest : List ℕ) : Type 0 where
  pub body : List ℕ
  pub some : 0 < length body
  pub short : length body ≤ MAX_BODY_LEN
  pub framed : rest ≡ string body
  pub unfit : answer_to_frame left body ≡ None

-- The cause that breaks a stream: its end within a frame, a frame that may not come, or a length that no frame has.
abbrev pub BreaksStream : ServedState → Bool → List ℕ → Type 0
BreaksStream left ended rest = ((ended ≡ true) × (0 < length rest) × IsUnfinished rest) ⊎ IsUnfit left rest
    ⊎ (is_some (fault_of rest) ≡ true)

-- The bytes are frames, with these answers, and then the cause that breaks the stream.
pub record IsBroken (first : ServedState) (ended : Bool) (bytes sent : List ℕ) : Type 0 where
  pub count : ℕ
  pub left : ServedState
  pub rest : List ℕ
  pub served : IsAnswered first bytes count sent left rest
  pub breaks : BreaksStream left ended rest
