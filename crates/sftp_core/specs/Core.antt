-- believed, except fresh, queued_of, unanswered_of, IsGrant, MayClose, MayFree, MayDrop, refusal_of, submit_refusal,
--   IsNoFault, IsSubmitError, QueuesRequest, SubmittedParts, polled_grant, poll_gives, polled_with,
--   core_after_retain, release_gives
-- A core as its callers see it, and the effect of each call on it.
use Rattle.std.specs.Prelude.{
  ◌≡◌,
  ℕ,
  ◌+◌,
  ◌-◌,
  ◌<◌,
  ◌==◌,
  Bool,
  true,
  false,
  List,
  [],
  ◌∷◌,
  ◌++◌,
  Option,
  None,
  Some,
  Result,
  Ok,
  Err,
  if◌then◌else◌,
  length,
  nat_lt,
  ⊤,
}
use Rattle.std.specs.FinMap as fin
use Rattle.std.specs.Option.{unwrap_or}
use Rattle.sftp_model.specs.Answers.{expected_of}
use Rattle.sftp_model.specs.Numbers.{MAX_BODY_LEN}
use Rattle.sftp_model.specs.Frames.{request_body, is_too_long}
use Rattle.sftp_model.specs.declared.request.Request.{Request}
use Rattle.sftp_model.specs.declared.request.Request.TheVariants as request
use Rattle.sftp_model.specs.declared.reply.Reply.{Reply}
use Rattle.sftp_model.specs.declared.error.Fault.{Fault}
use Rattle.sftp_model.specs.declared.options.SftpOptions.{SftpOptions}
use Rattle.sftp_core.specs.declared.handshake.Handshake.{Handshake}
use Rattle.sftp_core.specs.declared.handshake.Handshake.TheVariants.{Greeting}
use Rattle.sftp_core.specs.declared.errors.SubmitError.{SubmitError}
use Rattle.sftp_core.specs.declared.errors.SubmitError.TheVariants as submit
use Rattle.sftp_core.specs.declared.tokens.Polled.{Polled}
use Rattle.sftp_core.specs.declared.tokens.Polled.TheVariants as polled
use Rattle.sftp_core.specs.declared.id_record.IdRecord.{IdRecord}
use Rattle.sftp_core.specs.declared.id_record.IdRecord.TheVariants.{Waiting, Answered, Granted}
use Rattle.sftp_core.specs.Grant.{GrantValue}
use Rattle.sftp_model.specs.Pieces.{joined_pieces}
use Rattle.sftp_wire.specs.Heads.{request_head}
use Rattle.sftp_core.specs.Pieces.{whole, filled_of}
use Rattle.sftp_core.specs.Info.{hello_of}
use Rattle.sftp_core.specs.Table.{IdRecords, count, all_sent, is_waiting, is_sent, is_owing, is_unsent, handle_in_reply}

-- The options, whether the hello was handed out, how far the greeting has come, the queue in order, the pieces of its
-- frames in order, the record under each id, and the fault.
pub record Core : Type 0 where
  pub options : SftpOptions
  pub hello_sent : Bool
  pub phase : Handshake
  pub queue : List (ℕ × Request)
  pub pieces : List (List ℕ)
  pub table : IdRecords
  pub fault : Option Fault

-- The record under an id, if there is one.
abbrev pub record_at : Core → ℕ → Option IdRecord
record_at core id = fin.get core.table id

-- The core with another record under an id.
abbrev pub with_record : Core → ℕ → IdRecord → Core
with_record core id held = record core { table = fin.insert core.table id held }

-- The core without a record under an id.
abbrev pub without_record : Core → ℕ → Core
without_record core id = record core { table = fin.remove core.table id }

-- A request is last in the queue and is kept under its id.
abbrev pub queued_last : Core → ℕ → Request → Bool → Core
queued_last core id asked wanted =
    record core {
      queue = core.queue ++ (id, asked) ∷ [];
      pieces = core.pieces ++ whole id asked;
      table =
          fin.insert core.table id (Waiting (expected_of asked) false wanted);
    }

-- The WRITE of these parts, joined.
abbrev pub write_of : List ℕ → ℕ → List (List ℕ) → Request
write_of handle offset parts = request.Write handle offset (joined_pieces parts)

-- The WRITE is last in the queue, cut as it was passed in, and is kept under its id.
abbrev pub queued_parts : Core → ℕ → List ℕ → ℕ → List (List ℕ) → Core
queued_parts core id handle offset parts =
    record core {
      queue = core.queue ++ (id, write_of handle offset parts) ∷ [];
      pieces = core.pieces ++ request_head (write_of handle offset parts) id ∷ filled_of parts;
      table = fin.insert core.table id (Waiting (expected_of (write_of handle offset parts)) false true);
    }

-- A core whose queue holds only the hello.
abbrev pub fresh : SftpOptions → Core
fresh options =
    record {
      options = options;
      hello_sent = false;
      phase = Greeting;
      queue = (0, request.Init 3) ∷ [];
      pieces =
          whole 0 (request.Init 3);
      table = fin.empty;
      fault = None;
    }

-- ---- Reported numbers

-- The number of queued frames, including the hello.
abbrev pub queued_of : Core → ℕ
queued_of core = length core.queue

-- The number of frames that were handed out and have no reply, including the hello.
abbrev pub awaited_of : Core → ℕ
awaited_of core = count is_sent core.table + (if core.hello_sent then hello_of core.phase else 0)

-- The number of frames without a reply, including the hello.
abbrev pub unanswered_of : Core → ℕ
unanswered_of core = count is_waiting core.table + hello_of core.phase

-- The number of ids in use, including the hello.
abbrev pub kept_of : Core → ℕ
kept_of core = fin.len core.table + hello_of core.phase

-- ---- Tickets and grants

-- The reply that was taken for a ticket, if there is one.
abbrev pub reply_in : Option IdRecord → Option Reply
reply_in None = None
reply_in (Some (Waiting expected sent wanted)) = None
reply_in (Some (Answered expected r)) = Some r
reply_in (Some (Granted handle users)) = None

-- True if the core returned a ticket with this number, and still counts it.
abbrev pub is_ticket : Option IdRecord → Bool
is_ticket None = false
is_ticket (Some (Waiting expected sent wanted)) = wanted
is_ticket (Some (Answered expected r)) = true
is_ticket (Some (Granted handle users)) = false

-- The users of a grant, 0 if there is none under the id.
abbrev pub users_of : Option IdRecord → ℕ
users_of None = 0
users_of (Some (Waiting expected sent wanted)) = 0
users_of (Some (Answered expected r)) = 0
users_of (Some (Granted handle users)) = users

-- The core counts users of this grant.
pub record IsGrant (core : Core) (grant : GrantValue) : Type 0 where
  pub kept : record_at core grant.id ≡ Some (Granted grant.handle (users_of (record_at core grant.id)))
  pub used : 0 < users_of (record_at core grant.id)

-- A CLOSE is owed here, and no request of this record is in the queue.
abbrev pub MayClose : Option IdRecord → Type 0
MayClose None = ⊥
MayClose (Some held) = (is_owing held ≡ true) × (is_unsent held ≡ false)

-- The record may be freed unless its request is in the queue.
abbrev pub MayFree : Option IdRecord → Type 0
MayFree None = ⊥
MayFree (Some held) = is_unsent held ≡ false

-- A reply that brought this handle, or none, may be dropped.
abbrev pub MayDrop : Option (List ℕ) → Option IdRecord → Type 0
MayDrop (Some handle) held = MayClose held
MayDrop None held = MayFree held

-- ---- Submit

-- True for a request of a call: the hello and the query for limits are the core's own.
abbrev pub is_call : Request → Bool
is_call (request.Init version) = false
is_call request.LimitsQuery = false
is_call other = true

-- A kept fault comes before the length.
abbrev pub refusal_of : Option Fault → Bool → Option SubmitError
refusal_of (Some fault) long = Some (submit.Failed fault)
refusal_of None true = Some submit.TooLong
refusal_of None false = None

-- The error that refuses a request: a kept fault, checked first, and then its length.
abbrev pub submit_refusal : Core → Request → Option SubmitError
submit_refusal core asked = refusal_of core.fault (is_too_long asked)

-- The refusal is no kept fault.
abbrev pub IsNoFault : Option SubmitError → Type 0
IsNoFault (Some (submit.Failed fault)) = ⊥
IsNoFault other = ⊤

-- An error is the first refusal, or out of memory if no fault is kept.
abbrev pub IsSubmitError : SubmitError → Option SubmitError → Type 0
IsSubmitError submit.OutOfMemory refusal = IsNoFault refusal
IsSubmitError submit.TooLong refusal = refusal ≡ Some submit.TooLong
IsSubmitError (submit.Failed fault) refusal = refusal ≡ Some (submit.Failed fault)

-- The request is not refused: it is last in the queue under an id that was free.
abbrev pub QueuesRequest : Core → Request → ℕ → Core → Type 0
QueuesRequest old asked id new = (record_at old id ≡ None) × (new ≡ queued_last old id asked true)
    × (submit_refusal old asked ≡ None)

-- The same for a WRITE that is cut into parts.
abbrev pub SubmittedParts : Core → List ℕ → ℕ → List (List ℕ) → ℕ → Core → Type 0
SubmittedParts old handle offset parts id new = (record_at old id ≡ None)
    × (new ≡ queued_parts old id handle offset parts)
    × (submit_refusal old (write_of handle offset parts) ≡ None)

-- ---- Handing out

-- The queue is empty, and each request counts as sent.
abbrev pub handed_out : Core → Core
handed_out core = record core { hello_sent = true; queue = []; pieces = []; table = all_sent core.table }

-- ---- Poll

-- A handle comes as a grant.
abbrev pub polled_grant : ℕ → Reply → Option (List ℕ) → Polled
polled_grant ticket r (Some handle) = polled.Granted (record { id = ticket; handle = handle })
polled_grant ticket r None = polled.Reply r

-- A taken reply comes before a fault, and the ticket comes back if there is neither.
abbrev pub poll_gives : ℕ → Option Fault → Option IdRecord → Result Polled ℕ
poll_gives ticket fault (Some (Answered expected r)) = Ok (polled_grant ticket r (handle_in_reply r))
poll_gives ticket (Some fault) (Some (Waiting expected sent wanted)) = Ok (polled.Failed fault)
poll_gives ticket None (Some (Waiting expected sent wanted)) = Err ticket
poll_gives ticket fault (Some (Granted handle users)) = Err ticket
poll_gives ticket fault None = Err ticket

-- A grant with one user replaces the reply that brought its handle.
abbrev pub given_leaves : Core → ℕ → Option (List ℕ) → Core
given_leaves core ticket (Some handle) = with_record core ticket (Granted handle 1)
given_leaves core ticket None = without_record core ticket

-- After a fault the ticket is no longer counted, and the request stays until its reply.
abbrev pub poll_leaves : Core → ℕ → Option Fault → Option IdRecord → Core
poll_leaves core ticket fault (Some (Answered expected r)) = given_leaves core ticket (handle_in_reply r)
poll_leaves core ticket (Some fault) (Some (Waiting expected sent wanted)) =
    with_record core ticket (Waiting expected sent false)
poll_leaves core ticket None (Some (Waiting expected sent wanted)) = core
poll_leaves core ticket fault (Some (Granted handle users)) = core
poll_leaves core ticket fault None = core

-- The result of a poll.
abbrev pub polled_with : Core → ℕ → Result Polled ℕ
polled_with core ticket = poll_gives ticket core.fault (record_at core ticket)

-- The core after a poll.
abbrev pub after_poll : Core → ℕ → Core
after_poll core ticket = poll_leaves core ticket core.fault (record_at core ticket)

-- ---- Abandon

-- A reply that nobody expects is dropped; the CLOSE of its handle is queued in its place.
abbrev pub core_after_drop : Core → ℕ → Option (List ℕ) → Core
core_after_drop core id (Some handle) = queued_last core id (request.Close handle) false
core_after_drop core id None = without_record core id

-- A request stays until its reply, and a reply that was taken is dropped.
abbrev pub abandon_leaves : Core → ℕ → Option IdRecord → Core
abandon_leaves core ticket (Some (Waiting expected sent wanted)) = with_record core ticket (Waiting expected sent false)
abandon_leaves core ticket (Some (Answered expected r)) = core_after_drop core ticket (handle_in_reply r)
abandon_leaves core ticket (Some (Granted handle users)) = core
abandon_leaves core ticket None = core

-- The core after an abandon.
abbrev pub core_after_abandon : Core → ℕ → Core
core_after_abandon core ticket = abandon_leaves core ticket (record_at core ticket)

-- ---- Retain and release

-- A grant has another user.
abbrev pub core_after_retain : Core → GrantValue → Core
core_after_retain core grant = with_record core grant.id (Granted grant.handle (users_of (record_at core grant.id) + 1))

-- The last user's release returns the ticket of the CLOSE.
abbrev pub release_gives : GrantValue → ℕ → Option ℕ
release_gives grant users = if users == 1 then Some grant.id else None

-- The last user's release queues the CLOSE in the grant's place.
abbrev pub release_leaves : Core → GrantValue → ℕ → Core
release_leaves core grant users =
    if users == 1 then queued_last core grant.id (request.Close grant.handle) true else
    with_record core grant.id (Granted grant.handle (users - 1))

-- The core after a release.
abbrev pub core_after_release : Core → GrantValue → Core
core_after_release core grant = release_leaves core grant (users_of (record_at core grant.id))

-- ---- Fail

-- A fault is kept if none was kept.
abbrev pub failed_with : Core → Fault → Core
failed_with core fault = record core { fault = Some (unwrap_or core.fault fault) }
