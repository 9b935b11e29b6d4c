-- The requests and replies of a list of calls under each id, and the law that the two take turns.
use Rattle.std.specs.Prelude.{
  ◌≡◌,
  ℕ,
  ◌==◌,
  Bool,
  true,
  false,
  cond,
  List,
  [],
  ◌∷◌,
  ◌++◌,
  Option,
  None,
  Some,
  if◌then◌else◌,
  IsTrue,
  IsSome,
}
use Rattle.sftp_model.specs.declared.error.Fault.{Fault}
use Rattle.sftp_model.specs.declared.flags.Extensions.{Extensions}
use Rattle.sftp_model.specs.declared.reply.Reply.{Reply}
use Rattle.sftp_model.specs.declared.request.Request.{Request}
use Rattle.sftp_core.specs.declared.handshake.Handshake.{Handshake}
use Rattle.sftp_core.specs.declared.handshake.Handshake.TheVariants.{Greeting, Asking, Open}
use Rattle.sftp_core.specs.declared.id_record.IdRecord.{IdRecord}
use Rattle.sftp_core.specs.declared.id_record.IdRecord.TheVariants.{Waiting, Answered, Granted}
use Rattle.sftp_core.specs.Grant.{GrantValue}
use Rattle.sftp_core.specs.Info.{info_of}
use Rattle.sftp_model.specs.Lengths.{offers_limits}
use Rattle.sftp_core.specs.Table.{handle_in_reply}
use Rattle.sftp_core.specs.Core.{
  Core,
  record_at,
  queued_last,
  queued_parts,
  handed_out,
  after_poll,
  core_after_abandon,
  core_after_retain,
  core_after_release,
  failed_with,
  is_ticket,
  users_of,
  IsGrant,
}
use Rattle.sftp_core.specs.Take.{Read, wrong_in, core_after_reply, extensions_in}

-- A request was made under an id, or was answered.
pub data IdEvent : Type 0 where
  Asked : ℕ → IdEvent
  Replied : ℕ → IdEvent

-- No request is made under the id while one has no reply, and a reply comes only to such a request. `waits`: one has no
-- reply so far.
abbrev pub TakeTurns : ℕ → Bool → List IdEvent → Type 0
TakeTurns id waits [] = Unit {0}
TakeTurns id waits (Asked other ∷ rest) = (id ≡ other → waits ≡ false)
    × TakeTurns id (cond (id == other) true waits) rest
TakeTurns id waits (Replied other ∷ rest) = (id ≡ other → waits ≡ true)
    × TakeTurns id (cond (id == other) false waits) rest

-- ---- The calls

-- A call that changes a core, with the id that a submit returns and the reply that a frame is read as.
pub data CoreCall : Type 0 where
  Submit : ℕ → Request → CoreCall
  SubmitParts : ℕ → List ℕ → ℕ → List (List ℕ) → CoreCall
  Take : Read → CoreCall
  Abandon : ℕ → CoreCall
  Release : GrantValue → CoreCall
  Retain : GrantValue → CoreCall
  Poll : ℕ → CoreCall
  HandOut : CoreCall
  Fail : Fault → CoreCall

-- The condition of a call that changes the core, including the facts that it ensures about an id.
abbrev pub MayMakeCall : Core → CoreCall → Type 0
MayMakeCall core (Submit id request) = IsSome (info_of core.phase) × (record_at core id ≡ None)
MayMakeCall core (SubmitParts id handle offset parts) = IsSome (info_of core.phase) × (record_at core id ≡ None)
MayMakeCall core (Take read) = wrong_in core core.phase read.0 read.1 ≡ None
MayMakeCall core (Abandon ticket) = IsTrue (is_ticket (record_at core ticket))
MayMakeCall core (Release grant) = IsGrant core grant
MayMakeCall core (Retain grant) = IsGrant core grant
MayMakeCall core (Poll ticket) = IsTrue (is_ticket (record_at core ticket))
MayMakeCall core HandOut = Unit {0}
MayMakeCall core (Fail f) = Unit {0}

-- The core after a call.
abbrev pub core_after_call : Core → CoreCall → Core
core_after_call core (Submit id request) = queued_last core id request true
core_after_call core (SubmitParts id handle offset parts) = queued_parts core id handle offset parts
core_after_call core (Take read) = core_after_reply core read
core_after_call core (Abandon ticket) = core_after_abandon core ticket
core_after_call core (Release grant) = core_after_release core grant
core_after_call core (Retain grant) = core_after_retain core grant
core_after_call core (Poll ticket) = after_poll core ticket
core_after_call core HandOut = handed_out core
core_after_call core (Fail f) = failed_with core f

-- ---- The requests and replies of each call

-- The CLOSE of a handle that nobody expects.
abbrev pub close_signs : ℕ → Option (List ℕ) → List IdEvent
close_signs id (Some handle) = Asked id ∷ []
close_signs id None = []

-- A reply, and the CLOSE of a handle that nobody expects.
abbrev pub answer_signs : ℕ → Option IdRecord → Reply → List IdEvent
answer_signs id (Some (Waiting expected sent true)) r = Replied id ∷ []
answer_signs id (Some (Waiting expected sent false)) r = Replied id ∷ close_signs id (handle_in_reply r)
answer_signs id (Some (Answered expected other)) r = []
answer_signs id (Some (Granted handle users)) r = []
answer_signs id None r = []

-- The query for limits, under the id 0.
abbrev pub greeting_signs : Option Extensions → List IdEvent
greeting_signs (Some extensions) = if offers_limits extensions then Asked 0 ∷ [] else []
greeting_signs None = []

-- The requests and replies of a take, by how far the greeting has come.
abbrev pub take_signs : Core → Handshake → Option ℕ → Reply → List IdEvent
take_signs core Greeting id r = greeting_signs (extensions_in r)
take_signs core (Asking extensions) None r = []
take_signs core (Asking extensions) (Some id) r = answer_signs id (record_at core id) r
take_signs core (Open info) None r = []
take_signs core (Open info) (Some id) r = answer_signs id (record_at core id) r

-- The CLOSE of a handle that came before.
abbrev pub abandon_signs : ℕ → Option IdRecord → List IdEvent
abandon_signs id (Some (Waiting expected sent wanted)) = []
abandon_signs id (Some (Answered expected r)) = close_signs id (handle_in_reply r)
abandon_signs id (Some (Granted handle users)) = []
abandon_signs id None = []

-- The CLOSE after the last user.
abbrev pub release_signs : ℕ → ℕ → List IdEvent
release_signs id users = if users == 1 then Asked id ∷ [] else []

-- The requests and replies of a call.
abbrev pub id_events_of : Core → CoreCall → List IdEvent
id_events_of core (Submit id request) = Asked id ∷ []
id_events_of core (SubmitParts id handle offset parts) = Asked id ∷ []
id_events_of core (Take read) = take_signs core core.phase read.0 read.1
id_events_of core (Abandon ticket) = abandon_signs ticket (record_at core ticket)
id_events_of core (Release grant) = release_signs grant.id (users_of (record_at core grant.id))
id_events_of core (Retain grant) = []
id_events_of core (Poll ticket) = []
id_events_of core HandOut = []
id_events_of core (Fail f) = []

-- A list of calls, each under its condition.
abbrev pub MayAll : Core → List CoreCall → Type 0
MayAll core [] = Unit {0}
MayAll core (call ∷ calls) = MayMakeCall core call × MayAll (core_after_call core call) calls

-- The requests and replies of a list of calls.
abbrev pub all_signs : Core → List CoreCall → List IdEvent
all_signs core [] = []
all_signs core (call ∷ calls) = id_events_of core call ++ all_signs (core_after_call core call) calls
