-- Preconditions of the calls of a lane, each as one record, and the effect of a poll.
use Rattle.std.specs.Prelude.{◌≡◌, ◌<◌, ◌≤◌, ◌^◌, ℕ, true, Option, Some, None, is_some, length, vec_len, vec_capacity}
use Rattle.std.specs.FinMap as fin
use Rattle.sftp_model.specs.declared.reply.Reply.{Reply}
use Rattle.sftp_model.specs.declared.slot.Facts.{Facts}
use Rattle.sftp_model.specs.declared.slot.Site.{Site}
use Rattle.sftp_core.specs.Core.{Core}
use Rattle.sftp_core.specs.Info.{MAX_IDS}
use Rattle.plan_model.specs.declared.call.Call.{Call}
use Rattle.plan_model.specs.Lanes.{is_within}
use Rattle.plan_runner.specs.declared.next.Running.{Running}
use Rattle.plan_runner.specs.Runners.{after, bytes_of}
use Rattle.plan_runner.specs.Sound.{AreWithin, AsksWithin, IsFittingReply}
use Rattle.session_laws.specs.Lanes.{LaneValue, ticket_places}
use Rattle.session_laws.specs.Places.{IsRising, is_in}
use Rattle.session_work.specs.declared.tokens.Tokens.{Tokens}
use Rattle.session_work.specs.Tokens.{AreGrants, AreCounted}
use Rattle.session_work.specs.Turning.{AllFit, AllInRange, HasAwaited, HasDeferred, HoldsNamed, IsOpen, IsSafe}

-- The precondition of a lane's turn. Its call is within its ranges. The core counts what the lane holds, is open and
-- has an id to spare. The call may continue with the reply that came.
pub record MayTurn (c : Call) (facts : Facts) (core : Core) (v : LaneValue) : Type 0 where
  pub within : is_within c ≡ true
  pub counted : AreCounted core v.tickets
  pub held : AreGrants core v.grants
  pub ready : IsOpen core
  pub few : fin.len core.table < MAX_IDS
  pub safe : IsSafe c facts v.running v.site
  pub fits : AllFit core v.tickets v.running v.site
  pub range : AllInRange c facts core v.tickets v.running v.site
  pub awaits : HasAwaited v
  pub holds : HoldsNamed v

-- A started call is given up.
pub record MayGiveUp (core : Core) (v : LaneValue) : Type 0 where
  pub begun : is_some v.running ≡ true
  pub awaits : HasAwaited v
  pub deferred : HasDeferred v.site v.tickets
  pub counted : AreCounted core v.tickets
  pub rising : IsRising (ticket_places v.tickets)
  pub unfailed : core.fault ≡ None
  pub few : v.ended < 2 ^ 31

-- The precondition of starting a call: it is within its ranges, its lane has sixteen slots, and the bytes that these
-- buffer are within the limits.
pub record MayBegin (c : Call) (facts : Facts) (site : Site) : Type 0 where
  pub within : is_within c ≡ true
  pub sixteen : length site.slots ≡ 16
  pub limits : AreWithin facts site

-- The call continues with the reply that came, and its next request is within the range of offsets.
pub record MayResume (c : Call) (facts : Facts) (r : Running) (reply : Option Reply) (site : Site) : Type 0 where
  pub safe : IsSafe c facts (Some r) site
  pub fits : IsFittingReply r reply
  pub range : AsksWithin facts (after r (bytes_of c) site facts reply)

-- The precondition of submitting a request: there is room for its ticket, the grants are the core's, and the core is
-- open and has an id.
pub record CanSubmit (core : Core) (tokens : Tokens) : Type 0 where
  pub room : vec_len tokens.tickets < vec_capacity tokens.tickets
  pub held : AreGrants core tokens.grants.items
  pub ready : IsOpen core
  pub few : fin.len core.table < MAX_IDS

-- The precondition of polling the ticket of a place: it exists, the core counts it, and there is room for a grant.
pub record CanPoll (core : Core) (tokens : Tokens) (place : ℕ) : Type 0 where
  pub counted : AreCounted core tokens.tickets.items
  pub awaited : is_in place (ticket_places tokens.tickets.items) ≡ true
  pub unfailed : core.fault ≡ None
  pub room : vec_len tokens.grants < vec_capacity tokens.grants

-- The effect of a poll, with any reply: the grants are the core's, it is open, and there are no more ids or tickets
-- than before.
pub record LeavesTokens (old new : Core) (before now : Tokens) : Type 0 where
  pub held : AreGrants old before.grants.items → AreGrants new now.grants.items
  pub ready : IsOpen old → IsOpen new
  pub few : fin.len new.table ≤ fin.len old.table
  pub len : vec_len now.tickets ≤ vec_len before.tickets
  pub capacity : vec_capacity now.tickets ≡ vec_capacity before.tickets
