-- The part of a core that a lane holds, by its lists of tickets and grants.
use Rattle.std.specs.Prelude.{
  ◌≡◌,
  ◌≢◌,
  ◌⊎◌,
  ◌==◌,
  ◌||◌,
  ℕ,
  Bool,
  List,
  [],
  ◌∷◌,
  ◌++◌,
  Option,
  Some,
  None,
  slice_get,
  true,
  false,
}
use Rattle.std.specs.List.{list_any}
use Rattle.sftp_model.specs.declared.reply.Reply.{Reply}
use Rattle.sftp_model.specs.declared.reply.Reply.TheVariants as reply
use Rattle.sftp_model.specs.declared.request.Request.{Request}
use Rattle.sftp_model.specs.declared.slot.Slot.{Slot}
use Rattle.sftp_model.specs.declared.slot.Slot.TheVariants.{Buffered}
use Rattle.sftp_core.specs.Core.{Core, core_after_abandon, after_poll, record_at, is_ticket, reply_in}
use Rattle.sftp_core.specs.declared.id_record.IdRecord.TheVariants.{Granted}
use Rattle.plan_model.specs.Moves.{Answers}
use Rattle.plan_runner.specs.declared.next.Asked.{Asked}
use Rattle.plan_runner.specs.Runners.{request_with_handles}
use Rattle.session_laws.specs.Lanes.{Held, Ticketed, grant_places}
use Rattle.session_laws.specs.Places.{is_in, without_index}
use Rattle.session_laws.specs.Running.{grants_named}

-- Each ticket is one that the core counts.
abbrev pub AreCounted : Core → List Ticketed → Type 0
AreCounted core tickets = (k : ℕ) (t : Ticketed) → slice_get tickets k ≡ Some t → is_ticket (record_at core t.ticket)
    ≡ true

-- Each grant has one user in the core.
abbrev pub AreGrants : Core → List Held → Type 0
AreGrants core grants = (k : ℕ) (g : Held) → slice_get grants k ≡ Some g → record_at core g.grant.id
    ≡ Some (Granted g.grant.handle 1)

-- The handle is that of a grant of this place.
pub record IsGrantAt (grants : List Held) (place : ℕ) (handle : List ℕ) : Type 0 where
  pub k : ℕ
  pub held : Held
  pub here : slice_get grants k ≡ Some held
  pub stands : held.place ≡ place
  pub bears : handle ≡ held.grant.handle

-- A HANDLE that was polled is a grant.
abbrev pub grants_with : List Held → ℕ → ℕ → Reply → List Held
grants_with grants place ticket (reply.Handle handle) = grants
    ++ record { place = place; grant = record { id = ticket; handle = handle } } ∷ []
grants_with grants place ticket other = grants

-- The reply to a ticket of this place was taken, and the ticket is consumed.
pub record SpendsTicket (old new : Core) (before after : List Ticketed) (grants held : List Held) (place : ℕ)
    (r : Reply) :
    Type 0 where
  pub k : ℕ
  pub ticket : ℕ
  pub here : slice_get before k ≡ Some (record { place = place; ticket = ticket })
  pub came : reply_in (record_at old ticket) ≡ Some r
  pub core : new ≡ after_poll old ticket
  pub rest : after ≡ without_index k before
  pub now : held ≡ grants_with grants place ticket r

-- A ticket is dropped whose reply is missing or brings no handle, and no grant comes.
abbrev pub IsDropped : Core → Core → ℕ → List Held → List Held → Type 0
IsDropped old new ticket grants held = ((handle : List ℕ) → reply_in (record_at old ticket) ≢ Some
    (reply.Handle handle))
    × ((new ≡ core_after_abandon old ticket) × (held ≡ grants))

-- The HANDLE that had come is a grant.
abbrev pub IsPolled : Core → Core → ℕ → ℕ → List Held → List Held → Type 0
IsPolled old new place ticket grants held =
    (handle : List ℕ) × ((reply_in (record_at old ticket) ≡ Some (reply.Handle handle))
    × ((new ≡ after_poll old ticket) × (held ≡ grants_with grants place ticket (reply.Handle handle))))

-- A ticket of this place was given up.
pub record IsGivenUp (old new : Core) (before after : List Ticketed) (grants held : List Held) (place : ℕ) : Type 0
  where
    pub k : ℕ
    pub ticket : ℕ
    pub here : slice_get before k ≡ Some (record { place = place; ticket = ticket })
    pub rest : after ≡ without_index k before
    pub how : IsDropped old new ticket grants held ⊎ IsPolled old new place ticket grants held

-- These replies are those that the core has for each ticket.
abbrev pub TellReplies : Core → List Ticketed → Answers → Type 0
TellReplies core tickets answers = (k : ℕ) (t : Ticketed) → slice_get tickets k ≡ Some t
    → reply_in (record_at core t.ticket)
    ≡ answers t.place

-- ---- Requests

-- The replies give the handle of each grant.
abbrev pub NamesHandles : List Held → Answers → Type 0
NamesHandles grants answers = (k : ℕ) (g : Held) → slice_get grants k ≡ Some g → answers g.place
    ≡ Some (reply.Handle g.grant.handle)

-- The request is the one that was asked, with the handles of these grants.
abbrev pub IsFilledBy : List Held → Asked → Request → Type 0
IsFilledBy grants a r = (answers : Answers) → NamesHandles grants answers → r ≡ request_with_handles a answers

-- Each grant that a request names is one of these.
abbrev pub NamesHeld : List Held → Asked → Type 0
NamesHeld grants a = (g : ℕ) → is_in g (grants_named a) ≡ true → is_in g (grant_places grants) ≡ true

-- ---- Replies that slots await

-- True if there is a place and it is this one.
abbrev pub is_place : ℕ → Option ℕ → Bool
is_place place None = false
is_place place (Some reading) = reading == place

-- True if the file in a slot awaits the reply to this place.
abbrev pub slot_awaits : ℕ → Slot → Bool
slot_awaits place (Buffered file buffer) = is_place place buffer.reading
    || list_any (λ write. write.0 == place) buffer.deferred
slot_awaits place other = false
