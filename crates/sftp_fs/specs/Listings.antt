-- The listing of a directory as its user sees it, and the result of polling it.
use Rattle.std.specs.Prelude.{
  ◌≡◌,
  ◌≢◌,
  ◌==◌,
  ℕ,
  Bool,
  true,
  false,
  List,
  [],
  ◌∷◌,
  Option,
  Some,
  None,
  Result,
  Ok,
  Err,
  if◌then◌else◌,
}
use Rattle.sftp_model.specs.Numbers.{SSH_FX_EOF}
use Rattle.sftp_model.specs.declared.answers.Expected.TheVariants as expected
use Rattle.sftp_model.specs.declared.error.Error.{Error}
use Rattle.sftp_model.specs.declared.error.Error.TheVariants as error
use Rattle.sftp_model.specs.declared.error.Fault.{Fault}
use Rattle.sftp_model.specs.declared.reply.NameEntry.{NameEntry}
use Rattle.sftp_model.specs.declared.reply.Reply.{Reply}
use Rattle.sftp_model.specs.declared.reply.Reply.TheVariants as reply
use Rattle.sftp_model.specs.declared.request.Request.TheVariants as request
use Rattle.sftp_core.specs.Core.{Core, IsGrant, core_after_abandon, after_poll, record_at, reply_in}
use Rattle.sftp_core.specs.Grant.{GrantValue}
use Rattle.plan_state.specs.declared.submission.Asking.TheVariants.{Whole}
use Rattle.plan_state.specs.declared.poll.Poll.{Poll}
use Rattle.plan_state.specs.declared.poll.Poll.TheVariants.{Pending, Ready}
use Rattle.plan_state.specs.Asked.{HoldsTicket, IsReady, SubmitsAsking}
use Rattle.plan_state.specs.Keeping.{KeepsGrants, SparesOthers}

-- A listing: the grant of the directory, the entries that came and were not returned yet, the ticket of the READDIR
-- whose reply is awaited, and whether the end came.
pub record ListingValue : Type 0 where
  pub grant : GrantValue
  pub entries : List NameEntry
  pub asked : Option ℕ
  pub ended : Bool

-- A listing to which nothing has come.
abbrev pub fresh_listing : GrantValue → ListingValue
fresh_listing grant = record { grant = grant; entries = []; asked = None; ended = false }

-- The result of a poll of a listing: the next entry, or None at the end.
abbrev pub ListingAnswer : Type 0
ListingAnswer = Poll (Option (Result NameEntry Error))

-- ---- Effects of a reply to a READDIR on a listing with no entry left

-- The listing that awaits no reply.
abbrev pub awaiting_none : ListingValue → ListingValue
awaiting_none p = record p { asked = None }

-- The listing whose end came.
abbrev pub at_listing_end : ListingValue → ListingValue
at_listing_end p = record p { asked = None; ended = true }

-- The result that a reply gives: the first entry, the end or a refusal.
abbrev pub entry_told : Reply → Option (Result NameEntry Error)
entry_told (reply.Names []) = None
entry_told (reply.Names (entry ∷ entries)) = Some (Ok entry)
entry_told (reply.Status code message language) = if code == SSH_FX_EOF then None else
    Some (Err (error.SftpError code message language))
entry_told other = Some (Err (error.InvalidResponse None))

-- The listing after a reply: the entries after the first one are left.
abbrev pub left_by : ListingValue → Reply → ListingValue
left_by p (reply.Names []) = at_listing_end p
left_by p (reply.Names (entry ∷ entries)) = record p { entries = entries; asked = None }
left_by p (reply.Status code message language) = if code == SSH_FX_EOF then at_listing_end p else awaiting_none p
left_by p other = awaiting_none p

-- ---- Polls

-- The first entry that is left is taken out.
abbrev pub TakesEntry : ListingValue → ListingValue → Option NameEntry → Type 0
TakesEntry p q None = (p.entries ≡ []) × (q ≡ p)
TakesEntry p q (Some entry) = (p.entries ≡ entry ∷ q.entries) × (q ≡ record p { entries = q.entries })

-- More entries were asked for, and the reply is awaited.
pub record AsksReaddir (old new : Core) (p q : ListingValue) : Type 0 where
  pub ticket : ℕ
  pub submitted : SubmitsAsking old (Whole (request.Readdir p.grant.handle)) ticket new
  pub awaits : q ≡ record p { asked = Some ticket }

-- More entries were asked for. Otherwise a recorded fault or running out of memory is reported, and nothing changed.
abbrev pub AsksMore : Core → Core → ListingValue → ListingValue → ListingAnswer → Type 0
AsksMore old new p q Pending = AsksReaddir old new p q
AsksMore old new p q (Ready (Some (Err error.OutOfMemory))) = (q ≡ p) × (new ≡ old)
AsksMore old new p q (Ready (Some (Err (error.BackgroundTaskFailure fault)))) = (old.fault ≡ Some fault) × (q ≡ p)
    × (new ≡ old)
AsksMore old new p q other = ⊥

-- The reply that was taken decides the result. Without one, a recorded fault is reported; without a fault, the reply is
-- still awaited and nothing changed.
abbrev pub HearsOf : Core → Core → ListingValue → ListingValue → ListingAnswer → ℕ → Option Reply → Option Fault
    → Type 0
HearsOf old new p q result ticket (Some r) fault = (result ≡ Ready (entry_told r)) × (q ≡ left_by p r)
    × (new ≡ after_poll old ticket)
HearsOf old new p q result ticket None (Some fault) = (result ≡ Ready (Some (Err (error.BackgroundTaskFailure fault))))
    × (q ≡ awaiting_none p)
    × (new ≡ after_poll old ticket)
HearsOf old new p q result ticket None None = (result ≡ Pending) × (q ≡ record p { asked = Some ticket }) × (new ≡ old)

abbrev pub TakesListingReply : Core → Core → ListingValue → ListingValue → ℕ → ListingAnswer → Type 0
TakesListingReply old new p q ticket result = HearsOf old new p q result ticket (reply_in (record_at old ticket))
    old.fault

-- Nothing is returned after the end. An entry that is left is returned first. Otherwise the awaited reply is received,
-- or more entries are asked for.
abbrev pub GivesAt : Core → Core → ListingValue → ListingValue → ListingAnswer → Bool → List NameEntry → Option ℕ
    → Type 0
GivesAt old new p q result true entries asked = (result ≡ Ready None) × (q ≡ p) × (new ≡ old)
GivesAt old new p q result false (entry ∷ entries) asked = (result ≡ Ready (Some (Ok entry)))
    × (q ≡ record p { entries = entries })
    × (new ≡ old)
GivesAt old new p q result false [] None = AsksMore old new p q result
GivesAt old new p q result false [] (Some ticket) = TakesListingReply old new p q ticket result

abbrev pub GivesEntries : Core → Core → ListingValue → ListingValue → ListingAnswer → Type 0
GivesEntries old new p q result = GivesAt old new p q result p.ended p.entries p.asked

-- ---- Preconditions and effects of a poll

-- No entry is left, and no reply is awaited.
pub record IsEmpty (p : ListingValue) : Type 0 where
  pub entries : p.entries ≡ []
  pub asked : p.asked ≡ None

-- The awaited ticket is a READDIR's.
abbrev pub IsAwaiting : Core → Option ℕ → Type 0
IsAwaiting core None = Unit {0}
IsAwaiting core (Some ticket) = HoldsTicket core ticket expected.Names

-- The core counts a user of the directory, and the awaited ticket.
pub record IsListing (core : Core) (p : ListingValue) : Type 0 where
  pub granted : IsGrant core p.grant
  pub awaits : IsAwaiting core p.asked

-- A listing may be polled: it may ask for more entries.
pub record MayList (core : Core) (p : ListingValue) : Type 0 where
  pub listing : IsListing core p
  pub ready : IsReady core

-- The number is not that of the READDIR whose reply is awaited.
abbrev pub IsNoneAsked : Option ℕ → ℕ → Type 0
IsNoneAsked None id = Unit {0}
IsNoneAsked (Some ticket) id = id ≢ ticket

-- A poll returned the next result. The listing may be polled further or given up. Every grant stays, and what others
-- await is still theirs.
pub record PollsEntries (old new : Core) (p q : ListingValue) (result : ListingAnswer) : Type 0 where
  pub gives : GivesEntries old new p q result
  pub listing : IsListing new q
  pub grants : KeepsGrants old new
  pub spares : SparesOthers old new (IsNoneAsked p.asked) (IsNoneAsked q.asked)

-- ---- Closes of listings

-- The core after the reply to a READDIR was given up.
abbrev pub given_up : Core → Option ℕ → Core
given_up core None = core
given_up core (Some ticket) = core_after_abandon core ticket
