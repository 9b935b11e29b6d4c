-- believed, except IsSettled
-- Grants that a session holds, those of them that have a CLOSE, and the one to close next. A grant is the place of a
-- request that a HANDLE answered (draft-ietf-secsh-filexfer-02, sections 6.3 and 6.7).
use Rattle.std.specs.Prelude.{
  ℕ,
  zero,
  suc,
  Bool,
  true,
  false,
  not,
  ◌&&◌,
  ◌||◌,
  List,
  [],
  ◌∷◌,
  length,
  Option,
  Some,
  None,
  if◌then◌else◌,
}
use Rattle.std.specs.List.{list_any}
use Rattle.sftp_model.specs.declared.request.Request.{Request}
use Rattle.sftp_model.specs.declared.request.Request.TheVariants as request
use Rattle.sftp_model.specs.declared.reply.Reply.{Reply}
use Rattle.sftp_model.specs.Answers.{is_handle}
use Rattle.sftp_model.specs.declared.slot.Slot.{Slot}
use Rattle.sftp_model.specs.declared.slot.Site.{Site}
use Rattle.sftp_model.specs.Slots.{grant_of, slot_at, slot_has, has_grant}
use Rattle.plan_model.specs.declared.call.Call.{Call}
use Rattle.plan_model.specs.declared.call.Call.TheVariants as call
use Rattle.session_model.specs.declared.event.Owner.{Owner}
use Rattle.session_model.specs.declared.event.Owner.TheVariants as owner
use Rattle.session_model.specs.declared.event.Event.TheVariants.{Submit}
use Rattle.session_model.specs.declared.entry.Entry.{Entry}
use Rattle.session_model.specs.declared.entry.Entry.TheVariants as entry
use Rattle.session_model.specs.Readings.{AskedRequest, count_submitted, asked_at, answer, is_at, is_by, count_ended}
use Rattle.session_model.specs.Calls.{Setting, call_at, site_of, held_site}
use Rattle.std.proofs.Common.{◌≡◌, ℕ, Bool, true, false, List, [], ◌∷◌, Option, Some, None, if◌then◌else◌}

-- ---- Holders

-- True if the reply is a HANDLE.
abbrev pub is_granted : Option Reply → Bool
is_granted None = false
is_granted (Some r) = is_handle r

-- True if a HANDLE answered the request at this place.
abbrev pub is_grant : List Entry → ℕ → Bool
is_grant past place = is_granted (answer past place)

-- True if the request belongs to this call.
abbrev pub is_asked_by : Option AskedRequest → ℕ → ℕ → Bool
is_asked_by None lane call = false
is_asked_by (Some a) lane call = is_by a.by lane call

-- True if the lane's call, which hasn't ended, submitted the request at this place.
abbrev pub is_unended_asker : List Entry → ℕ → ℕ → Bool
is_unended_asker past lane place = is_asked_by (asked_at past place) lane (count_ended past lane)

-- True if a lane holds a grant by a slot or by the call that asked for it.
abbrev pub holds : Setting → List Entry → ℕ → ℕ → Bool
holds s past grant lane = has_grant (held_site s past lane) grant || is_unended_asker past lane grant

-- True if some number below n passes.
abbrev pub any_below : (ℕ → Bool) → ℕ → Bool
any_below f zero = false
any_below f (suc n) = f n || any_below f n

-- True if some lane holds the grant.
abbrev pub is_held : Setting → List Entry → ℕ → Bool
is_held s past grant = any_below (holds s past grant) (length s.lanes)

-- ---- The grant to close next

-- True if the grant is one of these.
abbrev pub is_one_of : List (Option ℕ) → ℕ → Bool
is_one_of grants grant = list_any (λ g. is_at g grant) grants

-- True for a grant that has no holder and no CLOSE, if the grants of this list have one.
abbrev pub is_due : Setting → List Entry → List (Option ℕ) → ℕ → Bool
is_due s past closed place = is_grant past place && not (is_held s past place) && not (is_one_of closed place)

-- The first number that passed, or this number if it passes.
abbrev pub first_or : Option ℕ → Bool → ℕ → Option ℕ
first_or (Some g) b n = Some g
first_or None b n = if b then Some n else None

-- The least number below n that passes.
abbrev pub first_below : (ℕ → Bool) → ℕ → Option ℕ
first_below f zero = None
first_below f (suc n) = first_or (first_below f n) (f n) n

-- This grant, unless it is to stay open; otherwise the other one.
abbrev pub grant_or : Option ℕ → (ℕ → Bool) → Option ℕ → Option ℕ
grant_or None stays other = other
grant_or (Some g) stays other = if stays g then other else Some g

-- The first grant that no later slot has and that has no CLOSE, for slots that are emptied in their order.
abbrev pub first_let_go : List (Option ℕ) → List Slot → Option ℕ
first_let_go closed [] = None
first_let_go closed (slot ∷ slots) = grant_or (grant_of slot) (λ g. list_any (slot_has g) slots || is_one_of closed g)
    (first_let_go closed slots)

-- The site of the lane that is being released: its LetGo is followed only by CLOSEs that the session submitted.
abbrev pub letting_go : Setting → List Entry → Option Site
letting_go s [] = None
letting_go s (entry.LetGo lane ∷ past) = Some (site_of s past lane)
letting_go s (entry.Event (Submit owner.Close id r) ∷ past) = letting_go s past
letting_go s (_ ∷ past) = None

-- The grant to close next, if these have a CLOSE: while a lane is released the first by its slots, otherwise the one
-- with the least place.
abbrev pub next_due_at : Setting → List Entry → List (Option ℕ) → Option Site → Option ℕ
next_due_at s past closed (Some site) = first_let_go closed site.slots
next_due_at s past closed None = first_below (is_due s past closed) (count_submitted past)

-- ---- Grants that have a CLOSE

-- The grant that a call closes: that of its slot.
abbrev pub closed_by : Option Call → Site → Option ℕ
closed_by (Some (call.Close slot)) site = grant_of (slot_at site slot)
closed_by other site = None

-- The grant that a CLOSE closes: that of its call's slot, or the one to close next.
abbrev pub closes : Setting → List Entry → List (Option ℕ) → Owner → Option ℕ
closes s past closed (owner.Call lane c) = closed_by (call_at s past lane c) (site_of s past lane)
closes s past closed owner.Setup = None
closes s past closed owner.Close = next_due_at s past closed (letting_go s past)

-- True if the request is a CLOSE.
abbrev pub is_close : Request → Bool
is_close (request.Close handle) = true
is_close other = false

-- The grants that have a CLOSE, with this one if the request is a CLOSE.
abbrev pub with_closed : Bool → Option ℕ → List (Option ℕ) → List (Option ℕ)
with_closed false grant grants = grants
with_closed true grant grants = grant ∷ grants

-- The grants that have a CLOSE, the newest first.
abbrev pub closed_grants : Setting → List Entry → List (Option ℕ)
closed_grants s [] = []
closed_grants s (entry.Event (Submit by id r) ∷ past) = with_closed (is_close r)
    (closes s past (closed_grants s past) by)
    (closed_grants s past)
closed_grants s (_ ∷ past) = closed_grants s past

-- The grant to close next.
abbrev pub next_due : Setting → List Entry → Option ℕ
next_due s past = next_due_at s past (closed_grants s past) (letting_go s past)

-- No grant is to be closed, by the order of places.
abbrev pub IsSettled : Setting → List Entry → Type 0
IsSettled s past = first_below (is_due s past (closed_grants s past)) (count_submitted past) ≡ None
