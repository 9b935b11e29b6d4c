-- The grant whose handle a request has, by a journal. A grant is the place of a request that a HANDLE answered.
use Rattle.std.specs.Prelude.{
  ◌≡◌,
  ◌<◌,
  ℕ,
  ◌==◌,
  ◌⊎◌,
  Bool,
  true,
  false,
  ◌&&◌,
  List,
  [],
  ◌∷◌,
  Option,
  Some,
  None,
  if◌then◌else◌,
}
use Rattle.std.specs.Str.{bytes_eq}
use Rattle.sftp_model.specs.declared.reply.Reply.{Reply}
use Rattle.sftp_model.specs.declared.reply.Reply.TheVariants as reply
use Rattle.sftp_model.specs.declared.request.Request.{Request}
use Rattle.sftp_model.specs.declared.request.Request.TheVariants as request
use Rattle.plan_model.specs.Moves.{Own}
use Rattle.session_model.specs.declared.entry.Entry.{Entry}
use Rattle.session_model.specs.declared.entry.Entry.TheVariants as entry
use Rattle.session_model.specs.declared.event.Event.TheVariants.{Submit}
use Rattle.session_model.specs.declared.event.Owner.{Owner}
use Rattle.session_model.specs.declared.event.Owner.TheVariants as owner
use Rattle.session_model.specs.Calls.{Setting}
use Rattle.session_model.specs.Grants.{
  closed_grants,
  closes,
  first_below,
  holds,
  is_asked_by,
  is_close,
  is_one_of,
  next_due,
}
use Rattle.session_model.specs.Readings.{AskedRequest, answer, count_submitted, asked_at, own}

-- ---- Handles

-- The request has the handle.
abbrev pub BearsHandle : Request → List ℕ → Type 0
BearsHandle (request.Close handle) h = handle ≡ h
BearsHandle (request.Read handle offset len) h = handle ≡ h
BearsHandle (request.Write handle offset content) h = handle ≡ h
BearsHandle (request.Fstat handle) h = handle ≡ h
BearsHandle (request.Fsetstat handle attrs) h = handle ≡ h
BearsHandle (request.Readdir handle) h = handle ≡ h
BearsHandle (request.Fsync handle) h = handle ≡ h
BearsHandle (request.CopyData from from_offset len to to_offset) h = (from ≡ h) ⊎ (to ≡ h)
BearsHandle other h = ⊥

-- True if the reply is a HANDLE with these bytes.
abbrev pub is_handle_reply : Option Reply → List ℕ → Bool
is_handle_reply (Some (reply.Handle handle)) h = bytes_eq handle h
is_handle_reply other h = false

-- ---- The grant of a handle

-- Of the grants that a lane holds, the one of the least place that has this handle.
abbrev pub held_with : Setting → List Entry → ℕ → List ℕ → Option ℕ
held_with s past lane h = first_below (λ g. holds s past g lane && is_handle_reply (answer past g) h)
    (count_submitted past)

-- The grant that the first of a call's requests brought, if it has this handle, and otherwise one that the lane holds.
abbrev pub used_in : Setting → List Entry → ℕ → Own → List ℕ → Option ℕ
used_in s past lane [] h = held_with s past lane h
used_in s past lane (first ∷ later) h = if is_handle_reply (answer past first.0) h then Some first.0 else
    held_with s past lane h

-- The session itself uses no grant except in a CLOSE.
abbrev pub used_by : Setting → List Entry → Owner → List ℕ → Option ℕ
used_by s past (owner.Call lane call) h = used_in s past lane (own past lane call) h
used_by s past owner.Setup h = None
used_by s past owner.Close h = None

-- The grant whose handle the request that is submitted next has; for a CLOSE, the one that it closes.
abbrev pub used_now : Setting → List Entry → Owner → Request → List ℕ → Option ℕ
used_now s past by r h = if is_close r then closes s past (closed_grants s past) by else used_by s past by h

-- The grant whose handle the request at a place has.
abbrev pub grant_used_at : Setting → List Entry → ℕ → List ℕ → Option ℕ
grant_used_at s [] place h = None
grant_used_at s (entry.Event (Submit by id r) ∷ past) place h = if place == count_submitted past then
    used_now s past by r h else
    grant_used_at s past place h
grant_used_at s (_ ∷ past) place h = grant_used_at s past place h

-- ---- Properties of the grant

-- A lane uses grants that it holds, and the session closes the grant that is to be closed next.
abbrev pub MayUse : Setting → List Entry → Owner → ℕ → Type 0
MayUse s past (owner.Call lane call) g = holds s past g lane ≡ true
MayUse s past owner.Setup g = ⊥
MayUse s past owner.Close g = next_due s past ≡ Some g

-- The request, submitted next, has the handle of a grant: a HANDLE brought it, the grant has no CLOSE yet, and the
-- asker may use it.
pub record BearsGrant (s : Setting) (past : List Entry) (by : Owner) (r : Request) (h : List ℕ) : Type 0 where
  pub grant : ℕ
  pub is : used_now s past by r h ≡ Some grant
  pub came : answer past grant ≡ Some (reply.Handle h)
  pub unclosed : is_one_of (closed_grants s past) grant ≡ false
  pub may : MayUse s past by grant

-- A lane's call asked for the grant: a call of the lane that uses it, if a lane does.
abbrev pub IsOfAsker : List Entry → Owner → ℕ → Type 0
IsOfAsker past (owner.Call lane call) g = (earlier : ℕ) × (is_asked_by (asked_at past g) lane earlier ≡ true)
IsOfAsker past owner.Setup g = ⊥
IsOfAsker past owner.Close g = (lane call : ℕ) × (is_asked_by (asked_at past g) lane call ≡ true)

-- The request at a place has the handle of an earlier grant, which a call of its lane asked for.
pub record UsesGrant (s : Setting) (past : List Entry) (place : ℕ) (by : Owner) (h : List ℕ) : Type 0 where
  pub grant : ℕ
  pub is : grant_used_at s past place h ≡ Some grant
  pub before : grant < place
  pub came : answer past grant ≡ Some (reply.Handle h)
  pub asker : IsOfAsker past by grant

-- The request at a place has the handle of the grant.
pub record UsesAt (s : Setting) (past : List Entry) (place g : ℕ) : Type 0 where
  pub a : AskedRequest
  pub handle : List ℕ
  pub at : asked_at past place ≡ Some a
  pub bears : BearsHandle a.request handle
  pub is : grant_used_at s past place handle ≡ Some g

-- The request at a place is the CLOSE of the grant.
pub record ClosesAt (s : Setting) (past : List Entry) (place g : ℕ) : Type 0 where
  pub a : AskedRequest
  pub handle : List ℕ
  pub at : asked_at past place ≡ Some a
  pub closes : a.request ≡ request.Close handle
  pub is : grant_used_at s past place handle ≡ Some g

-- ---- The grant of a request

-- The handle on which a request works; for a copy, that of the file that it writes.
abbrev pub subject : Request → Option (List ℕ)
subject (request.Close handle) = Some handle
subject (request.Read handle offset len) = Some handle
subject (request.Write handle offset content) = Some handle
subject (request.Fstat handle) = Some handle
subject (request.Fsetstat handle attrs) = Some handle
subject (request.Readdir handle) = Some handle
subject (request.Fsync handle) = Some handle
subject (request.CopyData from from_offset len to to_offset) = Some to
subject other = None

abbrev pub subject_at : Option AskedRequest → Option (List ℕ)
subject_at None = None
subject_at (Some a) = subject a.request

-- The grant that has the handle, if there is one.
abbrev pub grant_with : (List ℕ → Option ℕ) → Option (List ℕ) → Option ℕ
grant_with grants None = None
grant_with grants (Some h) = grants h

-- The grant of the handle on which the request at a place works.
abbrev pub grant_at : Setting → List Entry → ℕ → Option ℕ
grant_at s past place = grant_with (grant_used_at s past place) (subject_at (asked_at past place))
