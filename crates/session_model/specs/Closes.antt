-- believed, except closes_of
-- How often a handle was granted and closed: a HANDLE brings it (draft-ietf-secsh-filexfer-02, sections 6.3 and 6.7),
-- and a CLOSE carries it (section 6.3).
use Rattle.std.specs.Prelude.{◌≡◌, ℕ, List, [], ◌∷◌}
use Rattle.std.specs.List.{count_by}
use Rattle.std.specs.Str.{bytes_eq}
use Rattle.sftp_model.specs.declared.request.Request.{Request}
use Rattle.sftp_model.specs.declared.request.Request.TheVariants as request
use Rattle.sftp_model.specs.declared.reply.Reply.{Reply}
use Rattle.sftp_model.specs.declared.reply.Reply.TheVariants as reply
use Rattle.session_model.specs.declared.event.Event.TheVariants.{Submit, Take}
use Rattle.session_model.specs.declared.entry.Entry.{Entry}
use Rattle.session_model.specs.declared.entry.Entry.TheVariants as entry
use Rattle.session_model.specs.Readings.{is_at}
use Rattle.session_model.specs.Calls.{Setting}
use Rattle.session_model.specs.Grants.{closed_grants}

-- These handles, and the one that a HANDLE brings.
abbrev pub with_granted : Reply → List (List ℕ) → List (List ℕ)
with_granted (reply.Handle handle) handles = handle ∷ handles
with_granted other handles = handles

-- The handles that replies brought, the newest first.
abbrev pub granted_handles : List Entry → List (List ℕ)
granted_handles [] = []
granted_handles (entry.Event (Take id r) ∷ past) = with_granted r (granted_handles past)
granted_handles (_ ∷ past) = granted_handles past

-- These handles, and the one that a CLOSE carries.
abbrev pub with_closing : Request → List (List ℕ) → List (List ℕ)
with_closing (request.Close handle) handles = handle ∷ handles
with_closing other handles = handles

-- The handles that were closed, the newest first.
abbrev pub closed_handles : List Entry → List (List ℕ)
closed_handles [] = []
closed_handles (entry.Event (Submit by id r) ∷ past) = with_closing r (closed_handles past)
closed_handles (_ ∷ past) = closed_handles past

-- The number of times that a handle occurs among these.
abbrev pub times : List ℕ → List (List ℕ) → ℕ
times handle handles = count_by (bytes_eq handle) handles

-- Each handle was closed exactly as often as it was granted.
abbrev pub AreClosed : List Entry → Type 0
AreClosed past = (handle : List ℕ) → times handle (granted_handles past) ≡ times handle (closed_handles past)

-- The number of CLOSEs that a grant has.
abbrev pub closes_of : Setting → List Entry → ℕ → ℕ
closes_of s past grant = count_by (λ g. is_at g grant) (closed_grants s past)
