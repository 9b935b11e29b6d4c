-- believed, except ReadsId
-- The state of one id in a journal. A table of requests by their ids follows this recursion.
use Rattle.std.specs.Prelude.{◌≡◌, ℕ, ◌==◌, Bool, true, false, List, [], ◌∷◌, Some, None, nat_lt, if◌then◌else◌}
use Rattle.sftp_model.specs.declared.reply.Reply.{Reply}
use Rattle.session_model.specs.declared.event.Event.TheVariants.{Submit, Send, Take}
use Rattle.session_model.specs.declared.entry.Entry.{Entry}
use Rattle.session_model.specs.declared.entry.Entry.TheVariants as entry
use Rattle.session_model.specs.Readings.{AskedRequest, count_submitted, asked_at, bearer, answer, count_sent}

-- The last request under an id, by its place: it waits, and was sent or not, or it has a reply.
pub data IdState : Type 0 where
  Free : IdState
  Pending : ℕ → AskedRequest → Bool → IdState
  Replied : ℕ → AskedRequest → Reply → IdState

-- The state after a Send: every request that waits is sent.
abbrev pub now_sent : IdState → IdState
now_sent Free = Free
now_sent (Pending place a was_sent) = Pending place a true
now_sent (Replied place a r) = Replied place a r

-- The state after a reply came to the last request under the id.
abbrev pub now_replied : Reply → IdState → IdState
now_replied r Free = Free
now_replied r (Pending place a was_sent) = Replied place a r
now_replied r (Replied place a other) = Replied place a r

-- The state of an id, entry by entry.
abbrev pub id_state : List Entry → ℕ → IdState
id_state [] id = Free
id_state (entry.Event (Submit by i r) ∷ past) id = if i == id then
    Pending (count_submitted past) (record { by = by; id = i; request = r }) false else id_state past id
id_state (entry.Event Send ∷ past) id = now_sent (id_state past id)
id_state (entry.Event (Take i r) ∷ past) id = if i == id then now_replied r (id_state past id) else id_state past id
id_state (_ ∷ past) id = id_state past id

-- The state agrees with the readings of the journal for the id.
abbrev pub ReadsId : List Entry → ℕ → IdState → Type 0
ReadsId past id Free = bearer past id ≡ None
ReadsId past id (Pending place a was_sent) =
    (bearer past id ≡ Some place) × (answer past place ≡ None) × (was_sent ≡ nat_lt place (count_sent past))
    × (asked_at past place ≡ Some a)
ReadsId past id (Replied place a r) = (bearer past id ≡ Some place) × (answer past place ≡ Some r)
    × (asked_at past place ≡ Some a)
