-- believed: journal_of
-- The journal of a trace.
use Rattle.std.specs.Prelude.{ℕ, List, [], ◌∷◌, map, reverse}
use Rattle.sftp_model.specs.declared.request.Request.{Request}
use Rattle.session_model.specs.declared.event.Event.{Event}
use Rattle.session_model.specs.declared.event.Event.TheVariants.{Submit}
use Rattle.session_model.specs.declared.entry.Entry.{Entry}
use Rattle.session_model.specs.declared.entry.Entry.TheVariants as entry

-- The entries of these events, the newest first.
abbrev pub journal_of : List Event → List Entry
journal_of events = reverse (map (λ e. entry.Event e) events)

-- The id and request that an event submits.
abbrev pub submitted_request : Event → List (ℕ × Request)
submitted_request (Submit by id r) = (id, r) ∷ []
submitted_request other = []
