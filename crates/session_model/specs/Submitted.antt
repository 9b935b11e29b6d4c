-- Requests of a session's journal, by their places.
use Rattle.std.specs.Prelude.{ℕ, List, Option, Some, None}
use Rattle.sftp_model.specs.declared.request.Request.{Request}
use Rattle.session_model.specs.declared.entry.Entry.{Entry}
use Rattle.session_model.specs.Readings.{AskedRequest, asked_at}

-- The request that was asked, if there was one.
abbrev pub submitted_request : Option AskedRequest → Option Request
submitted_request None = None
submitted_request (Some a) = Some a.request

abbrev pub submitted_at : List Entry → ℕ → Option Request
submitted_at past place = submitted_request (asked_at past place)
