-- The bytes of a queue.
use Rattle.std.specs.Prelude.{ℕ, ◌≤◌, ◌<◌, List, length}
use Rattle.std.specs.List.{All, flat_map}
use Rattle.sftp_model.specs.Numbers.{MAX_BODY_LEN}
use Rattle.sftp_model.specs.Frames.{request_body, request_frame}
use Rattle.sftp_model.specs.declared.request.Request.{Request}

-- The body of a queued request is within the limit of frames.
abbrev pub IsShort : ℕ × Request → Type 0
IsShort queued = length (request_body queued.1 queued.0) ≤ MAX_BODY_LEN

-- No piece is empty.
abbrev pub AreFilled : List (List ℕ) → Type 0
AreFilled pieces = All (λ piece. 0 < length piece) pieces
