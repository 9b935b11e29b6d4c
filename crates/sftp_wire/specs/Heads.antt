-- believed
-- A frame and the content at its end.
use Rattle.std.specs.Prelude.{ℕ, List, [], ◌++◌, length}
use Rattle.ssh_encoding.specs.Writing.{uint32, uint64, string}
use Rattle.sftp_model.specs.Numbers.{SSH_FXP_WRITE}
use Rattle.sftp_model.specs.Frames.{of_type, request_body, request_frame}
use Rattle.sftp_model.specs.declared.request.Request.{Request}
use Rattle.sftp_model.specs.declared.request.Request.TheVariants as request

-- The content of a WRITE, which ends its frame.
abbrev pub content_of : Request → List ℕ
content_of (request.Write handle offset content) = content
content_of other = []

-- The frame of a request without its content.
abbrev pub request_head : Request → ℕ → List ℕ
request_head (request.Write handle offset content) id =
    uint32 (length (request_body (request.Write handle offset content) id))
    ++ of_type SSH_FXP_WRITE id (string handle ++ uint64 offset ++ uint32 (length content))
request_head other id = request_frame other id
