-- A frame and the content that ends it.
use Rattle.std.proofs.Common.{◌≡◌, ◌≤◌, ℕ, List, ◌∷◌, ◌++◌, length, ap, ◌∙◌, arith, length-append, append_assoc, append-nil}
use Rattle.ssh_encoding.specs.Writing.{uint32, uint64, string}
use Rattle.sftp_model.specs.Numbers.{SSH_FXP_WRITE, MAX_BODY_LEN}
use Rattle.sftp_model.specs.Frames.{of_type, request_body, request_frame}
use Rattle.sftp_model.specs.declared.request.Request.{Request}
use Rattle.sftp_model.specs.declared.request.Request.TheVariants as request
use Rattle.sftp_wire.specs.Body.{saturated_length}
use Rattle.sftp_wire.specs.Heads.{content_of, request_head}
use Rattle.sftp_wire.proofs.Lengths.{length-string}

-- a content is no longer than its body
pub content_within : (handle : List ℕ) (offset : ℕ) (content : List ℕ) (id : ℕ)
    → length content ≤ length (request_body (request.Write handle offset content) id)
unfolding request_body
content_within handle offset content id =
    let a = length-append (uint32 id) (string handle ++ uint64 offset ++ string content) in
    let b = length-append (string handle ++ uint64 offset) (string content) in
    let d = length-string content in
    omega (arith, a, b, d)

-- so it is counted as it is
pub counted : (n limit : ℕ) (content pieces : List ℕ) → limit ≤ MAX_BODY_LEN → length content ≤ limit → pieces ≡ content
    → n ≡ saturated_length (length pieces) → n ≡ length content
counted n limit content pieces small within is measured =
    let same : length pieces ≡ length content = ap length is in omega (arith, measured, same)

-- the head and the content are the frame
pub head_and_content : (r : Request) (id : ℕ) → request_head r id ++ content_of r ≡ request_frame r id
unfolding request_body string
head_and_content (request.Write handle offset content) id =
    let flat : (string handle ++ uint64 offset ++ uint32 (length content)) ++ content ≡ string handle ++ uint64 offset
    ++ string content = append_assoc (string handle ++ uint64 offset) (uint32 (length content)) content in
    append_assoc (uint32 (length (request_body (request.Write handle offset content) id)))
    (of_type SSH_FXP_WRITE id (string handle ++ uint64 offset ++ uint32 (length content))) content
    ∙ ap (λ l. uint32 (length (request_body (request.Write handle offset content) id)) ++ l)
    (ap (λ l. SSH_FXP_WRITE ∷ l) (append_assoc (uint32 id) (string handle ++ uint64 offset ++ uint32 (length content))
    content ∙ ap (λ l. uint32 id ++ l) flat))
head_and_content other id = append-nil _
