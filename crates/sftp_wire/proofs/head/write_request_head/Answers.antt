use Rattle.std.proofs.Common.{◌≡◌, ◌≤◌, ◌++◌, length, sym, ap, ◌∙◌, rules, arith, lit≤}
use Rattle.ssh_encoding.specs.Writing.{uint32, uint64, string}
use Rattle.sftp_model.specs.Numbers.{SSH_FXP_WRITE, MAX_BODY_LEN}
use Rattle.sftp_model.specs.Frames.{of_type, request_body}
use Rattle.sftp_model.specs.declared.request.Request.TheVariants as request
use Rattle.sftp_wire.specs.Body.{body_bytes}
use Rattle.sftp_wire.specs.Heads.{request_head}
use Rattle.sftp_wire.proofs.Heads.{content_within, counted}
use Rattle.sftp_wire.proofs.head.write_request_head.Goals as goal

pub overflow_cast-count : goal.overflow_cast-count
overflow_cast-count c =
    let is : c.args.request.now ≡ request.Write c.in-Write.handle c.in-Write.offset c.in-Write.content = search rules in
    let within : length (request_body (request.Write c.in-Write.handle c.in-Write.offset c.in-Write.content) c.args.id)
    ≤ MAX_BODY_LEN = rw is at c.requires in
    let short = content_within c.in-Write.handle c.in-Write.offset c.in-Write.content c.args.id in
    let count = counted _ MAX_BODY_LEN c.in-Write.content _ (lit≤ tt) (omega (arith, within, short)) c.pieces.ensures
    c.pieces_len-count.ensures in
    omega (arith, count, within, short)

pub returns-in-Some-clause-ok : goal.returns-in-Some-clause-ok
returns-in-Some-clause-ok c =
    let is : c.args.request.now ≡ request.Write c.in-Write.handle c.in-Write.offset c.in-Write.content = search rules in
    let within : length (request_body (request.Write c.in-Write.handle c.in-Write.offset c.in-Write.content) c.args.id)
    ≤ MAX_BODY_LEN = rw is at c.requires in
    let short = content_within c.in-Write.handle c.in-Write.offset c.in-Write.content c.args.id in
    let count = counted _ MAX_BODY_LEN c.in-Write.content _ (lit≤ tt) (omega (arith, within, short)) c.pieces.ensures
    c.pieces_len-count.ensures in
    let len : c.in-Some.len ≡ length (request_body c.args.request.now c.args.id) = search rules in
    let body = c.fields_before_content.ensures c.args.id in
    let head : request_head c.args.request.now c.args.id ≡ uint32 c.in-Some.len
    ++ body_bytes c.fields_before_content.result c.args.id =
    ap (λ r. request_head r c.args.id) is
    ∙ ap (λ n. uint32 n ++ of_type SSH_FXP_WRITE c.args.id (string c.in-Write.handle ++ uint64 c.in-Write.offset
    ++ uint32 (length c.in-Write.content))) (sym (len ∙ ap (λ r. length (request_body r c.args.id)) is))
    ∙ ap (λ b. uint32 c.in-Some.len ++ b) (sym (body ∙ search rules)) in
    rw head c.write_after.ensures.ok
