use Rattle.std.proofs.Common.{◌≡◌, ◌≤◌, [], ◌∷◌, ◌++◌, ◌∙◌, map, ap, refl, vec_len, vec_capacity, rules, arith}
use Rattle.sftp_model.specs.declared.request.Request.TheVariants as request
use Rattle.sftp_wire.specs.Heads.{request_head}
use Rattle.sftp_core.specs.Pieces.{asked_of, pieces_of, whole}
use Rattle.sftp_core.proofs.Cuts.{cut-none}
use Rattle.sftp_core.proofs.Sounds.{sound-fresh}
use Rattle.sftp_core.proofs.pipeline.Core.new.Goals as goal

pub invariant_of-result : goal.invariant_of-result
invariant_of-result c =
    let hello : map asked_of c.push_reserved.new.queue.items ≡ (0, request.Init 3) ∷ [] = search rules in
    let one : vec_len c.push_reserved.new.queue ≡ 1 = search rules in
    let room : 1 ≤ vec_capacity c.push_reserved.new.queue = omega
    (arith, c.push_reserved.ensures.grows, c.in_ok-queue.ensures.capacity, c.max.ensures) in
    sound-fresh _ _ _ _ c.new-2.ensures hello one room

pub push_reserved-requires-clause-cut : goal.push_reserved-requires-clause-cut
push_reserved-requires-clause-cut c = cut-none (request.Init 3) _ refl c.new.ensures.items

pub returns : goal.returns
returns c =
    let hello : map asked_of c.push_reserved.new.queue.items ≡ (0, request.Init 3) ∷ [] = c.push_reserved.ensures.items
    ∙ ap (λ q. map asked_of q ++ (0, request.Init 3) ∷ []) c.in_ok-queue.ensures.items in
    let pieces : pieces_of c.push_reserved.new.queue.items ≡ whole 0 (request.Init 3) = c.push_reserved.ensures.pieces
    ∙ (λ i. pieces_of (c.in_ok-queue.ensures.items i) ++ request_head (request.Init 3) 0 ∷ c.new.ensures.items i) in
    rw (hello, pieces, c.new-2.ensures) refl
