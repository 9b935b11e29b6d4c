use Rattle.std.proofs.Common.{rules, ◌≡◌, ◌∙◌, ap, arith, List, ℕ, take}
use Rattle.std.proofs.lemmas.List.{take_all}
use Rattle.sftp_model.specs.Pieces.{joined_pieces}
use Rattle.sftp_file.specs.Parts.{cut_at}
use Rattle.sftp_file.proofs.Cutting.{cut_pushed, joined_cut}
use Rattle.sftp_file.proofs.parts.cut.Goals as goal

pub loop-piece-preserved : goal.loop-piece-preserved
loop-piece-preserved c =
    cut_pushed c.args.pieces.now c.loop-piece.piece-index c.piece-item.result c.args.from c.args.limit
    c.loop-piece.before c.loop-piece.left c.min-start.result c.min-len.result c.loop-piece.parts.items
    c.push_filled.new.pieces.items c.in_ok-slice.field-0
    c.loop-piece-test.true c.piece-item.is c.loop-piece.invariant (search rules) (search rules) (search rules)
    (search rules)

pub returns-clause-bytes : goal.returns-clause-bytes
returns-clause-bytes c =
    let all : take c.loop-piece.piece-index c.args.pieces.now ≡ c.args.pieces.now =
    take_all c.loop-piece.piece-index c.args.pieces.now (omega (arith, c.loop-piece-test.false)) in
    let is : c.loop-piece.parts.items ≡ cut_at c.args.from c.args.limit c.args.pieces.now = c.loop-piece.invariant.0
    ∙ ap (λ (l : List (List ℕ)). cut_at c.args.from c.args.limit l) all in
    ap (λ (l : List (List ℕ)). joined_pieces l) is ∙ joined_cut c.args.pieces.now c.args.from c.args.limit
