use Rattle.std.proofs.Common.{rules, ◌≡◌, ◌∙◌, length, take, drop, ◌-◌, ◌++◌, List, ℕ, ap, sym, subst}
use Rattle.std.specs.List.{sum}
use Rattle.sftp_model.specs.Pieces.{joined_pieces}
use Rattle.sftp_core.specs.Pieces.{ChunkValue}
use Rattle.sftp_core.proofs.Groups.{in_order, joins_between, within}
use Rattle.sftp_core.proofs.chunk.Chunk.between.Goals as goal

pub part-requires-clause-order : goal.part-requires-clause-order
part-requires-clause-order c = in_order c.args.self.now c.args.start c.args.end c.requires.start c.requires.end
    c.requires.order

pub part-requires-clause-within : goal.part-requires-clause-within
part-requires-clause-within c =
    let is : c.as_slice.result.now ≡ c.args.self.now.pieces = search rules in
    let all = subst (λ (v : ChunkValue). sum v.counts ≡ length v.pieces) c.self.view_is c.self.invariant in
    rw is (within c.args.self.now c.args.end all c.requires.end)

pub returns : goal.returns
returns c =
    let is : c.as_slice.result.now ≡ c.args.self.now.pieces = search rules in
    joins_between c.args.self.now.pieces c.args.start.pieces c.args.end.pieces
    (in_order c.args.self.now c.args.start c.args.end c.requires.start c.requires.end c.requires.order)
    ∙ ap (λ (l : List (List ℕ)). joined_pieces (take c.args.start.pieces c.args.self.now.pieces) ++ joined_pieces l)
    (ap (λ (l : List (List ℕ)). take (c.args.end.pieces - c.args.start.pieces) (drop c.args.start.pieces l)) (sym is)
    ∙ sym c.part.ensures)
