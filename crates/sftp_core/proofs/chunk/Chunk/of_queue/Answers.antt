use Rattle.std.proofs.Common.{◌≡◌, ◌∙◌, ◌++◌, List, ℕ, ap, sym, subst, map}
use Rattle.sftp_core.specs.Frames.{AreFilled}
use Rattle.sftp_core.specs.Pieces.{ChunkValue, asked_of, counts_of, pieces_of, HasFrames}
use Rattle.sftp_core.proofs.Cuts.{queue-filled}
use Rattle.sftp_core.proofs.Groups.{counts-all, has_frames}
use Rattle.sftp_core.proofs.chunk.Chunk.of_queue.Goals as goal

pub invariant_of-result : goal.invariant_of-result
invariant_of-result c =
    let none = c.pieces.view_is ∙ c.cleared.ensures in
    let pieces : c.put_frames.new.out.items ≡ pieces_of c.args.queue.now = c.in_ok-put_frames.ensures.pieces
    ∙ ap (λ (v : ChunkValue). v.pieces ++ pieces_of c.args.queue.now) none in
    let counts : c.put_frames.new.counts.items ≡ counts_of c.args.queue.now = c.in_ok-put_frames.ensures.counts
    ∙ ap (λ (v : ChunkValue). v.counts ++ counts_of c.args.queue.now) none in
    rw (pieces, counts) (counts-all c.args.queue.now)

pub returns-clause-frames : goal.returns-clause-frames
returns-clause-frames c =
    let none = c.pieces.view_is ∙ c.cleared.ensures in
    let pieces : pieces_of c.args.queue.now ≡ c.put_frames.new.out.items = sym (c.in_ok-put_frames.ensures.pieces
    ∙ ap (λ (v : ChunkValue). v.pieces ++ pieces_of c.args.queue.now) none) in
    let counts : counts_of c.args.queue.now ≡ c.put_frames.new.counts.items = sym (c.in_ok-put_frames.ensures.counts
    ∙ ap (λ (v : ChunkValue). v.counts ++ counts_of c.args.queue.now) none) in
    subst (λ (v : ChunkValue). HasFrames v (map asked_of c.args.queue.now))
    (λ i. record { pieces = pieces i; counts = counts i })
    (has_frames c.args.queue.now c.in_ok-put_frames.ensures.cut)

pub returns-clause-filled : goal.returns-clause-filled
returns-clause-filled c =
    let none = c.pieces.view_is ∙ c.cleared.ensures in
    let pieces : pieces_of c.args.queue.now ≡ c.put_frames.new.out.items = sym (c.in_ok-put_frames.ensures.pieces
    ∙ ap (λ (v : ChunkValue). v.pieces ++ pieces_of c.args.queue.now) none) in
    subst AreFilled pieces (queue-filled c.args.queue.now c.in_ok-put_frames.ensures.cut)
