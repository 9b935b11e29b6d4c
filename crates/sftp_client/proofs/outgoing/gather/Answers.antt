use Rattle.std.proofs.Common.{◌≡◌, ◌++◌, ◌∙◌, rules}
use Rattle.std.proofs.lemmas.List.{take_more}
use Rattle.sftp_client.proofs.Sending.{gathered_begins, gathered_next}
use Rattle.sftp_client.proofs.outgoing.gather.Goals as goal

pub returns-then-len-remaining_capacity-clause-begins : goal.returns-then-len-remaining_capacity-clause-begins
returns-then-len-remaining_capacity-clause-begins c =
    gathered_begins c.args.first.now c.loop-piece.gathered.items c.args.later.now c.loop-piece.piece-index
    c.loop-piece.invariant

pub loop-piece-preserved : goal.loop-piece-preserved
loop-piece-preserved c =
    let more : c.try_extend_from_slice-in-loop-piece.new.self.items ≡ c.loop-piece.gathered.items
    ++ c.deref.result.now = search rules in
    gathered_next c.args.first.now c.loop-piece.gathered.items _ _ c.args.later.now c.loop-piece.piece-index
    (take_more c.args.later.now c.loop-piece.piece-index _ c.loop-piece-test.true) c.loop-piece.invariant
    (rw (c.deref.ensures ∙ c.piece-item.is) at more)
