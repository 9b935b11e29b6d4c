use Rattle.std.proofs.Common.{◌≡◌, ◌==◌, ◌++◌, ◌+◌, length}
use Rattle.std.specs.Cmp.Lexicographic.{pointwise}
use Rattle.sftp_model.specs.Pieces.{joined_pieces}
use Rattle.sftp_model.proofs.content.are_joined_same.Given as goal

-- what is left of both sides decides
abbrev pub invariant-loop-ours : goal.invariant-loop-ours
invariant-loop-ours l =
    pointwise ◌==◌ (joined_pieces l.fn.left) (joined_pieces l.fn.right)
    ≡ pointwise ◌==◌ (l.ours ++ joined_pieces l.lefts) (l.theirs ++ joined_pieces l.rights)

abbrev pub decreases-loop-ours : goal.decreases-loop-ours
decreases-loop-ours l =
    length (l.ours ++ joined_pieces l.lefts) + length (l.theirs ++ joined_pieces l.rights) + length l.lefts + length
    l.rights
