use Rattle.sftp_model.proofs.Joining.{nothing_left}
use Rattle.sftp_model.proofs.content.are_joined_same.Goals as goal

pub returns-then-is_empty : goal.returns-then-is_empty
returns-then-is_empty c =
    rw (
      c.loop-ours.invariant,
      nothing_left _ _ _ _ c.in-empty-default.len_below c.in-empty.len_below,
      ← c.is_empty.ensures,
      c.if-is_empty.true,
    ) c.are_all_empty.ensures
