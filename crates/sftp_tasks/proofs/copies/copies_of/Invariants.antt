use Rattle.std.proofs.Common.{◌≡◌, take}
use Rattle.sftp_tasks.proofs.copies.copies_of.Given as goal

-- as many copies as items were passed
abbrev pub invariant-loop-item : goal.invariant-loop-item
invariant-loop-item g l = l.copies.items ≡ take l.item-index l.items
