use Rattle.std.proofs.Common.{◌≡◌, ◌≤◌, length, take}
use Rattle.std.specs.List.{flat_map}
use Rattle.ssh_encoding.specs.Writing.{max_usize}
use Rattle.ssh_encoding.proofs.encode_lists.strings_len.Given as goal

abbrev pub invariant-loop-item : goal.invariant-loop-item
invariant-loop-item g l = record {
  sum : l.total ≡ length (flat_map g.T.Encode.written (take l.item-index l.items));
  fits : l.total ≤ max_usize;
}
