use Rattle.std.proofs.Common.{◌≡◌, ◌++◌, take}
use Rattle.std.specs.List.{flat_map}
use Rattle.ssh_encoding.proofs.encode_lists.write_strings.Given as goal

abbrev pub invariant-loop-item : goal.invariant-loop-item
invariant-loop-item g l = record {
  wrote : g.W.Writer.wrote l.writer ≡ g.W.Writer.wrote l.fn.writer
      ++ flat_map g.T.Encode.written (take l.item-index l.items);
  same : g.W.Writer.goes_to l.fn.writer l.writer;
}
