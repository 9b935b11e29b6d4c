use Rattle.std.proofs.Common.{◌≡◌, ◌≤◌, take}
use Rattle.transfer_sync.specs.Paths.{directory_of}
use Rattle.transfer_sync.proofs.paths.directory_of.Given as goal

abbrev pub invariant-loop-i : goal.invariant-loop-i
invariant-loop-i l = record {
  within : l.cut ≤ l.i;
  is : take l.cut l.path ≡ directory_of (take l.i l.path);
}
