use Rattle.std.proofs.Common.{◌≡◌, length}
use Rattle.ssh_encoding.specs.Canonical.{strip}
use Rattle.ssh_encoding.proofs.mpint.stripped.Given as goal

abbrev pub invariant-loop-rest : goal.invariant-loop-rest
invariant-loop-rest l = strip l.rest ≡ strip l.fn.bytes

abbrev pub decreases-loop-rest : goal.decreases-loop-rest
decreases-loop-rest l = length l.rest
