use Rattle.std.proofs.Common.{◌≡◌, length}
use Rattle.transfer_args.specs.Words.{with_letters}
use Rattle.transfer_args.proofs.flags.with_letters.Given as goal

abbrev pub invariant-loop-rest : goal.invariant-loop-rest
invariant-loop-rest l = with_letters l.verb l.initial.settings l.letters ≡ with_letters l.verb l.settings l.rest

abbrev pub decreases-loop-rest : goal.decreases-loop-rest
decreases-loop-rest l = length l.rest
