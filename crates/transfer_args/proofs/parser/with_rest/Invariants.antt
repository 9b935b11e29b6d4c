use Rattle.std.proofs.Common.{◌≡◌, ◌++◌, length, map}
use Rattle.std.specs.String.{string_bytes}
use Rattle.transfer_args.proofs.parser.with_rest.Given as goal

abbrev pub invariant-loop-rest : goal.invariant-loop-rest
invariant-loop-rest l = map (λ w. w.now) l.all.items ++ map string_bytes l.rest
    ≡ map (λ w. w.now) l.fn.operands.items ++ map string_bytes l.fn.words

abbrev pub decreases-loop-rest : goal.decreases-loop-rest
decreases-loop-rest l = length l.rest
