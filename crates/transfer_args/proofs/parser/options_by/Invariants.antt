use Rattle.std.proofs.Common.{◌≡◌, [], None, length, map}
use Rattle.std.specs.String.{string_bytes}
use Rattle.transfer_args.specs.Words.{choices_seen, options_by, plain_choices}
use Rattle.transfer_args.proofs.parser.options_by.Given as goal

abbrev pub invariant-loop-rest : goal.invariant-loop-rest
invariant-loop-rest l = options_by l.verb plain_choices None [] (map string_bytes l.words)
    ≡ options_by l.verb (choices_seen l.choices) l.awaited (map (λ w. w.now) l.operands.items) (map string_bytes l.rest)

abbrev pub decreases-loop-rest : goal.decreases-loop-rest
decreases-loop-rest l = length l.rest
