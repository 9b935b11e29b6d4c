use Rattle.std.proofs.Common.{◌≡◌, ◌≤◌, drop}
use Rattle.transfer_args.specs.Numbers.{digits_in}
use Rattle.transfer_args.proofs.numbers.number.Given as goal

abbrev pub invariant-loop-digit : goal.invariant-loop-digit
invariant-loop-digit l = record {
  small : l.number ≤ l.most;
  same : digits_in l.base l.most 0 l.digits ≡ digits_in l.base l.most l.number (drop l.digit-index l.digits);
}
