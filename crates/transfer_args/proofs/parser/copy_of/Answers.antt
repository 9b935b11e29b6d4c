use Rattle.std.proofs.Common.{◌≡◌, ◌==◌, length, arith}
use Rattle.transfer_args.proofs.LastLaws.{copied_to}
use Rattle.transfer_args.proofs.parser.copy_of.Goals as goal

pub returns-in-Some : goal.returns-in-Some
returns-in-Some c =
    let empty : c.is_empty.result ≡ (c.pop.new.self.len == 0) = c.is_empty.ensures in
    let whole : c.pop.new.self.len ≡ length c.pop.new.self.items = c.pop.new.self.ok.0 in
    copied_to c.args.way c.args.options (λ w. w.now) c.args.operands.items c.pop.new.self.items c.in-Some.target
    c.in-Some.ensures.items (grind (arith, empty, whole, c.if-not-is_empty.true))
