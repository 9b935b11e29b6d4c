use Rattle.std.proofs.Common.{ap, sym, ◌∙◌, subst}
use Rattle.transfer_copy.specs.Holdings.{ArePartsHeld, DropsParts, HoldingValue, drops_parts}
use Rattle.transfer_copy.proofs.DropLaws.{parts_dropped}
use Rattle.transfer_copy.proofs.holding.Holding.abandon_parts.Goals as goal

pub drop_parts-requires : goal.drop_parts-requires
drop_parts-requires c = (
  c.args.self.now.file,
  subst (λ (x : HoldingValue). ArePartsHeld c.args.core.now c.args.self.now.file x.parts)
      (sym c.self.view_is) c.requires.parts,
)

pub returns-clause-apart : goal.returns-clause-apart
returns-clause-apart c =
    let drops : DropsParts c.args.core.now c.args.self.now c.drop_parts.new.core _ = record {
      core_is = c.drop_parts.ensures.core ∙ ap (λ (x : HoldingValue). drops_parts c.args.core.now x.parts)
          c.self.view_is;
      now = λ i. record (c.self.view_is i) { parts = c.drop_parts.ensures.none i };
    } in
    parts_dropped c.args.core.now c.drop_parts.new.core c.args.self.now _ c.requires drops
