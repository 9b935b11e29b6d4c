use Rattle.std.proofs.Common.{ap, sym, ◌∙◌, subst}
use Rattle.sftp_core.specs.Core.{Core}
use Rattle.transfer_copy.specs.Holdings.{ArePartsHeld, HoldingValue, IsFileHeld, drops_file, drops_parts}
use Rattle.transfer_copy.proofs.DropLaws.{all_dropped, file_still_held}
use Rattle.transfer_copy.proofs.holding.Holding.cancel.Goals as goal

pub drop_parts-requires : goal.drop_parts-requires
drop_parts-requires c = (
  c.args.self.file,
  subst (λ (x : HoldingValue). ArePartsHeld c.args.core.now c.args.self.file x.parts)
      (sym c.self.view_is) c.requires.parts,
)

pub drop_file-requires : goal.drop_file-requires
drop_file-requires c =
    let core_is = c.drop_parts.ensures.core ∙ ap (λ (x : HoldingValue). drops_parts c.args.core.now x.parts)
    c.self.view_is in
    let held = subst (λ (x : Core). IsFileHeld x c.args.self.file) (sym core_is)
    (file_still_held c.args.core.now c.args.self c.requires) in
    subst (λ (x : HoldingValue). IsFileHeld c.drop_parts.new.core x.file) (sym c.self.view_is) held

pub returns-clause-spares : goal.returns-clause-spares
returns-clause-spares c =
    let core_is = c.drop_parts.ensures.core ∙ ap (λ (x : HoldingValue). drops_parts c.args.core.now x.parts)
    c.self.view_is in
    all_dropped c.args.core.now c.drop_file.new.core c.args.self c.requires
    (c.drop_file.ensures ∙ (λ i. drops_file (core_is i) (c.self.view_is i).file))
