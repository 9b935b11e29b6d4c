use Rattle.std.proofs.Common.{◌∙◌}
use Rattle.transfer_plan.proofs.CutLaws.{long_named, none_named, part_named}
use Rattle.transfer_plan.proofs.part.is_part_of.Goals as goal

pub returns-then-name-gt-MAX_STEM_LEN : goal.returns-then-name-gt-MAX_STEM_LEN
returns-then-name-gt-MAX_STEM_LEN c = long_named c.args.name.now c.args.entry.now c.if-name-gt-MAX_STEM_LEN.true

pub returns-in-Some : goal.returns-in-Some
returns-in-Some c = c.is_run.ensures
    ∙ part_named c.args.name.now c.args.entry.now c.in-Some.number.now c.if-name-gt-MAX_STEM_LEN.false c.in-Some.ensures

pub returns-in-None : goal.returns-in-None
returns-in-None c = none_named c.args.name.now c.args.entry.now c.in-None.ensures
