use Rattle.std.proofs.Common.{rules, ◌≡◌, ◌++◌, ◌∙◌, codes, drop, subst, sym, take}
use Rattle.transfer_plan.proofs.CutLaws.{built_part, part_is, short_part}
use Rattle.transfer_plan.specs.Cuts.{HasShortName, dotted, stem_of}
use Rattle.transfer_plan.proofs.part.part_path.Goals as goal

pub returns-clause-is : goal.returns-clause-is
returns-clause-is c =
    let path = c.args.path.now in
    let len = c.folder_len.result in
    let built : c.extend_from_slice-3.new.self.items
    ≡ ((((take len path ++ codes ".") ++ stem_of (drop len path)) ++ codes ".") ++ c.args.run.now) ++ codes ".part"
    = search rules in
    built ∙ built_part (take len path) (stem_of (drop len path)) c.args.run.now
    ∙ part_is path c.args.run.now len c.folder_len.ensures

pub returns-clause-fits : goal.returns-clause-fits
returns-clause-fits c = λ short.
    let path = c.args.path.now in
    let len = c.folder_len.result in
    let built : c.extend_from_slice-3.new.self.items
    ≡ ((((take len path ++ codes ".") ++ stem_of (drop len path)) ++ codes ".") ++ c.args.run.now) ++ codes ".part"
    = search rules in
    subst HasShortName (sym (built ∙ built_part (take len path) (stem_of (drop len path)) c.args.run.now))
    (short_part path c.args.run.now len c.folder_len.ensures short)
