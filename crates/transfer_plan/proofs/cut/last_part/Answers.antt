use Rattle.std.proofs.Common.{refl}
use Rattle.transfer_plan.proofs.CutLaws.{last_part}
use Rattle.transfer_plan.proofs.cut.last_part.Goals as goal

pub returns : goal.returns
returns c = last_part c.args.path.now _ c.text_len.result c.folder_len.result c.text_len.ensures refl
    c.folder_len.ensures
