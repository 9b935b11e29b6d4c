use Rattle.std.proofs.Common.{◌≡◌, refl, sym, rules, Some}
use Rattle.std.specs.FinMap as fin
use Rattle.sftp_core.specs.declared.id_record.IdRecord.TheVariants.{Waiting}
use Rattle.sftp_core.proofs.Sounds.{sound-same}
use Rattle.sftp_core.proofs.Records.{due}
use Rattle.sftp_core.proofs.pipeline.Core.answer.Goals as goal

pub invariant_of-self : goal.invariant_of-self
invariant_of-self c =
    let here : fin.get c.self.inside.table c.args.id ≡ Some (Waiting c.in-Some-Waiting.expected
    c.in-Some-Waiting.field-0-1 c.in-Some-Waiting.wanted) = search rules in
    let is = due c.args.id c.args.reply _ _ _ (rw (← c.self.view_is, here) at c.requires) in
    rw c.replace.ensures.now (sound-same _ _ _ _ _ _ _ _ _ c.self.invariant (sym here) (rw is.handed refl) refl
    is.allowed)
