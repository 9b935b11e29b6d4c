use Rattle.std.proofs.Common.{inl, inr, [], ◌∷◌, refl, ap, ◌∙◌}
use Rattle.transfer_copy.specs.Local.{Failed, Renamed, Synced}
use Rattle.transfer_copy.proofs.NamingLaws.{parent_synced}
use Rattle.transfer_copy.proofs.get.name_synced.Goals as goal

pub returns-in-Ok-rename : goal.returns-in-Ok-rename
returns-in-Ok-rename g c =
    parent_synced g.F.LocalFile.done c.args.part.now c.args.name.now c.sync_parent.result _ _ _ _ c.in-Ok.ensures
    c.in-Ok-rename.ensures c.sync_parent.ensures

pub returns-in-Err-rename : goal.returns-in-Err-rename
returns-in-Err-rename g c = (
  Synced ∷ Failed (Renamed c.args.part.now c.args.name.now) ∷ [],
  inr (inl refl),
  c.in-Err-rename.ensures
      ∙ ap (g.F.LocalFile.done (Failed (Renamed c.args.part.now c.args.name.now))) c.in-Ok.ensures,
)

pub returns-in-Err : goal.returns-in-Err
returns-in-Err g c = (Failed Synced ∷ [], inl refl, c.in-Err.ensures)
