-- The sweep over the target, as the code has it.
use Rattle.std.specs.Prelude.{◌≡◌, map}
use Rattle.transfer_sync.specs.Actions.{removal_action}
use Rattle.transfer_sync.specs.PathMaps.{path_set}
use Rattle.transfer_sync.specs.Verdicts.{SweepValue}
use Rattle.transfer_sync.specs.declared.sweep.Sweep.{Sweep}

-- The sets and the removals are those of a sweep.
pub record IsSweepOf (s : Sweep) (w : SweepValue) : Type 0 where
  pub kept : path_set s.kept ≡ w.kept
  pub gone : path_set s.gone ≡ w.gone
  pub removals : s.removals.items ≡ map removal_action w.removed
