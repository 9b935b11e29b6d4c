use Rattle.std.proofs.Common.{drop}
use Rattle.transfer_sync.specs.Sweeps.{IsSweepOf}
use Rattle.transfer_sync.specs.Verdicts.{sweep_of}
use Rattle.transfer_sync.proofs.sweep.sweep_all.Given as goal

abbrev pub invariant-loop-i : goal.invariant-loop-i
invariant-loop-i l = IsSweepOf l.sweep (sweep_of l.rules l.source.entries (drop l.i l.target))
