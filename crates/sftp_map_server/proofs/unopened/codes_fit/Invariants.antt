use Rattle.std.proofs.Common.{◌<◌, ◌^◌, ℕ}
use Rattle.std.specs.Prelude.{slice_index_or}
use Rattle.sftp_model.specs.declared.config.Choice.{Choice}
use Rattle.sftp_map_server.proofs.unopened.codes_fit.Given as goal

abbrev pub invariant-loop-choice : goal.invariant-loop-choice
invariant-loop-choice l = (k : ℕ) (d : Choice) → k < l.choice-index → (slice_index_or l.choices k d).refuse < 2 ^ 32
