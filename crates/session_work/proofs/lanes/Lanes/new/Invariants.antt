use Rattle.std.proofs.Common.{◌≡◌, ◌<◌, ◌≤◌, [], false, length}
use Rattle.std.specs.Prelude.{replicate, vec_len, vec_capacity}
use Rattle.sftp_core.specs.Core.{fresh}
use Rattle.session_work.specs.Fresh.{AreFresh}
use Rattle.session_work.proofs.lanes.Lanes.new.Given as goal

abbrev pub invariant-loop : goal.invariant-loop
invariant-loop l =
    (l.work.calls ≡ l.lanes) × (l.work.core ≡ fresh l.options) × (l.work.journal.items ≡ [])
    × (vec_len l.work.journal < vec_capacity l.work.journal) × (l.work.asked ≡ 0)
    × (length l.work.states.items ≡ l.counter) × (vec_len l.work.states ≡ l.counter)
    × (length l.lanes ≤ vec_capacity l.work.states) × AreFresh l.work.states.items
    × (l.work.outcomes ≡ replicate (length l.lanes) []) × (l.work.gone ≡ replicate (length l.lanes) false)
