use Rattle.std.proofs.Common.{◌≡◌, ◌≤◌, ◌+◌, length}
use Rattle.std.specs.Prelude.{vec_len, vec_capacity}
use Rattle.std.specs.Vec.Iter.{into_iter_items, into_iter_len}
use Rattle.session_seats.proofs.JoinLaws.{Joining}
use Rattle.session_seats.proofs.shared.Shared.join_all.Given as goal

abbrev pub invariant-loop-seat : goal.invariant-loop-seat
invariant-loop-seat g l =
    Joining g.S.Held.shown l.fn.seats.items (into_iter_items l.rest) l.initial.base.me l.base.me
    l.initial.base.table_id l.initial.lists.items l.lists.items
    × (l.base.table_id ≡ l.initial.base.table_id)
    × (into_iter_len l.rest ≡ length (into_iter_items l.rest))
    × (vec_len l.lists + length (into_iter_items l.rest) ≤ vec_capacity l.lists)

abbrev pub decreases-loop-seat : goal.decreases-loop-seat
decreases-loop-seat g l = into_iter_len l.rest
