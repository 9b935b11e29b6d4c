-- Seats of a table, and those that have a share.
use Rattle.std.proofs.Common.{◌≡◌, ◌<◌, ◌≤◌, ◌∙◌, ◌++◌, ◌∷◌, ℕ, suc, List, [], length, arith}
use Rattle.std.specs.Prelude.{slice_index_or}
use Rattle.atomic_table.specs.Seated.{TableId}
use Rattle.session_seats.specs.declared.rule.Held.{Ghosts}
use Rattle.session_seats.specs.declared.seat.Seat.{Seat}
use Rattle.session_seats.specs.Closes.{AllOf}
use Rattle.session_seats.specs.Holds.{claim_of}
use Rattle.sftp_tasks.specs.declared.locked.Locked.{Locked}
use Rattle.session_threads.specs.Running.{IsReady}

module _ {G : Ghosts Locked} (z : TableId) where
  pub still_ready : (a b : Seat Locked G) → b.inner.table_id ≡ a.inner.table_id
      → (claim_of a.inner.me).share ≤ (claim_of b.inner.me).share → IsReady z a → IsReady z b
  still_ready a b own share ready =
      let some = ready.share in
      record { own = own ∙ ready.own; share = omega (arith, some, share) }

  pub all_of : (seats : List (Seat Locked G))
      → ((i : ℕ) (d : Seat Locked G) → i < length seats → (slice_index_or seats i d).inner.table_id ≡ z) → AllOf z seats
  all_of [] each = tt
  all_of (s ∷ ss) each = (each 0 s (omega arith), all_of ss (λ i d less. each (suc i) d (omega (arith, less))))

  pub all_append : (seats others : List (Seat Locked G)) → AllOf z seats → AllOf z others → AllOf z (seats ++ others)
  all_append [] others all more = more
  all_append (s ∷ ss) others all more = (all.0, all_append ss others all.1 more)
