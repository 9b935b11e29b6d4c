-- believed, except IsDropped
-- The effect of calls of a core by others on the replies that a state awaits, and on the grants of files.
use Rattle.std.specs.Prelude.{◌≡◌, ℕ, false, List, Option, Some, IsSome}
use Rattle.sftp_model.specs.declared.answers.Expected.{Expected}
use Rattle.sftp_core.specs.declared.id_record.IdRecord.{IdRecord}
use Rattle.sftp_core.specs.declared.id_record.IdRecord.TheVariants.{Waiting, Granted}
use Rattle.sftp_core.specs.Core.{Core, record_at}
use Rattle.sftp_core.specs.Info.{info_of}
use Rattle.plan_state.specs.Asked.{HoldsTicket}

-- A session that is open stays open.
abbrev pub StaysOpen : Core → Core → Type 0
StaysOpen old new = IsSome (info_of old.phase) → IsSome (info_of new.phase)

-- Each grant stays, with its users, and the session stays open.
pub record KeepsGrants (old new : Core) : Type 0 where
  pub grants : (id : ℕ) (handle : List ℕ) (users : ℕ) → record_at old id ≡ Some (Granted handle users)
      → record_at new id ≡ Some (Granted handle users)
  pub opened : StaysOpen old new

-- Each ticket that is held stays held, each grant stays, and the session stays open.
pub record KeepsHeld (old new : Core) : Type 0 where
  pub holds : (ticket : ℕ) (kind : Expected) → HoldsTicket old ticket kind → HoldsTicket new ticket kind
  pub grants : KeepsGrants old new

-- The tickets and grants of others in a core stay: each grant and each ticket under a number of theirs, which is still
-- theirs. The session stays open.
pub record SparesOthers (old new : Core) (IsTheirs StaysTheirs : ℕ → Type 0) : Type 0 where
  pub grants : (id : ℕ) (handle : List ℕ) (users : ℕ) → IsTheirs id → record_at old id ≡ Some (Granted handle users)
      → (record_at new id ≡ Some (Granted handle users)) × StaysTheirs id
  pub tickets : (ticket : ℕ) (kind : Expected) → IsTheirs ticket → HoldsTicket old ticket kind
      → HoldsTicket new ticket kind × StaysTheirs ticket
  pub opened : StaysOpen old new

-- The reply to this request counts for nothing.
abbrev pub IsDropped : Option IdRecord → Expected → Type 0
IsDropped (Some (Waiting kind sent wanted)) expected = (kind ≡ expected) × (wanted ≡ false)
IsDropped other expected = ⊥
