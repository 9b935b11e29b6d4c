-- believed: reply_of, grant_in, IsFormed, IsCounted
-- The reply that came, or the reason why none came.
use Rattle.std.specs.Prelude.{◌≡◌, ℕ, true, false, Option, Some, None}
use Rattle.sftp_model.specs.Answers.{allows_reply, is_handle}
use Rattle.sftp_model.specs.declared.answers.Expected.{Expected}
use Rattle.sftp_model.specs.declared.reply.Reply.{Reply}
use Rattle.sftp_model.specs.declared.reply.Reply.TheVariants as reply
use Rattle.sftp_core.specs.Core.{Core, record_at, reply_in}
use Rattle.sftp_core.specs.Grant.{GrantValue}
use Rattle.sftp_core.specs.Table.{expected_at}
use Rattle.sftp_core.specs.declared.id_record.IdRecord.TheVariants as places
use Rattle.plan_state.specs.declared.runner.Then.{Then}
use Rattle.plan_state.specs.declared.runner.Then.TheVariants as then
use Rattle.plan_state.specs.declared.told.Told.{Told}
use Rattle.plan_state.specs.declared.told.Told.TheVariants as told
use Rattle.plan_state.specs.declared.told.Untold.{Untold}
use Rattle.plan_state.specs.declared.told.Untold.TheVariants as untold

-- The reply; a grant came by a HANDLE.
abbrev pub reply_of : Told → Reply
reply_of (told.Reply r) = r
reply_of (told.Granted g) = reply.Handle g.handle

-- The grant that came, if one did.
abbrev pub grant_in : Told → Option GrantValue
grant_in (told.Reply r) = None
grant_in (told.Granted g) = Some g

-- A HANDLE comes as a grant.
abbrev pub IsFormed : Told → Type 0
IsFormed (told.Reply r) = is_handle r ≡ false
IsFormed (told.Granted g) = Unit {0}

-- A grant that came is named by its ticket, and has one user.
abbrev pub IsNew : Core → ℕ → Told → Type 0
IsNew core ticket (told.Reply r) = Unit {0}
IsNew core ticket (told.Granted g) = (g.id ≡ ticket) × (record_at core g.id ≡ Some (places.Granted g.handle 1))

-- The reply to a ticket was taken, and is one that its request allows.
pub record ReplyCame (old new : Core) (ticket : ℕ) (t : Told) : Type 0 where
  pub taken : reply_in (record_at old ticket) ≡ Some (reply_of t)
  pub allowed : (kind : Expected) → expected_at (record_at old ticket) ≡ Some kind → allows_reply kind (reply_of t)
      ≡ true
  pub formed : IsFormed t
  pub granted : IsNew new ticket t

-- The reply to a ticket was not taken.
abbrev pub IsUntold : Core → Core → ℕ → Untold → Type 0
IsUntold old new ticket (untold.Missing t) = (reply_in (record_at old ticket) ≡ None) × (t ≡ ticket)
    × (old.fault ≡ None)
    × (new ≡ old)
IsUntold old new ticket (untold.Failed fault) = (reply_in (record_at old ticket) ≡ None) × (old.fault ≡ Some fault)

-- A reply that is returned to the caller is the one that was passed in.
abbrev pub IsBack : {V : Type 0} → Told → Then V → Type 0
IsBack t (then.Short other) = other ≡ t
IsBack t other = Unit {0}

-- The core counts a grant that came.
abbrev pub IsCounted : Core → Told → Type 0
IsCounted core (told.Reply r) = Unit {0}
IsCounted core (told.Granted g) = record_at core g.id ≡ Some (places.Granted g.handle 1)
