-- What the conditions of the calls tell of the record under an id.
use Rattle.std.proofs.Common.{◌≡◌, ℕ, Bool, true, false, cond, refl, sym, subst, Option, Some, None}
use Rattle.std.specs.Prelude.{IsSome}
use Rattle.sftp_model.specs.Answers.{allows_reply}
use Rattle.sftp_model.specs.declared.answers.Expected.{Expected}
use Rattle.sftp_model.specs.declared.reply.Reply.{Reply}
use Rattle.sftp_core.specs.declared.errors.TakeError.{TakeError}
use Rattle.sftp_core.specs.declared.id_record.IdRecord.{IdRecord}
use Rattle.sftp_core.specs.declared.id_record.IdRecord.TheVariants.{Waiting, Answered, Granted}
use Rattle.sftp_core.specs.Table.{expected_at, is_unsent, is_owing}
use Rattle.sftp_core.specs.Core.{MayClose, MayFree}
use Rattle.sftp_core.specs.Take.{wrong_at}

-- a reply that nothing is wrong with answers a request that was handed out and allows it
pub record IsDue (e : Expected) (sent : Bool) (r : Reply) : Type 0 where
  pub handed : sent ≡ true
  pub allowed : allows_reply e r ≡ true

allowed_of : (e : TakeError) (b : Bool) → cond b None (Some e) ≡ None → b ≡ true
allowed_of e true h = refl
allowed_of e false h = absurd cc

pub due : (id : ℕ) (r : Reply) (e : Expected) (sent wanted : Bool) → wrong_at id r (Some (Waiting e sent wanted)) ≡ None
    → IsDue e sent r
due id r e true wanted h = record { handed = refl; allowed = allowed_of _ _ h }
due id r e false wanted h = absurd cc

-- what may be closed, as what was there
pub owed : (w : IdRecord) (p : Option IdRecord) → Some w ≡ p → MayClose p → (is_owing w ≡ true) × (is_unsent w ≡ false)
owed w p is may = subst MayClose (sym is) may

-- something stands where a record may be freed
pub there : (p : Option IdRecord) → MayFree p → IsSome p
there None may = absurd may
there (Some w) may = refl

-- what is accepted is one that the kind of its request allows
pub accepted : (id : ℕ) (r : Reply) (e : Expected) (p : Option IdRecord) → expected_at p ≡ Some e → wrong_at id r p
    ≡ None → allows_reply e r ≡ true
accepted id r e None is h = absurd cc
accepted id r e (Some (Waiting kind true wanted)) is h =
    let same : kind ≡ e = cc in rw (sym same) (allowed_of _ _ h)
accepted id r e (Some (Waiting kind false wanted)) is h = absurd cc
accepted id r e (Some (Answered kind other)) is h = absurd cc
accepted id r e (Some (Granted handle users)) is h = absurd cc
