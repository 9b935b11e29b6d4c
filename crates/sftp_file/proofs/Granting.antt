-- Grants that files share.
use Rattle.std.proofs.Common.{◌≡◌, ◌+◌, ◌-◌, ◌<◌, ◌==◌, arith, false, ap, Option}
use Rattle.std.proofs.lemmas.Bool.Decides.{nat_tests}
use Rattle.sftp_core.specs.declared.id_record.IdRecord.{IdRecord}
use Rattle.sftp_core.specs.declared.id_record.IdRecord.TheVariants.{Granted}
use Rattle.sftp_core.specs.Core.{Core, record_at, core_after_release, core_after_retain, users_of, with_record, IsGrant}
use Rattle.sftp_core.specs.Grant.{GrantValue}
use Rattle.sftp_core.proofs.Elsewhere.{put_here}
use Rattle.plan_state.proofs.OthersKept.{grant_at}

-- a grant with one user more is counted
pub retained_grant : (core : Core) (grant : GrantValue) → IsGrant (core_after_retain core grant) grant
retained_grant core grant =
    grant_at (core_after_retain core grant) grant (users_of (record_at core grant.id) + 1)
    (put_here core.table grant.id (Granted grant.handle (users_of (record_at core grant.id) + 1))) (omega arith)

-- with one user more
pub retained_users : (core : Core) (grant : GrantValue) → users_of (record_at (core_after_retain core grant) grant.id)
    ≡ users_of (record_at core grant.id) + 1
retained_users core grant = ap (λ (p : Option IdRecord). users_of p)
    (put_here core.table grant.id (Granted grant.handle (users_of (record_at core grant.id) + 1)))

-- a grant that has another user is counted after a release
pub released_grant : (core : Core) (grant : GrantValue) → 1 < users_of (record_at core grant.id)
    → IsGrant (core_after_release core grant) grant
released_grant core grant many =
    let other : (users_of (record_at core grant.id) == 1) ≡ false = grind (arith, nat_tests) in
    rw other (grant_at (with_record core grant.id (Granted grant.handle (users_of (record_at core grant.id) - 1))) grant
    (users_of (record_at core grant.id) - 1)
    (put_here core.table grant.id (Granted grant.handle (users_of (record_at core grant.id) - 1))) (omega arith))
