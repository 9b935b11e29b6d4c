-- The CLOSE of a grant with one user may be abandoned.
use Rattle.std.proofs.Common.{◌≡◌, ◌∙◌, ap, sym, refl, ℕ, true, false, Option, Some, IsTrue}
use Rattle.sftp_model.specs.declared.answers.Expected.TheVariants as expected
use Rattle.sftp_model.specs.declared.request.Request.TheVariants as request
use Rattle.sftp_core.specs.Core.{Core, record_at, is_ticket, queued_last, release_gives, release_leaves, core_after_release, users_of}
use Rattle.sftp_core.specs.Grant.{GrantValue}
use Rattle.sftp_core.specs.declared.id_record.IdRecord.TheVariants.{Granted, Waiting}
use Rattle.sftp_core.proofs.Elsewhere.{put_here}

last_released : (core : Core) (g : GrantValue) → record_at core g.id ≡ Some (Granted g.handle 1)
    → core_after_release core g
    ≡ queued_last core g.id (request.Close g.handle) true
last_released core g one = ap (λ p. release_leaves core g (users_of p)) one

last_gives : (core : Core) (g : GrantValue) (t : ℕ) (result : Option ℕ) → record_at core g.id
    ≡ Some (Granted g.handle 1)
    → result ≡ release_gives g (users_of (record_at core g.id)) → result ≡ Some t → t ≡ g.id
last_gives core g t result one answer gives =
    let same : (◌≡◌ {A = Option ℕ} (Some t) (Some g.id)) = sym gives
    ∙ (answer ∙ ap (λ p. release_gives g (users_of p)) one) in
    cc

pub closing_ticket : (core new : Core) (g : GrantValue) (t : ℕ) {result : Option ℕ} → record_at core g.id
    ≡ Some (Granted g.handle 1) → new ≡ core_after_release core g → result
    ≡ release_gives g (users_of (record_at core g.id)) → result
    ≡ Some t
    → IsTrue (is_ticket (record_at new t))
closing_ticket core new g t {result} one after answer gives =
    let here : record_at new t ≡ Some (Waiting expected.Status false true) =
    (λ i. record_at ((after ∙ last_released core g one) i) (last_gives core g t result one answer gives i))
    ∙ put_here core.table g.id (Waiting expected.Status false true) in
    rw here refl
