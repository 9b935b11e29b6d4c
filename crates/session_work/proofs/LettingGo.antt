-- A grant is let go: its CLOSE stands in its place.
use Rattle.std.proofs.Common.{◌≡◌, true, false, Some, ap, ◌∙◌}
use Rattle.sftp_model.specs.Answers.{expected_of}
use Rattle.sftp_model.specs.declared.request.Request.TheVariants as request
use Rattle.sftp_core.specs.Core.{Core, record_at, is_ticket, queued_last, release_leaves, core_after_release, users_of}
use Rattle.sftp_core.specs.Grant.{GrantValue}
use Rattle.sftp_core.specs.declared.id_record.IdRecord.TheVariants.{Granted, Waiting}
use Rattle.sftp_core.proofs.Elsewhere.{put_here}

-- the last user's release queues the CLOSE
last_queues : (core : Core) (g : GrantValue) → record_at core g.id ≡ Some (Granted g.handle 1)
    → core_after_release core g ≡ queued_last core g.id (request.Close g.handle) true
last_queues core g here = (let one : users_of (record_at core g.id) ≡ 1 = ap users_of here in
    ap (release_leaves core g) one)

-- and its ticket is counted
pub close_counted : (core : Core) (g : GrantValue) → record_at core g.id ≡ Some (Granted g.handle 1)
    → is_ticket (record_at (core_after_release core g) g.id) ≡ true
close_counted core g here = ap (λ (x : Core). is_ticket (record_at x g.id)) (last_queues core g here)
    ∙ ap is_ticket (put_here core.table g.id (Waiting (expected_of (request.Close g.handle)) false true))
