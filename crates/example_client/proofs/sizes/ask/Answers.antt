use Rattle.std.proofs.Common.{List, ℕ, [], refl, subst}
use Rattle.plan_model.specs.PathPlans.{stat_next}
use Rattle.sftp_core.specs.Core.{Core}
use Rattle.sftp_file.specs.Tells.{attrs_meaning}
use Rattle.sftp_fs.specs.PathStarts.{StartsFrom}
use Rattle.sftp_client.specs.Sessions.{with_core}
use Rattle.example_client.proofs.Answered.{where_value}
use Rattle.example_client.proofs.Asking.{asked_by}
use Rattle.example_client.proofs.sizes.ask.Goals as goal

pub returns-clause-asked : goal.returns-clause-asked
returns-clause-asked g c =
    where_value c.start_metadata-2.result (λ call is.
    let starts = subst (λ (k : Core). StartsFrom attrs_meaning (stat_next c.as_bytes.result.now) [] k
    c.start_metadata-2.new.core c.start_metadata-2.result)
    c.core.ensures.value (rw (c.fs.ensures) at c.start_metadata-2.ensures) in
    let named = subst (λ (p : List ℕ). StartsFrom attrs_meaning (stat_next p) [] c.args.sftp.now.core
    c.start_metadata-2.new.core c.start_metadata-2.result)
    c.as_bytes.ensures starts in
    asked_by c.args.path.now c.args.sftp.now (with_core c.args.sftp.now c.start_metadata-2.new.core) call
    (subst (λ r. StartsFrom attrs_meaning (stat_next c.args.path.now) [] c.args.sftp.now.core
    c.start_metadata-2.new.core r) is named) refl)
