use Rattle.std.proofs.Common.{inr}
use Rattle.std.proofs.lemmas.Result.{err_from_is_err_and}
use Rattle.sftp_wire.proofs.Passing.{skips, skip_refused}
use Rattle.sftp_wire.proofs.field_readers.skip_text.Goals as goal

pub returns : goal.returns
returns g c = skips _ _ _ c.in_ok-drain_prefixed.ensures.read

pub returns-in_err-drain_prefixed : goal.returns-in_err-drain_prefixed
returns-in_err-drain_prefixed g c =
    let p = err_from_is_err_and c.from_residual.result c.from_residual.ensures.1 in
    rw p.1 (inr (rw p.2 (skip_refused _ _ _ c.in_err-drain_prefixed.ensures.read)))
