use Rattle.std.proofs.Common.{refl}
use Rattle.sftp_core.proofs.Elsewhere.{put_here}
use Rattle.bench_core.proofs.submit.Goals as goal

pub abandon-requires : goal.abandon-requires
abandon-requires c = let is = c.in-Ok.ensures.ok.1 in rw (is, put_here _ _ _) refl
