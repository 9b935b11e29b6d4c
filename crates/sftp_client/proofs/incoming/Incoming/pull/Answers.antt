use Rattle.link_frames.proofs.Joining.{escaped}
use Rattle.sftp_client.specs.Incoming.{bytes_of}
use Rattle.sftp_client.proofs.Getting.{pulled_on, pulled_until}
use Rattle.sftp_client.proofs.incoming.Incoming.pull.Goals as goal

pub loop-alloc-preserved : goal.loop-alloc-preserved
loop-alloc-preserved g c =
    pulled_on _ (bytes_of c.args.self.now) c.loop-alloc.self c.pull_part.new.self c.loop-alloc.invariant
    c.in_ok-pull_part.ensures

pub returns-in_err-pull_part : goal.returns-in_err-pull_part
returns-in_err-pull_part g c =
    rw (escaped c.from_residual.result c.in_err-pull_part.field-0.0 c.from_residual.ensures.1)
    (pulled_until _ _ c.args.self.now c.loop-alloc.self c.pull_part.new.self c.in_err-pull_part.field-0.0
    c.loop-alloc.invariant
    c.in_err-pull_part.ensures)
