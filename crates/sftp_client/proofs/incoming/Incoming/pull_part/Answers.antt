use Rattle.std.proofs.Common.{◌<◌, length, subst, take}
use Rattle.std.specs.Prelude.{Err}
use Rattle.link_frames.proofs.Joining.{escaped}
use Rattle.sftp_client.specs.Incoming.{Coming, PullsTo}
use Rattle.sftp_client.proofs.Getting.{pull_stops}
use Rattle.sftp_client.proofs.incoming.Incoming.pull_part.Goals as goal

pub returns-in_err-fill_part : goal.returns-in_err-fill_part
returns-in_err-fill_part g c =
    rw (escaped c.from_residual.result c.in_err-fill_part.field-0.0 c.from_residual.ensures.1)
    (subst (λ (v : Coming). PullsTo {T = Unit {0}} (λ bytes. length v.whole < length bytes) v
    (record { whole = c.self.inside.reader.bytes; part = take c.fill_part.new.filled c.fill_part.new.room.items })
    (g.L.LinkState.state c.args.link.now)
    (g.L.LinkState.state c.fill_part.new.link) (Err c.in_err-fill_part.field-0.0)) c.self.view_is
    (pull_stops _ c.in_err-fill_part.field-0.0 c.self.inside.reader _ _ c.self.invariant.partway
    (rw c.need-need.ensures.need at c.in_err-fill_part.ensures.fills)))
