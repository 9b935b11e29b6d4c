use Rattle.std.proofs.Common.{Ok, Err, subst}
use Rattle.sftp_core.specs.Core.{Core}
use Rattle.sftp_client.specs.Sessions.{FlushesQueue, with_core}
use Rattle.transfer_pool.proofs.GoingLaws.{flush_stops_turn, take_stops_turn, turn_ends}
use Rattle.transfer_pool.proofs.round.turn.Goals as goal

pub returns-in-Ok-take : goal.returns-in-Ok-take
returns-in-Ok-take g c =
    let flushes = subst (λ (x : Core). FlushesQueue g.L.LinkState.state (with_core c.args.sftp.now x) c.flush.new.self
    (Ok tt)) c.core.ensures.value c.in-Ok.ensures in
    turn_ends g.L.LinkState.state c.args.sftp.now c.flush.new.self c.take.new.self c.in-Ok-take.field-0 c.requires
    flushes c.in-Ok-take.ensures

pub returns-in-Err-take : goal.returns-in-Err-take
returns-in-Err-take g c =
    let flushes = subst (λ (x : Core). FlushesQueue g.L.LinkState.state (with_core c.args.sftp.now x) c.flush.new.self
    (Ok tt)) c.core.ensures.value c.in-Ok.ensures in
    take_stops_turn g.L.LinkState.state c.args.sftp.now c.flush.new.self c.take.new.self c.in-Err-take.e _ c.requires
    flushes c.in-Err-take.ensures

pub returns-in-Err : goal.returns-in-Err
returns-in-Err g c =
    let flushes = subst (λ (x : Core). FlushesQueue g.L.LinkState.state (with_core c.args.sftp.now x) c.flush.new.self
    (Err c.in-Err.e)) c.core.ensures.value c.in-Err.ensures in
    flush_stops_turn g.L.LinkState.state c.args.sftp.now c.flush.new.self c.in-Err.e _ c.requires flushes
