use Rattle.sftp_map_server.specs.Serving.{server_view}
use Rattle.test_client.proofs.Rounds.{flush_stops, round_goes, take_stops}
use Rattle.test_client.proofs.streams.round.Goals as goal

pub returns-in_err-flush : goal.returns-in_err-flush
returns-in_err-flush c = flush_stops server_view c.args.sftp.now c.flush.new.self _ c.requires c.in_err-flush.ensures

pub returns-in_err-take : goal.returns-in_err-take
returns-in_err-take c =
    take_stops server_view c.args.sftp.now c.flush.new.self c.take.new.self _ c.requires c.in_ok-flush.ensures
    c.in_err-take.ensures

pub returns : goal.returns
returns c =
    round_goes server_view c.args.sftp.now c.flush.new.self c.take.new.self c.in_ok-take.field-0 c.requires
    c.in_ok-flush.ensures
    c.in_ok-take.ensures
