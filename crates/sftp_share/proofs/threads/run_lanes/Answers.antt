use Rattle.sftp_share.proofs.Shares.{has_stopped_if}
use Rattle.sftp_share.proofs.threads.run_lanes.Goals as goal

pub returns-clause-err : goal.returns-clause-err
returns-clause-err g c =
    has_stopped_if g.P.Out.LinkState.Service g.P.In.LinkState.Service (g.P.Pair.last c.args.pair.now)
    (g.P.Pair.last c.run_over.new.pair)
    c.args.script.now c.run_over.result c.run_over.ensures.err
