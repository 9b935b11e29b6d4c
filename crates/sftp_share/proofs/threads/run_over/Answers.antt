use Rattle.sftp_share.proofs.Shares.{ran_if, stopped_if}
use Rattle.sftp_share.proofs.threads.run_over.Goals as goal

pub returns-clause-ok : goal.returns-clause-ok
returns-clause-ok g c =
    let r = c.run_shared-result in
    ran_if (g.P.Out.LinkState.state c.args.out) (g.P.Out.LinkState.state r.result.1)
    (g.P.In.LinkState.state c.args.input)
    (g.P.In.LinkState.state r.result.2) (g.P.Pair.last c.put_back.new.self) c.args.script.now
    c.as_slice-lanes.result.now r.result.0
    c.as_slice-lanes.ensures c.requires.halves.0 c.requires.halves.1 c.put_back.ensures r.ensures.runs r.ensures.over
    r.ensures.ends

pub returns-clause-err : goal.returns-clause-err
returns-clause-err g c =
    let r = c.run_shared-result in
    stopped_if (g.P.Out.LinkState.state c.args.out) (g.P.Out.LinkState.state r.result.1)
    (g.P.In.LinkState.state c.args.input)
    (g.P.In.LinkState.state r.result.2) (g.P.Pair.last c.put_back.new.self) c.args.script.now
    c.as_slice-lanes.result.now r.result.0 c.as_slice-lanes.ensures c.requires.halves.0 c.requires.halves.1
    c.put_back.ensures r.ensures.stops
