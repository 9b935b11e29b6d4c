use Rattle.std.proofs.Common.{rules}
use Rattle.sftp_link.specs.Told.{IfLogged}
use Rattle.sftp_serve.specs.Serving.{HaltsAll}
use Rattle.sftp_serve.proofs.Ends.{serves_stream}
use Rattle.sftp_serve.proofs.engine.serve_client.Goals as goal

pub returns-clause-serves : goal.returns-clause-serves
returns-clause-serves g c =
    let before = g.L.LinkState.state c.args.link.now in
    let now = g.L.LinkState.state c.serve_frames.new.link in
    let halts : IfLogged (HaltsAll c.args.server c.serve_frames.result now.ended) before.log now.log = search rules in
    serves_stream c.args.server c.serve_frames.result before now c.serve_frames.ensures.status c.requires halts
    c.serve_frames.ensures.ended c.serve_frames.ensures.fault c.serve_frames.ensures.unfailed
