use Rattle.link_frames.proofs.Joining.{escaped}
use Rattle.sftp_client.proofs.TreeRemoving.{tree_removed, tree_unwalked}
use Rattle.sftp_client.proofs.sftp.Sftp.remove_tree.Goals as goal

pub returns-in_err-found : goal.returns-in_err-found
returns-in_err-found g c =
    rw (escaped c.from_residual.result c.in_err-found.field-0.0 c.from_residual.ensures.1)
    (tree_unwalked g.L.LinkState.state c.args.path.now c.args.self.now c.walk.new.self c.in_err-found.field-0.0
    c.in_err-found.ensures.stops c.in_err-found.ensures.keeps c.in_err-found.ensures.usable)

pub returns : goal.returns
returns g c =
    tree_removed g.L.LinkState.state c.args.path.now c.args.self.now c.walk.new.self c.remove_walked.new.self
    c.in_ok-found.found.items c.remove_walked.result c.in_ok-found.ensures.walks c.in_ok-found.ensures.keeps
    c.remove_walked.ensures
