use Rattle.std.proofs.Common.{◌≡◌, true, false, rules}
use Rattle.link_frames.proofs.Joining.{escaped}
use Rattle.sftp_client.specs.RemovedTrees.{is_link}
use Rattle.sftp_client.proofs.TreeRemoving.{link_removed, path_removed, path_unknown}
use Rattle.sftp_client.proofs.sftp.Sftp.remove_dir_all.Goals as goal

pub returns-in_err-told : goal.returns-in_err-told
returns-in_err-told g c =
    rw (escaped c.from_residual.result c.in_err-told.field-0.0 c.from_residual.ensures.1)
    (path_unknown g.L.LinkState.state c.args.path.now c.args.self.now c.symlink_metadata.new.self
    c.in_err-told.field-0.0 c.in_err-told.ensures)

pub returns-then-is_link : goal.returns-then-is_link
returns-then-is_link g c =
    let is : is_link c.in_ok-told.told ≡ true = search rules in
    link_removed g.L.LinkState.state c.args.path.now c.args.self.now c.symlink_metadata.new.self
    c.remove_file.new.self c.in_ok-told.told c.remove_file.result c.in_ok-told.ensures is c.remove_file.ensures

pub returns : goal.returns
returns g c =
    let is : is_link c.in_ok-told.told ≡ false = search rules in
    path_removed g.L.LinkState.state c.args.path.now c.args.self.now c.symlink_metadata.new.self
    c.remove_tree.new.self c.in_ok-told.told c.remove_tree.result c.in_ok-told.ensures is c.remove_tree.ensures
