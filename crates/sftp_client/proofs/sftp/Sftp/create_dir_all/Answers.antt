use Rattle.std.proofs.Common.{◌≡◌, ◌<◌, length, rules}
use Rattle.link_frames.proofs.Joining.{escaped}
use Rattle.sftp_client.proofs.Sequences.{all_none}
use Rattle.sftp_client.proofs.TreeMaking.{path_end, path_next, path_stops}
use Rattle.sftp_client.specs.CreatedDirs.{MakesDir}
use Rattle.sftp_client.proofs.sftp.Sftp.create_dir_all.Goals as goal

pub loop-end-init : goal.loop-end-init
loop-end-init g c = all_none (MakesDir g.L.LinkState.state) g.L.LinkState.state c.args.self.now c.requires

pub loop-end-preserved : goal.loop-end-preserved
loop-end-preserved g c =
    path_next g.L.LinkState.state c.args.path.now c.loop-end.end c.args.self.now c.loop-end.self
    c.ensure_dir_at.new.self c.loop-end.invariant c.in_ok-ensure_dir_at.ensures

pub returns-in_err-ensure_dir_at : goal.returns-in_err-ensure_dir_at
returns-in_err-ensure_dir_at g c =
    let less : c.loop-end.end < length c.args.path.now = search rules in
    rw (escaped c.from_residual.result c.in_err-ensure_dir_at.field-0.0 c.from_residual.ensures.1)
    (path_stops g.L.LinkState.state c.args.path.now c.loop-end.end c.args.self.now c.loop-end.self
    c.ensure_dir_at.new.self c.in_err-ensure_dir_at.field-0.0 less c.loop-end.invariant c.in_err-ensure_dir_at.ensures)

pub returns : goal.returns
returns g c =
    let all : c.loop-end.end ≡ length c.args.path.now = search rules in
    path_end g.L.LinkState.state c.args.path.now c.loop-end.end c.args.self.now c.loop-end.self c.ensure_dir.new.self
    c.ensure_dir.result all c.loop-end.invariant c.ensure_dir.ensures
