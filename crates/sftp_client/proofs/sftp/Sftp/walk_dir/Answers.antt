use Rattle.std.proofs.Common.{inl}
use Rattle.link_frames.proofs.Joining.{escaped}
use Rattle.sftp_client.proofs.Walking.{dir_appended, dir_stops, walking}
use Rattle.sftp_client.proofs.sftp.Sftp.walk_dir.Goals as goal

pub returns-in_err-entries : goal.returns-in_err-entries
returns-in_err-entries g c =
    rw (escaped c.from_residual.result c.in_err-entries.field-0.0 c.from_residual.ensures.1)
    (dir_stops g.L.LinkState.state c.args.path.now (walking c.args.self.now c.args.found.now.items)
    (walking c.list_dir.new.self c.args.found.now.items) c.in_err-entries.field-0.0
    (inl c.in_err-entries.ensures.lists) c.in_err-entries.ensures.keeps c.in_err-entries.ensures.usable)

pub returns : goal.returns
returns g c =
    dir_appended g.L.LinkState.state c.args.path.now c.args.self.now c.list_dir.new.self c.args.found.now.items
    c.append_entries.new.found.items c.in_ok-entries.entries.items c.deref.result.now c.append_entries.result
    c.in_ok-entries.ensures.lists c.deref.ensures.value c.append_entries.ensures.pushes
    c.append_entries.ensures.memory c.in_ok-entries.ensures.keeps c.in_ok-entries.ensures.usable
