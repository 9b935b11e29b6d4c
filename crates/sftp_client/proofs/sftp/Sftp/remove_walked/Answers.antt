use Rattle.std.proofs.Common.{◌≡◌, [], rules}
use Rattle.link_frames.proofs.Joining.{escaped}
use Rattle.sftp_client.proofs.TreeRemoving.{removing_ends, removing_first, removing_next, removing_stops}
use Rattle.sftp_client.proofs.sftp.Sftp.remove_walked.Goals as goal

pub loop-entry-init : goal.loop-entry-init
loop-entry-init g c = removing_first g.L.LinkState.state c.args.found.items c.args.self.now c.requires

pub loop-entry-preserved : goal.loop-entry-preserved
loop-entry-preserved g c =
    removing_next g.L.LinkState.state c.args.found.items c.loop-entry.found.items c.pop.new.self.items
    c.in-Some.entry c.args.self.now c.loop-entry.self c.remove_entry.new.self c.loop-entry.invariant
    c.in-Some.ensures.items c.in_ok-remove_entry.ensures

pub returns-in_err-remove_entry : goal.returns-in_err-remove_entry
returns-in_err-remove_entry g c =
    rw (escaped c.from_residual.result c.in_err-remove_entry.field-0.0 c.from_residual.ensures.1)
    (removing_stops g.L.LinkState.state c.args.path.now c.args.found.items c.loop-entry.found.items
    c.pop.new.self.items c.in-Some.entry c.args.self.now c.loop-entry.self c.remove_entry.new.self
    c.in_err-remove_entry.field-0.0 c.loop-entry.invariant c.in-Some.ensures.items c.in_err-remove_entry.ensures)

pub returns : goal.returns
returns g c =
    let none : c.loop-entry.found.items ≡ [] = search rules in
    removing_ends g.L.LinkState.state c.args.path.now c.args.found.items c.loop-entry.found.items c.args.self.now
    c.loop-entry.self c.remove_dir.new.self c.remove_dir.result c.loop-entry.invariant none c.remove_dir.ensures
