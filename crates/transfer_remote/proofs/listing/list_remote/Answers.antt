use Rattle.std.proofs.Common.{rules}
use Rattle.sftp_client.specs.DirCalls.{ListsWhole}
use Rattle.transfer_remote.proofs.ListLaws.{folder_listed}
use Rattle.transfer_remote.proofs.listing.list_remote.Goals as goal

pub returns-in-Ok-clause-told : goal.returns-in-Ok-clause-told
returns-in-Ok-clause-told g c =
    let lists : ListsWhole c.folder.result.now.source g.L.LinkState.state c.args.sftp.now c.list_dir.new.sftp
    c.in-Ok.entries.items = search rules in
    folder_listed g.L.LinkState.state c.args.sftp.now c.list_dir.new.sftp c.folder.result.now c.in-Ok.entries.items
    c.deref.result.now c.args.walk.now c.add_entries.new.walk c.add_entries.result c.folder.ensures lists
    c.deref.ensures.value c.add_entries.ensures
