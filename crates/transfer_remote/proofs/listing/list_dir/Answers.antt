use Rattle.std.proofs.Common.{subst}
use Rattle.sftp_client.specs.DirCalls.{IsListedToEnd}
use Rattle.transfer_remote.proofs.listing.list_dir.Goals as goal

pub returns-in-Ok-close_dir-clause-lists : goal.returns-in-Ok-close_dir-clause-lists
returns-in-Ok-close_dir-clause-lists g c = record {
  opened = c.open_dir.new.self;
  listed = c.entries_of.new.sftp;
  dir = c.in-Ok.dir;
  after = c.entries_of.new.dir;
  opens = c.in-Ok.ensures;
  lists = subst (λ l. IsListedToEnd g.L.LinkState.state c.open_dir.new.self c.entries_of.new.sftp l
      c.entries_of.new.dir c.in-Ok-entries_of.entries.items) c.read_dir-dir.ensures c.in-Ok-entries_of.ensures.listed;
  closes = c.in-Ok-close_dir.ensures;
}
