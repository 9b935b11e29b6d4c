use Rattle.std.proofs.Common.{rules, ◌≡◌, subst}
use Rattle.sftp_core.specs.Core.{Core, record_at, release_gives, core_after_release, users_of}
use Rattle.sftp_fs.specs.Directories.{ClosesDir}
use Rattle.sftp_fs.specs.Listings.{given_up}
use Rattle.sftp_fs.proofs.DirectoryLaws.{closes_by}
use Rattle.sftp_fs.proofs.read_dir.ReadDir.start_close.Goals as goal

pub returns : goal.returns
returns c =
    let gives : c.release.result ≡ release_gives c.args.self.grant
    (users_of (record_at c.give_up.new.core c.args.self.grant.id)) = search rules in
    let after : c.release.new.self ≡ core_after_release c.give_up.new.core c.args.self.grant = search rules in
    let gave : c.give_up.new.core ≡ given_up c.args.core.now c.args.self.asked = search rules in
    subst (λ (x : Core). ClosesDir c.args.self.grant x c.release.new.self c.close_call.result) gave
    (closes_by c.args.self.grant c.give_up.new.core c.release.new.self c.close_call.result c.release.result gives after
    c.close_call.ensures)
