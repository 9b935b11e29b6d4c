use Rattle.std.proofs.Common.{rules, ◌≡◌, true}
use Rattle.sftp_model.specs.Numbers.{FSYNC}
use Rattle.plan_model.specs.FilePlans.{sync_next}
use Rattle.plan_model.specs.Moves.{offers}
use Rattle.sftp_file.specs.Files.{alone, facts_of}
use Rattle.sftp_file.specs.Settles.{settle_meaning}
use Rattle.sftp_file.proofs.Starting.{starts_with, sync_behind}
use Rattle.sftp_file.proofs.file.File.start_sync_all.Goals as goal

pub returns-clause-starts : goal.returns-clause-starts
returns-clause-starts c =
    let offered : offers (facts_of c.args.core.now) FSYNC ≡ true = search rules in
    let may : c.args.self.now.writable ≡ true = search rules in
    starts_with settle_meaning (alone c.args.self.now) (sync_next 0) c.args.self.now c.fsync_request.result _ _
    c.args.core.now c.ask.new.core c.ask.result c.fsync_request.ensures.is
    (λ answers brought. sync_behind c.args.self.now (facts_of c.args.core.now) answers _ offered may brought)
    c.ask.ensures.started c.ask.ensures.begins c.ask.ensures.keeps
