use Rattle.std.proofs.Common.{rules, ◌≡◌, true}
use Rattle.plan_model.specs.FilePlans.{set_next}
use Rattle.sftp_file.specs.Files.{alone, facts_of}
use Rattle.sftp_file.specs.Settles.{settle_meaning}
use Rattle.sftp_file.proofs.Starting.{set_behind, starts_with}
use Rattle.sftp_file.proofs.file.File.start_set_metadata.Goals as goal

pub returns-clause-starts : goal.returns-clause-starts
returns-clause-starts c =
    let may : c.args.self.now.writable ≡ true = search rules in
    starts_with settle_meaning (alone c.args.self.now) (set_next 0 c.args.metadata) c.args.self.now
    c.fsetstat_request.result
    _ _ c.args.core.now c.ask.new.core c.ask.result (search rules)
    (λ answers brought. set_behind c.args.self.now c.args.metadata (facts_of c.args.core.now) answers _ may brought)
    c.ask.ensures.started c.ask.ensures.begins c.ask.ensures.keeps
