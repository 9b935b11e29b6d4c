use Rattle.std.proofs.Common.{rules, ◌≡◌, true}
use Rattle.plan_model.specs.FilePlans.{meta_next}
use Rattle.sftp_file.specs.Files.{alone, facts_of}
use Rattle.sftp_file.specs.Tells.{attrs_meaning}
use Rattle.sftp_file.proofs.Starting.{meta_behind, starts_with}
use Rattle.sftp_file.proofs.file.File.start_metadata.Goals as goal

pub returns-clause-starts : goal.returns-clause-starts
returns-clause-starts c =
    let may : c.args.self.now.readable ≡ true = search rules in
    starts_with attrs_meaning (alone c.args.self.now) (meta_next 0) c.args.self.now c.fstat_request.result _ _
    c.args.core.now
    c.ask.new.core c.ask.result c.fstat_request.ensures.is
    (λ answers brought. meta_behind c.args.self.now (facts_of c.args.core.now) answers _ may brought)
    c.ask.ensures.started c.ask.ensures.begins c.ask.ensures.keeps
