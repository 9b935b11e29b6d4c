use Rattle.std.proofs.Common.{rules, ◌≡◌, ◌==◌, arith, false}
use Rattle.std.specs.Prelude.{min}
use Rattle.std.proofs.lemmas.Bool.Decides.{nat_tests}
use Rattle.sftp_model.specs.declared.request.Request.TheVariants as request
use Rattle.plan_state.specs.declared.submission.Asking.TheVariants.{Whole}
use Rattle.plan_model.specs.TransferPlans.{read_next}
use Rattle.sftp_file.specs.Files.{alone, facts_of}
use Rattle.sftp_file.specs.Reads.{read_meaning}
use Rattle.sftp_file.proofs.Starting.{read_behind, starts_with}
use Rattle.sftp_file.proofs.file.File.start_read.Goals as goal

pub returns-clause-starts : goal.returns-clause-starts
returns-clause-starts c =
    let some : (c.args.n == 0) ≡ false = grind (arith, nat_tests) in
    let len : c.min-len.result ≡ min c.args.n (facts_of c.args.core.now).read_len = search rules in
    let is : c.read_request-asking.result ≡ Whole (request.Read c.args.self.now.grant.handle c.args.self.now.offset
    c.min-len.result) =
    search rules in
    starts_with read_meaning tt (read_next 0 c.args.n) c.args.self.now c.read_request-asking.result _ _ c.args.core.now
    c.ask.new.core c.ask.result is
    (λ answers brought. read_behind c.args.self.now c.at-file.result c.args.n c.min-len.result
    (facts_of c.args.core.now) answers c.may_read.result c.in_default.field-0 c.at-file.ensures some len brought
    (c.may_read.ensures.looks (alone c.args.self.now) answers) c.in_default.is)
    c.ask.ensures.started c.ask.ensures.begins c.ask.ensures.keeps
