use Rattle.std.proofs.Common.{◌≡◌, refl, subst, Option, Some, Ok, rules}
use Rattle.plan_state.specs.declared.submission.Asking.{Asking}
use Rattle.plan_state.proofs.Keeping.{keeps_same}
use Rattle.plan_model.specs.TransferPlans.{read_all_next}
use Rattle.sftp_file.specs.Files.{facts_of}
use Rattle.sftp_file.specs.Gathers.{IsNextRead, next_read, reading_all}
use Rattle.sftp_file.proofs.GatherLaws.{MovesAs, first_read_behind, first_read_refused}
use Rattle.sftp_file.proofs.Starting.{starts_asking}
use Rattle.sftp_file.proofs.file.File.start_read_all.Goals as goal

pub returns-in-Err-clause-starts : goal.returns-in-Err-clause-starts
returns-in-Err-clause-starts c =
    record {
      starts = record {
        starts = λ answers brought. (
          first_read_refused c.args.self.now (facts_of c.args.core.now) c.args.n c.gathering-runner.result c.in-Err.why
              answers
              c.gathering-runner.ensures (c.in-Err.ensures.goes answers) brought,
          refl,
        );
        under_way = tt;
        keeps = keeps_same c.args.core.now;
      };
      bytes = refl;
    }

pub returns-in-Err-ask-clause-starts : goal.returns-in-Err-ask-clause-starts
returns-in-Err-ask-clause-starts c =
    let given : c.in-Ok-Some.field-0 ≡ Some c.in-Ok-Some.asking = search rules in
    record {
      starts = starts_asking reading_all tt (read_all_next 0 c.args.n) c.args.self.now c.in-Ok-Some.asking _
          c.args.core.now
          c.ask.new.core _
          (λ answers brought. first_read_behind c.args.self.now (facts_of c.args.core.now) c.args.n
          c.gathering-runner.result
          c.next.new.self c.in-Ok-Some.asking answers c.gathering-runner.ensures
          (subst (λ (o : Option Asking). IsNextRead c.gathering-runner.result c.next.new.self (Ok o)) given
          c.in-Ok-Some.ensures.is)
          (subst (λ (o : Option Asking). MovesAs c.gathering-runner.result answers
          (next_read c.gathering-runner.result (Ok o))) given
          (c.in-Ok-Some.ensures.goes answers)) brought)
          c.in-Err-ask.ensures.started c.in-Err-ask.ensures.begins c.in-Err-ask.ensures.keeps;
      bytes = refl;
    }
