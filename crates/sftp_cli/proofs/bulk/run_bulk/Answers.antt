use Rattle.std.proofs.Common.{◌≡◌, rules}
use Rattle.std.specs.Prelude.{Err}
use Rattle.sftp_cli.specs.Bulk.{bulk_script}
use Rattle.program_shell.specs.declared.ending.ProgramFailure.TheVariants.{OutOfMemory}
use Rattle.sftp_cli.proofs.BulkRuns.{bulk_runs}
use Rattle.sftp_cli.proofs.Exits.{summary_answered, summary_unwritten}
use Rattle.sftp_cli.proofs.bulk.run_bulk.Goals as goal

pub text_in_memory-requires-clause-can : goal.text_in_memory-requires-clause-can
text_in_memory-requires-clause-can g c = bulk_runs c.args.numbers c.in_ok-script.script c.requires.bulk
    c.in_ok-script.ensures

pub returns-in_err-text : goal.returns-in_err-text
returns-in_err-text g c =
    let is : c.from_residual-in_err-text.result ≡ Err OutOfMemory = search rules in
    rw is (summary_unwritten (bulk_script c.args.numbers.start c.args.numbers.lanes c.args.numbers.calls)
    c.in_ok-script.script
    c.text_in_memory.new.kept (g.K.Sink.state c.args.sink.now) c.in_ok-script.ensures c.text_in_memory.ensures.left)

pub returns : goal.returns
returns g c =
    summary_answered (bulk_script c.args.numbers.start c.args.numbers.lanes c.args.numbers.calls) c.in_ok-script.script
    c.text_in_memory.new.kept c.deref.result.now c.in_ok-text.text.items c.write_answer.result
    (g.K.Sink.state c.args.sink.now) (g.K.Sink.state c.write_answer.new.sink) c.in_ok-script.ensures
    c.deref.ensures.value
    c.in_ok-text.ensures.text c.text_in_memory.ensures.left c.write_answer.ensures
