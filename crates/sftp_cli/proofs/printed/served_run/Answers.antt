use Rattle.std.proofs.Common.{◌≡◌}
use Rattle.sftp_model.specs.declared.error.Error.{Error}
use Rattle.sftp_model.specs.declared.error.Error.TheVariants as error
use Rattle.session_driver.specs.Logs.{EndsSession}
use Rattle.sftp_lanes.specs.Seen.{session_inputs}
use Rattle.program_shell.proofs.Stopping.{only_for_memory, stops_new}
use Rattle.sftp_cli.proofs.printed.served_run.Goals as goal

pub out_of_memory_from-requires : goal.out_of_memory_from-requires
out_of_memory_from-requires c =
    only_for_memory (session_inputs c.args.lanes.now c.args.options.now) c.args.server.now c.run_lanes-result.new.link
    c.in-Err.error
    c.requires.lanes c.requires.unopened c.requires.quiet c.run_lanes-result.ensures.caused.service
    c.is_ended-ended.ensures.serving
    c.in-Err.ensures.complete

pub returns-in-Err-clause-stops : goal.returns-in-Err-clause-stops
returns-in-Err-clause-stops c =
    let only : c.in-Err.error ≡ error.OutOfMemory =
    only_for_memory (session_inputs c.args.lanes.now c.args.options.now) c.args.server.now c.run_lanes-result.new.link
    c.in-Err.error
    c.requires.lanes c.requires.unopened c.requires.quiet c.run_lanes-result.ensures.caused.service
    c.is_ended-ended.ensures.serving
    c.in-Err.ensures.complete in
    stops_new (λ (e : Error). EndsSession (session_inputs c.args.lanes.now c.args.options.now) c.args.turns.now
    c.run_lanes-result.new.link.ended e) c.args.server.now.log c.run_lanes-result.new.link.log c.in-Err.error
    c.requires.quiet only c.in-Err.ensures.stops
