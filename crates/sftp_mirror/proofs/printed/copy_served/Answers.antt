use Rattle.std.proofs.Common.{◌≡◌}
use Rattle.sftp_model.specs.declared.error.Error.{Error}
use Rattle.sftp_model.specs.declared.error.Error.TheVariants as error
use Rattle.session_driver.specs.Logs.{EndsSession}
use Rattle.sftp_lanes.specs.Seen.{session_inputs}
use Rattle.mirror_jobs.specs.JobLanes.{lanes_of, turns_of}
use Rattle.program_shell.proofs.Stopping.{only_for_memory, stops_new}
use Rattle.sftp_mirror.proofs.printed.copy_served.Goals as goal

pub out_of_memory_from-requires : goal.out_of_memory_from-requires
out_of_memory_from-requires c =
    only_for_memory (session_inputs (lanes_of c.args.schedule.width c.args.jobs.now) c.args.options.now)
    c.args.server.now
    c.copy_jobs-result.new.link c.in-Err.error c.requires.may.lanes c.requires.unopened c.requires.quiet
    c.copy_jobs-result.ensures.caused.service c.is_ended-ended.ensures.serving c.in-Err.ensures.complete

pub returns-in-Err-clause-stops : goal.returns-in-Err-clause-stops
returns-in-Err-clause-stops c =
    let only : c.in-Err.error ≡ error.OutOfMemory =
    only_for_memory (session_inputs (lanes_of c.args.schedule.width c.args.jobs.now) c.args.options.now)
    c.args.server.now
    c.copy_jobs-result.new.link c.in-Err.error c.requires.may.lanes c.requires.unopened c.requires.quiet
    c.copy_jobs-result.ensures.caused.service c.is_ended-ended.ensures.serving c.in-Err.ensures.complete in
    stops_new (λ (e : Error). EndsSession (session_inputs (lanes_of c.args.schedule.width c.args.jobs.now)
    c.args.options.now) (turns_of c.args.schedule.width c.args.schedule.rounds c.args.jobs.now)
    c.copy_jobs-result.new.link.ended e) c.args.server.now.log c.copy_jobs-result.new.link.log c.in-Err.error
    c.requires.quiet only c.in-Err.ensures.stops
