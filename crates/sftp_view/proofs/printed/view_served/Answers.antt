use Rattle.std.proofs.Common.{◌≡◌, refl}
use Rattle.sftp_model.specs.declared.error.Error.{Error}
use Rattle.sftp_model.specs.declared.error.Error.TheVariants as error
use Rattle.session_driver.specs.Logs.{EndsAs}
use Rattle.session_model.specs.Journals.{IsJournal}
use Rattle.sftp_lanes.specs.Seen.{session_inputs}
use Rattle.program_shell.proofs.Stopping.{only_for_memory, stops_new}
use Rattle.sftp_view.specs.Doings.{one_lane}
use Rattle.sftp_view.proofs.printed.view_served.Goals as goal

pub out_of_memory_from-requires : goal.out_of_memory_from-requires
out_of_memory_from-requires c =
    only_for_memory (session_inputs one_lane c.args.options.now) c.args.server.now c.run_view-result.new.link
    c.in-Err.error refl
    c.requires.unopened c.requires.quiet c.run_view-result.ensures.caused.service c.is_ended-ended.ensures.serving
    c.in-Err.ensures.complete

pub returns-in-Err-clause-stops : goal.returns-in-Err-clause-stops
returns-in-Err-clause-stops c =
    let only : c.in-Err.error ≡ error.OutOfMemory =
    only_for_memory (session_inputs one_lane c.args.options.now) c.args.server.now c.run_view-result.new.link
    c.in-Err.error refl
    c.requires.unopened c.requires.quiet c.run_view-result.ensures.caused.service c.is_ended-ended.ensures.serving
    c.in-Err.ensures.complete in
    stops_new (λ (e : Error). EndsAs (session_inputs one_lane c.args.options.now) IsJournal
    c.run_view-result.new.link.ended e) c.args.server.now.log c.run_view-result.new.link.log c.in-Err.error
    c.requires.quiet only c.in-Err.ensures.stops
