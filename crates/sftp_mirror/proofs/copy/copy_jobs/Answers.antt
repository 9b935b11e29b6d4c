use Rattle.std.proofs.Common.{List, ap, ◌∙◌}
use Rattle.sftp_model.specs.declared.outcome.Outcome.{Outcome}
use Rattle.mirror_jobs.specs.Verdicts.{verdicts_of}
use Rattle.sftp_mirror.proofs.CopyLaws.{copy_reported, copy_stops}
use Rattle.sftp_mirror.proofs.copy.copy_jobs.Goals as goal

pub returns-in-Ok-verdicts_of-clause-run : goal.returns-in-Ok-verdicts_of-clause-run
returns-in-Ok-verdicts_of-clause-run g c =
    copy_reported c.args.width c.args.rounds c.args.jobs.now c.args.options.now c.as_slice.result.now
    c.as_slice-2.result.now
    (g.L.LinkState.state c.args.link.now).log (g.L.LinkState.state c.run_lanes.new.link).log
    (record { report = c.in_ok-report.report; verdicts = c.in-Ok-verdicts_of.verdicts }) c.requires.may
    (c.as_slice.ensures ∙ c.in-Ok.ensures.0) (c.as_slice-2.ensures ∙ c.in-Ok.ensures.1) c.in_ok-report.ensures.run
    (c.in-Ok-verdicts_of.ensures ∙ ap (λ (o : List (List Outcome)). verdicts_of c.args.width c.args.jobs.now o)
    c.as_slice-3.ensures)

pub returns-clause-stops : goal.returns-clause-stops
returns-clause-stops g c =
    copy_stops c.args.width c.args.rounds c.args.jobs.now c.args.options.now c.as_slice.result.now
    c.as_slice-2.result.now
    (g.L.LinkState.state c.run_lanes.new.link).ended (g.L.LinkState.state c.args.link.now).log
    (g.L.LinkState.state c.run_lanes.new.link).log c.in_ok-report.report (c.as_slice.ensures ∙ c.in-Ok.ensures.0)
    (c.as_slice-2.ensures ∙ c.in-Ok.ensures.1) c.in_ok-report.ensures.run
