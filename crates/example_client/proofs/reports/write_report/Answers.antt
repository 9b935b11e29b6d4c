use Rattle.std.proofs.Common.{◌∙◌, List, ap}
use Rattle.std.specs.Prelude.{flat_map}
use Rattle.example_client.specs.Reports.{report_line}
use Rattle.example_client.specs.declared.downloads.Download.{Download}
use Rattle.example_client.proofs.Reporting.{report_written, usable_on_ok}
use Rattle.example_client.proofs.reports.write_report.Goals as goal

pub returns-clause-writes : goal.returns-clause-writes
returns-clause-writes g c =
    report_written g.L.LinkState.state c.args.directory.now c.args.target.now c.args.sftp.now c.walk.new.self
    c.download_all.new.sftp c.write_file.new.self c.in_ok-found.found.items c.in_ok-files.files.items
    c.in_ok-done.done.items c.deref-2.result.now c.write_file.result c.in_ok-found.ensures.walks
    c.in_ok-files.ensures c.in_ok-done.ensures.done
    (c.deref-2.ensures.value ∙ (c.in_ok-text.ensures
    ∙ ap (λ (l : List Download). flat_map report_line l) c.deref.ensures.value)) c.write_file.ensures

pub returns-clause-usable : goal.returns-clause-usable
returns-clause-usable g c =
    usable_on_ok g.L.LinkState.state c.write_file.new.self c.write_file.result c.write_file.ensures.usable
