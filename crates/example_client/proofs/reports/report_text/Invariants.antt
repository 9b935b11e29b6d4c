use Rattle.std.proofs.Common.{◌≡◌}
use Rattle.std.specs.Prelude.{flat_map, take}
use Rattle.example_client.specs.Reports.{report_line}
use Rattle.example_client.proofs.reports.report_text.Given as goal

abbrev pub invariant-loop-file : goal.invariant-loop-file
invariant-loop-file l = l.text.items ≡ flat_map report_line (take l.file-index l.done)
