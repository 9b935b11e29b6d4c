use Rattle.std.proofs.Common.{◌≡◌, drop, length, map}
use Rattle.transfer_filter.specs.Filters.{leaves_out}
use Rattle.transfer_filter.specs.Rules.{rule_seen}
use Rattle.transfer_filter.proofs.filter.first_excludes.Given as goal

abbrev pub invariant-loop-rule : goal.invariant-loop-rule
invariant-loop-rule l = record {
  same_len : length l.row ≡ length l.fn.row;
  same : leaves_out (map rule_seen (drop l.rule-index l.rules)) l.path l.is_directory
      ≡ leaves_out (map rule_seen l.rules) l.path l.is_directory;
}
