use Rattle.std.proofs.Common.{◌≡◌, ◌++◌, drop}
use Rattle.sftp_wire.specs.Body.{AppendsBytes}
use Rattle.script_text.specs.Texts.{outcome_lines}
use Rattle.script_text.proofs.outcomes.put_lane.Given as goal

-- the lines that are left complete those of all
abbrev pub invariant-loop-call : goal.invariant-loop-call
invariant-loop-call l =
    record {
      left : l.out.items ++ outcome_lines l.lane l.call (drop l.call l.outcomes) ≡ l.initial.out.items
          ++ outcome_lines l.lane 0 l.outcomes;
      grows : AppendsBytes l.initial.out.items l.out.items;
    }
