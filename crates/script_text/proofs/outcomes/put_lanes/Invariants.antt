use Rattle.std.proofs.Common.{◌≡◌, ◌++◌, drop}
use Rattle.sftp_wire.specs.Body.{AppendsBytes}
use Rattle.script_text.specs.Texts.{lane_lines}
use Rattle.script_text.proofs.outcomes.put_lanes.Given as goal

-- the lines that are left complete those of all
abbrev pub invariant-loop-lane : goal.invariant-loop-lane
invariant-loop-lane l =
    record {
      left : l.out.items ++ lane_lines l.lane (drop l.lane l.lanes) ≡ l.initial.out.items ++ lane_lines 0 l.lanes;
      grows : AppendsBytes l.initial.out.items l.out.items;
    }
