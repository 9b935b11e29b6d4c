use Rattle.std.proofs.Common.{◌≡◌, ◌++◌, length}
use Rattle.sftp_wire.specs.Body.{AppendsBytes}
use Rattle.mirror_jobs.specs.Verdicts.{verdict_lines}
use Rattle.mirror_jobs.proofs.text.put_lines.Given as goal

-- the lines that are left complete those of all
abbrev pub invariant-loop-rest : goal.invariant-loop-rest
invariant-loop-rest l =
    record {
      left : l.out.items ++ verdict_lines l.rest l.said ≡ l.initial.out.items ++ verdict_lines l.jobs l.verdicts;
      grows : AppendsBytes l.initial.out.items l.out.items;
    }

abbrev pub decreases-loop-rest : goal.decreases-loop-rest
decreases-loop-rest l = length l.rest
