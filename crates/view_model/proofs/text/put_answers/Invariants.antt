use Rattle.std.proofs.Common.{◌≡◌, ◌++◌, length}
use Rattle.sftp_wire.specs.Body.{AppendsBytes}
use Rattle.view_model.specs.AnswerText.{answer_lines}
use Rattle.view_model.proofs.text.put_answers.Given as goal

-- the lines that are left complete those of all
abbrev pub invariant-loop-rest : goal.invariant-loop-rest
invariant-loop-rest l =
    record {
      left : l.out.items ++ answer_lines l.rest ≡ l.initial.out.items ++ answer_lines l.answers;
      grows : AppendsBytes l.initial.out.items l.out.items;
    }

abbrev pub decreases-loop-rest : goal.decreases-loop-rest
decreases-loop-rest l = length l.rest
