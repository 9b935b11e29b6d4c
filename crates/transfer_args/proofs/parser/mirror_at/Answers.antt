use Rattle.std.proofs.Common.{sym, subst}
use Rattle.transfer_args.proofs.FewLaws.{two_trees}
use Rattle.transfer_args.specs.Words.{Reads, choices_seen, work_seen}
use Rattle.transfer_args.proofs.parser.mirror_at.Goals as goal

pub returns-in-len2 : goal.returns-in-len2
returns-in-len2 c = subst (λ asked. Reads work_seen c.mirror_of.result asked)
    (sym (two_trees (λ w. w.now) c.args.way (choices_seen c.args.choices) c.args.operands.now _
    c.in-len2.len_at_least c.in-len2.len_below)) c.mirror_of.ensures
