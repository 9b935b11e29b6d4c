use Rattle.std.proofs.Common.{◌∙◌}
use Rattle.sftp_cli.specs.Bulk.{choice}
use Rattle.sftp_cli.proofs.Steps.{draws_end, draws_go_on}
use Rattle.sftp_cli.proofs.draws.Draws.choices.Goals as goal

pub loop-k-preserved : goal.loop-k-preserved
loop-k-preserved c =
    draws_go_on (λ k. choice) _ _ _ _ _ _ _ _ c.loop-k.invariant c.loop-k-test.true c.choice-choice.ensures.gives
    c.choice-choice.ensures.passes c.in_ok-push.ensures.items

pub returns : goal.returns
returns c =
    let all = draws_end (λ k. choice) _ _ _ _ _ c.loop-k.invariant c.loop-k-test.false in
    record { gives = c.new.ensures ∙ all.0; passes = all.1 }
