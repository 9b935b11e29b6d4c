use Rattle.std.proofs.Common.{rules, ◌≡◌, ◌∙◌, ap, sym, Ok}
use Rattle.sftp_core.specs.Core.{after_poll, record_at, polled_with}
use Rattle.sftp_core.specs.declared.tokens.Polled.TheVariants as polled
use Rattle.plan_state.proofs.Polling.{came_grant, came_reply}
use Rattle.transfer_copy.proofs.answers.answer_to.Goals as goal

pub returns-in-Ok-Reply-clause-answer : goal.returns-in-Ok-Reply-clause-answer
returns-in-Ok-Reply-clause-answer c =
    let gave : polled_with c.args.core.now c.args.ticket ≡ Ok (polled.Reply c.in-Ok-Reply.reply) = search rules in
    let came = came_reply c.args.core.now c.args.ticket c.in-Ok-Reply.reply c.poll.ensures.allowed gave in
    record { taken = came.taken; allowed = came.allowed }

pub returns-in-Ok-Granted-clause-answer : goal.returns-in-Ok-Granted-clause-answer
returns-in-Ok-Granted-clause-answer c =
    let gave : polled_with c.args.core.now c.args.ticket ≡ Ok (polled.Granted c.in-Ok-Granted.grant) = search rules in
    let came = came_grant c.args.core.now c.args.ticket c.in-Ok-Granted.grant c.poll.ensures.allowed gave in (
      record { taken = came.taken; allowed = came.allowed },
      came.granted.0,
      ap (record_at (after_poll c.args.core.now c.args.ticket)) (sym came.granted.0) ∙ came.granted.1,
    )
