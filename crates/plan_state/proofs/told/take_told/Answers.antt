use Rattle.std.proofs.Common.{rules, ◌≡◌, ◌≤◌, sym, subst, Ok, Err}
use Rattle.std.specs.FinMap as fin
use Rattle.sftp_core.specs.Core.{Core, polled_with}
use Rattle.sftp_core.specs.declared.tokens.Polled.TheVariants as polled
use Rattle.plan_state.specs.Told.{ReplyCame, IsUntold}
use Rattle.plan_state.specs.declared.told.Told.TheVariants as told
use Rattle.plan_state.specs.declared.told.Untold.TheVariants as untold
use Rattle.plan_state.proofs.Polling.{came_grant, came_reply, failed_by, missed_by, polls_few}
use Rattle.plan_state.proofs.told.take_told.Goals as goal

pub returns-in-Ok-Reply-clause-came : goal.returns-in-Ok-Reply-clause-came
returns-in-Ok-Reply-clause-came c =
    let gave : polled_with c.args.core.now c.args.ticket ≡ Ok (polled.Reply c.in-Ok-Reply.reply) = search rules in
    subst (λ (x : Core). ReplyCame c.args.core.now x c.args.ticket (told.Reply c.in-Ok-Reply.reply))
    (sym c.poll.ensures.after)
    (came_reply c.args.core.now c.args.ticket c.in-Ok-Reply.reply c.poll.ensures.allowed gave)

pub returns-in-Ok-Granted-clause-came : goal.returns-in-Ok-Granted-clause-came
returns-in-Ok-Granted-clause-came c =
    let gave : polled_with c.args.core.now c.args.ticket ≡ Ok (polled.Granted c.in-Ok-Granted.grant) = search rules in
    subst (λ (x : Core). ReplyCame c.args.core.now x c.args.ticket (told.Granted c.in-Ok-Granted.grant))
    (sym c.poll.ensures.after)
    (came_grant c.args.core.now c.args.ticket c.in-Ok-Granted.grant c.poll.ensures.allowed gave)

pub returns-in-Ok-Failed-clause-missing : goal.returns-in-Ok-Failed-clause-missing
returns-in-Ok-Failed-clause-missing c =
    let gave : polled_with c.args.core.now c.args.ticket ≡ Ok (polled.Failed c.in-Ok-Failed.fault) = search rules in
    failed_by c.args.core.now c.args.ticket c.in-Ok-Failed.fault gave

pub returns-in-Err-clause-missing : goal.returns-in-Err-clause-missing
returns-in-Err-clause-missing c =
    let gave : polled_with c.args.core.now c.args.ticket ≡ Err c.in-Err.ticket = search rules in
    subst (λ (x : Core). IsUntold c.args.core.now x c.args.ticket (untold.Missing c.in-Err.ticket))
    (sym c.poll.ensures.after)
    (missed_by c.args.core.now c.args.ticket c.in-Err.ticket c.requires gave)

pub returns-in-Ok-Reply-clause-few : goal.returns-in-Ok-Reply-clause-few
returns-in-Ok-Reply-clause-few c = subst (λ (x : Core). fin.len x.table ≤ fin.len c.args.core.now.table)
    (sym c.poll.ensures.after) (polls_few c.args.core.now c.args.ticket)

pub returns-in-Ok-Granted-clause-few : goal.returns-in-Ok-Granted-clause-few
returns-in-Ok-Granted-clause-few c = subst (λ (x : Core). fin.len x.table ≤ fin.len c.args.core.now.table)
    (sym c.poll.ensures.after) (polls_few c.args.core.now c.args.ticket)

pub returns-in-Ok-Failed-clause-few : goal.returns-in-Ok-Failed-clause-few
returns-in-Ok-Failed-clause-few c = subst (λ (x : Core). fin.len x.table ≤ fin.len c.args.core.now.table)
    (sym c.poll.ensures.after) (polls_few c.args.core.now c.args.ticket)

pub returns-in-Err-clause-few : goal.returns-in-Err-clause-few
returns-in-Err-clause-few c = subst (λ (x : Core). fin.len x.table ≤ fin.len c.args.core.now.table)
    (sym c.poll.ensures.after) (polls_few c.args.core.now c.args.ticket)
