use Rattle.std.proofs.Common.{rules, ◌≡◌, Ok}
use Rattle.sftp_core.specs.Core.{polled_with}
use Rattle.sftp_core.specs.declared.tokens.Polled.TheVariants as polled
use Rattle.sftp_streams.proofs.Taking.{came}
use Rattle.sftp_streams.proofs.parts.take_reply.Goals as goal

pub returns-in-Ok-Reply : goal.returns-in-Ok-Reply
returns-in-Ok-Reply c =
    let gave : polled_with c.args.core.now c.args.ticket ≡ Ok (polled.Reply c.in-Ok-Reply.reply) = search rules in
    came c.args.core.now c.poll.new.self c.args.ticket c.in-Ok-Reply.reply c.poll.ensures.allowed gave
    c.poll.ensures.after
