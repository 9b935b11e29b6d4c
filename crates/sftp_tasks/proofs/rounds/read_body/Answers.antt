use Rattle.std.proofs.Common.{◌∙◌, rules, sym}
use Rattle.sftp_tasks.proofs.HoldLaws.{body_read}
use Rattle.sftp_tasks.proofs.SentEvents.{whole_body}
use Rattle.sftp_tasks.proofs.rounds.read_body.Goals as goal

pub unreachable-requires : goal.unreachable-requires
unreachable-requires c =
    let body = whole_body c.args.frame c.requires in
    absurd (cc (sym body ∙ c.in-None.ensures.body))

pub returns : goal.returns
returns c = body_read c.args.frame c.in-Some.body.now c.read_reply.result (search rules) c.in-Some.ensures.spelled
    c.read_reply.ensures
