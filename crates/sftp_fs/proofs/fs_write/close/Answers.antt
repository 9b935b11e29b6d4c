use Rattle.std.proofs.Common.{rules, ◌≡◌, Some}
use Rattle.plan_state.proofs.Closing.{closing_ticket}
use Rattle.sftp_fs.proofs.fs_write.close.Goals as goal

pub abandon-requires : goal.abandon-requires
abandon-requires c =
    let gives : c.release.result ≡ Some c.in-Some.ticket = search rules in
    closing_ticket c.args.core.now c.release.new.self c.args.grant c.in-Some.ticket c.requires c.release.ensures.after
    c.release.ensures.answer gives
