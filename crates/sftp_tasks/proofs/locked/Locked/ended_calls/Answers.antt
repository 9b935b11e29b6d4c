use Rattle.std.proofs.Common.{rules, ◌≡◌, None}
use Rattle.session_model.specs.Calls.{current}
use Rattle.session_work.specs.Working.{past_of}
use Rattle.sftp_lanes.specs.Seen.{setting_at}
use Rattle.sftp_tasks.proofs.PollLaws.{all_ended}
use Rattle.sftp_tasks.proofs.locked.Locked.ended_calls.Goals as goal

pub returns-clause-ended : goal.returns-clause-ended
returns-clause-ended c =
    let s = c.args.self.now.session in
    let none : current (setting_at s) (past_of s.work) c.args.lane ≡ None = search rules in
    all_ended s c.args.lane _ c.journal.ensures.so_far none (search rules)
