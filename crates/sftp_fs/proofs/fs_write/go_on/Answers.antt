use Rattle.sftp_fs.proofs.WriteSteps.{parts_end, parts_on}
use Rattle.std.proofs.Common.{rules, ◌≡◌, true, false}
use Rattle.plan_state.specs.Calls.{is_ended}
use Rattle.sftp_fs.proofs.fs_write.go_on.Goals as goal

pub returns-then-not-is_ended : goal.returns-then-not-is_ended
returns-then-not-is_ended c facts =
    let on : is_ended c.step-told.new.self.stage ≡ false = search rules in
    parts_on facts c.args.core.now c.step-told.new.core c.args.grant c.args.call c.step-told.new.self c.step-told.result
    c.requires.held.0 c.requires.held.2 c.step-told.ensures on

pub returns : goal.returns
returns c facts =
    let ended : is_ended c.step-told.new.self.stage ≡ true = search rules in
    parts_end facts c.args.core.now c.step-told.new.core c.cancel.new.core c.close.new.core c.args.grant c.args.call
    c.step-told.new.self c.step-told.result c.requires.held.0 c.step-told.ensures ended c.cancel.ensures.core
    c.close.ensures
