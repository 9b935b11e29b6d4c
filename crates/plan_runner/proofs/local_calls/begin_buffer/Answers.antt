use Rattle.std.proofs.Common.{◌≡◌, rules, arith, [], None}
use Rattle.sftp_model.specs.declared.slot.Slot.{Slot}
use Rattle.sftp_model.specs.declared.slot.Slot.TheVariants.{Buffered}
use Rattle.sftp_model.specs.Slots.{with_slot}
use Rattle.plan_runner.proofs.Keeping.{keeps_set}
use Rattle.plan_runner.proofs.local_calls.begin_buffer.Goals as goal

pub returns-clause-sound : goal.returns-clause-sound
returns-clause-sound c facts =
    let bare : Slot = Buffered c.in-File.file (record { len = c.args.len; bytes = []; deferred = []; reading = None })
    in
    let is : c.set_slot.new.site ≡ with_slot c.args.site.now c.args.slot bare = search rules in
    keeps_set facts c.args.site.now c.set_slot.new.site c.args.slot bare is (omega arith, omega arith)
