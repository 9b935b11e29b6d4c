use Rattle.std.proofs.Common.{rules, ◌≡◌}
use Rattle.sftp_model.specs.Slots.{slot_at}
use Rattle.plan_runner.specs.Buffers.{without_oldest}
use Rattle.plan_runner.proofs.Flushes.{fewer_oldest}
use Rattle.plan_runner.proofs.SlotSets.{set_twice}
use Rattle.plan_runner.proofs.buffer_flush.take_oldest.Goals as goal

pub returns-in-Buffered-clause-fewer : goal.returns-in-Buffered-clause-fewer
returns-in-Buffered-clause-fewer c =
    let is : c.set_slot.new.site ≡ without_oldest c.args.site.now c.args.slot (slot_at c.args.site.now c.args.slot) =
    search (rules, set_twice) in
    fewer_oldest c.args.site.now c.set_slot.new.site c.args.slot c.requires is

pub returns-in-File-clause-fewer : goal.returns-in-File-clause-fewer
returns-in-File-clause-fewer c =
    let is : c.set_slot-in-File.new.site ≡ without_oldest c.args.site.now c.args.slot
    (slot_at c.args.site.now c.args.slot) = search (rules, set_twice) in
    fewer_oldest c.args.site.now c.set_slot-in-File.new.site c.args.slot c.requires is
