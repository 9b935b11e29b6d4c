use Rattle.std.proofs.Common.{◌≡◌, rules, sym, ◌∙◌, None}
use Rattle.sftp_model.specs.declared.slot.Slot.TheVariants.{Buffered}
use Rattle.sftp_model.specs.Slots.{with_slot}
use Rattle.plan_runner.specs.Seeks.{sought_bytes}
use Rattle.plan_runner.proofs.BufferSets.{fewer_sought, keeps_sought}
use Rattle.plan_runner.proofs.buffer_seek.begin_buf_seek.Goals as goal

pub returns-clause-sound : goal.returns-clause-sound
returns-clause-sound c facts =
    let is : c.rebuffer.new.site ≡ with_slot c.args.site.now c.args.slot
    (Buffered (record c.in-Buffered.file { offset = c.in-Ok.to })
    (record c.in-Buffered.buffer {
      bytes = sought_bytes c.in-Buffered.file.offset c.in-Ok.to
          c.in-Buffered.buffer.bytes;
      reading = None;
    })) = search rules in
    keeps_sought facts c.args.site.now c.rebuffer.new.site c.args.slot c.in-Ok.to c.in-Buffered.file
    c.in-Buffered.buffer (sym c.slot_of.ensures ∙ c.in-Buffered.is) is

pub returns-clause-pends : goal.returns-clause-pends
returns-clause-pends c =
    let is : c.rebuffer.new.site ≡ with_slot c.args.site.now c.args.slot
    (Buffered (record c.in-Buffered.file { offset = c.in-Ok.to })
    (record c.in-Buffered.buffer {
      bytes = sought_bytes c.in-Buffered.file.offset c.in-Ok.to
          c.in-Buffered.buffer.bytes;
      reading = None;
    })) = search rules in
    fewer_sought c.args.site.now c.rebuffer.new.site c.args.slot c.in-Buffered.file
    (record c.in-Buffered.file { offset = c.in-Ok.to }) c.in-Buffered.buffer
    (sought_bytes c.in-Buffered.file.offset c.in-Ok.to c.in-Buffered.buffer.bytes)
    (sym c.slot_of.ensures ∙ c.in-Buffered.is) c.requires is
