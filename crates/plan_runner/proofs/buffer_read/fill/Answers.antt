use Rattle.std.proofs.Common.{◌≡◌, ◌∙◌, false, max, min, refl, rules, sym, None, Some}
use Rattle.plan_model.specs.Moves.{overflows}
use Rattle.plan_runner.specs.Pending.{maybe, one, slots_times}
use Rattle.plan_runner.proofs.BufferAsking.{filling_asks}
use Rattle.plan_runner.proofs.Filling.{fill_asks, more_at_most, reading_is, refilled_times}
use Rattle.plan_runner.proofs.buffer_read.fill.Goals as goal

pub returns-clause-goes : goal.returns-clause-goes
returns-clause-goes c =
    let none : c.in-Buffered.buffer.reading ≡ None = search rules in
    let room : overflows c.in-Buffered.file.offset c.min-len.result ≡ false = search rules in
    let is_len : c.min-len.result ≡ min (max c.args.n c.in-Buffered.buffer.len) c.args.facts.now.read_len = search rules
    in
    fill_asks c.args.slot c.args.n c.args.place c.in-Buffered.file.offset c.min-len.result c.in-Buffered.file
    c.in-Buffered.buffer c.args.site.now c.set_reading.new.site c.args.facts.now c.requires
    (sym c.slot_of.ensures ∙ c.in-Buffered.is)
    none c.set_reading.ensures c.if-not-file.false room is_len refl

pub returns-clause-pends : goal.returns-clause-pends
returns-clause-pends c q =
    more_at_most (slots_times q c.args.site.now.slots) (slots_times q c.set_reading.new.site.slots)
    (maybe c.in-Buffered.buffer.reading q) (one c.args.place q)
    (refilled_times q c.args.site.now c.set_reading.new.site c.args.slot c.in-Buffered.file c.in-Buffered.file
    c.in-Buffered.buffer c.in-Buffered.buffer.bytes (Some c.args.place) c.requires
    (sym c.slot_of.ensures ∙ c.in-Buffered.is)
    (reading_is c.args.slot (Some c.args.place) c.in-Buffered.file c.in-Buffered.buffer c.args.site.now
    c.set_reading.new.site (sym c.slot_of.ensures ∙ c.in-Buffered.is) c.set_reading.ensures))

pub returns-clause-asks : goal.returns-clause-asks
returns-clause-asks c =
    let room : overflows c.in-Buffered.file.offset c.min-len.result ≡ false = search rules in
    filling_asks c.args.place c.args.slot c.args.n c.in-Buffered.file.offset c.min-len.result c.in-Buffered.file
    c.in-Buffered.buffer c.args.site.now c.set_reading.new.site c.requires
    (sym c.slot_of.ensures ∙ c.in-Buffered.is) c.set_reading.ensures room
