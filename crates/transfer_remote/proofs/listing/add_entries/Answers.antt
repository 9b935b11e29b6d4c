use Rattle.std.proofs.lemmas.List.{take_more}
use Rattle.transfer_remote.proofs.ListLaws.{adds_next}
use Rattle.transfer_remote.proofs.listing.add_entries.Goals as goal

pub loop-entry-preserved : goal.loop-entry-preserved
loop-entry-preserved c =
    adds_next c.args.entries.now c.loop-entry.entry-index _ (record { walk = c.args.walk.now; selves = 0 })
    (record { walk = c.loop-entry.walk; selves = c.loop-entry.selves })
    (record { walk = c.add_entry.new.walk; selves = c.add_entry.new.selves })
    (take_more c.args.entries.now c.loop-entry.entry-index _ c.loop-entry-test.true) c.loop-entry.invariant
    (rw (c.entry-item.is) at c.in-Ok.ensures)
