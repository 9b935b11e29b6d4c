use Rattle.std.specs.Prelude.{take}
use Rattle.transfer_remote.specs.Listed.{Gathers}
use Rattle.transfer_remote.proofs.listing.add_entries.Given as goal

abbrev pub invariant-loop-entry : goal.invariant-loop-entry
invariant-loop-entry l = Gathers (take l.entry-index l.entries) (record { walk = l.initial.walk; selves = 0 })
    (record { walk = l.walk; selves = l.selves })
