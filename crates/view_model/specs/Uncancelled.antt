-- Journals in which no call was cancelled.
use Rattle.std.specs.Prelude.{List, [], ◌∷◌}
use Rattle.session_model.specs.declared.entry.Entry.{Entry}
use Rattle.session_model.specs.declared.entry.Entry.TheVariants as entry
use Rattle.session_model.specs.declared.event.Event.TheVariants.{Cancel}

-- The journal contains no Cancel.
abbrev pub IsUncancelled : List Entry → Type 0
IsUncancelled [] = Unit {0}
IsUncancelled (entry.Event (Cancel lane) ∷ past) = ⊥
IsUncancelled (_ ∷ past) = IsUncancelled past
