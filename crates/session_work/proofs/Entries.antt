-- Entries that are added to a journal.
use Rattle.std.proofs.Common.{◌≡◌, ◌≤◌, ◌∷◌, ◌++◌, [], List, length, arith}
use Rattle.std.specs.Prelude.{reverse}
use Rattle.std.proofs.lemmas.List.{reverse-append, length-reverse}
use Rattle.session_model.specs.declared.event.Event.TheVariants.{Submit}
use Rattle.session_model.specs.declared.entry.Entry.{Entry}
use Rattle.session_model.specs.declared.entry.Entry.TheVariants as entry
use Rattle.session_model.specs.Readings.{count_submitted}
use Rattle.session_work.specs.declared.lanes.Lanes.{Lanes}
use Rattle.session_work.specs.Working.{IsOpened, past_of}

pub pushed : (items : List Entry) (e : Entry) → reverse (items ++ e ∷ []) ≡ e ∷ reverse items
pushed items e = reverse-append items (e ∷ [])

-- a journal has no more requests than entries
asked_few : (past : List Entry) → count_submitted past ≤ length past
asked_few [] = omega arith
asked_few (entry.Event (Submit by id r) ∷ past) = let rest = asked_few past in omega (arith, rest)
asked_few (_ ∷ past) = let rest = asked_few past in omega (arith, rest)

pub asked_within : (w : Lanes) → IsOpened w → w.asked ≤ length w.journal.items
asked_within w o =
    let counts : w.asked ≡ count_submitted (past_of w) = o.1.stands.asked in
    let few = asked_few (past_of w) in
    let same : length (past_of w) ≡ length w.journal.items = length-reverse w.journal.items in
    omega (arith, counts, few, same)
