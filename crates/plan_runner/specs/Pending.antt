-- believed, except pends_idle, pends_after, PendsAfter, AwaitsNoMore
-- The replies that a lane awaits, and how often: the one to its call's own request, and those that its slots wait for.
use Rattle.std.specs.Prelude.{ℕ, ◌≤◌, ◌+◌, ◌-◌, ◌==◌, List, [], ◌∷◌, Option, Some, None, if◌then◌else◌}
use Rattle.sftp_model.specs.declared.reply.Reply.{Reply}
use Rattle.sftp_model.specs.declared.slot.Site.{Site}
use Rattle.sftp_model.specs.declared.slot.Slot.{Slot}
use Rattle.sftp_model.specs.declared.slot.Slot.TheVariants.{Buffered}
use Rattle.plan_window.specs.declared.window.ReadAt.{ReadAt}
use Rattle.plan_runner.specs.declared.next.Running.{Running}
use Rattle.plan_runner.specs.declared.next.Running.TheVariants as running
use Rattle.plan_runner.specs.declared.next.Next.{Next}
use Rattle.plan_runner.specs.declared.next.Next.TheVariants as step
use Rattle.plan_runner.specs.Runners.{awaited_place}

-- 1 if the places are equal, otherwise 0.
abbrev pub one : ℕ → ℕ → ℕ
one p q = if p == q then 1 else 0

-- 1 if there is a place and it is this one, otherwise 0.
abbrev pub maybe : Option ℕ → ℕ → ℕ
maybe None q = 0
maybe (Some p) q = one p q

-- The number plus one if the place is this one.
abbrev pub with_one : Option ℕ → ℕ → ℕ → ℕ
with_one None q n = n
with_one (Some p) q n = one p q + n

-- The number of times that a place is among deferred writes.
abbrev pub writes_times : ℕ → List (ℕ × ℕ) → ℕ
writes_times q [] = 0
writes_times q (write ∷ writes) = one write.0 q + writes_times q writes

-- The number of times that a slot awaits the reply to a place.
abbrev pub slot_times : ℕ → Slot → ℕ
slot_times q (Buffered file buffer) = maybe buffer.reading q + writes_times q buffer.deferred
slot_times q other = 0

abbrev pub slots_times : ℕ → List Slot → ℕ
slots_times q [] = 0
slots_times q (slot ∷ slots) = slot_times q slot + slots_times q slots

-- The place of the call's own request that is awaited.
abbrev pub own_place : Option Running → Option ℕ
own_place (Some (running.Ending place ends)) = Some place
own_place (Some (running.Opening place slot flags)) = Some place
own_place (Some (running.Reading place slot file len)) = Some place
own_place (Some (running.Gathering place slot file got left len)) = Some place
own_place (Some (running.Sending place slot file len)) = Some place
own_place (Some (running.Writing place slot file done)) = Some place
own_place (Some (running.OpeningToWrite place)) = Some place
own_place (Some (running.OpeningToRead place bound)) = Some place
own_place (Some (running.OpeningDirectory place bound)) = Some place
own_place (Some (running.Listing place grant got bound)) = Some place
own_place (Some (running.Copying place from to source target len)) = Some place
own_place (Some (running.ReadingWhole grant bound window)) = None
own_place (Some (running.Flushing slot)) = None
own_place (Some (running.AwaitingRoom slot start)) = None
own_place (Some (running.FillingBuffer slot n offset own)) = None
own_place (Some (running.Deferred slot count)) = None
own_place (Some (running.DeferringRest slot done)) = None
own_place None = None

-- The READs that a whole read has in flight.
abbrev pub reads_under : Option Running → List ReadAt
reads_under None = []
reads_under (Some (running.ReadingWhole grant bound window)) = window.waiting
reads_under (Some other) = []

-- The number of times that a place is among READs.
abbrev pub reads_times : ℕ → List ReadAt → ℕ
reads_times q [] = 0
reads_times q (r ∷ rest) = one r.place q + reads_times q rest

-- The number plus that of these READs; without READs it is unchanged.
abbrev pub with_reads : List ReadAt → ℕ → ℕ → ℕ
with_reads [] q n = n
with_reads (r ∷ rest) q n = reads_times q (r ∷ rest) + n

-- The number of times that the reply to a place is awaited.
abbrev pub pends : ℕ → Option Running → Site → ℕ
pends q r site = with_one (own_place r) q (with_reads (reads_under r) q (slots_times q site.slots))

-- The same while no call runs.
abbrev pub pends_idle : Site → ℕ → ℕ
pends_idle site q = pends q None site

-- The same after the reply that a call awaited.
abbrev pub pends_after : Running → Site → Option Reply → ℕ → ℕ
pends_after r site None q = pends q (Some r) site
pends_after r site (Some y) q = pends q (Some r) site - maybe (awaited_place r site) q

-- The replies awaited after a step of a runner, by those awaited before: one more if it asks.
abbrev pub PendsAfter : (ℕ → ℕ) → ℕ → Site → Next → Type 0
PendsAfter before place site (step.Ask a r) = (q : ℕ) → pends q (Some r) site ≤ before q + one place q
PendsAfter before place site (step.Wait r) = (q : ℕ) → pends q (Some r) site ≤ before q
PendsAfter before place site (step.Done o) = (q : ℕ) → pends q None site ≤ before q

-- No reply is awaited more often than before.
pub record AwaitsNoMore (old new : Site) : Type 0 where
  pub each : (q : ℕ) → slots_times q new.slots ≤ slots_times q old.slots
