-- A WRITE that is to be deferred, before the slot is changed.
use Rattle.std.specs.Prelude.{ℕ, ◌≡◌, List, Option}
use Rattle.sftp_model.specs.declared.slot.FileAt.{FileAt}
use Rattle.sftp_model.specs.declared.slot.Buffer.{Buffer}
use Rattle.sftp_model.specs.declared.slot.Facts.{Facts}
use Rattle.sftp_model.specs.declared.slot.Site.{Site}
use Rattle.sftp_model.specs.declared.slot.Move.TheVariants.{Ask, Done}
use Rattle.sftp_model.specs.Slots.{with_slot}
use Rattle.plan_model.specs.Moves.{Answers}
use Rattle.plan_model.specs.BufferPlans.{ask_deferred, carried_length, deferrable_len, written_slot}
use Rattle.plan_runner.specs.declared.buffer_write.Deferral.{Deferral}
use Rattle.plan_runner.specs.declared.buffer_write.Deferral.TheVariants as deferral
use Rattle.plan_runner.specs.declared.next.Asked.{Asked}
use Rattle.plan_runner.specs.declared.next.Asked.TheVariants as asked
use Rattle.plan_runner.specs.declared.next.Next.{Next}
use Rattle.plan_runner.specs.declared.next.Next.TheVariants as step
use Rattle.plan_runner.specs.Buffers.{running_after, rest_of}
use Rattle.plan_runner.specs.Runners.{request_with_handles}

-- A WRITE to the file.
abbrev pub IsWriteOf : FileAt → Asked → Type 0
IsWriteOf file (asked.Write grant offset content) = grant ≡ file.grant
IsWriteOf file other = ⊥

-- It is the WRITE that the plan asks, of these bytes and at this place; or the plan refuses.
abbrev pub IsDeferral : ℕ → Option ℕ → FileAt → Buffer → List ℕ → ℕ → Facts → Deferral → Type 0
IsDeferral slot start file buffer bytes place facts (deferral.Refused o) =
    (site : Site) (answers : Answers) → ask_deferred file (rest_of start bytes) facts answers buffer site ≡ Done o site
IsDeferral slot start file buffer bytes place facts (deferral.Asked a r held) =
    ((site : Site) (answers : Answers) → ask_deferred file (rest_of start bytes) facts answers buffer site
    ≡ Ask (request_with_handles a answers))
    × ((answers : Answers) → carried_length (request_with_handles a answers)
    ≡ deferrable_len facts (rest_of start bytes) buffer)
    × (r ≡ running_after slot start (deferrable_len facts (rest_of start bytes) buffer))
    × (held ≡ written_slot file buffer place (deferrable_len facts (rest_of start bytes) buffer))
    × IsWriteOf file a

-- The next step of the call with it.
abbrev pub settled_next : Deferral → Next
settled_next (deferral.Refused o) = step.Done o
settled_next (deferral.Asked a r held) = step.Ask a r

-- The site with the slot's new contents.
abbrev pub settled_site : ℕ → Deferral → Site → Site
settled_site slot (deferral.Refused o) site = site
settled_site slot (deferral.Asked a r held) site = with_slot site slot held
