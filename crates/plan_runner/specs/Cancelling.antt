-- believed: SiteAfterCancel, left_kept, left_behind
-- The site that a cancelled call leaves, by the state of its runner.
use Rattle.std.specs.Prelude.{ℕ, ◌≡◌, List, ◌∷◌, Option, Some, None, if◌then◌else◌}
use Rattle.sftp_model.specs.declared.reply.Reply.{Reply}
use Rattle.sftp_model.specs.declared.slot.Facts.{Facts}
use Rattle.sftp_model.specs.declared.slot.Site.{Site}
use Rattle.sftp_model.specs.Slots.{slot_at}
use Rattle.plan_model.specs.Moves.{Answers, Own, left_on_buffered}
use Rattle.plan_model.specs.BufferPlans.{cancelled_buf_flush, cancelled_buf_read, cancelled_buf_write}
use Rattle.plan_runner.specs.Buffers.{left_flushed}
use Rattle.plan_model.specs.TransferPlans.{cancelled_transfer}
use Rattle.plan_model.specs.declared.call.Call.{Call}
use Rattle.plan_model.specs.CallPlans.{site_after_cancel}
use Rattle.plan_runner.specs.declared.next.Asked.TheVariants as asked
use Rattle.plan_runner.specs.declared.next.Running.{Running}
use Rattle.plan_runner.specs.declared.next.Running.TheVariants as running
use Rattle.plan_runner.specs.declared.next.Next.{Next}
use Rattle.plan_runner.specs.declared.next.Next.TheVariants as step
use Rattle.plan_runner.specs.Runners.{bytes_of, request_with_handles}

-- The site that a cancelled call leaves, by its own requests and the replies.
abbrev pub SiteAfterCancel : Type 0
SiteAfterCancel = Own → Answers → Site

-- The site that a transfer leaves, whose file is in a slot or in none.
abbrev pub left_kept : Option ℕ → Site → Facts → SiteAfterCancel
left_kept None site facts own answers = site
left_kept (Some slot) site facts own answers = cancelled_transfer slot site facts own answers

-- The site that a call leaves if it is cancelled after these further requests.
abbrev pub left_behind : Running → List ℕ → Site → Facts → SiteAfterCancel
left_behind (running.Ending place ends) bytes site facts later answers = site
left_behind (running.Opening place slot flags) bytes site facts later answers = site
left_behind (running.Reading place slot file len) bytes site facts later answers = site
left_behind (running.Gathering place slot file got left len) bytes site facts later answers =
    left_kept (Some slot) site facts later answers
left_behind (running.Sending place slot file len) bytes site facts later answers = site
left_behind (running.Writing place slot file done) bytes site facts later answers =
    left_kept slot site facts later answers
left_behind (running.OpeningToWrite place) bytes site facts later answers = site
left_behind (running.OpeningToRead place bound) bytes site facts later answers = site
left_behind (running.ReadingWhole grant bound window) bytes site facts later answers = site
left_behind (running.OpeningDirectory place bound) bytes site facts later answers = site
left_behind (running.Listing place grant got bound) bytes site facts later answers = site
left_behind (running.Flushing slot) bytes site facts later answers = cancelled_buf_flush slot site facts later answers
left_behind (running.AwaitingRoom slot start) bytes site facts later answers =
    cancelled_buf_write slot site facts later answers
left_behind (running.Deferred slot count) bytes site facts later answers =
    cancelled_buf_write slot site facts later answers
left_behind (running.DeferringRest slot done) bytes site facts later answers =
    cancelled_buf_write slot site facts later answers
left_behind (running.FillingBuffer slot n offset own) bytes site facts later answers = if own then site else
    cancelled_buf_read slot site facts later answers
left_behind (running.Copying place from to source target len) bytes site facts later answers = site

-- The site that a call leaves if it is cancelled after the reply that it awaited.
abbrev pub left_after : Running → List ℕ → Site → Facts → Option Reply → SiteAfterCancel
left_after (running.Flushing slot) bytes site facts (Some r) later answers =
    left_on_buffered (slot_at site slot) site (λ file buffer. left_flushed slot file buffer site buffer.deferred r
    answers)
left_after other bytes site facts r later answers = left_behind other bytes site facts later answers

-- The site that a cancelled call leaves, from the present state of its runner.
abbrev pub LeavesCancelled : SiteAfterCancel → ℕ → List ℕ → Site → Facts → Next → Type 0
LeavesCancelled leaving place bytes site facts (step.Ask a r) = (answers : Answers) (later : Own)
    → leaving ((place, request_with_handles a answers) ∷ later) answers ≡ left_behind r bytes site facts later answers
LeavesCancelled leaving place bytes site facts (step.Wait r) = (answers : Answers) (later : Own) → leaving later answers
    ≡ left_behind r bytes site facts later answers
LeavesCancelled leaving place bytes site facts (step.Done o) = Unit {0}

-- The same for a call that starts.
abbrev pub BeginsLeaving : Call → ℕ → Site → Site → Facts → Next → Type 0
BeginsLeaving c place old new facts n = LeavesCancelled (site_after_cancel c old facts) place (bytes_of c) new facts n

-- A runner whose request, if it asks one, is a READ or a WRITE.
abbrev pub AsksOffset : Next → Type 0
AsksOffset (step.Ask (asked.Read grant offset len) r) = Unit {0}
AsksOffset (step.Ask (asked.Write grant offset content) r) = Unit {0}
AsksOffset (step.Done o) = Unit {0}
AsksOffset other = ⊥

-- A runner that waits only for the replies to its own requests.
abbrev pub NeverWaits : Next → Type 0
NeverWaits (step.Wait r) = ⊥
NeverWaits other = Unit {0}
