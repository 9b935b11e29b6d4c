-- What a cancelled call leaves after the reply that it awaited.
use Rattle.std.proofs.Common.{◌≡◌, ◌∙◌, ap, refl, ℕ, List, [], ◌∷◌, Option, Some, if◌then◌else◌}
use Rattle.sftp_model.specs.declared.reply.Reply.{Reply}
use Rattle.sftp_model.specs.declared.slot.FileAt.{FileAt}
use Rattle.sftp_model.specs.declared.slot.Buffer.{Buffer}
use Rattle.sftp_model.specs.declared.slot.Facts.{Facts}
use Rattle.sftp_model.specs.declared.slot.Site.{Site}
use Rattle.sftp_model.specs.declared.slot.Slot.{Slot}
use Rattle.sftp_model.specs.declared.slot.Slot.TheVariants.{Empty, File, Buffered}
use Rattle.sftp_model.specs.Slots.{slot_at}
use Rattle.plan_model.specs.Moves.{Answers, Own, left_on_buffered}
use Rattle.plan_model.specs.BufferPlans.{is_good, unflushed_writes, with_deferred}
use Rattle.plan_runner.specs.declared.next.Running.{Running}
use Rattle.plan_runner.specs.declared.next.Running.TheVariants as running
use Rattle.plan_runner.specs.Buffers.{left_flushed, oldest, oldest_in}
use Rattle.plan_runner.specs.Cancelling.{left_after, left_behind}
use Rattle.plan_runner.specs.Runners.{awaited_place}

flushed : (slot : ℕ) (file : FileAt) (buffer : Buffer) (site : Site) (writes : List (ℕ × ℕ)) (answers : Answers) (p : ℕ)
    (y : Reply) → oldest writes ≡ Some p → answers p ≡ Some y
    → with_deferred slot file buffer site (unflushed_writes answers writes)
    ≡ left_flushed slot file buffer site writes y answers
flushed slot file buffer site [] answers p y at got = absurd cc
flushed slot file buffer site (write ∷ writes) answers p y at got =
    (let same : write.0 ≡ p = cc in let here : answers write.0 ≡ Some y = ap answers same ∙ got in
    ap (λ (r : Option Reply). with_deferred slot file buffer site
    (if is_good r then unflushed_writes answers writes else write ∷ writes)) here)

by_slot : (slot : ℕ) (site : Site) (answers : Answers) (p : ℕ) (y : Reply) (x : Slot) → oldest_in x ≡ Some p → answers p
    ≡ Some y
    → left_on_buffered x site (λ file buffer. with_deferred slot file buffer site
    (unflushed_writes answers buffer.deferred))
    ≡ left_on_buffered x site (λ file buffer. left_flushed slot file buffer site buffer.deferred y answers)
by_slot slot site answers p y Empty at got = absurd cc
by_slot slot site answers p y (File file) at got = absurd cc
by_slot slot site answers p y (Buffered file buffer) at got =
    flushed slot file buffer site buffer.deferred answers p y at got

pub left_came : (r : Running) (bytes : List ℕ) (site : Site) (facts : Facts) (later : Own) (answers : Answers) (p : ℕ)
    (y : Reply) → awaited_place r site ≡ Some p → answers p ≡ Some y
    → left_behind r bytes site facts later answers ≡ left_after r bytes site facts (Some y) later answers
left_came (running.Flushing slot) bytes site facts later answers p y at got =
    by_slot slot site answers p y (slot_at site slot) at got
left_came (running.Ending place ends) bytes site facts later answers p y at got = refl
left_came (running.Opening place slot flags) bytes site facts later answers p y at got = refl
left_came (running.Reading place slot file len) bytes site facts later answers p y at got = refl
left_came (running.Gathering place slot file all left len) bytes site facts later answers p y at got = refl
left_came (running.Sending place slot file len) bytes site facts later answers p y at got = refl
left_came (running.Writing place slot file done) bytes site facts later answers p y at got = refl
left_came (running.OpeningToWrite place) bytes site facts later answers p y at got = refl
left_came (running.OpeningToRead place bound) bytes site facts later answers p y at got = refl
left_came (running.ReadingWhole grant bound window) bytes site facts later answers p y at got = refl
left_came (running.OpeningDirectory place bound) bytes site facts later answers p y at got = refl
left_came (running.Listing place grant all bound) bytes site facts later answers p y at got = refl
left_came (running.AwaitingRoom slot start) bytes site facts later answers p y at got = refl
left_came (running.Deferred slot count) bytes site facts later answers p y at got = refl
left_came (running.DeferringRest slot done) bytes site facts later answers p y at got = refl
left_came (running.FillingBuffer slot n offset own) bytes site facts later answers p y at got = refl
left_came (running.Copying place from to source target len) bytes site facts later answers p y at got = refl
