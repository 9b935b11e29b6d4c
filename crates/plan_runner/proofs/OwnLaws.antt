-- What a call leaves that is cancelled while it awaits the reply to its own request.
use Rattle.std.proofs.Common.{◌≡◌, ◌≢◌, ◌∙◌, refl, ℕ, List, [], Option, Some, None}
use Rattle.sftp_model.specs.declared.slot.FileAt.{FileAt}
use Rattle.sftp_model.specs.declared.slot.Facts.{Facts}
use Rattle.sftp_model.specs.declared.slot.Site.{Site}
use Rattle.sftp_model.specs.declared.slot.Slot.TheVariants.{File}
use Rattle.plan_model.specs.Moves.{Answers}
use Rattle.plan_runner.specs.declared.next.Running.{Running}
use Rattle.plan_runner.specs.declared.next.Running.TheVariants as running
use Rattle.plan_runner.specs.Cancelling.{left_behind, left_kept}
use Rattle.plan_runner.specs.Pending.{own_place}
use Rattle.plan_runner.specs.Sound.{IsKept, IsRunningSound}
use Rattle.plan_runner.proofs.Leaving.{transfer_of}
use Rattle.plan_runner.proofs.SlotSets.{set_same}

-- a file that stands in its slot is put there again
kept_leaves : (slot : Option ℕ) (file : FileAt) (site : Site) (facts : Facts) (answers : Answers)
    → IsKept slot file site → left_kept slot site facts [] answers ≡ site
kept_leaves None file site facts answers kept = refl
kept_leaves (Some slot) file site facts answers kept = transfer_of slot site facts file [] answers kept.1
    ∙ set_same site slot (File file) kept.1

pub own_leaves : (r : Running) (bytes : List ℕ) (site : Site) (facts : Facts) (answers : Answers)
    → own_place (Some r) ≢ None → IsRunningSound r bytes site facts → left_behind r bytes site facts [] answers ≡ site
own_leaves (running.Ending place ends) bytes site facts answers own sound = refl
own_leaves (running.Opening place slot flags) bytes site facts answers own sound = refl
own_leaves (running.Reading place slot file len) bytes site facts answers own sound = refl
own_leaves (running.Gathering place slot file got left len) bytes site facts answers own sound =
    kept_leaves (Some slot) file site facts answers sound.0
own_leaves (running.Sending place slot file len) bytes site facts answers own sound = refl
own_leaves (running.Writing place slot file done) bytes site facts answers own sound =
    kept_leaves slot file site facts answers sound.0
own_leaves (running.OpeningToWrite place) bytes site facts answers own sound = refl
own_leaves (running.OpeningToRead place bound) bytes site facts answers own sound = refl
own_leaves (running.ReadingWhole grant bound window) bytes site facts answers own sound = absurd (own refl)
own_leaves (running.OpeningDirectory place bound) bytes site facts answers own sound = refl
own_leaves (running.Listing place grant got bound) bytes site facts answers own sound = refl
own_leaves (running.Copying place from to source target len) bytes site facts answers own sound = refl
own_leaves (running.Flushing slot) bytes site facts answers own sound = absurd (own refl)
own_leaves (running.AwaitingRoom slot start) bytes site facts answers own sound = absurd (own refl)
own_leaves (running.Deferred slot count) bytes site facts answers own sound = absurd (own refl)
own_leaves (running.DeferringRest slot done) bytes site facts answers own sound = absurd (own refl)
own_leaves (running.FillingBuffer slot n offset filling) bytes site facts answers own sound = absurd (own refl)
