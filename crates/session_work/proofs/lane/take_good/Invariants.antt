use Rattle.std.proofs.Common.{◌≡◌, ◌<◌, [], length}
use Rattle.sftp_model.specs.Slots.{slot_at}
use Rattle.sftp_model.specs.declared.slot.Facts.{Facts}
use Rattle.plan_model.specs.Moves.{Answers}
use Rattle.plan_model.specs.BufferPlans.{cancelled_buf_flush}
use Rattle.plan_runner.specs.Pending.{AwaitsNoMore}
use Rattle.plan_runner.specs.Sound.{KeepsSite}
use Rattle.session_work.specs.Tokens.{TellReplies}
use Rattle.session_work.specs.Turning.{HasDeferred}
use Rattle.session_work.proofs.Flushed.{deferred_len}
use Rattle.session_work.proofs.lane.take_good.Given as goal

-- what is left to flush leaves the same
abbrev pub invariant-loop-place : goal.invariant-loop-place
invariant-loop-place l =
    (l.slot < length l.site.slots)
    × HasDeferred l.site l.tokens.tickets.items
    × AwaitsNoMore l.fn.site l.site
    × ((facts : Facts) → KeepsSite facts l.fn.site l.site)
    × ((facts : Facts) (answers : Answers) → TellReplies l.core l.tokens.tickets.items answers
    → cancelled_buf_flush l.slot l.fn.site facts [] answers ≡ cancelled_buf_flush l.slot l.site facts [] answers)

abbrev pub decreases-loop-place : goal.decreases-loop-place
decreases-loop-place l = deferred_len (slot_at l.site l.slot)
