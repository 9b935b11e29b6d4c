-- Replies to the READs under way, in their order.
use Rattle.std.specs.Prelude.{◌≡◌, ℕ, List, [], ◌∷◌, ◌++◌, Some, None}
use Rattle.std.specs.List.{zip}
use Rattle.sftp_model.specs.declared.error.Error.{Error}
use Rattle.sftp_model.specs.declared.error.Error.TheVariants as error
use Rattle.sftp_model.specs.declared.reply.Reply.{Reply}
use Rattle.sftp_model.specs.declared.slot.Site.{Site}
use Rattle.plan_model.specs.Moves.{Answers, Own}
use Rattle.plan_window.specs.Windows.{answered_more, window_move, window_plan}
use Rattle.plan_window.specs.declared.window.ReadAt.{ReadAt}
use Rattle.sftp_core.specs.Core.{Core, after_poll, record_at, reply_in}
use Rattle.plan_state.specs.Asked.{IsReady}
use Rattle.plan_state.specs.Calls.{IsUnfinished}
use Rattle.plan_state.specs.Keeping.{KeepsGrants, SparesOthers}
use Rattle.sftp_fs_read.specs.Reads.{EndsBy, ReadsValue}
use Rattle.sftp_fs_read.specs.Tickets.{AreUnderWay, IsNoneOf, TellsReads, polled_all, tickets_of}
use Rattle.sftp_fs_read.specs.declared.replies.First.{First}
use Rattle.sftp_fs_read.specs.declared.replies.First.TheVariants as first
use Rattle.sftp_fs_read.specs.declared.replies.Heard.{Heard}
use Rattle.sftp_fs_read.specs.declared.replies.Heard.TheVariants as heard

-- ---- The first reply

-- The reason that a read is over that awaits this ticket first: a recorded fault, if there is no reply; or a reply that
-- refuses it.
abbrev pub IsOverFor : Core → ReadsValue → ℕ → Error → Type 0
IsOverFor core s ticket error.OutOfMemory = ⊥
IsOverFor core s ticket (error.BackgroundTaskFailure fault) = (reply_in (record_at core ticket) ≡ None)
    × (core.fault ≡ Some fault)
    × ((site : Site) → IsUnfinished (window_move s.handle None s.window site s.facts))
IsOverFor core s ticket e = (y : Reply) × ((reply_in (record_at core ticket) ≡ Some y) × EndsBy s y e)

-- The reply came; or it is missing, and nothing changed; or the read is over.
abbrev pub IsFirst : Core → Core → ReadsValue → ℕ → First → Type 0
IsFirst old new s ticket (first.Came next) = (y : Reply) × ((reply_in (record_at old ticket) ≡ Some y)
    × ((next ≡ record s { window = answered_more s.window y }) × (new ≡ after_poll old ticket)))
IsFirst old new s ticket (first.Missing same kept) = (reply_in (record_at old ticket) ≡ None) × (old.fault ≡ None)
    × (same ≡ ticket) × (kept ≡ s) × (new ≡ old)
IsFirst old new s ticket (first.Over e) = IsOverFor old s ticket e × (new ≡ after_poll old ticket)

-- ---- All replies that came

-- These replies were taken, in the order of their READs. What was left of each plan is now what the READs that are still under
-- way leave.
pub record TakesReplies (old new : Core) (s now : ReadsValue) (tickets left : List ℕ) : Type 0 where
  pub done : List (ℕ × ReadAt)
  pub split : zip tickets s.window.waiting ≡ done ++ zip left now.window.waiting
  pub core : new ≡ polled_all old (tickets_of done)
  pub rest : now ≡ record s { window = now.window }
  pub under_way : AreUnderWay new now.window.waiting left
  pub ready : IsReady new
  pub spares : SparesOthers old new (λ id. IsNoneOf id tickets) (λ id. IsNoneOf id left)
  pub grants : KeepsGrants old new
  pub goes : (answers : Answers) → TellsReads old answers s.window.waiting tickets
      → TellsReads new answers now.window.waiting left
      × ((site : Site) (later : Own) → window_plan s.handle None s.window site s.facts later answers
      ≡ window_plan s.handle None now.window site s.facts later answers)

-- The first of these tickets has no reply, and the core has recorded no fault.
abbrev pub IsFirstMissing : Core → List ℕ → Type 0
IsFirstMissing core [] = Unit {0}
IsFirstMissing core (ticket ∷ later) = (reply_in (record_at core ticket) ≡ None) × (core.fault ≡ None)

-- The next reply is missing; or it ends the read, and these tickets are left.
abbrev pub HasHeard : Core → Core → ReadsValue → List ℕ → Heard → Type 0
HasHeard old new s tickets (heard.Missing now left) = TakesReplies old new s now tickets left.items
    × IsFirstMissing new left.items
HasHeard old new s tickets (heard.Over e left) = (mid : Core) × ((now : ReadsValue) × ((ticket : ℕ)
    × (TakesReplies old mid s now tickets (ticket ∷ left.items) × (IsOverFor mid now ticket e
    × (new ≡ after_poll mid ticket)))))
