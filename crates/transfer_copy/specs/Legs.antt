-- believed
-- The steps of one copy, one after another, from its start to its end.
use Rattle.std.specs.Prelude.{◌≡◌, ◌⊎◌, ℕ, List, [], ◌∷◌, Result}
use Rattle.sftp_model.specs.declared.reply.Reply.{Reply}
use Rattle.sftp_core.specs.Core.{Core}
use Rattle.transfer_copy.specs.declared.copy_error.CopyError.{CopyError}
use Rattle.transfer_copy.specs.declared.holding.PartAnswer.TheVariants as part_answer
use Rattle.transfer_copy.specs.declared.progress.Progress.{Progress}
use Rattle.transfer_copy.specs.declared.progress.Progress.TheVariants as progress
use Rattle.transfer_copy.specs.Holdings.{HoldingValue, TakesPart}

-- One step of a copy: the core that it was made over, and the state of the copy and the history of its local file,
-- before and after. A list of steps has the newest first.
pub record CopyStep (S H : Type 0) : Type 0 where
  pub core : Core
  pub old : S
  pub before : H
  pub after : Core
  pub new : S
  pub now : H
  pub result : Progress

-- The state of a copy that started with `begun` after these steps; and the history of its local file then.
abbrev pub state_behind : {S H : Type 0} → S → List (CopyStep S H) → S
state_behind begun [] = begun
state_behind begun (leg ∷ earlier) = leg.new

abbrev pub history_behind : {S H : Type 0} → H → List (CopyStep S H) → H
history_behind first [] = first
history_behind first (leg ∷ earlier) = leg.now

-- The step starts where the earlier ones ended.
pub record FollowsSteps {S H : Type 0} (Did : CopyStep S H → Type 0) (begun : S) (first : H)
    (earlier : List (CopyStep S H))
    (leg : CopyStep S H) : Type 0 where
  pub did : Did leg
  pub stood : leg.old ≡ state_behind begun earlier
  pub done : leg.before ≡ history_behind first earlier

abbrev pub HasGoneOn : Progress → Type 0
HasGoneOn (progress.Ended result) = ⊥
HasGoneOn other = Unit {0}

-- Each step starts where the one before it ended, and the copy continues after it.
abbrev pub AreLegs : {S H : Type 0} → (CopyStep S H → Type 0) → S → H → List (CopyStep S H) → Type 0
AreLegs Did begun first [] = Unit {0}
AreLegs Did begun first (leg ∷ earlier) = FollowsSteps Did begun first earlier leg × HasGoneOn leg.result
    × AreLegs Did begun first earlier

-- All steps of a copy that started with `begun` and has ended: the last one returned this result.
pub record IsWholeCopy {S H : Type 0} (Did : CopyStep S H → Type 0) (begun : S) (first : H)
    (earlier : List (CopyStep S H))
    (last : CopyStep S H) (result : Result ℕ CopyError) : Type 0 where
  pub legs : AreLegs Did begun first earlier
  pub follows : FollowsSteps Did begun first earlier last
  pub ended : last.result ≡ progress.Ended result

-- ---- Operations of the steps

-- The step waited: the next reply was missing.
pub record HasWaited {S H : Type 0} (leg : CopyStep S H) : Type 0 where
  pub core : leg.after ≡ leg.core
  pub state : leg.new ≡ leg.old
  pub history : leg.now ≡ leg.before

-- Each step did the operation at its place, or waited. These are all operations, the newest first.
abbrev pub AreDeeds : {S H D : Type 0} → (D → CopyStep S H → Type 0) → List (CopyStep S H) → List D → Type 0
AreDeeds Did [] [] = Unit {0}
AreDeeds Did [] (deed ∷ deeds) = ⊥
AreDeeds Did (leg ∷ legs) [] = HasWaited leg × AreDeeds Did legs []
AreDeeds Did (leg ∷ legs) (deed ∷ deeds) = (HasWaited leg × AreDeeds Did legs (deed ∷ deeds))
    ⊎ (Did deed leg × AreDeeds Did legs deeds)

-- The first part in flight, under this ticket, had this reply.
pub record AnswersFirst (ticket : ℕ) (r : Reply) (core : Core) (old : HoldingValue) (after : Core)
    (new : HoldingValue) : Type 0 where
  pub len : ℕ
  pub came : TakesPart core old after new (part_answer.Came r len)
  pub under : came.part.ticket ≡ ticket
