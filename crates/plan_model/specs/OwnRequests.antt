-- believed: ExtendsAnswers
-- The own requests of a call: those that its plan asked, by the replies that had come by then.
use Rattle.std.specs.Prelude.{ℕ, ◌≡◌, [], ◌∷◌, ◌++◌, Some, None, IfSome}
use Rattle.sftp_model.specs.declared.reply.Reply.{Reply}
use Rattle.sftp_model.specs.declared.slot.Facts.{Facts}
use Rattle.sftp_model.specs.declared.slot.Site.{Site}
use Rattle.sftp_model.specs.declared.slot.Move.TheVariants.{Ask}
use Rattle.sftp_model.specs.Answers.{MayAnswer}
use Rattle.plan_model.specs.Moves.{Answers, Own, Plan}
use Rattle.plan_model.specs.declared.call.Call.{Call}
use Rattle.plan_model.specs.CallPlans.{next}

-- A reply that was taken stays.
abbrev pub ExtendsAnswers : Answers → Answers → Type 0
ExtendsAnswers before after = (place : ℕ) (r : Reply) → before place ≡ Some r → after place ≡ Some r

-- The requests of a list that has the newest first, in the order with the oldest first.
abbrev pub oldest_first : Own → Own
oldest_first [] = []
oldest_first (asked ∷ past) = oldest_first past ++ asked ∷ []

-- A call's own requests, the newest first. Each is the request that the plan asked after those before it, by replies
-- that stayed. The reply to the request itself was not among them.
abbrev pub AreAsked : Plan → Own → Answers → Type 0
AreAsked plan [] answers = Unit {0}
AreAsked plan (asked ∷ past) answers = (before : Answers) × AreAsked plan past before
    × (plan (oldest_first past) before ≡ Ask asked.1) × (before asked.0 ≡ None) × ExtendsAnswers before answers

-- Each reply may answer its request.
abbrev pub MayBeAnswered : Own → Answers → Type 0
MayBeAnswered [] answers = Unit {0}
MayBeAnswered (asked ∷ later) answers = IfSome (answers asked.0) (MayAnswer asked.1) × MayBeAnswered later answers

-- A call so far: its own requests, the newest first, and replies that may answer them.
pub record IsCallSoFar (c : Call) (site : Site) (facts : Facts) (past : Own) (answers : Answers) : Type 0 where
  pub asked : AreAsked (next c site facts) past answers
  pub answered : MayBeAnswered past answers
