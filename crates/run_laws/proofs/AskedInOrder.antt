-- The requests of a call in their order, each asked by the replies of the end: so it is with a plan that makes the same
-- move once more replies were taken.
use Rattle.std.proofs.Common.{◌≡◌, ℕ, true, false, [], ◌∷◌, ◌++◌, Option, Some, None, refl, ap, sym, ◌∙◌}
use Rattle.sftp_model.specs.declared.reply.Reply.{Reply}
use Rattle.sftp_model.specs.declared.request.Request.{Request}
use Rattle.sftp_model.specs.declared.slot.Move.{Move}
use Rattle.sftp_model.specs.declared.slot.Move.TheVariants.{Ask}
use Rattle.plan_model.specs.Moves.{Answers, Own, Plan, once_answered}
use Rattle.plan_model.specs.OwnRequests.{AreAsked, ExtendsAnswers, oldest_first}
use Rattle.run_laws.proofs.MoveWords.{is_wait}

-- Each of these requests, the oldest first, is what the plan asks after those before it. The plan is a function of the
-- requests that are still to come.
abbrev pub Follow : (Own → Move) → Own → Type 0
Follow plan [] = Unit {0}
Follow plan (asked ∷ later) = (plan [] ≡ Ask asked.1) × Follow (λ own. plan (asked ∷ own)) later

-- a plan that gives the same moves asks the same
pub follow_as : (f g : Own → Move) (own : Own) → ((later : Own) → f later ≡ g later) → Follow f own → Follow g own
follow_as f g [] e follow = tt
follow_as f g (asked ∷ later) e follow = (
  sym (e []) ∙ follow.0,
  follow_as (λ own. f (asked ∷ own)) (λ own. g (asked ∷ own)) later (λ own. e (asked ∷ own)) follow.1,
)

-- where a move doesn't wait, the other is the same
abbrev pub Stays : Move → Move → Type 0
Stays x y = is_wait x ≡ false → y ≡ x

-- the plan makes the same move once more replies were taken, unless it waits
abbrev pub PlanStays : Plan → Type 0
PlanStays plan = (before now : Answers) → ExtendsAnswers before now → (own : Own)
    → Stays (plan own before) (plan own now)

follow_more : (plan : Own → Move) (own : Own) (asked : ℕ × Request) → Follow plan own → plan own ≡ Ask asked.1
    → Follow plan (own ++ asked ∷ [])
follow_more plan [] asked follow e = (e, tt)
follow_more plan (first ∷ later) asked follow e = (
  follow.0,
  follow_more (λ own. plan (first ∷ own)) later asked follow.1 e,
)

follow_still : (before now : Own → Move) (own : Own) → ((p : Own) → Stays (before p) (now p)) → Follow before own
    → Follow now own
follow_still before now [] stays follow = tt
follow_still before now (asked ∷ later) stays follow = (
  stays [] (ap is_wait follow.0) ∙ follow.0,
  follow_still (λ p. before (asked ∷ p)) (λ p. now (asked ∷ p)) later
      (λ p. stays (asked ∷ p)) follow.1,
)

-- the own requests of a call so far
pub asked_in_order : (plan : Plan) (past : Own) (answers : Answers) → PlanStays plan → AreAsked plan past answers
    → Follow (λ own. plan own answers) (oldest_first past)
asked_in_order plan [] answers stays asked = tt
asked_in_order plan (a ∷ past) answers stays (before, earlier, is, none, more) =
    follow_more (λ own. plan own answers) (oldest_first past) a
    (follow_still (λ own. plan own before) (λ own. plan own answers) (oldest_first past) (stays before answers more)
    (asked_in_order plan past before stays earlier))
    (stays before answers more (oldest_first past) (ap is_wait is) ∙ is)

-- ---- parts of plans

pub once_stays : (before now : Answers) (place : ℕ) (x y : Reply → Move) → ExtendsAnswers before now
    → ((r : Reply) → before place ≡ Some r → now place ≡ Some r → Stays (x r) (y r))
    → Stays (once_answered place (before place) x) (once_answered place (now place) y)
once_stays before now place x y more stays = by_case (before place) refl
  where
    by_case : (o : Option Reply) → before place ≡ o → Stays (once_answered place o x)
        (once_answered place (now place) y)
    by_case None is = λ e. absurd (let both : true ≡ false = e in cc)
    by_case (Some r) is = λ e. ap (λ (w : Option Reply). once_answered place w y) (more place r is)
        ∙ stays r is (more place r is) e
