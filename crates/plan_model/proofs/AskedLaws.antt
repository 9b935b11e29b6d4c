-- The laws of a call whose own requests are those that its plan asked.
use Rattle.std.proofs.Common.{◌≡◌, ◌<◌, ◌≤◌, ◌+◌, ◌^◌, ℕ, List, Option, Some, None, sym, subst, arith}
use Rattle.std.specs.Prelude.{length}
use Rattle.sftp_model.specs.declared.request.Request.{Request}
use Rattle.sftp_model.specs.declared.slot.Facts.{Facts}
use Rattle.sftp_model.specs.declared.slot.Move.TheVariants.{Ask}
use Rattle.sftp_model.specs.declared.slot.Site.{Site}
use Rattle.sftp_model.specs.Fits.{FitsRequest, AsksWithinReply}
use Rattle.plan_model.specs.Moves.{Answers, Own}
use Rattle.plan_model.specs.WindowPlans.{fs_read_next}
use Rattle.plan_model.specs.declared.call.Call.TheVariants as call
use Rattle.plan_model.specs.declared.call.Call.{Call}
use Rattle.plan_model.specs.CallPlans.{next}
use Rattle.plan_model.specs.GoodMoves.{ReadsWithin, IsGood, IsGoodAsk, FitsCall, FitsFacts, HandlesFit, WithinRange, situation}
use Rattle.plan_model.specs.OwnRequests.{oldest_first, AreAsked, MayBeAnswered, IsCallSoFar}
use Rattle.plan_model.specs.RequestCounts.{AsksBelow, BuffersWithin, work}
use Rattle.plan_model.proofs.CallLaws.{next_good, asks_good}
use Rattle.plan_model.proofs.FitLaws.{requests_fit}
use Rattle.plan_model.proofs.CallCounts.{next_within}
use Rattle.plan_model.proofs.AskedReads.{whole_range, whole_work, may_oldest, oldest_length}

pub asked_range : (c : Call) (site : Site) (facts : Facts) (past : Own) (answers : Answers) → FitsCall c
    → FitsFacts facts → IsCallSoFar c site facts past answers → WithinRange c site facts (oldest_first past) answers
asked_range (call.FsRead path bound) site facts past answers fits k so_far =
    whole_range path (Some bound) site facts past answers k.read_len.0 k.read_len.1 small (λ e. absurd cc) so_far.asked
    so_far.answered
  where
    small : (made n : ℕ) → (let b : Option ℕ = Some bound in b) ≡ Some n → made < n + facts.read_window → made < 2 ^ 43
    small made n same few = let is : bound ≡ n = cc in let narrow : facts.read_window ≤ 64 = k.read_window.1 in
        let under : bound < 2 ^ 32 = fits in omega (arith, is, few, narrow, under)
asked_range other site facts past answers fits k so_far = tt

pub asked_good : (c : Call) (site : Site) (facts : Facts) (past : Own) (answers : Answers) → FitsCall c
    → FitsFacts facts → IsCallSoFar c site facts past answers
    → IsGood (situation c site facts (oldest_first past) answers) (next c site facts (oldest_first past) answers)
asked_good c site facts past answers fits k so_far = next_good c site facts (oldest_first past) answers
    (asked_range c site facts past answers fits k so_far)

pub asked_may : (c : Call) (site : Site) (facts : Facts) (past : Own) (answers : Answers) (r : Request) → FitsCall c
    → FitsFacts facts → IsCallSoFar c site facts past answers → next c site facts (oldest_first past) answers ≡ Ask r
    → IsGoodAsk (situation c site facts (oldest_first past) answers) r
asked_may c site facts past answers r fits k so_far is = asks_good c site facts (oldest_first past) answers r
    (asked_range c site facts past answers fits k so_far) is

pub asked_fit : (c : Call) (site : Site) (facts : Facts) (past : Own) (answers : Answers) (r : Request) → FitsCall c
    → FitsFacts facts → HandlesFit answers → IsCallSoFar c site facts past answers
    → next c site facts (oldest_first past) answers ≡ Ask r → FitsRequest r × AsksWithinReply r
asked_fit c site facts past answers r fits k f so_far is = requests_fit c site facts (oldest_first past) answers r fits
    k f (asked_range c site facts past answers fits k so_far) is

pub asked_work : (c : Call) (site : Site) (facts : Facts) (past : Own) (answers : Answers) → FitsCall c
    → FitsFacts facts → BuffersWithin facts site → IsCallSoFar c site facts past answers
    → AsksBelow (length past) (work c facts) (next c site facts (oldest_first past) answers)
asked_work c site facts past answers fits k limits so_far =
    subst (λ (n : ℕ). AsksBelow n (work c facts) (next c site facts (oldest_first past) answers)) (oldest_length past)
    (next_within c site facts (oldest_first past) answers (record {
      fits = k;
      may = may_oldest past answers so_far.answered;
      limits = limits;
      whole = λ path bound is. of_whole path bound is fits so_far;
    }))
  where
    of_whole : (path : List ℕ) (bound : ℕ) → c ≡ call.FsRead path bound → FitsCall c
        → IsCallSoFar c site facts past answers
        → AsksBelow (length (oldest_first past)) (bound + facts.read_window)
        (next c site facts (oldest_first past) answers)
    of_whole path bound is fits so_far =
        subst (λ (n : ℕ). AsksBelow n (bound + facts.read_window) (next c site facts (oldest_first past) answers))
        (sym (oldest_length past))
        (subst (λ (d : Call). AsksBelow (length past) (bound + facts.read_window)
        (next d site facts (oldest_first past) answers)) (sym is)
        (whole_work path bound site facts past answers k.read_len.0 k.read_window.0
        (subst (λ (d : Call). AreAsked (next d site facts) past answers) is so_far.asked) so_far.answered))

-- a whole read without a bound
pub unbounded_range : (path : List ℕ) (site : Site) (facts : Facts) (past : Own) (answers : Answers) → FitsFacts facts
    → AreAsked (fs_read_next path None site facts) past answers → MayBeAnswered past answers → length past < 2 ^ 43
    → ReadsWithin facts (fs_read_next path None site facts (oldest_first past) answers)
unbounded_range path site facts past answers k asked may few =
    whole_range path None site facts past answers k.read_len.0 k.read_len.1 (λ made n e lt. absurd cc) (λ e. few) asked
    may
