-- Starts of calls on paths, according to their plans.
use Rattle.std.specs.Prelude.{◌≡◌, ℕ, true, List, [], ◌∷◌, Result, IfOk}
use Rattle.sftp_model.specs.Answers.{expected_of}
use Rattle.sftp_model.specs.declared.error.Error.{Error}
use Rattle.sftp_model.specs.declared.outcome.Outcome.TheVariants as outcome
use Rattle.sftp_model.specs.declared.request.Request.{Request}
use Rattle.sftp_model.specs.declared.slot.Facts.{Facts}
use Rattle.sftp_model.specs.declared.slot.Move.TheVariants.{Done}
use Rattle.sftp_model.specs.declared.slot.Site.{Site}
use Rattle.plan_model.specs.Moves.{Answers, Own, Plan, ask_path}
use Rattle.sftp_core.specs.Core.{Core, is_call}
use Rattle.plan_state.specs.Calls.{CallValue, IsNoneOfCall, IsUnderWay, StartsByPlan}
use Rattle.plan_state.specs.Keeping.{KeepsHeld, SparesOthers}
use Rattle.plan_state.specs.Runners.{Meaning}
use Rattle.plan_state.specs.declared.submission.Asking.TheVariants.{Whole}
use Rattle.sftp_file.specs.Files.{facts_of}

-- The plan of a call on paths, in a lane and by the facts of its session.
abbrev pub PathPlan : Type 0
PathPlan = Site → Facts → Plan

-- A start made the first move of its call's plan, in each lane with this working directory and for any replies to come.
-- The call that it returned may be polled or given up, and the core holds what it held.
pub record StartsFrom {M V : Type 0} (s : Meaning Site M V) (plan : PathPlan) (cwd : List ℕ) (old new : Core)
    (result : Result (CallValue M) Error) : Type 0 where
  pub starts : (site : Site) (answers : Answers) → site.directory ≡ cwd
      → StartsByPlan s site (λ e. Done (outcome.Refused e) site) (plan site (facts_of old)) answers old new result
  pub under_way : IfOk result (IsUnderWay s new)
  pub keeps : KeepsHeld old new

-- ---- First requests of any call

-- A runner may await the reply to this request.
pub record MayAskFirst {W M V : Type 0} (s : Meaning W M V) (r : Request) (m : M) : Type 0 where
  pub call : is_call r ≡ true
  pub expects : s.expected m ≡ expected_of r
  pub cut : s.cut m (Whole r)

-- A plan asks this request if it fits a frame, and the runner continues it after the reply.
pub record FirstAsks {W M V : Type 0} (s : Meaning W M V) (w : W) (site : Site) (plan : Plan) (answers : Answers)
    (r : Request) (m : M) : Type 0 where
  pub first : plan [] answers ≡ ask_path r site
  pub rest : (later : Own) → plan ((s.place m, r) ∷ later) answers ≡ s.left w m later answers
  pub knows : s.known m answers

-- The first move of each such plan was made, and no number that was in use is the call's.
pub record AsksFirst {W M V : Type 0} (s : Meaning W M V) (r : Request) (m : M) (old new : Core)
    (result : Result (CallValue M) Error) : Type 0 where
  pub starts : (w : W) (site : Site) (plan : Plan) (answers : Answers) → FirstAsks s w site plan answers r m
      → StartsByPlan s w (λ e. Done (outcome.Refused e) site) plan answers old new result
  pub under_way : IfOk result (IsUnderWay s new)
  pub keeps : KeepsHeld old new
  pub spares : IfOk result (λ call. SparesOthers old new (λ id. Unit {0}) (IsNoneOfCall call.stage))

-- From this working directory a plan is that of a call that asks this request and continues in some way.
abbrev pub IsPathPlan : (Request → Site → Plan) → Request → List ℕ → Facts → PathPlan → Type 0
IsPathPlan by r cwd facts plan = (site : Site) → site.directory ≡ cwd → plan site facts ≡ by r site
