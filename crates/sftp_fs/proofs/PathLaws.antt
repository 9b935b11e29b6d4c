-- How calls on paths begin, by their plans.
use Rattle.std.proofs.Common.{◌≡◌, ◌∙◌, refl, sym, ap, subst, ℕ, Bool, true, false, List, Result, Ok, Err, if◌then◌else◌, IfOk}
use Rattle.sftp_model.specs.Paths.{joined_path}
use Rattle.sftp_model.specs.declared.error.Error.{Error}
use Rattle.sftp_model.specs.declared.error.Error.TheVariants as error
use Rattle.sftp_model.specs.declared.error.IoKind.TheVariants as kind
use Rattle.sftp_model.specs.declared.outcome.Outcome.TheVariants as outcome
use Rattle.sftp_model.specs.declared.request.Request.{Request}
use Rattle.sftp_model.specs.declared.slot.Move.{Move}
use Rattle.sftp_model.specs.declared.slot.Move.TheVariants.{Ask, Done}
use Rattle.sftp_model.specs.declared.slot.Site.{Site}
use Rattle.sftp_model.specs.Frames.{is_too_long}
use Rattle.plan_model.specs.Moves.{Answers, Plan, refuse_locally}
use Rattle.plan_model.specs.PathPlans.{from_directory}
use Rattle.sftp_core.specs.Core.{Core}
use Rattle.plan_state.specs.declared.submission.Asking.{Asking}
use Rattle.plan_state.specs.declared.submission.Asking.TheVariants.{Whole}
use Rattle.plan_state.specs.Calls.{BeginsCall, CallValue, IsNoneOfCall, IsUnderWay, StartsByPlan}
use Rattle.plan_state.specs.Keeping.{KeepsHeld, SparesOthers}
use Rattle.plan_state.specs.Runners.{Meaning}
use Rattle.plan_state.proofs.Keeping.{keeps_same}
use Rattle.plan_state.proofs.Sparing.{spares_as, submitted_spares}
use Rattle.sftp_file.specs.Files.{facts_of}
use Rattle.sftp_file.proofs.Starting.{StartsAny}
use Rattle.sftp_fs.specs.PathStarts.{AsksFirst, FirstAsks, IsPathPlan, PathPlan, StartsFrom}

fits : (b : Bool) (x y : Move) → b ≡ false → (if b then x else y) ≡ y
fits false x y e = refl
fits true x y e = absurd cc

passes : (b : Bool) (x y : Move) → b ≡ true → (if b then x else y) ≡ x
passes true x y e = refl
passes false x y e = absurd cc

under_way_by : {W M V : Type 0} (s : Meaning W M V) (asking : Asking) (m : M) (old new : Core)
    (result : Result (CallValue M) Error)
    → IfOk result (BeginsCall s asking m old new) → IfOk result (IsUnderWay s new)
under_way_by s asking m old new (Ok call) h = h.under_way
under_way_by s asking m old new (Err e) h = tt

spares_by : {W M V : Type 0} (s : Meaning W M V) (asking : Asking) (m : M) (old new : Core)
    (result : Result (CallValue M) Error)
    → IfOk result (BeginsCall s asking m old new)
    → IfOk result (λ (call : CallValue M). SparesOthers old new (λ id. Unit {0}) (IsNoneOfCall call.stage))
spares_by s asking m old new (Ok call) h =
    spares_as old new (λ id. Unit {0}) (λ id. Unit {0} × IsNoneOfCall call.stage id) (IsNoneOfCall call.stage)
    (λ id both. both.1)
    (submitted_spares old new asking h.ticket (λ id. Unit {0}) call.stage h.submitted h.awaits)
spares_by s asking m old new (Err e) h = tt

-- a request that is too long is refused
pub refused_first : {W M V : Type 0} (s : Meaning W M V) (r : Request) (m : M) (core : Core) → is_too_long r ≡ true
    → AsksFirst s r m core core (Err (error.IOError kind.PathTooLong))
refused_first s r m core long =
    record {
      starts = λ w site plan answers h. (
        h.first ∙ passes (is_too_long r) (refuse_locally kind.PathTooLong site) (Ask r)
            long,
        refl,
      );
      under_way = tt;
      keeps = keeps_same core;
      spares = tt;
    }

-- and any other is asked
pub asked_first : {W M V : Type 0} (s : Meaning W M V) (r : Request) (m : M) (old new : Core)
    (result : Result (CallValue M) Error)
    → is_too_long r ≡ false → StartsAny s (Whole r) m old new result → IfOk result (BeginsCall s (Whole r) m old new)
    → KeepsHeld old new
    → AsksFirst s r m old new result
asked_first s r m old new result short started begins keeps =
    record {
      starts = λ w site plan answers h. started w (λ e. Done (outcome.Refused e) site) plan answers
          (record {
            asks = h.first ∙ fits (is_too_long r) (refuse_locally kind.PathTooLong site) (Ask r) short;
            rest = h.rest;
            knows = h.knows;
          });
      under_way = under_way_by s (Whole r) m old new result begins;
      keeps = keeps;
      spares = spares_by s (Whole r) m old new result begins;
    }

-- a start by the plan of its request
pub starts_from : {M V : Type 0} (s : Meaning Site M V) (by : Request → Site → Plan) (r : Request) (m : M)
    (cwd : List ℕ) (plan : PathPlan) (old new : Core) (result : Result (CallValue M) Error)
    → ((site : Site) (answers : Answers) → FirstAsks s site site (by r site) answers r m)
    → IsPathPlan by r cwd (facts_of old) plan → AsksFirst s r m old new result → StartsFrom s plan cwd old new result
starts_from s by r m cwd plan old new result first is h =
    record {
      starts = λ site answers here. subst (λ (x : Plan). StartsByPlan s site (λ e. Done (outcome.Refused e) site) x
          answers old new result)
          (sym (is site here)) (h.starts site site (by r site) answers (first site answers));
      under_way = h.under_way;
      keeps = h.keeps;
    }

-- nothing was done for want of memory
pub starts_short : {M V : Type 0} (s : Meaning Site M V) (plan : PathPlan) (cwd : List ℕ) (core : Core) (e : Error)
    → e ≡ error.OutOfMemory → StartsFrom s plan cwd core core (Err e)
starts_short s plan cwd core e is =
    subst (λ (x : Error). StartsFrom s plan cwd core core (Err x)) (sym is)
    (record { starts = λ site answers here. refl; under_way = tt; keeps = keeps_same core })

-- ---- what is named from a working directory

pub one_path : (by : Request → Site → Plan) (made : List ℕ → Request) (cwd path named : List ℕ) (r : Request)
    → named ≡ joined_path cwd path → r ≡ made named → (site : Site) → site.directory ≡ cwd
    → by (made (from_directory site path)) site ≡ by r site
one_path by made cwd path named r is asks site here =
    ap (λ (d : List ℕ). by (made (joined_path d path)) site) here
    ∙ (ap (λ (p : List ℕ). by (made p) site) (sym is) ∙ ap (λ (x : Request). by x site) (sym asks))

pub two_paths : (by : Request → Site → Plan) (made : List ℕ → List ℕ → Request) (cwd a b first second : List ℕ)
    (r : Request)
    → first ≡ joined_path cwd a → second ≡ joined_path cwd b → r ≡ made first second → (site : Site) → site.directory
    ≡ cwd
    → by (made (from_directory site a) (from_directory site b)) site ≡ by r site
two_paths by made cwd a b first second r is also asks site here =
    ap (λ (d : List ℕ). by (made (joined_path d a) (joined_path d b)) site) here
    ∙ ((λ i. by (made (sym is i) (sym also i)) site) ∙ ap (λ (x : Request). by x site) (sym asks))
