-- Where the requests of calls stand in a run that serves a journal.
use Rattle.std.proofs.Common.{◌≡◌, ◌<◌, ◌≤◌, ℕ, List, [], ◌∷◌, ◌++◌, refl, ap, sym, ◌∙◌, subst, arith, inl, inr}
use Rattle.sftp_model.specs.declared.config.Choice.{Choice}
use Rattle.sftp_model.specs.declared.config.ServerConfig.{ServerConfig}
use Rattle.sftp_model.specs.declared.request.Request.{Request}
use Rattle.machine_model.specs.FileTree.{FileTree}
use Rattle.plan_model.specs.Moves.{Own}
use Rattle.session_model.specs.declared.entry.Entry.{Entry}
use Rattle.session_model.specs.Readings.{answer, count_submitted, own, count_sent}
use Rattle.session_model.specs.Served.{ServesJournal}
use Rattle.run_laws.specs.CallsAmong.{asked_by}
use Rattle.run_laws.specs.InJournals.{AreBelow}
use Rattle.run_laws.specs.Steps.{Step, AreAllowed, AreServed, ChooseOnly, RunOf, asked_in}
use Rattle.run_laws.proofs.AmongLaws.{low_known}
use Rattle.run_laws.proofs.CutLaws.{BeginsWith, IsCut, begins_with, cut, has_parts, known_has, chosen_parts, known_parts, rising_parts}
use Rattle.run_laws.proofs.OwnLaws.{has_call, own_listed}
use Rattle.run_laws.proofs.SentLaws.{AreAll, AreKnown, AreRising, IsAt, all_sent}
use Rattle.run_laws.proofs.ServedSteps.{HasRequest, run_chosen, run_of}
use Rattle.run_laws.proofs.StepLaws.{served_first}

pub below_has : (n place : ℕ) (requests : Own) → AreBelow n requests → HasRequest requests place → place < n
below_has n place [] below has = absurd has
below_has n place (r ∷ requests) below (inl e) = (let lt = below.0 in let here : r.0 ≡ place = e in
    omega (arith, lt, here))
below_has n place (r ∷ requests) below (inr h) = below_has n place requests below.1 h

-- ---- the steps below a place

-- the steps of the machine's run that stand below a place: all of the calls' requests there, each with a choice of
-- these
pub record IsFront (allowed : Choice → Type 0) (config : ServerConfig) (past : List Entry) (n : ℕ) (tree : FileTree)
    (steps : List Step) : Type 0 where
  pub all : AreAll past n [] (asked_in steps)
  pub chosen : ChooseOnly allowed steps
  pub served : AreServed config (answer past) tree steps

pub front : (allowed : Choice → Type 0) (config : ServerConfig) (choices : List Choice) (first : FileTree)
    (past : List Entry) (now : FileTree) (n : ℕ) → ServesJournal config choices first past now
    → AreAllowed allowed choices
    → n ≤ count_sent past
    → (steps : List Step) × IsFront allowed config past n first steps
front allowed config choices first past now n serves among le =
    let run : RunOf config choices first past now = run_of config choices first past now serves in
    let all : AreAll past (count_sent past) [] (asked_in run.steps) =
    subst (AreAll past (count_sent past) []) (sym run.asks) (all_sent past) in
    let c : IsCut past n run.steps = cut past (count_sent past) n run.steps all.known all.rising in
    let here : AreAll past (count_sent past) [] (asked_in (c.front ++ c.back)) =
    subst (λ (l : List Step). AreAll past (count_sent past) [] (asked_in l)) c.is all in (
      c.front,
      record {
        all = record {
          rising = (rising_parts c.front c.back here.rising).0;
          known = c.low;
          complete = λ place lane call lt mine. elim (here.complete place lane call (omega (arith, lt, le)) mine) [
            | inl seen ↦ absurd seen
            | inr has ↦ elim (has_parts c.front c.back place has) [
              | inl there ↦ inr there
              | inr beyond ↦ absurd (let high : n ≤ place = c.high place beyond in omega (arith, high, lt))
            ]
          ];
        };
        chosen = (chosen_parts allowed c.front c.back (subst (ChooseOnly allowed) c.is
            (run_chosen allowed config choices first past now serves among))).0;
        served = served_first config (answer past) first c.front c.back
            (subst (AreServed config (answer past) first) c.is run.served);
      },
    )

pub front_as : (allowed : Choice → Type 0) (config : ServerConfig) (past : List Entry) (n : ℕ) (tree : FileTree)
    (xs ys : List Step) → xs ≡ ys → IsFront allowed config past n tree xs → IsFront allowed config past n tree ys
front_as allowed config past n tree xs ys same f = subst (IsFront allowed config past n tree) same f

-- ---- a request among the steps

-- steps before a request, its step, and those after it
pub record IsLaid (r : ℕ × Request) (steps : List Step) : Type 0 where
  pub before : List Step
  pub step : Step
  pub rest : List Step
  pub is : steps ≡ before ++ step ∷ rest
  pub asks : asked_by step ≡ r

laid_by : (r : ℕ × Request) (steps before back rest : List Step) (step : Step) → steps ≡ before ++ back → back
    ≡ step ∷ rest → asked_by step ≡ r → IsLaid r steps
laid_by r steps before back rest step is then asks = record {
  before = before;
  step = step;
  rest = rest;
  is = is
      ∙ ap (λ (l : List Step). before ++ l) then;
  asks = asks;
}

pub lay : (past : List Entry) (n : ℕ) (r : ℕ × Request) (steps : List Step) → AreKnown past n (asked_in steps)
    → AreRising (asked_in steps) → IsAt past r → HasRequest (asked_in steps) r.0 → IsLaid r steps
lay past n r steps known rising at has =
    let c : IsCut past r.0 steps = cut past n r.0 steps known rising in
    let known_all : AreKnown past n (asked_in (c.front ++ c.back)) =
    subst (λ (l : List Step). AreKnown past n (asked_in l)) c.is known in
    let rising_all : AreRising (asked_in (c.front ++ c.back)) =
    subst (λ (l : List Step). AreRising (asked_in l)) c.is rising in
    let in_back : HasRequest (asked_in c.back) r.0 = elim (has_parts c.front c.back r.0
    (subst (λ (l : List Step). HasRequest (asked_in l) r.0) c.is has)) [
      | inl low ↦ absurd (let lt : r.0 < r.0 = known_has past r.0 r.0 (asked_in c.front) c.low low in omega (arith, lt))
      | inr there ↦ there
    ] in
    let b : BeginsWith r c.back = begins_with past n r c.back at (known_parts past n c.front c.back known_all).1
    (rising_parts c.front c.back rising_all).1 c.high in_back in
    laid_by r steps c.front c.back b.rest b.first c.is b.is b.asks

-- the first request of a call
pub own_at : (past : List Entry) (lane c : ℕ) (first : ℕ × Request) (later : Own) → own past lane c ≡ first ∷ later
    → IsAt past first
own_at past lane c first later is = let known : AreKnown past (count_submitted past) (first ∷ later) =
    subst (AreKnown past (count_submitted past)) is (own_listed past lane c).1 in known.0.1

pub lay_call : (allowed : Choice → Type 0) (config : ServerConfig) (past : List Entry) (n lane c : ℕ) (tree : FileTree)
    (first : ℕ × Request) (later : Own) (steps : List Step) → IsFront allowed config past n tree steps → own past lane c
    ≡ first ∷ later → first.0 < n → IsLaid first steps
lay_call allowed config past n lane c tree first later steps f is lt =
    lay past n first steps f.all.known f.all.rising (own_at past lane c first later is)
    (elim (f.all.complete first.0 lane c lt (has_call past lane c first.0 (first ∷ later) is (inl refl)))
    [ inl seen ↦ absurd seen | inr has ↦ has ])

-- and the first request of a later one
pub lay_rest : (allowed : Choice → Type 0) (config : ServerConfig) (past : List Entry) (n lane c : ℕ) (tree : FileTree)
    (first : ℕ × Request) (later : Own) (before rest : List Step) (step : Step)
    → IsFront allowed config past n tree (before ++ step ∷ rest)
    → own past lane c ≡ first ∷ later → first.0 < n → step.place < first.0 → IsLaid first rest
lay_rest allowed config past n lane c tree first later before rest step f is lt behind =
    let known = (known_parts past n before (step ∷ rest) f.all.known) in
    let rising : AreRising (asked_in (step ∷ rest)) = (rising_parts before (step ∷ rest) f.all.rising).1 in
    lay past n first rest known.1.1 rising.1 (own_at past lane c first later is)
    (elim (f.all.complete first.0 lane c lt (has_call past lane c first.0 (first ∷ later) is (inl refl))) [
      | inl seen ↦ absurd seen
      | inr has ↦ elim (has_parts before (step ∷ rest) first.0 has) [
        | inl low ↦ absurd (let low_lt : first.0 < step.place = known_has past step.place first.0 (asked_in before)
            (low_known past n before rest step f.all.rising known.0) low in omega (arith, low_lt, behind))
        | inr (inl e) ↦ absurd (let here : step.place ≡ first.0 = e in omega (arith, here, behind))
        | inr (inr more) ↦ more
      ]
    ])
