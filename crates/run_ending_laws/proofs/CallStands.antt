-- A call that opens a name stands on it among the steps of a whole run, where its lane's later calls pass the name by.
use Rattle.std.proofs.Common.{◌≡◌, ◌≢◌, ◌<◌, ℕ, true, false, List, [], ◌∷◌, ◌++◌, Option, refl, sym, subst, arith, inl, inr}
use Rattle.std.proofs.lemmas.Bool.{both_ways, cases_lt}
use Rattle.std.proofs.lemmas.Bool.Decides.{eqb_tells}
use Rattle.std.proofs.lemmas.List.{append-nil}
use Rattle.sftp_model.specs.declared.config.Choice.{Choice}
use Rattle.sftp_model.specs.declared.config.ServerConfig.{ServerConfig}
use Rattle.sftp_model.specs.declared.outcome.Outcome.{Outcome}
use Rattle.sftp_model.specs.declared.request.Request.{Request}
use Rattle.sftp_model.specs.declared.slot.Facts.{Facts}
use Rattle.sftp_model.specs.declared.slot.Site.{Site}
use Rattle.machine_model.specs.Changes.{IsWellFormed}
use Rattle.machine_model.specs.Components.{Name}
use Rattle.machine_model.specs.FileTree.{FileTree}
use Rattle.plan_model.specs.declared.call.Call.{Call}
use Rattle.plan_model.specs.Moves.{Own}
use Rattle.session_model.specs.declared.entry.Entry.{Entry}
use Rattle.session_model.specs.declared.turn.Turn.{Turn}
use Rattle.session_model.specs.Calls.{Setting}
use Rattle.session_model.specs.Grants.{is_asked_by}
use Rattle.session_model.specs.Journals.{IsJournal}
use Rattle.session_model.specs.Readings.{answer, asked_at, count_sent}
use Rattle.session_model.specs.Runs.{IsRun}
use Rattle.session_model.specs.Served.{ServesJournal}
use Rattle.session_model.proofs.OverLaws.{runs_are_journals}
use Rattle.session_model.proofs.RequestLaws.{sent_asked}
use Rattle.run_laws.specs.Bearing.{grant_at}
use Rattle.run_laws.specs.CallsAmong.{HasEnded, StandsOnName, asked_by}
use Rattle.run_laws.specs.FilesLeft.{LaneLast}
use Rattle.run_laws.specs.GrantUses.{IsCallOn, IsRunOn, PassesBy}
use Rattle.run_laws.specs.InJournals.{AreBelow, PassesAt, is_elsewhere}
use Rattle.run_laws.specs.Steps.{IsAnyChoice, RunOf, Step, after, asked_in}
use Rattle.run_laws.proofs.AmongLaws.{Brings, call_on, not_own, other_with, own_with, with_own, with_own_well}
use Rattle.run_laws.proofs.BackLaws.{OpensFirst, granted_by}
use Rattle.run_laws.proofs.CutLaws.{known_parts}
use Rattle.run_laws.proofs.GrantAtLaws.{used_well}
use Rattle.run_laws.proofs.LaidLaws.{IsFront, IsLaid, below_has, front_as, lay_call}
use Rattle.run_laws.proofs.LaneLaws.{in_turn, lane_comes, place_passes}
use Rattle.run_laws.proofs.NamedLaws.{passes_by, run_on}
use Rattle.run_laws.proofs.OwnLaws.{has_call}
use Rattle.run_laws.proofs.RunLaws.{call_stands}
use Rattle.run_laws.proofs.SentLaws.{AreAll, IsAt, all_sent}
use Rattle.run_laws.proofs.ServedSteps.{any_allowed, run_chosen, run_of}
use Rattle.run_laws.proofs.UseLaws.{UseWell}
use Rattle.run_laws.proofs.WholeRunSent.{whole_run_sent}

-- a call among the steps of a run
pub record StandsIn (config : ServerConfig) (past : List Entry) (name : Name) (first : FileTree) (steps : List Step)
    (w : ℕ × Request) (later : Own) : Type 0 where
  pub before : List Step
  pub step : Step
  pub rest : List Step
  pub is : steps ≡ before ++ step ∷ rest
  pub asks : asked_by step ≡ w
  pub stands : StandsOnName config (answer past) name later (after config first before) step rest

pub call_in : (s : Setting) (config : ServerConfig) (choices : List Choice) (first now : FileTree) (turns : List Turn)
    (past : List Entry)
    (name : Name) (lane k : ℕ) (w : ℕ × Request) (later : Own) (c : Call) (site : Site) (facts : Facts)
    (ended : Outcome) → IsRun s turns past
    → (serves : ServesJournal config choices first past now) → IsWellFormed first → LaneLast s past name lane k w later
    → OpensFirst c site facts w
    → HasEnded c site facts (w ∷ later) (answer past) ended → StandsIn config past name first
    (run_of config choices first past now serves).steps w later
call_in s config choices first now turns past name lane k w later c site facts ended run serves well_formed t opens did
    =
    by_laid (lay_call IsAnyChoice config past (count_sent past) lane k first w later r.steps f t.asks until.0)
  where
    j : IsJournal s past
    j = runs_are_journals s turns past run

    r : RunOf config choices first past now
    r = run_of config choices first past now serves

    f : IsFront IsAnyChoice config past (count_sent past) first r.steps
    f = record {
      all = subst (AreAll past (count_sent past) []) (sym r.asks) (all_sent past);
      chosen = run_chosen IsAnyChoice config choices first past now serves (any_allowed choices);
      served = r.served;
    }

    until : AreBelow (count_sent past) (w ∷ later)
    until = subst (AreBelow (count_sent past)) t.asks (whole_run_sent s turns past lane k run)

    brings : Brings past lane k w later
    brings = record { own_is = t.asks; granted = granted_by c site facts w later (answer past) ended opens did }

    grant_of : ℕ → Option ℕ
    grant_of = with_own past lane k w.0 (grant_at s past)

    well : UseWell s past grant_of
    well = with_own_well s past lane k w later (grant_at s past) j brings (used_well s past j)

    -- the lane's requests after the call's first are its own and those of later calls
    within : (place n : ℕ) → w.0 < place → is_asked_by (asked_at past place) lane k ≡ false
        → is_asked_by (asked_at past place) lane n ≡ true → PassesAt s past name place
    within place n above out mine =
        elim (eqb_tells n k) [
          | inl u ↦ absurd (both_ways (is_asked_by (asked_at past place) lane k) out
              (subst (λ (m : ℕ). is_asked_by (asked_at past place) lane m ≡ true) u.1 mine))
          | inr u ↦ elim (cases_lt n k) [
            | inl low ↦ absurd (let early : place < w.0 = in_turn s past lane n k place w.0 j low mine
                (has_call past lane k w.0 (w ∷ later) t.asks (inl refl)) in omega (arith, early, above))
            | inr from ↦ t.later place n (let ne : n ≢ k = u.1 in omega (arith, ne, from)) mine
          ]
        ]

    passes : (x : Step) → IsAt past (asked_by x) → w.0 < x.place → is_asked_by (asked_at past x.place) lane k
        ≡ false → PassesBy (answer past) grant_of (is_elsewhere past name) name x
    passes x at above out =
        passes_by s past name grant_of x j at (other_with past lane k x.place w.0 (grant_at s past) out)
        (place_passes s past name lane x.place j t.lanes (λ n mine. within x.place n above out mine))

    by_steps : (before rest : List Step) (step : Step) → IsFront IsAnyChoice config past (count_sent past) first
        (before ++ step ∷ rest) → asked_by step ≡ w
        → StandsOnName config (answer past) name later (after config first before) step rest
    by_steps before rest step g is =
        let whole : List Step = before ++ step ∷ rest in
        let known = known_parts past (count_sent past) before (step ∷ rest) g.all.known in
        let on : IsCallOn (answer past) grant_of (is_elsewhere past name) name later step rest =
        call_on past (count_sent past) (count_sent past) grant_of (is_elsewhere past name) name lane k w later before
        rest [] step
        (subst (λ (l : List Step). AreAll past (count_sent past) [] (asked_in (before ++ step ∷ l)))
        (sym (append-nil rest)) g.all) t.asks is (omega arith) known.1.1
        (λ place h. below_has (count_sent past) place later until.1 h) (λ place h. absurd h)
        (λ place h. own_with past lane k place w later (grant_at s past) t.asks h)
        (λ x at above lt out. passes x at above (not_own past lane k x.place w later t.asks above out))
        in
        let run_is : IsRunOn config (answer past) grant_of (is_elsewhere past name) name first whole =
        run_on s config past name (count_sent past) grant_of first whole j (sent_asked past) well g.all g.served
        (lane_comes s past name lane (count_sent past) j t.lanes)
        in
        call_stands config (answer past) grant_of (is_elsewhere past name) name first before rest step later well_formed
        run_is on

    by_laid : IsLaid w r.steps → StandsIn config past name first r.steps w later
    by_laid l = record {
      before = l.before;
      step = l.step;
      rest = l.rest;
      is = l.is;
      asks = l.asks;
      stands = by_steps l.before l.rest l.step (front_as IsAnyChoice config past (count_sent past) first r.steps
          (l.before ++ l.step ∷ l.rest) l.is f) l.asks;
    }
