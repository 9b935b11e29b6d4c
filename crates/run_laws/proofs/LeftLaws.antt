-- What a whole run leaves of a file: the bytes that a call wrote last as a whole, or what was there at first.
use Rattle.std.proofs.Common.{◌≡◌, ◌≢◌, ◌<◌, ℕ, true, false, List, [], ◌∷◌, ◌++◌, Option, refl, ap, sym, ◌∙◌, subst, arith, inl, inr}
use Rattle.std.proofs.lemmas.Bool.{both_ways, cases_lt}
use Rattle.std.proofs.lemmas.Bool.Decides.{eqb_tells}
use Rattle.std.proofs.lemmas.List.{append-nil}
use Rattle.sftp_model.specs.declared.config.Choice.{Choice}
use Rattle.sftp_model.specs.declared.config.ServerConfig.{ServerConfig}
use Rattle.sftp_model.specs.declared.outcome.Outcome.TheVariants as outcome
use Rattle.sftp_model.specs.declared.request.Request.{Request}
use Rattle.sftp_model.specs.declared.slot.Facts.{Facts}
use Rattle.sftp_model.specs.declared.slot.Site.{Site}
use Rattle.machine_model.specs.Changes.{IsWellFormed}
use Rattle.machine_model.specs.Components.{Name, components}
use Rattle.machine_model.specs.FileTree.{FileTree, node_at}
use Rattle.plan_model.specs.declared.call.Call.TheVariants as call
use Rattle.plan_model.specs.Moves.{Own}
use Rattle.plan_model.specs.PathPlans.{from_directory}
use Rattle.session_model.specs.declared.entry.Entry.{Entry}
use Rattle.session_model.specs.declared.turn.Turn.{Turn}
use Rattle.session_model.specs.Calls.{Setting}
use Rattle.session_model.specs.Grants.{is_asked_by}
use Rattle.session_model.specs.Journals.{IsJournal}
use Rattle.session_model.specs.Readings.{answer, asked_at, count_sent}
use Rattle.session_model.specs.Runs.{IsRun}
use Rattle.session_model.specs.Served.{ServesJournal}
use Rattle.session_model.proofs.OverLaws.{runs_are_journals}
use Rattle.session_model.proofs.RequestLaws.{sent_asked}
use Rattle.run_laws.specs.Bearing.{grant_at}
use Rattle.run_laws.specs.CallsAmong.{HasEnded, asked_by}
use Rattle.run_laws.specs.FilesLeft.{IsUntouched, LaneLast, LaneNever}
use Rattle.run_laws.specs.GrantUses.{AllPassBy, IsCallOn, IsRunOn, PassesBy}
use Rattle.run_laws.specs.InJournals.{AreBelow, PassesAt, is_elsewhere}
use Rattle.run_laws.specs.Steps.{HasBytes, IsAnyChoice, RunOf, Step, after, asked_in}
use Rattle.run_laws.proofs.AmongLaws.{Brings, call_on, not_own, other_with, own_with, with_own, with_own_well}
use Rattle.run_laws.proofs.BackLaws.{granted_by, write_opens}
use Rattle.run_laws.proofs.CutLaws.{known_parts}
use Rattle.run_laws.proofs.GrantAtLaws.{used_well}
use Rattle.run_laws.proofs.LaidLaws.{IsFront, IsLaid, below_has, front_as, lay_call}
use Rattle.run_laws.proofs.LaneLaws.{in_turn, lane_comes, place_passes}
use Rattle.run_laws.proofs.NamedLaws.{all_pass, passes_by, run_on, served_run_on}
use Rattle.run_laws.proofs.OwnLaws.{has_call}
use Rattle.run_laws.proofs.RunLaws.{name_stays, write_stays}
use Rattle.run_laws.proofs.SentLaws.{AreAll, AreKnown, IsAt, all_sent}
use Rattle.run_laws.proofs.ServedSteps.{any_allowed, run_chosen, run_of}
use Rattle.run_laws.proofs.UseLaws.{UseWell}
use Rattle.run_laws.proofs.WholeRunSent.{whole_run_sent}

-- ---- written

-- A lane to whom a name is wrote its file as a whole and ended well, and no later call of it writes the file: the bytes
-- are left.
pub write_left : (s : Setting) (config : ServerConfig) (choices : List Choice) (first now : FileTree)
    (turns : List Turn) (past : List Entry) (name : Name) (lane writer : ℕ) (w : ℕ × Request) (written : Own)
    (path bytes : List ℕ) (site : Site)
    (facts : Facts) → IsRun s turns past → ServesJournal config choices first past now → IsWellFormed first
    → LaneLast s past name lane writer w written
    → components (from_directory site path) ≡ name → HasEnded (call.FsWrite path bytes) site facts (w ∷ written)
    (answer past) outcome.Done → HasBytes now name bytes
write_left s config choices first now turns past name lane writer w written path bytes site facts run serves well_formed
    t denotes wrote =
    by_laid (lay_call IsAnyChoice config past (count_sent past) lane writer first w written r.steps f t.asks until.0)
  where
    j : IsJournal s past
    j = runs_are_journals s turns past run

    r : RunOf config choices first past now
    r = run_of config choices first past now serves

    f : IsFront IsAnyChoice config past (count_sent past) first r.steps
    f = record {
      all = subst (AreAll past (count_sent past) []) (sym r.asks) (all_sent past);
      chosen =
          run_chosen IsAnyChoice config choices first past now serves (any_allowed choices);
      served = r.served;
    }

    until : AreBelow (count_sent past) (w ∷ written)
    until = subst (AreBelow (count_sent past)) t.asks (whole_run_sent s turns past lane writer run)

    writes : Brings past lane writer w written
    writes = record {
      own_is = t.asks;
      granted = granted_by (call.FsWrite path bytes) site facts w written (answer past)
          outcome.Done (write_opens path bytes site facts w) wrote;
    }

    grant_of : ℕ → Option ℕ
    grant_of = with_own past lane writer w.0 (grant_at s past)

    well : UseWell s past grant_of
    well = with_own_well s past lane writer w written (grant_at s past) j writes (used_well s past j)

    -- the lane's requests behind the call's first are its own and those of later calls
    within : (place c : ℕ) → w.0 < place → is_asked_by (asked_at past place) lane writer ≡ false
        → is_asked_by (asked_at past place) lane c ≡ true → PassesAt s past name place
    within place c above out mine =
        elim (eqb_tells c writer) [
          | inl u ↦ absurd (both_ways (is_asked_by (asked_at past place) lane writer) out
              (subst (λ (k : ℕ). is_asked_by (asked_at past place) lane k ≡ true) u.1 mine))
          | inr u ↦ elim (cases_lt c writer) [
            | inl low ↦ absurd (let early : place < w.0 = in_turn s past lane c writer place w.0 j low mine
                (has_call past lane writer w.0 (w ∷ written) t.asks (inl refl)) in omega (arith, early, above))
            | inr from ↦ t.later place c (let ne : c ≢ writer = u.1 in omega (arith, ne, from)) mine
          ]
        ]

    passes : (x : Step) → IsAt past (asked_by x) → w.0 < x.place → is_asked_by (asked_at past x.place) lane writer
        ≡ false → PassesBy (answer past) grant_of (is_elsewhere past name) name x
    passes x at above out =
        passes_by s past name grant_of x j at (other_with past lane writer x.place w.0 (grant_at s past) out)
        (place_passes s past name lane x.place j t.lanes (λ c mine. within x.place c above out mine))

    by_steps : (before rest : List Step) (step : Step) → IsFront IsAnyChoice config past (count_sent past) first
        (before ++ step ∷ rest) → asked_by step ≡ w → HasBytes (after config first (before ++ step ∷ rest)) name bytes
    by_steps before rest step g is =
        let whole : List Step = before ++ step ∷ rest in
        let known = known_parts past (count_sent past) before (step ∷ rest) g.all.known in
        let on : IsCallOn (answer past) grant_of (is_elsewhere past name) name written step rest =
        call_on past (count_sent past) (count_sent past) grant_of (is_elsewhere past name) name lane writer w written
        before rest [] step
        (subst (λ (l : List Step). AreAll past (count_sent past) [] (asked_in (before ++ step ∷ l)))
        (sym (append-nil rest)) g.all) t.asks is (omega arith) known.1.1
        (λ place h. below_has (count_sent past) place written until.1 h) (λ place h. absurd h)
        (λ place h. own_with past lane writer place w written (grant_at s past) t.asks h)
        (λ x at above lt out. passes x at above (not_own past lane writer x.place w written t.asks above out))
        in
        let run_is : IsRunOn config (answer past) grant_of (is_elsewhere past name) name first whole =
        run_on s config past name (count_sent past) grant_of first whole j (sent_asked past) well g.all g.served
        (lane_comes s past name lane (count_sent past) j t.lanes)
        in
        write_stays config (answer past) grant_of (is_elsewhere past name) name first before rest step path bytes site
        facts written well_formed run_is denotes on
        (subst (λ (p : ℕ × Request). HasEnded (call.FsWrite path bytes) site facts (p ∷ written) (answer past)
        outcome.Done) (sym is) wrote)

    by_laid : IsLaid w r.steps → HasBytes now name bytes
    by_laid l =
        subst (λ (tree : FileTree). HasBytes tree name bytes) (sym (r.leaves ∙ ap (after config first) l.is))
        (by_steps l.before l.rest l.step (front_as IsAnyChoice config past (count_sent past) first r.steps
        (l.before ++ l.step ∷ l.rest) l.is f) l.asks)

-- ---- never written

-- A lane to whom a name is never writes its file: the name has what it had at first.
pub never_left : (s : Setting) (config : ServerConfig) (choices : List Choice) (first now : FileTree)
    (turns : List Turn) (past : List Entry) (name : Name) (lane : ℕ) → IsRun s turns past
    → ServesJournal config choices first past now
    → IsWellFormed first → LaneNever s past name lane → IsUntouched first now name
never_left s config choices first now turns past name lane run serves well_formed t =
    subst (λ (tree : FileTree). IsUntouched first tree name) (sym r.leaves) (record { node = stays.0; bytes = stays.1 })
  where
    j : IsJournal s past
    j = runs_are_journals s turns past run

    r : RunOf config choices first past now
    r = run_of config choices first past now serves

    known : AreKnown past (count_sent past) (asked_in r.steps)
    known = AreAll.known (subst (AreAll past (count_sent past) []) (sym r.asks) (all_sent past))

    run_is : IsRunOn config (answer past) (grant_at s past) (is_elsewhere past name) name first r.steps
    run_is = served_run_on s config choices first past now name r j
        (lane_comes s past name lane (count_sent past) j t.lanes)

    pass : AllPassBy (answer past) (grant_at s past) (is_elsewhere past name) name r.steps
    pass = all_pass past (count_sent past) (grant_at s past) (is_elsewhere past name) name r.steps known
        (λ x at lt. passes_by s past name (grant_at s past) x j at refl
        (place_passes s past name lane x.place j t.lanes (λ c mine. t.passes x.place c mine)))

    stays : (node_at (after config first r.steps) name ≡ node_at first name)
        × ((bytes : List ℕ) → HasBytes first name bytes → HasBytes (after config first r.steps) name bytes)
    stays = name_stays config (answer past) (grant_at s past) (is_elsewhere past name) name first r.steps well_formed
        run_is pass
