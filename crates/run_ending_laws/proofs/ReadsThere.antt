-- A whole read of a name that no lane writes gives the bytes that its file has at first, where nothing is refused by
-- choice.
use Rattle.std.proofs.Common.{◌≡◌, ◌≤◌, ℕ, zero, suc, Bool, true, not, List, [], ◌∷◌, length, drop, Some, refl, ap, sym, ◌∙◌, subst, arith, inl, inr}
use Rattle.std.specs.Prelude.{◌⊎◌, slice_get}
use Rattle.std.specs.List.{list_all}
use Rattle.std.proofs.lemmas.Bool.{and_parts}
use Rattle.sftp_model.specs.declared.config.Choice.{Choice}
use Rattle.sftp_model.specs.declared.config.ServerConfig.{ServerConfig}
use Rattle.sftp_model.specs.declared.outcome.Outcome.{Outcome}
use Rattle.sftp_model.specs.declared.outcome.Outcome.TheVariants as outcome
use Rattle.sftp_model.specs.declared.request.Request.{Request}
use Rattle.machine_model.proofs.LossLaws.{name_has}
use Rattle.machine_model.specs.Changes.{IsWellFormed}
use Rattle.machine_model.specs.Components.{Name, components}
use Rattle.machine_model.specs.FileTree.{FileTree, bytes_of, node_at}
use Rattle.machine_model.specs.declared.node.Node.TheVariants as node
use Rattle.plan_model.specs.FilePlans.{open_request}
use Rattle.plan_model.specs.Moves.{ask_path}
use Rattle.plan_model.specs.WindowPlans.{to_read}
use Rattle.plan_model.specs.declared.call.Call.{Call}
use Rattle.plan_model.specs.declared.call.Call.TheVariants as call
use Rattle.session_model.specs.declared.entry.Entry.{Entry}
use Rattle.session_model.specs.declared.turn.Turn.{Turn}
use Rattle.session_model.specs.Calls.{Setting}
use Rattle.session_model.specs.Readings.{answer}
use Rattle.run_laws.specs.CallsAmong.{GivesContent, HasEnded}
use Rattle.run_laws.specs.NameCalls.{writes}
use Rattle.run_laws.specs.ReadsBack.{calls_in}
use Rattle.run_laws.specs.RoundTrips.{outcome_at}
use Rattle.run_laws.specs.Steps.{ChooseOnly, HasBytes, RefuseNone, RefusesNone, RunOf, after}
use Rattle.run_laws.proofs.BackLaws.{read_opens}
use Rattle.run_laws.proofs.CutLaws.{chosen_parts}
use Rattle.run_laws.proofs.LaneCalls.{each_is}
use Rattle.run_laws.proofs.HandedLanes.{call_is}
use Rattle.run_laws.proofs.RoundTripLaws.{reads_first}
use Rattle.run_laws.proofs.ServedSteps.{none_refused, run_chosen, run_of}
use Rattle.run_laws.proofs.StepLaws.{steps_well_formed}
use Rattle.run_ending_laws.specs.Claims.{AreClaimed, NameClaims}
use Rattle.run_ending_laws.specs.EndsWell.{ReadsThere}
use Rattle.run_ending_laws.proofs.Directories.{Builds, steps_keep}
use Rattle.run_ending_laws.proofs.EndsWell.{Stood, stood}
use Rattle.run_ending_laws.proofs.GrowingRuns.{AllSteps, BuildsWithin, fit_after, run_builds, steps_as, steps_front}
use Rattle.run_ending_laws.proofs.LastCalls.{PlainRunOf, not_cancelled, one_lanes, writes_none}
use Rattle.run_ending_laws.proofs.ReadEnds.{whole_read_ends}
use Rattle.run_ending_laws.proofs.RunEnds.{outcome_there}
use Rattle.run_ending_laws.proofs.Sizes.{IsClaimed, fit_at_first}
use Rattle.run_ending_laws.proofs.Sums.{len_at}

drop_all_pass : (test : Call → Bool) (n : ℕ) (calls : List Call) → list_all test calls ≡ true
    → list_all test (drop n calls) ≡ true
drop_all_pass test zero calls all = all
drop_all_pass test (suc n) [] all = refl
drop_all_pass test (suc n) (c ∷ calls) all = drop_all_pass test n calls (and_parts (test c) (list_all test calls) all).1

pub run_read_there : (s : Setting) (turns : List Turn) (past : List Entry) (config : ServerConfig)
    (choices : List Choice) (tree left : FileTree) (claims : NameClaims)
    (lane n : ℕ) (path bytes : List ℕ) → PlainRunOf s.lanes s turns past config choices tree left
    → AreClaimed s.lanes claims → RefuseNone choices
    → HasBytes tree (components path) bytes → ReadsThere s claims lane n path bytes → outcome_at past lane n
    ≡ Some (outcome.Bytes bytes)
run_read_there s turns past config choices tree left claims lane n path bytes p c none has rd =
    let ended = outcome_there s.lanes s turns past lane n (call.FsRead path rd.bound) p.run p.given p.are rd.is in
    let st = stood s.lanes s turns past config choices tree left lane n (call.FsRead path rd.bound)
    (open_request to_read path) name ended.0 p rd.is ended.1 rd.alone
    (drop_all_pass (λ (d : Call). not (writes name d)) (suc n) (calls_in s.lanes lane) rd.never)
    (λ site answers home. ap (λ (q : List ℕ). ask_path (open_request to_read q) site) (home path)) rd.short
    (λ site first. read_opens path rd.bound site s.facts first) in
    ended.1 ∙ ap (λ (o : Outcome). Some o) (by_gives ended.0 st (given ended.0 ended.1))
  where
    name : Name
    name = components path

    r : RunOf config choices tree past left
    r = run_of config choices tree past left p.serves

    chosen : ChooseOnly RefusesNone r.steps
    chosen = run_chosen RefusesNone config choices tree past left p.serves (none_refused choices none)

    within : AllSteps (BuildsWithin claims) config tree r.steps
    within = run_builds s.lanes s turns past config choices tree left claims p c

    -- the bytes, or the bound was reached
    given : (o : Outcome) → outcome_at past lane n ≡ Some o → GivesContent o bytes
    given o e = reads_first s turns past config choices tree left name lane n bytes o p.run rd.some p.well p.serves none
        (one_lanes s.lanes s turns past name lane p.are p.run rd.alone)
        (λ k d below is names. writes_none name d (each_is (λ (d : Call). not (writes name d)) (calls_in s.lanes lane) k
        d rd.never
        (ap (λ (calls : List Call). slice_get calls k) (sym (p.are lane)) ∙ is)) names) has
        (record {
          path = path;
          bound = rd.bound;
          is = call_is s.lanes s past lane n (Some (call.FsRead path rd.bound)) p.are rd.is;
          denotes = refl;
          short = rd.short;
          ends = e;
          uncancelled = not_cancelled s.lanes s turns past config choices tree left lane n o p e;
        })

    -- at the OPEN the name has a file that is no longer than at first
    by_open : (o : Outcome) → (st : Stood s past config tree r.steps lane n (call.FsRead path rd.bound) name o)
        → (now : List ℕ) × (o ≡ outcome.Bytes now)
    by_open o st =
        let at : FileTree = after config tree st.stands.before in
        let before : AllSteps (BuildsWithin claims) config tree st.stands.before =
        steps_front (BuildsWithin claims) config tree st.stands.before (st.stands.step ∷ st.stands.rest)
        (subst (AllSteps (BuildsWithin claims) config tree) st.stands.is within) in
        let is : node_at at name ≡ Some (node.File has.file) =
        steps_keep config tree st.stands.before name (node.File has.file)
        (steps_as (BuildsWithin claims) Builds config tree st.stands.before (λ t x both. both.0) before) has.is in
        let sound : IsWellFormed at = steps_well_formed config tree st.stands.before p.well in
        let short : length (bytes_of at has.file) ≤ length bytes =
        no_longer at is sound (fit_after claims config tree tree st.stands.before before (fit_at_first tree claims)
        has.file) in
        let over = rd.over in (
          bytes_of at has.file,
          whole_read_ends config (answer past) name path (bytes_of at has.file) rd.bound st.site s.facts st.later o at
              st.stands.step st.stands.rest
              (chosen_parts RefusesNone st.stands.before (st.stands.step ∷ st.stands.rest)
              (subst (ChooseOnly RefusesNone) st.stands.is chosen)).1
              sound (record { file = has.file; is = is; bytes_are = refl }) rd.some rd.room (omega (arith, short, over))
              (ap components (st.home path)) st.stands.stands
              (subst (λ (x : ℕ × Request). HasEnded (call.FsRead path rd.bound) st.site s.facts (x ∷ st.later)
              (answer past) o) (sym st.stands.asks) st.did),
        )
      where
        no_longer : (at : FileTree) → node_at at name ≡ Some (node.File has.file) → IsWellFormed at
            → (len_at at.files has.file ≤ len_at tree.files has.file)
            ⊎ IsClaimed at claims has.file (len_at at.files has.file) → length (bytes_of at has.file) ≤ length bytes
        no_longer at is sound (inl le) = (let first : len_at tree.files has.file ≡ length bytes =
            ap length has.bytes_are in omega (arith, le, first))
        no_longer at is sound (inr claim) =
            absurd (rd.unclaimed claim.claim claim.there
            (sound.alone claim.claim.0 name has.file (name_has at claim.claim.0 has.file claim.is)
            (name_has at name has.file is)))

    by_gives : (o : Outcome) → Stood s past config tree r.steps lane n (call.FsRead path rd.bound) name o
        → GivesContent o bytes → o ≡ outcome.Bytes bytes
    by_gives o st (inl got) = got
    by_gives o st (inr up) = absurd (let b = by_open o st in let both : outcome.GivenUp ≡ outcome.Bytes b.0 = sym up
        ∙ b.1 in cc)
