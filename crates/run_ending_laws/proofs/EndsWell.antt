-- In a whole run whose machine refuses nothing by choice, a whole write ends well, and the whole read that comes after
-- it gives its bytes.
use Rattle.std.proofs.Common.{
  ◌≡◌,
  ◌<◌,
  ◌≤◌,
  ◌+◌,
  ℕ,
  Bool,
  true,
  false,
  List,
  [],
  ◌∷◌,
  ◌++◌,
  length,
  Some,
  if◌then◌else◌,
  refl,
  ap,
  sym,
  ◌∙◌,
  subst,
  arith,
  inl,
  inr,
}
use Rattle.sftp_model.specs.declared.config.Choice.{Choice}
use Rattle.sftp_model.specs.declared.config.ServerConfig.{ServerConfig}
use Rattle.sftp_model.specs.declared.error.IoKind.TheVariants as kind
use Rattle.sftp_model.specs.declared.outcome.Outcome.{Outcome}
use Rattle.sftp_model.specs.declared.outcome.Outcome.TheVariants as outcome
use Rattle.sftp_model.specs.declared.request.Request.{Request}
use Rattle.sftp_model.specs.declared.slot.Move.TheVariants.{Ask, Done}
use Rattle.sftp_model.specs.declared.slot.Site.{Site}
use Rattle.machine_model.specs.Components.{Name, components}
use Rattle.machine_model.specs.FileTree.{FileTree, all_bytes}
use Rattle.machine_model.specs.Limits.{MAX_FILE_LEN, MAX_TOTAL_LEN}
use Rattle.plan_model.specs.CallPlans.{next}
use Rattle.plan_model.specs.FilePlans.{open_request}
use Rattle.sftp_model.specs.Frames.{is_too_long}
use Rattle.plan_model.specs.Moves.{Answers, Own, ask_path, handle_of, refuse_locally}
use Rattle.plan_model.specs.PathPlans.{from_directory}
use Rattle.plan_model.specs.WholePlans.{to_replace}
use Rattle.plan_model.specs.WindowPlans.{to_read}
use Rattle.plan_model.specs.declared.call.Call.{Call}
use Rattle.plan_model.specs.declared.call.Call.TheVariants as call
use Rattle.plan_model.specs.declared.call.Lane.{Lane}
use Rattle.session_model.specs.declared.entry.Entry.{Entry}
use Rattle.session_model.specs.declared.turn.Turn.{Turn}
use Rattle.session_model.specs.Calls.{Setting}
use Rattle.session_model.specs.Grants.{is_asked_by}
use Rattle.session_model.specs.Journals.{IsJournal}
use Rattle.session_model.specs.Readings.{answer, asked_at, own, count_sent}
use Rattle.session_model.proofs.OverLaws.{runs_are_journals}
use Rattle.run_laws.specs.CallsAmong.{HasEnded, AreAmongSteps}
use Rattle.run_laws.specs.ReadsBack.{IsAlone, call_in}
use Rattle.run_laws.specs.RoundTrips.{outcome_at}
use Rattle.run_laws.specs.Steps.{AllSpare, AreDistinct, AreServed, ChooseOnly, HasBytes, HasPlace, RefuseNone, RefusesNone, RunOf, Step, after, answer_to, asked_in}
use Rattle.run_laws.proofs.BackLaws.{OpensFirst, read_opens, write_opens}
use Rattle.run_laws.proofs.CutLaws.{chosen_parts, rising_parts}
use Rattle.run_laws.proofs.LaneLaws.{in_turn}
use Rattle.run_laws.proofs.MoveWords.{is_done}
use Rattle.run_laws.proofs.OwnLaws.{has_call}
use Rattle.run_laws.proofs.SentLaws.{AreAll, AreRising, all_sent}
use Rattle.run_laws.proofs.ServedSteps.{HasRequest, none_refused, run_chosen, run_of}
use Rattle.run_laws.proofs.StepLaws.{after_two, served_first, steps_well_formed}
use Rattle.run_laws.proofs.UseLaws.{above_has}
use Rattle.run_laws.proofs.WholeWriteLaws.{whole_writes}
use Rattle.run_ending_laws.proofs.CallStands.{StandsIn, call_in as call_stands_in}
use Rattle.run_ending_laws.proofs.GrowingRuns.{AllSteps, distinct_rest, run_builds, steps_fit, steps_rest}
use Rattle.run_ending_laws.proofs.LastCalls.{Did, PlainRunOf, lane_last, plain_did}
use Rattle.run_ending_laws.proofs.ReadEnds.{whole_read_ends}
use Rattle.run_ending_laws.proofs.RunEnds.{outcome_there}
use Rattle.run_ending_laws.proofs.Sizes.{AreFit, fit_at_first}
use Rattle.run_ending_laws.proofs.WriteEnds.{MayOpen, whole_write_ends}
use Rattle.run_ending_laws.proofs.WritesOn.{stand_has}
use Rattle.run_ending_laws.specs.Claims.{AreClaimed, NameClaims, LaterWriteNone, claims_sum}
use Rattle.run_ending_laws.specs.EndsWell.{ReadsWell}

-- ---- a call whose path fits a frame asks

path_asked : (r : Request) (site left : Site) (o : Outcome) → is_too_long r ≡ false → ask_path r site ≡ Done o left → ⊥
path_asked r site left o short e = by_test (is_too_long r) short e
  where
    by_test : (b : Bool) → b ≡ false → (if b then refuse_locally kind.PathTooLong site else Ask r) ≡ Done o left → ⊥
    by_test true t e = cc
    by_test false t e = (let both : false ≡ true = ap is_done e in cc)

-- ---- a call among the steps, with what it did

pub record Stood (s : Setting) (past : List Entry) (config : ServerConfig) (tree : FileTree) (steps : List Step)
    (lane k : ℕ) (c : Call) (name : Name) (o : Outcome) : Type 0 where
  pub site : Site
  pub home : (path : List ℕ) → from_directory site path ≡ path
  pub first : ℕ × Request
  pub later : Own
  pub asks : own past lane k ≡ first ∷ later
  pub did : HasEnded c site s.facts (first ∷ later) (answer past) o
  pub stands : StandsIn config past name tree steps first later

-- of a call that opens first, by a path that fits a frame
pub stood : (lanes : List Lane) (s : Setting) (turns : List Turn) (past : List Entry) (config : ServerConfig)
    (choices : List Choice) (tree left : FileTree)
    (lane k : ℕ) (c : Call) (r : Request) (name : Name) (o : Outcome)
    (p : PlainRunOf lanes s turns past config choices tree left) → call_in lanes lane k ≡ Some c
    → outcome_at past lane k ≡ Some o → IsAlone lanes name lane → LaterWriteNone lanes name lane k
    → ((site : Site) (answers : Answers) → ((path : List ℕ) → from_directory site path ≡ path)
    → next c site s.facts [] answers ≡ ask_path r site)
    → is_too_long r ≡ false → ((site : Site) (first : ℕ × Request) → OpensFirst c site s.facts first)
    → Stood s past config tree (run_of config choices tree past left p.serves).steps lane k c name o
stood lanes s turns past config choices tree left lane k c r name o p is e alone last first_is short opens =
    let d : Did s past lane k c o = plain_did lanes s turns past config choices tree left lane k c o p is e in
    by_own d.site d.home (own past lane k) refl d.did
  where
    by_own : (site : Site) → ((path : List ℕ) → from_directory site path ≡ path) → (own_is : Own) → own past lane k
        ≡ own_is
        → HasEnded c site s.facts own_is (answer past) o → Stood s past config tree
        (run_of config choices tree past left p.serves).steps lane k c name o
    by_own site home [] asks did = absurd (path_asked r site did.left o short
        (sym (first_is site did.by home) ∙ did.ends))
    by_own site home (first ∷ later) asks did =
        record {
          site = site;
          home = home;
          first = first;
          later = later;
          asks = asks;
          did = did;
          stands = call_stands_in s config choices tree left turns past name lane k first later c site s.facts o p.run
              p.serves p.well
              (lane_last lanes s turns past name lane k first later p.are p.run alone last asks) (opens site first) did;
        }

-- a name may be opened at the first request of a call
abbrev pub OpensAt : List Entry → ServerConfig → FileTree → List Step → ℕ → ℕ → Name → Type 0
OpensAt past config tree steps lane k name = (before : List Step) (step : Step) (rest : List Step) → steps ≡ before
    ++ step ∷ rest
    → is_asked_by (asked_at past step.place) lane k ≡ true → MayOpen (after config tree before) name

-- a whole write, and what it needs to end well
pub record WritesSo (lanes : List Lane) (past : List Entry) (config : ServerConfig) (tree : FileTree)
    (claims : NameClaims)
    (steps : List Step) (lane k : ℕ) (path content : List ℕ) :
    Type 0 where
  pub is : call_in lanes lane k ≡ Some (call.FsWrite path content)
  pub short : is_too_long (open_request to_replace path) ≡ false
  pub small : length content ≤ MAX_FILE_LEN
  pub room : all_bytes tree + claims_sum claims ≤ MAX_TOTAL_LEN
  pub opens : OpensAt past config tree steps lane k (components path)

write_stood : (lanes : List Lane) (s : Setting) (turns : List Turn) (past : List Entry) (config : ServerConfig)
    (choices : List Choice) (tree left : FileTree) (claims : NameClaims)
    (lane k : ℕ) (path content : List ℕ) (o : Outcome) → (p : PlainRunOf lanes s turns past config choices tree left)
    → AreClaimed lanes claims
    → call_in lanes lane k ≡ Some (call.FsWrite path content) → is_too_long (open_request to_replace path) ≡ false
    → outcome_at past lane k ≡ Some o
    → Stood s past config tree (run_of config choices tree past left p.serves).steps lane k (call.FsWrite path content)
    (components path) o
write_stood lanes s turns past config choices tree left claims lane k path content o p c is short e =
    stood lanes s turns past config choices tree left lane k (call.FsWrite path content) (open_request to_replace path)
    (components path) o p is e
    (c.alone lane k path content is) (c.once lane k path content is)
    (λ site answers home. ap (λ (q : List ℕ). ask_path (open_request to_replace q) site) (home path)) short
    (λ site first. write_opens path content site s.facts first)

-- It ends well.
pub run_write_ends : (lanes : List Lane) (s : Setting) (turns : List Turn) (past : List Entry) (config : ServerConfig)
    (choices : List Choice) (tree left : FileTree) (claims : NameClaims)
    (lane k : ℕ) (path content : List ℕ) → (p : PlainRunOf lanes s turns past config choices tree left)
    → AreClaimed lanes claims → RefuseNone choices
    → WritesSo lanes past config tree claims (run_of config choices tree past left p.serves).steps lane k path content
    → outcome_at past lane k ≡ Some outcome.Done
run_write_ends lanes s turns past config choices tree left claims lane k path content p c none w =
    let ended = outcome_there lanes s turns past lane k (call.FsWrite path content) p.run p.given p.are w.is in
    let st = write_stood lanes s turns past config choices tree left claims lane k path content ended.0 p c w.is w.short
    ended.1 in
    let b = c.bound lane k path content w.is in
    let done : ended.0 ≡ outcome.Done =
    whole_write_ends tree claims config (answer past) (components path) path content st.site s.facts st.later
    (after config tree st.stands.before) st.stands.step st.stands.rest ended.0
    b.0 b.1.0 b.1.1 b.1.2 w.small w.room (steps_well_formed config tree st.stands.before p.well)
    (distinct_rest st.stands.before (st.stands.step ∷ st.stands.rest) (subst AreDistinct st.stands.is r.distinct)).1
    (steps_rest (λ t x. AreFit tree claims t) config tree st.stands.before (st.stands.step ∷ st.stands.rest)
    (subst (AllSteps (λ t x. AreFit tree claims t) config tree) st.stands.is fit))
    (chosen_parts RefusesNone st.stands.before (st.stands.step ∷ st.stands.rest)
    (subst (ChooseOnly RefusesNone) st.stands.is chosen)).1
    (w.opens st.stands.before st.stands.step st.stands.rest st.stands.is
    (subst (λ (x : ℕ × Request). is_asked_by (asked_at past x.0) lane k ≡ true) (sym st.stands.asks)
    (has_call past lane k st.first.0 (st.first ∷ st.later) st.asks (inl refl))))
    (ap components (st.home path)) st.stands.stands
    (subst (λ (x : ℕ × Request). HasEnded (call.FsWrite path content) st.site s.facts (x ∷ st.later) (answer past)
    ended.0) (sym st.stands.asks) st.did)
    in
    ended.1 ∙ ap (λ (o : Outcome). Some o) done
  where
    r : RunOf config choices tree past left
    r = run_of config choices tree past left p.serves

    fit : AllSteps (λ t x. AreFit tree claims t) config tree r.steps
    fit = steps_fit claims config tree tree r.steps (run_builds lanes s turns past config choices tree left claims p c)
        (fit_at_first tree claims)

    chosen : ChooseOnly RefusesNone r.steps
    chosen = run_chosen RefusesNone config choices tree past left p.serves (none_refused choices none)

-- ---- two calls among the steps

has_asked : (steps : List Step) (place : ℕ) → HasPlace steps place → HasRequest (asked_in steps) place
has_asked [] place h = absurd h
has_asked (s ∷ steps) place (inl e) = inl e
has_asked (s ∷ steps) place (inr h) = inr (has_asked steps place h)

-- the steps between a call's first one and that of a later call
record Between (before : List Step) (w : Step) (rest before' : List Step) (r : Step) (rest' : List Step) : Type 0 where
  mid : List Step
  rest_is : rest ≡ mid ++ r ∷ rest'
  before_is : before' ≡ before ++ w ∷ mid

heads : (x y : Step) (xs ys : List Step) → x ∷ xs ≡ y ∷ ys → x ≡ y
heads x y xs ys e = cc

tails : (x y : Step) (xs ys : List Step) → x ∷ xs ≡ y ∷ ys → xs ≡ ys
tails x y xs ys e = cc

step_there : (xs ys : List Step) (s : Step) → HasPlace (xs ++ s ∷ ys) s.place
step_there [] ys s = inl refl
step_there (x ∷ xs) ys s = inr (step_there xs ys s)

between : (before : List Step) (w : Step) (rest before' : List Step) (r : Step) (rest' : List Step) → before ++ w ∷ rest
    ≡ before' ++ r ∷ rest'
    → AreRising (asked_in (before ++ w ∷ rest)) → w.place < r.place → Between before w rest before' r rest'
between [] w rest [] r rest' e rising lt = absurd (let same : w.place ≡ r.place =
    ap (λ (s : Step). s.place) (heads w r rest rest' e) in omega (arith, same, lt))
between [] w rest (x ∷ before') r rest' e rising lt =
    record {
      mid = before';
      rest_is = tails w x rest (before' ++ r ∷ rest') e;
      before_is = ap (λ (s : Step). s ∷ before') (sym (heads w x rest (before' ++ r ∷ rest') e));
    }
between (x ∷ before) w rest [] r rest' e rising lt =
    absurd (let same : x.place ≡ r.place = ap (λ (s : Step). s.place) (heads x r (before ++ w ∷ rest) rest' e) in
    let high : x.place < w.place = above_has x.place w.place (asked_in (before ++ w ∷ rest)) rising.0
    (has_asked (before ++ w ∷ rest) w.place (step_there before rest w)) in
    omega (arith, same, high, lt))
between (x ∷ before) w rest (y ∷ before') r rest' e rising lt =
    let b = between before w rest before' r rest' (tails x y (before ++ w ∷ rest) (before' ++ r ∷ rest') e) rising.1 lt
    in
    record {
      mid = b.mid;
      rest_is = b.rest_is;
      before_is = ap (λ (s : Step). s ∷ before') (sym (heads x y (before ++ w ∷ rest) (before' ++ r ∷ rest') e))
          ∙ ap (λ (l : List Step). x ∷ l) b.before_is;
    }

spare_front : (config : ServerConfig) (name : Name) (tree : FileTree) (xs ys : List Step)
    → AllSpare config name tree (xs ++ ys) → AllSpare config name tree xs
spare_front config name tree [] ys all = tt
spare_front config name tree (x ∷ xs) ys all = (all.0, spare_front config name (answer_to config tree x).1 xs ys all.1)

-- a call all of whose requests stand before a step stands among those before it
stand_front : (config : ServerConfig) (name : Name) (h : List ℕ) (own : Own) (tree : FileTree) (xs ys : List Step)
    → AreAmongSteps config name h own tree (xs ++ ys)
    → ((place : ℕ) → HasRequest own place → HasPlace ys place → ⊥) → AreAmongSteps config name h own tree xs
stand_front config name h [] tree xs ys stand none = spare_front config name tree xs ys stand
stand_front config name h (asked ∷ later) tree [] ys stand none =
    absurd (none asked.0 (inl refl) (stand_has config name h (asked ∷ later) tree ys asked.0 stand (inl refl)))
stand_front config name h (asked ∷ later) tree (x ∷ xs) ys (inl own) none =
    inl (
      own.0,
      own.1,
      stand_front config name h later (answer_to config tree x).1 xs ys own.2
          (λ place has. none place (inr has)),
    )
stand_front config name h (asked ∷ later) tree (x ∷ xs) ys (inr other) none =
    inr (other.0, other.1, stand_front config name h (asked ∷ later) (answer_to config tree x).1 xs ys other.2 none)

-- ---- a read that comes after

pub run_read_ends : (lanes : List Lane) (s : Setting) (turns : List Turn) (past : List Entry) (config : ServerConfig)
    (choices : List Choice) (tree left : FileTree) (claims : NameClaims)
    (lane k m : ℕ) (path content : List ℕ) → (p : PlainRunOf lanes s turns past config choices tree left)
    → AreClaimed lanes claims → RefuseNone choices
    → WritesSo lanes past config tree claims (run_of config choices tree past left p.serves).steps lane k path content
    → ReadsWell s lane k m path content
    → outcome_at past lane m ≡ Some (outcome.Bytes content)
run_read_ends lanes s turns past config choices tree left claims lane k m path content p c none w rd =
    let done = run_write_ends lanes s turns past config choices tree left claims lane k path content p c none w in
    let wrote = write_stood lanes s turns past config choices tree left claims lane k path content outcome.Done p c w.is
    w.short done in
    let ended = outcome_there lanes s turns past lane m (call.FsRead path rd.bound) p.run p.given p.are read_is in
    let read = stood lanes s turns past config choices tree left lane m (call.FsRead path rd.bound)
    (open_request to_read path) (components path) ended.0 p read_is ended.1
    (c.alone lane k path content w.is) last
    (λ site answers home. ap (λ (q : List ℕ). ask_path (open_request to_read q) site) (home path)) rd.short
    (λ site first. read_opens path rd.bound site s.facts first) in
    let got : ended.0 ≡ outcome.Bytes content = by_both wrote ended.0 read in
    ended.1 ∙ ap (λ (o : Outcome). Some o) got
  where
    name : Name
    name = components path

    read_is : call_in lanes lane m ≡ Some (call.FsRead path rd.bound)
    read_is = subst (λ (l : List Lane). call_in l lane m ≡ Some (call.FsRead path rd.bound)) p.given rd.is

    last : LaterWriteNone lanes (components path) lane m
    last = subst (λ (l : List Lane). LaterWriteNone l (components path) lane m) p.given rd.last

    r : RunOf config choices tree past left
    r = run_of config choices tree past left p.serves

    j : IsJournal s past
    j = runs_are_journals s turns past p.run

    rising : AreRising (asked_in r.steps)
    rising = AreAll.rising (subst (AreAll past (count_sent past) []) (sym r.asks) (all_sent past))

    chosen : ChooseOnly RefusesNone r.steps
    chosen = run_chosen RefusesNone config choices tree past left p.serves (none_refused choices none)

    -- what the writer asked stands before what the reader asked
    earlier : (wrote : Stood s past config tree r.steps lane k (call.FsWrite path content) name outcome.Done)
        (o : Outcome)
        (read : Stood s past config tree r.steps lane m (call.FsRead path rd.bound) name o) (place : ℕ)
        → HasRequest (wrote.first ∷ wrote.later) place → place < read.first.0
    earlier wrote o read place has = in_turn s past lane k m place read.first.0 j rd.after_it
        (has_call past lane k place (wrote.first ∷ wrote.later) wrote.asks has)
        (has_call past lane m read.first.0 (read.first ∷ read.later) read.asks (inl refl))

    by_between : (wrote : Stood s past config tree r.steps lane k (call.FsWrite path content) name outcome.Done)
        (o : Outcome)
        (read : Stood s past config tree r.steps lane m (call.FsRead path rd.bound) name o)
        → Between wrote.stands.before wrote.stands.step wrote.stands.rest read.stands.before read.stands.step
        read.stands.rest → HasBytes (after config tree read.stands.before) name content
    by_between wrote o read b =
        let at : FileTree = after config tree wrote.stands.before in
        let h : List ℕ = handle_of (answer past wrote.stands.step.place) in
        let read_at : read.stands.step.place ≡ read.first.0 = ap (λ (x : ℕ × Request). x.0) read.stands.asks in
        let rising_read : AreRising (asked_in (read.stands.step ∷ read.stands.rest)) =
        (rising_parts read.stands.before (read.stands.step ∷ read.stands.rest)
        (subst (λ (l : List Step). AreRising (asked_in l)) read.stands.is rising)).1 in
        let stand : AreAmongSteps config name h wrote.later (answer_to config at wrote.stands.step).1 b.mid =
        stand_front config name h wrote.later (answer_to config at wrote.stands.step).1 b.mid
        (read.stands.step ∷ read.stands.rest)
        (subst (AreAmongSteps config name h wrote.later (answer_to config at wrote.stands.step).1) b.rest_is
        wrote.stands.stands.stands)
        (λ place has there. too_late place (earlier wrote o read place (inr has)) rising_read read_at there) in
        let served : AreServed config (answer past) at (wrote.stands.step ∷ b.mid) =
        served_first config (answer past) at (wrote.stands.step ∷ b.mid) (read.stands.step ∷ read.stands.rest)
        (subst (λ (l : List Step). AreServed config (answer past) at (wrote.stands.step ∷ l)) b.rest_is
        wrote.stands.stands.served) in
        subst (λ (t : FileTree). HasBytes t name content)
        (sym (after_two config tree wrote.stands.before (wrote.stands.step ∷ b.mid))
        ∙ ap (after config tree) (sym b.before_is))
        (whole_writes config (answer past) name path content wrote.site s.facts wrote.later at wrote.stands.step b.mid
        (steps_well_formed config tree wrote.stands.before p.well) (ap components (wrote.home path))
        (record { served = served; stands = stand })
        (subst (λ (x : ℕ × Request). HasEnded (call.FsWrite path content) wrote.site s.facts (x ∷ wrote.later)
        (answer past) outcome.Done) (sym wrote.stands.asks) wrote.did))
      where
        too_late : (place : ℕ) → place < read.first.0 → AreRising (asked_in (read.stands.step ∷ read.stands.rest))
            → read.stands.step.place ≡ read.first.0
            → HasPlace (read.stands.step ∷ read.stands.rest) place → ⊥
        too_late place lt up at (inl e) = (let here : read.stands.step.place ≡ place = e in omega (arith, lt, at, here))
        too_late place lt up at (inr h) =
            (let high : read.stands.step.place < place = above_has read.stands.step.place place
            (asked_in read.stands.rest) up.0 (has_asked read.stands.rest place h) in
            omega (arith, lt, at, high))

    by_both : (wrote : Stood s past config tree r.steps lane k (call.FsWrite path content) name outcome.Done)
        (o : Outcome)
        → (read : Stood s past config tree r.steps lane m (call.FsRead path rd.bound) name o) → o
        ≡ outcome.Bytes content
    by_both wrote o read =
        let lt : wrote.stands.step.place < read.stands.step.place =
        (let a : wrote.stands.step.place ≡ wrote.first.0 = ap (λ (x : ℕ × Request). x.0) wrote.stands.asks in
        let b : read.stands.step.place ≡ read.first.0 = ap (λ (x : ℕ × Request). x.0) read.stands.asks in
        let c = earlier wrote o read wrote.first.0 (inl refl) in omega (arith, a, b, c)) in
        let b = between wrote.stands.before wrote.stands.step wrote.stands.rest read.stands.before read.stands.step
        read.stands.rest
        (sym wrote.stands.is ∙ read.stands.is) (subst (λ (l : List Step). AreRising (asked_in l)) wrote.stands.is
        rising) lt in
        whole_read_ends config (answer past) name path content rd.bound read.site s.facts read.later o
        (after config tree read.stands.before) read.stands.step read.stands.rest
        (chosen_parts RefusesNone read.stands.before (read.stands.step ∷ read.stands.rest)
        (subst (ChooseOnly RefusesNone) read.stands.is chosen)).1
        (steps_well_formed config tree read.stands.before p.well) (by_between wrote o read b) rd.some rd.room rd.over
        (ap components (read.home path)) read.stands.stands
        (subst (λ (x : ℕ × Request). HasEnded (call.FsRead path rd.bound) read.site s.facts (x ∷ read.later)
        (answer past) o) (sym read.stands.asks) read.did)
