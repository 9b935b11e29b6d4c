-- What each request of a whole run finds: files no longer than at first, or within the bounds of the names that are
-- written.
use Rattle.std.proofs.Common.{◌≡◌, ◌≤◌, ℕ, true, false, List, [], ◌∷◌, ◌++◌, length, Option, Some, refl, ap, sym, ◌∙◌, subst, arith, inl, inr}
use Rattle.std.specs.Prelude.{◌⊎◌, slice_get}
use Rattle.std.specs.List.{list_all}
use Rattle.sftp_model.specs.declared.config.Choice.{Choice}
use Rattle.sftp_model.specs.declared.config.ServerConfig.{ServerConfig}
use Rattle.sftp_model.specs.declared.outcome.Outcome.{Outcome}
use Rattle.sftp_model.specs.declared.request.Request.{Request}
use Rattle.sftp_model.specs.declared.request.Request.TheVariants as request
use Rattle.machine_model.specs.Components.{Name, components}
use Rattle.machine_model.specs.FileTree.{FileTree, file_of, node_at, opened_at}
use Rattle.machine_model.specs.HandleRequests.{offset_of}
use Rattle.machine_model.specs.declared.node.Node.TheVariants as node
use Rattle.machine_model.specs.declared.opened.Held.{Held}
use Rattle.plan_model.proofs.Among.{Among}
use Rattle.sftp_model.specs.declared.slot.Site.{Site}
use Rattle.plan_model.specs.Moves.{Own, handle_of}
use Rattle.plan_model.specs.CallPlans.{next}
use Rattle.plan_model.specs.FilePlans.{open_request}
use Rattle.plan_model.specs.PathPlans.{from_directory}
use Rattle.plan_model.specs.WholePlans.{to_replace}
use Rattle.plan_model.specs.declared.call.Call.{Call}
use Rattle.plan_model.specs.declared.call.Call.TheVariants as call
use Rattle.plan_model.specs.declared.call.Lane.{Lane}
use Rattle.session_model.specs.declared.entry.Entry.{Entry}
use Rattle.session_model.specs.declared.turn.Turn.{Turn}
use Rattle.session_model.specs.Calls.{Setting, lane_calls}
use Rattle.session_model.specs.Grants.{is_asked_by, is_close}
use Rattle.session_model.specs.Journals.{IsJournal}
use Rattle.session_model.specs.Readings.{AskedRequest, answer, asked_at, is_by, own, count_sent}
use Rattle.session_model.proofs.OverLaws.{runs_are_journals}
use Rattle.run_laws.specs.CallsAmong.{HasEnded, asked_by}
use Rattle.run_laws.specs.ReadsBack.{call_in}
use Rattle.run_laws.specs.Steps.{AreDistinct, HasPlace, RunOf, Step, after, answer_to, asked_in}
use Rattle.run_laws.proofs.BackLaws.{write_opens}
use Rattle.run_laws.proofs.CallRequests.{first_asked}
use Rattle.run_laws.proofs.CutLaws.{one_at}
use Rattle.run_laws.proofs.LaidLaws.{own_at}
use Rattle.run_laws.proofs.OpenLaws.{open_is}
use Rattle.run_laws.proofs.LaneLaws.{ACall, TheSession, WhoAsked, who_asked}
use Rattle.run_laws.proofs.OwnLaws.{call_has}
use Rattle.run_laws.proofs.SentLaws.{AreAll, AreKnown, IsAt, all_sent}
use Rattle.run_laws.proofs.ServedSteps.{HasRequest, run_of}
use Rattle.run_laws.proofs.StepLaws.{steps_well_formed}
use Rattle.run_laws.proofs.UsedLaws.{some_is}
use Rattle.run_ending_laws.proofs.Building.{IsBuilding, WritesAt, effect_of}
use Rattle.run_ending_laws.proofs.CallAsks.{IsMadeBy, IsOfCall, made_by}
use Rattle.run_ending_laws.proofs.CallStands.{StandsIn, call_in as call_stands_in}
use Rattle.run_ending_laws.proofs.LastCalls.{Did, PlainRunOf, lane_last, plain_did}
use Rattle.run_ending_laws.proofs.RunEnds.{outcome_there}
use Rattle.run_ending_laws.proofs.Sizes.{AreFit, IsClaimedWrite, fit_next}
use Rattle.run_ending_laws.proofs.WritesOn.{AllOwn, WritesOn, stand_has, write_own}
use Rattle.run_ending_laws.specs.PlainCalls.{is_plain_call}
use Rattle.run_ending_laws.specs.Claims.{AreClaimed, NameClaims}

-- ---- steps

-- each step has it so, by the tree that it finds
abbrev pub AllSteps : (FileTree → Step → Type 0) → ServerConfig → FileTree → List Step → Type 0
AllSteps P config tree [] = Unit {0}
AllSteps P config tree (s ∷ steps) = P tree s × AllSteps P config (answer_to config tree s).1 steps

pub steps_as : (P Q : FileTree → Step → Type 0) (config : ServerConfig) (tree : FileTree) (steps : List Step)
    → ((t : FileTree) (s : Step) → P t s → Q t s) → AllSteps P config tree steps → AllSteps Q config tree steps
steps_as P Q config tree [] as_well all = tt
steps_as P Q config tree (s ∷ steps) as_well all = (
  as_well tree s all.0,
  steps_as P Q config (answer_to config tree s).1 steps as_well all.1,
)

pub steps_both : (P Q : FileTree → Step → Type 0) (config : ServerConfig) (tree : FileTree) (steps : List Step)
    → AllSteps P config tree steps → AllSteps Q config tree steps → AllSteps (λ t s. P t s × Q t s) config tree steps
steps_both P Q config tree [] p q = tt
steps_both P Q config tree (s ∷ steps) p q = (
  (p.0, q.0),
  steps_both P Q config (answer_to config tree s).1 steps p.1
      q.1,
)

pub steps_known : (P : Step → Type 0) (config : ServerConfig) (past : List Entry) (n : ℕ) (tree : FileTree)
    (steps : List Step)
    → ((s : Step) → IsAt past (asked_by s) → P s) → AreKnown past n (asked_in steps)
    → AllSteps (λ t s. P s) config tree steps
steps_known P config past n tree [] each known = tt
steps_known P config past n tree (s ∷ steps) each known = (
  each s known.0.1,
  steps_known P config past n (answer_to config tree s).1 steps each known.1,
)

-- at a step
pub step_has : (P : FileTree → Step → Type 0) (config : ServerConfig) (tree : FileTree) (xs ys : List Step) (s : Step)
    → AllSteps P config tree (xs ++ s ∷ ys) → P (after config tree xs) s
step_has P config tree [] ys s all = all.0
step_has P config tree (x ∷ xs) ys s all = step_has P config (answer_to config tree x).1 xs ys s all.1

-- and behind some steps
pub steps_rest : (P : FileTree → Step → Type 0) (config : ServerConfig) (tree : FileTree) (xs ys : List Step)
    → AllSteps P config tree (xs ++ ys) → AllSteps P config (after config tree xs) ys
steps_rest P config tree [] ys all = all
steps_rest P config tree (x ∷ xs) ys all = steps_rest P config (answer_to config tree x).1 xs ys all.1

pub steps_front : (P : FileTree → Step → Type 0) (config : ServerConfig) (tree : FileTree) (xs ys : List Step)
    → AllSteps P config tree (xs ++ ys) → AllSteps P config tree xs
steps_front P config tree [] ys all = tt
steps_front P config tree (x ∷ xs) ys all = (all.0, steps_front P config (answer_to config tree x).1 xs ys all.1)

-- ---- steps of calls

place_after : (xs ys : List Step) (place : ℕ) → HasPlace ys place → HasPlace (xs ++ ys) place
place_after [] ys place h = h
place_after (x ∷ xs) ys place h = inr (place_after xs ys place h)

pub distinct_rest : (xs ys : List Step) → AreDistinct (xs ++ ys) → AreDistinct ys
distinct_rest [] ys d = d
distinct_rest (x ∷ xs) ys d = distinct_rest xs ys d.1

-- what all further steps of a call have, all steps of the run have
own_before : (P : FileTree → Step → Type 0) (config : ServerConfig) (own : Own) (tree : FileTree)
    (before steps : List Step) → AreDistinct (before ++ steps)
    → ((place : ℕ) → HasRequest own place → HasPlace steps place) → AllOwn P config own (after config tree before) steps
    → AllOwn P config own tree (before ++ steps)
own_before P config own tree [] steps distinct there all = all
own_before P config own tree (x ∷ before) steps distinct there all = (
  λ mine. absurd (distinct.0 x.place (place_after before steps x.place (there x.place mine)) refl),
  own_before P config own (answer_to config tree x).1 before steps distinct.1 there all,
)

pub calls_all : (I : Type 0) (P : I → FileTree → Step → Type 0) (own : I → Own) (config : ServerConfig)
    (tree : FileTree) (steps : List Step)
    → ((c : I) → AllOwn (P c) config (own c) tree steps) → AllSteps
    (λ t s. (c : I) → HasRequest (own c) s.place → P c t s) config tree steps
calls_all I P own config tree [] all = tt
calls_all I P own config tree (s ∷ steps) all = (
  λ c. (all c).0,
  calls_all I P own config (answer_to config tree s).1 steps (λ c. (all c).1),
)

-- ---- the calls that write

-- a whole write with its requests
pub record Writer (lanes : List Lane) (past : List Entry) : Type 0 where
  pub lane : ℕ
  pub k : ℕ
  pub path : List ℕ
  pub content : List ℕ
  pub is : call_in lanes lane k ≡ Some (call.FsWrite path content)
  pub first : ℕ × Request
  pub later : Own
  pub asks : own past lane k ≡ first ∷ later

-- each of its further requests is a WRITE at the end of what its file has
writer_own : (lanes : List Lane) (s : Setting) (turns : List Turn) (past : List Entry) (config : ServerConfig)
    (choices : List Choice) (tree left : FileTree) (claims : NameClaims)
    → (p : PlainRunOf lanes s turns past config choices tree left) → AreClaimed lanes claims → (w : Writer lanes past)
    → AllOwn (WritesOn (components w.path) (handle_of (answer past w.first.0)) (length w.content)) config w.later tree
    (run_of config choices tree past left p.serves).steps
writer_own lanes s turns past config choices tree left claims p c w =
    let ended = outcome_there lanes s turns past w.lane w.k (call.FsWrite w.path w.content) p.run p.given p.are w.is in
    let d : Did s past w.lane w.k (call.FsWrite w.path w.content) ended.0 =
    plain_did lanes s turns past config choices tree left w.lane w.k (call.FsWrite w.path w.content) ended.0 p w.is
    ended.1 in
    let did : HasEnded (call.FsWrite w.path w.content) d.site s.facts (w.first ∷ w.later) (answer past) ended.0 =
    subst (λ (o : Own). HasEnded (call.FsWrite w.path w.content) d.site s.facts o (answer past) ended.0) w.asks d.did in
    let stands : StandsIn config past (components w.path) tree r.steps w.first w.later =
    call_stands_in s config choices tree left turns past (components w.path) w.lane w.k w.first w.later
    (call.FsWrite w.path w.content) d.site s.facts ended.0
    p.run p.serves p.well (lane_last lanes s turns past (components w.path) w.lane w.k w.first w.later p.are p.run
    (c.alone w.lane w.k w.path w.content w.is) (c.once w.lane w.k w.path w.content w.is) w.asks)
    (write_opens w.path w.content d.site s.facts w.first) did in
    all_of d.site (ap components (d.home w.path)) ended.0 stands did
  where
    r : RunOf config choices tree past left
    r = run_of config choices tree past left p.serves

    P : ℕ → FileTree → Step → Type 0
    P place = WritesOn (components w.path) (handle_of (answer past place)) (length w.content)

    at_first : (st : StandsIn config past (components w.path) tree r.steps w.first w.later) → st.step.place ≡ w.first.0
    at_first st = ap (λ (x : ℕ × Request). x.0) st.asks

    all_of : (site : Site) → components (from_directory site w.path) ≡ components w.path → (o : Outcome)
        → (st : StandsIn config past (components w.path) tree r.steps w.first w.later)
        → HasEnded (call.FsWrite w.path w.content) site s.facts (w.first ∷ w.later) (answer past) o
        → AllOwn (P w.first.0) config w.later tree r.steps
    all_of site denotes o st did =
        let distinct : AreDistinct (st.before ++ st.step ∷ st.rest) = subst AreDistinct st.is r.distinct in
        let behind : AreDistinct (st.step ∷ st.rest) = distinct_rest st.before (st.step ∷ st.rest) distinct in
        let there : (place : ℕ) → HasRequest w.later place → HasPlace st.rest place =
        λ place h. stand_has config (components w.path) (handle_of (answer past st.step.place)) w.later
        (answer_to config (after config tree st.before) st.step).1 st.rest place st.stands.stands h in
        let own : AllOwn (P st.step.place) config w.later (answer_to config (after config tree st.before) st.step).1
        st.rest =
        write_own config (answer past) (components w.path) w.path w.content site s.facts w.later
        (after config tree st.before) st.step st.rest o
        (steps_well_formed config tree st.before p.well) behind.1 denotes st.stands
        (subst (λ (x : ℕ × Request). HasEnded (call.FsWrite w.path w.content) site s.facts (x ∷ w.later) (answer past)
        o) (sym st.asks) did) in
        let with_first : AllOwn (P st.step.place) config w.later (after config tree st.before) (st.step ∷ st.rest) =
        (λ mine. absurd (behind.0 st.step.place (there st.step.place mine) refl), own) in
        subst (λ (steps : List Step). AllOwn (P w.first.0) config w.later tree steps) (sym st.is)
        (subst (λ (place : ℕ). AllOwn (P place) config w.later tree (st.before ++ st.step ∷ st.rest)) (at_first st)
        (own_before (P st.step.place) config w.later tree st.before (st.step ∷ st.rest) distinct
        (λ place h. inr (there place h)) with_first))

-- ---- each request

-- who asked for it builds, and a WRITE is one of a whole write
pub data Asker (lanes : List Lane) (past : List Entry) (s : Step) : Type 0 where
  NoWrite : IsBuilding s.request → ((handle : List ℕ) (offset : ℕ) (piece : List ℕ)
      → WritesAt s.request handle offset piece → ⊥) → Asker lanes past s
  AWriter : IsBuilding s.request → (w : Writer lanes past) → HasRequest w.later s.place → Asker lanes past s

-- the first request of a whole write is its OPEN
first_opens : (lanes : List Lane) (s : Setting) (turns : List Turn) (past : List Entry) (config : ServerConfig)
    (choices : List Choice) (tree left : FileTree)
    → PlainRunOf lanes s turns past config choices tree left → (w : Writer lanes past) → (path : List ℕ)
    × (w.first.1 ≡ open_request to_replace path)
first_opens lanes s turns past config choices tree left p w =
    let ended = outcome_there lanes s turns past w.lane w.k (call.FsWrite w.path w.content) p.run p.given p.are w.is in
    let d : Did s past w.lane w.k (call.FsWrite w.path w.content) ended.0 =
    plain_did lanes s turns past config choices tree left w.lane w.k (call.FsWrite w.path w.content) ended.0 p w.is
    ended.1 in
    let did : HasEnded (call.FsWrite w.path w.content) d.site s.facts (w.first ∷ w.later) (answer past) ended.0 =
    subst (λ (o : Own). HasEnded (call.FsWrite w.path w.content) d.site s.facts o (answer past) ended.0) w.asks d.did in
    let asked = first_asked (next (call.FsWrite w.path w.content) d.site s.facts) did.requests did.by w.first w.later
    did.so_far.asked did.are in
    (from_directory d.site w.path, open_is to_replace (from_directory d.site w.path) d.site w.first.1 asked.1)

no_open : (r : Request) (path : List ℕ) (handle : List ℕ) (offset : ℕ) (piece : List ℕ) → r
    ≡ open_request to_replace path → WritesAt r handle offset piece → ⊥
no_open r path handle offset piece e w = subst (λ (q : Request). WritesAt q handle offset piece) e w

-- who asked for a step
pub who_builds : (lanes : List Lane) (s : Setting) (turns : List Turn) (past : List Entry) (config : ServerConfig)
    (choices : List Choice) (tree left : FileTree)
    → PlainRunOf lanes s turns past config choices tree left → (x : Step) → IsAt past (asked_by x) → Asker lanes past x
who_builds lanes s turns past config choices tree left p x (a, (at, is)) = by_who (who_asked s past x.place a j at)
  where
    j : IsJournal s past
    j = runs_are_journals s turns past p.run

    all : (lane : ℕ) → list_all is_plain_call (lane_calls s past lane) ≡ true
    all lane = subst (λ (calls : List Call). list_all is_plain_call calls ≡ true) (sym (p.are lane)) (p.plain lane)

    session : (r : Request) → r ≡ x.request → (is_close r ≡ true) ⊎ (r ≡ request.LimitsQuery) → Asker lanes past x
    session r e (inr query) = NoWrite (subst IsBuilding (sym query ∙ e) tt)
        (λ h o piece w. subst (λ (q : Request). WritesAt q h o piece) (sym e ∙ query) w)
    session (request.Close h) e (inl closes) = NoWrite (subst IsBuilding e tt)
        (λ g o piece w. subst (λ (q : Request). WritesAt q g o piece) (sym e) w)
    session other e (inl closes) = absurd cc

    writes : (lane k : ℕ) (path content : List ℕ) (h : List ℕ) (offset : ℕ) (piece : List ℕ) → call_in lanes lane k
        ≡ Some (call.FsWrite path content)
        → a.request ≡ request.Write h offset piece → (o : Own) → own past lane k ≡ o → HasRequest o x.place
        → Asker lanes past x
    writes lane k path content h offset piece is_call asks [] own_is has = absurd has
    writes lane k path content h offset piece is_call asks (first ∷ later) own_is (inr more) =
        AWriter (subst IsBuilding (sym asks ∙ is) tt)
        (record {
          lane = lane;
          k = k;
          path = path;
          content = content;
          is = is_call;
          first = first;
          later = later;
          asks =
              own_is;
        }) more
    writes lane k path content h offset piece is_call asks (first ∷ later) own_is (inl e) =
        absurd (let w : Writer lanes past = record {
          lane = lane;
          k = k;
          path = path;
          content = content;
          is = is_call;
          first = first;
          later = later;
          asks = own_is;
        } in
        let o = first_opens lanes s turns past config choices tree left p w in
        let same : a.request ≡ first.1 = one_at past (x.place, a.request) first (a, (at, refl))
        (own_at past lane k first later own_is) (sym e) in
        no_open (request.Write h offset piece) o.0 h offset piece (sym asks ∙ (same ∙ o.1)) (refl, refl, refl))

    by_call : (lane k : ℕ) (c : Call) (r : Request) → is_asked_by (asked_at past x.place) lane k ≡ true
        → call_in lanes lane k ≡ Some c → a.request ≡ r → IsOfCall c r
        → Asker lanes past x
    by_call lane k (call.FsWrite path content) (request.Write h offset piece) mine is_call asks of =
        writes lane k path content h offset piece is_call asks (own past lane k) refl
        (call_has past lane k x.place (own past lane k) refl mine)
    by_call lane k (call.FsWrite path content) (request.OpenFile q flags attrs) mine is_call asks of =
        NoWrite (subst IsBuilding (sym asks ∙ is) tt) (λ h o piece w. subst (λ (z : Request). WritesAt z h o piece)
        (sym is ∙ asks) w)
    by_call lane k (call.FsRead path bound) (request.OpenFile q flags attrs) mine is_call asks of =
        NoWrite (subst IsBuilding (sym asks ∙ is) tt) (λ h o piece w. subst (λ (z : Request). WritesAt z h o piece)
        (sym is ∙ asks) w)
    by_call lane k (call.FsRead path bound) (request.Read g offset len) mine is_call asks of =
        NoWrite (subst IsBuilding (sym asks ∙ is) tt) (λ h o piece w. subst (λ (z : Request). WritesAt z h o piece)
        (sym is ∙ asks) w)
    by_call lane k (call.Mkdir path) (request.Mkdir q attrs) mine is_call asks of =
        NoWrite (subst IsBuilding (sym asks ∙ is) tt) (λ h o piece w. subst (λ (z : Request). WritesAt z h o piece)
        (sym is ∙ asks) w)
    by_call lane k (call.FsWrite path content) other mine is_call asks of = absurd of
    by_call lane k (call.FsRead path bound) other mine is_call asks of = absurd of
    by_call lane k (call.Mkdir path) other mine is_call asks of = absurd of
    by_call lane k c r mine is_call asks of = absurd of

    by_who : WhoAsked past x.place a → Asker lanes past x
    by_who (TheSession asks) = session a.request is asks
    by_who (ACall lane k mine) =
        let by : is_by a.by lane k ≡ true = sym (ap (λ (o : Option AskedRequest). is_asked_by o lane k) at) ∙ mine in
        let m : IsMadeBy s past lane k a.request = made_by s past lane k x.place a j (all lane) at by in
        by_call lane k m.c a.request mine (ap (λ (calls : List Call). slice_get calls k) (sym (p.are lane)) ∙ m.is) refl
        m.asks

-- a WRITE of a whole write stays within the bound of its name
claimed_by : (claims : NameClaims) (name : Name) (h : List ℕ) (total : ℕ) (tree : FileTree) (s : Step)
    → (claim : Name × ℕ)
    → Among claim claims → claim.0 ≡ name → total ≤ claim.1
    → WritesOn name h total tree s → IsClaimedWrite tree claims s.request
claimed_by claims name h total tree s claim there named le w handle held offset piece asks open_on =
    let at : WritesAt (request.Write h (length w.bytes) w.part) handle offset piece =
    subst (λ (r : Request). WritesAt r handle offset piece) w.asks asks in
    let one : file_of (opened_at tree handle) ≡ Some w.open_to.held =
    ap (λ (g : List ℕ). file_of (opened_at tree g)) (sym at.0) ∙ ap file_of w.open_to.opened_is in
    let same : held ≡ w.open_to.held = some_is held w.open_to.held (sym open_on ∙ one) in
    let append : held.append ≡ false = ap (λ (g : Held). g.append) same ∙ w.open_to.open_so.1 in
    let file : held.file ≡ w.open_to.file = ap (λ (g : Held). g.file) same ∙ w.open_to.same in
    let from : offset_of tree held offset ≡ offset = rw append refl in
    record {
      claim = claim;
      there = there;
      is = ap (node_at tree) named ∙ (w.open_to.is ∙ ap (λ (f : ℕ). Some (node.File f)) (sym file));
      within = (let a : length w.bytes ≡ offset = at.1 in let b : length w.part ≡ length piece = ap length at.2 in
          let c = w.within in omega (arith, from, a, b, c, le));
    }

-- ---- the run

-- what each request of the run is
abbrev pub BuildsWithin : NameClaims → FileTree → Step → Type 0
BuildsWithin claims t s = IsBuilding s.request × IsClaimedWrite t claims s.request

pub run_builds : (lanes : List Lane) (s : Setting) (turns : List Turn) (past : List Entry) (config : ServerConfig)
    (choices : List Choice) (tree left : FileTree) (claims : NameClaims)
    → (p : PlainRunOf lanes s turns past config choices tree left) → AreClaimed lanes claims
    → AllSteps (BuildsWithin claims) config tree (run_of config choices tree past left p.serves).steps
run_builds lanes s turns past config choices tree left claims p c =
    steps_as (λ t x. Asker lanes past x × WritersOn t x) (BuildsWithin claims) config tree r.steps by_both
    (steps_both (λ t x. Asker lanes past x) WritersOn config tree r.steps
    (steps_known (Asker lanes past) config past (count_sent past) tree r.steps
    (who_builds lanes s turns past config choices tree left p) known)
    (calls_all (Writer lanes past) (λ w. WritesOn (components w.path) (handle_of (answer past w.first.0))
    (length w.content)) (λ w. w.later) config tree r.steps
    (writer_own lanes s turns past config choices tree left claims p c)))
  where
    r : RunOf config choices tree past left
    r = run_of config choices tree past left p.serves

    known : AreKnown past (count_sent past) (asked_in r.steps)
    known = AreAll.known (subst (AreAll past (count_sent past) []) (sym r.asks) (all_sent past))

    WritersOn : FileTree → Step → Type 0
    WritersOn t x = (w : Writer lanes past) → HasRequest w.later x.place
        → WritesOn (components w.path) (handle_of (answer past w.first.0)) (length w.content) t x

    by_both : (t : FileTree) (x : Step) → Asker lanes past x × WritersOn t x → BuildsWithin claims t x
    by_both t x (NoWrite builds none, on) = (
      builds,
      λ handle held offset piece asks open_on. absurd
          (none handle offset piece asks),
    )
    by_both t x (AWriter builds w mine, on) =
        let b = c.bound w.lane w.k w.path w.content w.is in (
          builds,
          claimed_by claims (components w.path) (handle_of (answer past w.first.0)) (length w.content) t x b.0
              b.1.0 b.1.1 b.1.2 (on w mine),
        )

-- so each finds files within their bounds
pub steps_fit : (claims : NameClaims) (config : ServerConfig) (first tree : FileTree) (steps : List Step)
    → AllSteps (BuildsWithin claims) config tree steps
    → AreFit first claims tree → AllSteps (λ t s. AreFit first claims t) config tree steps
steps_fit claims config first tree [] all fit = tt
steps_fit claims config first tree (s ∷ steps) all fit = (
  fit,
  steps_fit claims config first (answer_to config tree s).1 steps all.1
      (fit_next first claims tree s.request (answer_to config tree s).1
      (effect_of tree config s.request s.choice s.handle all.0.0) all.0.1 fit),
)

-- and so does what is left
pub fit_after : (claims : NameClaims) (config : ServerConfig) (first tree : FileTree) (steps : List Step)
    → AllSteps (BuildsWithin claims) config tree steps
    → AreFit first claims tree → AreFit first claims (after config tree steps)
fit_after claims config first tree [] all fit = fit
fit_after claims config first tree (x ∷ steps) all fit =
    fit_after claims config first (answer_to config tree x).1 steps all.1
    (fit_next first claims tree x.request (answer_to config tree x).1
    (effect_of tree config x.request x.choice x.handle all.0.0) all.0.1 fit)
