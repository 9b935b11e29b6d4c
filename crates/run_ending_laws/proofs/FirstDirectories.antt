-- A lane that makes directories and goes alone at first: its MKDIRs are the first requests of the run, and so each name
-- finds the directories that it stands in.
use Rattle.std.proofs.Common.{
  ◌≡◌,
  ◌≢◌,
  ◌<◌,
  ◌≤◌,
  ◌+◌,
  ◌-◌,
  ℕ,
  zero,
  suc,
  Bool,
  true,
  false,
  List,
  [],
  ◌∷◌,
  ◌++◌,
  length,
  Option,
  Some,
  None,
  is_none,
  if◌then◌else◌,
  refl,
  ap,
  sym,
  ◌∙◌,
  subst,
  arith,
  inl,
  inr,
}
use Rattle.std.specs.Prelude.{◌⊎◌, map, slice_get}
use Rattle.std.specs.List.{list_all}
use Rattle.std.proofs.lemmas.Bool.{eq-eqb}
use Rattle.std.proofs.lemmas.List.{append-nil, append_assoc, take_all}
use Rattle.sftp_model.specs.Answers.{is_handle}
use Rattle.sftp_model.specs.declared.config.Choice.{Choice}
use Rattle.sftp_model.specs.declared.config.ServerConfig.{ServerConfig}
use Rattle.sftp_model.specs.declared.reply.Reply.{Reply}
use Rattle.sftp_model.specs.declared.reply.Reply.TheVariants as reply
use Rattle.sftp_model.specs.declared.request.Request.{Request}
use Rattle.sftp_model.specs.declared.request.Request.TheVariants as request
use Rattle.machine_model.specs.Components.{Name, components, is_long_name}
use Rattle.machine_model.specs.FileTree.{FileTree, is_directory, node_at}
use Rattle.machine_model.specs.declared.node.Node.{Node}
use Rattle.machine_model.specs.declared.node.Node.TheVariants as node
use Rattle.sftp_model.specs.Frames.{is_too_long}
use Rattle.plan_model.specs.Moves.{Own}
use Rattle.plan_model.specs.declared.call.Call.{Call}
use Rattle.plan_model.specs.declared.call.Call.TheVariants as call
use Rattle.plan_model.specs.declared.call.Lane.{Lane}
use Rattle.session_model.specs.declared.entry.Entry.{Entry}
use Rattle.session_model.specs.declared.entry.Entry.TheVariants as entry
use Rattle.session_model.specs.declared.event.Event.TheVariants.{Submit, Send, Take}
use Rattle.session_model.specs.declared.turn.Turn.{Turn}
use Rattle.session_model.specs.declared.turn.Turn.TheVariants as turn
use Rattle.session_model.specs.Calls.{Setting, lane_calls}
use Rattle.session_model.specs.Grants.{is_asked_by, is_close}
use Rattle.session_model.specs.Journals.{MayReply, MayTake}
use Rattle.session_model.specs.Readings.{AskedRequest, answer, count_submitted, asked_at, is_by, count_sent, count_unanswered}
use Rattle.session_model.specs.Runs.{IsRun, OpensSession, TurnsTo, at_first, limits_query_sent}
use Rattle.session_model.specs.Served.{served_request, requests_of, requests_sent}
use Rattle.session_model.specs.Turns.{RunProgress}
use Rattle.session_model.proofs.CountLaws.{count_none}
use Rattle.session_model.proofs.OverLaws.{runs_are_journals, runs_are_over}
use Rattle.session_model.proofs.RequestLaws.{sent_asked}
use Rattle.run_laws.specs.CallsAmong.{asked_by}
use Rattle.run_laws.specs.ReadsBack.{call_in}
use Rattle.run_laws.specs.Steps.{ChooseOnly, RefuseNone, RefusesNone, RunOf, Step, after, asked_in}
use Rattle.run_laws.proofs.Back.{Awaits, GoesBack, drains_repeat, ends_back, lets_go_back, repeats_back, turns_back}
use Rattle.run_laws.proofs.CutLaws.{chosen_parts, known_parts}
use Rattle.run_laws.proofs.LaneLaws.{ACall, TheSession, WhoAsked, who_asked}
use Rattle.run_laws.proofs.SentLaws.{AreAll, AreKnown, IsAt, all_sent}
use Rattle.run_laws.proofs.ServedSteps.{none_refused, run_chosen, run_of}
use Rattle.run_laws.proofs.StepLaws.{after_two}
use Rattle.run_laws.proofs.UsedLaws.{some_is}
use Rattle.run_laws.proofs.WholeRunSent.{answered_sent}
use Rattle.run_ending_laws.proofs.Alone.{IsQuiet, told}
use Rattle.run_ending_laws.proofs.AloneTurns.{Goes, Is, mkdirs_of}
use Rattle.run_ending_laws.proofs.FourTurns.{IsAt as IsAtCall, all_made, call_goes}
use Rattle.run_ending_laws.proofs.Building.{MakesName}
use Rattle.run_ending_laws.proofs.CallAsks.{IsMadeBy, IsOfCall, made_by}
use Rattle.run_ending_laws.proofs.Directories.{AreThere, Builds, MakesNot, all_made_by, requests_in, steps_keep, steps_no_directory}
use Rattle.run_ending_laws.proofs.EndsWell.{OpensAt}
use Rattle.run_ending_laws.proofs.GrowingRuns.{AllSteps, steps_as, steps_both, steps_front, steps_known, steps_rest}
use Rattle.run_ending_laws.proofs.LastCalls.{PlainRunOf}
use Rattle.run_ending_laws.proofs.WriteEnds.{MayOpen}
use Rattle.run_ending_laws.specs.PlainCalls.{is_plain_call}
use Rattle.run_ending_laws.specs.FirstMkdirs.{call_turns, unless_too_long, mkdir_of, mkdirs, times_then}
use Rattle.run_ending_laws.specs.StandsBelow.{MakeOthers, NoDirectory, NoneLong, StandsBelow, first_parts}

-- ---- turns of a lane that goes alone

turns_parts : (s : Setting) (xs ys : List Turn) (before now : RunProgress) → TurnsTo s (xs ++ ys) before now
    → (mid : RunProgress)
    × (TurnsTo s xs before mid × TurnsTo s ys mid now)
turns_parts s [] ys before now to = (before, (refl, to))
turns_parts s (x ∷ xs) ys before now to = (let m = turns_parts s xs ys to.0 now to.1.1 in
    (m.0, ((to.0, (to.1.0, m.1.0)), m.1.1)))

-- the journal after them
calls_go : (s : Setting) (lane : ℕ) (calls : List Call) (n m : ℕ) (later : List Turn) (before now : RunProgress)
    → Goes s lane calls → Is lane (IsAtCall calls m) before.past
    → TurnsTo s (times_then n (call_turns lane) later) before now → (mid : RunProgress)
    × (Is lane (IsAtCall calls (m + n)) mid.past × TurnsTo s later mid now)
calls_go s lane calls zero m later before now go is to = (
  before,
  (
    (
      is.0,
      subst (λ (k : ℕ). IsAtCall calls k (told lane before.past))
          (let same : m ≡ m + 0 = omega arith in same) is.1,
    ),
    to,
  ),
)
calls_go s lane calls (suc n) m later before now go is to =
    let parts = turns_parts s (call_turns lane) (times_then n (call_turns lane) later) before now to in
    let one = call_goes s lane calls m before parts.0 go is parts.1.0 in
    let more = calls_go s lane calls n (m + 1) later parts.0 now go one parts.1.1 in (
      more.0,
      (
        (
          more.1.0.0,
          subst (λ (k : ℕ). IsAtCall calls k (told lane more.0.past))
              (let same : m + 1 + n ≡ m + suc n = omega arith in same) more.1.0.1,
        ),
        more.1.1,
      ),
    )

-- ---- the opening

quiet_query : IsQuiet request.LimitsQuery
quiet_query (reply.Handle handle) e = absurd cc
quiet_query (reply.Version version extensions) e = refl
quiet_query (reply.Status code message language) e = refl
quiet_query (reply.Content content) e = refl
quiet_query (reply.Names names) e = refl
quiet_query (reply.Attrs attrs) e = refl
quiet_query (reply.Extended content) e = refl

taken_quiet : (id p : ℕ) (r : Reply) → p < 1 → MayReply (asked_at (limits_query_sent id) p) r → is_handle r ≡ false
taken_quiet id zero r lt may = quiet_query r may.0
taken_quiet id (suc p) r lt may = absurd (omega (arith, lt))

rests_first : (lane : ℕ) (calls : List Call) → Is lane (IsAtCall calls 0) []
rests_first lane calls = (
  tt,
  (
    inl (record {
      none = refl;
      later = λ d lt. refl;
      came = λ q lt none. omega (arith, lt);
      made = refl;
    }),
    inl (omega arith),
  ),
)

opened_rests : (lane : ℕ) (calls : List Call) (b : Bool) (past : List Entry) → OpensSession b past
    → Is lane (IsAtCall calls 0) past
opened_rests lane calls false past e = subst (Is lane (IsAtCall calls 0)) (sym e) (rests_first lane calls)
opened_rests lane calls true past to =
    let id : ℕ = to.0 in
    let r : Reply = to.1.0 in
    let may : MayTake (limits_query_sent id) id r = to.1.1.1 in
    subst (Is lane (IsAtCall calls 0)) (sym to.1.1.2) (
      (taken_quiet id may.0 r may.1.0.1 may.1.1, (quiet_query, tt)),
      (
        inl (record { none = refl; later = λ d lt. refl; came = λ q lt none. came id r q lt none; made = refl }),
        inl (omega arith),
      ),
    )
  where
    came : (id : ℕ) (r : Reply) (q : ℕ) → q < 1 → answer (entry.Event (Take id r) ∷ limits_query_sent id) q ≡ None → ⊥
    came id r zero lt none =
        (let there : answer (entry.Event (Take id r) ∷ limits_query_sent id) 0 ≡ Some r = rw (eq-eqb id id refl) refl in
        let both : None ≡ Some r = sym none ∙ there in cc)
    came id r (suc q) lt none = omega (arith, lt)

-- ---- the requests of the run

-- what a journal begins with
abbrev Begins : List Entry → List Entry → Type 0
Begins past front = (more : List Entry) × (past ≡ more ++ front)

begins_back : (past : List Entry) → GoesBack (Begins past)
begins_back past e front (more, is) = (more ++ e ∷ [], is ∙ sym (append_assoc more (e ∷ []) front))

-- requests of a journal's first entries come first
requests_grow : (more front : List Entry) → (later : Own) × (requests_of (more ++ front) ≡ requests_of front ++ later)
requests_grow [] front = ([], sym (append-nil (requests_of front)))
requests_grow (entry.Event (Submit by id r) ∷ more) front =
    let old = requests_grow more front in (
      old.0 ++ served_request by (count_submitted (more ++ front)) r,
      ap (λ (w : Own). w ++ served_request by (count_submitted (more ++ front)) r) old.1
          ∙ append_assoc (requests_of front) old.0 (served_request by (count_submitted (more ++ front)) r),
    )
requests_grow (_ ∷ more) front = requests_grow more front

-- where all were sent
sent_are : (past : List Entry) → count_submitted past ≤ count_sent past → requests_sent past ≡ requests_of past
sent_are [] le = refl
sent_are (entry.Event Send ∷ past) le = refl
sent_are (entry.Event (Submit by id r) ∷ past) le = absurd (let most : count_sent past ≤ count_submitted past =
    sent_asked past in omega (arith, le, most))
sent_are (_ ∷ past) le = sent_are past le

is_answered : (o : Option Reply) → is_none o ≡ false → (q : Reply) × (o ≡ Some q)
is_answered None e = absurd cc
is_answered (Some q) e = (q, refl)

all_were_sent : (s : Setting) (turns : List Turn) (past : List Entry) → IsRun s turns past
    → count_submitted past ≤ count_sent past
all_were_sent s turns past run = by_count (count_submitted past) refl
  where
    by_count : (n : ℕ) → count_submitted past ≡ n → n ≤ count_sent past
    by_count zero e = omega arith
    by_count (suc n) e =
        (let none : count_unanswered past ≡ 0 = (runs_are_over s turns past run).2 in
        let there : is_none (answer past n) ≡ false = count_none (λ place. is_none (answer past place))
        (count_submitted past) none n (omega (arith, e)) in
        let got = is_answered (answer past n) there in
        let lt : n < count_sent past = answered_sent s past n got.0 (runs_are_journals s turns past run) got.1 in
        omega (arith, lt))

-- the lane's MKDIRs are the first requests that were sent
pub record AreFirst (past : List Entry) (calls : List Call) : Type 0 where
  pub first : Own
  pub later : Own
  pub is : requests_sent past ≡ first ++ later
  pub made : map (λ (r : ℕ × Request). r.1) first ≡ mkdirs_of calls

pub directories_come_first : (s : Setting) (lane : ℕ) (calls : List Call) (later : List Turn) (past : List Entry)
    → Goes s lane calls
    → IsRun s (times_then (length calls) (call_turns lane) later) past → AreFirst past calls
directories_come_first s lane calls later past go (at, (by, is)) =
    let m = calls_go s lane calls (length calls) 0 later (at_first at.opened) at.turned go
    (opened_rests lane calls s.limits at.opened by.opens) by.turns in
    let from_end : Begins past at.drained.past = ([], sym is) in
    let b : Begins past m.0.past =
    turns_back (Begins past) (begins_back past) s later m.0 at.turned m.1.1
    (ends_back (Begins past) (begins_back past) s (length s.lanes) at.turned at.ended by.ends
    (lets_go_back (Begins past) (begins_back past) s (length s.lanes) at.ended at.let_go by.lets_go
    (repeats_back (Begins past) (begins_back past) Awaits s (turn.Flush ∷ turn.Take ∷ []) by.drains.0 at.let_go
    at.drained
    (drains_repeat s by.drains.0 at.let_go at.drained by.drains.1) from_end))) in
    let g = requests_grow b.0 m.0.past in
    record {
      first = requests_of m.0.past;
      later = g.0;
      is = sent_are past (all_were_sent s (times_then (length calls) (call_turns lane) later) past (at, (by, is)))
          ∙ (ap requests_of b.1 ∙ g.1);
      made = all_made calls (told lane m.0.past)
          (subst (λ (k : ℕ). IsAtCall calls k (told lane m.0.past))
          (let same : 0 + length calls ≡ length calls = omega arith in same) m.1.0.1);
    }

-- ---- the steps

-- steps of the first requests
record Parts (xs ys : Own) (steps : List Step) : Type 0 where
  front : List Step
  back : List Step
  is : steps ≡ front ++ back
  asks : asked_in front ≡ xs

parts_more : (x : ℕ × Request) (xs ys : Own) (s : Step) (steps : List Step) → asked_by s ≡ x → Parts xs ys steps
    → Parts (x ∷ xs) ys (s ∷ steps)
parts_more x xs ys s steps first p = record {
  front = s ∷ p.front;
  back = p.back;
  is = ap (λ (l : List Step). s ∷ l) p.is;
  asks = (λ i. first i ∷ p.asks i);
}

parts_of : (xs ys : Own) (steps : List Step) → asked_in steps ≡ xs ++ ys → Parts xs ys steps
parts_of [] ys steps e = record { front = []; back = steps; is = refl; asks = refl }
parts_of (x ∷ xs) ys [] e = absurd cc
parts_of (x ∷ xs) ys (s ∷ steps) e =
    parts_more x xs ys s steps (let same : asked_by s ≡ x = cc in same)
    (parts_of xs ys steps (let same : asked_in steps ≡ xs ++ ys = cc in same))

requests_are : (steps : List Step) → map (λ (r : ℕ × Request). r.1) (asked_in steps) ≡ requests_in steps
requests_are [] = refl
requests_are (s ∷ steps) = ap (λ (w : List Request). s.request ∷ w) (requests_are steps)

-- each makes a directory
abbrev AreMkdirs : List Request → Type 0
AreMkdirs [] = Unit {0}
AreMkdirs (r ∷ requests) = ((path : List ℕ) × (r ≡ mkdir_of path)) × AreMkdirs requests

are_mkdirs : (calls : List Call) → AreMkdirs (mkdirs_of calls)
are_mkdirs [] = tt
are_mkdirs (call.Mkdir path ∷ calls) = by_length (is_too_long (mkdir_of path)) (are_mkdirs calls)
  where
    by_length : (b : Bool) → AreMkdirs (mkdirs_of calls) → AreMkdirs
        ((if b then [] else mkdir_of path ∷ []) ++ mkdirs_of calls)
    by_length true more = more
    by_length false more = ((path, refl), more)
are_mkdirs (_ ∷ calls) = are_mkdirs calls

-- what the steps of MKDIRs stand before
behind_front : (front back before rest : List Step) (s : Step) → front ++ back ≡ before ++ s ∷ rest
    → ((path : List ℕ) → s.request ≢ mkdir_of path)
    → AreMkdirs (requests_in front) → (more : List Step) × (before ≡ front ++ more)
behind_front [] back before rest s e other makes = (before, refl)
behind_front (x ∷ front) back [] rest s e other makes =
    absurd (let same : x ≡ s = cc in other makes.0.0 (ap (λ (t : Step). t.request) (sym same) ∙ makes.0.1))
behind_front (x ∷ front) back (y ∷ before) rest s e other makes =
    let same : x ≡ y = cc in
    let more : front ++ back ≡ before ++ s ∷ rest = cc in
    let b = behind_front front back before rest s more other makes.1 in
    (b.0, ap (λ (t : Step). t ∷ before) (sym same) ∙ ap (λ (l : List Step). x ∷ l) b.1)

-- ---- a name whose directories are made

may_open : (tree : FileTree) (name : Name) → 0 < length name → NoneLong name → NoDirectory (node_at tree name)
    → ((i : ℕ) → i < length name → node_at tree (first_parts name i) ≡ Some node.Directory) → MayOpen tree name
may_open tree name some short free there = by_node (node_at tree name) refl free
  where
    by_node : (o : Option Node) → node_at tree name ≡ o → NoDirectory o → MayOpen tree name
    by_node (Some (node.File file)) is none = inl (file, is)
    by_node (Some node.Directory) is none = absurd none
    by_node None is none =
        inr (
          is,
          ap is_directory (there (length name - 1) (omega (arith, some))),
          (let whole : first_parts name (suc (length name - 1)) ≡ name =
              ap (first_parts name) (let same : suc (length name - 1) ≡ length name = omega (arith, some) in same)
              ∙ take_all (length name) name (omega arith) in
              ap is_long_name (sym whole) ∙ short (length name - 1) (omega (arith, some))),
        )

pub mkdirs_as : (paths : List (List ℕ)) → mkdirs_of (map call.Mkdir paths) ≡ mkdirs paths
mkdirs_as [] = refl
mkdirs_as (path ∷ paths) = ap (λ (w : List Request). unless_too_long (mkdir_of path) ++ w) (mkdirs_as paths)

-- whose call asked for a request
record AskedBy (lanes : List Lane) (past : List Entry) (lane k : ℕ) (r : Request) : Type 0 where
  c : Call
  is : call_in lanes lane k ≡ Some c
  asks : IsOfCall c r

asked_of : (lanes : List Lane) (s : Setting) (turns : List Turn) (past : List Entry) (config : ServerConfig)
    (choices : List Choice) (tree left : FileTree)
    (lane k place : ℕ) (a : AskedRequest) → PlainRunOf lanes s turns past config choices tree left → asked_at past place
    ≡ Some a → is_asked_by (asked_at past place) lane k ≡ true
    → AskedBy lanes past lane k a.request
asked_of lanes s turns past config choices tree left lane k place a p at mine =
    let by : is_by a.by lane k ≡ true = sym (ap (λ (o : Option AskedRequest). is_asked_by o lane k) at) ∙ mine in
    let all : list_all is_plain_call (lane_calls s past lane) ≡ true =
    subst (λ (calls : List Call). list_all is_plain_call calls ≡ true) (sym (p.are lane)) (p.plain lane) in
    let m : IsMadeBy s past lane k a.request = made_by s past lane k place a (runs_are_journals s turns past p.run) all
    at by in
    record { c = m.c; is = ap (λ (calls : List Call). slice_get calls k) (sym (p.are lane)) ∙ m.is; asks = m.asks }

-- a request that makes a directory is one of a call that makes it
makes_so : (c : Call) (r : Request) (name : Name) → IsOfCall c r → MakesName r name → (path : List ℕ)
    × ((c ≡ call.Mkdir path) × (components path ≡ name))
makes_so (call.Mkdir path) (request.Mkdir q attrs) name of makes = (path, (refl, ap components (sym of) ∙ makes))
makes_so (call.Mkdir path) other name of makes = absurd of
makes_so (call.FsWrite path content) (request.OpenFile q flags attrs) name of makes = absurd makes
makes_so (call.FsWrite path content) (request.Write h offset piece) name of makes = absurd makes
makes_so (call.FsWrite path content) other name of makes = absurd of
makes_so (call.FsRead path bound) (request.OpenFile q flags attrs) name of makes = absurd makes
makes_so (call.FsRead path bound) (request.Read h offset len) name of makes = absurd makes
makes_so (call.FsRead path bound) other name of makes = absurd of
makes_so other r name of makes = absurd of

session_makes : (r : Request) (name : Name) → (is_close r ≡ true) ⊎ (r ≡ request.LimitsQuery) → MakesName r name → ⊥
session_makes r name (inr query) makes = subst (λ (q : Request). MakesName q name) query makes
session_makes (request.Close h) name (inl closes) makes = makes
session_makes other name (inl closes) makes = absurd cc

made_elsewhere : (lanes : List Lane) (s : Setting) (turns : List Turn) (past : List Entry) (config : ServerConfig)
    (choices : List Choice) (tree left : FileTree) (name : Name)
    → PlainRunOf lanes s turns past config choices tree left → MakeOthers lanes name → (x : Step)
    → IsAt past (asked_by x) → MakesName x.request name → ⊥
made_elsewhere lanes s turns past config choices tree left name p others x (a, (at, is)) makes =
    by_who (who_asked s past x.place a (runs_are_journals s turns past p.run) at)
    (subst (λ (r : Request). MakesName r name) (sym is) makes)
  where
    by_who : WhoAsked past x.place a → MakesName a.request name → ⊥
    by_who (TheSession asks) makes = session_makes a.request name asks makes
    by_who (ACall lane k mine) makes =
        let m = asked_of lanes s turns past config choices tree left lane k x.place a p at mine in
        let d = makes_so m.c a.request name m.asks makes in
        others lane k d.0 (m.is ∙ ap (λ (c : Call). Some c) d.1.0) d.1.1

write_makes_none : (path content : List ℕ) (r : Request) → IsOfCall (call.FsWrite path content) r → (q : List ℕ)
    → r ≢ mkdir_of q
write_makes_none path content (request.OpenFile p flags attrs) of q = λ e. cc
write_makes_none path content (request.Write h offset piece) of q = λ e. cc
write_makes_none path content other of q = absurd of

-- Where the MKDIRs of these paths are the first requests of the run, a call that writes such a name as a whole may open
-- it.
pub opens_behind : (lanes : List Lane) (s : Setting) (turns : List Turn) (past : List Entry) (config : ServerConfig)
    (choices : List Choice) (tree left : FileTree)
    (paths : List (List ℕ)) (lane k : ℕ) (path content : List ℕ)
    → (p : PlainRunOf lanes s turns past config choices tree left) → RefuseNone choices
    → AreFirst past (map call.Mkdir paths) → AllSteps Builds config tree
    (run_of config choices tree past left p.serves).steps
    → call_in lanes lane k ≡ Some (call.FsWrite path content) → StandsBelow tree paths (components path)
    → MakeOthers lanes (components path)
    → OpensAt past config tree (run_of config choices tree past left p.serves).steps lane k (components path)
opens_behind lanes s turns past config choices tree left paths lane k path content p none first builds is below others
    before step rest cut mine =
    by_parts (parts_of first.first first.later r.steps (r.asks ∙ first.is))
  where
    name : Name
    name = components path

    r : RunOf config choices tree past left
    r = run_of config choices tree past left p.serves

    known : AreKnown past (count_sent past) (asked_in r.steps)
    known = AreAll.known (subst (AreAll past (count_sent past) []) (sym r.asks) (all_sent past))

    known_step : IsAt past (asked_by step)
    known_step = (known_parts past (count_sent past) before (step ∷ rest)
        (subst (λ (l : List Step). AreKnown past (count_sent past) (asked_in l)) cut known)).1.0.1

    no_mkdir : (q : List ℕ) → step.request ≢ mkdir_of q
    no_mkdir q e =
        let a = known_step.0 in
        let m = asked_of lanes s turns past config choices tree left lane k step.place a p known_step.1.0 mine in
        let same : m.c ≡ call.FsWrite path content = some_is m.c (call.FsWrite path content) (sym m.is ∙ is) in
        write_makes_none path content a.request (subst (λ (c : Call). IsOfCall c a.request) same m.asks) q
        (known_step.1.1 ∙ e)

    all_not : AllSteps (MakesNot name) config tree r.steps
    all_not = steps_as (λ t x. Builds t x × (MakesName x.request name → ⊥)) (MakesNot name) config tree r.steps
        (λ t x both. both)
        (steps_both Builds (λ t x. MakesName x.request name → ⊥) config tree r.steps builds
        (steps_known (λ x. MakesName x.request name → ⊥) config past (count_sent past) tree r.steps
        (made_elsewhere lanes s turns past config choices tree left name p others) known))

    by_parts : Parts first.first first.later r.steps → MayOpen (after config tree before) name
    by_parts parts =
        let made : requests_in parts.front ≡ mkdirs_of (map call.Mkdir paths) =
        sym (requests_are parts.front) ∙ (ap (map (λ (q : ℕ × Request). q.1)) parts.asks ∙ first.made) in
        let b = behind_front parts.front parts.back before rest step (sym parts.is ∙ cut) no_mkdir
        (subst AreMkdirs (sym made) (are_mkdirs (map call.Mkdir paths))) in
        let chosen : ChooseOnly RefusesNone parts.front =
        (chosen_parts RefusesNone parts.front parts.back (subst (ChooseOnly RefusesNone) parts.is
        (run_chosen RefusesNone config choices tree past left p.serves (none_refused choices none)))).0 in
        let there : (i : ℕ) → i < length name → node_at (after config tree parts.front) (first_parts name i)
        ≡ Some node.Directory =
        all_made_by config name paths parts.front tree 0 (made ∙ mkdirs_as paths) chosen below.deeper below.short
        below.needs root_there below.files in
        let whole : after config tree before ≡ after config (after config tree parts.front) b.0 =
        ap (after config tree) b.1 ∙ after_two config tree parts.front b.0 in
        let builds_before : AllSteps Builds config tree (parts.front ++ b.0) =
        subst (AllSteps Builds config tree) b.1 (steps_front Builds config tree before (step ∷ rest)
        (subst (AllSteps Builds config tree) cut builds)) in
        let later : AllSteps Builds config (after config tree parts.front) b.0 =
        steps_rest Builds config tree parts.front b.0 builds_before in
        may_open (after config tree before) name below.some below.short
        (steps_no_directory config tree before name (steps_front (MakesNot name) config tree before (step ∷ rest)
        (subst (AllSteps (MakesNot name) config tree) cut all_not)) below.free)
        (λ i lt. ap (λ (t : FileTree). node_at t (first_parts name i)) whole
        ∙ steps_keep config (after config tree parts.front) b.0 (first_parts name i) node.Directory later (there i lt))
      where
        root_there : AreThere tree name 0
        root_there i le lt = (let zero_is : 0 ≡ i = omega (arith, le) in
            subst (λ (n : ℕ). node_at tree (first_parts name n) ≡ Some node.Directory) zero_is (root name))
          where
            root : (name : Name) → node_at tree (first_parts name 0) ≡ Some node.Directory
            root [] = refl
            root (part ∷ parts) = refl
