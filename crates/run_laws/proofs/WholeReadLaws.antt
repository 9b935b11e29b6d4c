-- What a whole read gives of a file that stays as it is, with any number of READs under way.
use Rattle.std.proofs.Common.{
  ◌≡◌,
  ◌≢◌,
  ℕ,
  ◌≤◌,
  ◌==◌,
  Bool,
  true,
  false,
  not,
  List,
  [],
  ◌∷◌,
  length,
  Option,
  Some,
  None,
  if◌then◌else◌,
  refl,
  ap,
  sym,
  ◌∙◌,
  subst,
  inl,
  inr,
}
use Rattle.std.specs.Prelude.{◌⊎◌, ◌&&◌, cond, is_some, map, nat_lt}
use Rattle.std.proofs.lemmas.Bool.{eq-eqb, eqb-true}
use Rattle.std.proofs.lemmas.Bool.Decides.{eqb_tells}
use Rattle.sftp_model.specs.Answers.{is_end_of_file}
use Rattle.sftp_model.specs.Numbers.{SSH_FX_OK}
use Rattle.sftp_model.specs.declared.config.Choice.{Choice}
use Rattle.sftp_model.specs.declared.config.ServerConfig.{ServerConfig}
use Rattle.sftp_model.specs.declared.error.Error.TheVariants as error
use Rattle.sftp_model.specs.declared.outcome.Outcome.{Outcome}
use Rattle.sftp_model.specs.declared.outcome.Outcome.TheVariants as outcome
use Rattle.sftp_model.specs.declared.reply.Reply.{Reply}
use Rattle.sftp_model.specs.declared.reply.Reply.TheVariants as reply
use Rattle.sftp_model.specs.declared.request.Request.{Request}
use Rattle.sftp_model.specs.declared.slot.Facts.{Facts}
use Rattle.sftp_model.specs.declared.slot.Move.{Move}
use Rattle.sftp_model.specs.declared.slot.Move.TheVariants.{Ask, Done}
use Rattle.sftp_model.specs.declared.slot.Site.{Site}
use Rattle.machine_model.specs.Changes.{IsWellFormed}
use Rattle.machine_model.specs.Components.{Name, components}
use Rattle.machine_model.specs.FileTree.{FileTree, node_at}
use Rattle.machine_model.specs.HandleRequests.{Answer, after_open, grant_answer, held_by, refusal_answer}
use Rattle.machine_model.specs.declared.node.Node.{Node}
use Rattle.plan_model.specs.declared.call.Call.TheVariants as call
use Rattle.plan_model.specs.FilePlans.{open_request}
use Rattle.plan_model.specs.Moves.{Answers, Own, ask_path, handle_of, on_handle, refusal_move}
use Rattle.plan_model.specs.OwnRequests.{AreAsked, MayBeAnswered, oldest_first}
use Rattle.plan_model.specs.PathPlans.{from_directory}
use Rattle.plan_model.specs.WindowPlans.{
  answered_prefix,
  answered_then,
  ask_more,
  await_first,
  begins,
  brings_content,
  contents,
  ends_or,
  first_refusal,
  gaps,
  go_on,
  least,
  least_end,
  outside,
  reaches,
  to_read,
  unless_refused,
  whole_content,
  window_next,
}
use Rattle.plan_model.proofs.Tiles.{Distinct}
use Rattle.session_model.specs.Served.{IsReply}
use Rattle.run_laws.specs.CallsAmong.{GivesUnless, HasEnded, HasNoFile, IsOpenTo, IsRefusedBy, AreAmongSteps, StandsOnName, ToRead, asked_by, refusal_of}
use Rattle.run_laws.specs.Steps.{Step, answer_to, AreServed, ChooseOnly, FeignsNoEnd, HasBytes}
use Rattle.run_laws.proofs.MoveWords.{is_done, outcome_of, taken_is}
use Rattle.run_laws.proofs.OpenLaws.{open_is, opens_to_read, refuses_open, step_opens}
use Rattle.run_laws.proofs.ReadLaws.{AreParts, AreReads, AreTakenSo, IsPart, IsRefusal, IsTakenPart, IsTakenSo, reads_parts}
use Rattle.run_laws.proofs.StepLaws.{refused_as, served_before, step_well_formed}
use Rattle.run_laws.proofs.WindowPieces.{LieApart, all_joined, tiled_apart}
use Rattle.run_laws.proofs.WindowReads.{ReadsAsked, StartsAtStart, reads_asked, reads_by_handle}
use Rattle.plan_model.specs.CallPlans.{next}

-- ---- how the plan ends

-- it has got all
record HasAll (reads : Own) (answers : Answers) (ended : Outcome) : Type 0 where
  end : ℕ
  ends : least_end (answered_prefix reads answers) ≡ Some end
  answered : outside reads answers ≡ []
  whole : gaps reads (answered_prefix reads answers) (outside reads answers) ≡ []
  is : ended ≡ outcome.Bytes (whole_content end (answered_prefix reads answers))

await_ends : (waiting : Own) (site left : Site) (ended : Outcome) → await_first waiting site ≡ Done ended left → ended
    ≡ outcome.GivenUp
await_ends [] site left ended e = ap outcome_of (sym e)
await_ends (asked ∷ later) site left ended e = absurd (let both : false ≡ true = ap is_done e in cc)

more_ends : (handle : List ℕ) (reads : Own) (replies : List (ℕ × Reply)) (waiting : Own) (site left : Site)
    (facts : Facts) (ended : Outcome) (gap end : Option ℕ) → ask_more handle reads replies waiting site facts gap end
    ≡ Done ended left
    → ended ≡ outcome.GivenUp
more_ends handle reads replies waiting site left facts ended (Some p) end e =
    absurd (let both : false ≡ true = ap is_done e in cc)
more_ends handle reads replies waiting site left facts ended None None e =
    absurd (let both : false ≡ true = ap is_done e in cc)
more_ends handle reads replies waiting site left facts ended None (Some end) e = await_ends waiting site left ended e

go_on_ends : (handle : List ℕ) (bound : Option ℕ) (reads : Own) (replies : List (ℕ × Reply)) (waiting : Own)
    (site left : Site) (facts : Facts) (ended : Outcome) → go_on handle bound reads replies waiting site facts
    ≡ Done ended left
    → ended ≡ outcome.GivenUp
go_on_ends handle bound reads replies waiting site left facts ended e =
    by_tests (reaches bound (length (contents replies))) (nat_lt (length waiting) facts.read_window) e
  where
    by_tests : (a b : Bool)
        → (if a then Done outcome.GivenUp site else if b then ask_more handle reads replies waiting site facts
        (least (gaps reads replies waiting)) (least_end replies) else await_first waiting site) ≡ Done ended left
        → ended ≡ outcome.GivenUp
    by_tests true b e = ap outcome_of (sym e)
    by_tests false true e = more_ends handle reads replies waiting site left facts ended
        (least (gaps reads replies waiting)) (least_end replies) e
    by_tests false false e = await_ends waiting site left ended e

window_ends : (handle : List ℕ) (bound : Option ℕ) (reads : Own) (answers : Answers) (site left : Site) (facts : Facts)
    (ended : Outcome) → first_refusal (answered_prefix reads answers) ≡ None
    → window_next handle bound reads (answered_prefix reads answers) (outside reads answers) site facts
    ≡ Done ended left → HasAll reads answers ended ⊎ (ended ≡ outcome.GivenUp)
window_ends handle bound reads answers site left facts ended good e =
    by_parts (gaps reads (answered_prefix reads answers) (outside reads answers)) (outside reads answers)
    (least_end (answered_prefix reads answers)) refl refl refl
    (sym (ap (λ (w : Option (ℕ × Reply)). unless_refused w site here) good) ∙ e)
  where
    go : Move
    go = go_on handle bound reads (answered_prefix reads answers) (outside reads answers) site facts

    here : Move
    here = ends_or (gaps reads (answered_prefix reads answers) (outside reads answers)) (answered_prefix reads answers)
        (outside reads answers) site (least_end (answered_prefix reads answers)) go

    by_parts : (missing : List ℕ) (waiting : Own) (end : Option ℕ)
        → gaps reads (answered_prefix reads answers) (outside reads answers) ≡ missing → outside reads answers ≡ waiting
        → least_end (answered_prefix reads answers) ≡ end
        → ends_or missing (answered_prefix reads answers) waiting site end go ≡ Done ended left
        → HasAll reads answers ended ⊎ (ended ≡ outcome.GivenUp)
    by_parts [] [] (Some end) whole answered ends e = inl (record
        { end = end; ends = ends; answered = answered; whole = whole; is = ap outcome_of (sym e) })
    by_parts [] [] None whole answered ends e = inr (go_on_ends handle bound reads (answered_prefix reads answers)
        (outside reads answers) site left facts ended e)
    by_parts [] (asked ∷ later) end whole answered ends e = inr
        (go_on_ends handle bound reads (answered_prefix reads answers) (outside reads answers) site left facts ended e)
    by_parts (p ∷ missing) waiting end whole answered ends e =
        inr (go_on_ends handle bound reads (answered_prefix reads answers) (outside reads answers) site left facts ended
        e)

-- ---- the OPEN and the READs

abbrev first_of : Own → ℕ × Request → ℕ × Request
first_of [] other = other
first_of (asked ∷ later) other = asked

abbrev later_of : Own → Own
later_of [] = []
later_of (asked ∷ later) = later

-- the requests of a call on a name, by their plan
record IsAskedOn (path : List ℕ) (bound : ℕ) (site : Site) (facts : Facts) (first : Step) (later : Own) (by : Answers) :
    Type 0 where
  past : Own
  asked : ReadsAsked path (Some bound) site facts past by
  first_is : asked.first ≡ asked_by first
  reads_are : asked.reads ≡ later

asked_on : (answers : Answers) (path : List ℕ) (bound : ℕ) (site : Site) (facts : Facts) (later : Own) (ended : Outcome)
    (first : Step) → 1 ≤ facts.read_len
    → (e : HasEnded (call.FsRead path bound) site facts (asked_by first ∷ later) answers ended)
    → IsAskedOn path bound site facts first later e.by
asked_on answers path bound site facts later ended first one e =
    by_past e.requests e.are e.so_far.asked e.so_far.answered
  where
    by_past : (past : Own) → oldest_first past ≡ asked_by first ∷ later
        → AreAsked (next (call.FsRead path bound) site facts) past e.by → MayBeAnswered past e.by
        → IsAskedOn path bound site facts first later e.by
    by_past [] are asked may = absurd cc
    by_past (a ∷ past) are asked may =
        (let m : ReadsAsked path (Some bound) site facts (a ∷ past) e.by =
        reads_asked path (Some bound) site facts a past e.by one asked may in
        let same : m.first ∷ m.reads ≡ asked_by first ∷ later = sym m.are ∙ are in
        record {
          past = a ∷ past;
          asked = m;
          first_is = ap (λ (w : Own). first_of w (asked_by first)) same;
          reads_are =
              ap later_of same;
        })

-- ---- READs that were refused

-- the bytes of a read that a choice refused
refused_ends : (allowed : Choice → Type 0) (r : Reply) (site left : Site) (ended : Outcome) → IsRefusal allowed r
    → refusal_move r site ≡ Done ended left → IsRefusedBy allowed ended
refused_ends allowed r site left ended by e =
    record {
      choice = by.choice;
      is = by.is;
      refuses = by.refuses;
      ended_so =
          sym (ap (λ (w : Move). outcome_of w) (sym (ap (λ (w : Reply). refusal_move w site) by.said) ∙ e));
    }

-- the first READ of the prefix that was refused is one that a choice refused
pub first_refused_so : (allowed : Choice → Type 0) (bytes : List ℕ) (reads : Own) (answers : Answers) (got : ℕ × Reply)
    → AreTakenSo allowed bytes reads answers → first_refusal (answered_prefix reads answers) ≡ Some got
    → IsRefusal allowed got.1
first_refused_so allowed bytes [] answers got parts e = absurd cc
first_refused_so allowed bytes (asked ∷ later) answers got parts e =
    by_answer (answers asked.0) parts.0 e (λ rest. first_refused_so allowed bytes later answers got parts.1 rest)
  where
    here : (r : Reply) → (b : Bool) → IsRefusal allowed r → cond b (Some (begins asked, r))
        (first_refusal (answered_prefix later answers)) ≡ Some got
        → (first_refusal (answered_prefix later answers) ≡ Some got → IsRefusal allowed got.1) → IsRefusal allowed got.1
    here r true by e rest = subst (IsRefusal allowed) (ap (λ (w : Option (ℕ × Reply)). said_in r w) e) by
      where
        said_in : Reply → Option (ℕ × Reply) → Reply
        said_in other None = other
        said_in other (Some p) = p.1
    here r false by e rest = rest e

    by_part : (r : Reply) → IsPart bytes (begins asked) r → first_refusal
        ((begins asked, r) ∷ answered_prefix later answers) ≡ Some got
        → (first_refusal (answered_prefix later answers) ≡ Some got → IsRefusal allowed got.1) → IsRefusal allowed got.1
    by_part (reply.Content content) part e rest = rest e
    by_part (reply.Status code message language) part e rest = by_code (code == 1) (eq-eqb code 1 part.0) e
      where
        by_code : (b : Bool) → b ≡ true → cond (not b) (Some (begins asked, reply.Status code message language))
            (first_refusal (answered_prefix later answers)) ≡ Some got → IsRefusal allowed got.1
        by_code true is e = rest e
        by_code false is e = absurd cc
    by_part (reply.Handle handle) part e rest = absurd part
    by_part (reply.Names names) part e rest = absurd part
    by_part (reply.Attrs attrs) part e rest = absurd part
    by_part (reply.Extended content) part e rest = absurd part
    by_part (reply.Version version extensions) part e rest = absurd part

    by_answer : (o : Option Reply) → IsTakenSo allowed bytes (begins asked) o
        → first_refusal (answered_then (begins asked) o (answered_prefix later answers)) ≡ Some got
        → (first_refusal (answered_prefix later answers) ≡ Some got → IsRefusal allowed got.1) → IsRefusal allowed got.1
    by_answer None part e rest = absurd cc
    by_answer (Some r) (inl part) e rest = by_part r part e rest
    by_answer (Some r) (inr by) e rest = here r (not (brings_content r) && not (is_end_of_file r)) by e rest

-- where none of the prefix was refused and all are in it, each brought a part
pub unrefused_parts : (allowed : Choice → Type 0) (bytes : List ℕ) (reads : Own) (answers : Answers)
    → ((c : Choice) → allowed c → FeignsNoEnd c) → AreTakenSo allowed bytes reads answers
    → first_refusal (answered_prefix reads answers) ≡ None
    → outside reads answers ≡ [] → AreParts bytes reads answers
unrefused_parts allowed bytes [] answers honest parts good all = tt
unrefused_parts allowed bytes (asked ∷ later) answers honest parts good all =
    by_answer (answers asked.0) parts.0 good all (λ rest more. unrefused_parts allowed bytes later answers honest
    parts.1 rest more)
  where
    refused_here : (r : Reply) → IsRefusal allowed r → first_refusal ((begins asked, r) ∷ answered_prefix later answers)
        ≡ None → ⊥
    refused_here r by e = absurd (clash (by.choice.refuse == 1) refl
        (sym (ap (λ (w : Reply). first_refusal ((begins asked, w) ∷ answered_prefix later answers)) by.said) ∙ e))
      where
        clash : (b : Bool) → (by.choice.refuse == 1) ≡ b → cond (not b)
            (Some (begins asked, reply.Status by.choice.refuse [] [])) (first_refusal (answered_prefix later answers))
            ≡ None → ⊥
        clash true is e = honest by.choice by.is (let same : by.choice.refuse ≡ 1 = eqb-true by.choice.refuse 1 is in
            same)
        clash false is e = cc

    of_rest : (r : Reply) → IsPart bytes (begins asked) r → first_refusal
        ((begins asked, r) ∷ answered_prefix later answers) ≡ None → first_refusal (answered_prefix later answers)
        ≡ None
    of_rest (reply.Content content) part e = e
    of_rest (reply.Status code message language) part e = by_code (code == 1) (eq-eqb code 1 part.0) e
      where
        by_code : (b : Bool) → b ≡ true → cond (not b) (Some (begins asked, reply.Status code message language))
            (first_refusal (answered_prefix later answers)) ≡ None → first_refusal (answered_prefix later answers)
            ≡ None
        by_code true is e = e
        by_code false is e = absurd cc
    of_rest (reply.Handle handle) part e = absurd part
    of_rest (reply.Names names) part e = absurd part
    of_rest (reply.Attrs attrs) part e = absurd part
    of_rest (reply.Extended content) part e = absurd part
    of_rest (reply.Version version extensions) part e = absurd part

    by_answer : (o : Option Reply) → IsTakenSo allowed bytes (begins asked) o
        → first_refusal (answered_then (begins asked) o (answered_prefix later answers)) ≡ None
        → (if is_some o then outside later answers else asked ∷ later) ≡ []
        → (first_refusal (answered_prefix later answers) ≡ None → outside later answers ≡ []
        → AreParts bytes later answers) → IsTakenPart bytes (begins asked) o × AreParts bytes later answers
    by_answer None part good all rest = absurd cc
    by_answer (Some r) (inl part) good all rest = (part, rest (of_rest r part good) all)
    by_answer (Some r) (inr by) good all rest = absurd (refused_here r by good)

-- ---- the call

-- The first request of the call is the first step, its further ones stand among the others, which spare the name. Where
-- the name has a file, the call ends with its bytes, or has reached its bound, or one of these choices refused a
-- request of it.
pub whole_reads : (allowed : Choice → Type 0) (config : ServerConfig) (answers : Answers) (name : Name)
    (path bytes : List ℕ) (bound : ℕ) (site : Site) (facts : Facts) (later : Own) (ended : Outcome) (tree : FileTree)
    (first : Step) (steps : List Step)
    → ((c : Choice) → allowed c → FeignsNoEnd c) → ChooseOnly allowed (first ∷ steps) → IsWellFormed tree
    → HasBytes tree name bytes → 1 ≤ facts.read_len → components (from_directory site path) ≡ name
    → StandsOnName config answers name later tree first steps →
    HasEnded (call.FsRead path bound) site facts (asked_by first ∷ later) answers ended
    → GivesUnless allowed ended bytes
whole_reads allowed config answers name path bytes bound site facts later ended tree first steps honest chosen
    well_formed has one denotes stands e = by_choice (eqb_tells first.choice.refuse SSH_FX_OK)
  where
    by : Answers
    by = e.by

    whole : List ℕ
    whole = from_directory site path

    on : IsAskedOn path bound site facts first later by
    on = asked_on answers path bound site facts later ended first one e

    served : AreServed config by tree (first ∷ steps)
    served = served_before config by answers tree (first ∷ steps) e.stay stands.served

    go : Reply → Move
    go r = on_handle r site (λ handle. window_next handle (Some bound) later (answered_prefix later by)
        (outside later by) site facts)

    -- the OPEN was refused
    open_refused : (first.choice.refuse == SSH_FX_OK) ≡ false → first.choice.refuse ≢ SSH_FX_OK
        → GivesUnless allowed ended bytes
    open_refused test ne =
        let is : answer_to config tree first ≡ refusal_answer tree first.choice.refuse =
        refused_as tree config first.request first.choice first.handle test in
        let t = taken_is first.place (by first.place) (reply.Status first.choice.refuse [] []) go ended e.left
        (subst (IsReply (by first.place)) (ap (λ (w : Answer). w.0) is) served.1) e.ends in
        inr (record { choice = first.choice; is = chosen.0; refuses = ne; ended_so = sym (ap outcome_of t.1) })

    read_on : (handle_is : by first.place ≡ Some (reply.Handle first.handle)) → AreTakenSo allowed bytes later by
        → window_next first.handle (Some bound) later (answered_prefix later by) (outside later by) site facts
        ≡ Done ended e.left → (refusal : Option (ℕ × Reply)) → first_refusal (answered_prefix later by) ≡ refusal
        → GivesUnless allowed ended bytes
    read_on handle_is parts ends (Some got) is =
        inr (refused_ends allowed got.1 site e.left ended (first_refused_so allowed bytes later by got parts is)
        (sym (ap (λ (w : Option (ℕ × Reply)). unless_refused w site
        (ends_or (gaps later (answered_prefix later by) (outside later by)) (answered_prefix later by)
        (outside later by) site (least_end (answered_prefix later by))
        (go_on first.handle (Some bound) later (answered_prefix later by) (outside later by) site facts))) is)
        ∙ ends))
    read_on handle_is parts ends None good =
        let m = on.asked in
        elim (window_ends first.handle (Some bound) later by site e.left facts ended good ends) [
          | inr gave_up ↦ inl (inr gave_up)
          | inl all ↦ inl (inl (all.is ∙ ap (λ (w : List ℕ). outcome.Bytes w)
              (all_joined bytes all.end later by
              (record {
                parts = unrefused_parts allowed bytes later by honest parts good all.answered;
                lie = subst (λ (l : Own). LieApart (contents (answered_prefix l by)) (map begins l)) on.reads_are
                    (tiled_apart facts.read_len _ m.reads by m.window.tiled);
                distinct = subst (λ (l : Own). Distinct (map begins l)) on.reads_are m.window.tiled.distinct;
                starts = subst StartsAtStart on.reads_are m.starts;
                answered = all.answered;
                ends = all.ends;
                whole = all.whole;
              }))))
        ]

    open_granted : first.choice.refuse ≡ SSH_FX_OK → GivesUnless allowed ended bytes
    open_granted unrefused =
        let m = on.asked in
        let asks : ask_path (open_request to_read whole) site ≡ Ask first.request = m.opens
        ∙ ap (λ (w : ℕ × Request). Ask w.1) on.first_is in
        let is : answer_to config tree first ≡ grant_answer tree first.handle (held_by to_read.0 has.file) =
        step_opens config tree first to_read whole (open_is to_read whole site first.request asks) unrefused
        ∙ (ap (λ (w : Name). after_open tree first.handle to_read.0 w (node_at tree w)) denotes
        ∙ ap (λ (w : Option Node). after_open tree first.handle to_read.0 name w) has.is)
        in
        let said : IsReply (by first.place) (reply.Handle first.handle) =
        subst (IsReply (by first.place)) (ap (λ (w : Answer). w.0) is) served.1 in
        let t = taken_is first.place (by first.place) (reply.Handle first.handle) go ended e.left said e.ends in
        let open_so : IsOpenTo ToRead (answer_to config tree first).1 name first.handle bytes =
        subst (λ (w : Answer). IsOpenTo ToRead w.1 name first.handle bytes) (sym is)
        (opens_to_read tree first.handle name bytes served.0.1 has) in
        let handle_is : handle_of (by m.first.0) ≡ first.handle =
        ap (λ (w : ℕ × Request). handle_of (by w.0)) on.first_is ∙ ap handle_of t.0 in
        let reads : AreReads first.handle later =
        subst (AreReads first.handle) on.reads_are (subst (λ (h : List ℕ). AreReads h m.reads) handle_is
        (reads_by_handle path (Some bound) site facts on.past by m)) in
        let parts : AreTakenSo allowed bytes later by =
        reads_parts allowed config by name first.handle bytes steps later (answer_to config tree first).1 chosen.1
        (step_well_formed config tree first well_formed) open_so served.2
        (subst (λ (h : List ℕ). AreAmongSteps config name h later (answer_to config tree first).1 steps)
        (ap handle_of (e.stay first.place (reply.Handle first.handle) t.0)) stands.stands) reads
        in
        read_on t.0 parts t.1 (first_refusal (answered_prefix later by)) refl

    by_choice : (((first.choice.refuse == SSH_FX_OK) ≡ true) × (first.choice.refuse ≡ SSH_FX_OK))
        ⊎ (((first.choice.refuse == SSH_FX_OK) ≡ false) × (first.choice.refuse ≢ SSH_FX_OK))
        → GivesUnless allowed ended bytes
    by_choice (inl t) = open_granted t.1
    by_choice (inr t) = open_refused t.0 t.1

-- ---- a name that has no file

-- the call ends with the refusal
pub whole_refused : (allowed : Choice → Type 0) (config : ServerConfig) (answers : Answers) (name : Name)
    (path : List ℕ) (bound : ℕ) (site : Site) (facts : Facts) (later : Own) (ended : Outcome) (tree : FileTree)
    (first : Step) (steps : List Step)
    → ChooseOnly allowed (first ∷ steps) → HasNoFile (node_at tree name) → 1 ≤ facts.read_len
    → components (from_directory site path) ≡ name → AreServed config answers tree (first ∷ steps)
    → HasEnded (call.FsRead path bound) site facts (asked_by first ∷ later) answers ended
    → (ended ≡ outcome.Refused (error.SftpError (refusal_of (node_at tree name)) [] [])) ⊎ IsRefusedBy allowed ended
whole_refused allowed config answers name path bound site facts later ended tree first steps chosen none one denotes
    served_all e =
    let by : Answers = e.by in
    let whole : List ℕ = from_directory site path in
    let on : IsAskedOn path bound site facts first later by = asked_on answers path bound site facts later ended first
    one e in
    let asks : ask_path (open_request to_read whole) site ≡ Ask first.request = on.asked.opens
    ∙ ap (λ (w : ℕ × Request). Ask w.1) on.first_is in
    let served : AreServed config by tree (first ∷ steps) = served_before config by answers tree (first ∷ steps) e.stay
    served_all in
    let go : Reply → Move = λ r. on_handle r site (λ handle. window_next handle (Some bound) later
    (answered_prefix later by) (outside later by) site facts) in
    elim (eqb_tells first.choice.refuse SSH_FX_OK) [
      | inl t ↦
          (let is : answer_to config tree first ≡ after_open tree first.handle to_read.0 name (node_at tree name) =
          step_opens config tree first to_read whole (open_is to_read whole site first.request asks) t.1
          ∙ ap (λ (w : Name). after_open tree first.handle to_read.0 w (node_at tree w)) denotes
          in
          let x : Reply = reply.Status (refusal_of (node_at tree name)) [] [] in
          let said : IsReply (by first.place) x = subst (IsReply (by first.place))
          (ap (λ (w : Answer). w.0) is ∙ refuses_open tree first.handle name (node_at tree name) none) served.1 in
          let u = taken_is first.place (by first.place) x go ended e.left said e.ends in
          inl (ap outcome_of (sym u.1)))
      | inr t ↦
          (let is : answer_to config tree first ≡ refusal_answer tree first.choice.refuse =
          refused_as tree config first.request first.choice first.handle t.0 in
          let u = taken_is first.place (by first.place) (reply.Status first.choice.refuse [] []) go ended e.left
          (subst (IsReply (by first.place)) (ap (λ (w : Answer). w.0) is) served.1) e.ends in
          inr (record { choice = first.choice; is = chosen.0; refuses = t.1; ended_so = sym (ap outcome_of u.1) }))
    ]
