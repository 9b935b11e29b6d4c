-- A whole read of fewer bytes than its bound ends with the bytes of its file, where no request is refused by choice.
use Rattle.std.proofs.Common.{
  ◌≡◌,
  ◌≢◌,
  ◌<◌,
  ◌≤◌,
  ◌+◌,
  ◌==◌,
  ℕ,
  zero,
  suc,
  Bool,
  true,
  false,
  List,
  [],
  ◌∷◌,
  ◌++◌,
  length,
  Option,
  Some,
  None,
  if◌then◌else◌,
  refl,
  ap,
  sym,
  ◌∙◌,
  subst,
  arith,
  inl,
  inr,
}
use Rattle.std.specs.Prelude.{◌⊎◌, map}
use Rattle.std.proofs.lemmas.Bool.{cases_lt}
use Rattle.std.proofs.lemmas.Bool.Decides.{eqb_tells}
use Rattle.std.proofs.lemmas.List.{drop_all, length-append, length-map}
use Rattle.sftp_model.specs.declared.config.ServerConfig.{ServerConfig}
use Rattle.sftp_model.specs.declared.outcome.Outcome.{Outcome}
use Rattle.sftp_model.specs.declared.outcome.Outcome.TheVariants as outcome
use Rattle.sftp_model.specs.declared.reply.Reply.{Reply}
use Rattle.sftp_model.specs.declared.reply.Reply.TheVariants as reply
use Rattle.sftp_model.specs.declared.request.Request.{Request}
use Rattle.sftp_model.specs.declared.slot.Facts.{Facts}
use Rattle.sftp_model.specs.declared.slot.Move.{Move}
use Rattle.sftp_model.specs.declared.slot.Move.TheVariants.{Ask, Done}
use Rattle.sftp_model.specs.declared.slot.Site.{Site}
use Rattle.machine_model.specs.Changes.{IsWellFormed}
use Rattle.machine_model.specs.Components.{Name, components}
use Rattle.machine_model.specs.FileTree.{FileTree, node_at}
use Rattle.machine_model.specs.HandleRequests.{Answer, after_open, grant_answer, held_by}
use Rattle.machine_model.specs.declared.node.Node.{Node}
use Rattle.plan_model.proofs.Among.{Among}
use Rattle.plan_model.proofs.Tiles.{Distinct}
use Rattle.plan_model.specs.CallPlans.{next}
use Rattle.plan_model.specs.FilePlans.{open_request}
use Rattle.plan_model.specs.Moves.{Answers, Own, ask_path, handle_of, on_handle, once_answered}
use Rattle.plan_model.specs.OwnRequests.{AreAsked, MayBeAnswered, oldest_first}
use Rattle.plan_model.specs.PathPlans.{from_directory}
use Rattle.plan_model.specs.WindowPlans.{answered_prefix, answered_then, begins, contents, outside, to_read, window_next}
use Rattle.plan_model.specs.declared.call.Call.TheVariants as call
use Rattle.session_model.specs.Served.{IsReply}
use Rattle.run_laws.specs.CallsAmong.{GivesUnless, HasEnded, IsOpenTo, AreAmongSteps, StandsOnName, ToRead, asked_by}
use Rattle.run_laws.specs.Steps.{AreServed, ChooseOnly, HasBytes, RefusesNone, Step, answer_to}
use Rattle.run_laws.proofs.BackLaws.{unrefused_feigns}
use Rattle.run_laws.proofs.MoveWords.{is_done}
use Rattle.run_laws.proofs.OpenLaws.{open_is, opens_to_read, step_opens}
use Rattle.run_laws.proofs.PieceLaws.{IsPiece}
use Rattle.run_laws.proofs.ReadLaws.{AreReads, AreTakenSo, IsPartOrRefused, IsTakenSo, reads_parts}
use Rattle.run_laws.proofs.StepLaws.{served_before, step_well_formed}
use Rattle.run_laws.proofs.WholeReadLaws.{whole_reads}
use Rattle.run_laws.proofs.WindowReads.{ReadsAsked, reads_asked, reads_by_handle}
use Rattle.run_ending_laws.proofs.CallKinds.{ends_so, gave_up}

-- ---- so many different numbers below a number

removed : ℕ → List ℕ → List ℕ
removed n [] = []
removed n (x ∷ xs) = if x == n then xs else x ∷ removed n xs

removed_len : (n : ℕ) (xs : List ℕ) → length xs ≤ length (removed n xs) + 1
unfolding removed
removed_len n [] = omega arith
removed_len n (x ∷ xs) = by_test (x == n) (removed_len n xs)
  where
    by_test : (b : Bool) → length xs ≤ length (removed n xs) + 1
        → length (x ∷ xs) ≤ length (if b then xs else x ∷ removed n xs) + 1
    by_test true less = omega arith
    by_test false less = omega (arith, less)

from_removed : (n y : ℕ) (xs : List ℕ) → Among y (removed n xs) → Among y xs
unfolding removed
from_removed n y [] h = h
from_removed n y (x ∷ xs) h = by_test (x == n) h (λ k. from_removed n y xs k)
  where
    by_test : (b : Bool) → Among y (if b then xs else x ∷ removed n xs) → (Among y (removed n xs) → Among y xs)
        → Among y (x ∷ xs)
    by_test true h more = inr h
    by_test false (inl e) more = inl e
    by_test false (inr k) more = inr (more k)

removed_apart : (n y : ℕ) (xs : List ℕ) → Distinct xs → Among y (removed n xs) → y ≢ n
unfolding removed
removed_apart n y [] d h = absurd h
removed_apart n y (x ∷ xs) d h = by_test (eqb_tells x n) (λ k. removed_apart n y xs d.1 k)
  where
    head_apart : x ≢ n → Among y (x ∷ removed n xs) → (Among y (removed n xs) → y ≢ n) → y ≢ n
    head_apart ne (inl e) more = λ same. ne (sym e ∙ same)
    head_apart ne (inr k) more = more k

    by_test : (((x == n) ≡ true) × (x ≡ n)) ⊎ (((x == n) ≡ false) × (x ≢ n)) → (Among y (removed n xs) → y ≢ n) → y ≢ n
    by_test (inl t) more = λ same. d.0 (subst (λ (k : ℕ). Among k xs) (same ∙ sym t.1) (rw (t.0) at h))
    by_test (inr t) more = head_apart t.1 (rw (t.0) at h) more

removed_distinct : (n : ℕ) (xs : List ℕ) → Distinct xs → Distinct (removed n xs)
unfolding removed
removed_distinct n [] d = tt
removed_distinct n (x ∷ xs) d = by_test (x == n) (removed_distinct n xs d.1)
  where
    by_test : (b : Bool) → Distinct (removed n xs) → Distinct (if b then xs else x ∷ removed n xs)
    by_test true rest = d.1
    by_test false rest = (λ h. d.0 (from_removed n x xs h), rest)

pub distinct_below : (n : ℕ) (xs : List ℕ) → Distinct xs → ((y : ℕ) → Among y xs → y < n) → length xs ≤ n
distinct_below zero [] d below = omega arith
distinct_below zero (x ∷ xs) d below = absurd (let lt : x < 0 = below x (inl refl) in omega (arith, lt))
distinct_below (suc n) xs d below =
    let less : length (removed n xs) ≤ n = distinct_below n (removed n xs) (removed_distinct n xs d)
    (λ y h. let lt : y < suc n = below y (from_removed n y xs h) in let ne : y ≢ n = removed_apart n y xs d h in
    omega (arith, lt, ne)) in
    let one = removed_len n xs in omega (arith, less, one)

-- ---- the DATA of a whole read

-- where they begin
abbrev offsets : Own → Answers → List ℕ
offsets reads answers = map (λ (got : ℕ × List ℕ). got.0) (contents (answered_prefix reads answers))

abbrev offsets_then : ℕ → Option Reply → List (ℕ × Reply) → List ℕ
offsets_then offset o rest = map (λ (got : ℕ × List ℕ). got.0) (contents (answered_then offset o rest))

offsets_among : (reads : Own) (answers : Answers) (n : ℕ) → Among n (offsets reads answers) → Among n (map begins reads)
offsets_among [] answers n h = absurd h
offsets_among (asked ∷ later) answers n h = by_answer (answers asked.0) h (λ k. offsets_among later answers n k)
  where
    by_answer : (o : Option Reply) → Among n (offsets_then (begins asked) o (answered_prefix later answers))
        → (Among n (offsets later answers) → Among n (map begins later)) → Among n (map begins (asked ∷ later))
    by_answer None h more = absurd h
    by_answer (Some (reply.Content bytes)) (inl e) more = inl e
    by_answer (Some (reply.Content bytes)) (inr k) more = inr (more k)
    by_answer (Some (reply.Status code message language)) k more = inr (more k)
    by_answer (Some (reply.Handle handle)) k more = inr (more k)
    by_answer (Some (reply.Names names)) k more = inr (more k)
    by_answer (Some (reply.Attrs attrs)) k more = inr (more k)
    by_answer (Some (reply.Extended content)) k more = inr (more k)
    by_answer (Some (reply.Version version extensions)) k more = inr (more k)

offsets_distinct : (reads : Own) (answers : Answers) → Distinct (map begins reads) → Distinct (offsets reads answers)
offsets_distinct [] answers d = tt
offsets_distinct (asked ∷ later) answers d = by_answer (answers asked.0) (offsets_distinct later answers d.1)
  where
    by_answer : (o : Option Reply) → Distinct (offsets later answers)
        → Distinct (offsets_then (begins asked) o (answered_prefix later answers))
    by_answer None rest = tt
    by_answer (Some (reply.Content bytes)) rest = (λ h. d.0 (offsets_among later answers (begins asked) h), rest)
    by_answer (Some (reply.Status code message language)) rest = rest
    by_answer (Some (reply.Handle handle)) rest = rest
    by_answer (Some (reply.Names names)) rest = rest
    by_answer (Some (reply.Attrs attrs)) rest = rest
    by_answer (Some (reply.Extended content)) rest = rest
    by_answer (Some (reply.Version version extensions)) rest = rest

-- a piece of some bytes begins within them
piece_below : (bytes : List ℕ) (offset : ℕ) (part : List ℕ) → IsPiece bytes (offset, part) → offset < length bytes
piece_below bytes offset part is = elim (cases_lt offset (length bytes)) [
  | inl lt ↦ lt
  | inr le ↦
      (let none : [] ≡ part ++ is.1.0 = sym (drop_all offset bytes le) ∙ is.1.1 in
      let l : 0 ≡ length (part ++ is.1.0) = ap length none in
      let m = length-append part is.1.0 in
      let some : 1 ≤ length part = is.0 in
      absurd (omega (arith, l, m, some)))
]

-- a DATA that was taken is a piece
content_below : (bytes : List ℕ) (offset : ℕ) (part : List ℕ)
    → IsPartOrRefused RefusesNone bytes offset (reply.Content part) → offset < length bytes
content_below bytes offset part (inl is) = piece_below bytes offset part is
content_below bytes offset part (inr by) = absurd (by.refuses by.is)

offsets_below : (bytes : List ℕ) (reads : Own) (answers : Answers) (n : ℕ) → AreTakenSo RefusesNone bytes reads answers
    → Among n (offsets reads answers) → n < length bytes
offsets_below bytes [] answers n taken h = absurd h
offsets_below bytes (asked ∷ later) answers n taken h = by_answer (answers asked.0) taken.0 h
    (λ k. offsets_below bytes later answers n taken.1 k)
  where
    by_answer : (o : Option Reply) → IsTakenSo RefusesNone bytes (begins asked) o
        → Among n (offsets_then (begins asked) o (answered_prefix later answers))
        → (Among n (offsets later answers) → n < length bytes) → n < length bytes
    by_answer None part h more = absurd h
    by_answer (Some (reply.Content c)) part (inl e) more = (let lt = content_below bytes (begins asked) c part in
        let at : n ≡ begins asked = e in omega (arith, lt, at))
    by_answer (Some (reply.Content c)) part (inr k) more = more k
    by_answer (Some (reply.Status code message language)) part k more = more k
    by_answer (Some (reply.Handle handle)) part k more = more k
    by_answer (Some (reply.Names names)) part k more = more k
    by_answer (Some (reply.Attrs attrs)) part k more = more k
    by_answer (Some (reply.Extended content)) part k more = more k
    by_answer (Some (reply.Version version extensions)) part k more = more k

-- so no more of them come than there are bytes
contents_fewer : (bytes : List ℕ) (reads : Own) (answers : Answers) → AreTakenSo RefusesNone bytes reads answers
    → Distinct (map begins reads)
    → length (contents (answered_prefix reads answers)) ≤ length bytes
contents_fewer bytes reads answers taken distinct =
    let less : length (offsets reads answers) ≤ length bytes =
    distinct_below (length bytes) (offsets reads answers) (offsets_distinct reads answers distinct)
    (λ n h. offsets_below bytes reads answers n taken h) in
    let same : length (offsets reads answers) ≡ length (contents (answered_prefix reads answers)) =
    length-map (contents (answered_prefix reads answers)) (λ (got : ℕ × List ℕ). got.0) in
    omega (arith, less, same)

-- ---- the call

abbrev first_of : Own → ℕ × Request → ℕ × Request
first_of [] other = other
first_of (asked ∷ later) other = asked

abbrev later_of : Own → Own
later_of [] = []
later_of (asked ∷ later) = later

-- the requests of a call on a name, by their plan
record IsAskedOn (path : List ℕ) (bound : ℕ) (site : Site) (facts : Facts) (first : Step) (later : Own) (by : Answers) :
    Type 0 where
  past : Own
  asked : ReadsAsked path (Some bound) site facts past by
  first_is : asked.first ≡ asked_by first
  reads_are : asked.reads ≡ later

asked_on : (answers : Answers) (path : List ℕ) (bound : ℕ) (site : Site) (facts : Facts) (later : Own) (ended : Outcome)
    (first : Step) → 1 ≤ facts.read_len
    → (e : HasEnded (call.FsRead path bound) site facts (asked_by first ∷ later) answers ended)
    → IsAskedOn path bound site facts first later e.by
asked_on answers path bound site facts later ended first one e =
    by_past e.requests e.are e.so_far.asked e.so_far.answered
  where
    by_past : (past : Own) → oldest_first past ≡ asked_by first ∷ later
        → AreAsked (next (call.FsRead path bound) site facts) past e.by → MayBeAnswered past e.by
        → IsAskedOn path bound site facts first later e.by
    by_past [] are asked may = absurd cc
    by_past (a ∷ past) are asked may =
        (let m : ReadsAsked path (Some bound) site facts (a ∷ past) e.by =
        reads_asked path (Some bound) site facts a past e.by one asked may in
        let same : m.first ∷ m.reads ≡ asked_by first ∷ later = sym m.are ∙ are in
        record {
          past = a ∷ past;
          asked = m;
          first_is = ap (λ (w : Own). first_of w (asked_by first)) same;
          reads_are =
              ap later_of same;
        })

not_given_up : Outcome → Bool
not_given_up outcome.GivenUp = false
not_given_up other = true

-- a call that was given up had its handle
opened_then : (place : ℕ) (o : Option Reply) (site left : Site) (go : List ℕ → Move)
    → once_answered place o (λ r. on_handle r site go) ≡ Done outcome.GivenUp left
    → (h : List ℕ) × ((o ≡ Some (reply.Handle h)) × (go h ≡ Done outcome.GivenUp left))
unfolding not_given_up
opened_then place None site left go e = absurd (let both : false ≡ true = ap is_done e in cc)
opened_then place (Some (reply.Handle handle)) site left go e = (handle, (refl, e))
opened_then place (Some (reply.Version version extensions)) site left go e =
    absurd (let both : true ≡ false = ap (ends_so not_given_up) e in cc)
opened_then place (Some (reply.Status code message language)) site left go e =
    absurd (let both : true ≡ false = ap (ends_so not_given_up) e in cc)
opened_then place (Some (reply.Content content)) site left go e =
    absurd (let both : true ≡ false = ap (ends_so not_given_up) e in cc)
opened_then place (Some (reply.Names names)) site left go e =
    absurd (let both : true ≡ false = ap (ends_so not_given_up) e in cc)
opened_then place (Some (reply.Attrs attrs)) site left go e =
    absurd (let both : true ≡ false = ap (ends_so not_given_up) e in cc)
opened_then place (Some (reply.Extended content)) site left go e =
    absurd (let both : true ≡ false = ap (ends_so not_given_up) e in cc)

pub whole_read_ends : (config : ServerConfig) (answers : Answers) (name : Name) (path bytes : List ℕ) (bound : ℕ)
    (site : Site) (facts : Facts) (later : Own)
    (ended : Outcome) (tree : FileTree) (first : Step) (steps : List Step) → ChooseOnly RefusesNone (first ∷ steps)
    → IsWellFormed tree → HasBytes tree name bytes
    → 1 ≤ facts.read_len → 1 ≤ facts.read_window → length bytes < bound → components (from_directory site path) ≡ name
    → StandsOnName config answers name later tree first steps →
    HasEnded (call.FsRead path bound) site facts (asked_by first ∷ later) answers ended
    → ended ≡ outcome.Bytes bytes
whole_read_ends config answers name path bytes bound site facts later ended tree first steps chosen well_formed has one
    room short denotes stands e =
    by_gives (whole_reads RefusesNone config answers name path bytes bound site facts later ended tree first steps
    unrefused_feigns chosen well_formed has one denotes stands e)
  where
    by : Answers
    by = e.by

    whole : List ℕ
    whole = from_directory site path

    on : IsAskedOn path bound site facts first later by
    on = asked_on answers path bound site facts later ended first one e

    served : AreServed config by tree (first ∷ steps)
    served = served_before config by answers tree (first ∷ steps) e.stay stands.served

    go : List ℕ → Move
    go h = window_next h (Some bound) later (answered_prefix later by) (outside later by) site facts

    asks : ask_path (open_request to_read whole) site ≡ Ask first.request
    asks = on.asked.opens ∙ ap (λ (w : ℕ × Request). Ask w.1) on.first_is

    is : answer_to config tree first ≡ grant_answer tree first.handle (held_by to_read.0 has.file)
    is = step_opens config tree first to_read whole (open_is to_read whole site first.request asks) chosen.0
        ∙ (ap (λ (w : Name). after_open tree first.handle to_read.0 w (node_at tree w)) denotes
        ∙ ap (λ (w : Option Node). after_open tree first.handle to_read.0 name w) has.is)

    parts : (h : List ℕ) → by first.place ≡ Some (reply.Handle h) → h ≡ first.handle
        → AreTakenSo RefusesNone bytes later by
    parts h came same =
        let m = on.asked in
        let open_so : IsOpenTo ToRead (answer_to config tree first).1 name first.handle bytes =
        subst (λ (w : Answer). IsOpenTo ToRead w.1 name first.handle bytes) (sym is)
        (opens_to_read tree first.handle name bytes served.0.1 has) in
        let handle_is : handle_of (by m.first.0) ≡ first.handle =
        ap (λ (w : ℕ × Request). handle_of (by w.0)) on.first_is ∙ (ap handle_of came ∙ same) in
        let reads : AreReads first.handle later =
        subst (AreReads first.handle) on.reads_are (subst (λ (g : List ℕ). AreReads g m.reads) handle_is
        (reads_by_handle path (Some bound) site facts on.past by m)) in
        reads_parts RefusesNone config by name first.handle bytes steps later (answer_to config tree first).1 chosen.1
        (step_well_formed config tree first well_formed) open_so served.2
        (subst (λ (g : List ℕ). AreAmongSteps config name g later (answer_to config tree first).1 steps)
        (ap handle_of (e.stay first.place (reply.Handle h) came) ∙ same) stands.stands) reads

    not_up : ended ≡ outcome.GivenUp → ⊥
    not_up up =
        let o = opened_then first.place (by first.place) site e.left go
        (e.ends ∙ ap (λ (w : Outcome). Done w e.left) up) in
        let most : bound ≤ length (contents (answered_prefix later by)) =
        gave_up o.0 bound later by site e.left facts room o.1.1 in
        let said : IsReply (Some (reply.Handle o.0)) (reply.Handle first.handle) =
        subst (λ (w : Option Reply). IsReply w (reply.Handle first.handle)) o.1.0
        (subst (IsReply (by first.place)) (ap (λ (w : Answer). w.0) is) served.1) in
        let same : o.0 ≡ first.handle = ap (λ (r : Reply). handle_of (Some r)) said in
        let distinct : Distinct (map begins later) = subst (λ (l : Own). Distinct (map begins l)) on.reads_are
        on.asked.window.tiled.distinct in
        let fewer = contents_fewer bytes later by (parts o.0 o.1.0 same) distinct in omega (arith, most, fewer, short)

    by_gives : GivesUnless RefusesNone ended bytes → ended ≡ outcome.Bytes bytes
    by_gives (inl (inl got)) = got
    by_gives (inl (inr up)) = absurd (not_up up)
    by_gives (inr by_choice) = absurd (by_choice.refuses by_choice.is)
