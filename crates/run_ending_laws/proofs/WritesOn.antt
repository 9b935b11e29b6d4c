-- The WRITEs of a whole write, each at its step: the name's file is open to be written, and they stand one behind
-- another.
use Rattle.std.proofs.Common.{
  ◌≡◌,
  ◌≢◌,
  ◌≤◌,
  ◌+◌,
  ◌==◌,
  ℕ,
  Bool,
  true,
  false,
  List,
  [],
  ◌∷◌,
  ◌++◌,
  length,
  drop,
  Option,
  Some,
  None,
  if◌then◌else◌,
  refl,
  ap,
  sym,
  ◌∙◌,
  subst,
  arith,
  inl,
  inr,
}
use Rattle.std.specs.Prelude.{min}
use Rattle.std.proofs.lemmas.Bool.Decides.{eqb_tells}
use Rattle.std.proofs.lemmas.List.{length-append, length-drop, length-take}
use Rattle.sftp_model.specs.Numbers.{SSH_FX_OK}
use Rattle.sftp_model.specs.declared.config.ServerConfig.{ServerConfig}
use Rattle.sftp_model.specs.declared.outcome.Outcome.{Outcome}
use Rattle.sftp_model.specs.declared.outcome.Outcome.TheVariants as outcome
use Rattle.sftp_model.specs.declared.reply.Reply.{Reply}
use Rattle.sftp_model.specs.declared.reply.Reply.TheVariants as reply
use Rattle.sftp_model.specs.declared.request.Request.{Request}
use Rattle.sftp_model.specs.declared.request.Request.TheVariants as request
use Rattle.sftp_model.specs.declared.slot.Facts.{Facts}
use Rattle.sftp_model.specs.declared.slot.FileAt.{FileAt}
use Rattle.sftp_model.specs.declared.slot.Move.{Move}
use Rattle.sftp_model.specs.declared.slot.Move.TheVariants.{Ask, Done}
use Rattle.sftp_model.specs.declared.slot.Site.{Site}
use Rattle.machine_model.specs.Changes.{IsWellFormed}
use Rattle.machine_model.specs.Components.{Name, components}
use Rattle.machine_model.specs.FileTree.{FileTree, node_at}
use Rattle.machine_model.specs.HandleRequests.{Answer, after_open}
use Rattle.plan_model.specs.FilePlans.{opened_file}
use Rattle.plan_model.specs.Moves.{Answers, Own, ask_write, further, handle_of, on_handle, on_status, once_answered, refusal_move}
use Rattle.plan_model.specs.PathPlans.{from_directory}
use Rattle.plan_model.specs.TransferPlans.{next_part, part_len, rest_next}
use Rattle.plan_model.specs.WholePlans.{fs_write_next, nowhere, to_replace}
use Rattle.plan_model.specs.declared.call.Call.TheVariants as call
use Rattle.run_laws.specs.CallsAmong.{HasEnded, IsOpenTo, AreAmongSteps, StandsOnName, ToWrite, asked_by}
use Rattle.run_laws.specs.Steps.{Step, answer_to, AreDistinct, AreServed, HasPlace}
use Rattle.run_laws.proofs.AskedInOrder.{Follow, asked_in_order, follow_as}
use Rattle.run_laws.proofs.BackLaws.{opened_first}
use Rattle.run_laws.proofs.MoveWords.{code_of, is_ask}
use Rattle.run_laws.proofs.OpenLaws.{open_is, opens_to_write, step_opens}
use Rattle.run_laws.proofs.ServedSteps.{HasRequest}
use Rattle.run_laws.proofs.StayLaws.{fs_write_stays}
use Rattle.run_laws.proofs.StepLaws.{handle_unrefused, ok_unrefused, reply_is, served_before, step_well_formed}
use Rattle.run_laws.proofs.WholeWriteLaws.{write_is}
use Rattle.run_laws.proofs.WriteLaws.{put_end, step_open, step_writes}

-- ---- steps of one call

-- each step that stands at a place of these has it so, by the tree that it finds
abbrev pub AllOwn : (FileTree → Step → Type 0) → ServerConfig → Own → FileTree → List Step → Type 0
AllOwn P config own tree [] = Unit {0}
AllOwn P config own tree (s ∷ steps) = (HasRequest own s.place → P tree s)
    × AllOwn P config own (answer_to config tree s).1 steps

-- where no step stands at the first one's place, it is enough to look at the others
all_more : (P : FileTree → Step → Type 0) (config : ServerConfig) (asked : ℕ × Request) (later : Own) (tree : FileTree)
    (steps : List Step)
    → ((place : ℕ) → HasPlace steps place → asked.0 ≢ place) → AllOwn P config later tree steps
    → AllOwn P config (asked ∷ later) tree steps
all_more P config asked later tree [] free all = tt
all_more P config asked later tree (s ∷ steps) free all = (
  by_has,
  all_more P config asked later (answer_to config tree s).1 steps (λ place h. free place (inr h)) all.1,
)
  where
    by_has : HasRequest (asked ∷ later) s.place → P tree s
    by_has (inl e) = absurd (free s.place (inl refl) e)
    by_has (inr h) = all.0 h

all_none : (P : FileTree → Step → Type 0) (config : ServerConfig) (tree : FileTree) (steps : List Step)
    → AllOwn P config [] tree steps
all_none P config tree [] = tt
all_none P config tree (s ∷ steps) = (λ h. absurd h, all_none P config (answer_to config tree s).1 steps)

-- each of the requests has its step
pub stand_has : (config : ServerConfig) (name : Name) (h : List ℕ) (own : Own) (tree : FileTree) (steps : List Step)
    (place : ℕ)
    → AreAmongSteps config name h own tree steps → HasRequest own place → HasPlace steps place
stand_has config name h [] tree steps place stand has = absurd has
stand_has config name h (asked ∷ later) tree [] place stand has = absurd stand
stand_has config name h (asked ∷ later) tree (s ∷ steps) place (inr other) has =
    inr (stand_has config name h (asked ∷ later) (answer_to config tree s).1 steps place other.2 has)
stand_has config name h (asked ∷ later) tree (s ∷ steps) place (inl own) (inl e) = inl (own.0 ∙ e)
stand_has config name h (asked ∷ later) tree (s ∷ steps) place (inl own) (inr more) =
    inr (stand_has config name h later (answer_to config tree s).1 steps place own.2 more)

-- ---- the WRITEs

-- a WRITE at the end of what the file has, which stays within so many bytes
pub record WritesOn (name : Name) (h : List ℕ) (total : ℕ) (tree : FileTree) (s : Step) : Type 0 where
  pub bytes : List ℕ
  pub part : List ℕ
  pub open_to : IsOpenTo ToWrite tree name h bytes
  pub asks : s.request ≡ request.Write h (length bytes) part
  pub within : length bytes + length part ≤ total

rest_is : (file : FileAt) (rest : List ℕ) (site : Site) (facts : Facts) (answers : Answers) (r : Request)
    → rest_next nowhere file rest site facts [] answers ≡ Ask r → r
    ≡ request.Write (handle_of (answers file.grant)) file.offset (next_part facts rest)
rest_is file rest site facts answers r e = by_test (length rest == 0) e
  where
    by_test : (b : Bool) → (if b then Done outcome.Done site else ask_write file (next_part facts rest) site answers)
        ≡ Ask r → r ≡ request.Write (handle_of (answers file.grant)) file.offset (next_part facts rest)
    by_test true e = absurd (let both : false ≡ true = ap is_ask e in cc)
    by_test false e = write_is file (next_part facts rest) site answers r e

-- a STATUS 0 came before the plan went on to ask
record WentOn (o : Option Reply) (go : Move) (r : Request) : Type 0 where
  message : List ℕ
  language : List ℕ
  taken : o ≡ Some (reply.Status SSH_FX_OK message language)

went_on : (place : ℕ) (o : Option Reply) (site : Site) (go : Move) (r : Request)
    → once_answered place o (λ x. on_status x site go) ≡ Ask r → WentOn o go r
went_on place None site go r e = absurd (let both : false ≡ true = ap is_ask e in cc)
went_on place (Some (reply.Status code message language)) site go r e =
    elim (eqb_tells code 0) [
      | inl t ↦ record {
        message = message;
        language = language;
        taken =
            ap (λ (w : ℕ). Some (reply.Status w message language)) t.1;
      }
      | inr t ↦ absurd (let stays : refusal_move (reply.Status code message language) site ≡ Ask r = rw (t.0) at e in
          let both : false ≡ true = ap is_ask stays in cc)
    ]
went_on place (Some (reply.Version version extensions)) site go r e =
    absurd (let both : false ≡ true = ap is_ask e in cc)
went_on place (Some (reply.Handle handle)) site go r e = absurd (let both : false ≡ true = ap is_ask e in cc)
went_on place (Some (reply.Content content)) site go r e = absurd (let both : false ≡ true = ap is_ask e in cc)
went_on place (Some (reply.Names names)) site go r e = absurd (let both : false ≡ true = ap is_ask e in cc)
went_on place (Some (reply.Attrs attrs)) site go r e = absurd (let both : false ≡ true = ap is_ask e in cc)
went_on place (Some (reply.Extended content)) site go r e = absurd (let both : false ≡ true = ap is_ask e in cc)

part_length : (facts : Facts) (rest : List ℕ) → length (next_part facts rest) ≡ part_len facts rest
part_length facts rest = let l : length (next_part facts rest) ≡ min (part_len facts rest) (length rest) =
    length-take (part_len facts rest) rest in omega (arith, l)

writes_own : (config : ServerConfig) (answers : Answers) (name : Name) (h : List ℕ) (total : ℕ) (facts : Facts)
    (site : Site) (steps : List Step) (own : Own)
    (tree : FileTree) (file : FileAt) (bytes rest : List ℕ) → IsWellFormed tree → AreDistinct steps
    → handle_of (answers file.grant) ≡ h → file.offset ≡ length bytes
    → length bytes + length rest ≡ total → IsOpenTo ToWrite tree name h bytes → AreServed config answers tree steps
    → AreAmongSteps config name h own tree steps
    → Follow (λ later. rest_next nowhere file rest site facts later answers) own
    → AllOwn (WritesOn name h total) config own tree steps
writes_own config answers name h total facts site steps [] tree file bytes rest well_formed distinct bears at sum has
    served stand follow =
    all_none (WritesOn name h total) config tree steps
writes_own config answers name h total facts site [] (asked ∷ later) tree file bytes rest well_formed distinct bears at
    sum has served stand follow = absurd stand
writes_own config answers name h total facts site (s ∷ steps) (asked ∷ later) tree file bytes rest well_formed distinct
    bears at sum has served (inr other) follow = (
      λ mine. absurd (distinct.0 s.place (stand_has config name h (asked ∷ later) (answer_to config tree s).1 steps
          s.place other.2 mine) refl),
      writes_own config answers name h total facts site steps (asked ∷ later) (answer_to config tree s).1 file bytes
          rest
          (step_well_formed config tree s well_formed) distinct.1 bears at sum
          (step_open ToWrite config name h bytes tree s well_formed other.0 other.1 has) served.2 other.2 follow,
    )
writes_own config answers name h total facts site (s ∷ steps) (asked ∷ later) tree file bytes rest well_formed distinct
    bears at sum has served (inl own) follow = (
      λ mine. record {
        bytes = bytes;
        part = part;
        open_to = has;
        asks = asks;
        within =
            (let p = part_length facts rest in omega (arith, p, sum));
      },
      all_more (WritesOn name h total) config asked later (answer_to config tree s).1 steps
          (λ place there e. distinct.0 place there (own.0 ∙ e)) (by_later later own.2 follow.1
          (λ b more stand' follow' went. writes_own config answers name h total facts site steps (b ∷ more)
          (answer_to config tree s).1 moved (bytes ++ part) (drop n rest)
          (step_well_formed config tree s well_formed) distinct.1 bears stands_at left (now went) served.2 stand'
          follow')),
    )
  where
    n : ℕ
    n = part_len facts rest

    part : List ℕ
    part = next_part facts rest

    moved : FileAt
    moved = further file n

    asks : s.request ≡ request.Write h (length bytes) part
    asks = own.1 ∙ (rest_is file rest site facts answers asked.1 follow.0
        ∙ (ap (λ (w : List ℕ). request.Write w file.offset part) bears ∙ ap (λ (k : ℕ). request.Write h k part) at))

    stands_at : file.offset + n ≡ length (bytes ++ part)
    stands_at = let a = length-append bytes part in let b = part_length facts rest in omega (arith, a, b, at)

    left : length (bytes ++ part) + length (drop n rest) ≡ total
    left = let a = length-append bytes part in let b = part_length facts rest in let c = length-drop n rest in
        omega (arith, a, b, c, sum)

    more_plan : Own → Move
    more_plan own = rest_next nowhere moved (drop n rest) site facts own answers

    now : (go : Move) × ((q : Request) × WentOn (answers asked.0) go q)
        → IsOpenTo ToWrite (answer_to config tree s).1 name h (bytes ++ part)
    now (go, (q, on)) =
        let said : reply.Status SSH_FX_OK on.message on.language ≡ (answer_to config tree s).0 =
        reply_is (answers s.place) (reply.Status SSH_FX_OK on.message on.language) (answer_to config tree s).0
        (ap answers own.0 ∙ on.taken) served.1 in
        subst (λ (w : List ℕ). IsOpenTo ToWrite (answer_to config tree s).1 name h w) (put_end bytes part)
        (step_writes config tree name h bytes part (length bytes) s well_formed has asks
        (ok_unrefused config tree s on.message on.language said) (sym (ap code_of said)))

    goes_on : (message language : List ℕ) (go : Move) → answers asked.0 ≡ Some (reply.Status SSH_FX_OK message language)
        → once_answered asked.0 (answers asked.0) (λ r. on_status r site go) ≡ go
    goes_on message language go is = ap (λ (w : Option Reply). once_answered asked.0 w (λ r. on_status r site go)) is

    by_later : (later : Own) → AreAmongSteps config name h later (answer_to config tree s).1 steps
        → Follow (λ own. once_answered asked.0 (answers asked.0) (λ r. on_status r site (more_plan own))) later
        → ((b : ℕ × Request) (more : Own) → AreAmongSteps config name h (b ∷ more) (answer_to config tree s).1 steps
        → Follow more_plan (b ∷ more)
        → (go : Move) × ((q : Request) × WentOn (answers asked.0) go q)
        → AllOwn (WritesOn name h total) config (b ∷ more) (answer_to config tree s).1 steps)
        → AllOwn (WritesOn name h total) config later (answer_to config tree s).1 steps
    by_later [] stand follow again = all_none (WritesOn name h total) config (answer_to config tree s).1 steps
    by_later (b ∷ more) stand follow again =
        let on : WentOn (answers asked.0) (more_plan []) b.1 = went_on asked.0 (answers asked.0) site (more_plan []) b.1
        follow.0 in
        again b more stand
        (follow_as (λ own. once_answered asked.0 (answers asked.0) (λ r. on_status r site (more_plan own))) more_plan
        (b ∷ more)
        (λ own. goes_on on.message on.language (more_plan own) on.taken) follow) (more_plan [], (b.1, on))

-- ---- the call

-- Each further request of a whole write that stands on a name is such a WRITE.
pub write_own : (config : ServerConfig) (answers : Answers) (name : Name) (path content : List ℕ) (site : Site)
    (facts : Facts) (later : Own) (tree : FileTree)
    (first : Step) (steps : List Step) (ended : Outcome) → IsWellFormed tree → AreDistinct steps
    → components (from_directory site path) ≡ name
    → StandsOnName config answers name later tree first steps →
    HasEnded (call.FsWrite path content) site facts (asked_by first ∷ later) answers ended
    → AllOwn (WritesOn name (handle_of (answers first.place)) (length content)) config later
    (answer_to config tree first).1 steps
write_own config answers name path content site facts later tree first steps ended well_formed distinct denotes stands e
    =
    by_later later follow.1 stands.stands
  where
    by : Answers
    by = e.by

    file : FileAt
    file = opened_file to_replace first.place

    whole : List ℕ
    whole = from_directory site path

    go : Own → Move
    go own = rest_next nowhere file content site facts own by

    follow : Follow (λ own. fs_write_next path content site facts own by) (asked_by first ∷ later)
    follow = subst (Follow (λ own. fs_write_next path content site facts own by)) e.are
        (asked_in_order (fs_write_next path content site facts) e.requests by (fs_write_stays path content site facts)
        e.so_far.asked)

    served : AreServed config by tree (first ∷ steps)
    served = served_before config by answers tree (first ∷ steps) e.stay stands.served

    granted : (later : Own) → (h : List ℕ) → by first.place ≡ Some (reply.Handle h)
        → Follow (λ own. once_answered first.place (by first.place) (λ r. on_handle r site (λ handle. go own))) later
        → AreAmongSteps config name (handle_of (answers first.place)) later (answer_to config tree first).1 steps
        → AllOwn (WritesOn name (handle_of (answers first.place)) (length content)) config later
        (answer_to config tree first).1 steps
    granted later h taken follow' stand =
        let said : reply.Handle h ≡ (answer_to config tree first).0 =
        reply_is (by first.place) (reply.Handle h) (answer_to config tree first).0 taken served.1 in
        let is : answer_to config tree first ≡ after_open tree first.handle to_replace.0 (components whole)
        (node_at tree (components whole)) =
        step_opens config tree first to_replace whole (open_is to_replace whole site first.request follow.0)
        (handle_unrefused config tree first h said) in
        let held : IsOpenTo ToWrite (answer_to config tree first).1 name h [] =
        subst (λ (w : Name). IsOpenTo ToWrite (answer_to config tree first).1 w h []) denotes
        (subst (λ (w : Answer). IsOpenTo ToWrite w.1 (components whole) h []) (sym is)
        (opens_to_write tree first.handle (components whole) (node_at tree (components whole)) h well_formed refl
        served.0.1 (sym (said ∙ ap (λ (w : Answer). w.0) is)))) in
        let same : handle_of (answers first.place) ≡ h = ap handle_of (e.stay first.place (reply.Handle h) taken) in
        subst (λ (w : List ℕ). AllOwn (WritesOn name w (length content)) config later (answer_to config tree first).1
        steps) (sym same)
        (writes_own config by name h (length content) facts site steps later (answer_to config tree first).1 file []
        content
        (step_well_formed config tree first well_formed) distinct (ap handle_of taken) refl (omega arith) held served.2
        (subst (λ (w : List ℕ). AreAmongSteps config name w later (answer_to config tree first).1 steps) same stand)
        (follow_as (λ own. once_answered first.place (by first.place) (λ r. on_handle r site (λ handle. go own))) go
        later
        (λ own. ap (λ (w : Option Reply). once_answered first.place w (λ r. on_handle r site (λ handle. go own))) taken)
        follow'))

    by_later : (later : Own) → Follow (λ own. once_answered first.place (by first.place)
        (λ r. on_handle r site (λ handle. go own))) later
        → AreAmongSteps config name (handle_of (answers first.place)) later (answer_to config tree first).1 steps
        → AllOwn (WritesOn name (handle_of (answers first.place)) (length content)) config later
        (answer_to config tree first).1 steps
    by_later [] follow' stand = all_none (WritesOn name (handle_of (answers first.place)) (length content)) config
        (answer_to config tree first).1 steps
    by_later (b ∷ more) follow' stand =
        let g = opened_first first.place (by first.place) site (λ handle. go []) b.1 follow'.0 in
        granted (b ∷ more) g.0 g.1 follow' stand
