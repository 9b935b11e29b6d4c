-- A file that a call wrote as a whole holds the bytes of the call.
use Rattle.std.proofs.Common.{
  ◌≡◌,
  ℕ,
  ◌+◌,
  ◌==◌,
  Bool,
  true,
  false,
  not,
  List,
  [],
  ◌∷◌,
  ◌++◌,
  length,
  drop,
  Option,
  Some,
  None,
  if◌then◌else◌,
  refl,
  ap,
  sym,
  ◌∙◌,
  subst,
  arith,
  inl,
  inr,
}
use Rattle.std.specs.Prelude.{min}
use Rattle.std.proofs.lemmas.Bool.Decides.{eqb_tells}
use Rattle.std.proofs.lemmas.List.{append-nil, append_assoc, length-append, length-take, nil_from_length, take-append-drop}
use Rattle.sftp_model.specs.Numbers.{SSH_FX_OK}
use Rattle.sftp_model.specs.declared.config.ServerConfig.{ServerConfig}
use Rattle.sftp_model.specs.declared.error.IoKind.TheVariants as kind
use Rattle.sftp_model.specs.declared.outcome.Outcome.TheVariants as outcome
use Rattle.sftp_model.specs.declared.reply.Reply.{Reply}
use Rattle.sftp_model.specs.declared.reply.Reply.TheVariants as reply
use Rattle.sftp_model.specs.declared.request.Request.{Request}
use Rattle.sftp_model.specs.declared.request.Request.TheVariants as request
use Rattle.sftp_model.specs.declared.slot.Facts.{Facts}
use Rattle.sftp_model.specs.declared.slot.FileAt.{FileAt}
use Rattle.sftp_model.specs.declared.slot.Move.{Move}
use Rattle.sftp_model.specs.declared.slot.Move.TheVariants.{Ask, Done}
use Rattle.sftp_model.specs.declared.slot.Site.{Site}
use Rattle.machine_model.specs.Changes.{IsWellFormed}
use Rattle.machine_model.specs.Components.{Name, components}
use Rattle.machine_model.specs.FileTree.{FileTree, node_at}
use Rattle.machine_model.specs.HandleRequests.{Answer, after_open}
use Rattle.plan_model.specs.declared.call.Call.TheVariants as call
use Rattle.plan_model.specs.FilePlans.{opened_file}
use Rattle.plan_model.specs.Moves.{Answers, Own, ask_write, further, handle_of, on_handle, on_status, once_answered, overflows, refusal_move, refuse_locally}
use Rattle.plan_model.specs.PathPlans.{from_directory}
use Rattle.plan_model.specs.TransferPlans.{next_part, part_len, rest_next}
use Rattle.plan_model.specs.WholePlans.{fs_write_next, nowhere, to_replace}
use Rattle.run_laws.specs.CallsAmong.{HasEnded, IsOpenTo, AreAmongSteps, StandsOnName, ToWrite, asked_by}
use Rattle.run_laws.specs.Steps.{Step, answer_to, after, AllSpare, AreServed, HasBytes}
use Rattle.run_laws.proofs.AskedInOrder.{Follow, asked_in_order, follow_as}
use Rattle.run_laws.proofs.MoveWords.{asked_of, code_of, is_all_done, is_ask, is_done, outcome_of}
use Rattle.run_laws.proofs.OpenLaws.{open_is, opens_to_write, step_opens}
use Rattle.run_laws.proofs.StayLaws.{fs_write_stays}
use Rattle.run_laws.proofs.StepLaws.{handle_unrefused, ok_unrefused, reply_is, served_before, step_well_formed, steps_bytes}
use Rattle.run_laws.proofs.WriteLaws.{open_bytes, put_end, step_open, step_writes}

-- ---- the plan

-- a WRITE that was asked
pub write_is : (file : FileAt) (part : List ℕ) (site : Site) (answers : Answers) (r : Request)
    → ask_write file part site answers ≡ Ask r → r ≡ request.Write (handle_of (answers file.grant)) file.offset part
write_is file part site answers r e = by_tests (not file.writable) (overflows file.offset (length part)) e
  where
    by_tests : (a b : Bool)
        → (if a then refuse_locally kind.NotWritable site else if b then refuse_locally kind.OffsetOverflow site else
        Ask (request.Write (handle_of (answers file.grant)) file.offset part)) ≡ Ask r
        → r ≡ request.Write (handle_of (answers file.grant)) file.offset part
    by_tests true b e = absurd (let both : false ≡ true = ap is_ask e in cc)
    by_tests false true e = absurd (let both : false ≡ true = ap is_ask e in cc)
    by_tests false false e = ap (asked_of r) (sym e)

-- what asks or refuses is not done
pub write_not_done : (file : FileAt) (part : List ℕ) (site : Site) (answers : Answers) (left : Site)
    → ask_write file part site answers ≡ Done outcome.Done left → ⊥
write_not_done file part site answers left e = by_tests (not file.writable) (overflows file.offset (length part)) e
  where
    by_tests : (a b : Bool)
        → (if a then refuse_locally kind.NotWritable site else if b then refuse_locally kind.OffsetOverflow site else
        Ask (request.Write (handle_of (answers file.grant)) file.offset part)) ≡ Done outcome.Done left → ⊥
    by_tests true b e = (let both : false ≡ true = ap (λ (w : Move). is_all_done (outcome_of w)) e in cc)
    by_tests false true e = (let both : false ≡ true = ap (λ (w : Move). is_all_done (outcome_of w)) e in cc)
    by_tests false false e = (let both : false ≡ true = ap is_done e in cc)

-- the next part that was asked
rest_is : (file : FileAt) (rest : List ℕ) (site : Site) (facts : Facts) (answers : Answers) (r : Request)
    → rest_next nowhere file rest site facts [] answers ≡ Ask r
    → r ≡ request.Write (handle_of (answers file.grant)) file.offset (next_part facts rest)
rest_is file rest site facts answers r e = by_test (length rest == 0) e
  where
    by_test : (b : Bool) → (if b then Done outcome.Done site else ask_write file (next_part facts rest) site answers)
        ≡ Ask r → r ≡ request.Write (handle_of (answers file.grant)) file.offset (next_part facts rest)
    by_test true e = absurd (let both : false ≡ true = ap is_ask e in cc)
    by_test false e = write_is file (next_part facts rest) site answers r e

-- where the plan is done, nothing is left to write
rest_done : (file : FileAt) (rest : List ℕ) (site : Site) (facts : Facts) (answers : Answers) (left : Site)
    → rest_next nowhere file rest site facts [] answers ≡ Done outcome.Done left → rest ≡ []
rest_done file rest site facts answers left e = elim (eqb_tells (length rest) 0) [
  | inl t ↦ nil_from_length rest t.1
  | inr t ↦ absurd (let asks : ask_write file (next_part facts rest) site answers ≡ Done outcome.Done left =
      rw (t.0) at e in write_not_done file (next_part facts rest) site answers left asks)
]

-- a STATUS 0 was taken, and the plan went on
record WentOn (o : Option Reply) (go : Move) (left : Site) : Type 0 where
  message : List ℕ
  language : List ℕ
  taken : o ≡ Some (reply.Status SSH_FX_OK message language)
  goes : go ≡ Done outcome.Done left

went_on : (place : ℕ) (o : Option Reply) (site : Site) (go : Move) (left : Site)
    → once_answered place o (λ r. on_status r site go) ≡ Done outcome.Done left → WentOn o go left
went_on place None site go left e = absurd (let both : false ≡ true = ap is_done e in cc)
went_on place (Some (reply.Status code message language)) site go left e =
    elim (eqb_tells code 0) [
      | inl t ↦ record {
        message = message;
        language = language;
        taken =
            ap (λ (w : ℕ). Some (reply.Status w message language)) t.1;
        goes = rw (t.0) at e;
      }
      | inr t ↦ absurd (let stays : refusal_move (reply.Status code message language) site ≡ Done outcome.Done left =
          rw (t.0) at e in let both : false ≡ true = ap (λ (w : Move). is_all_done (outcome_of w)) stays in cc)
    ]
went_on place (Some (reply.Version version extensions)) site go left e =
    absurd (let both : false ≡ true = ap (λ (w : Move). is_all_done (outcome_of w)) e in cc)
went_on place (Some (reply.Handle handle)) site go left e = absurd
    (let both : false ≡ true = ap (λ (w : Move). is_all_done (outcome_of w)) e in cc)
went_on place (Some (reply.Content content)) site go left e =
    absurd (let both : false ≡ true = ap (λ (w : Move). is_all_done (outcome_of w)) e in cc)
went_on place (Some (reply.Names names)) site go left e = absurd
    (let both : false ≡ true = ap (λ (w : Move). is_all_done (outcome_of w)) e in cc)
went_on place (Some (reply.Attrs attrs)) site go left e = absurd
    (let both : false ≡ true = ap (λ (w : Move). is_all_done (outcome_of w)) e in cc)
went_on place (Some (reply.Extended content)) site go left e =
    absurd (let both : false ≡ true = ap (λ (w : Move). is_all_done (outcome_of w)) e in cc)

-- ---- the WRITEs

ends : (config : ServerConfig) (name : Name) (tree : FileTree) (steps : List Step) (h : List ℕ) (file : FileAt)
    (site : Site) (facts : Facts) (answers : Answers) (bytes rest : List ℕ) (left : Site) → IsWellFormed tree
    → IsOpenTo ToWrite tree name h bytes → AllSpare config name tree steps
    → rest_next nowhere file rest site facts [] answers ≡ Done outcome.Done left
    → HasBytes (after config tree steps) name (bytes ++ rest)
ends config name tree steps h file site facts answers bytes rest left well_formed has all e =
    let none : rest ≡ [] = rest_done file rest site facts answers left e in
    steps_bytes config name (bytes ++ rest) tree steps well_formed all
    (subst (λ (w : List ℕ). HasBytes tree name w) (sym (append-nil bytes) ∙ ap (λ (w : List ℕ). bytes ++ w) (sym none))
    (open_bytes ToWrite tree name h bytes has))

part_length : (facts : Facts) (rest : List ℕ) → length (next_part facts rest) ≡ part_len facts rest
part_length facts rest = let l : length (next_part facts rest) ≡ min (part_len facts rest) (length rest) =
    length-take (part_len facts rest) rest in omega (arith, l)

-- the parts that are left are written after the bytes that were
writes_rest : (config : ServerConfig) (answers : Answers) (name : Name) (h : List ℕ) (facts : Facts) (site left : Site)
    (steps : List Step) (own : Own) (tree : FileTree) (file : FileAt) (bytes rest : List ℕ)
    → IsWellFormed tree → handle_of (answers file.grant) ≡ h → file.offset ≡ length bytes
    → IsOpenTo ToWrite tree name h bytes → AreServed config answers tree steps
    → AreAmongSteps config name h own tree steps
    → Follow (λ later. rest_next nowhere file rest site facts later answers) own
    → rest_next nowhere file rest site facts own answers ≡ Done outcome.Done left
    → HasBytes (after config tree steps) name (bytes ++ rest)
writes_rest config answers name h facts site left steps [] tree file bytes rest well_formed bears at has served stand
    follow e = ends config name tree steps h file site facts answers bytes rest left well_formed has stand e
writes_rest config answers name h facts site left [] (asked ∷ later) tree file bytes rest well_formed bears at has
    served stand follow e = absurd stand
writes_rest config answers name h facts site left (s ∷ steps) (asked ∷ later) tree file bytes rest well_formed bears at
    has served stand follow e =
    elim stand [
      | inl own ↦
          (let n : ℕ = part_len facts rest in
          let part : List ℕ = next_part facts rest in
          let moved : FileAt = further file n in
          let more : Own → Move = λ own. rest_next nowhere moved (drop n rest) site facts own answers in
          let on = went_on asked.0 (answers asked.0) site (more later) left e in
          let asks : s.request ≡ request.Write h (length bytes) part =
          own.1 ∙ (rest_is file rest site facts answers asked.1 follow.0
          ∙ (ap (λ (w : List ℕ). request.Write w file.offset part) bears
          ∙ ap (λ (k : ℕ). request.Write h k part) at)) in
          let said : reply.Status SSH_FX_OK on.message on.language ≡ (answer_to config tree s).0 =
          reply_is (answers s.place) _ _ (ap answers own.0 ∙ on.taken) served.1 in
          let unrefused : s.choice.refuse ≡ SSH_FX_OK = ok_unrefused config tree s on.message on.language said in
          let now : IsOpenTo ToWrite (answer_to config tree s).1 name h (bytes ++ part) =
          subst (λ (w : List ℕ). IsOpenTo ToWrite (answer_to config tree s).1 name h w) (put_end bytes part)
          (step_writes config tree name h bytes part (length bytes) s well_formed has asks unrefused
          (sym (ap code_of said))) in
          let stands_at : file.offset + n ≡ length (bytes ++ part) = let a = length-append bytes part in let b =
          part_length facts rest in omega (arith, a, b, at) in
          subst (λ (w : List ℕ). HasBytes (after config (answer_to config tree s).1 steps) name w)
          (append_assoc bytes part (drop n rest) ∙ ap (λ (w : List ℕ). bytes ++ w) (take-append-drop n rest))
          (writes_rest config answers name h facts site left steps later (answer_to config tree s).1 moved
          (bytes ++ part) (drop n rest) (step_well_formed config tree s well_formed) bears stands_at now served.2
          own.2
          (follow_as _ more later (λ own. goes_on (answers asked.0) on.message on.language (more own) on.taken)
          follow.1)
          on.goes))
      | inr other ↦
          writes_rest config answers name h facts site left steps (asked ∷ later) (answer_to config tree s).1 file bytes
          rest (step_well_formed config tree s well_formed) bears at
          (step_open ToWrite config name h bytes tree s well_formed other.0 other.1 has) served.2 other.2 follow e
    ]
  where
    goes_on : (o : Option Reply) (message language : List ℕ) (go : Move) → o
        ≡ Some (reply.Status SSH_FX_OK message language) → once_answered asked.0 o (λ r. on_status r site go) ≡ go
    goes_on o message language go is = ap (λ (w : Option Reply). once_answered asked.0 w (λ r. on_status r site go)) is

-- ---- the call

-- a HANDLE was taken, and the plan went on
record WasGranted (o : Option Reply) (go : List ℕ → Move) (left : Site) : Type 0 where
  handle : List ℕ
  taken : o ≡ Some (reply.Handle handle)
  goes : go handle ≡ Done outcome.Done left

was_granted : (place : ℕ) (o : Option Reply) (site : Site) (go : List ℕ → Move) (left : Site)
    → once_answered place o (λ r. on_handle r site go) ≡ Done outcome.Done left → WasGranted o go left
was_granted place None site go left e = absurd (let both : false ≡ true = ap is_done e in cc)
was_granted place (Some (reply.Handle handle)) site go left e = record { handle = handle; taken = refl; goes = e }
was_granted place (Some (reply.Version version extensions)) site go left e =
    absurd (let both : false ≡ true = ap (λ (w : Move). is_all_done (outcome_of w)) e in cc)
was_granted place (Some (reply.Status code message language)) site go left e =
    absurd (let both : false ≡ true = ap (λ (w : Move). is_all_done (outcome_of w)) e in cc)
was_granted place (Some (reply.Content content)) site go left e =
    absurd (let both : false ≡ true = ap (λ (w : Move). is_all_done (outcome_of w)) e in cc)
was_granted place (Some (reply.Names names)) site go left e =
    absurd (let both : false ≡ true = ap (λ (w : Move). is_all_done (outcome_of w)) e in cc)
was_granted place (Some (reply.Attrs attrs)) site go left e =
    absurd (let both : false ≡ true = ap (λ (w : Move). is_all_done (outcome_of w)) e in cc)
was_granted place (Some (reply.Extended content)) site go left e =
    absurd (let both : false ≡ true = ap (λ (w : Move). is_all_done (outcome_of w)) e in cc)

-- The first request of the call is the first step, its further ones stand among the others, which spare the name. Where
-- it ended well, the name has a file with the bytes that it was given.
pub whole_writes : (config : ServerConfig) (answers : Answers) (name : Name) (path bytes : List ℕ) (site : Site)
    (facts : Facts) (later : Own) (tree : FileTree) (first : Step) (steps : List Step)
    → IsWellFormed tree → components (from_directory site path) ≡ name
    → StandsOnName config answers name later tree first steps
    → HasEnded (call.FsWrite path bytes) site facts (asked_by first ∷ later) answers outcome.Done
    → HasBytes (after config tree (first ∷ steps)) name bytes
whole_writes config answers name path bytes site facts later tree first steps well_formed denotes stands ended =
    let by : Answers = ended.by in
    let file : FileAt = opened_file to_replace first.place in
    let whole : List ℕ = from_directory site path in
    let go : Own → Move = λ own. rest_next nowhere file bytes site facts own by in
    let follow : Follow (λ own. fs_write_next path bytes site facts own by) (asked_by first ∷ later) =
    subst (Follow (λ own. fs_write_next path bytes site facts own by)) ended.are
    (asked_in_order (fs_write_next path bytes site facts) ended.requests by (fs_write_stays path bytes site facts)
    ended.so_far.asked)
    in
    let served : AreServed config by tree (first ∷ steps) = served_before config by answers tree (first ∷ steps)
    ended.stay stands.served in
    let on = was_granted first.place (by first.place) site (λ handle. go later) ended.left ended.ends in
    let said : reply.Handle on.handle ≡ (answer_to config tree first).0 =
    reply_is (by first.place) _ _ on.taken served.1 in
    let is : answer_to config tree first ≡ after_open tree first.handle to_replace.0 (components whole)
    (node_at tree (components whole)) =
    step_opens config tree first to_replace whole (open_is to_replace whole site first.request follow.0)
    (handle_unrefused config tree first on.handle said) in
    let held : IsOpenTo ToWrite (answer_to config tree first).1 name on.handle [] =
    subst (λ (w : Name). IsOpenTo ToWrite (answer_to config tree first).1 w on.handle []) denotes
    (subst (λ (w : Answer). IsOpenTo ToWrite w.1 (components whole) on.handle []) (sym is)
    (opens_to_write tree first.handle (components whole) (node_at tree (components whole)) on.handle well_formed refl
    served.0.1 (sym (said ∙ ap (λ (w : Answer). w.0) is)))) in
    writes_rest config by name on.handle facts site ended.left steps later (answer_to config tree first).1 file [] bytes
    (step_well_formed config tree first well_formed) (ap handle_of on.taken) refl held served.2
    (subst (λ (w : List ℕ). AreAmongSteps config name w later (answer_to config tree first).1 steps)
    (ap handle_of (ended.stay first.place (reply.Handle on.handle) on.taken)) stands.stands)
    (follow_as _ go later (λ own. ap (λ (w : Option Reply). once_answered first.place w
    (λ r. on_handle r site (λ handle. go own))) on.taken) follow.1)
    on.goes
