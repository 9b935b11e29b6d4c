-- A whole write ends well where its name may be opened, its sizes fit, and no request is refused by choice.
use Rattle.std.proofs.Common.{
  ◌≡◌,
  ◌<◌,
  ◌≤◌,
  ◌+◌,
  ◌-◌,
  ◌==◌,
  ℕ,
  Bool,
  true,
  false,
  not,
  List,
  [],
  ◌∷◌,
  length,
  drop,
  Option,
  Some,
  None,
  if◌then◌else◌,
  refl,
  ap,
  sym,
  ◌∙◌,
  subst,
  arith,
  inl,
  inr,
}
use Rattle.std.specs.Prelude.{◌⊎◌, max, min}
use Rattle.std.proofs.lemmas.Bool.Decides.{nat_tests}
use Rattle.std.proofs.lemmas.List.{length-drop, length-take}
use Rattle.sftp_model.specs.Numbers.{SSH_FX_FAILURE, SSH_FX_NO_SUCH_FILE, SSH_FX_OK}
use Rattle.sftp_model.specs.declared.config.ServerConfig.{ServerConfig}
use Rattle.sftp_model.specs.declared.error.IoKind.TheVariants as kind
use Rattle.sftp_model.specs.declared.outcome.Outcome.{Outcome}
use Rattle.sftp_model.specs.declared.outcome.Outcome.TheVariants as outcome
use Rattle.sftp_model.specs.declared.reply.Reply.{Reply}
use Rattle.sftp_model.specs.declared.reply.Reply.TheVariants as reply
use Rattle.sftp_model.specs.declared.request.Request.{Request}
use Rattle.sftp_model.specs.declared.request.Request.TheVariants as request
use Rattle.sftp_model.specs.declared.slot.Facts.{Facts}
use Rattle.sftp_model.specs.declared.slot.FileAt.{FileAt}
use Rattle.sftp_model.specs.declared.slot.Move.{Move}
use Rattle.sftp_model.specs.declared.slot.Move.TheVariants.{Ask, Done}
use Rattle.sftp_model.specs.declared.slot.Site.{Site}
use Rattle.machine_model.proofs.LossLaws.{name_has}
use Rattle.machine_model.specs.Changes.{IsWellFormed, MayStand}
use Rattle.machine_model.specs.Components.{Name, components, is_long_name, parent_of}
use Rattle.machine_model.specs.FileTree.{FileTree, all_bytes, bytes_of, is_directory, is_over, node_at, size_of, with_file}
use Rattle.machine_model.specs.HandleRequests.{Answer, after_open, grant_answer, held_by, refusal_answer, answer_to_write}
use Rattle.machine_model.specs.Limits.{MAX_FILE_LEN, MAX_TOTAL_LEN}
use Rattle.machine_model.specs.TreeAnswers.{apply}
use Rattle.machine_model.specs.declared.node.Node.TheVariants as node
use Rattle.machine_model.specs.declared.opened.Held.{Held}
use Rattle.plan_model.proofs.Among.{Among}
use Rattle.plan_model.specs.FilePlans.{opened_file}
use Rattle.plan_model.specs.Moves.{Answers, Own, ask_write, further, handle_of, on_handle, on_status, once_answered, overflows, refuse_locally as refuses_io}
use Rattle.plan_model.specs.PathPlans.{from_directory}
use Rattle.plan_model.specs.TransferPlans.{next_part, part_len, rest_next}
use Rattle.plan_model.specs.WholePlans.{fs_write_next, nowhere, to_replace}
use Rattle.plan_model.specs.declared.call.Call.TheVariants as call
use Rattle.session_model.specs.Served.{IsReply}
use Rattle.run_laws.specs.CallsAmong.{HasEnded, StandsOnName, asked_by}
use Rattle.run_laws.specs.Steps.{AreDistinct, AreServed, ChooseOnly, HasPlace, RefusesNone, Step, answer_to}
use Rattle.run_laws.proofs.AskedInOrder.{Follow, asked_in_order}
use Rattle.run_laws.proofs.MoveWords.{is_done, outcome_of}
use Rattle.run_laws.proofs.OpenLaws.{open_is, step_opens}
use Rattle.run_laws.proofs.ServedSteps.{HasRequest}
use Rattle.run_laws.proofs.StayLaws.{fs_write_stays}
use Rattle.run_laws.proofs.StepLaws.{served_before, step_well_formed}
use Rattle.run_laws.proofs.WriteLaws.{answers_as}
use Rattle.run_ending_laws.proofs.GrowingRuns.{AllSteps}
use Rattle.run_ending_laws.proofs.Sizes.{AreFit, IsClaimed, write_fits}
use Rattle.run_ending_laws.proofs.WritesOn.{AllOwn, WritesOn, stand_has, write_own}
use Rattle.run_ending_laws.specs.Claims.{NameClaims, claims_sum}

-- ---- the plan, where each of its requests is answered well

-- the reply is this one, where it came
abbrev Came : Answers → ℕ → Reply → Type 0
Came answers place r = IsReply (answers place) r

-- each of these, where it was answered, was answered by a STATUS 0
abbrev AreOk : Answers → Own → Type 0
AreOk answers own = (place : ℕ) → HasRequest own place → Came answers place (reply.Status SSH_FX_OK [] [])

part_short : (facts : Facts) (rest : List ℕ) → length (next_part facts rest) ≤ length rest
part_short facts rest = let l : length (next_part facts rest) ≡ min (part_len facts rest) (length rest) =
    length-take (part_len facts rest) rest in omega (arith, l)

-- what may be written is asked
asks_write : (file : FileAt) (part : List ℕ) (site left : Site) (answers : Answers) (o : Outcome) → file.writable ≡ true
    → file.offset + length part ≤ MAX_FILE_LEN → ask_write file part site answers ≡ Done o left → ⊥
asks_write file part site left answers o writable small e = by_tests (not file.writable)
    (overflows file.offset (length part)) (ap not writable) within e
  where
    within : overflows file.offset (length part) ≡ false
    within = grind (arith, nat_tests)

    by_tests : (a b : Bool) → a ≡ false → b ≡ false
        → (if a then refuses_io kind.NotWritable site else if b then refuses_io kind.OffsetOverflow site else
        Ask (request.Write (handle_of (answers file.grant)) file.offset part)) ≡ Done o left → ⊥
    by_tests true b x y e = cc
    by_tests false true x y e = cc
    by_tests false false x y e = (let both : false ≡ true = ap is_done e in cc)

rest_ends : (file : FileAt) (rest : List ℕ) (site left : Site) (facts : Facts) (own : Own) (answers : Answers)
    (o : Outcome) → file.writable ≡ true
    → file.offset + length rest ≤ MAX_FILE_LEN → AreOk answers own → rest_next nowhere file rest site facts own answers
    ≡ Done o left → o ≡ outcome.Done
rest_ends file rest site left facts [] answers o writable small ok e = by_test (length rest == 0) e
  where
    by_test : (b : Bool) → (if b then Done outcome.Done site else ask_write file (next_part facts rest) site answers)
        ≡ Done o left → o ≡ outcome.Done
    by_test true e = sym (ap outcome_of e)
    by_test false e = absurd (asks_write file (next_part facts rest) site left answers o writable
        (let p = part_short facts rest in omega (arith, p, small)) e)
rest_ends file rest site left facts (asked ∷ later) answers o writable small ok e =
    by_answer (answers asked.0) (ok asked.0 (inl refl)) e
    (λ more. rest_ends (further file (part_len facts rest)) (drop (part_len facts rest) rest) site left facts later
    answers o writable
    (let l : length (drop (part_len facts rest) rest) ≡ length rest - part_len facts rest =
    length-drop (part_len facts rest) rest in omega (arith, l, small))
    (λ place h. ok place (inr h)) more)
  where
    go : Move
    go = rest_next nowhere (further file (part_len facts rest)) (drop (part_len facts rest) rest) site facts later
        answers

    by_answer : (a : Option Reply) → IsReply a (reply.Status SSH_FX_OK [] [])
        → once_answered asked.0 a (λ r. on_status r site go) ≡ Done o left
        → (go ≡ Done o left → o ≡ outcome.Done) → o ≡ outcome.Done
    by_answer None is e again = absurd (let both : false ≡ true = ap is_done e in cc)
    by_answer (Some r) is e again = again (sym (ap (λ (w : Reply). on_status w site go) is) ∙ e)

-- ---- the machine's answers

-- the name has a file, or may have one
abbrev pub MayOpen : FileTree → Name → Type 0
MayOpen tree name = ((file : ℕ) × (node_at tree name ≡ Some (node.File file))) ⊎ MayStand tree name

open_grants : (tree : FileTree) (handle : List ℕ) (name : Name) → MayOpen tree name
    → (after_open tree handle to_replace.0 name (node_at tree name)).0 ≡ reply.Handle handle
open_grants tree handle name (inl (file, is)) = rw is refl
open_grants tree handle name (inr (none, parent, short)) =
    rw none (by_tests (not (is_directory (node_at tree (parent_of name)))) (is_long_name name) (ap not parent) short)
  where
    x : Answer
    x = grant_answer (with_file tree name) handle (held_by to_replace.0 (length tree.files))

    by_tests : (a b : Bool) → a ≡ false → b ≡ false → (if a then refusal_answer tree SSH_FX_NO_SUCH_FILE else if b then
        refusal_answer tree SSH_FX_FAILURE else x).0 ≡ reply.Handle handle
    by_tests true b p q = absurd cc
    by_tests false true p q = absurd cc
    by_tests false false p q = refl

-- a WRITE at the end of a file, within its bounds
pub write_ok : (first : FileTree) (claims : NameClaims) (config : ServerConfig) (name : Name) (h : List ℕ) (total : ℕ)
    (tree : FileTree) (s : Step)
    → (claim : Name × ℕ) → Among claim claims → claim.0 ≡ name → total ≤ claim.1 → total ≤ MAX_FILE_LEN
    → all_bytes first + claims_sum claims ≤ MAX_TOTAL_LEN
    → IsWellFormed tree → AreFit first claims tree → RefusesNone s.choice → WritesOn name h total tree s
    → (answer_to config tree s).0 ≡ reply.Status SSH_FX_OK [] []
write_ok first claims config name h total tree s claim there named le short all well fit unrefused w =
    let held : Held = w.open_to.held in
    let size : size_of tree held.file ≡ length w.bytes = ap length
    (ap (bytes_of tree) w.open_to.same ∙ w.open_to.bytes_are) in
    let within = w.within in
    let claimed : IsClaimed tree claims held.file (size_of tree held.file + length w.part) = record {
      claim = claim;
      there = there;
      is = ap (node_at tree) named ∙ (w.open_to.is ∙ ap (λ (f : ℕ). Some (node.File f)) (sym w.open_to.same));
      within = omega (arith, size, within, le);
    } in
    let known : held.file < length tree.files = subst (λ (f : ℕ). f < length tree.files) (sym w.open_to.same)
    (well.named name w.open_to.file (name_has tree name w.open_to.file w.open_to.is)) in
    let fits : is_over tree held.file (max (size_of tree held.file) (size_of tree held.file + length w.part)) ≡ false =
    write_fits first claims tree held.file w.part fit claimed known (omega (arith, size, within, short)) all in
    let fits_at : is_over tree held.file (max (size_of tree held.file) (length w.bytes + length w.part)) ≡ false =
    subst (λ (n : ℕ). is_over tree held.file (max (size_of tree held.file) (n + length w.part)) ≡ false) size fits in
    ap (λ (x : Answer). x.0) (ap (λ (r : Request). apply tree config r s.choice s.handle) w.asks
    ∙ answers_as tree config (request.Write h (length w.bytes) w.part) s.choice s.handle unrefused)
    ∙ rw (w.open_to.opened_is, w.open_to.open_so.0, w.open_to.open_so.1) (rw fits_at refl)

-- ---- the call

-- what a step of the call's answers, each at its place
replies_of : (answers : Answers) (config : ServerConfig) (own : Own) (tree : FileTree) (steps : List Step) (r : Reply)
    → AreServed config answers tree steps
    → AllOwn (λ t s. (answer_to config t s).0 ≡ r) config own tree steps → (place : ℕ) → HasRequest own place
    → HasPlace steps place → Came answers place r
replies_of answers config own tree [] r served all place has there = absurd there
replies_of answers config own tree (s ∷ steps) r served all place has (inl e) =
    subst (λ (k : ℕ). Came answers k r) e
    (subst (IsReply (answers s.place)) (all.0 (subst (HasRequest own) (sym e) has)) served.1)
replies_of answers config own tree (s ∷ steps) r served all place has (inr more) =
    replies_of answers config own (answer_to config tree s).1 steps r served.2 all.1 place has more

-- each WRITE of the call is answered well
all_ok : (first : FileTree) (claims : NameClaims) (config : ServerConfig) (name : Name) (h : List ℕ) (total : ℕ)
    (own : Own) (tree : FileTree) (steps : List Step)
    → (claim : Name × ℕ) → Among claim claims → claim.0 ≡ name → total ≤ claim.1 → total ≤ MAX_FILE_LEN
    → all_bytes first + claims_sum claims ≤ MAX_TOTAL_LEN
    → IsWellFormed tree → AllSteps (λ t s. AreFit first claims t) config tree steps → ChooseOnly RefusesNone steps
    → AllOwn (WritesOn name h total) config own tree steps
    → AllOwn (λ t s. (answer_to config t s).0 ≡ reply.Status SSH_FX_OK [] []) config own tree steps
all_ok first claims config name h total own tree [] claim there named le short all well fit chosen writes = tt
all_ok first claims config name h total own tree (s ∷ steps) claim there named le short all well fit chosen writes = (
  λ mine. write_ok first claims config name h total tree s claim there named le short all well fit.0 chosen.0
      (writes.0 mine),
  all_ok first claims config name h total own (answer_to config tree s).1 steps claim there named le short all
      (step_well_formed config tree s well) fit.1 chosen.1 writes.1,
)

pub whole_write_ends : (first_tree : FileTree) (claims : NameClaims) (config : ServerConfig) (answers : Answers)
    (name : Name) (path content : List ℕ) (site : Site) (facts : Facts)
    (later : Own) (tree : FileTree) (first : Step) (steps : List Step) (ended : Outcome) → (claim : Name × ℕ)
    → Among claim claims → claim.0 ≡ name
    → length content ≤ claim.1 → length content ≤ MAX_FILE_LEN
    → all_bytes first_tree + claims_sum claims ≤ MAX_TOTAL_LEN
    → IsWellFormed tree → AreDistinct steps → AllSteps (λ t s. AreFit first_tree claims t) config tree (first ∷ steps)
    → ChooseOnly RefusesNone (first ∷ steps)
    → MayOpen tree name → components (from_directory site path) ≡ name
    → StandsOnName config answers name later tree first steps
    → HasEnded (call.FsWrite path content) site facts (asked_by first ∷ later) answers ended → ended ≡ outcome.Done
whole_write_ends first_tree claims config answers name path content site facts later tree first steps ended claim there
    named le short all well distinct fit chosen may denotes stands e =
    by_open (by first.place) said e.ends
  where
    by : Answers
    by = e.by

    whole : List ℕ
    whole = from_directory site path

    file : FileAt
    file = opened_file to_replace first.place

    go : Move
    go = rest_next nowhere file content site facts later by

    follow : Follow (λ own. fs_write_next path content site facts own by) (asked_by first ∷ later)
    follow = subst (Follow (λ own. fs_write_next path content site facts own by)) e.are
        (asked_in_order (fs_write_next path content site facts) e.requests by (fs_write_stays path content site facts)
        e.so_far.asked)

    served : AreServed config by tree (first ∷ steps)
    served = served_before config by answers tree (first ∷ steps) e.stay stands.served

    opens : (answer_to config tree first).0 ≡ reply.Handle first.handle
    opens = ap (λ (x : Answer). x.0) (step_opens config tree first to_replace whole
        (open_is to_replace whole site first.request follow.0) chosen.0)
        ∙ (ap (λ (w : Name). (after_open tree first.handle to_replace.0 w (node_at tree w)).0) denotes
        ∙ open_grants tree first.handle name may)

    said : IsReply (by first.place) (reply.Handle first.handle)
    said = subst (IsReply (by first.place)) opens served.1

    ok : AreOk by later
    ok place has = replies_of by config later (answer_to config tree first).1 steps (reply.Status SSH_FX_OK [] [])
        served.2
        (all_ok first_tree claims config name (handle_of (answers first.place)) (length content) later
        (answer_to config tree first).1 steps claim there named le short all
        (step_well_formed config tree first well) fit.1 chosen.1
        (write_own config answers name path content site facts later tree first steps ended well distinct denotes stands
        e)) place has
        (stand_has config name (handle_of (answers first.place)) later (answer_to config tree first).1 steps place
        stands.stands has)

    by_open : (o : Option Reply) → IsReply o (reply.Handle first.handle)
        → once_answered first.place o (λ r. on_handle r site (λ handle. go)) ≡ Done ended e.left
        → ended ≡ outcome.Done
    by_open None is ends = absurd (let both : false ≡ true = ap is_done ends in cc)
    by_open (Some r) is ends = rest_ends file content site e.left facts later by ended refl (omega (arith, short)) ok
        (sym (ap (λ (w : Reply). on_handle w site (λ handle. go)) is) ∙ ends)
