-- Files that were opened anew and written by further requests: what is left of them.
use Rattle.std.proofs.Common.{◌≡◌, ◌+◌, ℕ, Bool, List, [], ◌∷◌, ◌++◌, length, Option, Some, refl, ap, sym, ◌∙◌, subst, arith, inl, inr}
use Rattle.std.proofs.lemmas.List.{append-nil, append_assoc, length-append}
use Rattle.sftp_model.specs.Numbers.{SSH_FX_OK}
use Rattle.sftp_model.specs.declared.config.ServerConfig.{ServerConfig}
use Rattle.sftp_model.specs.declared.reply.Reply.TheVariants as reply
use Rattle.sftp_model.specs.declared.request.Request.TheVariants as request
use Rattle.machine_model.specs.Changes.{IsWellFormed}
use Rattle.machine_model.specs.Components.{Name, components}
use Rattle.machine_model.specs.FileTree.{FileTree, node_at}
use Rattle.machine_model.specs.HandleRequests.{Answer, after_open}
use Rattle.plan_model.specs.FilePlans.{open_request}
use Rattle.plan_model.specs.Moves.{Answers, Own, handle_of}
use Rattle.plan_model.specs.WholePlans.{to_replace}
use Rattle.run_laws.specs.CallsAmong.{IsOpenTo, AreAmongSteps, StandsOnName, ToWrite}
use Rattle.run_laws.specs.DeferredWrites.{AreWrites, AreWritten, carried_bytes, content_in, places}
use Rattle.run_laws.specs.GrantUses.{IsCallOn, IsRunOn}
use Rattle.run_laws.specs.Steps.{AreServed, HasBytes, Step, after, answer_to}
use Rattle.run_laws.proofs.MoveWords.{code_of}
use Rattle.run_laws.proofs.OpenLaws.{opens_to_write, step_opens}
use Rattle.run_laws.proofs.RunLaws.{call_stands}
use Rattle.run_laws.proofs.StepLaws.{after_two, handle_unrefused, ok_unrefused, reply_is, step_well_formed, steps_bytes, steps_well_formed}
use Rattle.run_laws.proofs.WriteLaws.{open_bytes, put_end, step_open, step_writes}

-- WRITEs one after another, each answered by a STATUS 0, among steps that spare the name
stand_writes : (config : ServerConfig) (answers : Answers) (name : Name) (h : List ℕ) (steps : List Step) (own : Own)
    (tree : FileTree) (bytes : List ℕ) → IsWellFormed tree → IsOpenTo ToWrite tree name h bytes
    → AreServed config answers tree steps
    → AreAmongSteps config name h own tree steps → AreWrites h (length bytes) own → AreWritten answers (places own)
    → HasBytes (after config tree steps) name (bytes ++ carried_bytes own)
stand_writes config answers name h steps [] tree bytes well_formed has served stand asks said =
    steps_bytes config name (bytes ++ []) tree steps well_formed stand
    (subst (λ (w : List ℕ). HasBytes tree name w) (sym (append-nil bytes))
    (open_bytes ToWrite tree name h bytes has))
stand_writes config answers name h [] (asked ∷ later) tree bytes well_formed has served stand asks said = absurd stand
stand_writes config answers name h (s ∷ steps) (asked ∷ later) tree bytes well_formed has served stand asks said =
    elim stand [
      | inl own ↦
          (let part : List ℕ = content_in asked.1 in
          let is : s.request ≡ request.Write h (length bytes) part = own.1 ∙ asks.0 in
          let answer : reply.Status SSH_FX_OK said.0.0 said.0.1.0 ≡ (answer_to config tree s).0 =
          reply_is (answers s.place) _ _ (ap answers own.0 ∙ said.0.1.1) served.1 in
          let now : IsOpenTo ToWrite (answer_to config tree s).1 name h (bytes ++ part) =
          subst (λ (w : List ℕ). IsOpenTo ToWrite (answer_to config tree s).1 name h w) (put_end bytes part)
          (step_writes config tree name h bytes part (length bytes) s well_formed has is
          (ok_unrefused config tree s said.0.0 said.0.1.0 answer) (sym (ap code_of answer))) in
          let further : length bytes + length part ≡ length (bytes ++ part) = let l = length-append bytes part in
          omega (arith, l) in
          subst (λ (w : List ℕ). HasBytes (after config (answer_to config tree s).1 steps) name w)
          (append_assoc bytes part (carried_bytes later))
          (stand_writes config answers name h steps later (answer_to config tree s).1 (bytes ++ part)
          (step_well_formed config tree s well_formed) now served.2 own.2
          (subst (λ (k : ℕ). AreWrites h k later) further asks.1) said.1))
      | inr other ↦
          stand_writes config answers name h steps (asked ∷ later) (answer_to config tree s).1 bytes
          (step_well_formed config tree s well_formed) (step_open ToWrite config name h bytes tree s well_formed
          other.0 other.1 has) served.2 other.2 asks
          said
    ]

-- A name was opened to be written anew and was written by what stands among the steps behind: it has the bytes of that.
pub anew_writes : (config : ServerConfig) (answers : Answers) (name : Name) (path h : List ℕ) (later : Own)
    (tree : FileTree) (first : Step) (steps : List Step) → IsWellFormed tree → first.request
    ≡ open_request to_replace path → components path ≡ name
    → answers first.place ≡ Some (reply.Handle h) → StandsOnName config answers name later tree first steps
    → AreWrites h 0 later → AreWritten answers (places later)
    → HasBytes (after config tree (first ∷ steps)) name (carried_bytes later)
anew_writes config answers name path h later tree first steps well_formed asks denotes came stands writes said =
    let answer : reply.Handle h ≡ (answer_to config tree first).0 =
    reply_is (answers first.place) _ _ came stands.served.1 in
    let is : answer_to config tree first ≡ after_open tree first.handle to_replace.0 (components path)
    (node_at tree (components path)) = step_opens config tree first to_replace path asks
    (handle_unrefused config tree first h answer) in
    let held : IsOpenTo ToWrite (answer_to config tree first).1 name h [] =
    subst (λ (w : Name). IsOpenTo ToWrite (answer_to config tree first).1 w h []) denotes
    (subst (λ (w : Answer). IsOpenTo ToWrite w.1 (components path) h []) (sym is)
    (opens_to_write tree first.handle (components path) (node_at tree (components path)) h well_formed refl
    stands.served.0.1 (sym (answer ∙ ap (λ (w : Answer). w.0) is)))) in
    stand_writes config answers name h steps later (answer_to config tree first).1 []
    (step_well_formed config tree first well_formed) held stands.served.2
    (subst (λ (w : List ℕ). AreAmongSteps config name w later (answer_to config tree first).1 steps) (ap handle_of came)
    stands.stands) writes said

-- and so in a whole run
pub anew_stays : (config : ServerConfig) (answers : Answers) (grant_of : ℕ → Option ℕ) (elsewhere : ℕ → Bool)
    (name : Name) (tree : FileTree) (before rest : List Step) (w : Step) (path h : List ℕ) (later : Own)
    → IsWellFormed tree → IsRunOn config answers grant_of elsewhere name tree (before ++ w ∷ rest)
    → IsCallOn answers grant_of elsewhere name later w rest → w.request ≡ open_request to_replace path
    → components path ≡ name
    → answers w.place ≡ Some (reply.Handle h) → AreWrites h 0 later → AreWritten answers (places later)
    → HasBytes (after config tree (before ++ w ∷ rest)) name (carried_bytes later)
anew_stays config answers grant_of elsewhere name tree before rest w path h later well_formed run is asks denotes came
    writes said =
    subst (λ (left : FileTree). HasBytes left name (carried_bytes later))
    (sym (after_two config tree before (w ∷ rest)))
    (anew_writes config answers name path h later (after config tree before) w rest
    (steps_well_formed config tree before well_formed) asks denotes came
    (call_stands config answers grant_of elsewhere name tree before rest w later well_formed run is) writes said)
