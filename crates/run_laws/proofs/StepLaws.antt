-- What steps that spare a name leave of it, and parts of runs.
use Rattle.std.proofs.Common.{◌≡◌, ◌≢◌, ℕ, ◌==◌, true, false, List, [], ◌∷◌, ◌++◌, Option, Some, None, refl, ap, sym, ◌∙◌, inl, inr}
use Rattle.std.proofs.lemmas.Bool.Decides.{eqb_tells}
use Rattle.sftp_model.specs.Answers.{is_handle}
use Rattle.sftp_model.specs.Numbers.{SSH_FX_OK}
use Rattle.sftp_model.specs.declared.config.Choice.{Choice}
use Rattle.sftp_model.specs.declared.config.ServerConfig.{ServerConfig}
use Rattle.sftp_model.specs.declared.reply.Reply.{Reply}
use Rattle.sftp_model.specs.declared.reply.Reply.TheVariants as reply
use Rattle.sftp_model.specs.declared.request.Request.{Request}
use Rattle.machine_model.proofs.WellFormedLaws.{well_formed_after}
use Rattle.machine_model.specs.Changes.{IsWellFormed}
use Rattle.machine_model.specs.Components.{Name}
use Rattle.machine_model.specs.FileTree.{FileTree, node_at}
use Rattle.machine_model.specs.HandleRequests.{Answer, refusal_answer}
use Rattle.machine_model.specs.TreeAnswers.{apply}
use Rattle.plan_model.specs.Moves.{Answers}
use Rattle.plan_model.specs.OwnRequests.{ExtendsAnswers}
use Rattle.session_model.specs.Served.{IsReply}
use Rattle.run_laws.specs.Sparing.{SparesName}
use Rattle.run_laws.specs.Steps.{Step, answer_to, after, AreServed, AllSpare, HasBytes}
use Rattle.run_laws.proofs.MoveWords.{code_of}
use Rattle.run_laws.proofs.NodeLaws.{node_stays, bytes_stay}

-- ---- one step

pub step_well_formed : (config : ServerConfig) (tree : FileTree) (s : Step) → IsWellFormed tree
    → IsWellFormed (answer_to config tree s).1
step_well_formed config tree s well_formed = well_formed_after tree config s.request s.choice s.handle well_formed

pub step_node : (config : ServerConfig) (name : Name) (tree : FileTree) (s : Step) → SparesName tree name s.request
    → node_at (answer_to config tree s).1 name ≡ node_at tree name
step_node config name tree s spares = node_stays tree config s.request s.choice s.handle name spares.avoids

pub step_bytes : (config : ServerConfig) (name : Name) (bytes : List ℕ) (tree : FileTree) (s : Step) → IsWellFormed tree
    → SparesName tree name s.request → HasBytes tree name bytes → HasBytes (answer_to config tree s).1 name bytes
step_bytes config name bytes tree s well_formed spares has =
    record {
      file = has.file;
      is = step_node config name tree s spares ∙ has.is;
      bytes_are = bytes_stay tree config s.request s.choice s.handle name has.file well_formed spares has.is
          ∙ has.bytes_are;
    }

-- ---- any steps

pub steps_well_formed : (config : ServerConfig) (tree : FileTree) (steps : List Step) → IsWellFormed tree
    → IsWellFormed (after config tree steps)
steps_well_formed config tree [] well_formed = well_formed
steps_well_formed config tree (s ∷ steps) well_formed = steps_well_formed config (answer_to config tree s).1 steps
    (step_well_formed config tree s well_formed)

-- steps that spare a name leave what it has, be it a file, a directory or nothing
pub steps_node : (config : ServerConfig) (name : Name) (tree : FileTree) (steps : List Step)
    → AllSpare config name tree steps → node_at (after config tree steps) name ≡ node_at tree name
steps_node config name tree [] all = refl
steps_node config name tree (s ∷ steps) all = steps_node config name (answer_to config tree s).1 steps all.1
    ∙ step_node config name tree s all.0

-- and the bytes of its file
pub steps_bytes : (config : ServerConfig) (name : Name) (bytes : List ℕ) (tree : FileTree) (steps : List Step)
    → IsWellFormed tree → AllSpare config name tree steps → HasBytes tree name bytes
    → HasBytes (after config tree steps) name bytes
steps_bytes config name bytes tree [] well_formed all has = has
steps_bytes config name bytes tree (s ∷ steps) well_formed all has =
    steps_bytes config name bytes (answer_to config tree s).1 steps (step_well_formed config tree s well_formed) all.1
    (step_bytes config name bytes tree s well_formed all.0 has)

-- ---- steps after one another

pub after_two : (config : ServerConfig) (tree : FileTree) (xs ys : List Step) → after config tree (xs ++ ys)
    ≡ after config (after config tree xs) ys
after_two config tree [] ys = refl
after_two config tree (x ∷ xs) ys = after_two config (answer_to config tree x).1 xs ys

pub served_first : (config : ServerConfig) (answers : Answers) (tree : FileTree) (xs ys : List Step)
    → AreServed config answers tree (xs ++ ys) → AreServed config answers tree xs
served_first config answers tree [] ys served = tt
served_first config answers tree (x ∷ xs) ys served = (
  served.0,
  served.1,
  served_first config answers (answer_to config tree x).1 xs ys served.2,
)

pub served_rest : (config : ServerConfig) (answers : Answers) (tree : FileTree) (xs ys : List Step)
    → AreServed config answers tree (xs ++ ys) → AreServed config answers (after config tree xs) ys
served_rest config answers tree [] ys served = served
served_rest config answers tree (x ∷ xs) ys served = served_rest config answers (answer_to config tree x).1 xs ys
    served.2

-- ---- replies

-- the reply that was taken is this one
pub reply_is : (o : Option Reply) (r x : Reply) → o ≡ Some r → IsReply o x → r ≡ x
reply_is None r x e is = absurd cc
reply_is (Some taken) r x e is = (let same : taken ≡ r = cc in sym same ∙ is)

-- what is served by some replies is served by fewer of them
reply_before : (before now : Option Reply) (x : Reply) → ((r : Reply) → before ≡ Some r → now ≡ Some r) → IsReply now x
    → IsReply before x
reply_before None now x stays is = tt
reply_before (Some r) now x stays is = reply_is now r x (stays r refl) is

pub served_before : (config : ServerConfig) (before now : Answers) (tree : FileTree) (steps : List Step)
    → ExtendsAnswers before now → AreServed config now tree steps → AreServed config before tree steps
served_before config before now tree [] stays served = tt
served_before config before now tree (s ∷ steps) stays served = (
  served.0,
  reply_before (before s.place) (now s.place) (answer_to config tree s).0 (stays s.place) served.1,
  served_before config before now (answer_to config tree s).1 steps stays served.2,
)

-- ---- choices

-- a request that is refused by choice
pub refused_as : (tree : FileTree) (config : ServerConfig) (r : Request) (choice : Choice) (handle : List ℕ)
    → (choice.refuse == SSH_FX_OK) ≡ false → apply tree config r choice handle ≡ refusal_answer tree choice.refuse
refused_as tree config r choice handle e = rw e refl

-- what is answered otherwise is not refused so
pub unrefused_by : (tree : FileTree) (config : ServerConfig) (r : Request) (choice : Choice) (handle : List ℕ)
    (x : Reply) → ((code : ℕ) → code ≢ SSH_FX_OK → x ≡ reply.Status code [] [] → ⊥) → x
    ≡ (apply tree config r choice handle).0
    → choice.refuse ≡ SSH_FX_OK
unrefused_by tree config r choice handle x other said =
    elim (eqb_tells choice.refuse SSH_FX_OK) [
      | inl t ↦ t.1
      | inr t ↦ absurd (other choice.refuse t.1 (said ∙ ap (λ (w : Answer). w.0)
          (refused_as tree config r choice handle t.0)))
    ]

-- a step that was answered by a STATUS 0 or by a HANDLE is not refused so
pub ok_unrefused : (config : ServerConfig) (tree : FileTree) (s : Step) (message language : List ℕ)
    → reply.Status SSH_FX_OK message language ≡ (answer_to config tree s).0 → s.choice.refuse ≡ SSH_FX_OK
ok_unrefused config tree s message language said = unrefused_by tree config s.request s.choice s.handle
    (reply.Status SSH_FX_OK message language) (λ code ne e. ne (sym (ap code_of e))) said

pub handle_unrefused : (config : ServerConfig) (tree : FileTree) (s : Step) (h : List ℕ) → reply.Handle h
    ≡ (answer_to config tree s).0 → s.choice.refuse ≡ SSH_FX_OK
handle_unrefused config tree s h said = unrefused_by tree config s.request s.choice s.handle (reply.Handle h)
    (λ code ne e. let both : true ≡ false = ap is_handle e in cc) said
