-- believed, except IsAnyChoice, RefusesNone, AreAllowed, ChooseOnly, AllSpare
-- Runs of the file machine as lists of steps.
use Rattle.std.specs.Prelude.{◌≡◌, ◌≢◌, ℕ, ◌⊎◌, List, [], ◌∷◌, map, Some}
use Rattle.sftp_model.specs.Numbers.{SSH_FX_EOF, SSH_FX_OK}
use Rattle.sftp_model.specs.declared.config.Choice.{Choice}
use Rattle.sftp_model.specs.declared.config.ServerConfig.{ServerConfig}
use Rattle.sftp_model.specs.declared.request.Request.{Request}
use Rattle.machine_model.specs.Components.{Name}
use Rattle.machine_model.specs.FileTree.{FileTree, bytes_of, node_at}
use Rattle.machine_model.specs.HandleRequests.{Answer}
use Rattle.machine_model.specs.TreeAnswers.{apply, first_choice}
use Rattle.machine_model.specs.declared.node.Node.TheVariants as node
use Rattle.plan_model.specs.Moves.{Answers, Own}
use Rattle.session_model.specs.declared.entry.Entry.{Entry}
use Rattle.session_model.specs.Readings.{answer}
use Rattle.session_model.specs.Served.{IsReply, MayGrant, requests_sent}
use Rattle.run_laws.specs.Sparing.{SparesName}

-- ---- Runs

-- A request with its place, the choice that it took, and the handle that it is granted if it is granted one.
pub record Step : Type 0 where
  pub place : ℕ
  pub request : Request
  pub choice : Choice
  pub handle : List ℕ

-- The machine's reply to a step, and the tree after it.
abbrev pub answer_to : ServerConfig → FileTree → Step → Answer
answer_to config tree s = apply tree config s.request s.choice s.handle

-- The tree after these steps.
abbrev pub after : ServerConfig → FileTree → List Step → FileTree
after config tree [] = tree
after config tree (s ∷ steps) = after config (answer_to config tree s).1 steps

-- Each handle may be granted, and the replies that were taken are the machine's.
abbrev pub AreServed : ServerConfig → Answers → FileTree → List Step → Type 0
AreServed config answers tree [] = Unit {0}
AreServed config answers tree (s ∷ steps) =
    MayGrant tree s.handle × IsReply (answers s.place) (answer_to config tree s).0
    × AreServed config answers (answer_to config tree s).1 steps

-- ---- Places

-- A step has the place.
abbrev pub HasPlace : List Step → ℕ → Type 0
HasPlace [] place = ⊥
HasPlace (s ∷ steps) place = (s.place ≡ place) ⊎ HasPlace steps place

-- No two steps have one place.
abbrev pub AreDistinct : List Step → Type 0
AreDistinct [] = Unit {0}
AreDistinct (s ∷ steps) = ((place : ℕ) → HasPlace steps place → s.place ≢ place) × AreDistinct steps

-- The places and requests of steps.
abbrev pub asked_in : List Step → Own
asked_in steps = map (λ (s : Step). (let p : ℕ × Request = (s.place, s.request) in p)) steps

-- ---- Choices

-- No request is refused by choice.
abbrev pub RefuseNone : List Choice → Type 0
RefuseNone [] = Unit {0}
RefuseNone (choice ∷ choices) = (choice.refuse ≡ SSH_FX_OK) × RefuseNone choices

-- The choice does not refuse a request by the status that means an end, as that of a READDIR after the last entry.
abbrev pub FeignsNoEnd : Choice → Type 0
FeignsNoEnd choice = choice.refuse ≢ SSH_FX_EOF

abbrev pub FeignNoEnd : List Choice → Type 0
FeignNoEnd [] = Unit {0}
FeignNoEnd (choice ∷ choices) = FeignsNoEnd choice × FeignNoEnd choices

abbrev pub IsAnyChoice : Choice → Type 0
IsAnyChoice choice = Unit {0}

-- The choice refuses no request.
abbrev pub RefusesNone : Choice → Type 0
RefusesNone choice = choice.refuse ≡ SSH_FX_OK

-- Each of the choices that requests take is one of these, also after the last of the list.
abbrev pub AreAllowed : (Choice → Type 0) → List Choice → Type 0
AreAllowed allowed [] = allowed (first_choice [])
AreAllowed allowed (choice ∷ choices) = allowed choice × AreAllowed allowed choices

-- The choice of each step is one of these.
abbrev pub ChooseOnly : (Choice → Type 0) → List Step → Type 0
ChooseOnly allowed [] = Unit {0}
ChooseOnly allowed (s ∷ steps) = allowed s.choice × ChooseOnly allowed steps

-- ---- Journals

-- The machine's run that serves a journal: the requests that were sent, each a step at its place, with the tree `now`
-- after them.
pub record RunOf (config : ServerConfig) (choices : List Choice) (first : FileTree) (past : List Entry) (now : FileTree)
    : Type 0 where
  pub steps : List Step
  pub asks : asked_in steps ≡ requests_sent past
  pub served : AreServed config (answer past) first steps
  pub leaves : now ≡ after config first steps
  pub distinct : AreDistinct steps

-- ---- Names that are spared

-- Each step spares the name.
abbrev pub AllSpare : ServerConfig → Name → FileTree → List Step → Type 0
AllSpare config name tree [] = Unit {0}
AllSpare config name tree (s ∷ steps) = SparesName tree name s.request
    × AllSpare config name (answer_to config tree s).1 steps

-- The name has a file with these bytes.
pub record HasBytes (tree : FileTree) (name : Name) (bytes : List ℕ) : Type 0 where
  pub file : ℕ
  pub is : node_at tree name ≡ Some (node.File file)
  pub bytes_are : bytes_of tree file ≡ bytes
