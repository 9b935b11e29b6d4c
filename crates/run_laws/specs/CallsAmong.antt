-- believed: ToWrite, GivesContent, refusal_of, HasNoFile
-- The requests of one call among those of others, and its end.
use Rattle.std.specs.Prelude.{◌≡◌, ◌≢◌, ℕ, ◌⊎◌, true, false, List, [], ◌∷◌, Option, Some, None}
use Rattle.sftp_model.specs.Numbers.{SSH_FX_FAILURE, SSH_FX_NO_SUCH_FILE, SSH_FX_OK}
use Rattle.sftp_model.specs.declared.config.Choice.{Choice}
use Rattle.sftp_model.specs.declared.config.ServerConfig.{ServerConfig}
use Rattle.sftp_model.specs.declared.error.Error.TheVariants as error
use Rattle.sftp_model.specs.declared.outcome.Outcome.{Outcome}
use Rattle.sftp_model.specs.declared.outcome.Outcome.TheVariants as outcome
use Rattle.sftp_model.specs.declared.request.Request.{Request}
use Rattle.sftp_model.specs.declared.slot.Facts.{Facts}
use Rattle.sftp_model.specs.declared.slot.Move.TheVariants.{Done}
use Rattle.sftp_model.specs.declared.slot.Site.{Site}
use Rattle.machine_model.specs.Changes.{ClosesHandle, ListsEntries}
use Rattle.machine_model.specs.Components.{Name}
use Rattle.machine_model.specs.FileTree.{FileTree, bytes_of, node_at, opened_at}
use Rattle.machine_model.specs.declared.node.Node.{Node}
use Rattle.machine_model.specs.declared.node.Node.TheVariants as node
use Rattle.machine_model.specs.declared.opened.Held.{Held}
use Rattle.machine_model.specs.declared.opened.Opened.TheVariants as opened
use Rattle.plan_model.specs.declared.call.Call.{Call}
use Rattle.plan_model.specs.CallPlans.{next}
use Rattle.plan_model.specs.Moves.{Answers, Own, handle_of}
use Rattle.plan_model.specs.OwnRequests.{ExtendsAnswers, IsCallSoFar, oldest_first}
use Rattle.run_laws.specs.Sparing.{SparesName}
use Rattle.run_laws.specs.Steps.{Step, answer_to, AllSpare, AreServed}

-- ---- The end of a call

-- A call made these requests, the oldest first, as its plan asked them, and ended with this outcome by the replies that
-- had come by then. All of these replies stayed.
pub record HasEnded (c : Call) (site : Site) (facts : Facts) (own : Own) (answers : Answers) (ended : Outcome) : Type 0
  where
    pub by : Answers
    pub stay : ExtendsAnswers by answers
    pub requests : Own
    pub are : oldest_first requests ≡ own
    pub so_far : IsCallSoFar c site facts requests by
    pub left : Site
    pub ends : next c site facts own by ≡ Done ended left

-- ---- A call on a name

-- These requests are among the steps in their order. Each other step spares the name, and up to the last of them none
-- closes the handle.
abbrev pub AreAmongSteps : ServerConfig → Name → List ℕ → Own → FileTree → List Step → Type 0
AreAmongSteps config name handle [] tree steps = AllSpare config name tree steps
AreAmongSteps config name handle (asked ∷ later) tree [] = ⊥
AreAmongSteps config name handle (asked ∷ later) tree (s ∷ steps) =
    ((s.place ≡ asked.0) × (s.request ≡ asked.1) × AreAmongSteps config name handle later (answer_to config tree s).1
    steps)
    ⊎ (SparesName tree name s.request × (ClosesHandle s.request handle → ⊥)
    × AreAmongSteps config name handle (asked ∷ later) (answer_to config tree s).1 steps)

-- A call opens a name by the first step, and its further requests have the handle that this was granted. They are among
-- the steps after it, whose other steps spare the name.
pub record StandsOnName (config : ServerConfig) (answers : Answers) (name : Name) (later : Own) (tree : FileTree)
    (first : Step) (steps : List Step) : Type 0 where
  pub served : AreServed config answers tree (first ∷ steps)
  pub stands : AreAmongSteps config name (handle_of (answers first.place)) later (answer_to config tree first).1 steps

-- ---- A call on a directory

-- These requests are among the steps in their order, and the choice for each is one of these. Up to the last of them no
-- other step takes entries by the handle or closes it.
abbrev pub StandListing : (Choice → Type 0) → ServerConfig → List ℕ → Own → FileTree → List Step → Type 0
StandListing choices config handle [] tree steps = Unit {0}
StandListing choices config handle (asked ∷ later) tree [] = ⊥
StandListing choices config handle (asked ∷ later) tree (s ∷ steps) =
    ((s.place ≡ asked.0) × (s.request ≡ asked.1) × choices s.choice
    × StandListing choices config handle later (answer_to config tree s).1 steps)
    ⊎ ((ClosesHandle s.request handle → ⊥) × (ListsEntries s.request handle → ⊥)
    × StandListing choices config handle (asked ∷ later) (answer_to config tree s).1 steps)

-- A call opens a directory by the first step, and its further requests have the handle that this was granted. They are
-- among the steps after it.
pub record StandsOnDirectory (choices : Choice → Type 0) (config : ServerConfig) (answers : Answers) (later : Own)
    (tree : FileTree) (first : Step) (steps : List Step) : Type 0 where
  pub served : AreServed config answers tree (first ∷ steps)
  pub stands : StandListing choices config (handle_of (answers first.place)) later (answer_to config tree first).1 steps

-- The place and the request of a step.
abbrev pub asked_by : Step → ℕ × Request
asked_by s = (s.place, s.request)

-- ---- Files that are open

-- The file was opened to write, and not to append.
abbrev pub ToWrite : Held → Type 0
ToWrite held = (held.writable ≡ true) × (held.append ≡ false)

abbrev pub ToRead : Held → Type 0
ToRead held = held.readable ≡ true

-- The name has a file with these bytes, and the handle has it open in this way.
pub record IsOpenTo (way : Held → Type 0) (tree : FileTree) (name : Name) (handle bytes : List ℕ) : Type 0 where
  pub file : ℕ
  pub is : node_at tree name ≡ Some (node.File file)
  pub bytes_are : bytes_of tree file ≡ bytes
  pub held : Held
  pub opened_is : opened_at tree handle ≡ Some (opened.File held)
  pub same : held.file ≡ file
  pub open_so : way held

-- ---- The outcome of a whole read

-- A whole read ends with the bytes, or has reached its bound.
abbrev pub GivesContent : Outcome → List ℕ → Type 0
GivesContent ended bytes = (ended ≡ outcome.Bytes bytes) ⊎ (ended ≡ outcome.GivenUp)

-- A request of it was refused by one of these choices.
pub record IsRefusedBy (allowed : Choice → Type 0) (ended : Outcome) : Type 0 where
  pub choice : Choice
  pub is : allowed choice
  pub refuses : choice.refuse ≢ SSH_FX_OK
  pub ended_so : ended ≡ outcome.Refused (error.SftpError choice.refuse [] [])

-- A whole read ends in this way, unless a request of it was refused by one of these choices.
abbrev pub GivesUnless : (Choice → Type 0) → Outcome → List ℕ → Type 0
GivesUnless allowed ended bytes = GivesContent ended bytes ⊎ IsRefusedBy allowed ended

-- The refusal of an OPEN to read.
abbrev pub refusal_of : Option Node → ℕ
refusal_of None = SSH_FX_NO_SUCH_FILE
refusal_of (Some node.Directory) = SSH_FX_FAILURE
refusal_of (Some (node.File file)) = SSH_FX_OK

-- The name has no file.
abbrev pub HasNoFile : Option Node → Type 0
HasNoFile None = Unit {0}
HasNoFile (Some node.Directory) = Unit {0}
HasNoFile (Some (node.File file)) = ⊥
