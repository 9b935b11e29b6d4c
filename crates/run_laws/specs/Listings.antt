-- believed
-- Directories that calls list, in journals that a file machine serves.
use Rattle.std.specs.Prelude.{◌≡◌, ℕ, ◌==◌, List, [], ◌∷◌, ◌++◌, Some, filter, if◌then◌else◌, nat_lt}
use Rattle.sftp_model.specs.Slots.{fresh_site}
use Rattle.sftp_model.specs.declared.config.Choice.{Choice}
use Rattle.sftp_model.specs.declared.config.ServerConfig.{ServerConfig}
use Rattle.sftp_model.specs.declared.reply.NameEntry.{NameEntry}
use Rattle.sftp_model.specs.declared.request.Request.TheVariants as request
use Rattle.sftp_model.specs.declared.slot.Site.{Site}
use Rattle.machine_model.specs.Components.{components}
use Rattle.machine_model.specs.FileTree.{FileTree}
use Rattle.machine_model.specs.NameRequests.{entries_at}
use Rattle.machine_model.specs.Trees.{IsTree, ListOnce}
use Rattle.plan_model.specs.Moves.{Own}
use Rattle.plan_model.specs.PathPlans.{from_directory}
use Rattle.session_model.specs.declared.entry.Entry.{Entry}
use Rattle.session_model.specs.declared.event.Owner.TheVariants as owner
use Rattle.session_model.specs.Calls.{Setting, site_of}
use Rattle.session_model.specs.Readings.{AskedRequest, asked_at, count_ended}
use Rattle.session_model.specs.Served.{ServesAll, requests_sent}
use Rattle.run_laws.specs.Steps.{FeignNoEnd}

-- ---- The tree when a request came

-- The requests of these that come before a place.
abbrev pub before_place : ℕ → Own → Own
before_place place requests = filter (λ r. nat_lt r.0 place) requests

-- The tree that the machine had when the request at a place came: the result of the requests that were sent before it.
abbrev pub IsTreeAt : ServerConfig → List Choice → FileTree → List Entry → ℕ → FileTree → Type 0
IsTreeAt config choices first past place now = ServesAll config past first choices
    (before_place place (requests_sent past)) now

-- ---- The lane when a call started

-- The site of a lane when its call with this number starts: its site in the last part of the journal after which this
-- many of its calls had ended.
abbrev pub site_at : Setting → List Entry → ℕ → ℕ → Site
site_at s [] lane k = fresh_site
site_at s (e ∷ past) lane k = if count_ended (e ∷ past) lane == k then site_of s (e ∷ past) lane else
    site_at s past lane k

-- ---- A listing

-- A call of a lane listed the directory at a path, from the lane's directory then, and returned these names.
--
-- It asked an OPENDIR of it. The names are the first of the entries that the directory had when this came, in the order
-- of their names: all of them, if no choice feigns an end. In a tree each name occurs once.
pub record IsListed (s : Setting) (config : ServerConfig) (choices : List Choice) (first : FileTree) (past : List Entry)
    (lane k : ℕ) (path : List ℕ) (names : List NameEntry) : Type 0 where
  pub place : ℕ
  pub asked : AskedRequest
  pub stands : asked_at past place ≡ Some asked
  pub by : asked.by ≡ owner.Call lane k
  pub asks : asked.request ≡ request.Opendir (from_directory (site_at s past lane k) path)
  pub tree : FileTree
  pub had : IsTreeAt config choices first past place tree
  pub begins : (rest : List NameEntry) × (entries_at tree (components (from_directory (site_at s past lane k) path))
      ≡ names ++ rest)
  pub entries : FeignNoEnd choices → names ≡ entries_at tree (components (from_directory (site_at s past lane k) path))
  pub once : IsTree first → ListOnce names
