-- The actions of a plan, in order.
use Rattle.std.specs.Prelude.{◌&&◌, ℕ, Bool, true, false, not, List, [], ◌++◌, map, Option, Some, None, if◌then◌else◌}
use Rattle.transfer_sync.specs.Entries.{is_file, is_directory, is_link}
use Rattle.transfer_sync.specs.Paths.{Paths}
use Rattle.transfer_sync.specs.Rules.{is_other_mode}
use Rattle.transfer_sync.specs.Verdicts.{
  blocked_paths,
  choice_of,
  entry_left_at,
  has_other_attributes,
  is_blocked,
  is_other_content,
  sweep_of,
}
use Rattle.transfer_sync.specs.declared.action.Action.{Action}
use Rattle.transfer_sync.specs.declared.action.Step.{Step}
use Rattle.transfer_sync.specs.declared.action.Step.TheVariants.{
  RemoveFile,
  RemoveDirectory,
  MakeDirectory,
  CopyFile,
  MakeLink,
  SetAttributes,
}
use Rattle.transfer_sync.specs.declared.entry.Entry.{Entry}
use Rattle.transfer_sync.specs.declared.entry.Kind.{Kind}
use Rattle.transfer_sync.specs.declared.entry.Kind.TheVariants.{File, Directory, Link, Other}
use Rattle.transfer_sync.specs.declared.rules.Rules.{Rules}
use Rattle.transfer_sync.specs.declared.verdict.Part.{Part}
use Rattle.transfer_sync.specs.declared.verdict.Part.TheVariants.{Directories, Files, Links, Attributes}

-- ---- Removals

-- The removal of an entry of the target.
abbrev pub removal_action : Entry → Action
removal_action t = record { step = if is_directory t.kind then RemoveDirectory else RemoveFile; path = t.path }

-- The removals, in order.
abbrev pub removal_actions : Rules → List Entry → List Entry → List Action
removal_actions rules source target = map removal_action (sweep_of rules source target).removed

-- ---- Which parts an entry of the source is in

-- True if the entry is created or copied: nothing is left at its path, or something of the kind with other content.
abbrev pub needs_copy : Rules → Option Entry → Kind → Bool
needs_copy rules None kind = true
needs_copy rules (Some t) kind = is_other_content rules kind t.kind

-- True for a directory whose permissions are known. A directory that is created gets them last, so that it can be
-- written to before.
abbrev pub has_directory_mode : Kind → Bool
has_directory_mode (File f) = false
has_directory_mode (Directory mode) = is_other_mode mode None
has_directory_mode (Link text) = false
has_directory_mode Other = false

-- True if permissions and times are set. A file that is copied has them already.
abbrev pub needs_attributes : Rules → Option Entry → Kind → Bool
needs_attributes rules None kind = rules.keep && has_directory_mode kind
needs_attributes rules (Some t) kind =
    rules.keep && not (is_other_content rules kind t.kind) && has_other_attributes kind t.kind

-- True if an entry of this kind has an action in a part of the plan, by what is left at its path.
abbrev pub has_part_action : Rules → Part → Option Entry → Kind → Bool
has_part_action rules Directories left kind = is_directory kind && needs_copy rules left kind
has_part_action rules Files left kind = is_file kind && needs_copy rules left kind
has_part_action rules Links left kind = is_link kind && needs_copy rules left kind
has_part_action rules Attributes left kind = needs_attributes rules left kind

-- True if an entry of the source has an action in a part of the plan.
abbrev pub is_in_part : Rules → Part → Paths → List Entry → Paths → Entry → Bool
is_in_part rules part gone target blocked e =
    not (is_blocked gone target blocked e) && has_part_action rules part (entry_left_at gone target e.path) e.kind

-- ---- The actions of the parts

-- The text of a symbolic link.
abbrev pub link_text : Kind → List ℕ
link_text (File f) = []
link_text (Directory mode) = []
link_text (Link text) = text
link_text Other = []

-- The operation of a part.
abbrev pub step_of : Part → Kind → Step
step_of Directories kind = MakeDirectory
step_of Files kind = CopyFile
step_of Links kind = MakeLink (link_text kind)
step_of Attributes kind = SetAttributes

-- The action of an entry in a part.
abbrev pub action_of : Part → Entry → Action
action_of part e = record { step = step_of part e.kind; path = e.path }

-- The actions of a part, in the order of the source.
abbrev pub actions_of_part : Rules → Part → Paths → List Entry → Paths → List Entry → List Action
actions_of_part rules part gone target blocked source =
    choice_of (is_in_part rules part gone target blocked) (action_of part) source

-- The actions after the removals: directories are created, files are copied, symbolic links are created, and attributes
-- are set.
abbrev pub actions_after_removals : Rules → Paths → List Entry → Paths → List Entry → List Action
actions_after_removals rules gone target blocked source = actions_of_part rules Directories gone target blocked source
    ++ (actions_of_part rules Files gone target blocked source
    ++ (actions_of_part rules Links gone target blocked source
    ++ actions_of_part rules Attributes gone target blocked source))

-- All actions of the plan.
abbrev pub actions_of : Rules → List Entry → List Entry → List Action
actions_of rules source target = removal_actions rules source target
    ++ actions_after_removals rules (sweep_of rules source target).gone target (blocked_paths rules source target)
    source
