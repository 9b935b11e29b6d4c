-- Abbreviations for worked examples of the server of files in memory.
use Rattle.std.specs.Prelude.{ℕ, ◌+◌, List, [], ◌∷◌, codes, Some, None, if◌then◌else◌}
use Rattle.ssh_encoding.specs.Writing.{uint32}
use Rattle.sftp_model.specs.declared.config.Choice.{Choice}
use Rattle.sftp_model.specs.declared.config.ServerConfig.{ServerConfig}
use Rattle.sftp_model.specs.declared.file_attrs.FileAttrs.{FileAttrs}
use Rattle.sftp_model.specs.declared.request.Request.{Request}
use Rattle.sftp_model.specs.declared.request.Request.TheVariants as request
use Rattle.sftp_model.specs.declared.reply.Reply.{Reply}
use Rattle.sftp_model.specs.declared.reply.NameEntry.{NameEntry}
use Rattle.machine_model.specs.declared.node.Node.TheVariants as node
use Rattle.sftp_model.specs.Answers.{is_handle}
use Rattle.sftp_model.specs.Frames.{no_attributes}
use Rattle.machine_model.specs.Components.{Name}
use Rattle.machine_model.specs.FileTree.{FileTree}
use Rattle.machine_model.specs.HandleRequests.{Answer}
use Rattle.machine_model.specs.TreeAnswers.{apply}
use Rattle.machine_model.specs.declared.node.Node.{Node}
use Rattle.machine_model.specs.declared.opened.Opened.{Opened}
use Rattle.sftp_model.specs.Numbers.{
  SSH_FXF_APPEND,
  SSH_FXF_CREAT,
  SSH_FXF_EXCL,
  SSH_FXF_READ,
  SSH_FXF_TRUNC,
  SSH_FXF_WRITE,
  POSIX_RENAME,
  FSYNC,
  EXPAND_PATH,
  COPY_DATA,
}

-- The flags of an OPEN.
abbrev pub for_reading : ℕ
for_reading = SSH_FXF_READ

abbrev pub for_writing : ℕ
for_writing = SSH_FXF_WRITE

abbrev pub for_both : ℕ
for_both = SSH_FXF_READ + SSH_FXF_WRITE

abbrev pub appending : ℕ
appending = SSH_FXF_WRITE + SSH_FXF_APPEND

abbrev pub creating : ℕ
creating = SSH_FXF_WRITE + SSH_FXF_CREAT

abbrev pub truncating : ℕ
truncating = SSH_FXF_WRITE + SSH_FXF_TRUNC

abbrev pub replacing : ℕ
replacing = SSH_FXF_WRITE + SSH_FXF_CREAT + SSH_FXF_TRUNC

abbrev pub exclusive : ℕ
exclusive = SSH_FXF_WRITE + SSH_FXF_EXCL

abbrev pub creating_new : ℕ
creating_new = SSH_FXF_WRITE + SSH_FXF_CREAT + SSH_FXF_EXCL

-- A server that offers these extensions.
abbrev pub every_extension : ℕ
every_extension = POSIX_RENAME + FSYNC + EXPAND_PATH + COPY_DATA

abbrev pub config : ℕ → ServerConfig
config bits = record { extensions = record { 0 = bits }; limits = None; cut = 0 }

abbrev pub choice : ℕ → ℕ → Choice
choice refuse cap = record { refuse = refuse; cap = cap }

-- The reply to a request by a server with all extensions, whose next handle is 9.
abbrev pub by : FileTree → Request → Answer
by tree r = apply tree (config every_extension) r (choice 0 0) (9 ∷ [])

abbrev pub open_file : List ℕ → ℕ → Request
open_file path flags = request.OpenFile path (record { 0 = flags }) no_attributes

abbrev pub sized : ℕ → FileAttrs
sized n = record { size = Some n; id = None; permissions = None; time = None }

abbrev pub of_directory : FileAttrs
of_directory = record { size = None; id = None; permissions = Some 16877; time = None }

abbrev pub entry : List ℕ → FileAttrs → NameEntry
entry name attrs = record { filename = name; longname = []; attrs = attrs }

-- A tree of the directory d with the file f, and the file g beside it.
abbrev pub d : Name
d = codes "d" ∷ []

abbrev pub f : Name
f = codes "d" ∷ codes "f" ∷ []

abbrev pub g : Name
g = codes "g" ∷ []

abbrev pub example_names : List (Name × Node)
example_names = (d, node.Directory) ∷ (f, node.File 0) ∷ (g, node.File 1) ∷ []

abbrev pub example_files : List (List ℕ)
example_files = codes "hello" ∷ codes "xy" ∷ []

abbrev pub example : FileTree
example = record { names = example_names; files = example_files; handles = [] }

-- The same tree with these open handles.
abbrev pub with_open : List (List ℕ × Opened) → FileTree
with_open handles = record { names = example_names; files = example_files; handles = handles }

-- ---- One request after another, by the choices and with the handles 0, 1, 2 and so on, as four bytes

abbrev pub first_of_choices : List Choice → Choice
first_of_choices [] = choice 0 0
first_of_choices (c ∷ choices) = c

abbrev pub rest_of_choices : List Choice → List Choice
rest_of_choices [] = []
rest_of_choices (c ∷ choices) = choices

abbrev pub then_ : Reply → List Reply × FileTree → List Reply × FileTree
then_ r later = (r ∷ later.0, later.1)

abbrev pub in_turn : ServerConfig → FileTree → ℕ → List Choice → List Request → List Reply × FileTree
in_turn c tree n choices [] = ([], tree)
in_turn c tree n choices (r ∷ requests) =
    let x : Answer = apply tree c r (first_of_choices choices) (uint32 n) in
    then_ x.0 (in_turn c x.1 (if is_handle x.0 then n + 1 else n) (rest_of_choices choices) requests)
