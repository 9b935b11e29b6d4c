-- believed
-- The calls on paths that make one request. A relative path is joined to the working directory.
use Rattle.std.specs.Prelude.{ℕ, List, ◌∷◌, Option, option_map, if◌then◌else◌}
use Rattle.std.specs.Int.RustNames.{bit_and}
use Rattle.sftp_model.specs.Readings.{permission_bits}
use Rattle.sftp_model.specs.declared.file_attrs.FileAttrs.{FileAttrs}
use Rattle.sftp_model.specs.declared.request.Request.{Request}
use Rattle.sftp_model.specs.declared.request.Request.TheVariants as request
use Rattle.sftp_model.specs.declared.reply.Reply.{Reply}
use Rattle.sftp_model.specs.declared.reply.Reply.TheVariants as reply
use Rattle.sftp_model.specs.declared.outcome.Outcome.TheVariants as outcome
use Rattle.sftp_model.specs.declared.slot.Facts.{Facts}
use Rattle.sftp_model.specs.declared.slot.Move.{Move}
use Rattle.sftp_model.specs.declared.slot.Move.TheVariants.{Done}
use Rattle.sftp_model.specs.Frames.{no_attributes}
use Rattle.sftp_model.specs.Paths.{joined_path}
use Rattle.sftp_model.specs.declared.slot.Site.{Site}
use Rattle.sftp_model.specs.Numbers.{POSIX_RENAME, HARDLINK, EXPAND_PATH}
use Rattle.plan_model.specs.Moves.{Plan, by_reply, ask_path, done_by, told_by, refusal_move, refuses_extension, offers}

-- The path that a path of a call names.
abbrev pub from_directory : Site → List ℕ → List ℕ
from_directory site path = joined_path site.directory path

-- ---- Calls that a STATUS ends

abbrev pub path_done : Request → Site → Plan
path_done r site = by_reply (ask_path r site) (done_by site)

-- The attributes that are set: a size and a mode, if they are given.
abbrev pub set_attributes : Option ℕ → Option ℕ → FileAttrs
set_attributes size mode = record no_attributes { size = size; permissions = option_map permission_bits mode }

abbrev pub set_stat_next : List ℕ → Option ℕ → Option ℕ → Site → Facts → Plan
set_stat_next path size mode site facts = path_done (request.Setstat (from_directory site path)
    (set_attributes size mode)) site

abbrev pub remove_next : List ℕ → Site → Facts → Plan
remove_next path site facts = path_done (request.Remove (from_directory site path)) site

abbrev pub mkdir_next : List ℕ → Site → Facts → Plan
mkdir_next path site facts = path_done (request.Mkdir (from_directory site path) no_attributes) site

abbrev pub rmdir_next : List ℕ → Site → Facts → Plan
rmdir_next path site facts = path_done (request.Rmdir (from_directory site path)) site

-- The rename that replaces, if the server offers it.
abbrev pub rename_request : Facts → List ℕ → List ℕ → Request
rename_request facts old to = if offers facts POSIX_RENAME then request.PosixRename old to else request.Rename old to

abbrev pub rename_next : List ℕ → List ℕ → Site → Facts → Plan
rename_next old to site facts = path_done (rename_request facts (from_directory site old) (from_directory site to)) site

abbrev pub symlink_next : List ℕ → List ℕ → Site → Facts → Plan
symlink_next src dst site facts = path_done (request.Symlink (from_directory site src) (from_directory site dst)) site

-- The extension is checked before the length.
abbrev pub hard_link_next : List ℕ → List ℕ → Site → Facts → Plan
hard_link_next old to site facts =
    by_reply (if offers facts HARDLINK then ask_path (request.Hardlink (from_directory site old)
    (from_directory site to)) site else refuses_extension HARDLINK site) (done_by site)

-- ---- Calls that attributes end

abbrev pub path_told : Request → Site → Plan
path_told r site = by_reply (ask_path r site) (told_by site)

abbrev pub stat_next : List ℕ → Site → Facts → Plan
stat_next path site facts = path_told (request.Stat (from_directory site path)) site

abbrev pub lstat_next : List ℕ → Site → Facts → Plan
lstat_next path site facts = path_told (request.Lstat (from_directory site path)) site

-- ---- Calls that a path ends: the name of the first entry

abbrev pub named_by : Site → Reply → Move
named_by site (reply.Names (entry ∷ entries)) = Done (outcome.Path entry.filename) site
named_by site other = refusal_move other site

abbrev pub path_named : Request → Site → Plan
path_named r site = by_reply (ask_path r site) (named_by site)

abbrev pub read_link_next : List ℕ → Site → Facts → Plan
read_link_next path site facts = path_named (request.Readlink (from_directory site path)) site

-- The extension that knows `~`, if the server offers it.
abbrev pub canonical_request : Facts → List ℕ → Request
canonical_request facts path = if offers facts EXPAND_PATH then request.ExpandPath path else request.Realpath path

abbrev pub canonicalize_next : List ℕ → Site → Facts → Plan
canonicalize_next path site facts = path_named (canonical_request facts (from_directory site path)) site

-- ---- The working directory: the path as it is, without a request

abbrev pub cwd_next : List ℕ → Site → Facts → Plan
cwd_next path site facts own answers = Done outcome.Done (record site { directory = path })
