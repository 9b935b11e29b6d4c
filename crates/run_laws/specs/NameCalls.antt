-- believed, except is_buffered
-- The relation of a call to a name, by the call alone.
use Rattle.std.specs.Prelude.{ℕ, Bool, true, false, not, ◌&&◌, ◌||◌, List, [], ◌∷◌}
use Rattle.std.specs.List.{list_all}
use Rattle.sftp_model.specs.Paths.{joined_path}
use Rattle.machine_model.specs.Components.{Name, components, is_within, same_name}
use Rattle.plan_model.specs.declared.call.Call.{Call}
use Rattle.plan_model.specs.declared.call.Call.TheVariants as call

-- True if the path denotes another name.
abbrev pub is_of_other : Name → List ℕ → Bool
is_of_other name path = not (same_name (components path) name)

-- True if the name is not the path's and does not lie within it.
abbrev pub stands_outside : Name → List ℕ → Bool
stands_outside name path = not (is_within (components path) name)

-- True if the call, in this directory, keeps off the name: it does not open its file, nor change by a path what the
-- name has. An `open` takes its path as it is.
abbrev pub keeps_off : Name → List ℕ → Call → Bool
keeps_off name directory (call.OpenFile slot flags path) = is_of_other name path
keeps_off name directory (call.FsRead path bound) = is_of_other name (joined_path directory path)
keeps_off name directory (call.FsWrite path bytes) = is_of_other name (joined_path directory path)
keeps_off name directory (call.SetStat path size perm) = is_of_other name (joined_path directory path)
keeps_off name directory (call.Remove path) = is_of_other name (joined_path directory path)
keeps_off name directory (call.Mkdir path) = is_of_other name (joined_path directory path)
keeps_off name directory (call.Rmdir path) = is_of_other name (joined_path directory path)
keeps_off name directory (call.Rename old to) = stands_outside name (joined_path directory old)
    && stands_outside name (joined_path directory to)
keeps_off name directory other = true

-- True if these calls, made one after another from this directory on, keep off the name: each is made in the path of
-- the last `cwd` before it.
abbrev pub all_keep_off : Name → List ℕ → List Call → Bool
all_keep_off name directory [] = true
all_keep_off name directory (call.Cwd path ∷ calls) = all_keep_off name path calls
all_keep_off name directory (c ∷ calls) = keeps_off name directory c && all_keep_off name directory calls

-- True if the call reads or writes a file as a whole.
abbrev pub is_whole : Call → Bool
is_whole (call.FsRead path bound) = true
is_whole (call.FsWrite path bytes) = true
is_whole other = false

-- True if the call is one on paths that opens no file.
abbrev pub is_on_paths : Call → Bool
is_on_paths (call.List path bound) = true
is_on_paths (call.Stat path) = true
is_on_paths (call.Lstat path) = true
is_on_paths (call.SetStat path size perm) = true
is_on_paths (call.Remove path) = true
is_on_paths (call.Mkdir path) = true
is_on_paths (call.Rmdir path) = true
is_on_paths (call.Rename old to) = true
is_on_paths (call.HardLink old to) = true
is_on_paths (call.Symlink src dst) = true
is_on_paths (call.ReadLink path) = true
is_on_paths (call.Canonicalize path) = true
is_on_paths other = false

-- True for a call that the lane that owns the name may make, and that changes no directory: it reads or writes a file
-- as a whole, or keeps off the name and opens no file.
abbrev pub may_own : Name → Call → Bool
may_own name c = is_whole c || (is_on_paths c && keeps_off name [] c)

-- True if the call opens a file in a slot, buffers it, writes to its buffer or flushes it.
abbrev pub is_buffered : Call → Bool
is_buffered (call.OpenFile slot flags path) = true
is_buffered (call.Buffer slot len) = true
is_buffered (call.BufWriteAll slot bytes) = true
is_buffered (call.BufFlush slot) = true
is_buffered other = false

-- True if the call writes the name's file as a whole.
abbrev pub writes : Name → Call → Bool
writes name (call.FsWrite path bytes) = same_name (components path) name
writes name other = false

-- True if none of these calls does.
abbrev pub none_writes : Name → List Call → Bool
none_writes name calls = list_all (λ c. not (writes name c)) calls
