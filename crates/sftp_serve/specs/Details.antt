-- believed
-- The replies of a server that was started with `--long`: files have all attributes, and the entries of a listing have
-- long names, as clients show them to people.
use Rattle.std.specs.Prelude.{ℕ, Bool, true, false, ◌||◌, List, ◌++◌, length, map, min, drop, decimal, codes, Option, Some, None, is_some, if◌then◌else◌}
use Rattle.std.specs.Option.{unwrap_or}
use Rattle.sftp_model.specs.declared.file_attrs.FileAttrs.{FileAttrs}
use Rattle.sftp_model.specs.declared.reply.NameEntry.{NameEntry}
use Rattle.sftp_model.specs.declared.reply.Reply.{Reply}
use Rattle.sftp_model.specs.declared.reply.Reply.TheVariants as reply

-- A regular file that its owner may write and everybody may read.
abbrev pub FILE_MODE : ℕ
FILE_MODE = 33188

-- The machine keeps modes of directories alone, no owners and no times: a file has this mode, everything belongs to
-- root, and was changed at the start of 1970. A directory has no bytes.
abbrev pub full_attrs : FileAttrs → FileAttrs
full_attrs a = record {
  size = Some (unwrap_or a.size 0);
  id = Some (0, 0);
  permissions = Some (unwrap_or a.permissions FILE_MODE);
  time = Some (0, 0);
}

-- The type and permissions, in the first column of a listing. The machine reports permissions of directories alone.
abbrev pub mode_text : Option ℕ → List ℕ
mode_text None = codes "-rw-r--r--"
mode_text (Some mode) = codes "drwxr-xr-x"

-- The spaces before a number, in a column of eight characters.
abbrev pub spaces_before : ℕ → List ℕ
spaces_before n = drop (min (length (decimal n)) 8) (codes "        ")

-- A line of `ls -l`, as OpenSSH's server writes it (draft-ietf-secsh-filexfer-02, section 7, recommends such a line).
abbrev pub long_name : List ℕ → FileAttrs → List ℕ
long_name name a = mode_text a.permissions ++ codes "    1 root     root     " ++ spaces_before (unwrap_or a.size 0)
    ++ decimal (unwrap_or a.size 0) ++ codes " Jan  1  1970 " ++ name

-- True if the entry is of a file or a directory. A path alone, as in the reply to REALPATH, has no attributes.
abbrev pub has_attrs : FileAttrs → Bool
has_attrs a = is_some a.size || is_some a.permissions

abbrev pub full_entry : NameEntry → NameEntry
full_entry e = if has_attrs e.attrs then record {
  filename = e.filename;
  longname = long_name e.filename e.attrs;
  attrs = full_attrs e.attrs;
} else e

abbrev pub full_reply : Reply → Reply
full_reply (reply.Names entries) = reply.Names (map full_entry entries)
full_reply (reply.Attrs a) = reply.Attrs (full_attrs a)
full_reply other = other

-- With `--long` replies are full, and otherwise those of the machine.
abbrev pub shown_reply : Bool → Reply → Reply
shown_reply true r = full_reply r
shown_reply false r = r
