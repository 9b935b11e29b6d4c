-- Worked examples of replies with `--long`. The bytes of the file's attributes, and the long names of files, are those
-- of OpenSSH's server for a file of root with the mode 0644 that was changed at the start of 1970.
use Rattle.std.specs.Prelude.{ℕ, ◌≡◌, false, List, [], ◌∷◌, codes, None, Some, refl}
use Rattle.std.specs.Fmt.{digits}
use Rattle.ssh_encoding.specs.Writing.{uint32, uint64}
use Rattle.sftp_model.specs.declared.file_attrs.FileAttrs.{FileAttrs}
use Rattle.sftp_model.specs.declared.reply.NameEntry.{NameEntry}
use Rattle.sftp_model.specs.declared.reply.Reply.{Reply}
use Rattle.sftp_model.specs.declared.reply.Reply.TheVariants as reply
use Rattle.sftp_model.specs.Answers.{status}
use Rattle.sftp_model.specs.Frames.{attributes, no_attributes, reply_body}
use Rattle.sftp_model.specs.Hex.{hex}
use Rattle.sftp_model.specs.Numbers.{SSH_FX_EOF}
use Rattle.sftp_serve.specs.Details.{full_reply, shown_reply}

-- ---- Attributes

-- A file of this size, and a directory, as the machine reports them.
abbrev file_of_size : ℕ → FileAttrs
file_of_size size = record { size = Some size; id = None; permissions = None; time = None }

abbrev directory : FileAttrs
directory = record { size = None; id = None; permissions = Some 16877; time = None }

-- A file with all attributes, and a directory: 0100644 and 040755 are 33188 and 16877.
abbrev full_file : ℕ → FileAttrs
full_file size = record { size = Some size; id = Some (0, 0); permissions = Some 33188; time = Some (0, 0) }

abbrev full_directory : FileAttrs
full_directory = record { size = Some 0; id = Some (0, 0); permissions = Some 16877; time = Some (0, 0) }

pub attrs_of_a_file : full_reply (reply.Attrs (file_of_size 2)) ≡ reply.Attrs (full_file 2)
attrs_of_a_file = refl

pub attrs_of_an_empty_file : full_reply (reply.Attrs (file_of_size 0)) ≡ reply.Attrs (full_file 0)
attrs_of_an_empty_file = refl

pub attrs_of_a_directory : full_reply (reply.Attrs directory) ≡ reply.Attrs full_directory
attrs_of_a_directory = refl

-- Without `--long` the reply is the machine's.
pub attrs_without_long : shown_reply false (reply.Attrs (file_of_size 2)) ≡ reply.Attrs (file_of_size 2)
attrs_without_long = refl

-- The body of an ATTRS with the id 3: flags, size, owner and group, permissions, and both times.
pub body_of_a_file : reply_body (full_reply (reply.Attrs (file_of_size 2))) 3
    ≡ hex (codes "69000000030000000f00000000000000020000000000000000000081a40000000000000000")
unfolding reply_body uint32 uint64 attributes
body_of_a_file = refl

pub body_of_a_directory : reply_body (full_reply (reply.Attrs directory)) 3
    ≡ hex (codes "69000000030000000f00000000000000000000000000000000000041ed0000000000000000")
unfolding reply_body uint32 uint64 attributes
body_of_a_directory = refl

-- ---- Names

abbrev entry : List ℕ → List ℕ → FileAttrs → NameEntry
entry filename longname attrs = record { filename = filename; longname = longname; attrs = attrs }

-- A NAME of one entry, as the machine gives it and with all attributes.
abbrev listed : List ℕ → FileAttrs → Reply
listed filename attrs = reply.Names (entry filename [] attrs ∷ [])

abbrev shown : List ℕ → List ℕ → FileAttrs → Reply
shown filename longname attrs = reply.Names (entry filename longname attrs ∷ [])

pub name_of_a_file : full_reply (listed (codes "a") (file_of_size 2))
    ≡ shown (codes "a") (codes "-rw-r--r--    1 root     root            2 Jan  1  1970 a") (full_file 2)
unfolding digits
name_of_a_file = refl

pub name_of_an_empty_file : full_reply (listed (codes "b") (file_of_size 0))
    ≡ shown (codes "b") (codes "-rw-r--r--    1 root     root            0 Jan  1  1970 b") (full_file 0)
unfolding digits
name_of_an_empty_file = refl

-- The greatest size of a file has eight digits, and fills its column.
pub name_of_a_large_file : full_reply (listed (codes "c") (file_of_size 16777216))
    ≡ shown (codes "c") (codes "-rw-r--r--    1 root     root     16777216 Jan  1  1970 c") (full_file 16777216)
unfolding digits
name_of_a_large_file = refl

pub name_of_a_directory : full_reply (listed (codes "d") directory)
    ≡ shown (codes "d") (codes "drwxr-xr-x    1 root     root            0 Jan  1  1970 d") full_directory
unfolding digits
name_of_a_directory = refl

-- Each entry has its own.
pub names_of_both : full_reply (reply.Names (entry (codes "d") [] directory ∷ entry (codes "a") [] (file_of_size 2) ∷
    []))
    ≡ reply.Names (entry (codes "d") (codes "drwxr-xr-x    1 root     root            0 Jan  1  1970 d") full_directory
    ∷ entry (codes "a") (codes "-rw-r--r--    1 root     root            2 Jan  1  1970 a") (full_file 2) ∷ [])
unfolding digits
names_of_both = refl

pub no_names : full_reply (reply.Names []) ≡ reply.Names []
no_names = refl

-- A path that answers REALPATH has no attributes, and is given none.
pub name_of_a_path : full_reply (listed (codes "/a") no_attributes) ≡ listed (codes "/a") no_attributes
name_of_a_path = refl

pub name_of_the_parent : full_reply (listed (codes "..") no_attributes) ≡ listed (codes "..") no_attributes
name_of_the_parent = refl

-- ---- Replies that have no attributes

pub status_is_unchanged : full_reply (status SSH_FX_EOF) ≡ status SSH_FX_EOF
status_is_unchanged = refl

pub handle_is_unchanged : full_reply (reply.Handle (0 ∷ 0 ∷ 0 ∷ 7 ∷ [])) ≡ reply.Handle (0 ∷ 0 ∷ 0 ∷ 7 ∷ [])
handle_is_unchanged = refl

pub content_is_unchanged : full_reply (reply.Content (codes "hi")) ≡ reply.Content (codes "hi")
content_is_unchanged = refl
