-- believed
-- The replies of a server of files in memory to OPEN and to requests with a handle (draft-ietf-secsh-filexfer-02,
-- sections 6.3, 6.4, 6.8 and 6.9; OpenSSH's PROTOCOL; draft-ietf-secsh-filexfer-extensions-00, section 7).
use Rattle.std.specs.Prelude.{
  ℕ,
  ◌+◌,
  ◌==◌,
  Bool,
  not,
  ◌&&◌,
  ◌||◌,
  min,
  max,
  List,
  [],
  length,
  take,
  drop,
  Option,
  Some,
  None,
  nat_le,
  if◌then◌else◌,
}
use Rattle.sftp_model.specs.declared.file_attrs.FileAttrs.{FileAttrs}
use Rattle.sftp_model.specs.declared.reply.Reply.{Reply}
use Rattle.sftp_model.specs.declared.reply.Reply.TheVariants as reply
use Rattle.machine_model.specs.declared.node.Node.TheVariants as node
use Rattle.machine_model.specs.declared.opened.Opened.TheVariants as opened
use Rattle.sftp_model.specs.Readings.{has_bit}
use Rattle.sftp_model.specs.Numbers.{
  SSH_FX_EOF,
  SSH_FX_FAILURE,
  SSH_FX_NO_SUCH_FILE,
  SSH_FX_OK,
  SSH_FX_PERMISSION_DENIED,
  SSH_FXF_READ,
  SSH_FXF_WRITE,
  SSH_FXF_APPEND,
  SSH_FXF_CREAT,
  SSH_FXF_TRUNC,
  SSH_FXF_EXCL,
}
use Rattle.sftp_model.specs.Answers.{status}
use Rattle.machine_model.specs.Components.{Name, is_long_name, parent_of}
use Rattle.machine_model.specs.FileTree.{
  FileTree,
  after_loss,
  attributes_of,
  bytes_of,
  is_directory,
  is_over,
  node_at,
  written_at,
  resized_bytes,
  size_of,
  with_bytes,
  with_file,
  with_handle,
  without_handle,
}
use Rattle.machine_model.specs.declared.node.Node.{Node}
use Rattle.machine_model.specs.declared.opened.Held.{Held}
use Rattle.machine_model.specs.declared.opened.Opened.{Opened}

-- A reply, and the tree after it.
abbrev pub Answer : Type 0
Answer = Reply × FileTree

-- A STATUS that changes nothing.
abbrev pub refusal_answer : FileTree → ℕ → Answer
refusal_answer tree code = (status code, tree)

-- A STATUS of OK, with the tree after it.
abbrev pub ok_answer : FileTree → Answer
ok_answer tree = (status SSH_FX_OK, tree)

-- The number, at most `cap` if that is not 0.
abbrev pub capped_at : ℕ → ℕ → ℕ
capped_at cap n = if cap == 0 then n else min cap n

-- A HANDLE, which then has the opened file or directory.
abbrev pub grant_answer : FileTree → List ℕ → Opened → Answer
grant_answer tree handle o = (reply.Handle handle, with_handle tree handle o)

-- A name that does not exist is to be created: its parent must be a directory, and its last component must not be long.
abbrev pub where_new : FileTree → Name → Answer → Answer
where_new tree name answer =
    if not (is_directory (node_at tree (parent_of name))) then refusal_answer tree SSH_FX_NO_SUCH_FILE
    else if is_long_name name then refusal_answer tree SSH_FX_FAILURE
    else answer

-- ---- OPEN

-- The file of a number, open as the flags say.
abbrev pub held_by : ℕ → ℕ → Opened
held_by flags file = opened.File (record {
  file = file;
  readable = has_bit flags SSH_FXF_READ;
  writable =
      has_bit flags SSH_FXF_WRITE;
  append = has_bit flags SSH_FXF_APPEND;
})

-- The flags CREAT, TRUNC and EXCL.
abbrev pub creates : ℕ → Bool
creates flags = has_bit flags SSH_FXF_CREAT

abbrev pub truncates : ℕ → Bool
truncates flags = has_bit flags SSH_FXF_TRUNC

abbrev pub is_exclusive : ℕ → Bool
is_exclusive flags = has_bit flags SSH_FXF_EXCL

abbrev pub after_open : FileTree → List ℕ → ℕ → Name → Option Node → Answer
after_open tree handle flags name (Some node.Directory) = refusal_answer tree SSH_FX_FAILURE
after_open tree handle flags name (Some (node.File file)) =
    if creates flags && is_exclusive flags then refusal_answer tree SSH_FX_FAILURE
    else if truncates flags then grant_answer (with_bytes tree file []) handle (held_by flags file)
    else grant_answer tree handle (held_by flags file)
after_open tree handle flags name None =
    if not (creates flags) then refusal_answer tree SSH_FX_NO_SUCH_FILE
    else where_new tree name (grant_answer (with_file tree name) handle (held_by flags (length tree.files)))

-- ---- CLOSE

abbrev pub after_close : FileTree → List ℕ → Option Opened → Answer
after_close tree handle None = refusal_answer tree SSH_FX_FAILURE
after_close tree handle (Some (opened.File held)) = ok_answer (after_loss (without_handle tree handle) held.file)
after_close tree handle (Some (opened.Directory entries)) = ok_answer (without_handle tree handle)

-- ---- READ: from the offset on, limited by the length asked for, the end of the file and the cap

abbrev pub after_read : FileTree → ℕ → ℕ → ℕ → Option Held → Answer
after_read tree cap offset len None = refusal_answer tree SSH_FX_FAILURE
after_read tree cap offset len (Some held) =
    if not held.readable then refusal_answer tree SSH_FX_PERMISSION_DENIED
    else if len == 0 then refusal_answer tree SSH_FX_FAILURE
    else if nat_le (size_of tree held.file) offset then refusal_answer tree SSH_FX_EOF
    else (reply.Content (take (capped_at cap len) (drop offset (bytes_of tree held.file))), tree)

-- ---- WRITE: at the end if the file was opened to append

abbrev pub offset_of : FileTree → Held → ℕ → ℕ
offset_of tree held offset = if held.append then size_of tree held.file else offset

-- A piece is written at an offset, if no limit is passed.
abbrev pub answer_to_write : FileTree → ℕ → ℕ → List ℕ → Answer
answer_to_write tree file offset piece =
    if is_over tree file (max (size_of tree file) (offset + length piece)) then refusal_answer tree SSH_FX_FAILURE
    else ok_answer (with_bytes tree file (written_at (bytes_of tree file) offset piece))

abbrev pub after_write : FileTree → ℕ → List ℕ → Option Held → Answer
after_write tree offset piece None = refusal_answer tree SSH_FX_FAILURE
after_write tree offset piece (Some held) = if not held.writable then refusal_answer tree SSH_FX_PERMISSION_DENIED else
    answer_to_write tree held.file (offset_of tree held offset) piece

-- ---- FSTAT and FSETSTAT

abbrev pub after_fstat : FileTree → Option Opened → Answer
after_fstat tree None = refusal_answer tree SSH_FX_FAILURE
after_fstat tree (Some (opened.File held)) = (reply.Attrs (attributes_of tree (node.File held.file)), tree)
after_fstat tree (Some (opened.Directory entries)) = (reply.Attrs (attributes_of tree node.Directory), tree)

-- A file is resized, if no limit is passed.
abbrev pub resize_answer : FileTree → ℕ → ℕ → Answer
resize_answer tree file size = if is_over tree file size then refusal_answer tree SSH_FX_FAILURE else
    ok_answer (with_bytes tree file (resized_bytes size (bytes_of tree file)))

abbrev pub sets_held : FileTree → Held → Option ℕ → Answer
sets_held tree held None = ok_answer tree
sets_held tree held (Some size) = if not held.writable then refusal_answer tree SSH_FX_PERMISSION_DENIED else
    resize_answer tree held.file size

-- Of the attributes only the size counts.
abbrev pub after_fsetstat : FileTree → FileAttrs → Option Held → Answer
after_fsetstat tree attrs None = refusal_answer tree SSH_FX_FAILURE
after_fsetstat tree attrs (Some held) = sets_held tree held attrs.size

-- ---- `fsync@openssh.com` and `copy-data`

abbrev pub after_fsync : FileTree → Option Held → Answer
after_fsync tree None = refusal_answer tree SSH_FX_FAILURE
after_fsync tree (Some held) = ok_answer tree

-- The bytes that are copied: from an offset, up to the end if the length is 0.
abbrev pub copied_bytes : List ℕ → ℕ → ℕ → List ℕ
copied_bytes bytes offset len = if len == 0 then drop offset bytes else take len (drop offset bytes)

-- They are taken first, and then written as by WRITE.
abbrev pub after_copy : FileTree → ℕ → ℕ → ℕ → Option Held → Option Held → Answer
after_copy tree from_offset len to_offset None to = refusal_answer tree SSH_FX_FAILURE
after_copy tree from_offset len to_offset (Some from) None = refusal_answer tree SSH_FX_FAILURE
after_copy tree from_offset len to_offset (Some from) (Some to) =
    if not from.readable || not to.writable then refusal_answer tree SSH_FX_PERMISSION_DENIED
    else answer_to_write tree to.file (offset_of tree to to_offset)
    (copied_bytes (bytes_of tree from.file) from_offset len)
