-- believed
-- The replies of a server of files in memory to requests on names, and to READDIR (draft-ietf-secsh-filexfer-02,
-- sections 6.5 to 6.11; OpenSSH's PROTOCOL, section 4).
use Rattle.std.specs.Prelude.{
  ℕ,
  ◌==◌,
  Bool,
  true,
  false,
  ◌||◌,
  List,
  [],
  ◌∷◌,
  length,
  take,
  drop,
  filter,
  map,
  Option,
  Some,
  None,
  nat_lt,
  if◌then◌else◌,
}
use Rattle.std.specs.List.{list_any}
use Rattle.std.specs.Str.{bytes_eq}
use Rattle.sftp_model.specs.declared.file_attrs.FileAttrs.{FileAttrs}
use Rattle.sftp_model.specs.declared.reply.NameEntry.{NameEntry}
use Rattle.sftp_model.specs.declared.reply.Reply.{Reply}
use Rattle.sftp_model.specs.declared.reply.Reply.TheVariants as reply
use Rattle.machine_model.specs.declared.node.Node.TheVariants as node
use Rattle.machine_model.specs.declared.opened.Opened.TheVariants as opened
use Rattle.sftp_model.specs.Frames.{no_attributes, reply_body}
use Rattle.sftp_model.specs.Numbers.{MAX_BODY_LEN, SSH_FX_EOF, SSH_FX_FAILURE, SSH_FX_NO_SUCH_FILE}
use Rattle.machine_model.specs.Components.{Name, is_child, is_within, last_of, same_name, text_of_name}
use Rattle.machine_model.specs.FileTree.{
  FileTree,
  after_loss,
  attributes_of,
  with_value_at,
  with_name,
  with_renamed,
  without_name,
}
use Rattle.machine_model.specs.HandleRequests.{
  Answer,
  capped_at,
  ok_answer,
  grant_answer,
  refusal_answer,
  resize_answer,
  where_new,
}
use Rattle.machine_model.specs.Limits.{MAX_NAME_ENTRIES}
use Rattle.machine_model.specs.declared.node.Node.{Node}
use Rattle.sftp_model.specs.Paths.{slash}

-- ---- STAT, LSTAT and SETSTAT

abbrev pub after_stat : FileTree → Option Node → Answer
after_stat tree None = refusal_answer tree SSH_FX_NO_SUCH_FILE
after_stat tree (Some n) = (reply.Attrs (attributes_of tree n), tree)

abbrev pub sets_node : FileTree → Option ℕ → Node → Answer
sets_node tree None n = ok_answer tree
sets_node tree (Some size) node.Directory = refusal_answer tree SSH_FX_FAILURE
sets_node tree (Some size) (node.File file) = resize_answer tree file size

abbrev pub after_setstat : FileTree → FileAttrs → Option Node → Answer
after_setstat tree attrs None = refusal_answer tree SSH_FX_NO_SUCH_FILE
after_setstat tree attrs (Some n) = sets_node tree attrs.size n

-- ---- REMOVE

abbrev pub after_remove : FileTree → Name → Option Node → Answer
after_remove tree name None = refusal_answer tree SSH_FX_NO_SUCH_FILE
after_remove tree name (Some node.Directory) = refusal_answer tree SSH_FX_FAILURE
after_remove tree name (Some (node.File file)) = ok_answer (after_loss (without_name tree name) file)

-- ---- MKDIR and RMDIR

abbrev pub after_mkdir : FileTree → Name → Option Node → Answer
after_mkdir tree name (Some n) = refusal_answer tree SSH_FX_FAILURE
after_mkdir tree name None = where_new tree name (ok_answer (with_name tree name node.Directory))

-- True if some name lies directly in the directory.
abbrev pub has_child : FileTree → Name → Bool
has_child tree name = list_any (λ pair. is_child name pair.0) tree.names

abbrev pub after_rmdir : FileTree → Name → Option Node → Answer
after_rmdir tree name None = refusal_answer tree SSH_FX_NO_SUCH_FILE
after_rmdir tree name (Some (node.File file)) = refusal_answer tree SSH_FX_FAILURE
after_rmdir tree name (Some node.Directory) = if same_name name [] || has_child tree name then
    refusal_answer tree SSH_FX_FAILURE else ok_answer (without_name tree name)

-- ---- OPENDIR and READDIR

-- True if the first list comes before the second one in the order of bytes.
abbrev pub is_before : List ℕ → List ℕ → Bool
is_before [] [] = false
is_before [] (y ∷ ys) = true
is_before (x ∷ xs) [] = false
is_before (x ∷ xs) (y ∷ ys) = if x == y then is_before xs ys else nat_lt x y

-- The list with an entry inserted in order.
abbrev pub insert_in_order : NameEntry → List NameEntry → List NameEntry
insert_in_order e [] = e ∷ []
insert_in_order e (other ∷ entries) = if is_before other.filename e.filename then other ∷ insert_in_order e entries else
    e ∷ other ∷ entries

-- The entries in the order of their names by bytes.
abbrev pub in_order : List NameEntry → List NameEntry
in_order [] = []
in_order (e ∷ entries) = insert_in_order e (in_order entries)

-- The entry of a name: its last component, an empty long name and the attributes that STAT reports.
abbrev pub entry_of : FileTree → Name × Node → NameEntry
entry_of tree pair = record { filename = last_of pair.0; longname = []; attrs = attributes_of tree pair.1 }

-- The entries of a directory.
abbrev pub entries_at : FileTree → Name → List NameEntry
entries_at tree name = in_order (map (entry_of tree) (filter (λ pair. is_child name pair.0) tree.names))

-- The handle has the entries of this moment.
abbrev pub after_opendir : FileTree → List ℕ → Name → Option Node → Answer
after_opendir tree handle name None = refusal_answer tree SSH_FX_NO_SUCH_FILE
after_opendir tree handle name (Some (node.File file)) = refusal_answer tree SSH_FX_FAILURE
after_opendir tree handle name (Some node.Directory) = grant_answer tree handle
    (opened.Directory (entries_at tree name))

abbrev pub with_entries : FileTree → List ℕ → List NameEntry → FileTree
with_entries tree handle entries = record tree {
  handles = with_value_at bytes_eq tree.handles handle
      (opened.Directory entries);
}

-- The next entries, at most 1000 and at most the cap.
abbrev pub after_readdir : FileTree → ℕ → List ℕ → Option (List NameEntry) → Answer
after_readdir tree cap handle None = refusal_answer tree SSH_FX_FAILURE
after_readdir tree cap handle (Some []) = refusal_answer tree SSH_FX_EOF
after_readdir tree cap handle (Some (e ∷ entries)) = (
  reply.Names (take (capped_at cap MAX_NAME_ENTRIES) (e ∷ entries)),
  with_entries tree handle (drop (capped_at cap MAX_NAME_ENTRIES) (e ∷ entries)),
)

-- ---- REALPATH and `expand-path@openssh.com`

-- A NAME with only the written name.
abbrev pub path_reply : Name → Reply
path_reply name = reply.Names (record { filename = slash ∷ text_of_name name; longname = []; attrs = no_attributes } ∷
    [])

abbrev pub after_realpath : FileTree → Name → Answer
after_realpath tree name = if nat_lt MAX_BODY_LEN (length (reply_body (path_reply name) 0)) then
    refusal_answer tree SSH_FX_FAILURE else (path_reply name, tree)

-- ---- RENAME and `posix-rename@openssh.com`

abbrev pub after_rename : FileTree → Name → Name → Option Node → Option Node → Answer
after_rename tree old to None there = refusal_answer tree SSH_FX_NO_SUCH_FILE
after_rename tree old to (Some n) (Some there) = refusal_answer tree SSH_FX_FAILURE
after_rename tree old to (Some n) None = if is_within old to then refusal_answer tree SSH_FX_FAILURE else
    where_new tree to (ok_answer (with_renamed tree old to))

-- A file is replaced by a file; a directory is not replaced.
abbrev pub replace_answer : FileTree → Name → Name → Node → Option Node → Answer
replace_answer tree old to n None = where_new tree to (ok_answer (with_renamed tree old to))
replace_answer tree old to node.Directory (Some there) = refusal_answer tree SSH_FX_FAILURE
replace_answer tree old to (node.File file) (Some node.Directory) = refusal_answer tree SSH_FX_FAILURE
replace_answer tree old to (node.File file) (Some (node.File gone)) =
    ok_answer (after_loss (with_renamed (without_name tree to) old to) gone)

abbrev pub after_posix_rename : FileTree → Name → Name → Option Node → Option Node → Answer
after_posix_rename tree old to None there = refusal_answer tree SSH_FX_NO_SUCH_FILE
after_posix_rename tree old to (Some n) there =
    if same_name old to then ok_answer tree
    else if is_within old to || is_within to old then refusal_answer tree SSH_FX_FAILURE
    else replace_answer tree old to n there
