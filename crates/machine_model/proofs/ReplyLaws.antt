-- What a tree replies is one of a few short shapes.
use Rattle.std.proofs.Common.{
  ◌≡◌,
  ℕ,
  ◌+◌,
  ◌^◌,
  ◌<◌,
  ◌≤◌,
  ◌==◌,
  Bool,
  true,
  false,
  not,
  List,
  [],
  ◌∷◌,
  length,
  take,
  drop,
  Option,
  Some,
  None,
  if◌then◌else◌,
  refl,
  arith,
  lit<,
  inl,
  inr,
}
use Rattle.std.specs.Prelude.{◌&&◌, ◌||◌, max, nat_le, nat_lt}
use Rattle.std.proofs.lemmas.Bool.{ltb-false}
use Rattle.std.proofs.lemmas.List.{length-take}
use Rattle.sftp_model.specs.declared.config.Choice.{Choice}
use Rattle.sftp_model.specs.declared.config.Limits.{Limits}
use Rattle.sftp_model.specs.declared.config.ServerConfig.{ServerConfig}
use Rattle.sftp_model.specs.declared.reply.NameEntry.{NameEntry}
use Rattle.sftp_model.specs.declared.reply.Reply.TheVariants as reply
use Rattle.sftp_model.specs.declared.request.Request.{Request}
use Rattle.sftp_model.specs.declared.request.Request.TheVariants as request
use Rattle.machine_model.specs.declared.node.Node.TheVariants as node
use Rattle.machine_model.specs.declared.opened.Opened.TheVariants as opened
use Rattle.sftp_model.specs.Frames.{reply_body}
use Rattle.sftp_model.specs.Readings.{has_bit}
use Rattle.sftp_model.specs.Numbers.{MAX_BODY_LEN, MAX_HANDLE_LEN, MAX_TRANSFER_LEN, SSH_FX_EOF, SSH_FX_FAILURE, SSH_FX_OP_UNSUPPORTED}
use Rattle.machine_model.proofs.AnswerLaws.{capped_below}
use Rattle.machine_model.proofs.FitLaws.{held_entries, take_short, told}
use Rattle.machine_model.specs.Components.{Name, components, is_long_name, is_within, parent_of, same_name}
use Rattle.machine_model.specs.FileTree.{
  FileTree,
  bytes_of,
  entries_of,
  file_of,
  is_directory,
  is_over,
  node_at,
  opened_at,
  written_at,
  resized_bytes,
  size_of,
  with_bytes,
  with_file,
  with_name,
  with_renamed,
  without_name,
}
use Rattle.machine_model.specs.FitTrees.{GivesWithin, IsFit, MayReply}
use Rattle.machine_model.specs.HandleRequests.{
  Answer,
  after_close,
  after_copy,
  after_fsetstat,
  after_fstat,
  after_fsync,
  after_open,
  after_read,
  after_write,
  capped_at,
  copied_bytes,
  creates,
  ok_answer,
  grant_answer,
  held_by,
  is_exclusive,
  offset_of,
  refusal_answer,
  resize_answer,
  sets_held,
  truncates,
  where_new,
  answer_to_write,
}
use Rattle.machine_model.specs.Limits.{MAX_NAME_ENTRIES}
use Rattle.machine_model.specs.NameRequests.{
  after_mkdir,
  after_opendir,
  after_posix_rename,
  after_readdir,
  after_realpath,
  after_remove,
  after_rename,
  after_rmdir,
  after_setstat,
  after_stat,
  has_child,
  path_reply,
  replace_answer,
  sets_node,
}
use Rattle.machine_model.specs.TreeAnswers.{tree_answer, apply, limits_reply, where_offered}
use Rattle.machine_model.specs.declared.node.Node.{Node}
use Rattle.machine_model.specs.declared.opened.Held.{Held}
use Rattle.machine_model.specs.declared.opened.Opened.{Opened}

pub record Says (x : Answer) : Type 0 where
  pub said : MayReply x.0

code_said : (tree : FileTree) (code : ℕ) → code < 2 ^ 32 → Says (refusal_answer tree code)
code_said tree code lt = record { said = (lt, refl, refl) }

done_said : (tree : FileTree) → Says (ok_answer tree)
done_said tree = record { said = (lit< tt, refl, refl) }

either : (b : Bool) (x y : Answer) → (b ≡ true → Says x) → (b ≡ false → Says y) → Says (if b then x else y)
either true x y h k = h refl
either false x y h k = k refl

no_or : (tree : FileTree) (b : Bool) (code : ℕ) (y : Answer) → code < 2 ^ 32 → Says y
    → Says (if b then refusal_answer tree code else y)
no_or tree b code y lt h = either b (refusal_answer tree code) y (λ t. code_said tree code lt) (λ t. h)

new : (tree : FileTree) (name : Name) (x : Answer) → Says x → Says (where_new tree name x)
new tree name x h = no_or tree (not (is_directory (node_at tree (parent_of name)))) 2
    (if is_long_name name then refusal_answer tree SSH_FX_FAILURE else x) (lit< tt)
    (no_or tree (is_long_name name) 4 x (lit< tt) h)

open_said : (tree : FileTree) (handle : List ℕ) (flags : ℕ) (name : Name) (n : Option Node)
    → length handle ≤ MAX_HANDLE_LEN → Says (after_open tree handle flags name n)
open_said tree handle flags name (Some node.Directory) le = code_said tree 4 (lit< tt)
open_said tree handle flags name (Some (node.File file)) le =
    no_or tree (creates flags && is_exclusive flags) 4 (if truncates flags then
    grant_answer (with_bytes tree file []) handle (held_by flags file) else
    grant_answer tree handle (held_by flags file))
    (lit< tt)
    (either (truncates flags) (grant_answer (with_bytes tree file []) handle (held_by flags file))
    (grant_answer tree handle (held_by flags file)) (λ t. record { said = le }) (λ t. record { said = le }))
open_said tree handle flags name None le =
    no_or tree (not (creates flags)) 2 (where_new tree name (grant_answer (with_file tree name) handle
    (held_by flags (length tree.files)))) (lit< tt)
    (new tree name (grant_answer (with_file tree name) handle (held_by flags (length tree.files)))
    (record { said = le }))

close_said : (tree : FileTree) (h : List ℕ) (o : Option Opened) → Says (after_close tree h o)
close_said tree h None = code_said tree 4 (lit< tt)
close_said tree h (Some (opened.File held)) = done_said _
close_said tree h (Some (opened.Directory entries)) = done_said _

read_said : (tree : FileTree) (cap offset len : ℕ) (held : Option Held) → capped_at cap len ≤ MAX_TRANSFER_LEN
    → Says (after_read tree cap offset len held)
read_said tree cap offset len None le = code_said tree 4 (lit< tt)
read_said tree cap offset len (Some held) le =
    let bytes : Answer = (reply.Content (take (capped_at cap len) (drop offset (bytes_of tree held.file))), tree) in
    let some : Answer = if nat_le (size_of tree held.file) offset then refusal_answer tree SSH_FX_EOF else bytes in
    no_or tree (not held.readable) 3 (if len == 0 then refusal_answer tree SSH_FX_FAILURE else some) (lit< tt)
    (no_or tree (len == 0) 4 some (lit< tt)
    (no_or tree (nat_le (size_of tree held.file) offset) 1 bytes (lit< tt)
    (record {
      said = let l = length-take (capped_at cap len) (drop offset (bytes_of tree held.file)) in
          omega (arith, l, le);
    })))

writes_said : (tree : FileTree) (file offset : ℕ) (piece : List ℕ) → Says (answer_to_write tree file offset piece)
writes_said tree file offset piece = no_or tree (is_over tree file (max (size_of tree file) (offset + length piece))) 4
    (ok_answer (with_bytes tree file (written_at (bytes_of tree file) offset piece))) (lit< tt) (done_said _)

resizes_said : (tree : FileTree) (file size : ℕ) → Says (resize_answer tree file size)
resizes_said tree file size = no_or tree (is_over tree file size) 4
    (ok_answer (with_bytes tree file (resized_bytes size (bytes_of tree file)))) (lit< tt) (done_said _)

write_said : (tree : FileTree) (offset : ℕ) (piece : List ℕ) (held : Option Held)
    → Says (after_write tree offset piece held)
write_said tree offset piece None = code_said tree 4 (lit< tt)
write_said tree offset piece (Some held) = no_or tree (not held.writable) 3
    (answer_to_write tree held.file (offset_of tree held offset) piece) (lit< tt)
    (writes_said tree held.file (offset_of tree held offset) piece)

fstat_said : (tree : FileTree) (o : Option Opened) → IsFit tree → Says (after_fstat tree o)
fstat_said tree None fit = code_said tree 4 (lit< tt)
fstat_said tree (Some (opened.File held)) fit = record { said = told tree (node.File held.file) fit }
fstat_said tree (Some (opened.Directory entries)) fit = record { said = told tree node.Directory fit }

sets_held_said : (tree : FileTree) (held : Held) (size : Option ℕ) → Says (sets_held tree held size)
sets_held_said tree held None = done_said tree
sets_held_said tree held (Some size) = no_or tree (not held.writable) 3 (resize_answer tree held.file size) (lit< tt)
    (resizes_said tree held.file size)

fsync_said : (tree : FileTree) (held : Option Held) → Says (after_fsync tree held)
fsync_said tree None = code_said tree 4 (lit< tt)
fsync_said tree (Some held) = done_said tree

copy_said : (tree : FileTree) (from_offset len to_offset : ℕ) (from to : Option Held)
    → Says (after_copy tree from_offset len to_offset from to)
copy_said tree from_offset len to_offset None to = code_said tree 4 (lit< tt)
copy_said tree from_offset len to_offset (Some from) None = code_said tree 4 (lit< tt)
copy_said tree from_offset len to_offset (Some from) (Some to) =
    let piece : List ℕ = copied_bytes (bytes_of tree from.file) from_offset len in
    no_or tree (not from.readable || not to.writable) 3 (answer_to_write tree to.file (offset_of tree to to_offset)
    piece)
    (lit< tt) (writes_said tree to.file (offset_of tree to to_offset) piece)

stat_said : (tree : FileTree) (n : Option Node) → IsFit tree → Says (after_stat tree n)
stat_said tree None fit = code_said tree 2 (lit< tt)
stat_said tree (Some n) fit = record { said = told tree n fit }

sets_node_said : (tree : FileTree) (size : Option ℕ) (n : Node) → Says (sets_node tree size n)
sets_node_said tree None n = done_said tree
sets_node_said tree (Some size) node.Directory = code_said tree 4 (lit< tt)
sets_node_said tree (Some size) (node.File file) = resizes_said tree file size

remove_said : (tree : FileTree) (name : Name) (n : Option Node) → Says (after_remove tree name n)
remove_said tree name None = code_said tree 2 (lit< tt)
remove_said tree name (Some node.Directory) = code_said tree 4 (lit< tt)
remove_said tree name (Some (node.File file)) = done_said _

mkdir_said : (tree : FileTree) (name : Name) (n : Option Node) → Says (after_mkdir tree name n)
mkdir_said tree name None = new tree name (ok_answer (with_name tree name node.Directory)) (done_said _)
mkdir_said tree name (Some n) = code_said tree 4 (lit< tt)

rmdir_said : (tree : FileTree) (name : Name) (n : Option Node) → Says (after_rmdir tree name n)
rmdir_said tree name None = code_said tree 2 (lit< tt)
rmdir_said tree name (Some (node.File file)) = code_said tree 4 (lit< tt)
rmdir_said tree name (Some node.Directory) = no_or tree (same_name name [] || has_child tree name) 4
    (ok_answer (without_name tree name)) (lit< tt) (done_said _)

opendir_said : (tree : FileTree) (handle : List ℕ) (name : Name) (n : Option Node) → length handle ≤ MAX_HANDLE_LEN
    → Says (after_opendir tree handle name n)
opendir_said tree handle name None le = code_said tree 2 (lit< tt)
opendir_said tree handle name (Some (node.File file)) le = code_said tree 4 (lit< tt)
opendir_said tree handle name (Some node.Directory) le = record { said = le }

readdir_said : (tree : FileTree) (cap : ℕ) (h : List ℕ) (entries : Option (List NameEntry)) → IsFit tree
    → entries_of (opened_at tree h) ≡ entries → Says (after_readdir tree cap h entries)
readdir_said tree cap h None fit e = code_said tree 4 (lit< tt)
readdir_said tree cap h (Some []) fit e = code_said tree 1 (lit< tt)
readdir_said tree cap h (Some (first ∷ entries)) fit e =
    record {
      said = inl (
        take_short (capped_at cap MAX_NAME_ENTRIES) (first ∷ entries)
            (held_entries tree h (first ∷ entries) fit e),
        let l = length-take (capped_at cap MAX_NAME_ENTRIES)
            (first ∷ entries) in let c = capped_below cap MAX_NAME_ENTRIES in omega (arith, l, c),
      );
    }

realpath_said : (tree : FileTree) (name : Name) → Says (after_realpath tree name)
realpath_said tree name =
    either (nat_lt MAX_BODY_LEN (length (reply_body (path_reply name) 0))) (refusal_answer tree SSH_FX_FAILURE)
    (let x : Answer = (path_reply name, tree) in x) (λ t. code_said tree 4 (lit< tt))
    (λ t. record { said = inr (name, refl, ltb-false MAX_BODY_LEN (length (reply_body (path_reply name) 0)) t) })

rename_said : (tree : FileTree) (old to : Name) (n there : Option Node) → Says (after_rename tree old to n there)
rename_said tree old to None there = code_said tree 2 (lit< tt)
rename_said tree old to (Some n) (Some there) = code_said tree 4 (lit< tt)
rename_said tree old to (Some n) None = no_or tree (is_within old to) 4
    (where_new tree to (ok_answer (with_renamed tree old to))) (lit< tt)
    (new tree to (ok_answer (with_renamed tree old to)) (done_said _))

replaces_said : (tree : FileTree) (old to : Name) (n : Node) (there : Option Node)
    → Says (replace_answer tree old to n there)
replaces_said tree old to n None = new tree to (ok_answer (with_renamed tree old to)) (done_said _)
replaces_said tree old to node.Directory (Some there) = code_said tree 4 (lit< tt)
replaces_said tree old to (node.File file) (Some node.Directory) = code_said tree 4 (lit< tt)
replaces_said tree old to (node.File file) (Some (node.File gone)) = done_said _

posix_said : (tree : FileTree) (old to : Name) (n there : Option Node) → Says (after_posix_rename tree old to n there)
posix_said tree old to None there = code_said tree 2 (lit< tt)
posix_said tree old to (Some n) there =
    either (same_name old to) (ok_answer tree) (if is_within old to || is_within to old then
    refusal_answer tree SSH_FX_FAILURE else
    replace_answer tree old to n there) (λ t. done_said tree)
    (λ t. no_or tree (is_within old to || is_within to old) 4 (replace_answer tree old to n there) (lit< tt)
    (replaces_said tree old to n there))

offered : (tree : FileTree) (config : ServerConfig) (bit : ℕ) (x : Answer) → Says x
    → Says (where_offered tree config bit x)
offered tree config bit x h = either (has_bit config.extensions.0 bit) x (refusal_answer tree SSH_FX_OP_UNSUPPORTED)
    (λ t. h) (λ t. code_said tree 8 (lit< tt))

limits_said : (tree : FileTree) (limits : Option Limits) → Says (limits_reply limits, tree)
limits_said tree None = code_said tree 8 (lit< tt)
limits_said tree (Some limits) = record { said = (limits, refl) }

answered_said : (tree : FileTree) (config : ServerConfig) (r : Request) (cap : ℕ) (handle : List ℕ) → IsFit tree
    → length handle ≤ MAX_HANDLE_LEN → GivesWithin cap r → Says (tree_answer tree config r cap handle)
answered_said tree config (request.OpenFile path flags attrs) cap handle fit le g =
    open_said tree handle flags.0 (components path) (node_at tree (components path)) le
answered_said tree config (request.Close h) cap handle fit le g = close_said tree h (opened_at tree h)
answered_said tree config (request.Read h offset len) cap handle fit le g =
    read_said tree cap offset len (file_of (opened_at tree h)) g
answered_said tree config (request.Write h offset content) cap handle fit le g =
    write_said tree offset content (file_of (opened_at tree h))
answered_said tree config (request.Stat path) cap handle fit le g = stat_said tree (node_at tree (components path)) fit
answered_said tree config (request.Lstat path) cap handle fit le g = stat_said tree (node_at tree (components path)) fit
answered_said tree config (request.Fstat h) cap handle fit le g = fstat_said tree (opened_at tree h) fit
answered_said tree config (request.Setstat path attrs) cap handle fit le g = by_node (node_at tree (components path))
  where
    by_node : (n : Option Node) → Says (after_setstat tree attrs n)
    by_node None = code_said tree 2 (lit< tt)
    by_node (Some n) = sets_node_said tree attrs.size n
answered_said tree config (request.Fsetstat h attrs) cap handle fit le g = by_held (file_of (opened_at tree h))
  where
    by_held : (held : Option Held) → Says (after_fsetstat tree attrs held)
    by_held None = code_said tree 4 (lit< tt)
    by_held (Some held) = sets_held_said tree held attrs.size
answered_said tree config (request.Remove path) cap handle fit le g =
    remove_said tree (components path) (node_at tree (components path))
answered_said tree config (request.Mkdir path attrs) cap handle fit le g =
    mkdir_said tree (components path) (node_at tree (components path))
answered_said tree config (request.Rmdir path) cap handle fit le g =
    rmdir_said tree (components path) (node_at tree (components path))
answered_said tree config (request.Opendir path) cap handle fit le g =
    opendir_said tree handle (components path) (node_at tree (components path)) le
answered_said tree config (request.Readdir h) cap handle fit le g =
    readdir_said tree cap h (entries_of (opened_at tree h)) fit refl
answered_said tree config (request.Realpath path) cap handle fit le g = realpath_said tree (components path)
answered_said tree config (request.ExpandPath path) cap handle fit le g =
    offered tree config 8 (after_realpath tree (components path)) (realpath_said tree (components path))
answered_said tree config (request.Rename old to) cap handle fit le g =
    rename_said tree (components old) (components to) (node_at tree (components old)) (node_at tree (components to))
answered_said tree config (request.PosixRename old to) cap handle fit le g =
    offered tree config 1 _ (posix_said tree (components old) (components to) (node_at tree (components old))
    (node_at tree (components to)))
answered_said tree config (request.Fsync h) cap handle fit le g =
    offered tree config 4 _ (fsync_said tree (file_of (opened_at tree h)))
answered_said tree config (request.CopyData from from_offset len to to_offset) cap handle fit le g =
    offered tree config 16 _ (copy_said tree from_offset len to_offset (file_of (opened_at tree from))
    (file_of (opened_at tree to)))
answered_said tree config request.LimitsQuery cap handle fit le g = limits_said tree config.limits
answered_said tree config r cap handle fit le g = code_said tree 8 (lit< tt)

pub tree_replies : (tree : FileTree) (config : ServerConfig) (r : Request) (choice : Choice) (handle : List ℕ)
    → IsFit tree → length handle ≤ MAX_HANDLE_LEN → choice.refuse < 2 ^ 32 → GivesWithin choice.cap r
    → Says (apply tree config r choice handle)
tree_replies tree config r choice handle fit le lt g =
    either (choice.refuse == 0) (tree_answer tree config r choice.cap handle) (refusal_answer tree choice.refuse)
    (λ t. answered_said tree config r choice.cap handle fit le g) (λ t. code_said tree choice.refuse lt)
