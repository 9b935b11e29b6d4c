-- Each answer of a tree leaves what one of the changes leaves that its request may lead to.
use Rattle.std.proofs.Common.{
  ◌≡◌,
  ℕ,
  ◌+◌,
  ◌==◌,
  Bool,
  true,
  false,
  List,
  [],
  ◌∷◌,
  length,
  take,
  drop,
  Option,
  Some,
  None,
  if◌then◌else◌,
  refl,
  sym,
  ◌∙◌,
  inl,
  inr,
  ◌-◌,
  ◌≤◌,
  arith,
}
use Rattle.std.specs.Prelude.{not, ◌&&◌, ◌||◌, max, nat_le, nat_lt}
use Rattle.std.proofs.lemmas.Bool.{ltb-false, or_parts, or_left, or_right, not-false}
use Rattle.sftp_model.specs.declared.config.Choice.{Choice}
use Rattle.sftp_model.specs.declared.config.ServerConfig.{ServerConfig}
use Rattle.sftp_model.specs.declared.file_attrs.FileAttrs.{FileAttrs}
use Rattle.sftp_model.specs.declared.reply.NameEntry.{NameEntry}
use Rattle.sftp_model.specs.declared.reply.Reply.{Reply}
use Rattle.sftp_model.specs.declared.reply.Reply.TheVariants as reply
use Rattle.sftp_model.specs.declared.request.Request.{Request}
use Rattle.sftp_model.specs.declared.request.Request.TheVariants as request
use Rattle.machine_model.specs.declared.node.Node.TheVariants as node
use Rattle.machine_model.specs.declared.opened.Opened.TheVariants as opened
use Rattle.sftp_model.specs.Frames.{reply_body}
use Rattle.sftp_model.specs.Readings.{has_bit}
use Rattle.sftp_model.specs.Answers.{is_handle}
use Rattle.sftp_model.specs.declared.config.Limits.{Limits}
use Rattle.sftp_model.specs.Numbers.{MAX_BODY_LEN, SSH_FX_EOF, SSH_FX_FAILURE, SSH_FX_NO_SUCH_FILE, SSH_FX_OP_UNSUPPORTED, SSH_FX_PERMISSION_DENIED}
use Rattle.machine_model.proofs.NameLaws.{differ_by}
use Rattle.machine_model.proofs.PutLaws.{length_put, length_resized}
use Rattle.machine_model.specs.Changes.{
  AsksToOpen,
  ClosedDirectory,
  ClosedFile,
  ClosesHandle,
  Created,
  DenotesName,
  Granted,
  LeavesChanged,
  Listed,
  ListsEntries,
  MadeDirectory,
  MayMove,
  MayStand,
  MovesName,
  OpensAsked,
  ReachesFile,
  RemovedDirectory,
  RemovedFile,
  Renamed,
  Replaced,
  Rewritten,
  Truncated,
  Unchanged,
  makes_or_empties,
}
use Rattle.machine_model.specs.Components.{Name, components, is_long_name, is_within, parent_of, same_name}
use Rattle.machine_model.specs.FileTree.{
  FileTree,
  all_bytes,
  bytes_of,
  entries_of,
  file_of,
  is_directory,
  is_over,
  node_at,
  opened_at,
  written_at,
  resized_bytes,
  size_of,
  with_bytes,
  with_file,
  with_name,
  with_renamed,
  without_name,
}
use Rattle.machine_model.specs.HandleRequests.{
  Answer,
  after_close,
  after_copy,
  after_fsetstat,
  after_fstat,
  after_fsync,
  after_open,
  after_read,
  after_write,
  capped_at,
  copied_bytes,
  creates,
  ok_answer,
  grant_answer,
  held_by,
  is_exclusive,
  offset_of,
  refusal_answer,
  resize_answer,
  sets_held,
  truncates,
  where_new,
  answer_to_write,
}
use Rattle.machine_model.specs.Limits.{MAX_FILE_LEN, MAX_NAME_ENTRIES, MAX_TOTAL_LEN}
use Rattle.machine_model.specs.NameRequests.{
  after_mkdir,
  after_opendir,
  after_posix_rename,
  after_readdir,
  after_realpath,
  after_remove,
  after_rename,
  after_rmdir,
  after_setstat,
  after_stat,
  entries_at,
  has_child,
  path_reply,
  replace_answer,
  sets_node,
}
use Rattle.machine_model.specs.TreeAnswers.{tree_answer, apply, limits_reply, where_offered}
use Rattle.machine_model.specs.declared.node.Node.{Node}
use Rattle.machine_model.specs.declared.opened.Held.{Held}
use Rattle.machine_model.specs.declared.opened.Opened.{Opened}

same : (tree : FileTree) (r : Request) (handle : List ℕ) {a : Reply} → is_handle a ≡ false
    → LeavesChanged tree r handle (a, tree)
same tree r handle e = record {
  change = Unchanged;
  may = tt;
  checked = tt;
  is = refl;
  said = e;
  named =
      λ t. absurd (let both : false ≡ true = sym e ∙ t in cc);
}

limits_leave : (tree : FileTree) (handle : List ℕ) (limits : Option Limits)
    → LeavesChanged tree request.LimitsQuery handle (limits_reply limits, tree)
limits_leave tree handle None = same tree _ handle refl
limits_leave tree handle (Some limits) = same tree _ handle refl

either : (tree : FileTree) (r : Request) (handle : List ℕ) (b : Bool) (x y : Answer) → LeavesChanged tree r handle x
    → LeavesChanged tree r handle y → LeavesChanged tree r handle (if b then x else y)
either tree r handle true x y h k = h
either tree r handle false x y h k = k

either_by : (tree : FileTree) (r : Request) (handle : List ℕ) (b : Bool) (x y : Answer)
    → (b ≡ true → LeavesChanged tree r handle x) → (b ≡ false → LeavesChanged tree r handle y)
    → LeavesChanged tree r handle (if b then x else y)
either_by tree r handle true x y h k = h refl
either_by tree r handle false x y h k = k refl

new : (tree : FileTree) (r : Request) (handle : List ℕ) (name : Name) (x : Answer) → node_at tree name ≡ None
    → (MayStand tree name → LeavesChanged tree r handle x) → LeavesChanged tree r handle (where_new tree name x)
new tree r handle name x none h =
    either_by tree r handle (not (is_directory (node_at tree (parent_of name))))
    (refusal_answer tree SSH_FX_NO_SUCH_FILE)
    (if is_long_name name then refusal_answer tree SSH_FX_FAILURE else x) (λ t. same tree r handle refl)
    (λ t. either_by tree r handle (is_long_name name) (refusal_answer tree SSH_FX_FAILURE) x
    (λ v. same tree r handle refl)
    (λ v. h (none, not-false (is_directory (node_at tree (parent_of name))) t, v)))

-- a size that isn't over a limit
within_limit : (tree : FileTree) (file size : ℕ) → is_over tree file size ≡ false → size ≤ MAX_FILE_LEN
within_limit tree file size e = ltb-false MAX_FILE_LEN size (or_parts (nat_lt MAX_FILE_LEN size)
    (nat_lt MAX_TOTAL_LEN (all_bytes tree - size_of tree file + size)) e).0

open_leaves : (tree : FileTree) (r : Request) (handle : List ℕ) (flags : ℕ) (name : Name) (n : Option Node)
    → AsksToOpen r name → ((file : ℕ) → OpensAsked r (held_by flags file))
    → (makes_or_empties flags ≡ true → DenotesName r name)
    → node_at tree name ≡ n → LeavesChanged tree r handle (after_open tree handle flags name n)
open_leaves tree r handle flags name (Some node.Directory) a h d e = same tree r handle refl
open_leaves tree r handle flags name (Some (node.File file)) a h d e =
    either tree r handle (creates flags && is_exclusive flags) (refusal_answer tree SSH_FX_FAILURE)
    (if truncates flags then grant_answer (with_bytes tree file []) handle (held_by flags file) else
    grant_answer tree handle (held_by flags file)) (same tree r handle refl)
    (either_by tree r handle (truncates flags) (grant_answer (with_bytes tree file []) handle (held_by flags file))
    (grant_answer tree handle (held_by flags file))
    (λ t. record {
      change = Truncated file (held_by flags file);
      may =
          (inr (name, (d (or_right (creates flags) (truncates flags) t), e)), refl, (name, (a, e)), h file);
      checked = tt;
      is =
          refl;
      said = refl;
      named = λ t. refl;
    })
    (λ t. record {
      change = Granted (held_by flags file);
      may = ((name, (a, e)), h file);
      checked = tt;
      is = refl;
      said = refl;
      named = λ t. refl;
    }))
open_leaves tree r handle flags name None a h d e =
    either_by tree r handle (not (creates flags)) (refusal_answer tree SSH_FX_NO_SUCH_FILE)
    (where_new tree name (grant_answer (with_file tree name) handle (held_by flags (length tree.files))))
    (λ t. same tree r handle refl)
    (λ t. new tree r handle name (grant_answer (with_file tree name) handle (held_by flags (length tree.files))) e
    (λ u. record {
      change = Created name (held_by flags (length tree.files));
      may =
          (d (or_left (creates flags) (truncates flags) (not-false (creates flags) t)), e, refl, h (length tree.files));
      checked = (u, tt);
      is =
          refl;
      said = refl;
      named = λ t. refl;
    }))

close_leaves : (tree : FileTree) (r : Request) (handle h : List ℕ) (o : Option Opened) → ClosesHandle r h
    → LeavesChanged tree r handle (after_close tree h o)
close_leaves tree r handle h None c = same tree r handle refl
close_leaves tree r handle h (Some (opened.File held)) c = record
    { change = ClosedFile h held.file; may = c; checked = tt; is = refl; said = refl; named = λ t. absurd cc }
close_leaves tree r handle h (Some (opened.Directory entries)) c =
    record { change = ClosedDirectory h; may = c; checked = tt; is = refl; said = refl; named = λ t. absurd cc }

read_leaves : (tree : FileTree) (r : Request) (handle : List ℕ) (cap offset len : ℕ) (held : Option Held)
    → LeavesChanged tree r handle (after_read tree cap offset len held)
read_leaves tree r handle cap offset len None = same tree r handle refl
read_leaves tree r handle cap offset len (Some held) =
    let bytes : Answer = (reply.Content (take (capped_at cap len) (drop offset (bytes_of tree held.file))), tree) in
    let some : Answer = if nat_le (size_of tree held.file) offset then refusal_answer tree SSH_FX_EOF else bytes in
    let readable : Answer = if len == 0 then refusal_answer tree SSH_FX_FAILURE else some in
    either tree r handle (not held.readable) (refusal_answer tree SSH_FX_PERMISSION_DENIED) readable
    (same tree r handle refl)
    (either tree r handle (len == 0) (refusal_answer tree SSH_FX_FAILURE) some (same tree r handle refl)
    (either tree r handle (nat_le (size_of tree held.file) offset) (refusal_answer tree SSH_FX_EOF) bytes
    (same tree r handle refl) (same tree r handle refl)))

writes_leave : (tree : FileTree) (r : Request) (handle : List ℕ) (file offset : ℕ) (piece : List ℕ)
    → ReachesFile tree r file → LeavesChanged tree r handle (answer_to_write tree file offset piece)
writes_leave tree r handle file offset piece h =
    either_by tree r handle (is_over tree file (max (size_of tree file) (offset + length piece)))
    (refusal_answer tree SSH_FX_FAILURE) (ok_answer (with_bytes tree file
    (written_at (bytes_of tree file) offset piece)))
    (λ t. same tree r handle refl)
    (λ t. record {
      change = Rewritten file (written_at (bytes_of tree file) offset piece);
      may = h;
      checked = let l = length_put (bytes_of tree file) offset piece in let w =
          within_limit tree file (max (size_of tree file) (offset + length piece)) t in omega (arith, l, w);
      is = refl;
      said = refl;
      named = λ t. absurd cc;
    })

resizes_leave : (tree : FileTree) (r : Request) (handle : List ℕ) (file size : ℕ) → ReachesFile tree r file
    → LeavesChanged tree r handle (resize_answer tree file size)
resizes_leave tree r handle file size h =
    either_by tree r handle (is_over tree file size) (refusal_answer tree SSH_FX_FAILURE)
    (ok_answer (with_bytes tree file (resized_bytes size (bytes_of tree file)))) (λ t. same tree r handle refl)
    (λ t. record {
      change = Rewritten file (resized_bytes size (bytes_of tree file));
      may = h;
      checked = let l = length_resized size (bytes_of tree file) in let w = within_limit tree file size t in
          omega (arith, l, w);
      is = refl;
      said = refl;
      named = λ t. absurd cc;
    })

write_leaves : (tree : FileTree) (r : Request) (handle : List ℕ) (offset : ℕ) (piece : List ℕ) (held : Option Held)
    → ((h : Held) → held ≡ Some h → ReachesFile tree r h.file)
    → LeavesChanged tree r handle (after_write tree offset piece held)
write_leaves tree r handle offset piece None h = same tree r handle refl
write_leaves tree r handle offset piece (Some held) h =
    either tree r handle (not held.writable) (refusal_answer tree SSH_FX_PERMISSION_DENIED)
    (answer_to_write tree held.file (offset_of tree held offset) piece) (same tree r handle refl)
    (writes_leave tree r handle held.file (offset_of tree held offset) piece (h held refl))

fstat_leaves : (tree : FileTree) (r : Request) (handle : List ℕ) (o : Option Opened)
    → LeavesChanged tree r handle (after_fstat tree o)
fstat_leaves tree r handle None = same tree r handle refl
fstat_leaves tree r handle (Some (opened.File held)) = same tree r handle refl
fstat_leaves tree r handle (Some (opened.Directory entries)) = same tree r handle refl

sets_held_leaves : (tree : FileTree) (r : Request) (handle : List ℕ) (held : Held) (size : Option ℕ)
    → ReachesFile tree r held.file → LeavesChanged tree r handle (sets_held tree held size)
sets_held_leaves tree r handle held None h = same tree r handle refl
sets_held_leaves tree r handle held (Some size) h =
    either tree r handle (not held.writable) (refusal_answer tree SSH_FX_PERMISSION_DENIED)
    (resize_answer tree held.file size)
    (same tree r handle refl) (resizes_leave tree r handle held.file size h)

fsetstat_leaves : (tree : FileTree) (r : Request) (handle : List ℕ) (attrs : FileAttrs) (held : Option Held)
    → ((h : Held) → held ≡ Some h → ReachesFile tree r h.file)
    → LeavesChanged tree r handle (after_fsetstat tree attrs held)
fsetstat_leaves tree r handle attrs None h = same tree r handle refl
fsetstat_leaves tree r handle attrs (Some held) h = sets_held_leaves tree r handle held attrs.size (h held refl)

fsync_leaves : (tree : FileTree) (r : Request) (handle : List ℕ) (held : Option Held)
    → LeavesChanged tree r handle (after_fsync tree held)
fsync_leaves tree r handle None = same tree r handle refl
fsync_leaves tree r handle (Some held) = same tree r handle refl

copy_leaves : (tree : FileTree) (r : Request) (handle : List ℕ) (from_offset len to_offset : ℕ) (from to : Option Held)
    → ((h : Held) → to ≡ Some h → ReachesFile tree r h.file) → LeavesChanged tree r handle
    (after_copy tree from_offset len to_offset from to)
copy_leaves tree r handle from_offset len to_offset None to h = same tree r handle refl
copy_leaves tree r handle from_offset len to_offset (Some from) None h = same tree r handle refl
copy_leaves tree r handle from_offset len to_offset (Some from) (Some to) h =
    let piece : List ℕ = copied_bytes (bytes_of tree from.file) from_offset len in
    either tree r handle (not from.readable || not to.writable) (refusal_answer tree SSH_FX_PERMISSION_DENIED)
    (answer_to_write tree to.file (offset_of tree to to_offset) piece) (same tree r handle refl)
    (writes_leave tree r handle to.file (offset_of tree to to_offset) piece (h to refl))

stat_leaves : (tree : FileTree) (r : Request) (handle : List ℕ) (n : Option Node)
    → LeavesChanged tree r handle (after_stat tree n)
stat_leaves tree r handle None = same tree r handle refl
stat_leaves tree r handle (Some n) = same tree r handle refl

setstat_leaves : (tree : FileTree) (r : Request) (handle : List ℕ) (name : Name) (size : Option ℕ) (n : Node)
    → DenotesName r name → node_at tree name ≡ Some n → LeavesChanged tree r handle (sets_node tree size n)
setstat_leaves tree r handle name None n d e = same tree r handle refl
setstat_leaves tree r handle name (Some size) node.Directory d e = same tree r handle refl
setstat_leaves tree r handle name (Some size) (node.File file) d e =
    resizes_leave tree r handle file size (inr (name, (d, e)))

any_setstat_leaves : (tree : FileTree) (r : Request) (handle : List ℕ) (name : Name) (attrs : FileAttrs)
    (n : Option Node) → DenotesName r name → node_at tree name ≡ n
    → LeavesChanged tree r handle (after_setstat tree attrs n)
any_setstat_leaves tree r handle name attrs None d e = same tree r handle refl
any_setstat_leaves tree r handle name attrs (Some n) d e = setstat_leaves tree r handle name attrs.size n d e

remove_leaves : (tree : FileTree) (r : Request) (handle : List ℕ) (name : Name) (n : Option Node) → DenotesName r name
    → node_at tree name ≡ n → LeavesChanged tree r handle (after_remove tree name n)
remove_leaves tree r handle name None d e = same tree r handle refl
remove_leaves tree r handle name (Some node.Directory) d e = same tree r handle refl
remove_leaves tree r handle name (Some (node.File file)) d e =
    record { change = RemovedFile name file; may = d; checked = e; is = refl; said = refl; named = λ t. absurd cc }

mkdir_leaves : (tree : FileTree) (r : Request) (handle : List ℕ) (name : Name) (n : Option Node) → DenotesName r name
    → node_at tree name ≡ n → LeavesChanged tree r handle (after_mkdir tree name n)
mkdir_leaves tree r handle name None d e = new tree r handle name (ok_answer (with_name tree name node.Directory)) e
    (λ u. record { change = MadeDirectory name; may = d; checked = u; is = refl; said = refl; named = λ t. absurd cc })
mkdir_leaves tree r handle name (Some n) d e = same tree r handle refl

rmdir_leaves : (tree : FileTree) (r : Request) (handle : List ℕ) (name : Name) (n : Option Node) → DenotesName r name
    → node_at tree name ≡ n → LeavesChanged tree r handle (after_rmdir tree name n)
rmdir_leaves tree r handle name None d e = same tree r handle refl
rmdir_leaves tree r handle name (Some (node.File file)) d e = same tree r handle refl
rmdir_leaves tree r handle name (Some node.Directory) d e =
    either_by tree r handle (same_name name [] || has_child tree name) (refusal_answer tree SSH_FX_FAILURE)
    (ok_answer (without_name tree name)) (λ t. same tree r handle refl)
    (λ t.
    let parts = or_parts (same_name name []) (has_child tree name) t in
    record {
      change = RemovedDirectory name;
      may = d;
      checked = (e, differ_by name [] parts.0, parts.1);
      is = refl;
      said = refl;
      named = λ t. absurd cc;
    })

opendir_leaves : (tree : FileTree) (r : Request) (handle : List ℕ) (name : Name) (n : Option Node)
    → LeavesChanged tree r handle (after_opendir tree handle name n)
opendir_leaves tree r handle name None = same tree r handle refl
opendir_leaves tree r handle name (Some (node.File file)) = same tree r handle refl
opendir_leaves tree r handle name (Some node.Directory) = record {
  change = Granted (opened.Directory (entries_at tree name));
  may = (tt, tt);
  checked = (name, refl);
  is = refl;
  said =
      refl;
  named = λ t. refl;
}

readdir_leaves : (tree : FileTree) (r : Request) (handle h : List ℕ) (cap : ℕ) (entries : Option (List NameEntry))
    → ListsEntries r h → entries_of (opened_at tree h) ≡ entries
    → LeavesChanged tree r handle (after_readdir tree cap h entries)
readdir_leaves tree r handle h cap None l e = same tree r handle refl
readdir_leaves tree r handle h cap (Some []) l e = same tree r handle refl
readdir_leaves tree r handle h cap (Some (first ∷ entries)) l e =
    record {
      change = Listed h (drop (capped_at cap MAX_NAME_ENTRIES) (first ∷ entries));
      may = (first ∷ entries, e, l);
      checked = (first ∷ entries, capped_at cap MAX_NAME_ENTRIES, e, refl);
      is = refl;
      said = refl;
      named = λ t. absurd cc;
    }

realpath_leaves : (tree : FileTree) (r : Request) (handle : List ℕ) (name : Name)
    → LeavesChanged tree r handle (after_realpath tree name)
realpath_leaves tree r handle name =
    either tree r handle (nat_lt MAX_BODY_LEN (length (reply_body (path_reply name) 0)))
    (refusal_answer tree SSH_FX_FAILURE)
    (let x : Answer = (path_reply name, tree) in x) (same tree r handle refl) (same tree r handle refl)

moved_leaves : (tree : FileTree) (r : Request) (handle : List ℕ) (old to : Name) → MovesName r old to
    → MayMove tree old to
    → MayStand tree to → LeavesChanged tree r handle (ok_answer (with_renamed tree old to))
moved_leaves tree r handle old to d m u = record {
  change = Renamed old to;
  may = d;
  checked = (m, u);
  is = refl;
  said =
      refl;
  named = λ t. absurd cc;
}

rename_leaves : (tree : FileTree) (r : Request) (handle : List ℕ) (old to : Name) (n there : Option Node)
    → MovesName r old to → node_at tree old ≡ n → node_at tree to ≡ there
    → LeavesChanged tree r handle (after_rename tree old to n there)
rename_leaves tree r handle old to None there d e f = same tree r handle refl
rename_leaves tree r handle old to (Some n) (Some there) d e f = same tree r handle refl
rename_leaves tree r handle old to (Some n) None d e f =
    either_by tree r handle (is_within old to) (refusal_answer tree SSH_FX_FAILURE)
    (where_new tree to (ok_answer (with_renamed tree old to))) (λ t. same tree r handle refl)
    (λ t. new tree r handle to (ok_answer (with_renamed tree old to)) f
    (λ u. moved_leaves tree r handle old to d (n, e, t) u))

replaces_leaves : (tree : FileTree) (r : Request) (handle : List ℕ) (old to : Name) (n : Node) (there : Option Node)
    → MovesName r old to → node_at tree old ≡ Some n → node_at tree to ≡ there → (is_within old to ≡ false)
    × (is_within to old ≡ false)
    → LeavesChanged tree r handle (replace_answer tree old to n there)
replaces_leaves tree r handle old to n None d e f apart = new tree r handle to (ok_answer (with_renamed tree old to)) f
    (λ u. moved_leaves tree r handle old to d (n, e, apart.0) u)
replaces_leaves tree r handle old to node.Directory (Some there) d e f apart = same tree r handle refl
replaces_leaves tree r handle old to (node.File file) (Some node.Directory) d e f apart = same tree r handle refl
replaces_leaves tree r handle old to (node.File file) (Some (node.File gone)) d e f apart =
    record {
      change = Replaced old to gone;
      may = d;
      checked = (file, e, f, apart.0, apart.1);
      is = refl;
      said = refl;
      named = λ t. absurd cc;
    }

posix_leaves : (tree : FileTree) (r : Request) (handle : List ℕ) (old to : Name) (n there : Option Node)
    → MovesName r old to → node_at tree old ≡ n → node_at tree to ≡ there
    → LeavesChanged tree r handle (after_posix_rename tree old to n there)
posix_leaves tree r handle old to None there d e f = same tree r handle refl
posix_leaves tree r handle old to (Some n) there d e f =
    let rest : Answer = if is_within old to || is_within to old then refusal_answer tree SSH_FX_FAILURE else
    replace_answer tree old to n there in
    either tree r handle (same_name old to) (ok_answer tree) rest (same tree r handle refl)
    (either_by tree r handle (is_within old to || is_within to old) (refusal_answer tree SSH_FX_FAILURE)
    (replace_answer tree old to n there) (λ t. same tree r handle refl)
    (λ t. replaces_leaves tree r handle old to n there d e f (or_parts (is_within old to) (is_within to old) t)))

offered : (tree : FileTree) (config : ServerConfig) (r : Request) (handle : List ℕ) (bit : ℕ) (x : Answer)
    → LeavesChanged tree r handle x → LeavesChanged tree r handle (where_offered tree config bit x)
offered tree config r handle bit x h = either tree r handle (has_bit config.extensions.0 bit) x
    (refusal_answer tree SSH_FX_OP_UNSUPPORTED) h (same tree r handle refl)

answered_leaves : (tree : FileTree) (config : ServerConfig) (r : Request) (cap : ℕ) (handle : List ℕ)
    → LeavesChanged tree r handle (tree_answer tree config r cap handle)
answered_leaves tree config (request.OpenFile path flags attrs) cap handle =
    open_leaves tree _ handle flags.0 (components path) (node_at tree (components path)) refl (λ file. refl)
    (λ t. (t, refl)) refl
answered_leaves tree config (request.Close h) cap handle = close_leaves tree _ handle h (opened_at tree h) refl
answered_leaves tree config (request.Read h offset len) cap handle =
    read_leaves tree _ handle cap offset len (file_of (opened_at tree h))
answered_leaves tree config (request.Write h offset content) cap handle =
    write_leaves tree _ handle offset content (file_of (opened_at tree h)) (λ held e. inl (held, (e, refl)))
answered_leaves tree config (request.Stat path) cap handle = stat_leaves tree _ handle (node_at tree (components path))
answered_leaves tree config (request.Lstat path) cap handle = stat_leaves tree _ handle (node_at tree (components path))
answered_leaves tree config (request.Fstat h) cap handle = fstat_leaves tree _ handle (opened_at tree h)
answered_leaves tree config (request.Setstat path attrs) cap handle =
    any_setstat_leaves tree _ handle (components path) attrs (node_at tree (components path)) refl refl
answered_leaves tree config (request.Fsetstat h attrs) cap handle =
    fsetstat_leaves tree _ handle attrs (file_of (opened_at tree h)) (λ held e. inl (held, (e, refl)))
answered_leaves tree config (request.Remove path) cap handle =
    remove_leaves tree _ handle (components path) (node_at tree (components path)) refl refl
answered_leaves tree config (request.Mkdir path attrs) cap handle =
    mkdir_leaves tree _ handle (components path) (node_at tree (components path)) refl refl
answered_leaves tree config (request.Rmdir path) cap handle =
    rmdir_leaves tree _ handle (components path) (node_at tree (components path)) refl refl
answered_leaves tree config (request.Opendir path) cap handle =
    opendir_leaves tree _ handle (components path) (node_at tree (components path))
answered_leaves tree config (request.Readdir h) cap handle =
    readdir_leaves tree _ handle h cap (entries_of (opened_at tree h)) refl refl
answered_leaves tree config (request.Realpath path) cap handle = realpath_leaves tree _ handle (components path)
answered_leaves tree config (request.ExpandPath path) cap handle =
    offered tree config _ handle 8 (after_realpath tree (components path))
    (realpath_leaves tree _ handle (components path))
answered_leaves tree config (request.Rename old to) cap handle =
    rename_leaves tree _ handle (components old) (components to) (node_at tree (components old))
    (node_at tree (components to)) (refl, refl) refl refl
answered_leaves tree config (request.PosixRename old to) cap handle =
    offered tree config _ handle 1 (after_posix_rename tree (components old) (components to)
    (node_at tree (components old)) (node_at tree (components to)))
    (posix_leaves tree _ handle (components old) (components to) (node_at tree (components old))
    (node_at tree (components to)) (refl, refl) refl refl)
answered_leaves tree config (request.Fsync h) cap handle = offered tree config _ handle 4
    (after_fsync tree (file_of (opened_at tree h))) (fsync_leaves tree _ handle (file_of (opened_at tree h)))
answered_leaves tree config (request.CopyData from from_offset len to to_offset) cap handle =
    offered tree config _ handle 16 (after_copy tree from_offset len to_offset (file_of (opened_at tree from))
    (file_of (opened_at tree to)))
    (copy_leaves tree _ handle from_offset len to_offset (file_of (opened_at tree from)) (file_of (opened_at tree to))
    (λ held e. inl (held, (e, refl))))
answered_leaves tree config request.LimitsQuery cap handle = limits_leave tree handle config.limits
answered_leaves tree config r cap handle = same tree r handle refl

pub apply_leaves : (tree : FileTree) (config : ServerConfig) (r : Request) (choice : Choice) (handle : List ℕ)
    → LeavesChanged tree r handle (apply tree config r choice handle)
apply_leaves tree config r choice handle =
    either tree r handle (choice.refuse == 0) (tree_answer tree config r choice.cap handle)
    (refusal_answer tree choice.refuse)
    (answered_leaves tree config r choice.cap handle) (same tree r handle refl)
