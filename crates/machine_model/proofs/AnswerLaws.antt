-- A tree answers as it may, and a refused request changes nothing.
use Rattle.std.proofs.Common.{
  ◌≡◌,
  ℕ,
  ◌+◌,
  ◌<◌,
  ◌≤◌,
  ◌==◌,
  Bool,
  true,
  false,
  not,
  List,
  [],
  ◌∷◌,
  length,
  take,
  drop,
  Option,
  Some,
  None,
  if◌then◌else◌,
  refl,
  arith,
}
use Rattle.std.specs.Prelude.{◌&&◌, ◌||◌, max, nat_le, nat_lt}
use Rattle.std.proofs.lemmas.Bool.{or_left, and_from, lt-ltb, le-leb, leb-false}
use Rattle.std.proofs.lemmas.Bool.Decides.{nat_tests}
use Rattle.std.proofs.lemmas.List.{length-take, length-drop}
use Rattle.sftp_model.specs.declared.config.Choice.{Choice}
use Rattle.sftp_model.specs.declared.config.Limits.{Limits}
use Rattle.sftp_model.specs.declared.config.ServerConfig.{ServerConfig}
use Rattle.sftp_model.specs.declared.file_attrs.FileAttrs.{FileAttrs}
use Rattle.sftp_model.specs.declared.reply.NameEntry.{NameEntry}
use Rattle.sftp_model.specs.declared.reply.Reply.TheVariants as reply
use Rattle.sftp_model.specs.declared.request.Request.{Request}
use Rattle.sftp_model.specs.declared.request.Request.TheVariants as request
use Rattle.machine_model.specs.declared.node.Node.TheVariants as node
use Rattle.machine_model.specs.declared.opened.Opened.TheVariants as opened
use Rattle.sftp_model.specs.Answers.{MayAnswer, IsAfterHello}
use Rattle.sftp_model.specs.Frames.{reply_body}
use Rattle.sftp_model.specs.Readings.{has_bit}
use Rattle.sftp_model.specs.Numbers.{MAX_BODY_LEN, SSH_FX_EOF, SSH_FX_FAILURE, SSH_FX_NO_SUCH_FILE, SSH_FX_OK, SSH_FX_OP_UNSUPPORTED, SSH_FX_PERMISSION_DENIED}
use Rattle.machine_model.specs.Components.{Name, components, is_long_name, is_within, parent_of, same_name}
use Rattle.machine_model.specs.FileTree.{
  FileTree,
  bytes_of,
  entries_of,
  file_of,
  is_directory,
  is_over,
  node_at,
  opened_at,
  written_at,
  resized_bytes,
  size_of,
  with_bytes,
  with_file,
  with_name,
  with_renamed,
  without_name,
}
use Rattle.machine_model.specs.HandleRequests.{
  Answer,
  after_close,
  after_copy,
  after_fsetstat,
  after_fstat,
  after_fsync,
  after_open,
  after_read,
  after_write,
  capped_at,
  copied_bytes,
  creates,
  ok_answer,
  grant_answer,
  held_by,
  is_exclusive,
  offset_of,
  refusal_answer,
  resize_answer,
  sets_held,
  truncates,
  where_new,
  answer_to_write,
}
use Rattle.machine_model.specs.NameRequests.{
  after_mkdir,
  after_opendir,
  after_posix_rename,
  after_readdir,
  after_realpath,
  after_remove,
  after_rename,
  after_rmdir,
  after_setstat,
  after_stat,
  entries_at,
  has_child,
  path_reply,
  replace_answer,
  sets_node,
}
use Rattle.machine_model.specs.Refusals.{KeepsWhereRefused}
use Rattle.machine_model.proofs.StatusLaws.{IsAnswer, IsPlain, status_allowed}
use Rattle.machine_model.specs.TreeAnswers.{tree_answer, apply, limits_reply, where_offered}
use Rattle.machine_model.specs.declared.node.Node.{Node}
use Rattle.machine_model.specs.declared.opened.Held.{Held}
use Rattle.machine_model.specs.declared.opened.Opened.{Opened}

refusal : (tree : FileTree) (r : Request) (code : ℕ) → IsAfterHello r → (code == 0) ≡ false
    → IsAnswer tree r (refusal_answer tree code)
refusal tree r code h e = record { allowed = status_allowed r code h e; kept = λ ne. refl }

finished : (tree : FileTree) (r : Request) (now : FileTree) → MayAnswer r (reply.Status SSH_FX_OK [] [])
    → IsAnswer tree r (ok_answer now)
finished tree r now h = record { allowed = h; kept = λ ne. absurd (ne refl) }

granted : (tree : FileTree) (r : Request) (now : FileTree) (handle : List ℕ) (o : Opened)
    → MayAnswer r (reply.Handle handle) → IsAnswer tree r (grant_answer now handle o)
granted tree r now handle o h = record { allowed = h; kept = tt }

either : (tree : FileTree) (r : Request) (b : Bool) (x y : Answer) → (b ≡ true → IsAnswer tree r x)
    → (b ≡ false → IsAnswer tree r y) → IsAnswer tree r (if b then x else y)
either tree r true x y h k = h refl
either tree r false x y h k = k refl

new : (tree : FileTree) (r : Request) (name : Name) (x : Answer) → IsAfterHello r → IsAnswer tree r x
    → IsAnswer tree r (where_new tree name x)
new tree r name x h is =
    either tree r (not (is_directory (node_at tree (parent_of name)))) (refusal_answer tree SSH_FX_NO_SUCH_FILE)
    (if is_long_name name then refusal_answer tree SSH_FX_FAILURE else x) (λ t. refusal tree r 2 h refl)
    (λ t. either tree r (is_long_name name) (refusal_answer tree SSH_FX_FAILURE) x (λ u. refusal tree r 4 h refl)
    (λ u. is))

open_answers : (tree : FileTree) (r : Request) (handle : List ℕ) (flags : ℕ) (name : Name) (n : Option Node)
    → IsAfterHello r → MayAnswer r (reply.Handle handle) → IsAnswer tree r (after_open tree handle flags name n)
open_answers tree r handle flags name (Some node.Directory) h ok = refusal tree r 4 h refl
open_answers tree r handle flags name (Some (node.File file)) h ok =
    either tree r (creates flags && is_exclusive flags) (refusal_answer tree SSH_FX_FAILURE)
    (if truncates flags then grant_answer (with_bytes tree file []) handle (held_by flags file) else
    grant_answer tree handle (held_by flags file)) (λ t. refusal tree r 4 h refl)
    (λ t. either tree r (truncates flags) (grant_answer (with_bytes tree file []) handle (held_by flags file))
    (grant_answer tree handle (held_by flags file)) (λ u. granted tree r (with_bytes tree file []) handle
    (held_by flags file) ok) (λ u. granted tree r tree handle (held_by flags file) ok))
open_answers tree r handle flags name None h ok =
    either tree r (not (creates flags)) (refusal_answer tree SSH_FX_NO_SUCH_FILE)
    (where_new tree name (grant_answer (with_file tree name) handle (held_by flags (length tree.files))))
    (λ t. refusal tree r 2 h refl)
    (λ t. new tree r name (grant_answer (with_file tree name) handle (held_by flags (length tree.files))) h
    (granted tree r (with_file tree name) handle (held_by flags (length tree.files)) ok))

close_answers : (tree : FileTree) (r : Request) (handle : List ℕ) (o : Option Opened) → IsPlain r
    → IsAnswer tree r (after_close tree handle o)
close_answers tree r handle None h = refusal tree r 4 h.0 refl
close_answers tree r handle (Some (opened.File held)) h = finished tree r _ h.1
close_answers tree r handle (Some (opened.Directory entries)) h = finished tree r _ h.1

above_zero : (n : ℕ) → (n == 0) ≡ false → 0 < n
above_zero n e = grind (arith, nat_tests)

capped_above : (cap n : ℕ) → 0 < n → 0 < capped_at cap n
capped_above cap n h = grind (arith, nat_tests)

pub capped_below : (cap n : ℕ) → capped_at cap n ≤ n
capped_below cap n = grind (arith, nat_tests)

part_fits : (bytes : List ℕ) (cap offset len : ℕ) → 0 < len → offset < length bytes
    → (0 < length (take (capped_at cap len) (drop offset bytes)))
    × (length (take (capped_at cap len) (drop offset bytes)) ≤ len)
part_fits bytes cap offset len h k = (
  omega (arith, length-take (capped_at cap len) (drop offset bytes), length-drop offset bytes, capped_above cap len h),
  omega (arith, length-take (capped_at cap len) (drop offset bytes), capped_below cap len),
)

read_answers : (tree : FileTree) (handle : List ℕ) (cap offset len : ℕ) (held : Option Held)
    → IsAnswer tree (request.Read handle offset len) (after_read tree cap offset len held)
read_answers tree handle cap offset len None = refusal tree _ 4 tt refl
read_answers tree handle cap offset len (Some held) =
    let r : Request = request.Read handle offset len in
    let bytes : Answer = (reply.Content (take (capped_at cap len) (drop offset (bytes_of tree held.file))), tree) in
    let some : Answer = if nat_le (size_of tree held.file) offset then refusal_answer tree SSH_FX_EOF else bytes in
    either tree r (not held.readable) (refusal_answer tree SSH_FX_PERMISSION_DENIED)
    (if len == 0 then refusal_answer tree SSH_FX_FAILURE else some) (λ t. refusal tree r 3 tt refl)
    (λ t. either tree r (len == 0) (refusal_answer tree SSH_FX_FAILURE) some (λ u. refusal tree r 4 tt refl)
    (λ u. either tree r (nat_le (size_of tree held.file) offset) (refusal_answer tree SSH_FX_EOF) bytes
    (λ v. refusal tree r 1 tt refl)
    (λ v. record {
      allowed = or_left _ _ (let fits = part_fits (bytes_of tree held.file) cap offset len (above_zero len u)
          (leb-false (size_of tree held.file) offset v) in and_from _ _ (lt-ltb _ _ fits.0) (le-leb _ _ fits.1));
      kept = tt;
    })))

writes_answer : (tree : FileTree) (r : Request) (file offset : ℕ) (piece : List ℕ) → IsPlain r
    → IsAnswer tree r (answer_to_write tree file offset piece)
writes_answer tree r file offset piece h =
    either tree r (is_over tree file (max (size_of tree file) (offset + length piece)))
    (refusal_answer tree SSH_FX_FAILURE)
    (ok_answer (with_bytes tree file (written_at (bytes_of tree file) offset piece))) (λ t. refusal tree r 4 h.0 refl)
    (λ t. finished tree r _ h.1)

resizes_answer : (tree : FileTree) (r : Request) (file size : ℕ) → IsPlain r
    → IsAnswer tree r (resize_answer tree file size)
resizes_answer tree r file size h = either tree r (is_over tree file size) (refusal_answer tree SSH_FX_FAILURE)
    (ok_answer (with_bytes tree file (resized_bytes size (bytes_of tree file)))) (λ t. refusal tree r 4 h.0 refl)
    (λ t. finished tree r _ h.1)

write_answers : (tree : FileTree) (r : Request) (offset : ℕ) (piece : List ℕ) (held : Option Held) → IsPlain r
    → IsAnswer tree r (after_write tree offset piece held)
write_answers tree r offset piece None h = refusal tree r 4 h.0 refl
write_answers tree r offset piece (Some held) h =
    either tree r (not held.writable) (refusal_answer tree SSH_FX_PERMISSION_DENIED)
    (answer_to_write tree held.file (offset_of tree held offset) piece) (λ t. refusal tree r 3 h.0 refl)
    (λ t. writes_answer tree r held.file (offset_of tree held offset) piece h)

attrs_answer : (tree : FileTree) (r : Request) (attrs : FileAttrs) → MayAnswer r (reply.Attrs attrs)
    → IsAnswer tree r (reply.Attrs attrs, tree)
attrs_answer tree r attrs ok = record { allowed = ok; kept = tt }

fstat_answers : (tree : FileTree) (h : List ℕ) (o : Option Opened)
    → IsAnswer tree (request.Fstat h) (after_fstat tree o)
fstat_answers tree h None = refusal tree _ 4 tt refl
fstat_answers tree h (Some (opened.File held)) = record { allowed = refl; kept = tt }
fstat_answers tree h (Some (opened.Directory entries)) = record { allowed = refl; kept = tt }

sets_held_answers : (tree : FileTree) (r : Request) (held : Held) (size : Option ℕ) → IsPlain r
    → IsAnswer tree r (sets_held tree held size)
sets_held_answers tree r held None h = finished tree r tree h.1
sets_held_answers tree r held (Some size) h = either tree r (not held.writable)
    (refusal_answer tree SSH_FX_PERMISSION_DENIED)
    (resize_answer tree held.file size) (λ t. refusal tree r 3 h.0 refl) (λ t. resizes_answer tree r held.file size h)

fsetstat_answers : (tree : FileTree) (r : Request) (attrs : FileAttrs) (held : Option Held) → IsPlain r
    → IsAnswer tree r (after_fsetstat tree attrs held)
fsetstat_answers tree r attrs None h = refusal tree r 4 h.0 refl
fsetstat_answers tree r attrs (Some held) h = sets_held_answers tree r held attrs.size h

fsync_answers : (tree : FileTree) (r : Request) (held : Option Held) → IsPlain r
    → IsAnswer tree r (after_fsync tree held)
fsync_answers tree r None h = refusal tree r 4 h.0 refl
fsync_answers tree r (Some held) h = finished tree r tree h.1

copy_answers : (tree : FileTree) (r : Request) (from_offset len to_offset : ℕ) (from to : Option Held) → IsPlain r
    → IsAnswer tree r (after_copy tree from_offset len to_offset from to)
copy_answers tree r from_offset len to_offset None to h = refusal tree r 4 h.0 refl
copy_answers tree r from_offset len to_offset (Some from) None h = refusal tree r 4 h.0 refl
copy_answers tree r from_offset len to_offset (Some from) (Some to) h =
    let piece : List ℕ = copied_bytes (bytes_of tree from.file) from_offset len in
    either tree r (not from.readable || not to.writable) (refusal_answer tree SSH_FX_PERMISSION_DENIED)
    (answer_to_write tree to.file (offset_of tree to to_offset) piece) (λ t. refusal tree r 3 h.0 refl)
    (λ t. writes_answer tree r to.file (offset_of tree to to_offset) piece h)

stat_answers : (tree : FileTree) (r : Request) (n : Option Node) → IsAfterHello r
    → ((attrs : FileAttrs) → MayAnswer r (reply.Attrs attrs)) → IsAnswer tree r (after_stat tree n)
stat_answers tree r None h ok = refusal tree r 2 h refl
stat_answers tree r (Some n) h ok = record { allowed = ok _; kept = tt }

sets_node_answers : (tree : FileTree) (r : Request) (size : Option ℕ) (n : Node) → IsPlain r
    → IsAnswer tree r (sets_node tree size n)
sets_node_answers tree r None n h = finished tree r tree h.1
sets_node_answers tree r (Some size) node.Directory h = refusal tree r 4 h.0 refl
sets_node_answers tree r (Some size) (node.File file) h = resizes_answer tree r file size h

setstat_answers : (tree : FileTree) (r : Request) (attrs : FileAttrs) (n : Option Node) → IsPlain r
    → IsAnswer tree r (after_setstat tree attrs n)
setstat_answers tree r attrs None h = refusal tree r 2 h.0 refl
setstat_answers tree r attrs (Some n) h = sets_node_answers tree r attrs.size n h

remove_answers : (tree : FileTree) (r : Request) (name : Name) (n : Option Node) → IsPlain r
    → IsAnswer tree r (after_remove tree name n)
remove_answers tree r name None h = refusal tree r 2 h.0 refl
remove_answers tree r name (Some node.Directory) h = refusal tree r 4 h.0 refl
remove_answers tree r name (Some (node.File file)) h = finished tree r _ h.1

mkdir_answers : (tree : FileTree) (r : Request) (name : Name) (n : Option Node) → IsPlain r
    → IsAnswer tree r (after_mkdir tree name n)
mkdir_answers tree r name None h = new tree r name (ok_answer (with_name tree name node.Directory)) h.0
    (finished tree r _ h.1)
mkdir_answers tree r name (Some n) h = refusal tree r 4 h.0 refl

rmdir_answers : (tree : FileTree) (r : Request) (name : Name) (n : Option Node) → IsPlain r
    → IsAnswer tree r (after_rmdir tree name n)
rmdir_answers tree r name None h = refusal tree r 2 h.0 refl
rmdir_answers tree r name (Some (node.File file)) h = refusal tree r 4 h.0 refl
rmdir_answers tree r name (Some node.Directory) h =
    either tree r (same_name name [] || has_child tree name) (refusal_answer tree SSH_FX_FAILURE)
    (ok_answer (without_name tree name)) (λ t. refusal tree r 4 h.0 refl) (λ t. finished tree r _ h.1)

opendir_answers : (tree : FileTree) (path handle : List ℕ) (name : Name) (n : Option Node)
    → IsAnswer tree (request.Opendir path) (after_opendir tree handle name n)
opendir_answers tree path handle name None = refusal tree _ 2 tt refl
opendir_answers tree path handle name (Some (node.File file)) = refusal tree _ 4 tt refl
opendir_answers tree path handle name (Some node.Directory) =
    granted tree _ tree handle (opened.Directory (entries_at tree name)) refl

readdir_answers : (tree : FileTree) (h : List ℕ) (cap : ℕ) (entries : Option (List NameEntry))
    → IsAnswer tree (request.Readdir h) (after_readdir tree cap h entries)
readdir_answers tree h cap None = refusal tree _ 4 tt refl
readdir_answers tree h cap (Some []) = refusal tree _ 1 tt refl
readdir_answers tree h cap (Some (first ∷ entries)) = record { allowed = refl; kept = tt }

realpath_answers : (tree : FileTree) (r : Request) (name : Name) → IsAfterHello r → MayAnswer r (path_reply name)
    → IsAnswer tree r (after_realpath tree name)
realpath_answers tree r name h ok = either tree r (nat_lt MAX_BODY_LEN (length (reply_body (path_reply name) 0)))
    (refusal_answer tree SSH_FX_FAILURE) (let x : Answer = (path_reply name, tree) in x) (λ t. refusal tree r 4 h refl)
    (λ t. record { allowed = ok; kept = tt })

rename_answers : (tree : FileTree) (r : Request) (old to : Name) (n there : Option Node) → IsPlain r
    → IsAnswer tree r (after_rename tree old to n there)
rename_answers tree r old to None there h = refusal tree r 2 h.0 refl
rename_answers tree r old to (Some n) (Some there) h = refusal tree r 4 h.0 refl
rename_answers tree r old to (Some n) None h =
    either tree r (is_within old to) (refusal_answer tree SSH_FX_FAILURE)
    (where_new tree to (ok_answer (with_renamed tree old to)))
    (λ t. refusal tree r 4 h.0 refl) (λ t. new tree r to (ok_answer (with_renamed tree old to)) h.0
    (finished tree r _ h.1))

replaces_answer : (tree : FileTree) (r : Request) (old to : Name) (n : Node) (there : Option Node) → IsPlain r
    → IsAnswer tree r (replace_answer tree old to n there)
replaces_answer tree r old to n None h = new tree r to (ok_answer (with_renamed tree old to)) h.0
    (finished tree r _ h.1)
replaces_answer tree r old to node.Directory (Some there) h = refusal tree r 4 h.0 refl
replaces_answer tree r old to (node.File file) (Some node.Directory) h = refusal tree r 4 h.0 refl
replaces_answer tree r old to (node.File file) (Some (node.File gone)) h = finished tree r _ h.1

posix_answers : (tree : FileTree) (r : Request) (old to : Name) (n there : Option Node) → IsPlain r
    → IsAnswer tree r (after_posix_rename tree old to n there)
posix_answers tree r old to None there h = refusal tree r 2 h.0 refl
posix_answers tree r old to (Some n) there h =
    either tree r (same_name old to) (ok_answer tree) (if is_within old to || is_within to old then
    refusal_answer tree SSH_FX_FAILURE else replace_answer tree old to n there) (λ t. finished tree r tree h.1)
    (λ t. either tree r (is_within old to || is_within to old) (refusal_answer tree SSH_FX_FAILURE)
    (replace_answer tree old to n there) (λ u. refusal tree r 4 h.0 refl)
    (λ u. replaces_answer tree r old to n there h))

offered : (tree : FileTree) (config : ServerConfig) (r : Request) (bit : ℕ) (x : Answer) → IsAfterHello r
    → IsAnswer tree r x → IsAnswer tree r (where_offered tree config bit x)
offered tree config r bit x h is = either tree r (has_bit config.extensions.0 bit) x
    (refusal_answer tree SSH_FX_OP_UNSUPPORTED) (λ t. is) (λ t. refusal tree r 8 h refl)

limits_answer : (tree : FileTree) (limits : Option Limits) →
    IsAnswer tree request.LimitsQuery (limits_reply limits, tree)
limits_answer tree None = refusal tree _ 8 tt refl
limits_answer tree (Some limits) = record { allowed = refl; kept = tt }

answered_answers : (tree : FileTree) (config : ServerConfig) (r : Request) (cap : ℕ) (handle : List ℕ) → IsAfterHello r
    → IsAnswer tree r (tree_answer tree config r cap handle)
answered_answers tree config (request.OpenFile path flags attrs) cap handle h =
    open_answers tree _ handle flags.0 (components path) (node_at tree (components path)) tt refl
answered_answers tree config (request.Close h) cap handle k = close_answers tree _ h (opened_at tree h) (tt, refl)
answered_answers tree config (request.Read h offset len) cap handle k =
    read_answers tree h cap offset len (file_of (opened_at tree h))
answered_answers tree config (request.Write h offset content) cap handle k =
    write_answers tree _ offset content (file_of (opened_at tree h)) (tt, refl)
answered_answers tree config (request.Stat path) cap handle k =
    stat_answers tree _ (node_at tree (components path)) tt (λ attrs. refl)
answered_answers tree config (request.Lstat path) cap handle k =
    stat_answers tree _ (node_at tree (components path)) tt (λ attrs. refl)
answered_answers tree config (request.Fstat h) cap handle k = fstat_answers tree h (opened_at tree h)
answered_answers tree config (request.Setstat path attrs) cap handle k =
    setstat_answers tree _ attrs (node_at tree (components path)) (tt, refl)
answered_answers tree config (request.Fsetstat h attrs) cap handle k =
    fsetstat_answers tree _ attrs (file_of (opened_at tree h)) (tt, refl)
answered_answers tree config (request.Remove path) cap handle k =
    remove_answers tree _ (components path) (node_at tree (components path)) (tt, refl)
answered_answers tree config (request.Mkdir path attrs) cap handle k =
    mkdir_answers tree _ (components path) (node_at tree (components path)) (tt, refl)
answered_answers tree config (request.Rmdir path) cap handle k =
    rmdir_answers tree _ (components path) (node_at tree (components path)) (tt, refl)
answered_answers tree config (request.Opendir path) cap handle k =
    opendir_answers tree path handle (components path) (node_at tree (components path))
answered_answers tree config (request.Readdir h) cap handle k =
    readdir_answers tree h cap (entries_of (opened_at tree h))
answered_answers tree config (request.Realpath path) cap handle k = realpath_answers tree _ (components path) tt refl
answered_answers tree config (request.ExpandPath path) cap handle k =
    offered tree config _ 8 _ tt (realpath_answers tree _ (components path) tt refl)
answered_answers tree config (request.Rename old to) cap handle k =
    rename_answers tree _ (components old) (components to) (node_at tree (components old))
    (node_at tree (components to)) (tt, refl)
answered_answers tree config (request.PosixRename old to) cap handle k =
    offered tree config _ 1 _ tt (posix_answers tree _ (components old) (components to) (node_at tree (components old))
    (node_at tree (components to)) (tt, refl))
answered_answers tree config (request.Fsync h) cap handle k =
    offered tree config _ 4 _ tt (fsync_answers tree _ (file_of (opened_at tree h)) (tt, refl))
answered_answers tree config (request.CopyData from from_offset len to to_offset) cap handle k =
    offered tree config _ 16 _ tt (copy_answers tree _ from_offset len to_offset (file_of (opened_at tree from))
    (file_of (opened_at tree to)) (tt, refl))
answered_answers tree config request.LimitsQuery cap handle k = limits_answer tree config.limits
answered_answers tree config r cap handle k = refusal tree r 8 k refl

pub tree_answers : (tree : FileTree) (config : ServerConfig) (r : Request) (choice : Choice) (handle : List ℕ)
    → IsAfterHello r → IsAnswer tree r (apply tree config r choice handle)
tree_answers tree config r choice handle h =
    either tree r (choice.refuse == 0) (tree_answer tree config r choice.cap handle) (refusal_answer tree choice.refuse)
    (λ t. answered_answers tree config r choice.cap handle h) (λ t. refusal tree r choice.refuse h t)

-- a request that is refused changes nothing, the hello too
pub refused_keeps : (tree : FileTree) (config : ServerConfig) (r : Request) (choice : Choice) (handle : List ℕ)
    → KeepsWhereRefused tree (apply tree config r choice handle).0 (apply tree config r choice handle).1
refused_keeps tree config (request.Init version) choice handle = by_test (choice.refuse == 0)
  where
    by_test : (b : Bool) → (let x : Answer = if b then refusal_answer tree SSH_FX_OP_UNSUPPORTED else
        refusal_answer tree choice.refuse in KeepsWhereRefused tree x.0 x.1)
    by_test true = λ ne. refl
    by_test false = λ ne. refl
refused_keeps tree config r choice handle = (tree_answers tree config r choice handle tt).kept

-- ---- what a choice may bring

-- a choice can make a DATA and a NAME as long as the row lets them be
pub any_length : (k most : ℕ) → 0 < k → k ≤ most → capped_at k most ≡ k
any_length k most some le = grind (arith, nat_tests)
