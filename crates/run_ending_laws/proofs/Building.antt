-- What requests that only build leave of a server's files: OPEN, CLOSE, READ, WRITE, MKDIR and the query for limits.
use Rattle.std.proofs.Common.{
  ◌≡◌,
  ◌+◌,
  ◌==◌,
  ℕ,
  Bool,
  true,
  false,
  not,
  List,
  [],
  ◌∷◌,
  ◌++◌,
  length,
  Option,
  Some,
  None,
  if◌then◌else◌,
  refl,
  ap,
  sym,
  ◌∙◌,
  subst,
}
use Rattle.std.specs.Prelude.{◌&&◌, drop, max, nat_le, take}
use Rattle.sftp_model.specs.Numbers.{SSH_FX_EOF, SSH_FX_FAILURE, SSH_FX_NO_SUCH_FILE, SSH_FX_OK, SSH_FX_PERMISSION_DENIED}
use Rattle.sftp_model.specs.declared.config.Choice.{Choice}
use Rattle.sftp_model.specs.declared.config.ServerConfig.{ServerConfig}
use Rattle.sftp_model.specs.declared.reply.Reply.TheVariants as reply
use Rattle.sftp_model.specs.declared.request.Request.{Request}
use Rattle.sftp_model.specs.declared.request.Request.TheVariants as request
use Rattle.machine_model.proofs.LossLaws.{loss_names}
use Rattle.machine_model.proofs.NameLaws.{names_tell}
use Rattle.machine_model.proofs.PairLaws.{found_push_here, found_push_old, found_push_other}
use Rattle.machine_model.specs.Components.{Name, components, is_long_name, parent_of, same_name}
use Rattle.machine_model.specs.FileTree.{
  FileTree,
  after_loss,
  bytes_of,
  file_of,
  value_at_key,
  is_directory,
  is_over,
  node_at,
  opened_at,
  written_at,
  size_of,
  with_bytes,
  with_file,
  with_handle,
  with_name,
  without_handle,
}
use Rattle.machine_model.specs.HandleRequests.{
  Answer,
  after_close,
  after_open,
  after_read,
  after_write,
  capped_at,
  creates,
  ok_answer,
  grant_answer,
  held_by,
  is_exclusive,
  offset_of,
  refusal_answer,
  truncates,
  where_new,
}
use Rattle.machine_model.specs.NameRequests.{after_mkdir}
use Rattle.machine_model.specs.TreeAnswers.{tree_answer, apply}
use Rattle.machine_model.specs.declared.node.Node.{Node}
use Rattle.machine_model.specs.declared.node.Node.TheVariants as node
use Rattle.machine_model.specs.declared.opened.Held.{Held}
use Rattle.machine_model.specs.declared.opened.Opened.{Opened}
use Rattle.machine_model.specs.declared.opened.Opened.TheVariants as opened

-- the request builds
abbrev pub IsBuilding : Request → Type 0
IsBuilding (request.OpenFile path flags attrs) = Unit {0}
IsBuilding (request.Close handle) = Unit {0}
IsBuilding (request.Read handle offset len) = Unit {0}
IsBuilding (request.Write handle offset content) = Unit {0}
IsBuilding (request.Mkdir path attrs) = Unit {0}
IsBuilding request.LimitsQuery = Unit {0}
IsBuilding other = ⊥

-- the request is an OPEN of the name
abbrev pub OpensName : Request → Name → Type 0
OpensName (request.OpenFile path flags attrs) name = components path ≡ name
OpensName other name = ⊥

-- the request is a MKDIR of the name
abbrev pub MakesName : Request → Name → Type 0
MakesName (request.Mkdir path attrs) name = components path ≡ name
MakesName other name = ⊥

-- the request is a WRITE by the handle, at the offset
abbrev pub WritesAt : Request → List ℕ → ℕ → List ℕ → Type 0
WritesAt (request.Write handle offset content) h at piece = (handle ≡ h) × (offset ≡ at) × (content ≡ piece)
WritesAt other h at piece = ⊥

-- what it may leave
pub data Effect (tree : FileTree) (r : Request) (after : FileTree) : Type 0 where
  Same : after ≡ tree → Effect tree r after
  Made : (name : Name) → MakesName r name → node_at tree name ≡ None → after ≡ with_name tree name node.Directory
      → Effect tree r after
  OpenedIt : (handle : List ℕ) (o : Opened) → after ≡ with_handle tree handle o → Effect tree r after
  Emptied : (file : ℕ) (handle : List ℕ) (o : Opened) → after ≡ with_handle (with_bytes tree file []) handle o
      → Effect tree r after
  Created : (name : Name) (handle : List ℕ) (o : Opened) → OpensName r name → node_at tree name ≡ None
      → after ≡ with_handle (with_file tree name) handle o → Effect tree r after
  Shut : (handle : List ℕ) → after ≡ without_handle tree handle → Effect tree r after
  ShutFile : (handle : List ℕ) (file : ℕ) → after ≡ after_loss (without_handle tree handle) file → Effect tree r after
  Put : (handle : List ℕ) (held : Held) (offset : ℕ) (piece : List ℕ) → WritesAt r handle offset piece
      → file_of (opened_at tree handle) ≡ Some held
      → after ≡ with_bytes tree held.file (written_at (bytes_of tree held.file) (offset_of tree held offset) piece)
      → Effect tree r after

-- ---- each request

new_effect : (tree : FileTree) (r : Request) (name : Name) (x : Answer) → Effect tree r x.1
    → Effect tree r (where_new tree name x).1
new_effect tree r name x e = by_tests (not (is_directory (node_at tree (parent_of name)))) (is_long_name name)
  where
    by_tests : (a b : Bool) → Effect tree r (if a then refusal_answer tree SSH_FX_NO_SUCH_FILE else if b then
        refusal_answer tree SSH_FX_FAILURE else x).1
    by_tests true b = Same refl
    by_tests false true = Same refl
    by_tests false false = e

mkdir_effect : (tree : FileTree) (r : Request) (name : Name) (n : Option Node) → MakesName r name → node_at tree name
    ≡ n → Effect tree r (after_mkdir tree name n).1
mkdir_effect tree r name (Some n) asks is = Same refl
mkdir_effect tree r name None asks is = new_effect tree r name (ok_answer (with_name tree name node.Directory))
    (Made name asks is refl)

open_effect : (tree : FileTree) (r : Request) (handle : List ℕ) (flags : ℕ) (name : Name) (n : Option Node)
    → OpensName r name → node_at tree name ≡ n
    → Effect tree r (after_open tree handle flags name n).1
open_effect tree r handle flags name (Some node.Directory) asks is = Same refl
open_effect tree r handle flags name (Some (node.File file)) asks is =
    by_tests (creates flags && is_exclusive flags) (truncates flags)
  where
    by_tests : (a b : Bool) → Effect tree r (if a then refusal_answer tree SSH_FX_FAILURE else if b then
        grant_answer (with_bytes tree file []) handle (held_by flags file)
        else grant_answer tree handle (held_by flags file)).1
    by_tests true b = Same refl
    by_tests false true = Emptied file handle (held_by flags file) refl
    by_tests false false = OpenedIt handle (held_by flags file) refl
open_effect tree r handle flags name None asks is = by_test (not (creates flags))
  where
    by_test : (a : Bool) → Effect tree r (if a then refusal_answer tree SSH_FX_NO_SUCH_FILE
        else where_new tree name (grant_answer (with_file tree name) handle (held_by flags (length tree.files)))).1
    by_test true = Same refl
    by_test false = new_effect tree r name (grant_answer (with_file tree name) handle
        (held_by flags (length tree.files)))
        (Created name handle (held_by flags (length tree.files)) asks is refl)

close_effect : (tree : FileTree) (r : Request) (h : List ℕ) (o : Option Opened) → Effect tree r (after_close tree h o).1
close_effect tree r h None = Same refl
close_effect tree r h (Some (opened.File held)) = ShutFile h held.file refl
close_effect tree r h (Some (opened.Directory entries)) = Shut h refl

pub read_leaves : (tree : FileTree) (most offset len : ℕ) (o : Option Held) → (after_read tree most offset len o).1
    ≡ tree
read_leaves tree most offset len None = refl
read_leaves tree most offset len (Some held) = by_tests (not held.readable) (len == 0)
    (nat_le (size_of tree held.file) offset)
  where
    by_tests : (a b c : Bool) → (if a then refusal_answer tree SSH_FX_PERMISSION_DENIED else if b then
        refusal_answer tree SSH_FX_FAILURE
        else if c then refusal_answer tree SSH_FX_EOF else (
          reply.Content
              (take (capped_at most len) (drop offset (bytes_of tree held.file))),
          tree,
        )).1 ≡ tree
    by_tests true b c = refl
    by_tests false true c = refl
    by_tests false false true = refl
    by_tests false false false = refl

write_effect : (tree : FileTree) (r : Request) (h : List ℕ) (offset : ℕ) (piece : List ℕ) (o : Option Held)
    → WritesAt r h offset piece
    → file_of (opened_at tree h) ≡ o → Effect tree r (after_write tree offset piece o).1
write_effect tree r h offset piece None asks is = Same refl
write_effect tree r h offset piece (Some held) asks is =
    by_tests (not held.writable) (is_over tree held.file (max (size_of tree held.file)
    (offset_of tree held offset + length piece)))
  where
    by_tests : (a b : Bool) → Effect tree r (if a then refusal_answer tree SSH_FX_PERMISSION_DENIED else if b then
        refusal_answer tree SSH_FX_FAILURE
        else ok_answer (with_bytes tree held.file (written_at (bytes_of tree held.file) (offset_of tree held offset)
        piece))).1
    by_tests true b = Same refl
    by_tests false true = Same refl
    by_tests false false = Put h held offset piece asks is refl

answer_effect : (tree : FileTree) (config : ServerConfig) (r : Request) (cap : ℕ) (handle : List ℕ) → IsBuilding r
    → Effect tree r (tree_answer tree config r cap handle).1
answer_effect tree config (request.OpenFile path flags attrs) cap handle builds =
    open_effect tree (request.OpenFile path flags attrs) handle flags.0 (components path)
    (node_at tree (components path)) refl refl
answer_effect tree config (request.Close h) cap handle builds = close_effect tree (request.Close h) h (opened_at tree h)
answer_effect tree config (request.Read h offset len) cap handle builds =
    Same (read_leaves tree cap offset len (file_of (opened_at tree h)))
answer_effect tree config (request.Write h offset piece) cap handle builds =
    write_effect tree (request.Write h offset piece) h offset piece (file_of (opened_at tree h)) (refl, refl, refl) refl
answer_effect tree config (request.Mkdir path attrs) cap handle builds =
    mkdir_effect tree (request.Mkdir path attrs) (components path) (node_at tree (components path)) refl refl
answer_effect tree config request.LimitsQuery cap handle builds = Same refl
answer_effect tree config other cap handle builds = absurd builds

pub effect_of : (tree : FileTree) (config : ServerConfig) (r : Request) (choice : Choice) (handle : List ℕ)
    → IsBuilding r
    → Effect tree r (apply tree config r choice handle).1
effect_of tree config r choice handle builds = by_test (choice.refuse == SSH_FX_OK)
  where
    by_test : (b : Bool) → Effect tree r (if b then tree_answer tree config r choice.cap handle else
        refusal_answer tree choice.refuse).1
    by_test true = answer_effect tree config r choice.cap handle builds
    by_test false = Same refl

-- ---- names

same_node : (before after : FileTree) (name : Name) → after.names ≡ before.names → node_at after name
    ≡ node_at before name
same_node before after [] e = refl
same_node before after (part ∷ parts) e = ap (λ (w : List (Name × Node)). value_at_key same_name w (part ∷ parts)) e

-- what a name has it keeps
pushed_old : (tree : FileTree) (new : Name × Node) (name : Name) (n : Node) (after : FileTree) → after.names
    ≡ tree.names ++ new ∷ []
    → node_at tree name ≡ Some n → node_at after name ≡ Some n
pushed_old tree new [] n after e is = is
pushed_old tree new (part ∷ parts) n after e is = ap (λ (w : List (Name × Node)). value_at_key same_name w
    (part ∷ parts)) e
    ∙ found_push_old same_name tree.names new (part ∷ parts) n is

pub effect_keeps : (tree : FileTree) (r : Request) (after : FileTree) (name : Name) (n : Node) → Effect tree r after
    → node_at tree name ≡ Some n
    → node_at after name ≡ Some n
effect_keeps tree r after name n (Same e) is = same_node tree after name (ap (λ (t : FileTree). t.names) e) ∙ is
effect_keeps tree r after name n (Made new asks none e) is =
    pushed_old tree (new, node.Directory) name n after (ap (λ (t : FileTree). t.names) e) is
effect_keeps tree r after name n (OpenedIt handle o e) is = same_node tree after name (ap (λ (t : FileTree). t.names) e)
    ∙ is
effect_keeps tree r after name n (Emptied file handle o e) is =
    same_node tree after name (ap (λ (t : FileTree). t.names) e) ∙ is
effect_keeps tree r after name n (Created new handle o asks none e) is =
    pushed_old tree (new, node.File (length tree.files)) name n after (ap (λ (t : FileTree). t.names) e) is
effect_keeps tree r after name n (Shut handle e) is = same_node tree after name (ap (λ (t : FileTree). t.names) e) ∙ is
effect_keeps tree r after name n (ShutFile handle file e) is =
    same_node tree after name (ap (λ (t : FileTree). t.names) e ∙ loss_names (without_handle tree handle) file) ∙ is
effect_keeps tree r after name n (Put handle held offset piece asks has e) is =
    same_node tree after name (ap (λ (t : FileTree). t.names) e) ∙ is

-- what a name has where it had nothing: nothing, a directory by a MKDIR of it, or a file by an OPEN of it
abbrev pub MayBe : Request → Name → Option Node → Type 0
MayBe r name None = Unit {0}
MayBe r name (Some node.Directory) = MakesName r name
MayBe r name (Some (node.File file)) = OpensName r name

pushed_new : (tree : FileTree) (r : Request) (new : Name) (n : Node) (name : Name) (after : FileTree) → after.names
    ≡ tree.names ++ (new, n) ∷ []
    → (new ≡ name → MayBe r name (Some n)) → node_at tree new ≡ None → node_at tree name ≡ None
    → MayBe r name (node_at after name)
pushed_new tree r new n [] after e may gone none = absurd cc
pushed_new tree r new n (part ∷ parts) after e may gone none =
    subst (MayBe r (part ∷ parts)) (sym (ap (λ (w : List (Name × Node)). value_at_key same_name w (part ∷ parts)) e))
    (by_same (same_name new (part ∷ parts)) refl)
  where
    by_same : (b : Bool) → same_name new (part ∷ parts) ≡ b → MayBe r (part ∷ parts)
        (value_at_key same_name (tree.names ++ (new, n) ∷ []) (part ∷ parts))
    by_same true is =
        (let same : new ≡ part ∷ parts = (names_tell new (part ∷ parts)).0 is in
        subst (MayBe r (part ∷ parts)) (sym (found_push_here same_name tree.names (part ∷ parts) n
        ((names_tell (part ∷ parts) (part ∷ parts)).1 refl) none)
        ∙ ap (λ (w : Name). value_at_key same_name (tree.names ++ (w, n) ∷ []) (part ∷ parts)) (sym same)) (may same))
    by_same false is = subst (MayBe r (part ∷ parts)) (sym (found_push_other same_name tree.names new (part ∷ parts) n
        is ∙ none)) tt

unmade : (tree : FileTree) (r : Request) (after : FileTree) (name : Name) → after.names ≡ tree.names → node_at tree name
    ≡ None → MayBe r name (node_at after name)
unmade tree r after name e none = subst (MayBe r name) (sym (same_node tree after name e ∙ none)) tt

pub effect_makes : (tree : FileTree) (r : Request) (after : FileTree) (name : Name) → Effect tree r after
    → node_at tree name ≡ None → MayBe r name (node_at after name)
effect_makes tree r after name (Same e) none = unmade tree r after name (ap (λ (t : FileTree). t.names) e) none
effect_makes tree r after name (Made new asks gone e) none =
    pushed_new tree r new node.Directory name after (ap (λ (t : FileTree). t.names) e)
    (λ same. subst (MakesName r) same asks) gone none
effect_makes tree r after name (OpenedIt handle o e) none = unmade tree r after name (ap (λ (t : FileTree). t.names) e)
    none
effect_makes tree r after name (Emptied file handle o e) none =
    unmade tree r after name (ap (λ (t : FileTree). t.names) e) none
effect_makes tree r after name (Created new handle o asks gone e) none =
    pushed_new tree r new (node.File (length tree.files)) name after (ap (λ (t : FileTree). t.names) e)
    (λ same. subst (OpensName r) same asks) gone none
effect_makes tree r after name (Shut handle e) none = unmade tree r after name (ap (λ (t : FileTree). t.names) e) none
effect_makes tree r after name (ShutFile handle file e) none =
    unmade tree r after name (ap (λ (t : FileTree). t.names) e ∙ loss_names (without_handle tree handle) file) none
effect_makes tree r after name (Put handle held offset piece asks has e) none =
    unmade tree r after name (ap (λ (t : FileTree). t.names) e) none
