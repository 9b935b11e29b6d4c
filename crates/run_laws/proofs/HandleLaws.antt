-- What a handle has stays until it is closed, but for entries that are taken.
use Rattle.std.proofs.Common.{◌≡◌, ◌≢◌, ℕ, Bool, true, false, List, [], ◌∷◌, Option, Some, None, if◌then◌else◌, refl, ap, sym, ◌∙◌, subst, inl, inr}
use Rattle.std.specs.Prelude.{◌⊎◌}
use Rattle.std.specs.Str.{bytes_eq}
use Rattle.sftp_model.specs.declared.config.ServerConfig.{ServerConfig}
use Rattle.sftp_model.specs.declared.reply.NameEntry.{NameEntry}
use Rattle.sftp_model.specs.declared.request.Request.{Request}
use Rattle.machine_model.specs.declared.opened.Held.{Held}
use Rattle.machine_model.specs.declared.opened.Opened.{Opened}
use Rattle.machine_model.specs.declared.opened.Opened.TheVariants as opened
use Rattle.machine_model.proofs.ChangeLaws.{apply_leaves}
use Rattle.machine_model.proofs.LossLaws.{loss_handles}
use Rattle.machine_model.proofs.NameLaws.{handles_tell}
use Rattle.machine_model.proofs.PairLaws.{found_push_old, found_replaced_other, found_without_other}
use Rattle.machine_model.specs.Changes.{
  Change,
  ClosedDirectory,
  ClosedFile,
  ClosesHandle,
  Created,
  Granted,
  Listed,
  ListsEntries,
  MadeDirectory,
  MayLead,
  RemovedDirectory,
  RemovedFile,
  Renamed,
  Replaced,
  Rewritten,
  Truncated,
  Unchanged,
  tree_after_change,
}
use Rattle.machine_model.specs.FileTree.{FileTree, entries_of, value_at_key, opened_at, with_value_at, with_renamed, without_handle, without_name}
use Rattle.run_laws.specs.Steps.{Step, answer_to}

-- ---- where no entries are taken

handles_kept : (before now : List (List ℕ × Opened)) (h : List ℕ) (o : Option Opened) → now ≡ before
    → value_at_key bytes_eq before h ≡ o → value_at_key bytes_eq now h ≡ o
handles_kept before now h o same e = ap (λ (w : List (List ℕ × Opened)). value_at_key bytes_eq w h) same ∙ e

closed_other : (tree : FileTree) (r : Request) (h other : List ℕ) (o : Opened) → (ClosesHandle r h → ⊥)
    → ClosesHandle r other
    → opened_at tree h ≡ Some o → opened_at (without_handle tree other) h ≡ Some o
closed_other tree r h other o keeps closes e = found_without_other bytes_eq handles_tell tree.handles other h
    (λ same. keeps (subst (ClosesHandle r) same closes)) ∙ e

-- of any change but a taking of entries
abbrev TakesEntries : Change → Type 0
TakesEntries (Listed h entries) = Unit {0}
TakesEntries other = ⊥

opened_stays_by : (tree : FileTree) (r : Request) (handle h : List ℕ) (o : Opened) (c : Change) → (TakesEntries c → ⊥)
    → (ClosesHandle r h → ⊥) → opened_at tree h ≡ Some o → MayLead tree r c
    → opened_at (tree_after_change tree handle c) h ≡ Some o
opened_stays_by tree r handle h o Unchanged takes keeps e may = e
opened_stays_by tree r handle h o (Rewritten file bytes) takes keeps e may = e
opened_stays_by tree r handle h o (Granted new) takes keeps e may =
    found_push_old bytes_eq tree.handles (handle, new) h o e
opened_stays_by tree r handle h o (Truncated file new) takes keeps e may =
    found_push_old bytes_eq tree.handles (handle, new) h o e
opened_stays_by tree r handle h o (Created name new) takes keeps e may =
    found_push_old bytes_eq tree.handles (handle, new) h o e
opened_stays_by tree r handle h o (ClosedDirectory other) takes keeps e may = closed_other tree r h other o keeps may e
opened_stays_by tree r handle h o (ClosedFile other file) takes keeps e may =
    handles_kept (without_handle tree other).handles _ h (Some o) (loss_handles (without_handle tree other) file)
    (closed_other tree r h other o keeps may e)
opened_stays_by tree r handle h o (Listed other entries) takes keeps e may = absurd (takes tt)
opened_stays_by tree r handle h o (MadeDirectory name) takes keeps e may = e
opened_stays_by tree r handle h o (RemovedDirectory name) takes keeps e may = e
opened_stays_by tree r handle h o (RemovedFile name file) takes keeps e may =
    handles_kept tree.handles _ h (Some o) (loss_handles (without_name tree name) file) e
opened_stays_by tree r handle h o (Renamed old to) takes keeps e may = e
opened_stays_by tree r handle h o (Replaced old to gone) takes keeps e may =
    handles_kept tree.handles _ h (Some o) (loss_handles (with_renamed (without_name tree to) old to) gone) e

-- a change takes entries or doesn't
data Takes (c : Change) : Type 0 where
  Taking : (h : List ℕ) (entries : List NameEntry) → c ≡ Listed h entries → Takes c
  Leaving : (TakesEntries c → ⊥) → Takes c

takes : (c : Change) → Takes c
takes (Listed h entries) = Taking h entries refl
takes Unchanged = Leaving (λ t. t)
takes (Rewritten file bytes) = Leaving (λ t. t)
takes (Granted o) = Leaving (λ t. t)
takes (Truncated file o) = Leaving (λ t. t)
takes (Created name o) = Leaving (λ t. t)
takes (ClosedDirectory h) = Leaving (λ t. t)
takes (ClosedFile h file) = Leaving (λ t. t)
takes (MadeDirectory name) = Leaving (λ t. t)
takes (RemovedDirectory name) = Leaving (λ t. t)
takes (RemovedFile name file) = Leaving (λ t. t)
takes (Renamed old to) = Leaving (λ t. t)
takes (Replaced old to gone) = Leaving (λ t. t)

-- where the request neither closes the handle nor takes entries by it
pub step_keeps : (config : ServerConfig) (tree : FileTree) (s : Step) (h : List ℕ) (o : Opened)
    → (ClosesHandle s.request h → ⊥) → (ListsEntries s.request h → ⊥) → opened_at tree h ≡ Some o
    → opened_at (answer_to config tree s).1 h ≡ Some o
step_keeps config tree s h o keeps unread e =
    let l = apply_leaves tree config s.request s.choice s.handle in ap (λ (w : FileTree). opened_at w h) l.is
    ∙ by_change l.change (takes l.change) l.may
  where
    by_change : (c : Change) → Takes c → MayLead tree s.request c → opened_at (tree_after_change tree s.handle c) h
        ≡ Some o
    by_change c (Leaving none) may = opened_stays_by tree s.request s.handle h o c none keeps e may
    by_change c (Taking other entries is) may =
        (let listed : MayLead tree s.request (Listed other entries) = subst (MayLead tree s.request) is may in
        ap (λ (w : Change). opened_at (tree_after_change tree s.handle w) h) is
        ∙ (found_replaced_other bytes_eq handles_tell tree.handles other h (opened.Directory entries)
        (λ same. unread (subst (ListsEntries s.request) same listed.2)) ∙ e))

-- ---- what a handle has, but for the entries that are still to be given

-- a file that is open, or a directory
abbrev pub kind_of : Opened → Option Held
kind_of (opened.File held) = Some held
kind_of (opened.Directory entries) = None

abbrev pub kind_at : Option Opened → Option (Option Held)
kind_at None = None
kind_at (Some o) = Some (kind_of o)

-- what is open has no entries where it is a file
directory_of : (o : Opened) (old : List NameEntry) → entries_of (Some o) ≡ Some old → kind_of o ≡ None
directory_of (opened.File held) old e = absurd cc
directory_of (opened.Directory entries) old e = refl

pub found_replaced_here : {K V : Type 0} (same : K → K → Bool) (pairs : List (K × V)) (key : K) (old new : V)
    → same key key ≡ true → value_at_key same pairs key ≡ Some old
    → value_at_key same (with_value_at same pairs key new) key ≡ Some new
found_replaced_here same [] key old new is e = absurd cc
found_replaced_here {K} {V} same (p ∷ pairs) key old new is e =
    by_test (same p.0 key) refl e (λ w. found_replaced_here same pairs key old new is w)
  where
    by_test : (b : Bool) → same p.0 key ≡ b → (if b then Some p.1 else value_at_key same pairs key) ≡ Some old
        → (value_at_key same pairs key ≡ Some old → value_at_key same (with_value_at same pairs key new) key ≡ Some new)
        → value_at_key same (if b then (key, new) ∷ pairs else p ∷ with_value_at same pairs key new) key ≡ Some new
    by_test true at x more = rw is refl
    by_test false at x more = rw at (more x)

listed_stays : (tree : FileTree) (h at : List ℕ) (o : Opened) (entries old : List NameEntry) → opened_at tree h ≡ Some o
    → entries_of (opened_at tree at) ≡ Some old → (at ≡ h) ⊎ (at ≢ h)
    → kind_at (value_at_key bytes_eq (with_value_at bytes_eq tree.handles at (opened.Directory entries)) h)
    ≡ Some (kind_of o)
listed_stays tree h at o entries old e is (inl same) =
    let here : entries_of (Some o) ≡ Some old = ap entries_of (sym e)
    ∙ subst (λ (w : List ℕ). entries_of (opened_at tree w) ≡ Some old) same is in
    let now : value_at_key bytes_eq (with_value_at bytes_eq tree.handles h (opened.Directory entries)) h
    ≡ Some (opened.Directory entries) =
    found_replaced_here bytes_eq tree.handles h o (opened.Directory entries) ((handles_tell h h).1 refl) e in
    ap (λ (w : List ℕ). kind_at (value_at_key bytes_eq (with_value_at bytes_eq tree.handles w
    (opened.Directory entries)) h)) same
    ∙ (ap kind_at now ∙ ap (λ (w : Option Held). Some w) (sym (directory_of o old here)))
listed_stays tree h at o entries old e is (inr ne) = ap kind_at
    (found_replaced_other bytes_eq handles_tell tree.handles at h (opened.Directory entries) ne ∙ e)

same_or_not : (a b : List ℕ) → (a ≡ b) ⊎ (a ≢ b)
same_or_not a b = by_test (bytes_eq a b) refl
  where
    by_test : (t : Bool) → bytes_eq a b ≡ t → (a ≡ b) ⊎ (a ≢ b)
    by_test true e = inl ((handles_tell a b).0 e)
    by_test false e = inr (λ is. (let t : bytes_eq a b ≡ true = (handles_tell a b).1 is in let both : false ≡ true =
        sym e ∙ t in cc))

-- what a handle has stays of its kind until it is closed
pub kind_stays : (config : ServerConfig) (tree : FileTree) (s : Step) (h : List ℕ) (k : Option Held)
    → (ClosesHandle s.request h → ⊥) → kind_at (opened_at tree h) ≡ Some k
    → kind_at (opened_at (answer_to config tree s).1 h)
    ≡ Some k
kind_stays config tree s h k keeps e = by_case (opened_at tree h) refl e
  where
    by_change : (o : Opened) (c : Change) → opened_at tree h ≡ Some o → Takes c → MayLead tree s.request c
        → kind_at (opened_at (tree_after_change tree s.handle c) h) ≡ Some (kind_of o)
    by_change o c is (Leaving none) may = ap kind_at (opened_stays_by tree s.request s.handle h o c none keeps is may)
    by_change o c is (Taking other entries same) may =
        (let listed : MayLead tree s.request (Listed other entries) = subst (MayLead tree s.request) same may in
        ap (λ (w : Change). kind_at (opened_at (tree_after_change tree s.handle w) h)) same
        ∙ listed_stays tree h other o entries listed.0 is listed.1 (same_or_not other h))

    by_case : (o : Option Opened) → opened_at tree h ≡ o → kind_at o ≡ Some k
        → kind_at (opened_at (answer_to config tree s).1 h) ≡ Some k
    by_case None is e = absurd cc
    by_case (Some o) is e =
        (let l = apply_leaves tree config s.request s.choice s.handle in
        ap (λ (w : FileTree). kind_at (opened_at w h)) l.is ∙ (by_change o l.change is (takes l.change) l.may ∙ e))

-- ---- files

pub opened_file : (o : Option Opened) (held : Held) → kind_at o ≡ Some (Some held) → o ≡ Some (opened.File held)
opened_file None held e = absurd cc
opened_file (Some (opened.File other)) held e = ap (λ (w : Held). Some (opened.File w))
    (ap (λ (w : Option (Option Held)). or_held (or_kind w)) e)
  where
    or_kind : Option (Option Held) → Option Held
    or_kind None = None
    or_kind (Some k) = k

    or_held : Option Held → Held
    or_held None = held
    or_held (Some h) = h
opened_file (Some (opened.Directory entries)) held e = absurd (let both : None ≡ Some held = ap or_none e in cc)
  where
    or_none : Option (Option Held) → Option Held
    or_none None = None
    or_none (Some k) = k

-- a file that is open stays so until its handle is closed
pub file_stays : (config : ServerConfig) (tree : FileTree) (s : Step) (h : List ℕ) (held : Held)
    → (ClosesHandle s.request h → ⊥) → opened_at tree h ≡ Some (opened.File held)
    → opened_at (answer_to config tree s).1 h
    ≡ Some (opened.File held)
file_stays config tree s h held keeps e = opened_file (opened_at (answer_to config tree s).1 h) held
    (kind_stays config tree s h (Some held) keeps (ap kind_at e))
