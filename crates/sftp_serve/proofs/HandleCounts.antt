-- The number of open handles after a request.
use Rattle.std.proofs.Common.{
  ◌≡◌,
  ◌<◌,
  ◌≤◌,
  ℕ,
  ◌+◌,
  ◌-◌,
  ◌==◌,
  Bool,
  true,
  false,
  List,
  [],
  ◌∷◌,
  length,
  Option,
  Some,
  None,
  if◌then◌else◌,
  refl,
  ap,
  sym,
  ◌∙◌,
  subst,
  arith,
  length-append,
}
use Rattle.std.specs.Prelude.{◌&&◌, IsTrue, nat_le}
use Rattle.std.specs.Str.{bytes_eq}
use Rattle.std.proofs.lemmas.Bool.{leb-false}
use Rattle.sftp_model.specs.declared.answers.Expected.{Expected}
use Rattle.sftp_model.specs.declared.answers.Expected.TheVariants as expected
use Rattle.sftp_model.specs.declared.config.Choice.{Choice}
use Rattle.sftp_model.specs.declared.reply.Reply.{Reply}
use Rattle.sftp_model.specs.declared.reply.Reply.TheVariants as reply
use Rattle.sftp_model.specs.declared.request.Request.{Request}
use Rattle.sftp_model.specs.declared.request.Request.TheVariants as request
use Rattle.sftp_model.specs.Answers.{IsAfterHello, MayAnswer, allows_reply, expected_of, is_handle, status}
use Rattle.sftp_model.specs.Numbers.{MAX_TRANSFER_LEN, SSH_FX_FAILURE, SSH_FX_OK}
use Rattle.machine_model.specs.declared.opened.Opened.{Opened}
use Rattle.machine_model.specs.declared.opened.Opened.TheVariants as opened
use Rattle.machine_model.specs.Changes.{
  Change,
  ClosedDirectory,
  ClosedFile,
  ClosesHandle,
  Created,
  Granted,
  Listed,
  MadeDirectory,
  MayLead,
  RemovedDirectory,
  RemovedFile,
  Renamed,
  Replaced,
  Rewritten,
  Truncated,
  Unchanged,
  is_grant,
  tree_after_change,
}
use Rattle.machine_model.specs.FileTree.{
  FileTree,
  opened_at,
  value_at_key,
  with_renamed,
  with_value_at,
  without_handle,
  without_key,
  without_name,
}
use Rattle.machine_model.specs.HandleRequests.{Answer, after_close}
use Rattle.machine_model.specs.TreeAnswers.{apply}
use Rattle.machine_model.proofs.ChangeLaws.{apply_leaves}
use Rattle.machine_model.proofs.LossLaws.{loss_handles}
use Rattle.machine_answers.specs.MachineState.{MAX_HANDLES, MachineState, after_answer, answer, with_grant, with_tree}
use Rattle.machine_answers.proofs.ReplyLaws.{reply_answers}
use Rattle.sftp_serve.specs.HandleCounts.{CountsHandles, closes_handle, counted_after, is_ok}
use Rattle.sftp_serve.specs.Stream.{MAX_OPEN_HANDLES, choice_for, chosen_answer, opens_handle}

-- ---- lists of pairs

without_len : {K V : Type 0} (same : K → K → Bool) (pairs : List (K × V)) (key : K) (v : V)
    → value_at_key same pairs key ≡ Some v → length (without_key same pairs key) + 1 ≡ length pairs
without_len same [] key v e = absurd cc
without_len {K} {V} same (p ∷ pairs) key v e = by_test (same p.0 key) e (without_len same pairs key v)
  where
    by_test : (b : Bool) → (if b then Some p.1 else value_at_key same pairs key) ≡ Some v
        → (value_at_key same pairs key ≡ Some v → length (without_key same pairs key) + 1 ≡ length pairs)
        → length (if b then pairs else p ∷ without_key same pairs key) + 1 ≡ length (p ∷ pairs)
    by_test true x more = omega arith
    by_test false x more = let l = more x in omega (arith, l)

replaced_len : {K V : Type 0} (same : K → K → Bool) (pairs : List (K × V)) (key : K) (v : V)
    → length (with_value_at same pairs key v) ≡ length pairs
replaced_len same [] key v = refl
replaced_len {K} {V} same (p ∷ pairs) key v = by_test (same p.0 key) (replaced_len same pairs key v)
  where
    by_test : (b : Bool) → length (with_value_at same pairs key v) ≡ length pairs
        → length (if b then (key, v) ∷ pairs else p ∷ with_value_at same pairs key v) ≡ length (p ∷ pairs)
    by_test true more = refl
    by_test false more = omega (arith, more)

-- ---- requests other than CLOSE

abbrev if_granted : Bool → ℕ → ℕ
if_granted granted n = if granted then n + 1 else n

change_len : (tree : FileTree) (r : Request) (handle : List ℕ) (c : Change) → ((h : List ℕ) → ClosesHandle r h → ⊥)
    → MayLead tree r c
    → length (tree_after_change tree handle c).handles ≡ if_granted (is_grant c) (length tree.handles)
change_len tree r handle Unchanged none may = refl
change_len tree r handle (Rewritten file bytes) none may = refl
change_len tree r handle (Granted o) none may = length-append tree.handles ((handle, o) ∷ [])
change_len tree r handle (Truncated file o) none may = length-append tree.handles ((handle, o) ∷ [])
change_len tree r handle (Created name o) none may = length-append tree.handles ((handle, o) ∷ [])
change_len tree r handle (ClosedDirectory h) none may = absurd (none h may)
change_len tree r handle (ClosedFile h file) none may = absurd (none h may)
change_len tree r handle (Listed h entries) none may = replaced_len bytes_eq tree.handles h (opened.Directory entries)
change_len tree r handle (MadeDirectory name) none may = refl
change_len tree r handle (RemovedDirectory name) none may = refl
change_len tree r handle (RemovedFile name file) none may = ap length (loss_handles (without_name tree name) file)
change_len tree r handle (Renamed old to) none may = refl
change_len tree r handle (Replaced old to gone) none may =
    ap length (loss_handles (with_renamed (without_name tree to) old to) gone)

closes_none : (r : Request) → closes_handle r ≡ false → (h : List ℕ) → ClosesHandle r h → ⊥
closes_none (request.Close handle) e h c = absurd cc
closes_none other e h c = c

-- an answer by whether a handle is granted and whether all were
abbrev by_flags : MachineState → Answer → Bool → Bool → Reply × MachineState
by_flags state x grant full =
    if grant then (if full then (status SSH_FX_FAILURE, state) else (x.0, with_grant state x.1))
    else (x.0, with_tree state x.1)

flags_len : (state : MachineState) (x : Answer) (grant full : Bool) → is_handle x.0 ≡ grant
    → length x.1.handles ≡ if_granted grant (length state.tree.handles)
    → length (by_flags state x grant full).1.tree.handles
    ≡ if_granted (is_handle (by_flags state x grant full).0) (length state.tree.handles)
flags_len state x true true e l = refl
flags_len state x true false e l = l ∙ ap (λ (b : Bool). if_granted b (length state.tree.handles)) (sym e)
flags_len state x false full e l = l ∙ ap (λ (b : Bool). if_granted b (length state.tree.handles)) (sym e)

granted_len : (state : MachineState) (r : Request) (choice : Choice) (handle : List ℕ) → closes_handle r ≡ false
    → length (after_answer state (apply state.tree state.config r choice handle)).1.tree.handles
    ≡ if_granted (is_handle (after_answer state (apply state.tree state.config r choice handle)).0)
    (length state.tree.handles)
granted_len state r choice handle other =
    let x : Answer = apply state.tree state.config r choice handle in
    let l = apply_leaves state.tree state.config r choice handle in
    flags_len state x (is_handle x.0) (state.grants == MAX_HANDLES) refl
    (ap (λ (w : FileTree). length w.handles) l.is
    ∙ change_len state.tree r handle l.change (closes_none r other) l.may
    ∙ ap (λ (b : Bool). if_granted b (length state.tree.handles)) (sym l.said))

answer_len : (state : MachineState) (r : Request) (choice : Choice) → closes_handle r ≡ false
    → length (answer state r choice).1.tree.handles
    ≡ if_granted (is_handle (answer state r choice).0) (length state.tree.handles)
answer_len state r choice other = granted_len state r choice _ other

kept_count : (state : MachineState) (r : Request) (choice : Choice) → closes_handle r ≡ false
    → counted_after r (answer state r choice).0 (length state.tree.handles)
    ≡ length (answer state r choice).1.tree.handles
kept_count state r choice other =
    let n : ℕ = length state.tree.handles in
    let said : Reply = (answer state r choice).0 in
    ap (λ (b : Bool). if is_handle said then n + 1 else if b && is_ok said then n - 1 else n) other
    ∙ sym (answer_len state r choice other)

-- ---- CLOSE

close_count : (state : MachineState) (handle : List ℕ) (o : Option Opened) → opened_at state.tree handle ≡ o
    → counted_after (request.Close handle) (after_answer state (after_close state.tree handle o)).0
    (length state.tree.handles) ≡ length (after_answer state (after_close state.tree handle o)).1.tree.handles
close_count state handle None e = refl
close_count state handle (Some (opened.File held)) e =
    let n : ℕ = length state.tree.handles in
    let gone = without_len bytes_eq state.tree.handles handle (opened.File held) e in
    let less : n - 1 ≡ length (without_key bytes_eq state.tree.handles handle) = omega (arith, gone) in
    less ∙ sym (ap length (loss_handles (without_handle state.tree handle) held.file))
close_count state handle (Some (opened.Directory entries)) e =
    let gone = without_len bytes_eq state.tree.handles handle (opened.Directory entries) e in
    omega (arith, gone)

counted : (state : MachineState) (r : Request) → counted_after r (chosen_answer state r).0 (length state.tree.handles)
    ≡ length (chosen_answer state r).1.tree.handles
counted state (request.Close handle) = close_count state handle (opened_at state.tree handle) refl
counted state r = kept_count state r (choice_for (length state.tree.handles) r) refl

-- ---- the bound

abbrev is_handle_kind : Expected → Bool
is_handle_kind expected.Handle = true
is_handle_kind other = false

grants_none : (kind : Expected) (handle : List ℕ) → is_handle_kind kind ≡ false
    → IsTrue (allows_reply kind (reply.Handle handle)) → ⊥
grants_none expected.Version handle e m = absurd cc
grants_none expected.Handle handle e m = absurd cc
grants_none (expected.Content len) handle e m = absurd cc
grants_none expected.Names handle e m = absurd cc
grants_none expected.FirstName handle e m = absurd cc
grants_none expected.Attrs handle e m = absurd cc
grants_none expected.Limits handle e m = absurd cc
grants_none expected.Status handle e m = absurd cc

kind_of : (r : Request) → opens_handle r ≡ false → is_handle_kind (expected_of r) ≡ false
kind_of (request.OpenFile path flags attrs) e = e
kind_of (request.Opendir path) e = e
kind_of other e = refl

grants_no_other : (r : Request) (said : Reply) → opens_handle r ≡ false → MayAnswer r said → is_handle said ≡ false
grants_no_other r (reply.Handle handle) e m = absurd (grants_none (expected_of r) handle (kind_of r e) m)
grants_no_other r other e m = refl

-- a HANDLE is granted only below the bound
granted_below : (state : MachineState) (r : Request) (opens full : Bool) → opens_handle r ≡ opens
    → nat_le MAX_OPEN_HANDLES (length state.tree.handles) ≡ full → IsAfterHello r
    → is_handle (answer state r (record {
      refuse = if opens && full then SSH_FX_FAILURE else SSH_FX_OK;
      cap = MAX_TRANSFER_LEN;
    })).0 ≡ true
    → length state.tree.handles < MAX_OPEN_HANDLES
granted_below state r false full opens is h grants =
    let choice : Choice = record { refuse = SSH_FX_OK; cap = MAX_TRANSFER_LEN } in
    let none : is_handle (answer state r choice).0 ≡ false =
    grants_no_other r (answer state r choice).0 opens (reply_answers state r choice h) in
    absurd (let both : true ≡ false = sym grants ∙ none in cc)
granted_below state r true true opens is h grants = absurd cc
granted_below state r true false opens is h grants = leb-false MAX_OPEN_HANDLES (length state.tree.handles) is

counted_within : (count : ℕ) (grants closes : Bool) → (grants ≡ true → count < MAX_OPEN_HANDLES)
    → count ≤ MAX_OPEN_HANDLES
    → (if grants then count + 1 else if closes then count - 1 else count) ≤ MAX_OPEN_HANDLES
counted_within count true closes below le = let lt = below refl in omega (arith, lt)
counted_within count false true below le = omega (arith, le)
counted_within count false false below le = le

-- ---- both

pub counts_chosen : (state : MachineState) (r : Request) (count : ℕ) → CountsHandles state count → IsAfterHello r
    → CountsHandles (chosen_answer state r).1 (counted_after r (chosen_answer state r).0 count)
counts_chosen state r count c h =
    let n : ℕ = length state.tree.handles in
    let said : Reply = (chosen_answer state r).0 in
    let below : is_handle said ≡ true → count < MAX_OPEN_HANDLES =
    λ t. subst (λ (k : ℕ). k < MAX_OPEN_HANDLES) (sym c.same)
    (granted_below state r (opens_handle r) (nat_le MAX_OPEN_HANDLES n) refl refl h t) in
    record {
      same = ap (λ (k : ℕ). counted_after r said k) c.same ∙ counted state r;
      within = counted_within count (is_handle said) (closes_handle r && is_ok said) below c.within;
    }

-- The count after a request that was answered by its choice.
pub counts_after : (state left : MachineState) (r : Request) (count : ℕ) (choice : Choice) (said : Reply)
    → CountsHandles state count → IsAfterHello r → choice ≡ choice_for (length state.tree.handles) r
    → said ≡ (answer state r choice).0 → left ≡ (answer state r choice).1
    → CountsHandles left (counted_after r said count)
counts_after state left r count choice said c h chosen is_said is_left =
    let same : answer state r choice ≡ chosen_answer state r = ap (λ (w : Choice). answer state r w) chosen in
    subst (λ (w : MachineState). CountsHandles w (counted_after r said count))
    (sym (is_left ∙ ap (λ (x : Reply × MachineState). x.1) same))
    (subst (λ (w : Reply). CountsHandles (chosen_answer state r).1 (counted_after r w count))
    (sym (is_said ∙ ap (λ (x : Reply × MachineState). x.0) same)) (counts_chosen state r count c h))
