-- A handle that is not open is open after a request only where the request was granted it.
use Rattle.std.proofs.Common.{◌≡◌, ◌≢◌, ℕ, Bool, true, false, List, [], ◌∷◌, ◌++◌, Some, None, if◌then◌else◌, refl, ap, sym, ◌∙◌, subst, inl, inr}
use Rattle.std.specs.Prelude.{◌⊎◌}
use Rattle.std.specs.Str.{bytes_eq}
use Rattle.sftp_model.specs.declared.config.Choice.{Choice}
use Rattle.sftp_model.specs.declared.config.ServerConfig.{ServerConfig}
use Rattle.sftp_model.specs.declared.request.Request.{Request}
use Rattle.machine_model.specs.declared.opened.Opened.TheVariants as opened
use Rattle.sftp_model.specs.Answers.{is_handle}
use Rattle.machine_model.proofs.ChangeLaws.{apply_leaves}
use Rattle.machine_model.proofs.LossLaws.{loss_handles}
use Rattle.machine_model.proofs.NameLaws.{handles_tell}
use Rattle.machine_model.proofs.PairLaws.{Tells, differs, found_push_other}
use Rattle.machine_model.specs.Changes.{
  Change,
  ClosedDirectory,
  ClosedFile,
  Created,
  Granted,
  Listed,
  MadeDirectory,
  RemovedDirectory,
  RemovedFile,
  Renamed,
  Replaced,
  Rewritten,
  Truncated,
  Unchanged,
  tree_after_change,
  is_grant,
}
use Rattle.machine_model.specs.FileTree.{FileTree, value_at_key, opened_at, with_value_at, with_renamed, without_key, without_handle, without_name}
use Rattle.machine_model.specs.TreeAnswers.{apply}
use Rattle.machine_model.specs.declared.opened.Opened.{Opened}

none_without : {K V : Type 0} (same : K → K → Bool) (pairs : List (K × V)) (gone key : K) → value_at_key same pairs key
    ≡ None
    → value_at_key same (without_key same pairs gone) key ≡ None
none_without same [] gone key e = e
none_without {K} {V} same (p ∷ pairs) gone key e = by_test (same p.0 gone) (same p.0 key) refl e
    (λ w. none_without same pairs gone key w)
  where
    by_test : (b c : Bool) → same p.0 key ≡ c → (if c then Some p.1 else value_at_key same pairs key) ≡ None
        → (value_at_key same pairs key ≡ None → value_at_key same (without_key same pairs gone) key ≡ None)
        → value_at_key same (if b then pairs else p ∷ without_key same pairs gone) key ≡ None
    by_test b true is x more = absurd cc
    by_test true false is x more = x
    by_test false false is x more = rw is (more x)

none_replaced : {K V : Type 0} (same : K → K → Bool) (tells : Tells same) (pairs : List (K × V)) (at key : K) (v : V)
    → value_at_key same pairs key ≡ None → value_at_key same (with_value_at same pairs at v) key ≡ None
none_replaced same tells [] at key v e = e
none_replaced {K} {V} same tells (p ∷ pairs) at key v e = by_test (same p.0 at) (same p.0 key) refl refl e
    (λ w. none_replaced same tells pairs at key v w)
  where
    by_test : (b c : Bool) → same p.0 at ≡ b → same p.0 key ≡ c → (if c then Some p.1 else value_at_key same pairs key)
        ≡ None
        → (value_at_key same pairs key ≡ None → value_at_key same (with_value_at same pairs at v) key ≡ None)
        → value_at_key same (if b then (at, v) ∷ pairs else p ∷ with_value_at same pairs at v) key ≡ None
    by_test b true at_is is x more = absurd cc
    by_test true false at_is is x more = rw (subst (λ (w : K). same w key ≡ false) ((tells p.0 at).0 at_is) is) x
    by_test false false at_is is x more = rw is (more x)

-- the key was not granted
abbrev Ungranted : Change → List ℕ → List ℕ → Type 0
Ungranted c handle key = (handle ≢ key) ⊎ (is_grant c ≡ false)

pushed : (tree : FileTree) (handle key : List ℕ) (o : Opened) → opened_at tree key ≡ None → (handle ≢ key)
    ⊎ (true ≡ false) → value_at_key bytes_eq (tree.handles ++ (handle, o) ∷ []) key ≡ None
pushed tree handle key o e (inl ne) = found_push_other bytes_eq tree.handles handle key o
    (differs bytes_eq handles_tell handle key ne) ∙ e
pushed tree handle key o e (inr t) = absurd cc

unopened_by : (tree : FileTree) (handle key : List ℕ) (c : Change) → opened_at tree key ≡ None → Ungranted c handle key
    → opened_at (tree_after_change tree handle c) key ≡ None
unopened_by tree handle key Unchanged e un = e
unopened_by tree handle key (Rewritten file bytes) e un = e
unopened_by tree handle key (Granted o) e un = pushed tree handle key o e un
unopened_by tree handle key (Truncated file o) e un = pushed tree handle key o e un
unopened_by tree handle key (Created name o) e un = pushed tree handle key o e un
unopened_by tree handle key (ClosedDirectory h) e un = none_without bytes_eq tree.handles h key e
unopened_by tree handle key (ClosedFile h file) e un = ap (λ (w : List (List ℕ × Opened)). value_at_key bytes_eq w key)
    (loss_handles (without_handle tree h) file) ∙ none_without bytes_eq tree.handles h key e
unopened_by tree handle key (Listed h entries) e un = none_replaced bytes_eq handles_tell tree.handles h key
    (opened.Directory entries) e
unopened_by tree handle key (MadeDirectory name) e un = e
unopened_by tree handle key (RemovedDirectory name) e un = e
unopened_by tree handle key (RemovedFile name file) e un = ap
    (λ (w : List (List ℕ × Opened)). value_at_key bytes_eq w key)
    (loss_handles (without_name tree name) file) ∙ e
unopened_by tree handle key (Renamed old to) e un = e
unopened_by tree handle key (Replaced old to gone) e un = ap
    (λ (w : List (List ℕ × Opened)). value_at_key bytes_eq w key)
    (loss_handles (with_renamed (without_name tree to) old to) gone) ∙ e

pub unopened_stays : (tree : FileTree) (config : ServerConfig) (r : Request) (choice : Choice) (handle key : List ℕ)
    → opened_at tree key ≡ None → (handle ≢ key) ⊎ (is_handle (apply tree config r choice handle).0 ≡ false)
    → opened_at (apply tree config r choice handle).1 key ≡ None
unopened_stays tree config r choice handle key e un =
    let l = apply_leaves tree config r choice handle in
    let un' : Ungranted l.change handle key = elim un [ inl ne ↦ inl ne | inr t ↦ inr (sym l.said ∙ t) ] in
    ap (λ (w : FileTree). opened_at w key) l.is ∙ unopened_by tree handle key l.change e un'
