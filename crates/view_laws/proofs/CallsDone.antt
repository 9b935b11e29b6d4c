-- What it means that a call on the first slot is done, and an OPEN with and without handles.
use Rattle.std.proofs.Common.{
  ◌≡◌,
  ℕ,
  Bool,
  true,
  false,
  not,
  List,
  [],
  ◌∷◌,
  length,
  Option,
  Some,
  None,
  if◌then◌else◌,
  refl,
  ap,
  ◌∙◌,
  subst,
  inl,
  inr,
}
use Rattle.std.specs.Prelude.{◌⊎◌, ◌&&◌}
use Rattle.std.proofs.lemmas.Bool.{eq-eqb}
use Rattle.std.proofs.lemmas.Bool.Decides.{eqb_tells}
use Rattle.sftp_model.specs.Numbers.{SSH_FX_FAILURE, SSH_FX_NO_SUCH_FILE}
use Rattle.sftp_model.specs.Slots.{fresh_site, has_grant}
use Rattle.sftp_model.specs.declared.outcome.Outcome.{Outcome}
use Rattle.sftp_model.specs.declared.request.Request.{Request}
use Rattle.sftp_model.specs.declared.slot.Move.TheVariants.{Done}
use Rattle.sftp_model.specs.declared.slot.Site.{Site}
use Rattle.machine_model.specs.Components.{Name, is_long_name, parent_of}
use Rattle.machine_model.specs.FileTree.{FileTree, is_directory, node_at, with_bytes, with_file}
use Rattle.machine_model.specs.HandleRequests.{
  Answer,
  after_open,
  creates,
  grant_answer,
  held_by,
  is_exclusive,
  refusal_answer,
  truncates,
}
use Rattle.machine_model.specs.declared.node.Node.{Node}
use Rattle.machine_model.specs.declared.node.Node.TheVariants as node
use Rattle.plan_model.specs.Moves.{Answers, Own}
use Rattle.plan_model.specs.declared.call.Call.{Call}
use Rattle.session_model.proofs.CallLaws.{has_place}
use Rattle.session_model.specs.Calls.{given_up}
use Rattle.session_model.specs.Grants.{is_granted}
use Rattle.run_laws.proofs.MoveWords.{outcome_of, site_of}
use Rattle.view_model.specs.Viewed.{found_in}
use Rattle.view_laws.specs.FileCalls.{CallEffect, FilesAt, OpenFilePlace, bare}
use Rattle.view_laws.proofs.PutTrees.{bare_node, by_names, made_here}
use Rattle.view_laws.proofs.SlotCalls.{IsAt, file_at, site_with}

-- The call did what the files say, and left the lane so; each grant that it held, or asked for, the lane still holds.
pub record HasDone (len : ℕ) (answers : Answers) (own : Own) (c : Call) (site left : Site) (now : FileTree)
    (before : FilesAt) (o : Outcome) : Type 0
  where
    pub mid : FilesAt
    pub did : CallEffect len before c (found_in o) mid
    pub handle : List ℕ
    pub at : IsAt answers now left handle mid
    pub keeps : (g : ℕ) → is_granted (answers g) ≡ true → (has_grant (given_up c own site) g ≡ true)
        ⊎ (has_place own g ≡ true) → has_grant left g ≡ true
    pub replied : (g : ℕ) → has_place own g ≡ true → answers g ≡ None → ⊥

-- a call that is done so
pub done_as : (len : ℕ) (answers : Answers) (own : Own) (c : Call) (site left to : Site) (now : FileTree)
    (before : FilesAt) (o p : Outcome)
    → Done p to ≡ Done o left → HasDone len answers own c site to now before p
    → HasDone len answers own c site left now before o
done_as len answers own c site left to now before o p e h =
    subst (λ (x : Outcome). HasDone len answers own c site left now before x) (ap outcome_of e)
    (subst (λ (x : Site). HasDone len answers own c site x now before p) (ap (site_of to) e) h)

-- a single request's place
pub one_place : (p : ℕ) (r : Request) (g : ℕ) → has_place ((p, r) ∷ []) g ≡ true → p ≡ g
one_place p r g e = elim (eqb_tells p g) [ inl t ↦ t.1 | inr t ↦ absurd (let no : false ≡ true = rw t.0 at e in cc) ]

-- ---- OPEN

-- with handles and without them the OPEN was refused alike, or opened the same file
pub record AreRefused (tree : FileTree) (x y : Answer) : Type 0 where
  pub code : ℕ
  pub x_is : x ≡ refusal_answer tree code
  pub y_is : y ≡ refusal_answer (bare tree) code

pub record AreGranted (tree : FileTree) (handle : List ℕ) (flags : ℕ) (name : Name) (x y : Answer) : Type 0 where
  pub to : FileTree
  pub file : ℕ
  pub x_is : x ≡ grant_answer to handle (held_by flags file)
  pub y_is : y ≡ grant_answer (bare to) [] (held_by flags file)
  pub named : node_at to name ≡ Some (node.File file)
  pub handles : to.handles ≡ tree.handles

abbrev pub OpenAlike : FileTree → List ℕ → ℕ → Name → Answer → Answer → Type 0
OpenAlike tree handle flags name x y = AreRefused tree x y ⊎ AreGranted tree handle flags name x y

pub open_alike : (tree : FileTree) (handle : List ℕ) (flags : ℕ) (name : Name) (n : Option Node) → node_at tree name ≡ n
    → OpenAlike tree handle flags name (after_open tree handle flags name n) (after_open (bare tree) [] flags name n)
open_alike tree handle flags name (Some node.Directory) is =
    inl (record { code = SSH_FX_FAILURE; x_is = refl; y_is = refl })
open_alike tree handle flags name (Some (node.File file)) is =
    by_tests (creates flags && is_exclusive flags) (truncates flags)
  where
    by_tests : (a b : Bool) → OpenAlike tree handle flags name
        (if a then refusal_answer tree SSH_FX_FAILURE else if b then
        grant_answer (with_bytes tree file []) handle (held_by flags file) else
        grant_answer tree handle (held_by flags file))
        (if a then refusal_answer (bare tree) SSH_FX_FAILURE else if b then
        grant_answer (with_bytes (bare tree) file []) [] (held_by flags file) else
        grant_answer (bare tree) [] (held_by flags file))
    by_tests true b = inl (record { code = SSH_FX_FAILURE; x_is = refl; y_is = refl })
    by_tests false true = inr (record {
      to = with_bytes tree file [];
      file = file;
      x_is = refl;
      y_is = refl;
      named = by_names tree (with_bytes tree file []) name refl ∙ is;
      handles = refl;
    })
    by_tests false false = inr (record { to = tree; file = file; x_is = refl; y_is = refl; named = is; handles = refl })
open_alike tree handle flags name None is =
    by_tests (not (creates flags)) (not (is_directory (node_at tree (parent_of name)))) (is_long_name name)
    (not (is_directory (node_at (bare tree) (parent_of name))))
    (ap (λ (x : Option Node). not (is_directory x)) (bare_node tree (parent_of name)))
  where
    by_tests : (a b c d : Bool) → d ≡ b → OpenAlike tree handle flags name
        (if a then refusal_answer tree SSH_FX_NO_SUCH_FILE else if b then refusal_answer tree SSH_FX_NO_SUCH_FILE else
        if c then refusal_answer tree SSH_FX_FAILURE else
        grant_answer (with_file tree name) handle (held_by flags (length tree.files)))
        (if a then refusal_answer (bare tree) SSH_FX_NO_SUCH_FILE else if d then
        refusal_answer (bare tree) SSH_FX_NO_SUCH_FILE else
        if c then refusal_answer (bare tree) SSH_FX_FAILURE else
        grant_answer (with_file (bare tree) name) [] (held_by flags (length tree.files)))
    by_tests true b c d e = inl (record { code = SSH_FX_NO_SUCH_FILE; x_is = refl; y_is = refl })
    by_tests false true c true e = inl (record { code = SSH_FX_NO_SUCH_FILE; x_is = refl; y_is = refl })
    by_tests false true c false e = absurd cc
    by_tests false false c true e = absurd cc
    by_tests false false true false e = inl (record { code = SSH_FX_FAILURE; x_is = refl; y_is = refl })
    by_tests false false false false e = inr (record {
      to = with_file tree name;
      file = length tree.files;
      x_is = refl;
      y_is = refl;
      named = made_here tree name is;
      handles = refl;
    })

pub fresh_has : (g : ℕ) → has_grant fresh_site g ≡ true → ⊥
fresh_has g e = (let both : false ≡ true = e in cc)

pub has_this : (p : ℕ) (s : OpenFilePlace) (g : ℕ) → p ≡ g → has_grant (site_with (file_at p s)) g ≡ true
has_this p s g same = rw (eq-eqb p g same) refl
