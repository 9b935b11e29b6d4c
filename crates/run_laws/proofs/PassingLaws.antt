-- A name that is opened by OPENs of it alone is not written to by the handles of other names' grants.
use Rattle.std.proofs.Common.{
  ◌≡◌,
  ℕ,
  ◌<◌,
  ◌≤◌,
  Bool,
  true,
  false,
  not,
  List,
  [],
  ◌∷◌,
  length,
  Option,
  Some,
  None,
  if◌then◌else◌,
  refl,
  ap,
  sym,
  ◌∙◌,
  subst,
  arith,
  inl,
  inr,
}
use Rattle.std.specs.Prelude.{◌⊎◌, ◌&&◌}
use Rattle.std.specs.Str.{bytes_eq}
use Rattle.std.proofs.lemmas.Bool.Decides.{eqb_tells}
use Rattle.std.proofs.lemmas.List.{length-set, length_push}
use Rattle.sftp_model.specs.Numbers.{SSH_FX_OK}
use Rattle.sftp_model.specs.declared.config.ServerConfig.{ServerConfig}
use Rattle.sftp_model.specs.declared.file_attrs.FileAttrs.{FileAttrs}
use Rattle.sftp_model.specs.declared.flags.OpenFlags.{OpenFlags}
use Rattle.sftp_model.specs.declared.reply.Reply.TheVariants as reply
use Rattle.sftp_model.specs.declared.request.Request.{Request}
use Rattle.sftp_model.specs.declared.request.Request.TheVariants as request
use Rattle.machine_model.proofs.ChangeLaws.{apply_leaves}
use Rattle.machine_model.proofs.NameLaws.{handles_tell}
use Rattle.machine_model.proofs.OpenLaws.{none_opens}
use Rattle.machine_model.proofs.PairLaws.{Tells, found_has}
use Rattle.machine_model.specs.Changes.{
  AsksToOpen,
  Change,
  ClosedFile,
  Created,
  IsOpenOn,
  IsWellFormed,
  RemovedFile,
  Replaced,
  Rewritten,
  Truncated,
  WritesTo,
  tree_after_change,
}
use Rattle.machine_model.specs.Components.{Name, components, is_long_name, parent_of}
use Rattle.machine_model.specs.FileTree.{
  FileTree,
  after_loss,
  file_of,
  value_at_key,
  is_directory,
  is_file_in_use,
  node_at,
  opened_at,
  with_bytes,
  with_file,
  with_handle,
  with_renamed,
  without_handle,
  without_name,
}
use Rattle.machine_model.specs.HandleRequests.{Answer, after_open, creates, grant_answer, held_by, is_exclusive, refusal_answer, truncates}
use Rattle.machine_model.specs.Pairs.{HasEntry}
use Rattle.machine_model.specs.TreeAnswers.{apply}
use Rattle.machine_model.specs.declared.node.Node.{Node}
use Rattle.machine_model.specs.declared.node.Node.TheVariants as node
use Rattle.machine_model.specs.declared.opened.Held.{Held}
use Rattle.machine_model.specs.declared.opened.Opened.{Opened}
use Rattle.machine_model.specs.declared.opened.Opened.TheVariants as opened
use Rattle.plan_model.specs.Moves.{Answers, handle_of}
use Rattle.run_laws.specs.GrantUses.{AreOnName, IsOnName, UseGrants, WritesBy, WritesElsewhere}
use Rattle.run_laws.specs.Sparing.{AvoidsName, SparesName}
use Rattle.run_laws.specs.Steps.{Step, answer_to, AreServed}
use Rattle.run_laws.proofs.GrantLaws.{AreBorne, AreKinds, grants_are_borne, new_handle}
use Rattle.run_laws.proofs.HandleLaws.{kind_at, opened_file}
use Rattle.run_laws.proofs.NodeLaws.{at_found, node_stays}
use Rattle.run_laws.proofs.OpenLaws.{made_at}
use Rattle.run_laws.proofs.StepLaws.{refused_as, step_well_formed}
use Rattle.run_laws.proofs.WriteLaws.{answers_as}

-- ---- files stay

loss_length : (tree : FileTree) (file : ℕ) → length (after_loss tree file).files ≡ length tree.files
loss_length tree file = by_test (is_file_in_use tree file)
  where
    by_test : (b : Bool) → length (if b then tree else with_bytes tree file []).files ≡ length tree.files
    by_test true = refl
    by_test false = length-set tree.files file []

grows_by : (tree : FileTree) (handle : List ℕ) (c : Change) →
    length tree.files ≤ length (tree_after_change tree handle c).files
grows_by tree handle (Rewritten file bytes) = let l = length-set tree.files file bytes in omega (arith, l)
grows_by tree handle (Truncated file o) = let l = length-set tree.files file [] in omega (arith, l)
grows_by tree handle (Created name o) = let l = length_push tree.files [] in omega (arith, l)
grows_by tree handle (ClosedFile h file) = let l = loss_length (without_handle tree h) file in omega (arith, l)
grows_by tree handle (RemovedFile name file) = let l = loss_length (without_name tree name) file in omega (arith, l)
grows_by tree handle (Replaced old to gone) = let l = loss_length (with_renamed (without_name tree to) old to) gone in
    omega (arith, l)
grows_by tree handle other = omega arith

files_grow : (config : ServerConfig) (tree : FileTree) (s : Step)
    → length tree.files ≤ length (answer_to config tree s).1.files
files_grow config tree s =
    let l = apply_leaves tree config s.request s.choice s.handle in
    let g = grows_by tree s.handle l.change in
    let same : length (answer_to config tree s).1.files ≡ length (tree_after_change tree s.handle l.change).files =
    ap (λ (w : FileTree). length w.files) l.is in
    omega (arith, g, same)

-- ---- an OPEN of the name

-- the name has the file that it had, or a new one
open_node : (tree : FileTree) (handle : List ℕ) (flags : ℕ) (name : Name) (n : Option Node) (file : ℕ)
    → node_at tree name ≡ n → node_at (after_open tree handle flags name n).1 name ≡ Some (node.File file)
    → (node_at tree name ≡ Some (node.File file)) ⊎ (file ≡ length tree.files)
open_node tree handle flags name (Some node.Directory) file is e = inl e
open_node tree handle flags name (Some (node.File old)) file is e =
    by_tests (creates flags && is_exclusive flags) (truncates flags) e
  where
    by_tests : (a b : Bool) → node_at (if a then refusal_answer tree 4 else if b then
        grant_answer (with_bytes tree old []) handle (held_by flags old) else
        grant_answer tree handle (held_by flags old)).1 name
        ≡ Some (node.File file)
        → (node_at tree name ≡ Some (node.File file)) ⊎ (file ≡ length tree.files)
    by_tests true b e = inl e
    by_tests false true e = inl (sym (at_found tree (with_handle (with_bytes tree old []) handle (held_by flags old))
        name refl) ∙ e)
    by_tests false false e = inl (sym (at_found tree (with_handle tree handle (held_by flags old)) name refl) ∙ e)
open_node tree handle flags name None file is e = by_tests (not (creates flags))
    (not (is_directory (node_at tree (parent_of name)))) (is_long_name name) e
  where
    by_tests : (a b c : Bool) → node_at (if a then refusal_answer tree 2 else if b then refusal_answer tree 2 else
        if c then
        refusal_answer tree 4 else grant_answer (with_file tree name) handle (held_by flags (length tree.files))).1 name
        ≡ Some (node.File file)
        → (node_at tree name ≡ Some (node.File file)) ⊎ (file ≡ length tree.files)
    by_tests true b c e = inl e
    by_tests false true c e = inl e
    by_tests false false true e = inl e
    by_tests false false false e =
        inr (let both : Some (node.File (length tree.files)) ≡ Some (node.File file) =
        sym (made_at tree name handle (held_by flags (length tree.files)) is) ∙ e in sym (ap file_in both))
      where
        file_in : Option Node → ℕ
        file_in None = 0
        file_in (Some node.Directory) = 0
        file_in (Some (node.File file)) = file

-- ---- grants of others

writes_by : (tree : FileTree) (r : Request) (file : ℕ) → WritesTo tree r file → (h : List ℕ)
    × (WritesBy r h × IsOpenOn tree h file)
writes_by tree (request.Write handle offset content) file w = (handle, (refl, w))
writes_by tree (request.Fsetstat handle attrs) file w = (handle, (refl, w))
writes_by tree (request.CopyData from from_offset len to to_offset) file w = (to, (refl, w))
writes_by tree r file w = absurd w

-- the steps that avoid the name, and write by handles of others alone, spare it
abbrev pub AreSpared : ServerConfig → Answers → (ℕ → Option ℕ) → (ℕ → Bool) → Name → FileTree → List Step → Type 0
AreSpared config answers grant_of elsewhere name tree [] = Unit {0}
AreSpared config answers grant_of elsewhere name tree (s ∷ steps) =
    (AvoidsName name s.request → WritesElsewhere answers grant_of elsewhere s → SparesName tree name s.request)
    × AreSpared config answers grant_of elsewhere name (answer_to config tree s).1 steps

-- what others opened so far is not the name's file, whatever becomes of the name
record AreElsewhere (answers : Answers) (elsewhere : ℕ → Bool) (kind : ℕ → Option Held) (name : Name) (tree : FileTree)
    (seen : List ℕ) : Type 0 where
  below : (g : ℕ) (h : List ℕ) (held : Held) → HasEntry seen g → elsewhere g ≡ true → answers g ≡ Some (reply.Handle h)
      → kind g ≡ Some held → held.file < length tree.files
  other : (g : ℕ) (h : List ℕ) (held : Held) → HasEntry seen g → elsewhere g ≡ true → answers g ≡ Some (reply.Handle h)
      → kind g ≡ Some held → node_at tree name ≡ Some (node.File held.file) → ⊥

none_has : {K V : Type 0} (same : K → K → Bool) (tells : Tells same) (pairs : List (K × V)) (key : K) (v : V)
    → value_at_key same pairs key ≡ None → HasEntry pairs (key, v) → ⊥
none_has same tells [] key v e h = h
none_has {K} {V} same tells (p ∷ pairs) key v e (inl is) = (let t : same p.0 key ≡ true =
    (tells p.0 key).1 (ap (λ (w : K × V). w.0) is) in let some : Some p.1 ≡ None = rw t at e in cc)
none_has {K} {V} same tells (p ∷ pairs) key v e (inr h) = by_test (same p.0 key) e
    (λ x. none_has same tells pairs key v x h)
  where
    by_test : (b : Bool) → (if b then Some p.1 else value_at_key same pairs key) ≡ None
        → (value_at_key same pairs key ≡ None → ⊥) → ⊥
    by_test true x more = (let both : Some p.1 ≡ None = x in cc)
    by_test false x more = more x

-- a step that avoids the name opens another file
opens_other : (config : ServerConfig) (tree : FileTree) (name : Name) (s : Step) (h : List ℕ) (held : Held)
    → IsWellFormed tree → AvoidsName name s.request → (AsksToOpen s.request name → ⊥) → opened_at tree h ≡ None
    → opened_at (answer_to config tree s).1 h ≡ Some (opened.File held) → node_at (answer_to config tree s).1 name
    ≡ Some (node.File held.file) → ⊥
opens_other config tree name s h held well_formed avoids asks none now at =
    let before : node_at tree name ≡ Some (node.File held.file) =
    sym (node_stays tree config s.request s.choice s.handle name avoids) ∙ at in
    let old = none_opens tree config s.request s.choice s.handle name held.file h well_formed asks before
    (held, (found_has bytes_eq handles_tell (answer_to config tree s).1.handles h (opened.File held) now, refl)) in
    none_has bytes_eq handles_tell tree.handles h (opened.File old.0) none old.1.0

-- what the step of a grant opened
new_opened : (config : ServerConfig) (answers : Answers) (kind : ℕ → Option Held) (tree : FileTree) (s : Step)
    (steps : List Step) (g : ℕ) (h : List ℕ) (held : Held) → AreKinds config answers kind tree (s ∷ steps) → s.place ≡ g
    → answers g ≡ Some (reply.Handle h) → kind g ≡ Some held → opened_at (answer_to config tree s).1 h
    ≡ Some (opened.File held)
new_opened config answers kind tree s steps g h held kinds here e is =
    opened_file (opened_at (answer_to config tree s).1 h) held
    (kinds.0 h (ap answers here ∙ e) ∙ ap (λ (w : Option Held). Some w) (ap kind here ∙ is))

-- the answer to an OPEN of the name
own_open : (config : ServerConfig) (tree : FileTree) (name : Name) (s : Step) (path : List ℕ) (flags : OpenFlags)
    (attrs : FileAttrs) → s.request ≡ request.OpenFile path flags attrs → components path ≡ name → s.choice.refuse ≡ 0
    → answer_to config tree s ≡ after_open tree s.handle flags.0 name (node_at tree name)
own_open config tree name s path flags attrs asks denotes unrefused =
    ap (λ (w : Request). apply tree config w s.choice s.handle) asks
    ∙ (answers_as tree config (request.OpenFile path flags attrs) s.choice s.handle unrefused
    ∙ ap (λ (w : Name). after_open tree s.handle flags.0 w (node_at tree w)) denotes)

other_on : (config : ServerConfig) (elsewhere : ℕ → Bool) (name : Name) (tree : FileTree) (s : Step) (file : ℕ)
    → IsOnName name elsewhere s → file < length tree.files → (node_at tree name ≡ Some (node.File file) → ⊥)
    → node_at (answer_to config tree s).1 name ≡ Some (node.File file) → ⊥
other_on config elsewhere name tree s file (inl avoids) lt other at =
    other (sym (node_stays tree config s.request s.choice s.handle name avoids.0) ∙ at)
other_on config elsewhere name tree s file (inr own) lt other at =
    elim (eqb_tells s.choice.refuse SSH_FX_OK) [
      | inr t ↦ other (ap (λ (w : Answer). node_at w.1 name) (sym
          (refused_as tree config s.request s.choice s.handle t.0)) ∙ at)
      | inl t ↦
          (let is = own_open config tree name s own.0 own.1 own.2 own.3 own.4 t.1 in
          elim (open_node tree s.handle own.1.0 name (node_at tree name) file refl
          (ap (λ (w : Answer). node_at w.1 name) (sym is) ∙ at)) [
            | inl old ↦ other old
            | inr new ↦ (let e : file ≡ length tree.files = new in omega (arith, e, lt))
          ])
    ]

elsewhere_avoids : (name : Name) (elsewhere : ℕ → Bool) (s : Step) (g : ℕ) → IsOnName name elsewhere s → s.place ≡ g
    → elsewhere g ≡ true → AvoidsName name s.request × (AsksToOpen s.request name → ⊥)
elsewhere_avoids name elsewhere s g (inl avoids) here away = avoids
elsewhere_avoids name elsewhere s g (inr own) here away = absurd
    (let both : false ≡ true = sym own.5 ∙ (ap elsewhere here ∙ away) in cc)

others_on : (config : ServerConfig) (answers : Answers) (elsewhere : ℕ → Bool) (kind : ℕ → Option Held) (name : Name)
    (tree : FileTree) (seen : List ℕ) (s : Step) (steps : List Step) → IsWellFormed tree
    → AreServed config answers tree (s ∷ steps)
    → AreKinds config answers kind tree (s ∷ steps) → IsOnName name elsewhere s
    → AreElsewhere answers elsewhere kind name tree seen → AreElsewhere answers elsewhere kind name
    (answer_to config tree s).1 (s.place ∷ seen)
others_on config answers elsewhere kind name tree seen s steps well_formed served kinds on others =
    record { below = below; other = other }
  where
    below : (g : ℕ) (h : List ℕ) (held : Held) → (s.place ≡ g) ⊎ HasEntry seen g → elsewhere g ≡ true → answers g
        ≡ Some (reply.Handle h) → kind g ≡ Some held → held.file < length (answer_to config tree s).1.files
    below g h held (inl here) away e is =
        (step_well_formed config tree s well_formed).held h held
        (found_has bytes_eq handles_tell (answer_to config tree s).1.handles h (opened.File held)
        (new_opened config answers kind tree s steps g h held kinds here e is))
    below g h held (inr there) away e is = (let lt = others.below g h held there away e is in let more =
        files_grow config tree s in omega (arith, lt, more))

    other : (g : ℕ) (h : List ℕ) (held : Held) → (s.place ≡ g) ⊎ HasEntry seen g → elsewhere g ≡ true → answers g
        ≡ Some (reply.Handle h) → kind g ≡ Some held → node_at (answer_to config tree s).1 name
        ≡ Some (node.File held.file) → ⊥
    other g h held (inl here) away e is at =
        (let avoids = elsewhere_avoids name elsewhere s g on here away in
        opens_other config tree name s h held well_formed avoids.0 avoids.1
        (new_handle config answers tree s steps served h (ap answers here ∙ e))
        (new_opened config answers kind tree s steps g h held kinds here e is) at)
    other g h held (inr there) away e is at = other_on config elsewhere name tree s held.file on
        (others.below g h held there away e is) (others.other g h held there away e is) at

held_at : (o : Option Opened) (held : Held) (k : Option Held) → file_of o ≡ Some held → kind_at o ≡ Some k → k
    ≡ Some held
held_at None held k e is = absurd cc
held_at (Some (opened.File other)) held k e is = (let both : Some (Some other) ≡ Some k = is in sym (ap inside both)
    ∙ e)
  where
    inside : Option (Option Held) → Option Held
    inside None = None
    inside (Some w) = w
held_at (Some (opened.Directory entries)) held k e is = absurd cc

spared_here : (config : ServerConfig) (answers : Answers) (grant_of : ℕ → Option ℕ) (elsewhere : ℕ → Bool)
    (kind : ℕ → Option Held) (name : Name) (tree : FileTree) (seen : List ℕ) (s : Step) (steps : List Step)
    → UseGrants answers grant_of seen (s ∷ steps) → AreBorne config answers grant_of kind tree (s ∷ steps)
    → AreElsewhere answers elsewhere kind name tree seen → AvoidsName name s.request
    → WritesElsewhere answers grant_of elsewhere s
    → (file : ℕ) → node_at tree name ≡ Some (node.File file) → WritesTo tree s.request file → ⊥
spared_here config answers grant_of elsewhere kind name tree seen s steps uses borne others avoids writes file at w =
    let by = writes_by tree s.request file w in
    let g = writes by.0 by.1.0 in
    let held = by.1.1.0 in
    let has : kind_at (opened_at tree by.0) ≡ Some (kind g.0) =
    subst (λ (v : List ℕ). kind_at (opened_at tree v) ≡ Some (kind g.0)) (ap handle_of g.1.1.0) (borne.0 g.0 g.1.0)
    in
    let is : kind g.0 ≡ Some held = held_at (opened_at tree by.0) held (kind g.0) by.1.1.1.0 has in
    others.other g.0 by.0 held (uses.0 g.0 g.1.0) g.1.1.1 g.1.1.0 is
    (at ∙ ap (λ (k : ℕ). Some (node.File k)) (sym by.1.1.1.1))

spared_by : (config : ServerConfig) (answers : Answers) (grant_of : ℕ → Option ℕ) (elsewhere : ℕ → Bool)
    (kind : ℕ → Option Held) (name : Name) (tree : FileTree) (seen : List ℕ) (steps : List Step) → IsWellFormed tree
    → AreServed config answers tree steps
    → UseGrants answers grant_of seen steps → AreKinds config answers kind tree steps
    → AreBorne config answers grant_of kind tree steps → AreOnName name elsewhere steps
    → AreElsewhere answers elsewhere kind name tree seen
    → AreSpared config answers grant_of elsewhere name tree steps
spared_by config answers grant_of elsewhere kind name tree seen [] well_formed served uses kinds borne on others = tt
spared_by config answers grant_of elsewhere kind name tree seen (s ∷ steps) well_formed served uses kinds borne on
    others = (
      λ avoids writes. record {
        avoids = avoids;
        writes = spared_here config answers grant_of elsewhere kind name tree seen
            s steps uses borne others avoids writes;
      },
      spared_by config answers grant_of elsewhere kind name (answer_to config tree s).1 (s.place ∷ seen) steps
          (step_well_formed config tree s well_formed) served.2 uses.3 kinds.1 borne.1 on.1
          (others_on config answers elsewhere kind name tree seen s steps well_formed served kinds on.0 others),
    )

-- From a tree on which none of the grants was made: each step that avoids the name and writes by handles of others
-- alone spares the name.
pub passing_steps_spare : (config : ServerConfig) (answers : Answers) (grant_of : ℕ → Option ℕ) (elsewhere : ℕ → Bool)
    (kind : ℕ → Option Held) (name : Name) (tree : FileTree) (steps : List Step) → IsWellFormed tree
    → AreServed config answers tree steps
    → UseGrants answers grant_of [] steps → AreKinds config answers kind tree steps → AreOnName name elsewhere steps
    → AreSpared config answers grant_of elsewhere name tree steps
passing_steps_spare config answers grant_of elsewhere kind name tree steps well_formed served uses kinds on =
    spared_by config answers grant_of elsewhere kind name tree [] steps well_formed served uses kinds
    (grants_are_borne config answers grant_of kind tree steps served uses kinds) on
    (record { below = λ g h held there away e is. absurd there; other = λ g h held there away e is at. absurd there })
