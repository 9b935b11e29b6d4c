-- What a WRITE leaves that is answered by STATUS 0.
use Rattle.std.proofs.Common.{◌≡◌, ℕ, ◌+◌, ◌-◌, Bool, true, false, List, [], ◌++◌, length, drop, Some, if◌then◌else◌, refl, ap, sym, ◌∙◌, subst, arith}
use Rattle.std.specs.Prelude.{max, replicate}
use Rattle.std.proofs.lemmas.Bool.{eq-eqb}
use Rattle.std.proofs.lemmas.List.{append-nil, take_all, drop_all, get_or-set_same}
use Rattle.sftp_model.specs.Numbers.{SSH_FX_FAILURE, SSH_FX_OK}
use Rattle.sftp_model.specs.declared.config.Choice.{Choice}
use Rattle.sftp_model.specs.declared.config.ServerConfig.{ServerConfig}
use Rattle.sftp_model.specs.declared.request.Request.{Request}
use Rattle.sftp_model.specs.declared.request.Request.TheVariants as request
use Rattle.machine_model.proofs.LossLaws.{name_has}
use Rattle.machine_model.specs.Changes.{ClosesHandle, IsWellFormed}
use Rattle.machine_model.specs.Components.{Name}
use Rattle.machine_model.specs.FileTree.{FileTree, bytes_of, is_over, opened_at, written_at, resized_bytes, size_of, with_bytes}
use Rattle.machine_model.specs.HandleRequests.{Answer, ok_answer, refusal_answer, answer_to_write}
use Rattle.machine_model.specs.TreeAnswers.{tree_answer, apply}
use Rattle.machine_model.specs.declared.opened.Held.{Held}
use Rattle.machine_model.specs.declared.opened.Opened.TheVariants as opened
use Rattle.run_laws.specs.CallsAmong.{IsOpenTo, ToWrite}
use Rattle.run_laws.specs.Sparing.{SparesName}
use Rattle.run_laws.specs.Steps.{Step, answer_to, HasBytes}
use Rattle.run_laws.proofs.HandleLaws.{file_stays}
use Rattle.run_laws.proofs.MoveWords.{code_of}
use Rattle.run_laws.proofs.NodeLaws.{at_found, bytes_stay}
use Rattle.run_laws.proofs.StepLaws.{step_node}

-- a request that isn't refused by choice
pub answers_as : (tree : FileTree) (config : ServerConfig) (r : Request) (choice : Choice) (handle : List ℕ)
    → choice.refuse ≡ SSH_FX_OK → apply tree config r choice handle ≡ tree_answer tree config r choice.cap handle
answers_as tree config r choice handle e = rw (eq-eqb choice.refuse 0 e) refl

-- ---- bytes

resized_same : (bytes : List ℕ) → resized_bytes (length bytes) bytes ≡ bytes
resized_same bytes =
    let none : length bytes - length bytes ≡ 0 = omega arith in
    ap (λ (w : List ℕ). w ++ replicate (length bytes - length bytes) 0) (take_all (length bytes) bytes (omega arith))
    ∙ (ap (λ (k : ℕ). bytes ++ replicate k 0) none ∙ append-nil bytes)

-- after the bytes that are there
pub put_end : (bytes piece : List ℕ) → written_at bytes (length bytes) piece ≡ bytes ++ piece
put_end bytes piece =
    ap (λ (w : List ℕ). w ++ piece ++ drop (length bytes + length piece) bytes) (resized_same bytes)
    ∙ (ap (λ (w : List ℕ). bytes ++ piece ++ w) (drop_all (length bytes + length piece) bytes (omega arith))
    ∙ append-nil (bytes ++ piece))

-- ---- one WRITE

answers_write : (tree : FileTree) (config : ServerConfig) (h : List ℕ) (offset : ℕ) (part : List ℕ) (cap : ℕ)
    (handle : List ℕ) (held : Held) → opened_at tree h ≡ Some (opened.File held) → ToWrite held
    → tree_answer tree config (request.Write h offset part) cap handle ≡ answer_to_write tree held.file offset part
answers_write tree config h offset part cap handle held e way = rw (e, way.0, way.1) refl

written : (tree : FileTree) (file offset : ℕ) (part : List ℕ) → code_of (answer_to_write tree file offset part).0
    ≡ SSH_FX_OK
    → answer_to_write tree file offset part ≡ ok_answer (with_bytes tree file
    (written_at (bytes_of tree file) offset part))
written tree file offset part e = by_test (is_over tree file (max (size_of tree file) (offset + length part))) e
  where
    by_test : (b : Bool) → code_of (if b then refusal_answer tree SSH_FX_FAILURE else
        ok_answer (with_bytes tree file (written_at (bytes_of tree file) offset part))).0 ≡ SSH_FX_OK
        → (if b then refusal_answer tree SSH_FX_FAILURE else ok_answer (with_bytes tree file
        (written_at (bytes_of tree file) offset part))) ≡ ok_answer (with_bytes tree file
        (written_at (bytes_of tree file) offset part))
    by_test true e = absurd (let both : 4 ≡ 0 = e in omega (arith, both))
    by_test false e = refl

-- a WRITE that was answered by a STATUS 0 puts its bytes at its offset, and leaves what is open
pub step_puts : (config : ServerConfig) (tree : FileTree) (h part : List ℕ) (offset : ℕ) (held : Held) (s : Step)
    → opened_at tree h ≡ Some (opened.File held) → ToWrite held → s.request ≡ request.Write h offset part
    → s.choice.refuse ≡ SSH_FX_OK → code_of (answer_to config tree s).0 ≡ SSH_FX_OK → answer_to config tree s
    ≡ ok_answer (with_bytes tree held.file (written_at (bytes_of tree held.file) offset part))
step_puts config tree h part offset held s open_is way asks unrefused code =
    let is : answer_to config tree s ≡ answer_to_write tree held.file offset part =
    ap (λ (w : Request). apply tree config w s.choice s.handle) asks
    ∙ (answers_as tree config (request.Write h offset part) s.choice s.handle unrefused
    ∙ answers_write tree config h offset part s.choice.cap s.handle held open_is way)
    in
    is ∙ written tree held.file offset part (ap (λ (w : Answer). code_of w.0) (sym is) ∙ code)

put_open : (tree : FileTree) (name : Name) (h bytes part : List ℕ) (offset : ℕ) → IsWellFormed tree
    → (has : IsOpenTo ToWrite tree name h bytes)
    → IsOpenTo ToWrite (with_bytes tree has.file (written_at (bytes_of tree has.file) offset part)) name h
    (written_at bytes offset part)
put_open tree name h bytes part offset well_formed has =
    record {
      file = has.file;
      is = at_found tree (with_bytes tree has.file (written_at (bytes_of tree has.file) offset part)) name refl
          ∙ has.is;
      bytes_are = get_or-set_same tree.files has.file (written_at (bytes_of tree has.file) offset part) []
          (well_formed.named name has.file (name_has tree name has.file has.is))
          ∙ ap (λ (w : List ℕ). written_at w offset part) has.bytes_are;
      held = has.held;
      opened_is = has.opened_is;
      same = has.same;
      open_so = has.open_so;
    }

-- to the file of a name
pub step_writes : (config : ServerConfig) (tree : FileTree) (name : Name) (h bytes part : List ℕ) (offset : ℕ)
    (s : Step) → IsWellFormed tree → IsOpenTo ToWrite tree name h bytes → s.request ≡ request.Write h offset part
    → s.choice.refuse ≡ SSH_FX_OK → code_of (answer_to config tree s).0 ≡ SSH_FX_OK
    → IsOpenTo ToWrite (answer_to config tree s).1 name h (written_at bytes offset part)
step_writes config tree name h bytes part offset s well_formed has asks unrefused code =
    let is = step_puts config tree h part offset has.held s has.opened_is has.open_so asks unrefused code in
    subst (λ (w : Answer). IsOpenTo ToWrite w.1 name h (written_at bytes offset part))
    (sym (is ∙ ap (λ (k : ℕ). ok_answer (with_bytes tree k (written_at (bytes_of tree k) offset part))) has.same))
    (put_open tree name h bytes part offset well_formed has)

-- ---- what stays open

pub step_open : (way : Held → Type 0) (config : ServerConfig) (name : Name) (handle bytes : List ℕ) (tree : FileTree)
    (s : Step) → IsWellFormed tree → SparesName tree name s.request → (ClosesHandle s.request handle → ⊥)
    → IsOpenTo way tree name handle bytes → IsOpenTo way (answer_to config tree s).1 name handle bytes
step_open way config name handle bytes tree s well_formed spares keeps has =
    record {
      file = has.file;
      is = step_node config name tree s spares ∙ has.is;
      bytes_are = bytes_stay tree config s.request s.choice s.handle name has.file well_formed spares has.is
          ∙ has.bytes_are;
      held = has.held;
      opened_is = file_stays config tree s handle has.held keeps has.opened_is;
      same = has.same;
      open_so = has.open_so;
    }

pub open_bytes : (way : Held → Type 0) (tree : FileTree) (name : Name) (h bytes : List ℕ)
    → IsOpenTo way tree name h bytes → HasBytes tree name bytes
open_bytes way tree name h bytes has = record { file = has.file; is = has.is; bytes_are = has.bytes_are }
