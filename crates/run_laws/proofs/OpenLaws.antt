-- A name that is opened to be written anew, or to be read.
use Rattle.std.proofs.Common.{◌≡◌, ℕ, Bool, true, false, not, List, [], ◌∷◌, length, Option, Some, None, if◌then◌else◌, refl, ap, sym, ◌∙◌, subst}
use Rattle.std.specs.Str.{bytes_eq}
use Rattle.std.proofs.lemmas.List.{get_or-set_same, get_or_push}
use Rattle.sftp_model.specs.Answers.{is_handle}
use Rattle.sftp_model.specs.Numbers.{SSH_FX_FAILURE, SSH_FX_NO_SUCH_FILE, SSH_FX_OK}
use Rattle.sftp_model.specs.declared.config.ServerConfig.{ServerConfig}
use Rattle.sftp_model.specs.declared.error.Error.TheVariants as error
use Rattle.sftp_model.specs.declared.error.IoKind.TheVariants as kind
use Rattle.sftp_model.specs.declared.flags.OpenFlags.{OpenFlags}
use Rattle.sftp_model.specs.declared.outcome.Outcome.TheVariants as outcome
use Rattle.sftp_model.specs.declared.reply.Reply.TheVariants as reply
use Rattle.sftp_model.specs.declared.request.Request.{Request}
use Rattle.sftp_model.specs.declared.slot.Move.TheVariants.{Ask}
use Rattle.sftp_model.specs.declared.slot.Site.{Site}
use Rattle.machine_model.proofs.LossLaws.{name_has}
use Rattle.machine_model.proofs.NameLaws.{handles_tell, names_tell}
use Rattle.machine_model.proofs.PairLaws.{found_push_here}
use Rattle.machine_model.specs.Changes.{IsWellFormed}
use Rattle.machine_model.specs.Components.{Name, components, is_long_name, parent_of, same_name}
use Rattle.machine_model.specs.FileTree.{FileTree, is_directory, node_at, opened_at, with_bytes, with_file, with_handle}
use Rattle.machine_model.specs.HandleRequests.{Answer, after_open, grant_answer, held_by, refusal_answer, where_new}
use Rattle.machine_model.specs.TreeAnswers.{apply}
use Rattle.machine_model.specs.declared.node.Node.{Node}
use Rattle.machine_model.specs.declared.node.Node.TheVariants as node
use Rattle.machine_model.specs.declared.opened.Opened.{Opened}
use Rattle.plan_model.specs.FilePlans.{open_request}
use Rattle.sftp_model.specs.Frames.{is_too_long}
use Rattle.plan_model.specs.Moves.{ask_path}
use Rattle.plan_model.specs.WholePlans.{to_replace}
use Rattle.plan_model.specs.WindowPlans.{to_read}
use Rattle.run_laws.specs.CallsAmong.{HasNoFile, IsOpenTo, ToRead, ToWrite, refusal_of}
use Rattle.run_laws.specs.Steps.{Step, answer_to, HasBytes}
use Rattle.run_laws.proofs.MoveWords.{asked_unless, handle_in}
use Rattle.run_laws.proofs.NodeLaws.{at_found}
use Rattle.run_laws.proofs.WriteLaws.{answers_as}

-- ---- the OPEN

-- the OPEN that was asked
pub open_is : (flags : OpenFlags) (path : List ℕ) (site : Site) (r : Request) → ask_path (open_request flags path) site
    ≡ Ask r → r ≡ open_request flags path
open_is flags path site r e = asked_unless (is_too_long (open_request flags path))
    (outcome.Refused (error.IOError kind.PathTooLong)) site (open_request flags path) r e

-- what a step answers that isn't refused by choice and opens a name
pub step_opens : (config : ServerConfig) (tree : FileTree) (s : Step) (flags : OpenFlags) (path : List ℕ) → s.request
    ≡ open_request flags path → s.choice.refuse ≡ SSH_FX_OK
    → answer_to config tree s ≡ after_open tree s.handle flags.0 (components path) (node_at tree (components path))
step_opens config tree s flags path asks unrefused = ap (λ (w : Request). apply tree config w s.choice s.handle) asks
    ∙ answers_as tree config (open_request flags path) s.choice s.handle unrefused

-- a name that is to be made was made, where its handle was granted
new_is : (tree : FileTree) (name : Name) (x : Answer) (h : List ℕ) → (where_new tree name x).0 ≡ reply.Handle h
    → where_new tree name x ≡ x
new_is tree name x h e = by_tests (not (is_directory (node_at tree (parent_of name)))) (is_long_name name) e
  where
    by_tests : (a b : Bool) → (if a then refusal_answer tree SSH_FX_NO_SUCH_FILE else if b then
        refusal_answer tree SSH_FX_FAILURE else x).0 ≡ reply.Handle h
        → (if a then refusal_answer tree SSH_FX_NO_SUCH_FILE else if b then refusal_answer tree SSH_FX_FAILURE else x)
        ≡ x
    by_tests true b e = absurd (let both : false ≡ true = ap is_handle e in cc)
    by_tests false true e = absurd (let both : false ≡ true = ap is_handle e in cc)
    by_tests false false e = refl

-- ---- to be written anew

opens_there : (tree : FileTree) (handle : List ℕ) (name : Name) (file : ℕ) → IsWellFormed tree → node_at tree name
    ≡ Some (node.File file) → opened_at tree handle ≡ None
    → IsOpenTo ToWrite (grant_answer (with_bytes tree file []) handle (held_by to_replace.0 file)).1 name handle []
opens_there tree handle name file well_formed e none =
    record {
      file = file;
      is = at_found tree (with_handle (with_bytes tree file []) handle (held_by to_replace.0 file)) name refl ∙ e;
      bytes_are = get_or-set_same tree.files file [] [] (well_formed.named name file (name_has tree name file e));
      held = record { file = file; readable = false; writable = true; append = false };
      opened_is = found_push_here bytes_eq tree.handles handle (held_by to_replace.0 file)
          ((handles_tell handle handle).1 refl) none;
      same = refl;
      open_so = (refl, refl);
    }

pub made_at : (tree : FileTree) (name : Name) (handle : List ℕ) (o : Opened) → node_at tree name ≡ None
    → node_at (with_handle (with_file tree name) handle o) name ≡ Some (node.File (length tree.files))
made_at tree [] handle o e = absurd cc
made_at tree (part ∷ parts) handle o e = found_push_here same_name tree.names (part ∷ parts)
    (node.File (length tree.files)) ((names_tell (part ∷ parts) (part ∷ parts)).1 refl) e

opens_new : (tree : FileTree) (handle : List ℕ) (name : Name) → node_at tree name ≡ None → opened_at tree handle ≡ None
    → IsOpenTo ToWrite (grant_answer (with_file tree name) handle (held_by to_replace.0 (length tree.files))).1 name
    handle []
opens_new tree handle name e none =
    record {
      file = length tree.files;
      is = made_at tree name handle (held_by to_replace.0 (length tree.files)) e;
      bytes_are = get_or_push tree.files [] [] (length tree.files) refl;
      held = record { file = length tree.files; readable = false; writable = true; append = false };
      opened_is = found_push_here bytes_eq tree.handles handle (held_by to_replace.0 (length tree.files))
          ((handles_tell handle handle).1 refl) none;
      same = refl;
      open_so = (refl, refl);
    }

pub opens_to_write : (tree : FileTree) (handle : List ℕ) (name : Name) (n : Option Node) (h : List ℕ)
    → IsWellFormed tree → node_at tree name ≡ n → opened_at tree handle ≡ None
    → (after_open tree handle to_replace.0 name n).0 ≡ reply.Handle h
    → IsOpenTo ToWrite (after_open tree handle to_replace.0 name n).1 name h []
opens_to_write tree handle name (Some node.Directory) h well_formed e none granted =
    absurd (let both : false ≡ true = ap is_handle granted in cc)
opens_to_write tree handle name (Some (node.File file)) h well_formed e none granted =
    subst (λ (w : List ℕ). IsOpenTo ToWrite (grant_answer (with_bytes tree file []) handle
    (held_by to_replace.0 file)).1 name
    w []) (ap handle_in granted) (opens_there tree handle name file well_formed e none)
opens_to_write tree handle name None h well_formed e none granted =
    let x : Answer = grant_answer (with_file tree name) handle (held_by to_replace.0 (length tree.files)) in
    let is : where_new tree name x ≡ x = new_is tree name x h granted in
    let same : handle ≡ h = ap handle_in (sym (ap (λ (w : Answer). w.0) is) ∙ granted) in
    subst (λ (w : Answer). IsOpenTo ToWrite w.1 name h []) (sym is)
    (subst (λ (w : List ℕ). IsOpenTo ToWrite x.1 name w []) same (opens_new tree handle name e none))

-- ---- to be read

pub opens_to_read : (tree : FileTree) (handle : List ℕ) (name : Name) (bytes : List ℕ) → opened_at tree handle ≡ None
    → (has : HasBytes tree name bytes)
    → IsOpenTo ToRead (grant_answer tree handle (held_by to_read.0 has.file)).1 name handle bytes
opens_to_read tree handle name bytes none has =
    record {
      file = has.file;
      is = at_found tree (with_handle tree handle (held_by to_read.0 has.file)) name refl ∙ has.is;
      bytes_are = has.bytes_are;
      held = record { file = has.file; readable = true; writable = false; append = false };
      opened_is = found_push_here bytes_eq tree.handles handle (held_by to_read.0 has.file)
          ((handles_tell handle handle).1 refl) none;
      same = refl;
      open_so = refl;
    }

pub refuses_open : (tree : FileTree) (handle : List ℕ) (name : Name) (n : Option Node) → HasNoFile n
    → (after_open tree handle to_read.0 name n).0 ≡ reply.Status (refusal_of n) [] []
refuses_open tree handle name None h = refl
refuses_open tree handle name (Some node.Directory) h = refl
refuses_open tree handle name (Some (node.File file)) h = absurd h
