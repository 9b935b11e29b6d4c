-- Each call on the first slot did what the files say, once it is done.
use Rattle.std.proofs.Common.{◌≡◌, ◌≤◌, ◌==◌, ◌+◌, ◌^◌, ℕ, true, false, List, [], ◌∷◌, length, Option, Some, None, refl, ap, sym, ◌∙◌, subst, arith}
use Rattle.std.specs.Prelude.{min}
use Rattle.std.proofs.lemmas.Bool.{ne_eqb}
use Rattle.std.specs.declared.io.traits.SeekFrom.TheVariants as position
use Rattle.sftp_model.specs.OpenOptions.{flags_of}
use Rattle.sftp_model.specs.Slots.{has_grant}
use Rattle.sftp_model.specs.declared.config.ServerConfig.{ServerConfig}
use Rattle.sftp_model.specs.declared.open_options.OpenOptions.{OpenOptions}
use Rattle.sftp_model.specs.declared.outcome.Outcome.{Outcome}
use Rattle.sftp_model.specs.declared.request.Request.TheVariants as request
use Rattle.sftp_model.specs.declared.slot.Facts.{Facts}
use Rattle.sftp_model.specs.declared.slot.Move.TheVariants.{Done}
use Rattle.sftp_model.specs.declared.slot.Site.{Site}
use Rattle.machine_model.specs.FileTree.{FileTree}
use Rattle.plan_model.specs.CallPlans.{next}
use Rattle.plan_model.specs.FilePlans.{open_request}
use Rattle.plan_model.specs.Moves.{Answers}
use Rattle.plan_model.specs.TransferPlans.{read_first}
use Rattle.plan_model.specs.declared.call.Call.{Call}
use Rattle.plan_model.specs.declared.call.Call.TheVariants as call
use Rattle.run_laws.specs.Steps.{AreServed, ChooseOnly, RefusesNone, Step, after, asked_in}
use Rattle.run_laws.proofs.MoveWords.{is_done}
use Rattle.view_model.specs.Plain.{pieces, put_pieces}
use Rattle.view_laws.specs.FileCalls.{FilesAt, MayCall, MayRead, MayWrite, OpenFilePlace, IsStanding, bare, found_by, files_with_open}
use Rattle.view_laws.proofs.CallsDone.{HasDone}
use Rattle.view_laws.proofs.ReadsDone.{close_done, grant_stays, moved, open_done, read_done, seek_done}
use Rattle.view_laws.proofs.SlotCalls.{AsksSo, HoldsSlot, IsAt, IsOne, file_at, offset_in, site_with}
use Rattle.view_laws.proofs.WritesDone.{not_over, writes_done}

ne_zero : (n : ℕ) → 1 ≤ n → (n == 0) ≡ false
ne_zero n some = ne_eqb n 0 (λ z. omega (arith, z, some))

module _ (config : ServerConfig) (answers : Answers) (facts : Facts) (handle : List ℕ) (reads : 1 ≤ facts.read_len)
    (writes : 1 ≤ facts.write_len) where
  -- by its requests, each of which the machine answered
  abbrev EndsSo : Call → FileTree → List Step → Site → Site → FilesAt → Outcome → Type 0
  EndsSo c tree steps site left at o =
      HasDone facts.write_len answers (asked_in steps) c site left (after config tree steps) at o

  open_ends : (options : OpenOptions) (path : List ℕ) (tree : FileTree) (steps : List Step) (site left : Site)
      (at : FilesAt) (o : Outcome)
      → IsAt answers tree site handle at → MayCall at (call.OpenFile 0 options path)
      → IsOne (open_request (flags_of options) path) (asked_in steps)
      → AreServed config answers tree steps → ChooseOnly RefusesNone steps
      → next (call.OpenFile 0 options path) site facts (asked_in steps) answers ≡ Done o left
      → EndsSo (call.OpenFile 0 options path) tree steps site left at o
  open_ends options path tree [] site left at o is may asked served chosen done =
      absurd (let asks : false ≡ true = ap is_done (rw may.3 at done) in cc)
  open_ends options path tree (st ∷ []) site left at o is may asked served chosen done =
      open_done facts.write_len config answers facts options path tree st site left at o is.tree_is may.1
      (subst (λ (s : Option OpenFilePlace). HoldsSlot answers tree site handle s) may.1 is.slot_is) may.2 asked served
      chosen.0 done
  open_ends options path tree (st ∷ st2 ∷ steps) site left at o is may asked served chosen done = absurd asked

  read_ends : (n : ℕ) (tree t : FileTree) (slot : Option OpenFilePlace) (steps : List Step) (site left : Site)
      (o : Outcome)
      → t ≡ bare tree → HoldsSlot answers tree site handle slot → MayRead slot n
      → IsOne (request.Read handle (offset_in slot) (min n facts.read_len)) (asked_in steps)
      → AreServed config answers tree steps → ChooseOnly RefusesNone steps
      → next (call.Read 0 n) site facts (asked_in steps) answers ≡ Done o left
      → EndsSo (call.Read 0 n) tree steps site left (record { tree = t; slot = slot }) o
  read_ends n tree t None steps site left o tree_is holds may asked served chosen done = absurd may
  read_ends n tree t (Some s) [] site left o tree_is holds may asked served chosen done =
      absurd (unread (subst (λ (y : Site). next (call.Read 0 n) y facts [] answers ≡ Done o left) holds.site_is done))
    where
      unread : read_first (file_at holds.grant s) n (site_with (file_at holds.grant s)) facts answers ≡ Done o left → ⊥
      unread e =
          let some = may.1 in
          let far = may.2 in
          let fits = not_over (2 ^ 64) (s.offset + min n facts.read_len) (omega (arith, far)) in
          let asks : false ≡ true = ap is_done (rw (ne_zero n some, may.0, fits) at e) in cc
  read_ends n tree t (Some s) (st ∷ []) site left o tree_is holds may asked served chosen done =
      read_done facts.write_len config answers facts n tree t st site left handle s o tree_is holds may.0 may.1 reads
      asked served chosen.0 done
  read_ends n tree t (Some s) (st ∷ st2 ∷ steps) site left o tree_is holds may asked served chosen done = absurd asked

  close_ends : (tree t : FileTree) (slot : Option OpenFilePlace) (steps : List Step) (site left : Site) (o : Outcome)
      → t ≡ bare tree → HoldsSlot answers tree site handle slot → IsStanding slot
      → IsOne (request.Close handle) (asked_in steps)
      → AreServed config answers tree steps → ChooseOnly RefusesNone steps
      → next (call.Close 0) site facts (asked_in steps) answers ≡ Done o left
      → EndsSo (call.Close 0) tree steps site left (record { tree = t; slot = slot }) o
  close_ends tree t None steps site left o tree_is holds may asked served chosen done = absurd may
  close_ends tree t (Some s) [] site left o tree_is holds may asked served chosen done =
      absurd (let asks : false ≡ true = ap is_done (subst (λ (y : Site). next (call.Close 0) y facts [] answers
      ≡ Done o left) holds.site_is done) in cc)
  close_ends tree t (Some s) (st ∷ []) site left o tree_is holds may asked served chosen done =
      close_done facts.write_len config answers facts tree t st site left handle s o tree_is holds asked served chosen.0
      done
  close_ends tree t (Some s) (st ∷ st2 ∷ steps) site left o tree_is holds may asked served chosen done = absurd asked

  write_ends : (bytes : List ℕ) (tree t : FileTree) (slot : Option OpenFilePlace) (steps : List Step) (site left : Site)
      (o : Outcome)
      → t ≡ bare tree → HoldsSlot answers tree site handle slot → MayWrite slot bytes
      → AsksSo facts answers (call.WriteAll 0 bytes) handle (offset_in slot) (asked_in steps)
      → AreServed config answers tree steps → ChooseOnly RefusesNone steps
      → next (call.WriteAll 0 bytes) site facts (asked_in steps) answers ≡ Done o left
      → EndsSo (call.WriteAll 0 bytes) tree steps site left (record { tree = t; slot = slot }) o
  write_ends bytes tree t None steps site left o tree_is holds may asked served chosen done = absurd may
  write_ends bytes tree t (Some s) steps site left o tree_is holds may asked served chosen done =
      let w = writes_done config answers facts handle holds.grant writes steps (length bytes) bytes tree s left o
      (omega arith) may.0 may.1 holds.open_is
      served chosen asked (subst (λ (y : Site). next (call.WriteAll 0 bytes) y facts (asked_in steps) answers
      ≡ Done o left) holds.site_is done) in
      let now : FileTree = after config tree steps in
      record {
        mid = files_with_open (put_pieces t s.file s.offset (pieces (length bytes) facts.write_len bytes)).1
            (record s { offset = w.to });
        did = record {
          to = w.to;
          found_is = w.found ∙ (λ i. found_by (put_pieces (sym tree_is i) s.file s.offset
              (pieces (length bytes) facts.write_len bytes)).0);
          now_is = refl;
        };
        handle = handle;
        at = record {
          tree_is = (λ i. bare (put_pieces (tree_is i) s.file s.offset (pieces (length bytes) facts.write_len bytes)).1)
              ∙ ap bare (sym w.tree_is);
          slot_is = subst (λ (y : Site). HoldsSlot answers now y handle (Some (record s { offset = w.to })))
              (sym w.left_is)
              (moved facts.write_len config answers facts tree now site handle s w.to holds w.names w.handles);
        };
        keeps = λ g granted x. subst (λ (y : Site). has_grant y g ≡ true) (sym w.left_is)
            (grant_stays facts.write_len config answers facts (call.WriteAll 0 bytes) (asked_in steps) site holds.grant
            w.to s refl holds.site_is w.ungranted g granted x);
        replied = w.replied;
      }

  -- any call that may be made
  pub call_ends : (c : Call) (tree : FileTree) (steps : List Step) (site left : Site) (at : FilesAt) (o : Outcome)
      → IsAt answers tree site handle at → MayCall at c → AsksSo facts answers c handle (offset_in at.slot)
      (asked_in steps)
      → AreServed config answers tree steps → ChooseOnly RefusesNone steps → next c site facts (asked_in steps) answers
      ≡ Done o left
      → EndsSo c tree steps site left at o
  call_ends (call.OpenFile slot options path) tree steps site left at o is may asked served chosen done =
      subst (λ (k : ℕ). EndsSo (call.OpenFile k options path) tree steps site left at o) (sym may.0)
      (open_ends options path tree steps site left at o is (refl, may.1, may.2, may.3) asked served chosen
      (subst (λ (k : ℕ). next (call.OpenFile k options path) site facts (asked_in steps) answers ≡ Done o left) may.0
      done))
  call_ends (call.Seek slot (position.Start n)) tree steps site left at o is may asked served chosen done =
      subst (λ (k : ℕ). EndsSo (call.Seek k (position.Start n)) tree steps site left at o) (sym may.0)
      (by_slot at.slot may.1 is.slot_is steps asked (subst (λ (k : ℕ). next (call.Seek k (position.Start n)) site facts
      (asked_in steps) answers ≡ Done o left) may.0 done))
    where
      by_slot : (slot : Option OpenFilePlace) → IsStanding slot → HoldsSlot answers tree site handle slot
          → (steps : List Step) → asked_in steps ≡ []
          → next (call.Seek 0 (position.Start n)) site facts (asked_in steps) answers ≡ Done o left
          → EndsSo (call.Seek 0 (position.Start n)) tree steps site left (record { tree = at.tree; slot = slot }) o
      by_slot None may holds steps none done = absurd may
      by_slot (Some s) may holds [] none done =
          seek_done facts.write_len config answers facts n tree at.tree site left handle s o is.tree_is holds done
      by_slot (Some s) may holds (st ∷ steps) none done = absurd cc
  call_ends (call.Seek slot (position.End n)) tree steps site left at o is may asked served chosen done = absurd may
  call_ends (call.Seek slot (position.Current n)) tree steps site left at o is may asked served chosen done = absurd may
  call_ends (call.Read slot n) tree steps site left at o is may asked served chosen done =
      subst (λ (k : ℕ). EndsSo (call.Read k n) tree steps site left at o) (sym may.0)
      (read_ends n tree at.tree at.slot steps site left o is.tree_is is.slot_is may.1 asked served chosen
      (subst (λ (k : ℕ). next (call.Read k n) site facts (asked_in steps) answers ≡ Done o left) may.0 done))
  call_ends (call.WriteAll slot bytes) tree steps site left at o is may asked served chosen done =
      subst (λ (k : ℕ). EndsSo (call.WriteAll k bytes) tree steps site left at o) (sym may.0)
      (write_ends bytes tree at.tree at.slot steps site left o is.tree_is is.slot_is may.1 asked served chosen
      (subst (λ (k : ℕ). next (call.WriteAll k bytes) site facts (asked_in steps) answers ≡ Done o left) may.0 done))
  call_ends (call.Close slot) tree steps site left at o is may asked served chosen done =
      subst (λ (k : ℕ). EndsSo (call.Close k) tree steps site left at o) (sym may.0)
      (close_ends tree at.tree at.slot steps site left o is.tree_is is.slot_is may.1 asked served chosen
      (subst (λ (k : ℕ). next (call.Close k) site facts (asked_in steps) answers ≡ Done o left) may.0 done))
  call_ends other tree steps site left at o is may asked served chosen done = absurd may
