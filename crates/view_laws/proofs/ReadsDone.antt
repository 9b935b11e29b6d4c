-- What an OPEN, a seek, a READ and a CLOSE on the first slot did over the file machine, once they are done.
use Rattle.std.proofs.Common.{
  ◌≡◌,
  ◌≤◌,
  ◌<◌,
  ◌+◌,
  ◌-◌,
  ℕ,
  Bool,
  true,
  false,
  List,
  [],
  ◌∷◌,
  length,
  take,
  drop,
  Option,
  Some,
  None,
  Ok,
  Err,
  if◌then◌else◌,
  refl,
  ap,
  sym,
  ◌∙◌,
  subst,
  arith,
  inl,
  inr,
}
use Rattle.std.specs.Prelude.{◌⊎◌, ◌||◌, min, nat_le}
use Rattle.std.specs.List.{list_any}
use Rattle.std.specs.Str.{bytes_eq}
use Rattle.std.specs.declared.io.traits.SeekFrom.TheVariants as position
use Rattle.std.proofs.lemmas.Bool.{eq-eqb, ne_eqb}
use Rattle.std.proofs.lemmas.Bool.Decides.{nat_tests}
use Rattle.std.proofs.lemmas.List.{length-drop, length-take, take-append-drop}
use Rattle.sftp_model.specs.Numbers.{SSH_FX_EOF, SSH_FX_OK, SSH_FXF_APPEND}
use Rattle.sftp_model.specs.OpenOptions.{flags_of}
use Rattle.sftp_model.specs.Readings.{has_bit}
use Rattle.sftp_model.specs.Slots.{fresh_site, has_grant, with_slot}
use Rattle.sftp_model.specs.declared.config.ServerConfig.{ServerConfig}
use Rattle.sftp_model.specs.declared.error.Error.TheVariants as error
use Rattle.sftp_model.specs.declared.open_options.OpenOptions.{OpenOptions}
use Rattle.sftp_model.specs.declared.outcome.Outcome.{Outcome}
use Rattle.sftp_model.specs.declared.outcome.Outcome.TheVariants as outcome
use Rattle.sftp_model.specs.declared.reply.Reply.{Reply}
use Rattle.sftp_model.specs.declared.reply.Reply.TheVariants as reply
use Rattle.sftp_model.specs.declared.request.Request.{Request}
use Rattle.sftp_model.specs.declared.request.Request.TheVariants as request
use Rattle.sftp_model.specs.declared.slot.Facts.{Facts}
use Rattle.sftp_model.specs.declared.slot.FileAt.{FileAt}
use Rattle.sftp_model.specs.declared.slot.Move.TheVariants.{Done}
use Rattle.sftp_model.specs.declared.slot.Site.{Site}
use Rattle.sftp_model.specs.declared.slot.Slot.TheVariants.{Empty, File}
use Rattle.machine_model.proofs.NameLaws.{handles_tell}
use Rattle.machine_model.proofs.LossLaws.{name_has}
use Rattle.machine_model.proofs.PairLaws.{found_push_here, has_any}
use Rattle.machine_model.specs.Components.{Name, components}
use Rattle.machine_model.specs.FileTree.{
  FileTree,
  after_loss,
  bytes_of,
  file_of,
  names_file,
  node_at,
  opened_at,
  opens_file,
  size_of,
  with_bytes,
  with_handle,
  without_handle,
}
use Rattle.machine_model.specs.HandleRequests.{
  Answer,
  after_close,
  after_open,
  after_read,
  capped_at,
  grant_answer,
  held_by,
  refusal_answer,
}
use Rattle.machine_model.specs.TreeAnswers.{apply}
use Rattle.machine_model.specs.declared.node.Node.{Node}
use Rattle.machine_model.specs.declared.node.Node.TheVariants as node
use Rattle.machine_model.specs.declared.opened.Opened.{Opened}
use Rattle.machine_model.specs.declared.opened.Opened.TheVariants as opened
use Rattle.plan_model.specs.CallPlans.{next}
use Rattle.plan_model.specs.FilePlans.{open_request, opened_move as opens}
use Rattle.plan_model.specs.Moves.{Answers, Own, done_by}
use Rattle.plan_model.specs.TransferPlans.{was_read}
use Rattle.plan_model.specs.declared.call.Call.{Call}
use Rattle.plan_model.specs.declared.call.Call.TheVariants as call
use Rattle.session_model.proofs.CallLaws.{has_place}
use Rattle.session_model.specs.Calls.{given_up}
use Rattle.session_model.specs.Grants.{is_granted}
use Rattle.run_laws.specs.Steps.{AreServed, Step, answer_to}
use Rattle.run_laws.proofs.MoveWords.{taken_is}
use Rattle.run_laws.proofs.OpenLaws.{step_opens}
use Rattle.run_laws.proofs.WriteLaws.{answers_as}
use Rattle.view_laws.specs.FileCalls.{
  FilesAt,
  OpensBy,
  OpensNode,
  OpenFilePlace,
  at_rest,
  at_start,
  bare,
  files_with_open,
}
use Rattle.view_laws.proofs.BlockReads.{handles_apart}
use Rattle.view_laws.proofs.PutTrees.{bare_node, by_names}
use Rattle.view_laws.proofs.SlotCalls.{HoldsFile, HoldsSlot, file_at, held_as, site_with}
use Rattle.view_laws.proofs.CallsDone.{HasDone, done_as, one_place, OpenAlike, open_alike, fresh_has, has_this}

module _ (len : ℕ) (config : ServerConfig) (answers : Answers) (facts : Facts) where
  -- a single request has its reply
  one_reply : (p : ℕ) (r : Request) (x : Reply) → answers p ≡ Some x → (g : ℕ) → has_place ((p, r) ∷ []) g ≡ true
      → answers g ≡ None → ⊥
  one_reply p r x came g asked none =
      (let both : Some x ≡ None = sym came ∙ (ap answers (one_place p r g asked) ∙ none) in cc)

  pub open_done : (options : OpenOptions) (path : List ℕ) (tree : FileTree) (st : Step) (site left : Site)
      (before : FilesAt) (o : Outcome)
      → before.tree ≡ bare tree → before.slot ≡ None → site ≡ fresh_site → has_bit (flags_of options).0 SSH_FXF_APPEND
      ≡ false
      → st.request ≡ open_request (flags_of options) path → AreServed config answers tree (st ∷ []) → st.choice.refuse
      ≡ SSH_FX_OK
      → next (call.OpenFile 0 options path) site facts ((st.place, st.request) ∷ []) answers ≡ Done o left
      → HasDone len answers ((st.place, st.request) ∷ []) (call.OpenFile 0 options path) site left
      (answer_to config tree st).1 before o
  open_done options path tree st site left before o tree_is none site_is plain asks served unrefused done =
      by_alike (open_alike tree st.handle (flags_of options).0 (components path) (node_at tree (components path)) refl)
    where
      ans : answer_to config tree st ≡ after_open tree st.handle (flags_of options).0 (components path)
          (node_at tree (components path))
      ans = step_opens config tree st (flags_of options) path asks unrefused

      taken : (answers st.place ≡ Some (answer_to config tree st).0)
          × (opens 0 (flags_of options) site st.place (answer_to config tree st).0 ≡ Done o left)
      taken = taken_is st.place (answers st.place) (answer_to config tree st).0
          (opens 0 (flags_of options) site st.place) o left served.1 done

      bare_is : after_open before.tree [] (flags_of options).0 (components path) (node_at before.tree (components path))
          ≡ after_open (bare tree) [] (flags_of options).0 (components path) (node_at tree (components path))
      bare_is = (λ i. after_open (tree_is i) [] (flags_of options).0 (components path)
          (node_at (tree_is i) (components path)))
          ∙ ap (after_open (bare tree) [] (flags_of options).0 (components path)) (bare_node tree (components path))

      fresh_only : (g : ℕ) → has_grant site g ≡ true → ⊥
      fresh_only g e = fresh_has g (subst (λ (y : Site). has_grant y g ≡ true) site_is e)

      by_alike : OpenAlike tree st.handle (flags_of options).0 (components path)
          (after_open tree st.handle (flags_of options).0 (components path) (node_at tree (components path)))
          (after_open (bare tree) [] (flags_of options).0 (components path) (node_at tree (components path)))
          → HasDone len answers ((st.place, st.request) ∷ []) (call.OpenFile 0 options path) site left
          (answer_to config tree st).1 before o
      by_alike (inl r) =
          let is : answer_to config tree st ≡ refusal_answer tree r.code = ans ∙ r.x_is in
          let came : answers st.place ≡ Some (reply.Status r.code [] []) = taken.0 ∙ ap (λ (a : Answer). Some a.0) is in
          done_as len answers ((st.place, st.request) ∷ []) (call.OpenFile 0 options path) site left site
          (answer_to config tree st).1 before o
          (outcome.Refused (error.SftpError r.code [] []))
          (subst (λ (a : Answer). opens 0 (flags_of options) site st.place a.0 ≡ Done o left) is taken.1)
          (record {
            mid = before;
            did = subst (λ (a : Answer). OpensBy (flags_of options).0 (components path) before a (Err r.code) before)
                (sym (bare_is ∙ r.y_is)) (refl, refl);
            handle = [];
            at = record {
              tree_is = tree_is ∙ ap (λ (a : Answer). bare a.1) (sym is);
              slot_is = subst (λ (s : Option OpenFilePlace). HoldsSlot answers (answer_to config tree st).1 site [] s)
                  (sym none) site_is;
            };
            keeps = λ g granted h. elim h [
              | inl held ↦ absurd (fresh_only g held)
              | inr asked ↦ absurd (let here = one_place st.place st.request g asked in
                  let none : false ≡ true = sym (ap is_granted came) ∙ subst (λ (k : ℕ). is_granted (answers k) ≡ true)
                  (sym here) granted in cc)
            ];
            replied = one_reply st.place st.request (reply.Status r.code [] []) came;
          })
      by_alike (inr w) =
          let is : answer_to config tree st ≡ grant_answer w.to st.handle (held_by (flags_of options).0 w.file) = ans
          ∙ w.x_is in
          let came : answers st.place ≡ Some (reply.Handle st.handle) = taken.0 ∙ ap (λ (a : Answer). Some a.0) is in
          let s : OpenFilePlace = at_start (flags_of options).0 w.file in
          let name : Name = components path in
          let held : Opened = held_by (flags_of options).0 w.file in
          let now : FileTree = with_handle w.to st.handle held in
          let free : opened_at w.to st.handle ≡ None = (λ i. opened_at (record w.to { handles = w.handles i })
          st.handle) ∙ served.0.1 in
          let mine : opened_at now st.handle ≡ Some held =
          found_push_here bytes_eq w.to.handles st.handle held ((handles_tell st.handle st.handle).1 refl) free in
          done_as len answers ((st.place, st.request) ∷ []) (call.OpenFile 0 options path) site left
          (with_slot site 0 (File (file_at st.place s))) (answer_to config tree st).1 before o outcome.Opened
          (subst (λ (a : Answer). opens 0 (flags_of options) site st.place a.0 ≡ Done o left) is taken.1)
          (subst (λ (a : Answer). HasDone len answers ((st.place, st.request) ∷ []) (call.OpenFile 0 options path) site
          (with_slot site 0 (File (file_at st.place s))) a.1 before outcome.Opened) (sym is)
          (record {
            mid = files_with_open w.to s;
            did = subst (λ (a : Answer). OpensBy (flags_of options).0 (components path) before a (Ok [])
                (files_with_open w.to s)) (sym (bare_is ∙ w.y_is)) (
                  refl,
                  subst (λ (n : Option Node). OpensNode (flags_of options).0 (bare w.to) n (files_with_open w.to s))
                      (sym (handles_apart (bare w.to) [] held name ∙ (bare_node w.to name ∙ w.named))) refl,
                );
            handle = st.handle;
            at = record {
              tree_is = refl;
              slot_is = record {
                grant = st.place;
                site_is = ap (λ (y : Site). with_slot y 0 (File (file_at st.place s))) site_is;
                came = came;
                open_is = mine ∙ (λ i. Some (opened.File (record (held_as s) { append = plain i })));
                name = name;
                named = handles_apart w.to st.handle held name ∙ w.named;
              };
            };
            keeps = λ g granted h. elim h [
              | inl gone ↦ absurd (fresh_only g gone)
              | inr asked ↦ subst (λ (y : Site). has_grant (with_slot y 0 (File (file_at st.place s))) g ≡ true)
                  (sym site_is)
                  (has_this st.place s g (one_place st.place st.request g asked))
            ];
            replied = one_reply st.place st.request (reply.Handle st.handle) came;
          }))

  -- ---- a file that stays open

  -- the slot's file, elsewhere in it, and of a tree with the same names and handles
  pub moved : (tree now : FileTree) (site : Site) (handle : List ℕ) (s : OpenFilePlace) (to : ℕ)
      (h : HoldsFile answers tree site handle s)
      → now.names ≡ tree.names → now.handles ≡ tree.handles
      → HoldsFile answers now (site_with (file_at h.grant (record s { offset = to }))) handle (record s { offset = to })
  moved tree now site handle s to h names handles = record {
    grant = h.grant;
    site_is = refl;
    came = h.came;
    open_is = (λ i. opened_at (record now { handles = handles i }) handle) ∙ h.open_is;
    name = h.name;
    named = by_names tree now h.name names ∙ h.named;
  }

  -- where the slot's file is elsewhere the lane holds its grant, and what was asked has none
  pub grant_stays : (c : Call) (own : Own) (site : Site) (grant to : ℕ) (s : OpenFilePlace) → given_up c own site ≡ site
      → site ≡ site_with (file_at grant s)
      → ((g : ℕ) → has_place own g ≡ true → is_granted (answers g) ≡ true → ⊥) → (g : ℕ) → is_granted (answers g) ≡ true
      → (has_grant (given_up c own site) g ≡ true) ⊎ (has_place own g ≡ true)
      → has_grant (site_with (file_at grant (record s { offset = to }))) g ≡ true
  grant_stays c own site grant to s same site_is none g granted (inl held) =
      subst (λ (y : Site). has_grant y g ≡ true) (same ∙ site_is) held
  grant_stays c own site grant to s same site_is none g granted (inr asked) = absurd (none g asked granted)

  pub seek_done : (n : ℕ) (tree t : FileTree) (site left : Site) (handle : List ℕ) (s : OpenFilePlace) (o : Outcome) → t
      ≡ bare tree
      → HoldsFile answers tree site handle s → next (call.Seek 0 (position.Start n)) site facts [] answers ≡ Done o left
      → HasDone len answers [] (call.Seek 0 (position.Start n)) site left tree (record { tree = t; slot = Some s }) o
  seek_done n tree t site left handle s o tree_is h done =
      done_as len answers [] (call.Seek 0 (position.Start n)) site left
      (site_with (file_at h.grant (record s { offset = n }))) tree
      (record { tree = t; slot = Some s }) o (outcome.Count n)
      (subst (λ (y : Site). next (call.Seek 0 (position.Start n)) y facts [] answers ≡ Done o left) h.site_is done)
      (record {
        mid = files_with_open t (record s { offset = n });
        did = refl;
        handle = handle;
        at = record { tree_is = ap bare tree_is; slot_is = moved tree tree site handle s n h refl refl };
        keeps = grant_stays (call.Seek 0 (position.Start n)) [] site h.grant n s refl h.site_is
            (λ g asked granted. let both : false ≡ true = asked in cc);
        replied = λ g asked none. let both : false ≡ true = asked in cc;
      })

  -- ---- READ

  capped_some : (cap k : ℕ) → 0 < k → 1 ≤ capped_at cap k
  capped_some cap k some = grind (arith, nat_tests)

  capped_most : (cap k : ℕ) → capped_at cap k ≤ k
  capped_most cap k = grind (arith, nat_tests)

  pub read_done : (n : ℕ) (tree t : FileTree) (st : Step) (site left : Site) (handle : List ℕ) (s : OpenFilePlace)
      (o : Outcome) → t ≡ bare tree
      → HoldsFile answers tree site handle s → s.readable ≡ true → 1 ≤ n → 1 ≤ facts.read_len
      → st.request ≡ request.Read handle s.offset (min n facts.read_len) → AreServed config answers tree (st ∷ [])
      → st.choice.refuse ≡ SSH_FX_OK
      → next (call.Read 0 n) site facts ((st.place, st.request) ∷ []) answers ≡ Done o left
      → HasDone len answers ((st.place, st.request) ∷ []) (call.Read 0 n) site left (answer_to config tree st).1
      (record { tree = t; slot = Some s }) o
  read_done n tree t st site left handle s o tree_is h way some reads asks served unrefused done =
      by_test (nat_le (size_of tree s.file) s.offset) refl
    where
      k : ℕ
      k = min n facts.read_len

      at_least : 1 ≤ min n facts.read_len
      at_least = omega (arith, some, reads)

      file : FileAt
      file = file_at h.grant s

      part : List ℕ
      part = take (capped_at st.choice.cap (min n facts.read_len)) (drop s.offset (bytes_of tree s.file))

      ans : answer_to config tree st ≡ (if nat_le (size_of tree s.file) s.offset then
          refusal_answer tree SSH_FX_EOF else (
            reply.Content (take (capped_at st.choice.cap (min n facts.read_len))
                (drop s.offset (bytes_of tree s.file))),
            tree,
          ))
      ans =
          ap (λ (w : Request). apply tree config w st.choice st.handle) asks
          ∙ (answers_as tree config (request.Read handle s.offset (min n facts.read_len)) st.choice st.handle unrefused
          ∙ (ap (λ (x : Option Opened). after_read tree st.choice.cap s.offset (min n facts.read_len) (file_of x))
          h.open_is
          ∙ rw (way, ne_eqb (min n facts.read_len) 0 (λ none. (let x = at_least in omega (arith, none, x)))) refl))

      taken : (answers st.place ≡ Some (answer_to config tree st).0)
          × (was_read 0 (file_at h.grant s) (site_with (file_at h.grant s)) (answer_to config tree st).0 ≡ Done o left)
      taken = taken_is st.place (answers st.place) (answer_to config tree st).0
          (was_read 0 (file_at h.grant s) (site_with (file_at h.grant s))) o left served.1
          (subst (λ (y : Site). next (call.Read 0 n) y facts ((st.place, st.request) ∷ []) answers ≡ Done o left)
          h.site_is done)

      no_grant : (x : Reply) → answers st.place ≡ Some x → is_granted (Some x) ≡ false → (g : ℕ)
          → has_place ((st.place, st.request) ∷ []) g ≡ true
          → is_granted (answers g) ≡ true → ⊥
      no_grant x came none g asked granted =
          let here = one_place st.place st.request g asked in
          let both : false ≡ true = sym (ap is_granted came ∙ none)
          ∙ subst (λ (j : ℕ). is_granted (answers j) ≡ true) (sym here) granted in cc

      by_test : (b : Bool) → nat_le (size_of tree s.file) s.offset ≡ b
          → HasDone len answers ((st.place, st.request) ∷ []) (call.Read 0 n) site left (answer_to config tree st).1
          (record { tree = t; slot = Some s }) o
      by_test true e =
          let is : answer_to config tree st ≡ refusal_answer tree SSH_FX_EOF = ans ∙ rw e refl in
          let came : answers st.place ≡ Some (reply.Status SSH_FX_EOF [] []) = taken.0
          ∙ ap (λ (a : Answer). Some a.0) is in
          done_as len answers ((st.place, st.request) ∷ []) (call.Read 0 n) site left (site_with (file_at h.grant s))
          (answer_to config tree st).1
          (record { tree = t; slot = Some s }) o outcome.End
          (subst (λ (a : Answer). was_read 0 (file_at h.grant s) (site_with (file_at h.grant s)) a.0 ≡ Done o left) is
          taken.1)
          (subst (λ (a : Answer). HasDone len answers ((st.place, st.request) ∷ []) (call.Read 0 n) site
          (site_with (file_at h.grant s)) a.1 (record { tree = t; slot = Some s }) outcome.End) (sym is)
          (record {
            mid = files_with_open t s;
            did = inl (record {
              behind = (let le : size_of tree s.file ≤ s.offset = grind (arith, nat_tests) in
                  let same : size_of t s.file ≡ size_of tree s.file = ap (λ (x : FileTree). size_of x s.file) tree_is in
                  omega (arith, le, same));
              found_is = refl;
              now_is = refl;
            });
            handle = handle;
            at = record { tree_is = ap bare tree_is; slot_is = moved tree tree site handle s s.offset h refl refl };
            keeps = grant_stays (call.Read 0 n) ((st.place, st.request) ∷ []) site h.grant s.offset s refl h.site_is
                (no_grant (reply.Status SSH_FX_EOF [] []) came refl);
            replied = one_reply st.place st.request (reply.Status SSH_FX_EOF [] []) came;
          }))
      by_test false e =
          let bytes : List ℕ = take (capped_at st.choice.cap (min n facts.read_len))
          (drop s.offset (bytes_of tree s.file)) in
          let is : answer_to config tree st ≡ (let a : Answer = (reply.Content bytes, tree) in a) = ans ∙ rw e refl in
          let came : answers st.place ≡ Some (reply.Content bytes) = taken.0 ∙ ap (λ (a : Answer). Some a.0) is in
          let to : ℕ = s.offset + length bytes in
          done_as len answers ((st.place, st.request) ∷ []) (call.Read 0 n) site left
          (site_with (file_at h.grant (record s { offset = to }))) (answer_to config tree st).1
          (record { tree = t; slot = Some s }) o (outcome.Bytes bytes)
          (subst (λ (a : Answer). was_read 0 (file_at h.grant s) (site_with (file_at h.grant s)) a.0 ≡ Done o left) is
          taken.1)
          (subst (λ (a : Answer). HasDone len answers ((st.place, st.request) ∷ []) (call.Read 0 n) site
          (site_with (file_at h.grant (record s { offset = to }))) a.1 (record { tree = t; slot = Some s })
          (outcome.Bytes bytes)) (sym is)
          (record {
            mid = files_with_open t (record s { offset = to });
            did = inr (record {
              bytes = bytes;
              rest = drop (capped_at st.choice.cap (min n facts.read_len)) (drop s.offset (bytes_of tree s.file));
              some = (let lt : s.offset < size_of tree s.file = grind (arith, nat_tests) in
                  let one = at_least in
                  let c = capped_some st.choice.cap (min n facts.read_len) (omega (arith, one)) in
                  let a : length bytes ≡ min (capped_at st.choice.cap (min n facts.read_len))
                  (length (drop s.offset (bytes_of tree s.file))) =
                  length-take (capped_at st.choice.cap (min n facts.read_len)) (drop s.offset (bytes_of tree s.file)) in
                  let b : length (drop s.offset (bytes_of tree s.file)) ≡ length (bytes_of tree s.file) - s.offset =
                  length-drop s.offset (bytes_of tree s.file) in
                  let size : size_of tree s.file ≡ length (bytes_of tree s.file) = refl in
                  omega (arith, lt, c, a, b, size));
              most = (let c = capped_most st.choice.cap (min n facts.read_len) in
                  let a : length bytes ≡ min (capped_at st.choice.cap (min n facts.read_len))
                  (length (drop s.offset (bytes_of tree s.file))) =
                  length-take (capped_at st.choice.cap (min n facts.read_len)) (drop s.offset (bytes_of tree s.file)) in
                  omega (arith, c, a));
              are = (λ i. drop s.offset (bytes_of (tree_is i) s.file))
                  ∙ sym (take-append-drop (capped_at st.choice.cap (min n facts.read_len))
                  (drop s.offset (bytes_of tree s.file)));
              found_is = refl;
              now_is = refl;
            });
            handle = handle;
            at = record { tree_is = ap bare tree_is; slot_is = moved tree tree site handle s to h refl refl };
            keeps = grant_stays (call.Read 0 n) ((st.place, st.request) ∷ []) site h.grant to s refl h.site_is
                (no_grant (reply.Content bytes) came refl);
            replied = one_reply st.place st.request (reply.Content bytes) came;
          }))

  -- ---- CLOSE

  still_named : (tree : FileTree) (handle : List ℕ) (name : Name) (file : ℕ) → node_at tree name ≡ Some (node.File file)
      → bare (after_loss (without_handle tree handle) file) ≡ bare tree
  still_named tree handle name file is =
      let living : list_any (λ (pair : Name × Node). names_file file pair.1) tree.names ≡ true =
      has_any (names_file file) tree.names name (node.File file) (name_has tree name file is) (eq-eqb file file refl) in
      ap (λ (b : Bool). bare (if b || list_any (λ (pair : List ℕ × Opened). opens_file file pair.1)
      (without_handle tree handle).handles then
      without_handle tree handle else with_bytes (without_handle tree handle) file [])) living

  pub close_done : (tree t : FileTree) (st : Step) (site left : Site) (handle : List ℕ) (s : OpenFilePlace)
      (o : Outcome) → t ≡ bare tree
      → HoldsFile answers tree site handle s → st.request ≡ request.Close handle
      → AreServed config answers tree (st ∷ []) → st.choice.refuse ≡ SSH_FX_OK
      → next (call.Close 0) site facts ((st.place, st.request) ∷ []) answers ≡ Done o left
      → HasDone len answers ((st.place, st.request) ∷ []) (call.Close 0) site left (answer_to config tree st).1
      (record { tree = t; slot = Some s }) o
  close_done tree t st site left handle s o tree_is h asks served unrefused done =
      let gone : FileTree = after_loss (without_handle tree handle) s.file in
      let ans : answer_to config tree st ≡ (let a : Answer = (reply.Status SSH_FX_OK [] [], gone) in a) =
      ap (λ (w : Request). apply tree config w st.choice st.handle) asks
      ∙ (answers_as tree config (request.Close handle) st.choice st.handle unrefused
      ∙ ap (after_close tree handle) h.open_is) in
      let taken = taken_is st.place (answers st.place) (answer_to config tree st).0 (done_by fresh_site) o left served.1
      (subst (λ (y : Site). next (call.Close 0) y facts ((st.place, st.request) ∷ []) answers ≡ Done o left) h.site_is
      done) in
      let came : answers st.place ≡ Some (reply.Status SSH_FX_OK [] []) = taken.0 ∙ ap (λ (a : Answer). Some a.0) ans in
      done_as len answers ((st.place, st.request) ∷ []) (call.Close 0) site left fresh_site (answer_to config tree st).1
      (record { tree = t; slot = Some s }) o outcome.Done
      (subst (λ (a : Answer). done_by fresh_site a.0 ≡ Done o left) ans taken.1)
      (subst (λ (a : Answer). HasDone len answers ((st.place, st.request) ∷ []) (call.Close 0) site fresh_site a.1
      (record { tree = t; slot = Some s }) outcome.Done) (sym ans)
      (record {
        mid = at_rest t;
        did = refl;
        handle = [];
        at = record { tree_is = ap bare tree_is ∙ sym (still_named tree handle h.name s.file h.named); slot_is = refl };
        keeps = λ g granted x. elim x [
          | inl held ↦ absurd (fresh_has g (subst (λ (y : Site). has_grant (with_slot y 0 Empty) g ≡ true) h.site_is
              held))
          | inr asked ↦ absurd (let here = one_place st.place st.request g asked in
              let both : false ≡ true = sym (ap is_granted came) ∙ subst (λ (j : ℕ). is_granted (answers j) ≡ true)
              (sym here) granted in cc)
        ];
        replied = one_reply st.place st.request (reply.Status SSH_FX_OK [] []) came;
      }))
