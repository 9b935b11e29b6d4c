-- What a `write_all` on the first slot did over the file machine, once it is done: its parts were written one after
-- another, up to the first that a limit refuses.
use Rattle.std.proofs.Common.{
  ◌≡◌,
  ◌≤◌,
  ◌<◌,
  ◌==◌,
  ◌+◌,
  ◌^◌,
  ℕ,
  zero,
  suc,
  Bool,
  true,
  false,
  List,
  [],
  ◌∷◌,
  length,
  take,
  drop,
  Option,
  Some,
  None,
  if◌then◌else◌,
  refl,
  ap,
  sym,
  ◌∙◌,
  subst,
  arith,
  inl,
  inr,
}
use Rattle.std.specs.Prelude.{max, min, nat_le}
use Rattle.std.proofs.lemmas.Bool.Decides.{eqb_tells, nat_tests}
use Rattle.std.proofs.lemmas.List.{drop_min, length-drop, length-take-le, nil_from_length, take_min}
use Rattle.sftp_model.specs.Numbers.{SSH_FX_FAILURE, SSH_FX_OK}
use Rattle.sftp_model.specs.declared.config.ServerConfig.{ServerConfig}
use Rattle.sftp_model.specs.declared.error.Error.TheVariants as error
use Rattle.sftp_model.specs.declared.outcome.Outcome.{Outcome}
use Rattle.sftp_model.specs.declared.outcome.Outcome.TheVariants as outcome
use Rattle.sftp_model.specs.declared.reply.Reply.{Reply}
use Rattle.sftp_model.specs.declared.reply.Reply.TheVariants as reply
use Rattle.sftp_model.specs.declared.request.Request.{Request}
use Rattle.sftp_model.specs.declared.request.Request.TheVariants as request
use Rattle.sftp_model.specs.declared.slot.Facts.{Facts}
use Rattle.sftp_model.specs.declared.slot.Move.{Move}
use Rattle.sftp_model.specs.declared.slot.Move.TheVariants.{Done}
use Rattle.sftp_model.specs.declared.slot.Site.{Site}
use Rattle.machine_model.specs.FileTree.{FileTree, bytes_of, file_of, is_over, opened_at, written_at, size_of, with_bytes}
use Rattle.machine_model.specs.HandleRequests.{Answer, after_write, ok_answer, refusal_answer, answer_to_write}
use Rattle.machine_model.specs.TreeAnswers.{apply}
use Rattle.machine_model.specs.declared.opened.Opened.{Opened}
use Rattle.machine_model.specs.declared.opened.Opened.TheVariants as opened
use Rattle.plan_model.specs.Moves.{Answers, Own, ask_write, on_status, overflows}
use Rattle.plan_model.specs.TransferPlans.{in_slot, next_part, part_len, rest_next}
use Rattle.session_model.proofs.CallLaws.{has_place}
use Rattle.session_model.specs.Grants.{is_granted}
use Rattle.run_laws.specs.Steps.{AreServed, ChooseOnly, RefusesNone, Step, after, answer_to, asked_in}
use Rattle.run_laws.proofs.MoveWords.{is_done, outcome_of, site_of, taken_is}
use Rattle.run_laws.proofs.WriteLaws.{answers_as}
use Rattle.view_model.specs.Plain.{Given, pieces, put_pieces}
use Rattle.view_model.specs.Viewed.{found_in}
use Rattle.view_model.specs.declared.answer.Answer.TheVariants as answer
use Rattle.view_laws.specs.FileCalls.{OpenFilePlace, bare, found_by}
use Rattle.view_laws.proofs.SlotCalls.{AfterOk, AreWrites, file_at, held_as, site_with}

no_pieces : (most len : ℕ) → pieces most len [] ≡ []
no_pieces zero len = refl
no_pieces (suc most) len = refl

pub not_over : (m n : ℕ) → n < m → nat_le m n ≡ false
not_over m n lt = grind (arith, nat_tests)

module _ (config : ServerConfig) (answers : Answers) (facts : Facts) (handle : List ℕ) (grant : ℕ)
    (some : 1 ≤ facts.write_len) where
  -- what the parts leave, and how the call ended
  pub record WritesDone (own : Own) (s : OpenFilePlace) (most : ℕ) (bytes : List ℕ) (tree now : FileTree) (left : Site)
      (o : Outcome) : Type 0 where
    pub to : ℕ
    pub left_is : left ≡ site_with (file_at grant (record s { offset = to }))
    pub found : found_in o ≡ found_by (put_pieces (bare tree) s.file s.offset (pieces most facts.write_len bytes)).0
    pub tree_is : bare now ≡ (put_pieces (bare tree) s.file s.offset (pieces most facts.write_len bytes)).1
    pub names : now.names ≡ tree.names
    pub handles : now.handles ≡ tree.handles
    pub ungranted : (g : ℕ) → has_place own g ≡ true → is_granted (answers g) ≡ true → ⊥
    pub replied : (g : ℕ) → has_place own g ≡ true → answers g ≡ None → ⊥

  part_short : (bytes : List ℕ) → part_len facts bytes ≤ length bytes
  part_short bytes = let x : part_len facts bytes ≡ min (length bytes) facts.write_len = refl in omega (arith, x)

  piece_is : (bytes : List ℕ) → take facts.write_len bytes ≡ next_part facts bytes
  piece_is bytes = let turned : min facts.write_len (length bytes) ≡ part_len facts bytes = omega arith in
      sym (take_min facts.write_len bytes) ∙ ap (λ (k : ℕ). take k bytes) turned

  rest_is : (bytes : List ℕ) → drop facts.write_len bytes ≡ drop (part_len facts bytes) bytes
  rest_is bytes = let turned : min facts.write_len (length bytes) ≡ part_len facts bytes = omega arith in
      sym (drop_min facts.write_len bytes) ∙ ap (λ (k : ℕ). drop k bytes) turned

  pieces_are : (most : ℕ) (bytes : List ℕ) → length bytes == 0 ≡ false
      → pieces (suc most) facts.write_len bytes ≡ next_part facts bytes ∷ pieces most facts.write_len
      (drop (part_len facts bytes) bytes)
  pieces_are most [] any = absurd cc
  pieces_are most (b ∷ bytes) any = λ i. piece_is (b ∷ bytes) i ∷ pieces most facts.write_len (rest_is (b ∷ bytes) i)

  abbrev written_by : FileTree → OpenFilePlace → List ℕ → FileTree
  written_by tree s bytes = with_bytes tree s.file (written_at (bytes_of tree s.file) s.offset (next_part facts bytes))

  -- one part, and then the others
  next_pieces : (most : ℕ) (bytes : List ℕ) (tree : FileTree) (s : OpenFilePlace) → length bytes == 0 ≡ false
      → is_over tree s.file (max (size_of tree s.file) (s.offset + length (next_part facts bytes))) ≡ false
      → put_pieces (bare tree) s.file s.offset (pieces (suc most) facts.write_len bytes)
      ≡ put_pieces (bare (written_by tree s bytes)) s.file (s.offset + part_len facts bytes)
      (pieces most facts.write_len (drop (part_len facts bytes) bytes))
  next_pieces most bytes tree s any fits =
      let len_is : length (next_part facts bytes) ≡ part_len facts bytes =
      length-take-le (part_len facts bytes) bytes (part_short bytes) in
      ap (put_pieces (bare tree) s.file s.offset) (pieces_are most bytes any)
      ∙ (ap (λ (b : Bool). (let g : Given = if b then (answer.Refused SSH_FX_FAILURE, bare tree) else
      put_pieces (bare (written_by tree s bytes)) s.file (s.offset + length (next_part facts bytes))
      (pieces most facts.write_len (drop (part_len facts bytes) bytes)) in g)) fits
      ∙ ap (λ (k : ℕ). put_pieces (bare (written_by tree s bytes)) s.file (s.offset + k)
      (pieces most facts.write_len (drop (part_len facts bytes) bytes))) len_is)

  refused_pieces : (most : ℕ) (bytes : List ℕ) (tree : FileTree) (s : OpenFilePlace) → length bytes == 0 ≡ false
      → is_over tree s.file (max (size_of tree s.file) (s.offset + length (next_part facts bytes))) ≡ true
      → put_pieces (bare tree) s.file s.offset (pieces (suc most) facts.write_len bytes)
      ≡ (let g : Given = (answer.Refused SSH_FX_FAILURE, bare tree) in g)
  refused_pieces most bytes tree s any over =
      ap (put_pieces (bare tree) s.file s.offset) (pieces_are most bytes any)
      ∙ ap (λ (b : Bool). (let g : Given = if b then (answer.Refused SSH_FX_FAILURE, bare tree) else
      put_pieces (bare (written_by tree s bytes)) s.file (s.offset + length (next_part facts bytes))
      (pieces most facts.write_len (drop (part_len facts bytes) bytes)) in g)) over

  -- what a WRITE of the next part answers
  part_written : (tree : FileTree) (st : Step) (s : OpenFilePlace) (bytes : List ℕ) → s.writable ≡ true
      → opened_at tree handle ≡ Some (opened.File (held_as s))
      → st.request ≡ request.Write handle s.offset (next_part facts bytes) → st.choice.refuse ≡ SSH_FX_OK
      → answer_to config tree st ≡ answer_to_write tree s.file s.offset (next_part facts bytes)
  part_written tree st s bytes way open_is asks unrefused =
      ap (λ (w : Request). apply tree config w st.choice st.handle) asks
      ∙ (answers_as tree config (request.Write handle s.offset (next_part facts bytes)) st.choice st.handle unrefused
      ∙ (ap (λ (x : Option Opened). after_write tree s.offset (next_part facts bytes) (file_of x)) open_is
      ∙ rw way refl))

  abbrev Writing : List Step → Type 0
  Writing steps = (most : ℕ) (bytes : List ℕ) (tree : FileTree) (s : OpenFilePlace) (left : Site) (o : Outcome)
      → length bytes ≤ most → s.writable ≡ true
      → s.offset + length bytes < 2 ^ 64 → opened_at tree handle ≡ Some (opened.File (held_as s))
      → AreServed config answers tree steps
      → ChooseOnly RefusesNone steps → AreWrites facts answers handle s.offset bytes (asked_in steps)
      → rest_next (in_slot 0) (file_at grant s) bytes (site_with (file_at grant s)) facts (asked_in steps) answers
      ≡ Done o left
      → WritesDone (asked_in steps) s most bytes tree (after config tree steps) left o

  -- nothing more is asked
  none_left : Writing []
  none_left most bytes tree s left o le way far open_is served chosen asked done = by_test (length bytes == 0) refl done
    where
      by_test : (b : Bool) → length bytes == 0 ≡ b
          → (if b then Done outcome.Done (site_with (file_at grant s)) else
          ask_write (file_at grant s) (next_part facts bytes) (site_with (file_at grant s)) answers) ≡ Done o left
          → WritesDone [] s most bytes tree tree left o
      by_test true e done =
          let nil : bytes ≡ [] = nil_from_length bytes (elim (eqb_tells (length bytes) 0) [
            | inl t ↦ t.1
            | inr t ↦ absurd (let both : false ≡ true = sym t.0 ∙ e in cc)
          ]) in
          let none : pieces most facts.write_len bytes ≡ [] = ap (pieces most facts.write_len) nil
          ∙ no_pieces most facts.write_len in
          let is : put_pieces (bare tree) s.file s.offset (pieces most facts.write_len bytes)
          ≡ (let g : Given = (answer.Put, bare tree) in g) =
          ap (put_pieces (bare tree) s.file s.offset) none in
          record {
            to = s.offset;
            left_is = sym (ap (site_of left) done);
            found = sym (ap (λ (m : Move). found_in (outcome_of m)) done) ∙ sym (ap (λ (g : Given). found_by g.0) is);
            tree_is = sym (ap (λ (g : Given). g.1) is);
            names = refl;
            handles = refl;
            ungranted = λ g has granted. let both : false ≡ true = has in cc;
            replied = λ g has none. let both : false ≡ true = has in cc;
          }
      by_test false e done =
          let len_is : length (next_part facts bytes) ≡ part_len facts bytes =
          length-take-le (part_len facts bytes) bytes (part_short bytes) in
          let short = part_short bytes in
          let fits : overflows s.offset (length (next_part facts bytes)) ≡ false =
          not_over (2 ^ 64) (s.offset + length (next_part facts bytes)) (omega (arith, far, len_is, short)) in
          let asks : false ≡ true = ap is_done (rw (way, fits) at done) in absurd cc

  status_of_part : (a : Own) (code : ℕ) → AfterOk a (Some (reply.Status code [] [])) → (code ≡ SSH_FX_OK → ⊥) → a ≡ []
  status_of_part [] code ok never = refl
  status_of_part (x ∷ a) code ok never = absurd (never ok)

  no_steps : (steps : List Step) → asked_in steps ≡ [] → steps ≡ []
  no_steps [] e = refl
  no_steps (st ∷ steps) e = absurd cc

  one_more : (st : Step) (steps : List Step) → Writing steps → Writing (st ∷ steps)
  one_more st steps more most bytes tree s left o le way far open_is served chosen asked done = by_most most le
    where
      part : List ℕ
      part = next_part facts bytes

      ans : answer_to config tree st ≡ answer_to_write tree s.file s.offset (next_part facts bytes)
      ans = part_written tree st s bytes way open_is asked.0 chosen.0

      go : Move
      go = rest_next (in_slot 0) (file_at grant (record s { offset = s.offset + part_len facts bytes }))
          (drop (part_len facts bytes) bytes)
          (site_with (file_at grant (record s { offset = s.offset + part_len facts bytes }))) facts (asked_in steps)
          answers

      taken : (answers st.place ≡ Some (answer_to config tree st).0)
          × (on_status (answer_to config tree st).0 (site_with (file_at grant s))
          (rest_next (in_slot 0) (file_at grant (record s { offset = s.offset + part_len facts bytes }))
          (drop (part_len facts bytes) bytes)
          (site_with (file_at grant (record s { offset = s.offset + part_len facts bytes }))) facts (asked_in steps)
          answers) ≡ Done o left)
      taken = taken_is st.place (answers st.place) (answer_to config tree st).0
          (λ x. on_status x (site_with (file_at grant s))
          (rest_next (in_slot 0) (file_at grant (record s { offset = s.offset + part_len facts bytes }))
          (drop (part_len facts bytes) bytes)
          (site_with (file_at grant (record s { offset = s.offset + part_len facts bytes }))) facts (asked_in steps)
          answers)) o left served.1 done

      ungranted_here : (code : ℕ) → answers st.place ≡ Some (reply.Status code [] [])
          → ((g : ℕ) → has_place (asked_in steps) g ≡ true → is_granted (answers g) ≡ true → ⊥)
          → (g : ℕ) → has_place (asked_in (st ∷ steps)) g ≡ true → is_granted (answers g) ≡ true → ⊥
      ungranted_here code came others g has granted = elim (eqb_tells st.place g) [
        | inl t ↦ (let both : false ≡ true = sym (ap is_granted came)
            ∙ subst (λ (j : ℕ). is_granted (answers j) ≡ true) (sym t.1) granted in cc)
        | inr t ↦ others g (rw t.0 at has) granted
      ]

      replied_here : (code : ℕ) → answers st.place ≡ Some (reply.Status code [] [])
          → ((g : ℕ) → has_place (asked_in steps) g ≡ true → answers g ≡ None → ⊥)
          → (g : ℕ) → has_place (asked_in (st ∷ steps)) g ≡ true → answers g ≡ None → ⊥
      replied_here code came others g has none = elim (eqb_tells st.place g) [
        | inl t ↦ (let both : Some (reply.Status code [] []) ≡ None = sym came ∙ (ap answers t.1 ∙ none) in cc)
        | inr t ↦ others g (rw t.0 at has) none
      ]

      by_test : (m : ℕ) → length bytes ≤ suc m → (b : Bool) → is_over tree s.file
          (max (size_of tree s.file) (s.offset + length (next_part facts bytes))) ≡ b
          → WritesDone (asked_in (st ∷ steps)) s (suc m) bytes tree (after config (answer_to config tree st).1 steps)
          left o
      by_test m le true e =
          let is : answer_to config tree st ≡ refusal_answer tree SSH_FX_FAILURE = ans ∙ rw e refl in
          let came : answers st.place ≡ Some (reply.Status SSH_FX_FAILURE [] []) = taken.0
          ∙ ap (λ (a : Answer). Some a.0) is in
          let last : steps ≡ [] = no_steps steps (status_of_part (asked_in steps) SSH_FX_FAILURE
          (subst (λ (x : Option Reply). AfterOk (asked_in steps) x) came asked.2) (λ same. omega (arith, same))) in
          let went : Done (outcome.Refused (error.SftpError SSH_FX_FAILURE [] [])) (site_with (file_at grant s))
          ≡ Done o left =
          subst (λ (a : Answer). on_status a.0 (site_with (file_at grant s)) go ≡ Done o left) is taken.1 in
          let now_is : after config (answer_to config tree st).1 steps ≡ tree =
          ap (after config (answer_to config tree st).1) last ∙ ap (λ (a : Answer). a.1) is in
          let all = refused_pieces m bytes tree s asked.1 e in
          record {
            to = s.offset;
            left_is = sym (ap (site_of left) went);
            found = sym (ap (λ (x : Move). found_in (outcome_of x)) went) ∙ sym (ap (λ (g : Given). found_by g.0) all);
            tree_is = ap bare now_is ∙ sym (ap (λ (g : Given). g.1) all);
            names = ap (λ (x : FileTree). x.names) now_is;
            handles = ap (λ (x : FileTree). x.handles) now_is;
            ungranted = ungranted_here SSH_FX_FAILURE came (λ g has granted. let none : has_place (asked_in steps) g
                ≡ false = ap (λ (x : List Step). has_place (asked_in x) g) last in
                let both : true ≡ false = sym has ∙ none in cc);
            replied = replied_here SSH_FX_FAILURE came (λ g has unanswered. let none : has_place (asked_in steps) g
                ≡ false = ap (λ (x : List Step). has_place (asked_in x) g) last in
                let both : true ≡ false = sym has ∙ none in cc);
          }
      by_test m le false e =
          let next : FileTree = written_by tree s bytes in
          let is : answer_to config tree st ≡ done_with next = ans ∙ rw e refl in
          let came : answers st.place ≡ Some (reply.Status SSH_FX_OK [] []) = taken.0 ∙ ap (λ (a : Answer). Some a.0) is
          in
          let went : go ≡ Done o left = subst (λ (a : Answer). on_status a.0 (site_with (file_at grant s)) go
          ≡ Done o left) is taken.1 in
          let s' : OpenFilePlace = record s { offset = s.offset + part_len facts bytes } in
          let count = length-drop (part_len facts bytes) bytes in
          let short = part_short bytes in
          let any : 1 ≤ part_len facts bytes = some_part (length bytes) asked.1 in
          let later : WritesDone (asked_in steps) s' m (drop (part_len facts bytes) bytes) next
          (after config next steps) left o =
          more m (drop (part_len facts bytes) bytes) next s' left o (omega (arith, le, count, any)) way
          (omega (arith, far, count, short)) open_is
          (subst (λ (a : Answer). AreServed config answers a.1 steps) is served.2) chosen.1 asked.3 went in
          let all = next_pieces m bytes tree s asked.1 e in
          let now_is : after config (answer_to config tree st).1 steps ≡ after config next steps =
          ap (λ (a : Answer). after config a.1 steps) is in
          record {
            to = later.to;
            left_is = later.left_is;
            found = later.found ∙ sym (ap (λ (g : Given). found_by g.0) all);
            tree_is = ap bare now_is ∙ (later.tree_is ∙ sym (ap (λ (g : Given). g.1) all));
            names = ap (λ (x : FileTree). x.names) now_is ∙ later.names;
            handles = ap (λ (x : FileTree). x.handles) now_is ∙ later.handles;
            ungranted = ungranted_here SSH_FX_OK came later.ungranted;
            replied = replied_here SSH_FX_OK came later.replied;
          }
        where
          done_with : FileTree → Answer
          done_with left = (reply.Status SSH_FX_OK [] [], left)

          some_part : (n : ℕ) → (n == 0) ≡ false → 1 ≤ min n facts.write_len
          some_part n any = elim (eqb_tells n 0) [
            | inl t ↦ absurd (let both : true ≡ false = sym t.0 ∙ any in cc)
            | inr t ↦ (let ne = t.1 in omega (arith, ne, some))
          ]

      by_most : (most : ℕ) → length bytes ≤ most → WritesDone (asked_in (st ∷ steps)) s most bytes tree
          (after config (answer_to config tree st).1 steps) left o
      by_most zero le = absurd (elim (eqb_tells (length bytes) 0) [
        | inl t ↦ (let both : true ≡ false = sym t.0 ∙ asked.1 in cc)
        | inr t ↦ (let ne = t.1 in omega (arith, ne, le))
      ])
      by_most (suc m) le = by_test m le (is_over tree s.file (max (size_of tree s.file)
          (s.offset + length (next_part facts bytes)))) refl

  pub writes_done : (steps : List Step) → Writing steps
  writes_done [] = none_left
  writes_done (st ∷ steps) = one_more st steps (writes_done steps)
