-- A listing gives the entries that its directory had as it was opened.
use Rattle.std.proofs.Common.{
  ◌≡◌,
  ℕ,
  zero,
  suc,
  ◌-◌,
  ◌<◌,
  ◌==◌,
  Bool,
  true,
  false,
  List,
  [],
  ◌∷◌,
  ◌++◌,
  take,
  drop,
  Option,
  Some,
  None,
  if◌then◌else◌,
  refl,
  ap,
  sym,
  ◌∙◌,
  subst,
  arith,
  inl,
  inr,
}
use Rattle.std.specs.Prelude.{◌||◌, ◌⊎◌}
use Rattle.std.specs.Str.{bytes_eq}
use Rattle.std.proofs.lemmas.Bool.{eqb-true}
use Rattle.std.proofs.lemmas.Bool.Decides.{eqb_tells, nat_tests}
use Rattle.std.proofs.lemmas.List.{append-nil, append_assoc, take-append-drop}
use Rattle.sftp_model.specs.Answers.{is_handle}
use Rattle.sftp_model.specs.Numbers.{SSH_FX_EOF, SSH_FX_OK}
use Rattle.sftp_model.specs.declared.config.Choice.{Choice}
use Rattle.sftp_model.specs.declared.config.ServerConfig.{ServerConfig}
use Rattle.sftp_model.specs.declared.error.Error.TheVariants as error
use Rattle.sftp_model.specs.declared.error.IoKind.TheVariants as kind
use Rattle.sftp_model.specs.declared.outcome.Outcome.{Outcome}
use Rattle.sftp_model.specs.declared.outcome.Outcome.TheVariants as outcome
use Rattle.sftp_model.specs.declared.reply.NameEntry.{NameEntry}
use Rattle.sftp_model.specs.declared.reply.Reply.{Reply}
use Rattle.sftp_model.specs.declared.reply.Reply.TheVariants as reply
use Rattle.sftp_model.specs.declared.request.Request.{Request}
use Rattle.sftp_model.specs.declared.request.Request.TheVariants as request
use Rattle.sftp_model.specs.declared.slot.Facts.{Facts}
use Rattle.sftp_model.specs.declared.slot.Move.{Move}
use Rattle.sftp_model.specs.declared.slot.Move.TheVariants.{Ask, Done}
use Rattle.sftp_model.specs.declared.slot.Site.{Site}
use Rattle.machine_model.proofs.ListingLaws.{lists_once}
use Rattle.machine_model.proofs.NameLaws.{handles_tell}
use Rattle.machine_model.proofs.PairLaws.{found_push_here}
use Rattle.machine_model.specs.Components.{Name, components}
use Rattle.machine_model.specs.FileTree.{FileTree, value_at_key, node_at, opened_at}
use Rattle.machine_model.specs.HandleRequests.{Answer, capped_at}
use Rattle.machine_model.specs.Limits.{MAX_NAME_ENTRIES}
use Rattle.machine_model.specs.NameRequests.{after_opendir, after_readdir, entries_at}
use Rattle.machine_model.specs.TreeAnswers.{tree_answer, apply}
use Rattle.machine_model.specs.Trees.{IsTree, ListOnce, has_filename}
use Rattle.machine_model.specs.declared.node.Node.{Node}
use Rattle.machine_model.specs.declared.node.Node.TheVariants as node
use Rattle.machine_model.specs.declared.opened.Opened.TheVariants as opened
use Rattle.plan_model.specs.declared.call.Call.TheVariants as call
use Rattle.sftp_model.specs.Frames.{is_too_long}
use Rattle.plan_model.specs.Moves.{Answers, Own, handle_of, on_handle, once_answered, refusal_move}
use Rattle.plan_model.specs.PathPlans.{from_directory}
use Rattle.plan_model.specs.WholePlans.{entries_next, list_next, on_names}
use Rattle.session_model.specs.Served.{IsReply}
use Rattle.run_laws.specs.CallsAmong.{HasEnded, StandListing, StandsOnDirectory, asked_by}
use Rattle.run_laws.specs.Steps.{FeignsNoEnd, IsAnyChoice, Step, answer_to, AreServed}
use Rattle.run_laws.proofs.AskedInOrder.{Follow, asked_in_order, follow_as}
use Rattle.run_laws.proofs.HandleLaws.{found_replaced_here, step_keeps}
use Rattle.run_laws.proofs.MoveWords.{asked_unless, handle_in, is_done, outcome_of, taken_is}
use Rattle.run_laws.proofs.StayLaws.{list_stays}
use Rattle.run_laws.proofs.StepLaws.{refused_as, reply_is, served_before, unrefused_by}
use Rattle.run_laws.proofs.WriteLaws.{answers_as}

-- ---- READDIR

answers_readdir : (tree : FileTree) (config : ServerConfig) (h : List ℕ) (cap : ℕ) (handle : List ℕ)
    (entries : List NameEntry) → opened_at tree h ≡ Some (opened.Directory entries)
    → tree_answer tree config (request.Readdir h) cap handle ≡ after_readdir tree cap h (Some entries)
answers_readdir tree config h cap handle entries e = rw e refl

-- what is left of the entries after a READDIR, and what it said
record Gives (h : List ℕ) (entries : List NameEntry) (refuse : ℕ) (x : Answer) : Type 0 where
  left : List NameEntry
  stands : opened_at x.1 h ≡ Some (opened.Directory left)
  said :
      ((x.0 ≡ reply.Status SSH_FX_EOF [] []) × (entries ≡ []))
      ⊎ (((first : NameEntry) × (given : List NameEntry) × (x.0 ≡ reply.Names (first ∷ given))
      × (entries ≡ (first ∷ given) ++ left))
      ⊎ (x.0 ≡ reply.Status refuse [] []))

take_first : (n : ℕ) (x : NameEntry) (xs : List NameEntry) → 0 < n → take n (x ∷ xs) ≡ x ∷ take (n - 1) xs
take_first zero x xs lt = absurd (omega (arith, lt))
take_first (suc n) x xs lt = (let same : n ≡ suc n - 1 = omega arith in ap (λ (k : ℕ). x ∷ take k xs) same)

some_given : (cap : ℕ) → 0 < capped_at cap MAX_NAME_ENTRIES
some_given cap = grind (arith, nat_tests)

gives : (tree : FileTree) (cap refuse : ℕ) (h : List ℕ) (entries : List NameEntry) → opened_at tree h
    ≡ Some (opened.Directory entries) → Gives h entries refuse (after_readdir tree cap h (Some entries))
gives tree cap refuse h [] e = record { left = []; stands = e; said = inl (refl, refl) }
gives tree cap refuse h (first ∷ entries) e =
    let n : ℕ = capped_at cap MAX_NAME_ENTRIES in
    let front : take n (first ∷ entries) ≡ first ∷ take (n - 1) entries = take_first n first entries (some_given cap) in
    record {
      left = drop n (first ∷ entries);
      stands = found_replaced_here bytes_eq tree.handles h (opened.Directory (first ∷ entries))
          (opened.Directory (drop n (first ∷ entries))) ((handles_tell h h).1 refl) e;
      said = inr (inl (
        first,
        take (n - 1) entries,
        ap (λ (w : List NameEntry). reply.Names w) front,
        sym (take-append-drop n (first ∷ entries)) ∙ ap (λ (w : List NameEntry). w ++ drop n (first ∷ entries))
            front,
      ));
    }

step_gives : (config : ServerConfig) (tree : FileTree) (h : List ℕ) (entries : List NameEntry) (s : Step)
    → opened_at tree h ≡ Some (opened.Directory entries) → s.request ≡ request.Readdir h
    → Gives h entries s.choice.refuse (answer_to config tree s)
step_gives config tree h entries s e asks =
    elim (eqb_tells s.choice.refuse SSH_FX_OK) [
      | inl t ↦
          subst (Gives h entries s.choice.refuse)
          (sym (ap (λ (w : Request). apply tree config w s.choice s.handle) asks
          ∙ (answers_as tree config (request.Readdir h) s.choice s.handle t.1
          ∙ answers_readdir tree config h s.choice.cap s.handle entries e)))
          (gives tree s.choice.cap s.choice.refuse h entries e)
      | inr t ↦ subst (Gives h entries s.choice.refuse) (sym (refused_as tree config s.request s.choice s.handle t.0))
          (record { left = entries; stands = e; said = inr (inr refl) })
    ]

-- ---- the plan

-- what is claimed of a call that ends with names
abbrev NamesAre : (List NameEntry → Type 0) → Outcome → Type 0
NamesAre Claim (outcome.Names names) = Claim names
NamesAre Claim other = Unit {0}

-- where a refusal ends the call, nothing is said of names
refused_names : (Claim : List NameEntry → Type 0) (r : Reply) (site left : Site) (ended : Outcome) → refusal_move r site
    ≡ Done ended left → NamesAre Claim ended
refused_names Claim (reply.Status code message language) site left ended e = subst (NamesAre Claim) (ap outcome_of e) tt
refused_names Claim other site left ended e = subst (NamesAre Claim) (ap outcome_of e) tt

-- The names of a listing are all entries, or by a choice that feigns an end the first of them.
record MayEnd (choices : Choice → Type 0) (all : List NameEntry) (Claim : List NameEntry → Type 0) : Type 0 where
  whole : Claim all
  feigned : (choice : Choice) (names rest : List NameEntry) → choices choice → choice.refuse ≡ SSH_FX_EOF → all ≡ names
      ++ rest → Claim names

-- after a NAME with entries, the plan is that of the entries got with them
names_go_on : (h : List ℕ) (site : Site) (answers : Answers) (bound : ℕ) (got : List NameEntry) (e : NameEntry)
    (given : List NameEntry) (asked : ℕ × Request) (later : Own) → answers asked.0 ≡ Some (reply.Names (e ∷ given))
    → entries_next h got bound site (asked ∷ later) answers ≡ entries_next h (got ++ e ∷ given) (bound - 1) site later
    answers
names_go_on h site answers bound got e given asked later is =
    ap (λ (w : Option Reply). once_answered asked.0 w (λ r. on_names r site (Done (outcome.Names got) site)
    (λ entries. entries_next h (got ++ entries) (bound - 1) site later answers))) is

-- The call gets the entries from the first on, and ends with names once all were given.
lists_rest : (choices : Choice → Type 0) (Claim : List NameEntry → Type 0) (config : ServerConfig) (answers : Answers)
    (h : List ℕ) (site left : Site) (all : List NameEntry) (ended : Outcome) (steps : List Step) (own : Own)
    (tree : FileTree) (bound : ℕ) (got entries : List NameEntry)
    → MayEnd choices all Claim → opened_at tree h ≡ Some (opened.Directory entries) → all ≡ got ++ entries
    → AreServed config answers tree steps → StandListing choices config h own tree steps
    → Follow (λ later. entries_next h got bound site later answers) own → entries_next h got bound site own answers
    ≡ Done ended left → NamesAre Claim ended
lists_rest choices Claim config answers h site left all ended steps [] tree bound got entries may open_is is served
    stand follow e = by_test (bound == 0) e
  where
    by_test : (t : Bool) → (if t then Done outcome.GivenUp site else Ask (request.Readdir h)) ≡ Done ended left
        → NamesAre Claim ended
    by_test true e = subst (NamesAre Claim) (ap outcome_of e) tt
    by_test false e = absurd (let both : false ≡ true = ap is_done e in cc)
lists_rest choices Claim config answers h site left all ended [] (asked ∷ later) tree bound got entries may open_is is
    served stand follow e = absurd stand
lists_rest choices Claim config answers h site left all ended (s ∷ steps) (asked ∷ later) tree bound got entries may
    open_is is served stand follow e =
    elim stand [
      | inr other ↦
          lists_rest choices Claim config answers h site left all ended steps (asked ∷ later)
          (answer_to config tree s).1 bound got entries may (step_keeps config tree s h (opened.Directory entries)
          other.0 other.1 open_is) is served.2 other.2 follow e
      | inl own ↦
          (let g = step_gives config tree h entries s open_is (own.1
          ∙ asked_unless (bound == 0) outcome.GivenUp site (request.Readdir h) asked.1 follow.0) in
          let reply_at : IsReply (answers asked.0) (answer_to config tree s).0 =
          subst (λ (w : ℕ). IsReply (answers w) (answer_to config tree s).0) own.0 served.1 in
          by_said own.2 g reply_at g.said
          (λ bound got left_over now whole follow e. lists_rest choices Claim config answers h site left all ended steps
          later (answer_to config tree s).1 bound got left_over may now whole served.2 own.3 follow e))
    ]
  where
    go : Reply → Move
    go r = on_names r site (Done (outcome.Names got) site) (λ entries. entries_next h (got ++ entries) (bound - 1) site
        later answers)

    by_code : choices s.choice → (b : Bool) → (s.choice.refuse == SSH_FX_EOF) ≡ b
        → (if b then Done (outcome.Names got) site else refusal_move (reply.Status s.choice.refuse [] []) site)
        ≡ Done ended left → NamesAre Claim ended
    by_code chosen true test e = subst (NamesAre Claim) (ap outcome_of e)
        (may.feigned s.choice got entries chosen (eqb-true s.choice.refuse SSH_FX_EOF test) is)
    by_code chosen false test e = refused_names Claim (reply.Status s.choice.refuse [] []) site left ended e

    by_said : choices s.choice → (g : Gives h entries s.choice.refuse (answer_to config tree s))
        → IsReply (answers asked.0) (answer_to config tree s).0
        → (((answer_to config tree s).0 ≡ reply.Status SSH_FX_EOF [] []) × (entries ≡ []))
        ⊎ (((first : NameEntry) × (given : List NameEntry) × ((answer_to config tree s).0 ≡ reply.Names (first ∷ given))
        × (entries ≡ (first ∷ given) ++ g.left))
        ⊎ ((answer_to config tree s).0 ≡ reply.Status s.choice.refuse [] []))
        → ((bound : ℕ) (got left_over : List NameEntry) → opened_at (answer_to config tree s).1 h
        ≡ Some (opened.Directory left_over) → all ≡ got ++ left_over
        → Follow (λ later. entries_next h got bound site later answers) later
        → entries_next h got bound site later answers ≡ Done ended left → NamesAre Claim ended)
        → NamesAre Claim ended
    by_said chosen g reply_at (inl end) more =
        (let t = taken_is asked.0 (answers asked.0) (reply.Status SSH_FX_EOF [] []) go ended left
        (subst (IsReply (answers asked.0)) end.0 reply_at) e in
        let got_all : got ≡ all = sym (is ∙ (ap (λ (w : List NameEntry). got ++ w) end.1 ∙ append-nil got)) in
        subst (NamesAre Claim) (ap outcome_of t.1) (subst Claim (sym got_all) may.whole))
    by_said chosen g reply_at (inr (inr refused_it)) more =
        (let t = taken_is asked.0 (answers asked.0) (reply.Status s.choice.refuse [] []) go ended left
        (subst (IsReply (answers asked.0)) refused_it reply_at) e in
        by_code chosen (s.choice.refuse == SSH_FX_EOF) refl t.1)
    by_said chosen g reply_at (inr (inl r)) more =
        (let t = taken_is asked.0 (answers asked.0) (reply.Names (r.0 ∷ r.1)) go ended left
        (subst (IsReply (answers asked.0)) r.2 reply_at) e in
        more (bound - 1) (got ++ r.0 ∷ r.1) g.left g.stands (is ∙
        (ap (λ (w : List NameEntry). got ++ w) r.3 ∙ sym (append_assoc got (r.0 ∷ r.1) g.left)))
        (follow_as (λ own. entries_next h got bound site (asked ∷ own) answers)
        (λ own. entries_next h (got ++ r.0 ∷ r.1) (bound - 1) site own answers) later
        (λ own. names_go_on h site answers bound got r.0 r.1 asked own t.0) follow.1)
        t.1)

-- ---- the call

opens_list : (tree : FileTree) (handle : List ℕ) (name : Name) (n : Option Node) → opened_at tree handle ≡ None
    → (h : List ℕ) → (after_opendir tree handle name n).0 ≡ reply.Handle h
    → opened_at (after_opendir tree handle name n).1 h ≡ Some (opened.Directory (entries_at tree name))
opens_list tree handle name None none h e = absurd (let both : false ≡ true = ap is_handle e in cc)
opens_list tree handle name (Some (node.File file)) none h e = absurd (let both : false ≡ true = ap is_handle e in cc)
opens_list tree handle name (Some node.Directory) none h e =
    subst (λ (w : List ℕ). value_at_key bytes_eq (tree.handles
    ++ (handle, opened.Directory (entries_at tree name)) ∷ []) w
    ≡ Some (opened.Directory (entries_at tree name))) (ap handle_in e)
    (found_push_here bytes_eq tree.handles handle (opened.Directory (entries_at tree name))
    ((handles_tell handle handle).1 refl) none)

-- a HANDLE was taken, or the call ended without names
opened_by : (Claim : List NameEntry → Type 0) (place : ℕ) (o : Option Reply) (site : Site) (go : List ℕ → Move)
    (ended : Outcome) (left : Site) → once_answered place o (λ r. on_handle r site go) ≡ Done ended left
    → NamesAre Claim ended ⊎ ((h : List ℕ) × (o ≡ Some (reply.Handle h)) × (go h ≡ Done ended left))
opened_by Claim place None site go ended left e = absurd (let both : false ≡ true = ap is_done e in cc)
opened_by Claim place (Some (reply.Handle h)) site go ended left e = inr (h, refl, e)
opened_by Claim place (Some (reply.Version version extensions)) site go ended left e =
    inl (refused_names Claim (reply.Version version extensions) site left ended e)
opened_by Claim place (Some (reply.Status code message language)) site go ended left e =
    inl (refused_names Claim (reply.Status code message language) site left ended e)
opened_by Claim place (Some (reply.Content content)) site go ended left e =
    inl (refused_names Claim (reply.Content content) site left ended e)
opened_by Claim place (Some (reply.Names names)) site go ended left e =
    inl (refused_names Claim (reply.Names names) site left ended e)
opened_by Claim place (Some (reply.Attrs attrs)) site go ended left e =
    inl (refused_names Claim (reply.Attrs attrs) site left ended e)
opened_by Claim place (Some (reply.Extended content)) site go ended left e =
    inl (refused_names Claim (reply.Extended content) site left ended e)

-- the requests of a listing that ended are those of its plan by the replies of then
list_follow : (path : List ℕ) (bound : ℕ) (site : Site) (facts : Facts) (own : Own) (answers : Answers)
    (ended : Outcome) (e : HasEnded (call.List path bound) site facts own answers ended)
    → Follow (λ later. list_next path bound site facts later e.by) own
list_follow path bound site facts own answers ended e =
    subst (Follow (λ later. list_next path bound site facts later e.by)) e.are
    (asked_in_order (list_next path bound site facts) e.requests e.by (list_stays path bound site facts)
    e.so_far.asked)

-- the first one is an OPENDIR of its path
pub opendir_is : (path : List ℕ) (bound : ℕ) (site : Site) (facts : Facts) (first : ℕ × Request) (later : Own)
    (answers : Answers) (ended : Outcome) → HasEnded (call.List path bound) site facts (first ∷ later) answers ended
    → first.1 ≡ request.Opendir (from_directory site path)
opendir_is path bound site facts first later answers ended e =
    let asks : Request = request.Opendir (from_directory site path) in
    let follow : Follow (λ own. list_next path bound site facts own e.by) (first ∷ later) =
    list_follow path bound site facts (first ∷ later) answers ended e in
    asked_unless (is_too_long asks) (outcome.Refused (error.IOError kind.PathTooLong)) site asks first.1 follow.0

names_listed : (choices : Choice → Type 0) (Claim : List NameEntry → Type 0) (config : ServerConfig) (answers : Answers)
    (path : List ℕ) (bound : ℕ) (site : Site) (facts : Facts) (later : Own) (ended : Outcome) (tree : FileTree)
    (first : Step) (steps : List Step)
    → MayEnd choices (entries_at tree (components (from_directory site path))) Claim
    → StandsOnDirectory choices config answers later tree first steps
    → HasEnded (call.List path bound) site facts (asked_by first ∷ later) answers ended
    → NamesAre Claim ended
names_listed choices Claim config answers path bound site facts later ended tree first steps may stands call_ended =
    let name : Name = components (from_directory site path) in
    let all : List NameEntry = entries_at tree name in
    let by : Answers = call_ended.by in
    let asks : Request = request.Opendir (from_directory site path) in
    let go : Own → List ℕ → Move = λ own handle. entries_next handle [] bound site own by in
    let follow : Follow (λ own. list_next path bound site facts own by) (asked_by first ∷ later) =
    list_follow path bound site facts (asked_by first ∷ later) answers ended call_ended in
    elim (opened_by Claim first.place (by first.place) site (go later) ended call_ended.left call_ended.ends) [
      | inl names ↦ names
      | inr on ↦
          (let served : AreServed config by tree (first ∷ steps) =
          served_before config by answers tree (first ∷ steps) call_ended.stay stands.served in
          let said : reply.Handle on.0 ≡ (answer_to config tree first).0 =
          reply_is (by first.place) (reply.Handle on.0) (answer_to config tree first).0 on.1 served.1 in
          let is : answer_to config tree first ≡ after_opendir tree first.handle name (node_at tree name) =
          ap (λ (w : Request). apply tree config w first.choice first.handle)
          (opendir_is path bound site facts (asked_by first) later answers ended call_ended)
          ∙ answers_as tree config asks first.choice first.handle
          (unrefused_by tree config first.request first.choice first.handle (reply.Handle on.0)
          (λ code ne e. let both : true ≡ false = ap is_handle e in cc) said) in
          let open_is : opened_at (answer_to config tree first).1 on.0 ≡ Some (opened.Directory all) =
          subst (λ (w : Answer). opened_at w.1 on.0 ≡ Some (opened.Directory all)) (sym is)
          (opens_list tree first.handle name (node_at tree name) served.0.1 on.0
          (sym (said ∙ ap (λ (w : Answer). w.0) is))) in
          lists_rest choices Claim config by on.0 site call_ended.left all ended steps later
          (answer_to config tree first).1 bound [] all may open_is refl served.2
          (subst (λ (w : List ℕ). StandListing choices config w later (answer_to config tree first).1 steps)
          (ap handle_of (call_ended.stay first.place (reply.Handle on.0) on.1)) stands.stands)
          (follow_as _ (λ own. entries_next on.0 [] bound site own by) later
          (λ own. ap (λ (w : Option Reply). once_answered first.place w (λ r. on_handle r site (go own))) on.1)
          follow.1)
          on.2)
    ]

-- A call that lists a directory and ends with names gives the first of the entries that the directory had as its
-- OPENDIR was answered, in their order.
pub lists_begin : (config : ServerConfig) (answers : Answers) (path : List ℕ) (bound : ℕ) (site : Site) (facts : Facts)
    (later : Own) (entries : List NameEntry) (tree : FileTree) (first : Step) (steps : List Step)
    → StandsOnDirectory IsAnyChoice config answers later tree first steps
    → HasEnded (call.List path bound) site facts (asked_by first ∷ later) answers (outcome.Names entries)
    → (rest : List NameEntry) × (entries_at tree (components (from_directory site path)) ≡ entries ++ rest)
lists_begin config answers path bound site facts later entries tree first steps stands ended =
    let all : List NameEntry = entries_at tree (components (from_directory site path)) in
    names_listed IsAnyChoice (λ (names : List NameEntry). (rest : List NameEntry) × (all ≡ names ++ rest)) config
    answers path bound site facts later (outcome.Names entries) tree first steps
    (record { whole = ([], sym (append-nil all)); feigned = λ choice names rest chosen e is. (rest, is) }) stands ended

-- and all of them where no choice feigns an end
pub lists_directory : (config : ServerConfig) (answers : Answers) (path : List ℕ) (bound : ℕ) (site : Site)
    (facts : Facts) (later : Own) (entries : List NameEntry) (tree : FileTree) (first : Step) (steps : List Step)
    → StandsOnDirectory FeignsNoEnd config answers later tree first steps
    → HasEnded (call.List path bound) site facts (asked_by first ∷ later) answers (outcome.Names entries)
    → entries ≡ entries_at tree (components (from_directory site path))
lists_directory config answers path bound site facts later entries tree first steps stands ended =
    names_listed FeignsNoEnd (λ (names : List NameEntry). names
    ≡ entries_at tree (components (from_directory site path))) config answers path bound site facts later
    (outcome.Names entries) tree first steps
    (record { whole = refl; feigned = λ choice names rest honest e is. absurd (honest e) }) stands ended

-- what stands once in a list stands once in a front of it
none_front : (xs ys : List NameEntry) (filename : List ℕ) → has_filename (xs ++ ys) filename ≡ false
    → has_filename xs filename ≡ false
none_front [] ys filename e = refl
none_front (x ∷ xs) ys filename e = by_test (bytes_eq x.filename filename) (λ rest. none_front xs ys filename rest) e
  where
    by_test : (b : Bool) → (has_filename (xs ++ ys) filename ≡ false → has_filename xs filename ≡ false)
        → (b || has_filename (xs ++ ys) filename) ≡ false → (b || has_filename xs filename) ≡ false
    by_test true more e = e
    by_test false more e = more e

once_front : (xs ys : List NameEntry) → ListOnce (xs ++ ys) → ListOnce xs
once_front [] ys once = tt
once_front (x ∷ xs) ys once = (none_front xs ys x.filename once.0, once_front xs ys once.1)

-- and in a tree each once
pub lists_each_once : (config : ServerConfig) (answers : Answers) (path : List ℕ) (bound : ℕ) (site : Site)
    (facts : Facts) (later : Own) (entries : List NameEntry) (tree : FileTree) (first : Step) (steps : List Step)
    → IsTree tree → StandsOnDirectory IsAnyChoice config answers later tree first steps
    → HasEnded (call.List path bound) site facts (asked_by first ∷ later) answers (outcome.Names entries)
    → ListOnce entries
lists_each_once config answers path bound site facts later entries tree first steps is_tree stands ended =
    let begins = lists_begin config answers path bound site facts later entries tree first steps stands ended in
    once_front entries begins.0 (subst ListOnce begins.1 (lists_once tree (components (from_directory site path))
    is_tree))
