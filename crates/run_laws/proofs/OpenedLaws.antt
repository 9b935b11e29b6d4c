-- That the machine wrote by a handle shows what the handle had: the file of its grant, open as the OPEN asked.
use Rattle.std.proofs.Common.{
  ◌≡◌,
  ◌<◌,
  ◌+◌,
  ℕ,
  Bool,
  true,
  false,
  List,
  [],
  ◌∷◌,
  ◌++◌,
  Option,
  Some,
  None,
  if◌then◌else◌,
  refl,
  ap,
  sym,
  ◌∙◌,
  subst,
  arith,
  inl,
  inr,
}
use Rattle.std.specs.Prelude.{not, ◌&&◌, ◌||◌}
use Rattle.std.proofs.lemmas.Bool.Decides.{eqb_tells}
use Rattle.sftp_model.specs.Answers.{is_handle}
use Rattle.sftp_model.specs.Numbers.{
  SSH_FX_OK,
  SSH_FX_PERMISSION_DENIED,
  SSH_FXF_APPEND,
  SSH_FXF_CREAT,
  SSH_FXF_EXCL,
  SSH_FXF_READ,
  SSH_FXF_TRUNC,
  SSH_FXF_WRITE,
}
use Rattle.sftp_model.specs.OpenOptions.{flags_of, making_of}
use Rattle.sftp_model.specs.Readings.{has_bit}
use Rattle.sftp_model.specs.declared.config.Choice.{Choice}
use Rattle.sftp_model.specs.declared.config.ServerConfig.{ServerConfig}
use Rattle.sftp_model.specs.declared.open_options.OpenOptions.{OpenOptions}
use Rattle.sftp_model.specs.declared.reply.Reply.TheVariants as reply
use Rattle.sftp_model.specs.declared.request.Request.{Request}
use Rattle.sftp_model.specs.declared.request.Request.TheVariants as request
use Rattle.machine_model.specs.Changes.{OpensAs, OpensAsked}
use Rattle.machine_model.specs.FileTree.{FileTree, file_of, opened_at}
use Rattle.machine_model.specs.HandleRequests.{Answer, after_write, offset_of, refusal_answer, answer_to_write}
use Rattle.machine_model.specs.TreeAnswers.{apply}
use Rattle.machine_model.specs.declared.opened.Held.{Held}
use Rattle.machine_model.specs.declared.opened.Opened.{Opened}
use Rattle.machine_model.specs.declared.opened.Opened.TheVariants as opened
use Rattle.plan_model.specs.FilePlans.{open_request}
use Rattle.plan_model.specs.Moves.{Answers, handle_of}
use Rattle.session_model.specs.declared.entry.Entry.{Entry}
use Rattle.session_model.specs.Calls.{Setting}
use Rattle.session_model.specs.Grants.{is_asked_by, is_one_of}
use Rattle.session_model.specs.Journals.{IsJournal}
use Rattle.session_model.specs.Readings.{AskedRequest, answer, asked_at, count_sent}
use Rattle.session_model.proofs.RequestLaws.{sent_asked}
use Rattle.run_laws.specs.Bearing.{grant_at}
use Rattle.run_laws.specs.CallsAmong.{ToWrite}
use Rattle.run_laws.specs.DeferredWrites.{AllWriteBy, tree_at}
use Rattle.run_laws.specs.GrantUses.{UseGrants}
use Rattle.run_laws.specs.InJournals.{is_of_call}
use Rattle.run_laws.specs.Steps.{AreServed, RunOf, Step, after, answer_to, asked_in}
use Rattle.run_laws.proofs.AloneLaws.{Around, around}
use Rattle.run_laws.proofs.AnewRuns.{with_call, with_call_well}
use Rattle.run_laws.proofs.GrantLaws.{AreBorne, AreKinds, grants_are_borne, inside, kinds_as, kinds_of, step_opened}
use Rattle.run_laws.proofs.HandleLaws.{kind_at, kind_of}
use Rattle.run_laws.proofs.MoveWords.{code_of}
use Rattle.run_laws.proofs.SentLaws.{AreAll, AreKnown, IsAt, all_sent}
use Rattle.run_laws.proofs.ServedSteps.{HasRequest}
use Rattle.run_laws.proofs.StepLaws.{ok_unrefused, reply_is}
use Rattle.run_laws.proofs.UseLaws.{use_grants}
use Rattle.run_laws.proofs.UsedLaws.{closed_before, some_is}
use Rattle.run_laws.proofs.WriteLaws.{answers_as}

-- ---- what a grant opened

-- a file that was opened is open as was asked
file_as : (r : Request) (o : Opened) (held : Held) → kind_of o ≡ Some held → OpensAsked r o → OpensAs r held
file_as r (opened.File other) held e opens = subst (OpensAs r) (some_is other held e) opens
file_as r (opened.Directory entries) held e opens = absurd cc

-- what a request opened that a HANDLE answered is open as it asked
kinds_asked : (config : ServerConfig) (answers : Answers) (past : List Entry) (n : ℕ) (tree : FileTree)
    (steps : List Step) (place : ℕ) (h : List ℕ) (a : AskedRequest) (held : Held) → AreServed config answers tree steps
    → AreKnown past n (asked_in steps) → answers place ≡ Some (reply.Handle h) → asked_at past place ≡ Some a
    → kinds_of config tree steps place ≡ Some held → OpensAs a.request held
kinds_asked config answers past n tree [] place h a held served known came at e = absurd cc
kinds_asked config answers past n tree (s ∷ steps) place h a held served known came at e =
    elim (eqb_tells s.place place) [
      | inl t ↦
          (let said = reply_is (answers s.place) (reply.Handle h) (answer_to config tree s).0 (ap answers t.1 ∙ came)
          served.1 in
          let o = step_opened config tree s served.0.1 (sym (ap is_handle said)) in
          let kind : inside (kind_at (opened_at (answer_to config tree s).1 s.handle)) ≡ Some held = rw t.0 at e in
          let is : kind_of o.0 ≡ Some held = ap (λ (x : Option Opened). inside (kind_at x)) (sym o.1) ∙ kind in
          let mine : IsAt past (s.place, s.request) = known.0.1 in
          let one : mine.0 ≡ a = some_is mine.0 a (sym mine.1.0 ∙ (ap (asked_at past) t.1 ∙ at)) in
          subst (λ (r : Request). OpensAs r held) (sym mine.1.1 ∙ ap (λ (x : AskedRequest). x.request) one)
          (file_as s.request o.0 held is o.2))
      | inr t ↦ kinds_asked config answers past n (answer_to config tree s).1 steps place h a held served.2 known.1 came
          at (rw t.0 at e)
    ]

-- ---- OPENs that don't append

bits : (read write new create truncate : Bool) →
    has_bit ((if read then SSH_FXF_READ else 0) + (if write || false then SSH_FXF_WRITE else 0) + 0 +
    (if new then SSH_FXF_CREAT + SSH_FXF_EXCL else if create && truncate then SSH_FXF_CREAT + SSH_FXF_TRUNC else
    if create then SSH_FXF_CREAT else 0))
    SSH_FXF_APPEND ≡ false
bits true true true c t = refl
bits true true false true true = refl
bits true true false true false = refl
bits true true false false t = refl
bits true false true c t = refl
bits true false false true true = refl
bits true false false true false = refl
bits true false false false t = refl
bits false true true c t = refl
bits false true false true true = refl
bits false true false true false = refl
bits false true false false t = refl
bits false false true c t = refl
bits false false false true true = refl
bits false false false true false = refl
bits false false false false t = refl

abbrev appends_in : Opened → Bool
appends_in (opened.File held) = held.append
appends_in (opened.Directory entries) = false

pub opens_plain : (options : OpenOptions) (path : List ℕ) (held : Held) → options.append ≡ false
    → OpensAs (open_request (flags_of options) path) held → held.append ≡ false
opens_plain options path held plain opens =
    ap appends_in opens
    ∙ subst (λ (b : Bool). has_bit ((if options.read then SSH_FXF_READ else 0) +
    (if options.write || b then SSH_FXF_WRITE else 0) +
    (if b then SSH_FXF_APPEND else 0) + making_of options) SSH_FXF_APPEND ≡ false) (sym plain)
    (bits options.read options.write options.create_new options.create options.truncate)

-- ---- a WRITE that was answered by a STATUS 0

-- it had a file open to be written
wrote_open : (tree : FileTree) (offset : ℕ) (part : List ℕ) (x : Option Opened)
    → code_of (after_write tree offset part (file_of x)).0 ≡ SSH_FX_OK
    → (held : Held) × (x ≡ Some (opened.File held)) × (held.writable ≡ true)
wrote_open tree offset part None e = absurd (let both : 4 ≡ 0 = e in omega (arith, both))
wrote_open tree offset part (Some (opened.Directory entries)) e = absurd (let both : 4 ≡ 0 = e in omega (arith, both))
wrote_open tree offset part (Some (opened.File held)) e = by_test held.writable refl e
  where
    by_test : (b : Bool) → held.writable ≡ b → code_of (if not b then refusal_answer tree SSH_FX_PERMISSION_DENIED else
        answer_to_write tree held.file (offset_of tree held offset) part).0 ≡ SSH_FX_OK
        → (other : Held) × (Some (opened.File held) ≡ Some (opened.File other)) × (other.writable ≡ true)
    by_test true is e = (held, refl, is)
    by_test false is e = absurd (let both : 3 ≡ 0 = e in omega (arith, both))

-- a step at a place finds by a handle the file of a grant, open to be written
record FindsOpen (config : ServerConfig) (kind : ℕ → Option Held) (tree : FileTree) (steps : List Step) (place g : ℕ)
    (h : List ℕ) : Type 0 where
  xs : List Step
  ys : List Step
  t : Step
  is : steps ≡ xs ++ t ∷ ys
  at : t.place ≡ place
  held : Held
  is_open : opened_at (after config tree xs) h ≡ Some (opened.File held)
  writable : held.writable ≡ true
  opened_it : kind g ≡ Some held

finds_open : (config : ServerConfig) (answers : Answers) (grant_of : ℕ → Option ℕ) (kind : ℕ → Option Held)
    (past : List Entry) (n : ℕ) (tree : FileTree) (steps : List Step) (place g : ℕ) (h part : List ℕ) (offset : ℕ)
    (message language : List ℕ) → AreServed config answers tree steps
    → AreBorne config answers grant_of kind tree steps → AreKnown past n (asked_in steps)
    → HasRequest (asked_in steps) place → IsAt past (place, request.Write h offset part)
    → answers place ≡ Some (reply.Status SSH_FX_OK message language) → grant_of place ≡ Some g → handle_of (answers g)
    ≡ h
    → FindsOpen config kind tree steps place g h
finds_open config answers grant_of kind past n tree [] place g h part offset message language served borne known has
    asks said uses by = absurd has
finds_open config answers grant_of kind past n tree (s ∷ steps) place g h part offset message language served borne
    known has asks said uses by =
    elim (eqb_tells s.place place) [
      | inl t ↦
          (let mine : IsAt past (s.place, s.request) = known.0.1 in
          let one : mine.0 ≡ asks.0 = some_is mine.0 asks.0 (sym mine.1.0 ∙ (ap (asked_at past) t.1 ∙ asks.1.0)) in
          let write : s.request ≡ request.Write h offset part = sym mine.1.1
          ∙ (ap (λ (x : AskedRequest). x.request) one ∙ asks.1.1) in
          let answer_is = reply_is (answers s.place) (reply.Status SSH_FX_OK message language)
          (answer_to config tree s).0 (ap answers t.1 ∙ said) served.1 in
          let is : answer_to config tree s ≡ after_write tree offset part (file_of (opened_at tree h)) =
          ap (λ (w : Request). apply tree config w s.choice s.handle) write
          ∙ answers_as tree config (request.Write h offset part) s.choice s.handle
          (ok_unrefused config tree s message language answer_is)
          in
          let wrote = wrote_open tree offset part (opened_at tree h)
          (ap (λ (w : Answer). code_of w.0) (sym is) ∙ sym (ap code_of answer_is)) in
          let bears : kind_at (opened_at tree h) ≡ Some (kind g) =
          subst (λ (x : List ℕ). kind_at (opened_at tree x) ≡ Some (kind g)) by (borne.0 g (ap grant_of t.1 ∙ uses)) in
          record {
            xs = [];
            ys = steps;
            t = s;
            is = refl;
            at = t.1;
            held = wrote.0;
            is_open = wrote.1;
            writable = wrote.2;
            opened_it = sym (ap inside (ap kind_at (sym wrote.1) ∙ bears));
          })
      | inr t ↦
          (let r = finds_open config answers grant_of kind past n (answer_to config tree s).1 steps place g h part
          offset message
          language served.2 borne.1 known.1 (elim has [ inl e ↦ absurd (t.1 e) | inr more ↦ more ]) asks said uses by in
          record {
            xs = s ∷ r.xs;
            ys = r.ys;
            t = r.t;
            is = ap (λ (l : List Step). s ∷ l) r.is;
            at = r.at;
            held = r.held;
            is_open = r.is_open;
            writable = r.writable;
            opened_it = r.opened_it;
          })
    ]

-- ---- a call that writes

-- A call's requests write by the handle of a grant, which a call of the lane asked for, by an OPEN that doesn't append,
-- and which had no CLOSE as they were submitted.
pub record WritesByGrant (s : Setting) (past : List Entry) (lane k g : ℕ) (handle : List ℕ) : Type 0 where
  pub opener : ℕ
  pub asked_for : is_asked_by (asked_at past g) lane opener ≡ true
  pub came : answer past g ≡ Some (reply.Handle handle)
  pub bears : AllWriteBy past lane k handle
  pub before : (place : ℕ) → is_of_call past (lane, k) place ≡ true → g < place
  pub unclosed : (place : ℕ) → is_of_call past (lane, k) place ≡ true → is_one_of (closed_before s past place) g ≡ false
  pub plain : (a : AskedRequest) (held : Held) → asked_at past g ≡ Some a → OpensAs a.request held → held.append ≡ false

-- what the handle of such a call had as a request of it came that was answered by a STATUS 0
pub opened_to_write : (s : Setting) (config : ServerConfig) (choices : List Choice) (first now : FileTree)
    (past : List Entry) (lane k g place offset : ℕ) (handle part message language : List ℕ)
    (run : RunOf config choices first past now) → IsJournal s past → WritesByGrant s past lane k g handle
    → is_of_call past (lane, k) place ≡ true → place < count_sent past
    → IsAt past (place, request.Write handle offset part)
    → answer past place ≡ Some (reply.Status SSH_FX_OK message language)
    → (held : Held) × (opened_at (tree_at config first run.steps place) handle ≡ Some (opened.File held)) × ToWrite held
opened_to_write s config choices first now past lane k g place offset handle part message language run j b mine below
    asks said = (
      r.held,
      ap (λ (x : FileTree). opened_at x handle) at_place ∙ r.is_open,
      (r.writable, by_asked (asked_at past g) refl b.asked_for),
    )
  where
    grant_of : ℕ → Option ℕ
    grant_of = with_call past lane k g (grant_at s past)

    kind : ℕ → Option Held
    kind = kinds_of config first run.steps

    all : AreAll past (count_sent past) [] (asked_in run.steps)
    all = subst (AreAll past (count_sent past) []) (sym run.asks) (all_sent past)

    uses : UseGrants (answer past) grant_of [] run.steps
    uses = use_grants s past (count_sent past) grant_of [] run.steps j (sent_asked past)
        (with_call_well s past lane b.opener k g handle j b.asked_for b.came (λ p a at is. b.bears p a at is) b.before
        b.unclosed) all

    kinds : AreKinds config (answer past) kind first run.steps
    kinds = kinds_as config (answer past) kind first run.steps (λ p there. refl) run.distinct run.served

    has : HasRequest (asked_in run.steps) place
    has = elim (all.complete place lane k below mine) [ inl none ↦ absurd none | inr there ↦ there ]

    r : FindsOpen config kind first run.steps place g handle
    r = finds_open config (answer past) grant_of kind past (count_sent past) first run.steps place g handle part offset
        message language
        run.served (grants_are_borne config (answer past) grant_of kind first run.steps run.served uses kinds) all.known
        has asks said
        (rw mine refl) (ap handle_of b.came)

    at_place : tree_at config first run.steps place ≡ after config first r.xs
    at_place =
        let trees : Around config first run.steps r.xs r.t =
        around config first past (count_sent past) run.steps r.xs r.ys r.t r.is all.rising all.known in
        ap (tree_at config first run.steps) (sym r.at) ∙ trees.came

    by_asked : (x : Option AskedRequest) → asked_at past g ≡ x → is_asked_by x lane b.opener ≡ true → r.held.append
        ≡ false
    by_asked None none own_it = absurd cc
    by_asked (Some a) at own_it =
        b.plain a r.held at (kinds_asked config (answer past) past (count_sent past) first run.steps g handle a r.held
        run.served
        all.known b.came at r.opened_it)
