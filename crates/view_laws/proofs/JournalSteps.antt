-- Where the files stand behind each entry of a journal of one lane, whose calls go on the first slot.
use Rattle.std.proofs.Common.{
  ◌≡◌,
  ◌<◌,
  ℕ,
  Bool,
  true,
  false,
  List,
  [],
  ◌∷◌,
  ◌++◌,
  length,
  Option,
  Some,
  None,
  if◌then◌else◌,
  refl,
  ap,
  sym,
  ◌∙◌,
  subst,
  arith,
  inl,
  inr,
}
use Rattle.std.specs.Prelude.{◌⊎◌}
use Rattle.std.proofs.lemmas.Bool.{eq-eqb, or_cases, or_right}
use Rattle.std.proofs.lemmas.Bool.Decides.{eqb_tells}
use Rattle.std.proofs.lemmas.List.{append-nil, append_assoc}
use Rattle.sftp_model.specs.Answers.{is_handle, may_answer}
use Rattle.sftp_model.specs.Slots.{fresh_site, has_grant}
use Rattle.sftp_model.specs.declared.config.ServerConfig.{ServerConfig}
use Rattle.sftp_model.specs.declared.error.Fault.{Fault}
use Rattle.sftp_model.specs.declared.reply.Reply.{Reply}
use Rattle.sftp_model.specs.declared.reply.Reply.TheVariants as reply
use Rattle.sftp_model.specs.declared.request.Request.{Request}
use Rattle.sftp_model.specs.declared.request.Request.TheVariants as request
use Rattle.sftp_model.specs.declared.slot.Move.TheVariants.{Ask}
use Rattle.sftp_model.specs.declared.slot.Site.{Site}
use Rattle.machine_model.specs.FileTree.{FileTree}
use Rattle.plan_model.specs.CallPlans.{next}
use Rattle.plan_model.specs.Moves.{Own}
use Rattle.plan_model.specs.OwnRequests.{ExtendsAnswers}
use Rattle.plan_model.specs.declared.call.Call.{Call}
use Rattle.plan_model.specs.declared.call.Lane.{Lane}
use Rattle.session_model.specs.Calls.{Setting, current, held_by, held_site, move_at, move_of, site_of}
use Rattle.session_model.specs.Grants.{closed_grants, first_let_go, holds, is_asked_by, is_held, is_unended_asker, next_due}
use Rattle.session_model.specs.Journals.{IsJournal, MayReply, MayTake}
use Rattle.session_model.specs.Readings.{AskedRequest, answer, count_submitted, asked_at, bearer, count_ended, is_at, is_by, own, was_let_go}
use Rattle.session_model.specs.Served.{requests_of}
use Rattle.session_model.specs.declared.entry.Entry.{Entry}
use Rattle.session_model.specs.declared.entry.Entry.TheVariants as entry
use Rattle.session_model.specs.declared.event.Event.TheVariants.{Send, Submit, Take}
use Rattle.session_model.specs.declared.event.Owner.TheVariants as owner
use Rattle.session_model.proofs.CallLaws.{asker_owns, has_place, next_submit, next_take, own_submit}
use Rattle.session_model.proofs.ClosedLaws.{lane_there}
use Rattle.session_model.proofs.GrantLaws.{any_passes, any_where}
use Rattle.session_model.proofs.LetGoLaws.{granted_below}
use Rattle.session_model.proofs.RequestLaws.{answer_stays}
use Rattle.session_laws.specs.Dues.{AreDueGrants}
use Rattle.session_laws.specs.Running.{own_request}
use Rattle.session_laws.proofs.AskLaws.{ask_dues}
use Rattle.session_laws.proofs.DueLaws.{none_next}
use Rattle.session_laws.proofs.RestLaws.{added_dues, sent_dues}
use Rattle.session_laws.proofs.StartLaws.{begins_unbegun, start_dues}
use Rattle.session_laws.proofs.TakeDues.{take_held}
use Rattle.run_laws.specs.Steps.{Step, after, asked_in}
use Rattle.run_laws.proofs.LaneCalls.{call_stays}
use Rattle.view_laws.specs.FileCalls.{FilesAt, MayCall, OpenFilePlace, at_rest}
use Rattle.view_laws.proofs.SlotCalls.{AsksSo, HoldsSlot, IsAt, asks_more, asks_none, asks_stay, at_stays, offset_in}

-- a lane without calls but those that are added
abbrev pub only_lane : List Lane
only_lane = record { calls = [] } ∷ []

-- what the lane's call has asked
abbrev pub AsksNow : Setting → List Entry → List ℕ → ℕ → Option Call → Own → Type 0
AsksNow s q handle offset None own = own ≡ []
AsksNow s q handle offset (Some c) own = AsksSo s.facts (answer q) c handle offset own

-- an unanswered request is one of the lane's call, or the query for limits
abbrev pub IsExpected : List Entry → AskedRequest → Type 0
IsExpected q a = (is_by a.by 0 (count_ended q 0) ≡ true) ⊎ (a.request ≡ request.LimitsQuery)

-- Behind this part of a journal the files stand here: the machine has answered these steps, those of the calls that
-- have ended, and the requests that the lane's call made come next. No grant is to be closed.
pub record Reached (s : Setting) (config : ServerConfig) (first : FileTree) (steps : List Step) (q : List Entry)
    (at : FilesAt) (c : Option Call) : Type 0 where
  pub xs : List Step
  pub rest : List Step
  pub split : steps ≡ xs ++ rest
  pub requests : asked_in xs ++ own q 0 (count_ended q 0) ≡ requests_of q
  pub handle : List ℕ
  pub is : IsAt (answer q) (after config first xs) (site_of s q 0) handle at
  pub asks : AsksNow s q handle (offset_in at.slot) c (own q 0 (count_ended q 0))
  pub dues : AreDueGrants s q []
  pub idle : next_due s q ≡ None
  pub expected : (p : ℕ) (a : AskedRequest) → asked_at q p ≡ Some a → answer q p ≡ None → IsExpected q a

-- the call may be made; or, once the lane was let go, nothing is open
abbrev pub Guard : Option Call → Bool → FilesAt → Type 0
Guard (Some c) gone at = MayCall at c
Guard None true at = at.slot ≡ None
Guard None false at = Unit {0}

abbrev pub Expects : Setting → ServerConfig → FileTree → List Step → List Entry → FilesAt → Type 0
Expects s config first steps q at = Guard (current s q 0) (was_let_go q 0) at
    → Reached s config first steps q at (current s q 0)

module _ (s : Setting) (one : s.lanes ≡ only_lane) (config : ServerConfig) (first : FileTree) (steps : List Step) where
  abbrev At : List Entry → FilesAt → Option Call → Type 0
  At q at c = Reached s config first steps q at c

  abbrev Then : List Entry → FilesAt → Type 0
  Then q at = Expects s config first steps q at

  pub lane_zero : (lane : ℕ) → lane < length s.lanes → lane ≡ 0
  lane_zero lane lt = (let count : length s.lanes ≡ 1 = ap (λ (w : List Lane). length w) one in
      omega (arith, lt, count))

  pub one_there : 0 < length s.lanes
  one_there = (let count : length s.lanes ≡ 1 = ap (λ (w : List Lane). length w) one in omega (arith, count))

  -- nothing was asked
  asks_at_start : (c : Option Call) (q : List Entry) (at : FilesAt) (handle : List ℕ) (b : Bool) → Guard c b at
      → AsksNow s q handle (offset_in at.slot) c []
  asks_at_start None q at handle b guard = refl
  asks_at_start (Some c) q at handle b guard = asks_none s.facts (answer q) c handle (offset_in at.slot) at guard

  pub at_first : Then [] (at_rest first)
  at_first guard = record {
    xs = [];
    rest = steps;
    split = refl;
    requests = refl;
    handle = [];
    is = record { tree_is = refl; slot_is = refl };
    asks = asks_at_start (current s [] 0) [] (at_rest first) [] (was_let_go [] 0) guard;
    dues = start_dues s [] (begins_unbegun s).0;
    idle = refl;
    expected = λ p a is none. absurd cc;
  }

  -- ---- a request of the lane's call

  called : (q : List Entry) (r : Request) → move_of s q 0 ≡ Some (Ask r) → (c : Call) × (current s q 0 ≡ Some c)
  called q r asks = by_call (current s q 0) refl
    where
      by_call : (c : Option Call) → current s q 0 ≡ c → (c : Call) × (current s q 0 ≡ Some c)
      by_call None is = absurd (let none : None ≡ Some (Ask r) =
          ap (λ (c : Option Call). move_at c (site_of s q 0) s.facts (own q 0 (count_ended q 0)) (answer q)) (sym is)
          ∙ asks
          in cc)
      by_call (Some c) is = (c, is)

  asked_call : (q : List Entry) (id : ℕ) (r : Request) (at : FilesAt) (c : Call)
      → IsJournal s (own_request q 0 id r ∷ q) → current s q 0 ≡ Some c → MayCall at c
      → At q at (Some c) → At (own_request q 0 id r ∷ q) at (Some c)
  asked_call q id r at c j is may h =
      let now : List Entry = own_request q 0 id r ∷ q in
      let grown : own now 0 (count_ended now 0) ≡ own q 0 (count_ended q 0) ++ (count_submitted q, r) ∷ [] =
      own_submit q 0 (count_ended q 0) id r in
      let move = (next_submit s q 0 (count_ended q 0) id r j.0).1 in
      let moves : move_at (Some c) (site_of s q 0) s.facts (own q 0 (count_ended q 0)) (answer q) ≡ Some (Ask r) =
      ap (λ (x : Option Call). move_at x (site_of s q 0) s.facts (own q 0 (count_ended q 0)) (answer q)) (sym is) ∙ move
      in
      let asks : next c (site_of s q 0) s.facts (own q 0 (count_ended q 0)) (answer q) ≡ Ask r = cc moves in
      record {
        xs = h.xs;
        rest = h.rest;
        split = h.split;
        requests = ap (λ (o : Own). asked_in h.xs ++ o) grown ∙ (sym
            (append_assoc (asked_in h.xs) (own q 0 (count_ended q 0)) ((count_submitted q, r) ∷ []))
            ∙ ap (λ (o : Own). o ++ (count_submitted q, r) ∷ []) h.requests);
        handle = h.handle;
        is = h.is;
        asks = subst (λ (o : Own). AsksSo s.facts (answer q) c h.handle (offset_in at.slot) o) (sym grown)
            (asks_more s.facts (answer q) h.handle (count_submitted q) r c (after config first h.xs) (site_of s q 0) at
            (own q 0 (count_ended q 0)) h.is may asks h.asks);
        dues = ask_dues s q 0 id r j h.dues;
        idle = none_next s now refl (ask_dues s q 0 id r j h.dues);
        expected = λ p a here none. elim (eqb_tells p (count_submitted q)) [
          | inl t ↦ inl (let this : a ≡ record { by = owner.Call 0 (count_ended q 0); id = id; request = r } =
              same_asked a _ (sym here ∙ rw t.0 refl) in
              ap (λ (x : AskedRequest). is_by x.by 0 (count_ended q 0)) this
              ∙ eq-eqb (count_ended q 0) (count_ended q 0) refl)
          | inr t ↦ h.expected p a (rw t.0 at here) none
        ];
      }
    where
      same_asked : (a b : AskedRequest) → Some a ≡ Some b → a ≡ b
      same_asked a b e = cc

  pub call_asks : (q : List Entry) (lane call id : ℕ) (r : Request) (at : FilesAt)
      → IsJournal s (entry.Event (Submit (owner.Call lane call) id r) ∷ q)
      → Then q at → Then (entry.Event (Submit (owner.Call lane call) id r) ∷ q) at
  call_asks q lane call id r at j h guard =
      let may = next_submit s q lane call id r j.0 in
      let zero_is : lane ≡ 0 = lane_zero lane (lane_there s q lane j.1 (λ none. no_move none may.1)) in
      let num : call ≡ count_ended q 0 = may.0 ∙ ap (count_ended q) zero_is in
      by_call zero_is num guard
    where
      no_move : current s q lane ≡ None → move_of s q lane ≡ Some (Ask r) → ⊥
      no_move none asks = (let still : None ≡ Some (Ask r) = ap
          (λ (c : Option Call). move_at c (site_of s q lane) s.facts (own q lane (count_ended q lane)) (answer q))
          (sym none)
          ∙ asks in cc)

      by_call : lane ≡ 0 → call ≡ count_ended q 0 → Guard (current s q 0) (was_let_go q 0) at
          → Reached s config first steps (entry.Event (Submit (owner.Call lane call) id r) ∷ q) at (current s q 0)
      by_call zero_is num guard =
          let j0 : IsJournal s (own_request q 0 id r ∷ q) =
          subst (λ (n : ℕ). IsJournal s (entry.Event (Submit (owner.Call 0 n) id r) ∷ q)) num
          (subst (λ (l : ℕ). IsJournal s (entry.Event (Submit (owner.Call l call) id r) ∷ q)) zero_is j) in
          let c = called q r (next_submit s q 0 (count_ended q 0) id r j0.0).1 in
          let may : MayCall at c.0 = subst (λ (x : Option Call). Guard x (was_let_go q 0) at) c.1 guard in
          let done : At (own_request q 0 id r ∷ q) at (Some c.0) =
          asked_call q id r at c.0 j0 c.1 may (subst (λ (x : Option Call). At q at x) c.1 (h guard)) in
          subst (λ (l : ℕ). Reached s config first steps (entry.Event (Submit (owner.Call l call) id r) ∷ q) at
          (current s q 0)) (sym zero_is)
          (subst (λ (n : ℕ). Reached s config first steps (entry.Event (Submit (owner.Call 0 n) id r) ∷ q) at
          (current s q 0)) (sym num)
          (subst (λ (x : Option Call). At (own_request q 0 id r ∷ q) at x) (sym c.1) done))

  -- ---- entries that change little

  pub sends : (q : List Entry) (at : FilesAt) → Then q at → Then (entry.Event Send ∷ q) at
  sends q at h guard =
      let r = h guard in
      record {
        xs = r.xs;
        rest = r.rest;
        split = r.split;
        requests = r.requests;
        handle = r.handle;
        is = r.is;
        asks = r.asks;
        dues = sent_dues s q [] r.dues;
        idle = none_next s (entry.Event Send ∷ q) refl (sent_dues s q [] r.dues);
        expected = r.expected;
      }

  -- what is due stays so where no reading of it changes
  kept_dues : (q : List Entry) (fault : Fault) → AreDueGrants s q [] → AreDueGrants s (entry.Kept fault ∷ q) []
  kept_dues q fault d = record {
    each = λ g granted unclosed out. d.each g granted unclosed out;
    unheld = tt;
    rising =
        tt;
  }

  pub keeps_fault : (q : List Entry) (fault : Fault) (at : FilesAt) → Then q at → Then (entry.Kept fault ∷ q) at
  keeps_fault q fault at h guard =
      let r = h guard in
      record {
        xs = r.xs;
        rest = r.rest;
        split = r.split;
        requests = r.requests;
        handle = r.handle;
        is = r.is;
        asks = r.asks;
        dues = kept_dues q fault r.dues;
        idle = none_next s (entry.Kept fault ∷ q) refl (kept_dues q fault r.dues);
        expected = r.expected;
      }

  -- the query for limits
  pub asks_limits : (q : List Entry) (id : ℕ) (r : Request) (at : FilesAt) → count_submitted q ≡ 0 → r
      ≡ request.LimitsQuery → Then q at
      → Then (entry.Event (Submit owner.Setup id r) ∷ q) at
  asks_limits q id r at none query h guard =
      let x = h guard in
      let now : List Entry = entry.Event (Submit owner.Setup id r) ∷ q in
      let dues : AreDueGrants s now [] = record {
        each = λ g granted unclosed out. absurd (let lt = granted_below q g granted in omega (arith, lt, none));
        unheld = tt;
        rising = tt;
      } in
      record {
        xs = x.xs;
        rest = x.rest;
        split = x.split;
        requests = x.requests ∙ sym (append-nil (requests_of q));
        handle = x.handle;
        is = x.is;
        asks = asks_as x.handle (offset_in at.slot) (current s q 0) x.asks;
        dues = dues;
        idle = none_next s now refl dues;
        expected = λ p a here unanswered. elim (eqb_tells p (count_submitted q)) [
          | inl t ↦ inr (let this : a ≡ record { by = owner.Setup; id = id; request = r } =
              same_asked a _ (sym here ∙ rw t.0 refl) in
              ap (λ (y : AskedRequest). y.request) this ∙ query)
          | inr t ↦ x.expected p a (rw t.0 at here) unanswered
        ];
      }
    where
      same_asked : (a b : AskedRequest) → Some a ≡ Some b → a ≡ b
      same_asked a b e = cc

      asks_as : (handle : List ℕ) (offset : ℕ) (c : Option Call)
          → AsksNow s q handle offset c (own q 0 (count_ended q 0))
          → AsksNow s (entry.Event (Submit owner.Setup id r) ∷ q) handle offset c (own q 0 (count_ended q 0))
      asks_as handle offset None a = a
      asks_as handle offset (Some c) a = a

  -- ---- a reply

  pub takes : (q : List Entry) (id : ℕ) (r : Reply) (at : FilesAt) → IsJournal s (entry.Event (Take id r) ∷ q)
      → Then q at → Then (entry.Event (Take id r) ∷ q) at
  takes q id r at j h guard =
      let x = h guard in
      let may : MayTake q id r = (next_take s q id r j.0).0 in
      let p : ℕ = may.0 in
      let awaited = may.1.0 in
      let now : List Entry = entry.Event (Take id r) ∷ q in
      let more : ExtendsAnswers (answer q) (answer now) = λ place y e. answer_stays q id r y place may e in
      let dues : AreDueGrants s now [] = take_held s q id p r awaited.0
      (λ handle. held_then p (asked_at q p) refl may.1.1 x awaited.2 handle) x.dues in
      record {
        xs = x.xs;
        rest = x.rest;
        split = x.split;
        requests = x.requests;
        handle = x.handle;
        is = at_stays (answer q) (answer now) (after config first x.xs) (site_of s q 0) x.handle at more x.is;
        asks = asks_with x.handle (offset_in at.slot) (current s q 0) more x.asks;
        dues = dues;
        idle = none_next s now refl dues;
        expected = λ place a here none. x.expected place a here (still_none place none);
      }
    where
      asks_with : (handle : List ℕ) (offset : ℕ) (c : Option Call)
          → ExtendsAnswers (answer q) (answer (entry.Event (Take id r) ∷ q))
          → AsksNow s q handle offset c (own q 0 (count_ended q 0))
          → AsksNow s (entry.Event (Take id r) ∷ q) handle offset c (own q 0 (count_ended q 0))
      asks_with handle offset None more a = a
      asks_with handle offset (Some c) more a = asks_stay s.facts (answer q) (answer (entry.Event (Take id r) ∷ q)) c
          handle offset (own q 0 (count_ended q 0)) more a

      still_none : (place : ℕ) → answer (entry.Event (Take id r) ∷ q) place ≡ None → answer q place ≡ None
      still_none place none = by_test (is_at (bearer q id) place) none
        where
          by_test : (b : Bool) → (if b then Some r else answer q place) ≡ None → answer q place ≡ None
          by_test true e = absurd cc
          by_test false e = e

      no_handle : (x : Reply) → may_answer request.LimitsQuery x ≡ true → is_handle x ≡ true → ⊥
      no_handle (reply.Handle handle) may h = (let both : false ≡ true = may in cc)
      no_handle (reply.Status code message language) may h = (let both : false ≡ true = h in cc)
      no_handle other may h = (let both : false ≡ true = h in cc)

      held_then : (p : ℕ) (o : Option AskedRequest) → asked_at q p ≡ o → MayReply o r → At q at (current s q 0)
          → answer q p
          ≡ None → is_handle r ≡ true → is_held s q p ≡ true
      held_then p None is may x none handle = absurd may
      held_then p (Some a) is may x none handle = elim (x.expected p a is none) [
        | inl mine ↦ any_passes (holds s q p) (length s.lanes) 0 one_there
            (or_right (has_grant (held_site s q 0) p) (is_unended_asker q 0 p)
            (ap (λ (y : Option AskedRequest). is_asked_by y 0 (count_ended q 0)) is ∙ mine))
        | inr query ↦ absurd (no_handle r (ap (λ (y : Request). may_answer y r) (sym query) ∙ may.0) handle)
      ]

  -- ---- a call is added

  pub adds : (q : List Entry) (lane : ℕ) (c : Call) (at : FilesAt) → IsJournal s q → lane ≡ 0 → was_let_go q 0 ≡ false
      → Then q at → Then (entry.Added lane c ∷ q) at
  adds q lane c at j zero_is held h =
      subst (λ (l : ℕ). Then (entry.Added l c ∷ q) at) (sym zero_is) (by_call (current s q 0) refl)
    where
      now : List Entry
      now = entry.Added 0 c ∷ q

      grown : (next : Option Call) → At q at (current s q 0) → own q 0 (count_ended q 0) ≡ [] ⊎ (next ≡ current s q 0)
          → Guard next (was_let_go q 0) at
          → At (entry.Added 0 c ∷ q) at next
      grown next r same guard = record {
        xs = r.xs;
        rest = r.rest;
        split = r.split;
        requests = r.requests;
        handle = r.handle;
        is = r.is;
        asks = elim same [
          | inl none ↦ subst (λ (o : Own). AsksNow s (entry.Added 0 c ∷ q) r.handle (offset_in at.slot) next o)
              (sym none)
              (asks_at_start next (entry.Added 0 c ∷ q) at r.handle (was_let_go q 0) guard)
          | inr e ↦ subst (λ (x : Option Call). AsksNow s (entry.Added 0 c ∷ q) r.handle (offset_in at.slot) x
              (own q 0 (count_ended q 0))) (sym e)
              (asks_as r.handle (offset_in at.slot) (current s q 0) r.asks)
        ];
        dues = added_dues s q [] 0 c j r.dues;
        idle = none_next s (entry.Added 0 c ∷ q) refl (added_dues s q [] 0 c j r.dues);
        expected = r.expected;
      }
        where
          asks_as : (handle : List ℕ) (offset : ℕ) (x : Option Call)
              → AsksNow s q handle offset x (own q 0 (count_ended q 0))
              → AsksNow s (entry.Added 0 c ∷ q) handle offset x (own q 0 (count_ended q 0))
          asks_as handle offset None a = a
          asks_as handle offset (Some x) a = a

      by_call : (x : Option Call) → current s q 0 ≡ x → Then (entry.Added 0 c ∷ q) at
      by_call None is guard =
          let r = h (subst (λ (x : Option Call). Guard x (was_let_go q 0) at) (sym is)
          (subst (λ (b : Bool). Guard None b at) (sym held) tt)) in
          let none : own q 0 (count_ended q 0) ≡ [] = subst (λ (x : Option Call). AsksNow s q r.handle
          (offset_in at.slot) x (own q 0 (count_ended q 0))) is r.asks in
          grown (current s (entry.Added 0 c ∷ q) 0) r (inl none) guard
      by_call (Some d) is guard =
          let still : current s (entry.Added 0 c ∷ q) 0 ≡ Some d =
          call_stays s (entry.Added 0 c ∷ []) q 0 (count_ended q 0) d is in
          let may : Guard (current s q 0) (was_let_go q 0) at = subst (λ (x : Option Call). Guard x (was_let_go q 0) at)
          (still ∙ sym is) guard in
          grown (current s (entry.Added 0 c ∷ q) 0) (h may) (inr (still ∙ sym is)) guard

  -- ---- the lane is let go

  pub lets_go : (q : List Entry) (lane : ℕ) (at : FilesAt) → lane ≡ 0 → current s q 0 ≡ None → was_let_go q 0 ≡ false
      → Then q at → Then (entry.LetGo lane ∷ q) at
  lets_go q lane at zero_is idle held h =
      subst (λ (l : ℕ). Then (entry.LetGo l ∷ q) at) (sym zero_is)
      (λ guard. behind (subst (λ (x : Option Call). Guard x true at) idle guard))
    where
      behind : at.slot ≡ None → At (entry.LetGo 0 ∷ q) at (current s q 0)
      behind none =
          let r = h (subst (λ (x : Option Call). Guard x (was_let_go q 0) at) (sym idle)
          (subst (λ (b : Bool). Guard None b at) (sym held) tt)) in
          let fresh : site_of s q 0 ≡ fresh_site = subst (λ (x : Option OpenFilePlace). HoldsSlot (answer q)
          (after config first r.xs) (site_of s q 0) r.handle x) none r.is.slot_is in
          let nothing : own q 0 (count_ended q 0) ≡ [] = subst (λ (x : Option Call). AsksNow s q r.handle
          (offset_in at.slot) x (own q 0 (count_ended q 0))) idle r.asks in
          record {
            xs = r.xs;
            rest = r.rest;
            split = r.split;
            requests = r.requests;
            handle = r.handle;
            is = record {
              tree_is = r.is.tree_is;
              slot_is = subst (λ (x : Option OpenFilePlace). HoldsSlot (answer q) (after config first r.xs)
                  (site_of s (entry.LetGo 0 ∷ q) 0) r.handle x) (sym none)
                  (λ i. record { slots = fresh_site.slots; directory = (fresh i).directory });
            };
            asks = subst (λ (x : Option Call). AsksNow s (entry.LetGo 0 ∷ q) r.handle (offset_in at.slot) x
                (own q 0 (count_ended q 0))) (sym idle) nothing;
            dues = record {
              each = λ g granted unclosed out. absurd (unheld r fresh nothing g (r.dues.each g granted unclosed out));
              unheld = tt;
              rising = tt;
            };
            idle = (λ i. first_let_go (closed_grants s q) (fresh i).slots);
            expected = r.expected;
          }
        where
          unheld : At q at (current s q 0) → site_of s q 0 ≡ fresh_site → own q 0 (count_ended q 0) ≡ [] → (g : ℕ)
              → is_held s q g ≡ true → ⊥
          unheld r fresh nothing g held =
              let who = any_where (holds s q g) (length s.lanes) held in
              let zero_lane = lane_zero who.0 who.1.0 in
              let holder : holds s q g 0 ≡ true = subst (λ (l : ℕ). holds s q g l ≡ true) zero_lane who.1.1 in
              elim (or_cases (has_grant (held_site s q 0) g) (is_unended_asker q 0 g) holder) [
                | inl has ↦ (let site : held_site s q 0 ≡ fresh_site =
                    (λ i. held_by (idle i) (own q 0 (count_ended q 0)) (site_of s q 0)) ∙ fresh in
                    let both : false ≡ true = sym (ap (λ (x : Site). has_grant x g) site) ∙ has in cc)
                | inr asks ↦ (let mine = asker_owns q 0 (count_ended q 0) g asks in let both : false ≡ true =
                    sym (ap (λ (o : Own). has_place o g) nothing) ∙ mine in cc)
              ]
