-- The calls of a journal of one lane that a file machine serves did as the files say.
use Rattle.std.proofs.Common.{
  ◌≡◌,
  ◌≢◌,
  ◌≤◌,
  ◌+◌,
  ℕ,
  zero,
  suc,
  Bool,
  true,
  false,
  List,
  [],
  ◌∷◌,
  ◌++◌,
  length,
  take,
  Option,
  Some,
  None,
  refl,
  ap,
  sym,
  ◌∙◌,
  subst,
  arith,
  inl,
  inr,
}
use Rattle.std.specs.Prelude.{slice_get}
use Rattle.std.proofs.lemmas.Bool.{or_cases}
use Rattle.std.proofs.lemmas.List.{append-nil, append_assoc, append_cancel_left, map-append, take-append-le, take_all}
use Rattle.sftp_model.specs.Slots.{has_grant}
use Rattle.sftp_model.specs.declared.config.ServerConfig.{ServerConfig}
use Rattle.sftp_model.specs.declared.outcome.Outcome.{Outcome}
use Rattle.sftp_model.specs.declared.request.Request.{Request}
use Rattle.sftp_model.specs.declared.slot.Move.TheVariants.{Done}
use Rattle.sftp_model.specs.declared.slot.Site.{Site}
use Rattle.machine_model.specs.FileTree.{FileTree}
use Rattle.plan_model.specs.CallPlans.{next}
use Rattle.plan_model.specs.Moves.{Own}
use Rattle.plan_model.specs.declared.call.Call.{Call}
use Rattle.plan_model.specs.declared.call.Lane.{Lane}
use Rattle.session_model.specs.Calls.{Setting, calls_added_to, calls_of, current, given_up, held_by, held_site, lane_calls, move_at, move_of, site_of}
use Rattle.session_model.specs.Grants.{holds, is_asked_by, is_grant, is_held, is_unended_asker}
use Rattle.session_model.specs.Journals.{IsJournal, IsOver, MayCome}
use Rattle.session_model.specs.Readings.{AskedRequest, answer, count_ended, outcomes_of, own, was_let_go}
use Rattle.session_model.specs.Served.{requests_of}
use Rattle.session_model.specs.declared.entry.Entry.{Entry}
use Rattle.session_model.specs.declared.entry.Entry.TheVariants as entry
use Rattle.session_model.specs.declared.event.Event.TheVariants.{Cancel, End, Send, Submit, Take}
use Rattle.session_model.specs.declared.event.Owner.TheVariants as owner
use Rattle.session_model.proofs.CallLaws.{asker_owns, end_own, end_site, ended_end, has_place, next_may}
use Rattle.session_model.proofs.ClosedLaws.{lane_there}
use Rattle.session_model.proofs.GrantLaws.{any_passes, any_where}
use Rattle.session_model.proofs.HolderLaws.{ending, may_of}
use Rattle.session_laws.specs.Dues.{AreDueGrants}
use Rattle.session_laws.proofs.DueLaws.{none_next}
use Rattle.session_laws.proofs.EndLaws.{holds_ended}
use Rattle.run_laws.specs.Steps.{AreServed, ChooseOnly, RefusesNone, Step, after, asked_in}
use Rattle.run_laws.proofs.CutLaws.{chosen_parts}
use Rattle.run_laws.proofs.JournalCalls.{answers_stay}
use Rattle.run_laws.proofs.StepLaws.{after_two, served_before, served_first, served_rest}
use Rattle.view_model.specs.Viewed.{found_in}
use Rattle.view_model.proofs.EndedLaws.{ended_within}
use Rattle.view_laws.specs.FileCalls.{AllDid, CallEffect, FilesAt, MayCall, at_rest, bare}
use Rattle.view_model.specs.Uncancelled.{IsUncancelled}
use Rattle.view_laws.proofs.CallsDone.{HasDone}
use Rattle.view_laws.proofs.EachCall.{call_ends}
use Rattle.view_laws.proofs.JournalEnds.{calm, cut_steps, let_go_idle, requests_grow, uncancelled_before}
use Rattle.view_laws.proofs.JournalSteps.{
  AsksNow,
  Expects,
  Guard,
  Reached,
  adds,
  asks_limits,
  at_first,
  call_asks,
  keeps_fault,
  lane_zero,
  lets_go,
  one_there,
  only_lane,
  sends,
  takes,
}
use Rattle.view_laws.proofs.SlotCalls.{AsksSo, IsAt, asks_none, offset_in}

journal_of : (s : Setting) (more q : List Entry) → IsJournal s (more ++ q) → IsJournal s q
journal_of s [] q j = j
journal_of s (e ∷ more) q j = journal_of s more q j.1

uncancelled_of : (more q : List Entry) → IsUncancelled (more ++ q) → IsUncancelled q
uncancelled_of [] q u = u
uncancelled_of (e ∷ more) q u = uncancelled_of more q (uncancelled_before e (more ++ q) u)

-- ---- the calls so far

take_next : (xs : List Call) (n : ℕ) (c : Call) → slice_get xs n ≡ Some c → take (n + 1) xs ≡ take n xs ++ c ∷ []
take_next [] n c e = absurd cc
take_next (x ∷ xs) zero c e = (let same : x ≡ c = cc in λ i. same i ∷ [])
take_next (x ∷ xs) (suc n) c e =
    let on : suc n + 1 ≡ suc (n + 1) = omega arith in
    ap (λ (k : ℕ). take k (x ∷ xs)) on ∙ ap (λ (w : List Call). x ∷ w) (take_next xs n c e)

not_beyond : (xs : List Call) (n : ℕ) → slice_get xs n ≡ None → length xs ≤ n
not_beyond [] n e = omega arith
not_beyond (x ∷ xs) zero e = absurd cc
not_beyond (x ∷ xs) (suc n) e = (let le = not_beyond xs n e in omega (arith, le))

-- a journal that a file machine serves, whose calls it answered by these steps
pub record IsServedBy (s : Setting) (config : ServerConfig) (first : FileTree) (steps : List Step) (past : List Entry) :
    Type 0 where
  pub lanes : s.lanes ≡ only_lane
  pub reads : 1 ≤ s.facts.read_len
  pub writes : 1 ≤ s.facts.write_len
  pub run : IsJournal s past
  pub uncancelled : IsUncancelled past
  pub asks : asked_in steps ≡ requests_of past
  pub served : AreServed config (answer past) first steps
  pub chosen : ChooseOnly RefusesNone steps

module _ (s : Setting) (config : ServerConfig) (first : FileTree) (steps : List Step) (past : List Entry)
    (by : IsServedBy s config first steps past) where
  abbrev At : List Entry → FilesAt → Option Call → Type 0
  At q at c = Reached s config first steps q at c

  abbrev Then : List Entry → FilesAt → Type 0
  Then q at = Expects s config first steps q at

  abbrev len : ℕ
  len = s.facts.write_len

  -- what comes of a call that ends
  pub record Ended (q : List Entry) (o : Outcome) (c : Call) (at : FilesAt) : Type 0 where
    pub mid : FilesAt
    pub did : CallEffect len at c (found_in o) mid
    pub goes : Then (entry.Event (End 0 (count_ended q 0) o) ∷ q) mid

  -- the steps of a call
  pub record CallSteps (q : List Entry) (xs : List Step) : Type 0 where
    pub ys : List Step
    pub zs : List Step
    pub split : steps ≡ (xs ++ ys) ++ zs
    pub asks : asked_in ys ≡ own q 0 (count_ended q 0)
    pub served : AreServed config (answer q) (after config first xs) ys
    pub chosen : ChooseOnly RefusesNone ys

  call_steps : (q more : List Entry) (xs rest : List Step) → more ++ q ≡ past → steps ≡ xs ++ rest
      → asked_in xs ++ own q 0 (count_ended q 0) ≡ requests_of q → CallSteps q xs
  call_steps q more xs rest whole split requests =
      let mine : Own = own q 0 (count_ended q 0) in
      let later = requests_grow more q in
      let all : asked_in xs ++ asked_in rest ≡ asked_in xs ++ (mine ++ later.0) =
      sym (map-append (λ (st : Step). (let p : ℕ × Request = (st.place, st.request) in p)) xs rest)
      ∙ (ap asked_in (sym split) ∙ (by.asks ∙ (ap requests_of (sym whole)
      ∙ (later.1 ∙ (ap (λ (w : Own). w ++ later.0) (sym requests) ∙ append_assoc (asked_in xs) mine later.0))))) in
      let cut = cut_steps rest mine later.0 (append_cancel_left (asked_in xs) (asked_in rest) (mine ++ later.0) all) in
      let whole_split : steps ≡ xs ++ (cut.xs ++ cut.ys) = split ∙ ap (λ (w : List Step). xs ++ w) cut.split in
      let from_here : AreServed config (answer past) (after config first xs) (cut.xs ++ cut.ys) =
      served_rest config (answer past) first xs (cut.xs ++ cut.ys)
      (subst (λ (w : List Step). AreServed config (answer past) first w) whole_split by.served) in
      record {
        ys = cut.xs;
        zs = cut.ys;
        split = whole_split ∙ sym (append_assoc xs cut.xs cut.ys);
        asks = cut.asks;
        served = served_before config (answer q) (answer past) (after config first xs) cut.xs
            (λ place r e. subst (λ (w : List Entry). answer w place ≡ Some r) whole
            (answers_stay s more q (subst (IsJournal s) (sym whole) by.run) place r e))
            (served_first config (answer past) (after config first xs) cut.xs cut.ys from_here);
        chosen = (chosen_parts RefusesNone cut.xs cut.ys (chosen_parts RefusesNone xs (cut.xs ++ cut.ys)
            (subst (ChooseOnly RefusesNone) whole_split by.chosen)).1).0;
      }

  call_ended : (q more : List Entry) (o : Outcome) (left : Site) (c : Call) (at : FilesAt) → more ++ q ≡ past
      → IsJournal s q → IsUncancelled q → current s q 0 ≡ Some c → move_of s q 0 ≡ Some (Done o left) → MayCall at c
      → At q at (Some c) → Ended q o c at
  call_ended q more o left c at whole j u is moves may r =
      record { mid = d.mid; did = d.did; goes = λ guard. behind guard }
    where
      own_ : Own
      own_ = own q 0 (count_ended q 0)

      cs : CallSteps q r.xs
      cs = call_steps q more r.xs r.rest whole r.split r.requests

      done : next c (site_of s q 0) s.facts (asked_in cs.ys) (answer q) ≡ Done o left
      done = subst (λ (w : Own). next c (site_of s q 0) s.facts w (answer q) ≡ Done o left) (sym cs.asks)
          (let at_call : move_at (Some c) (site_of s q 0) s.facts (own q 0 (count_ended q 0)) (answer q)
          ≡ Some (Done o left) =
          ap (λ (x : Option Call). move_at x (site_of s q 0) s.facts (own q 0 (count_ended q 0)) (answer q)) (sym is)
          ∙ moves in cc)

      d : HasDone s.facts.write_len (answer q) (asked_in cs.ys) c (site_of s q 0) left
          (after config (after config first r.xs) cs.ys) at o
      d = call_ends config (answer q) s.facts r.handle by.reads by.writes c (after config first r.xs) cs.ys
          (site_of s q 0) left at o r.is may
          (subst (λ (w : Own). AsksSo s.facts (answer q) c r.handle (offset_in at.slot) w) (sym cs.asks) r.asks)
          cs.served cs.chosen done

      now : List Entry
      now = entry.Event (End 0 (count_ended q 0) o) ∷ q

      one_more : count_ended (entry.Event (End 0 (count_ended q 0) o) ∷ q) 0 ≡ count_ended q 0 + 1
      one_more = ended_end q 0 (count_ended q 0) o

      none_own : own (entry.Event (End 0 (count_ended q 0) o) ∷ q) 0
          (count_ended (entry.Event (End 0 (count_ended q 0) o) ∷ q) 0) ≡ []
      none_own = ap (own (entry.Event (End 0 (count_ended q 0) o) ∷ q) 0) (ended_end q 0 (count_ended q 0) o)
          ∙ end_own s q 0 o j

      site_is : site_of s (entry.Event (End 0 (count_ended q 0) o) ∷ q) 0 ≡ left
      site_is = end_site s q 0 o left (calm q u) moves

      still_held : (g : ℕ) → is_grant q g ≡ true → is_held s q g ≡ true
          → is_held s (entry.Event (End 0 (count_ended q 0) o) ∷ q) g ≡ true
      still_held g granted held =
          let who = any_where (holds s q g) (length s.lanes) held in
          let zero_lane = lane_zero s by.lanes config first steps who.0 who.1.0 in
          let holder : holds s q g 0 ≡ true = subst (λ (l : ℕ). holds s q g l ≡ true) zero_lane who.1.1 in
          let kept : has_grant left g ≡ true = elim (or_cases (has_grant (held_site s q 0) g) (is_unended_asker q 0 g)
          holder) [
            | inl has ↦ d.keeps g granted (inl
                (subst (λ (w : Own). has_grant (given_up c w (site_of s q 0)) g ≡ true) (sym cs.asks)
                (subst (λ (x : Option Call). has_grant (held_by x (own q 0 (count_ended q 0)) (site_of s q 0)) g ≡ true)
                is has)))
            | inr asks ↦ d.keeps g granted (inr (subst (λ (w : Own). has_place w g ≡ true) (sym cs.asks)
                (asker_owns q 0 (count_ended q 0) g asks)))
          ] in
          any_passes (holds s (entry.Event (End 0 (count_ended q 0) o) ∷ q) g) (length s.lanes) 0
          (one_there s by.lanes config first steps)
          (holds_ended s q 0 o g j ∙ (ap (λ (x : Site). has_grant x g) site_is ∙ kept))

      dues : AreDueGrants s (entry.Event (End 0 (count_ended q 0) o) ∷ q) []
      dues = record {
        each = λ g granted unclosed out. still_held g granted (r.dues.each g granted unclosed out);
        unheld = tt;
        rising = tt;
      }

      asks_at_start : (x : Option Call) (handle : List ℕ) (b : Bool) → Guard x b d.mid
          → AsksNow s (entry.Event (End 0 (count_ended q 0) o) ∷ q) handle (offset_in d.mid.slot) x []
      asks_at_start None handle b guard = refl
      asks_at_start (Some y) handle b guard = asks_none s.facts (answer q) y handle (offset_in d.mid.slot) d.mid guard

      behind : Guard (current s (entry.Event (End 0 (count_ended q 0) o) ∷ q) 0) (was_let_go q 0) d.mid
          → Reached s config first steps (entry.Event (End 0 (count_ended q 0) o) ∷ q) d.mid
          (current s (entry.Event (End 0 (count_ended q 0) o) ∷ q) 0)
      behind guard = record {
        xs = r.xs ++ cs.ys;
        rest = cs.zs;
        split = cs.split;
        requests = ap (λ (w : Own). asked_in (r.xs ++ cs.ys) ++ w) none_own
            ∙ (append-nil (asked_in (r.xs ++ cs.ys))
            ∙ (map-append (λ (st : Step). (let p : ℕ × Request = (st.place, st.request) in p)) r.xs cs.ys
            ∙ (ap (λ (w : Own). asked_in r.xs ++ w) cs.asks ∙ r.requests)));
        handle = d.handle;
        is = subst (λ (x : Site). IsAt (answer q) (after config first (r.xs ++ cs.ys)) x d.handle d.mid) (sym site_is)
            (subst (λ (t : FileTree). IsAt (answer q) t left d.handle d.mid) (sym (after_two config first r.xs cs.ys))
            d.at);
        asks = subst (λ (w : Own). AsksNow s (entry.Event (End 0 (count_ended q 0) o) ∷ q) d.handle
            (offset_in d.mid.slot)
            (current s (entry.Event (End 0 (count_ended q 0) o) ∷ q) 0) w) (sym none_own)
            (asks_at_start (current s (entry.Event (End 0 (count_ended q 0) o) ∷ q) 0) d.handle (was_let_go q 0) guard);
        dues = dues;
        idle = none_next s (entry.Event (End 0 (count_ended q 0) o) ∷ q) refl dues;
        expected = λ p a here none. elim (r.expected p a here none) [
          | inl mine ↦ absurd (d.replied p (subst (λ (w : Own). has_place w p ≡ true) (sym cs.asks)
              (asker_owns q 0 (count_ended q 0) p (ap (λ (y : Option AskedRequest). is_asked_by y 0 (count_ended q 0))
              here ∙ mine))) none)
          | inr query ↦ inr query
        ];
      }

  -- ---- a journal

  -- the calls that have ended
  abbrev calls_done : List Entry → List Call
  calls_done q = take (count_ended q 0) (calls_added_to q 0)

  -- They did so, where the others go on from what holds behind this part.
  abbrev DidSoFar : List Entry → Type 0
  DidSoFar q = (rest : List Call) (outcomes : List Outcome) (left : FileTree)
      → ((at : FilesAt) → Then q at → AllDid len at rest outcomes left)
      → AllDid len (at_rest first) (calls_done q ++ rest) (outcomes_of q 0 ++ outcomes) left

  goes_on : (q : List Entry) (e : Entry) → calls_done (e ∷ q) ≡ calls_done q → outcomes_of (e ∷ q) 0 ≡ outcomes_of q 0
      → ((at : FilesAt) → Then q at → Then (e ∷ q) at) → DidSoFar q → DidSoFar (e ∷ q)
  goes_on q e calls outs f d rest outcomes left g =
      subst (λ (w : List Call). AllDid len (at_rest first) (w ++ rest) (outcomes_of (e ∷ q) 0 ++ outcomes) left)
      (sym calls)
      (subst (λ (w : List Outcome). AllDid len (at_rest first) (calls_done q ++ rest) (w ++ outcomes) left) (sym outs)
      (d rest outcomes left (λ at t. g at (f at t))))

  pub calls_within : (q : List Entry) → IsJournal s q → count_ended q 0 ≤ length (calls_added_to q 0)
  calls_within q j =
      let le = ended_within s q 0 j in
      let same : length (lane_calls s q 0) ≡ length (calls_added_to q 0) =
      ap (λ (w : List Lane). length (calls_of (slice_get w 0) ++ calls_added_to q 0)) by.lanes in
      omega (arith, le, same)

  added_call : (q : List Entry) → slice_get (calls_added_to q 0) (count_ended q 0) ≡ current s q 0
  added_call q = ap (λ (w : List Lane). slice_get (calls_of (slice_get w 0) ++ calls_added_to q 0) (count_ended q 0))
      (sym by.lanes)

  some_call : (c : Option Call) → c ≢ None → (d : Call) × (c ≡ Some d)
  some_call None ne = absurd (ne refl)
  some_call (Some d) ne = (d, refl)

  end_did : (q more : List Entry) (o : Outcome) → more ++ entry.Event (End 0 (count_ended q 0) o) ∷ q ≡ past
      → IsJournal s (entry.Event (End 0 (count_ended q 0) o) ∷ q) → IsUncancelled q → DidSoFar q
      → DidSoFar (entry.Event (End 0 (count_ended q 0) o) ∷ q)
  end_did q more o whole j u d rest outcomes left f =
      let c = some_call (current s q 0) (ending s q 0 (count_ended q 0) o j).some in
      let one_more : calls_done (entry.Event (End 0 (count_ended q 0) o) ∷ q) ≡ calls_done q ++ c.0 ∷ [] =
      ap (λ (k : ℕ). take k (calls_added_to q 0)) (ended_end q 0 (count_ended q 0) o)
      ∙ take_next (calls_added_to q 0) (count_ended q 0) c.0 (added_call q ∙ c.1) in
      subst (λ (w : List Call). AllDid len (at_rest first) w ((outcomes_of q 0 ++ o ∷ []) ++ outcomes) left)
      (sym (ap (λ (w : List Call). w ++ rest) one_more ∙ append_assoc (calls_done q) (c.0 ∷ []) rest))
      (subst (λ (w : List Outcome). AllDid len (at_rest first) (calls_done q ++ c.0 ∷ rest) w left)
      (sym (append_assoc (outcomes_of q 0) (o ∷ []) outcomes))
      (d (c.0 ∷ rest) (o ∷ outcomes) left (λ at t may. by_call c.0 c.1 at t may)))
    where
      before_end : (more ++ entry.Event (End 0 (count_ended q 0) o) ∷ []) ++ q ≡ past
      before_end = append_assoc more (entry.Event (End 0 (count_ended q 0) o) ∷ []) q ∙ whole

      by_call : (c : Call) → current s q 0 ≡ Some c → (at : FilesAt) → Then q at → MayCall at c
          → (mid : FilesAt) × (CallEffect s.facts.write_len at c (found_in o) mid
          × AllDid s.facts.write_len mid rest outcomes left)
      by_call c is at t may =
          let r = subst (λ (x : Option Call). At q at x) is (t (subst (λ (x : Option Call). Guard x (was_let_go q 0) at)
          (sym is) may)) in
          let m : MayCome s q (entry.Event (End 0 (count_ended q 0) o)) =
          next_may s q (entry.Event (End 0 (count_ended q 0) o)) (calm q u) r.idle j.0 in
          let x = call_ended q (more ++ entry.Event (End 0 (count_ended q 0) o) ∷ []) o m.1.0 c at before_end j.1 u is
          m.1.1 may r in
          (x.mid, (x.did, f x.mid x.goes))

  did_so_far : (q more : List Entry) → more ++ q ≡ past → DidSoFar q
  did_so_far [] more whole = λ rest outcomes left f. f (at_rest first) (at_first s by.lanes config first steps)
  did_so_far (e ∷ q) more whole = by_entry e whole (did_so_far q (more ++ e ∷ [])
      (append_assoc more (e ∷ []) q ∙ whole))
    where
      by_entry : (e : Entry) → more ++ e ∷ q ≡ past → DidSoFar q → DidSoFar (e ∷ q)
      by_entry e whole d = by_kind e (journal_of s more (e ∷ q) (subst (IsJournal s) (sym whole) by.run))
          (uncancelled_of more (e ∷ q) (subst IsUncancelled (sym whole) by.uncancelled)) whole
        where
          no_next : (at : FilesAt) (id : ℕ) (r : Request) → IsUncancelled q
              → IsJournal s (entry.Event (Submit owner.Close id r) ∷ q) → Then q at
              → Then (entry.Event (Submit owner.Close id r) ∷ q) at
          no_next at id r u j t guard = absurd (next_may s q (entry.Event (Submit owner.Close id r)) (calm q u)
              (t guard).idle j.0)

          by_kind : (e : Entry) → IsJournal s (e ∷ q) → IsUncancelled (e ∷ q) → more ++ e ∷ q ≡ past → DidSoFar (e ∷ q)
          by_kind (entry.Event (Submit (owner.Call lane call) id r)) j u whole =
              goes_on q (entry.Event (Submit (owner.Call lane call) id r)) refl refl
              (λ at t. call_asks s by.lanes config first steps q lane call id r at j t) d
          by_kind (entry.Event (Submit owner.Setup id r)) j u whole =
              goes_on q (entry.Event (Submit owner.Setup id r)) refl refl (λ at t guard.
              let may = next_may s q (entry.Event (Submit owner.Setup id r)) (calm q u) (t guard).idle j.0 in
              asks_limits s by.lanes config first steps q id r at may.1 may.2 t guard) d
          by_kind (entry.Event (Submit owner.Close id r)) j u whole =
              goes_on q (entry.Event (Submit owner.Close id r)) refl refl (λ at t. no_next at id r u j t) d
          by_kind (entry.Event Send) j u whole = goes_on q (entry.Event Send) refl refl
              (λ at t. sends s by.lanes config first steps q at t) d
          by_kind (entry.Event (Take id r)) j u whole = goes_on q (entry.Event (Take id r)) refl refl
              (λ at t. takes s by.lanes config first steps q id r at j t) d
          by_kind (entry.Event (Cancel lane)) j u whole = absurd u
          by_kind (entry.Event (End lane call o)) j u whole =
              let e = ending s q lane call o j in
              let zero_is : lane ≡ 0 = lane_zero s by.lanes config first steps lane (lane_there s q lane j.1 e.some) in
              let num : call ≡ count_ended q 0 = e.at ∙ ap (count_ended q) zero_is in
              let same : entry.Event (End lane call o) ≡ entry.Event (End 0 (count_ended q 0) o) =
              (λ i. entry.Event (End (zero_is i) (num i) o)) in
              subst (λ (x : Entry). DidSoFar (x ∷ q)) (sym same)
              (end_did q more o (subst (λ (x : Entry). more ++ x ∷ q ≡ past) same whole)
              (subst (λ (x : Entry). IsJournal s (x ∷ q)) same j) u d)
          by_kind (entry.Added lane c) j u whole =
              let may = may_of s q (entry.Added lane c) j.0 (λ g m. cc (m.1.1)) (λ la x. cc x) in
              let zero_is : lane ≡ 0 = lane_zero s by.lanes config first steps lane may.0 in
              let held : was_let_go q 0 ≡ false = ap (was_let_go q) (sym zero_is) ∙ may.1 in
              let calls : calls_done (entry.Added lane c ∷ q) ≡ calls_done q =
              subst (λ (l : ℕ). calls_done (entry.Added l c ∷ q) ≡ calls_done q) (sym zero_is)
              (take-append-le (count_ended q 0) (calls_added_to q 0) (c ∷ []) (calls_within q j.1)) in
              goes_on q (entry.Added lane c) calls refl (λ at t. adds s by.lanes config first steps q lane c at j.1
              zero_is held t) d
          by_kind (entry.LetGo lane) j u whole =
              let may = may_of s q (entry.LetGo lane) j.0 (λ g m. cc (m.1.1)) (λ la x. cc x) in
              let zero_is : lane ≡ 0 = lane_zero s by.lanes config first steps lane may.0 in
              let held : was_let_go q 0 ≡ false = ap (was_let_go q) (sym zero_is) ∙ may.2 in
              let idle : current s q 0 ≡ None = ap (current s q) (sym zero_is) ∙ may.1 in
              goes_on q (entry.LetGo lane) refl refl (λ at t. lets_go s by.lanes config first steps q lane at zero_is
              idle held t) d
          by_kind (entry.Kept fault) j u whole = goes_on q (entry.Kept fault) refl refl
              (λ at t. keeps_fault s by.lanes config first steps q fault at t) d

  no_steps : (xs : List Step) → asked_in xs ≡ [] → xs ≡ []
  no_steps [] e = refl
  no_steps (x ∷ xs) e = absurd cc

  -- All calls that were added did so, and the machine is left with these files where nothing is open then.
  pub journal_did : IsOver s past → AllDid s.facts.write_len (at_rest first) (calls_added_to past 0)
      (outcomes_of past 0) (after config first steps)
  journal_did over =
      let gone : was_let_go past 0 ≡ true = over.0 0 (one_there s by.lanes config first steps) in
      let idle = let_go_idle s past by.run gone in
      let all : calls_done past ≡ calls_added_to past 0 =
      (let beyond = not_beyond (calls_added_to past 0) (count_ended past 0) (added_call past ∙ idle) in
      take_all (count_ended past 0) (calls_added_to past 0) beyond) in
      subst (λ (w : List Outcome). AllDid s.facts.write_len (at_rest first) (calls_added_to past 0) w
      (after config first steps)) (append-nil (outcomes_of past 0))
      (subst (λ (w : List Call). AllDid s.facts.write_len (at_rest first) w (outcomes_of past 0 ++ [])
      (after config first steps))
      (append-nil (calls_done past) ∙ all) (did_so_far past [] refl [] [] (after config first steps)
      (λ at t none. left_is gone idle at t none)))
    where
      left_is : was_let_go past 0 ≡ true → current s past 0 ≡ None → (at : FilesAt) → Then past at → at.slot ≡ None
          → at.tree ≡ bare (after config first steps)
      left_is gone idle at t none =
          let r = subst (λ (x : Option Call). At past at x) idle (t
          (subst (λ (x : Option Call). Guard x (was_let_go past 0) at) (sym idle)
          (subst (λ (b : Bool). Guard None b at) (sym gone) none))) in
          let whole : asked_in r.xs ++ asked_in r.rest ≡ asked_in r.xs ++ [] =
          sym (map-append (λ (st : Step). (let p : ℕ × Request = (st.place, st.request) in p)) r.xs r.rest)
          ∙ (ap asked_in (sym r.split) ∙ (by.asks ∙ (sym r.requests ∙ ap (λ (w : Own). asked_in r.xs ++ w) r.asks)))
          in
          let nothing : r.rest ≡ [] = no_steps r.rest (append_cancel_left (asked_in r.xs) (asked_in r.rest) [] whole) in
          let same : steps ≡ r.xs = r.split ∙ (ap (λ (w : List Step). r.xs ++ w) nothing ∙ append-nil r.xs) in
          r.is.tree_is ∙ ap (λ (w : List Step). bare (after config first w)) (sym same)
