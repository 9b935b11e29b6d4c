-- A call's WRITEs in a journal that a file machine serves, among requests that leave the file's bytes.
use Rattle.std.proofs.Common.{
  append_assoc,
  ◌≡◌,
  ◌≢◌,
  ◌<◌,
  ◌≤◌,
  ◌+◌,
  ℕ,
  true,
  false,
  List,
  [],
  ◌∷◌,
  ◌++◌,
  length,
  Option,
  Some,
  None,
  refl,
  ap,
  sym,
  ◌∙◌,
  subst,
  arith,
  inl,
  inr,
}
use Rattle.std.specs.Prelude.{filter, nat_lt}
use Rattle.std.proofs.lemmas.Bool.{both_ways, cases_lt, false_from_ne_true, le-ltb, lt-ltb}
use Rattle.std.proofs.lemmas.Bool.Decides.{eqb_tells}
use Rattle.sftp_model.specs.Answers.{may_answer}
use Rattle.sftp_model.specs.Slots.{slot_at}
use Rattle.sftp_model.specs.declared.config.Choice.{Choice}
use Rattle.sftp_model.specs.declared.config.ServerConfig.{ServerConfig}
use Rattle.sftp_model.specs.declared.outcome.Outcome.TheVariants as outcome
use Rattle.sftp_model.specs.declared.reply.Reply.TheVariants as reply
use Rattle.sftp_model.specs.declared.request.Request.{Request}
use Rattle.sftp_model.specs.declared.request.Request.TheVariants as request
use Rattle.sftp_model.specs.declared.slot.Buffer.{Buffer}
use Rattle.sftp_model.specs.declared.slot.Facts.{Facts}
use Rattle.sftp_model.specs.declared.slot.FileAt.{FileAt}
use Rattle.sftp_model.specs.declared.slot.Site.{Site}
use Rattle.sftp_model.specs.declared.slot.Slot.TheVariants.{Buffered}
use Rattle.machine_model.specs.Changes.{ClosesHandle, IsWellFormed}
use Rattle.machine_model.specs.FileTree.{FileTree, bytes_of, opened_at, written_at}
use Rattle.machine_model.specs.Pairs.{HasEntry}
use Rattle.machine_model.specs.declared.opened.Opened.TheVariants as opened
use Rattle.plan_model.specs.declared.call.Call.TheVariants as call
use Rattle.plan_model.specs.Moves.{Own, handle_of}
use Rattle.session_model.specs.declared.entry.Entry.{Entry}
use Rattle.session_model.specs.declared.turn.Turn.{Turn}
use Rattle.session_model.specs.Calls.{Setting}
use Rattle.session_model.specs.Grants.{is_asked_by}
use Rattle.session_model.specs.Readings.{AskedRequest, answer, count_submitted, asked_at, is_by, own, count_sent}
use Rattle.session_model.specs.Journals.{IsJournal}
use Rattle.session_model.specs.Runs.{IsRun}
use Rattle.session_model.proofs.CallsSoFar.{reply_may}
use Rattle.session_model.proofs.OverLaws.{runs_are_journals}
use Rattle.run_laws.specs.Bearing.{UsesGrant, grant_at, subject}
use Rattle.run_laws.specs.CallsAmong.{HasEnded, asked_by}
use Rattle.run_laws.specs.DeferredWrites.{AllWriteBy, ArePut, StandAlone, WritesAlone, place_behind, tree_at}
use Rattle.run_laws.specs.GrantUses.{WritesBy}
use Rattle.run_laws.specs.InJournals.{AreBelow}
use Rattle.run_laws.specs.Steps.{AreServed, RunOf, Step, after, answer_to, asked_in}
use Rattle.run_laws.proofs.AmongLaws.{low_known}
use Rattle.run_laws.proofs.AnewRuns.{bear_all}
use Rattle.run_laws.proofs.BufferLaws.{WriteBy, flushed_writes}
use Rattle.run_laws.proofs.CutLaws.{IsCut, cut, has_parts, known_has, known_parts, one_at, rising_parts}
use Rattle.run_laws.proofs.GrantAtLaws.{grant_of_subject, served_use_grants, subject_borne}
use Rattle.run_laws.proofs.GrantLaws.{AreKept, grants_are_kept, kinds_as, kinds_of}
use Rattle.run_laws.proofs.LaidLaws.{below_has}
use Rattle.run_laws.proofs.LaneLaws.{all_behind, in_turn}
use Rattle.run_laws.proofs.ListedLaws.{kept_rest, lane_asker, used_there}
use Rattle.run_laws.proofs.NamedLaws.{writes_subject}
use Rattle.run_laws.proofs.OwnLaws.{call_has, has_call, own_listed}
use Rattle.run_laws.proofs.RunLaws.{seen_after}
use Rattle.run_laws.proofs.SentLaws.{AreAll, AreKnown, AreRising, all_sent}
use Rattle.run_laws.proofs.ServedSteps.{HasRequest}
use Rattle.run_laws.proofs.StepLaws.{after_two, served_first, served_rest, steps_well_formed}
use Rattle.run_laws.proofs.UseLaws.{above_has}
use Rattle.run_laws.proofs.UsedLaws.{uses_grant}
use Rattle.run_laws.proofs.WholeRunSent.{whole_run_sent}

-- ---- the steps before a place

steps_before : (p : ℕ) (xs ys : List Step) → ((place : ℕ) → HasRequest (asked_in xs) place → place < p)
    → ((place : ℕ) → HasRequest (asked_in ys) place → p ≤ place) → filter (λ (s : Step). nat_lt s.place p) (xs ++ ys)
    ≡ xs
steps_before p [] [] low high = refl
steps_before p [] (y ∷ ys) low high = rw (le-ltb y.place p (high y.place (inl refl)))
    (steps_before p [] ys low (λ place has. high place (inr has)))
steps_before p (x ∷ xs) ys low high = rw (lt-ltb x.place p (low x.place (inl refl)))
    (ap (λ (l : List Step). x ∷ l) (steps_before p xs ys (λ place has. low place (inr has)) high))

-- the trees around a step
pub record Around (config : ServerConfig) (first : FileTree) (whole xs : List Step) (t : Step) : Type 0 where
  pub came : tree_at config first whole t.place ≡ after config first xs
  pub left : tree_at config first whole (t.place + 1) ≡ (answer_to config (after config first xs) t).1

pub around : (config : ServerConfig) (first : FileTree) (past : List Entry) (n : ℕ) (whole xs steps : List Step)
    (t : Step)
    → whole ≡ xs ++ t ∷ steps → AreRising (asked_in whole) → AreKnown past n (asked_in whole)
    → Around config first whole xs t
around config first past n whole xs steps t is rising known =
    record {
      came = ap (after config first) (ap (filter (λ (s : Step). nat_lt s.place t.place)) is
          ∙ steps_before t.place xs (t ∷ steps) low (λ place has. from place has));
      left = ap (after config first) (ap (filter (λ (s : Step). nat_lt s.place (t.place + 1)))
          (is ∙ sym (append_assoc xs (t ∷ []) steps)) ∙ steps_before (t.place + 1) (xs ++ t ∷ []) steps to above)
          ∙ after_two config first xs (t ∷ []);
    }
  where
    rising_all : AreRising (asked_in (xs ++ t ∷ steps))
    rising_all = subst (λ (l : List Step). AreRising (asked_in l)) is rising

    low : (place : ℕ) → HasRequest (asked_in xs) place → place < t.place
    low place has = known_has past t.place place (asked_in xs)
        (low_known past n xs steps t rising_all (known_parts past n xs (t ∷ steps)
        (subst (λ (l : List Step). AreKnown past n (asked_in l)) is known)).0) has

    rising_t : AreRising (asked_in (t ∷ steps))
    rising_t = (rising_parts xs (t ∷ steps) rising_all).1

    from : (place : ℕ) → HasRequest (asked_in (t ∷ steps)) place → t.place ≤ place
    from place (inl e) = (let here : t.place ≡ place = e in omega (arith, here))
    from place (inr has) = (let lt : t.place < place = above_has t.place place (asked_in steps) rising_t.0 has in
        omega (arith, lt))

    above : (place : ℕ) → HasRequest (asked_in steps) place → t.place + 1 ≤ place
    above place has = (let lt : t.place < place = above_has t.place place (asked_in steps) rising_t.0 has in
        omega (arith, lt))

    to : (place : ℕ) → HasRequest (asked_in (xs ++ t ∷ [])) place → place < t.place + 1
    to place has = elim (has_parts xs (t ∷ []) place has) [
      | inl there ↦ (let lt : place < t.place = low place there in omega (arith, lt))
      | inr (inl e) ↦ (let here : t.place ≡ place = e in omega (arith, here))
      | inr (inr none) ↦ absurd none
    ]

-- ---- the handle stays open

-- a request that writes by a handle isn't answered by a HANDLE
writes_no_handle : (r : Request) (h k : List ℕ) → WritesBy r h → may_answer r (reply.Handle k) ≡ true → ⊥
writes_no_handle (request.Write handle offset content) h k w may = cc
writes_no_handle (request.Fsetstat handle attrs) h k w may = cc
writes_no_handle (request.CopyData from from_offset len to to_offset) h k w may = cc
writes_no_handle other h k w may = w

seen_more : (seen : List ℕ) (xs : List Step) (p : ℕ) → HasEntry seen p → HasEntry (seen_after seen xs) p
seen_more seen [] p has = has
seen_more seen (x ∷ xs) p has = seen_more (x.place ∷ seen) xs p (inr has)

seen_there : (seen : List ℕ) (xs : List Step) (p : ℕ) → HasRequest (asked_in xs) p → HasEntry (seen_after seen xs) p
seen_there seen [] p has = absurd has
seen_there seen (x ∷ xs) p (inl e) = seen_more (x.place ∷ seen) xs p (inl e)
seen_there seen (x ∷ xs) p (inr has) = seen_there (x.place ∷ seen) xs p has

-- no step from a place on closes the handle before one of the call's requests
abbrev Guards : List Entry → ℕ → ℕ → ℕ → List ℕ → List Step → Type 0
Guards past lane k start h whole =
    (xs ys : List Step) (t : Step) (q : ℕ) → whole ≡ xs ++ t ∷ ys → start ≤ t.place → HasRequest (asked_in ys) q
    → is_asked_by (asked_at past q) lane k ≡ true → ClosesHandle t.request h → ⊥

-- A call's requests write by a handle: it is that of a grant which was made before the call, and which no other step
-- closes meanwhile.
guards_of : (s : Setting) (config : ServerConfig) (choices : List Choice) (first now : FileTree) (past : List Entry)
    (lane k : ℕ) (w : ℕ × Request) (written : Own) (h : List ℕ) (run : RunOf config choices first past now)
    → IsJournal s past
    → own past lane k ≡ w ∷ written → w.0 < count_sent past → AllWriteBy past lane k h
    → Guards past lane k w.0 h run.steps
guards_of s config choices first now past lane k w written h run j asks w_sent bears xs ys t q is from has mine =
    by_asked (asked_at past q) refl mine
  where
    all : AreAll past (count_sent past) [] (asked_in (xs ++ t ∷ ys))
    all = subst (λ (l : List Step). AreAll past (count_sent past) [] (asked_in l)) is
        (subst (AreAll past (count_sent past) []) (sym run.asks) (all_sent past))

    kept : AreKept (answer past) (grant_at s past) (seen_after [] xs) (t ∷ ys)
    kept =
        kept_rest (answer past) (grant_at s past) [] xs (t ∷ ys)
        (subst (AreKept (answer past) (grant_at s past) []) is
        (grants_are_kept config (answer past) (grant_at s past) (kinds_of config first run.steps) first run.steps
        run.served (served_use_grants s config choices first past now run j)
        (kinds_as config (answer past) (kinds_of config first run.steps) first run.steps (λ place there. refl)
        run.distinct run.served)))

    by_grant : (a : AskedRequest) → asked_at past q ≡ Some a → is_by a.by lane k ≡ true → ClosesHandle t.request h → ⊥
    by_grant a at by =
        subst (λ (x : List ℕ). ClosesHandle t.request x → ⊥) (ap handle_of u.came)
        (kept.0 u.grant (seen_there [] xs u.grant seen) (used_there (grant_at s past) u.grant q ys has
        (grant_of_subject s past q a h at subject_is ∙ u.is))).0
      where
        subject_is : subject a.request ≡ Some h
        subject_is = writes_subject a.request h (bears q a mine at)

        u : UsesGrant s past q a.by h
        u = uses_grant s past q a h j at (subject_borne a.request h subject_is)

        asker : (earlier : ℕ) × (is_asked_by (asked_at past u.grant) lane earlier ≡ true)
        asker = lane_asker past a.by u.grant lane k by u.asker

        not_own : (x : Option AskedRequest) → asked_at past u.grant ≡ x → is_asked_by x lane k ≡ true → ⊥
        not_own None none own_it = cc
        not_own (Some b) there own_it =
            writes_no_handle b.request h h (bears u.grant b (ap (λ (o : Option AskedRequest). is_asked_by o lane k)
            there
            ∙ own_it) there) (reply_may s past u.grant (reply.Handle h) b j u.came there)

        before : u.grant < w.0
        before =
            elim (eqb_tells asker.0 k) [
              | inl e ↦ absurd (not_own (asked_at past u.grant) refl
                  (subst (λ (n : ℕ). is_asked_by (asked_at past u.grant) lane n ≡ true) e.1 asker.1))
              | inr e ↦ elim (cases_lt asker.0 k) [
                | inl lt ↦ in_turn s past lane asker.0 k u.grant w.0 j lt asker.1
                    (has_call past lane k w.0 (w ∷ written) asks (inl refl))
                | inr le ↦ absurd (let ne : asker.0 ≢ k = e.1 in let late : q < u.grant =
                    in_turn s past lane k asker.0 q u.grant j (omega (arith, le, ne)) mine asker.1 in
                    let early : u.grant < q = u.before in omega (arith, late, early))
              ]
            ]

        seen : HasRequest (asked_in xs) u.grant
        seen = elim (all.complete u.grant lane asker.0 (let lt : u.grant < w.0 = before in omega (arith, lt, w_sent))
            asker.1) [
              | inl none ↦ absurd none
              | inr there ↦ elim (has_parts xs (t ∷ ys) u.grant there) [
                | inl low ↦ low
                | inr (inl e) ↦ absurd (let here : t.place ≡ u.grant = e in let lt : u.grant < w.0 = before in
                    omega (arith, here, lt, from))
                | inr (inr more) ↦ absurd (let high : t.place < u.grant =
                    above_has t.place u.grant (asked_in ys) (rising_parts xs (t ∷ ys) all.rising).1.0 more in
                    let lt : u.grant < w.0 = before in omega (arith, high, lt, from))
              ]
            ]

    by_asked : (x : Option AskedRequest) → asked_at past q ≡ x → is_asked_by x lane k ≡ true → ClosesHandle t.request h
        → ⊥
    by_asked None none own_it = absurd cc
    by_asked (Some a) at own_it = by_grant a at own_it

-- ---- the call among others

-- the request at a place leaves the bytes of the file
abbrev LeavesBytes : ServerConfig → FileTree → List Step → ℕ → ℕ → Type 0
LeavesBytes config first steps file place = bytes_of (tree_at config first steps (place + 1)) file
    ≡ bytes_of (tree_at config first steps place) file

-- steps of which the first ones, up to a place, are the call's requests and such as leave the file
record AreAlone (config : ServerConfig) (file : ℕ) (h : List ℕ) (end : ℕ) (later : Own) (tree : FileTree)
    (steps : List Step) : Type 0 where
  between : List Step
  rest : List Step
  is : steps ≡ between ++ rest
  stand : StandAlone config file h later tree between
  low : (place : ℕ) → HasRequest (asked_in between) place → place < end
  high : (place : ℕ) → HasRequest (asked_in rest) place → end ≤ place

alone_by : (config : ServerConfig) (first : FileTree) (past : List Entry) (n m lane k file start end : ℕ) (h : List ℕ)
    (whole xs steps : List Step) (later : Own) (tree : FileTree)
    → AreRising (asked_in whole) → AreKnown past n (asked_in whole) → whole ≡ xs ++ steps → tree ≡ after config first xs
    → AreRising later → AreKnown past m later → WriteBy h later
    → ((place : ℕ) → HasRequest later place → HasRequest (asked_in steps) place)
    → ((place : ℕ) → HasRequest (asked_in steps) place → is_asked_by (asked_at past place) lane k ≡ true
    → HasRequest later place)
    → ((a : ℕ × Request) (more : Own) → later ≡ a ∷ more → place_behind a more ≡ end)
    → (later ≡ [] → (place : ℕ) → HasRequest (asked_in steps) place → end ≤ place)
    → ((place : ℕ) → HasRequest (asked_in steps) place → place < end → is_asked_by (asked_at past place) lane k ≡ false
    → LeavesBytes config first whole file place)
    → Guards past lane k start h whole → ((place : ℕ) → HasRequest (asked_in steps) place → start ≤ place)
    → ((place : ℕ) → HasRequest later place → is_asked_by (asked_at past place) lane k ≡ true)
    → AreAlone config file h end later tree steps
alone_by config first past n m lane k file start end h whole xs steps [] tree rising known is at rising' known' bear
    within sub ends over others guards from mine =
    record { between = []; rest = steps; is = refl; stand = tt; low = λ place has. absurd has; high = over refl }
alone_by config first past n m lane k file start end h whole xs [] (a ∷ later) tree rising known is at rising' known'
    bear within sub ends over others guards from mine = absurd (within a.0 (inl refl))
alone_by config first past n m lane k file start end h whole xs (t ∷ steps) (a ∷ later) tree rising known is at rising'
    known' bear within sub ends over others guards from mine =
    elim (eqb_tells t.place a.0) [
      | inl here ↦
          (let more = alone_by config first past n m lane k file start end h whole (xs ++ t ∷ []) steps later
          (answer_to config tree t).1 rising known further now rising'.1 known'.1 bear.1
          (λ place has. elim (within place (inr has)) [
            | inl e ↦ absurd (let lt : a.0 < place = above_has a.0 place later rising'.0 has in let same : t.place
                ≡ place = e in let one : t.place ≡ a.0 = here.1 in omega (arith, lt, same, one))
            | inr there ↦ there
          ])
          (λ place has own_it. elim (sub place (inr has) own_it) [
            | inl e ↦ absurd (let lt : t.place < place = above_has t.place place (asked_in steps) rising_t.0 has in
                let same : a.0 ≡ place = e in let one : t.place ≡ a.0 = here.1 in omega (arith, lt, same, one))
            | inr there ↦ there
          ])
          (λ b more same. ap (λ (l : Own). place_behind a l) (sym same) ∙ ends a later refl)
          (λ none place has. let last : a.0 + 1 ≡ end = ap (λ (l : Own). place_behind a l) (sym none)
          ∙ ends a later refl in
          let lt : t.place < place = above_has t.place place (asked_in steps) rising_t.0 has in let one : t.place
          ≡ a.0 = here.1 in omega (arith, last, lt, one))
          (λ place has lt out. others place (inr has) lt out) guards (λ place has. from place (inr has))
          (λ place has. mine place (inr has)) in
          record {
            between = t ∷ more.between;
            rest = more.rest;
            is = ap (λ (l : List Step). t ∷ l) more.is;
            stand = inl (here.1, one_at past (asked_by t) a known_t.0.1 known'.0.1 here.1, bear.0, more.stand);
            low = λ place has. low_t more.between (let one : t.place ≡ a.0 = here.1 in let lt : a.0 < end = to_end in
                omega (arith, one, lt)) more.low place has;
            high = more.high;
          })
      | inr apart ↦
          (let more = alone_by config first past n m lane k file start end h whole (xs ++ t ∷ []) steps (a ∷ later)
          (answer_to config tree t).1 rising known further now rising' known' bear
          (λ place has. elim (within place has) [
            | inl e ↦ absurd (not_mine apart.1
                (subst (λ (p : ℕ). HasRequest (a ∷ later) p) (sym e) has))
            | inr there ↦ there
          ])
          (λ place has own_it. sub place (inr has) own_it) ends (λ none. absurd
          (let clash : a ∷ later ≡ [] = none in cc)) (λ place has lt out. others place (inr has) lt out) guards
          (λ place has. from place (inr has)) mine in
          let leaves : LeavesBytes config first whole file t.place = others t.place (inl refl) (before_end apart.1)
          (false_from_ne_true (is_asked_by (asked_at past t.place) lane k)
          (λ own_it. not_mine apart.1 (sub t.place (inl refl) own_it))) in
          let trees : Around config first whole xs t = around config first past n whole xs steps t is rising known in
          record {
            between = t ∷ more.between;
            rest = more.rest;
            is = ap (λ (l : List Step). t ∷ l) more.is;
            stand = inr (
              subst (λ (x : FileTree). bytes_of (answer_to config x t).1 file ≡ bytes_of x file) (sym at)
                  (ap (λ (x : FileTree). bytes_of x file) (sym trees.left)
                  ∙ (leaves ∙ ap (λ (x : FileTree). bytes_of x file) trees.came)),
              guards xs steps t a.0 is (from t.place (inl refl)) (next apart.1) (mine a.0 (inl refl)),
              more.stand,
            );
            low = λ place has. low_t more.between (before_end apart.1) more.low place has;
            high = more.high;
          })
    ]
  where
    further : whole ≡ (xs ++ t ∷ []) ++ steps
    further = is ∙ sym (append_assoc xs (t ∷ []) steps)

    now : (answer_to config tree t).1 ≡ after config first (xs ++ t ∷ [])
    now = ap (λ (x : FileTree). (answer_to config x t).1) at ∙ sym (after_two config first xs (t ∷ []))

    rising_t : AreRising (asked_in (t ∷ steps))
    rising_t = (rising_parts xs (t ∷ steps) (subst (λ (l : List Step). AreRising (asked_in l)) is rising)).1

    known_t : AreKnown past n (asked_in (t ∷ steps))
    known_t = (known_parts past n xs (t ∷ steps) (subst (λ (l : List Step). AreKnown past n (asked_in l)) is known)).1

    to_end : a.0 < end
    to_end = subst (λ (p : ℕ). a.0 < p) (ends a later refl) (all_behind a later rising').0

    -- the call's next request stands behind
    next : t.place ≢ a.0 → HasRequest (asked_in steps) a.0
    next apart = elim (within a.0 (inl refl)) [ inl e ↦ absurd (apart e) | inr more ↦ more ]

    before_end : t.place ≢ a.0 → t.place < end
    before_end apart = let lt : t.place < a.0 = above_has t.place a.0 (asked_in steps) rising_t.0 (next apart) in
        let last : a.0 < end = to_end in omega (arith, lt, last)

    not_mine : t.place ≢ a.0 → HasRequest (a ∷ later) t.place → ⊥
    not_mine apart (inl e) = apart (sym e)
    not_mine apart (inr has) =
        let lt : a.0 < t.place = above_has a.0 t.place later rising'.0 has in let low : t.place < a.0 =
        above_has t.place a.0 (asked_in steps) rising_t.0 (next apart) in omega (arith, lt, low)

    low_t : (l : List Step) → t.place < end → ((place : ℕ) → HasRequest (asked_in l) place → place < end) → (place : ℕ)
        → HasRequest (asked_in (t ∷ l)) place → place < end
    low_t l lt more place (inl e) = (let here : t.place ≡ place = e in omega (arith, here, lt))
    low_t l lt more place (inr has) = more place has

-- ---- the two calls

-- Bytes that a call of a lane wrote to a buffered file and a flush sent are in the file, in a whole run that a file
-- machine serves.
pub run_flushed : (s : Setting) (config : ServerConfig) (choices : List Choice) (first now : FileTree)
    (turns : List Turn) (past : List Entry) (lane k slot : ℕ) (file : FileAt) (buffer : Buffer) (bytes : List ℕ)
    (flush_site : Site) (flush_facts : Facts)
    (site : Site) (facts : Facts) (flush_own : Own) (run : RunOf config choices first past now) → IsRun s turns past
    → IsWellFormed first → 0 < length bytes → slot_at site slot ≡ Buffered file buffer
    → (written : HasEnded (call.BufWriteAll slot bytes) site facts (own past lane k) (answer past) outcome.Done)
    → slot_at flush_site slot ≡ slot_at written.left slot
    → HasEnded (call.BufFlush slot) flush_site flush_facts flush_own (answer past) outcome.Done → (handle : List ℕ)
    → AllWriteBy past lane k handle → (t : WritesAlone config first past run.steps lane k handle)
    → ArePut config first past run.steps lane k handle t file.offset bytes
run_flushed s config choices first now turns past lane k slot file buffer bytes flush_site flush_facts site facts
    flush_own run whole_run well_formed some there written same flush handle bears t =
    ap (λ (x : FileTree). bytes_of x t.held.file) at_end
    ∙ (flushed_writes config (answer past) slot file buffer bytes site flush_site facts flush_facts (own past lane k)
    flush_own handle t.held began alone.between (steps_well_formed config first c.front well_formed) is_open t.way
    served
    (subst (λ (l : Own). StandAlone config t.held.file handle l began alone.between) (sym t.asks) alone.stand) some
    there written same flush
    ∙ ap (λ (x : FileTree). written_at (bytes_of x t.held.file) file.offset bytes) (sym at_first))
  where
    w : ℕ × Request
    w = t.w

    all : AreAll past (count_sent past) [] (asked_in run.steps)
    all = subst (AreAll past (count_sent past) []) (sym run.asks) (all_sent past)

    c : IsCut past w.0 run.steps
    c = cut past (count_sent past) w.0 run.steps all.known all.rising

    began : FileTree
    began = after config first c.front

    mine : (place : ℕ) → HasRequest (w ∷ t.written) place → is_asked_by (asked_at past place) lane k ≡ true
    mine place has = has_call past lane k place (w ∷ t.written) t.asks has

    own_rising : AreRising (w ∷ t.written)
    own_rising = subst AreRising t.asks (own_listed past lane k).0

    own_known : AreKnown past (count_submitted past) (w ∷ t.written)
    own_known = subst (AreKnown past (count_submitted past)) t.asks (own_listed past lane k).1

    below : AreBelow (count_sent past) (w ∷ t.written)
    below = subst (AreBelow (count_sent past)) t.asks (whole_run_sent s turns past lane k whole_run)

    from : (place : ℕ) → HasRequest (w ∷ t.written) place → w.0 ≤ place
    from place (inl e) = (let here : w.0 ≡ place = e in omega (arith, here))
    from place (inr has) = (let lt : w.0 < place = above_has w.0 place t.written own_rising.0 has in omega (arith, lt))

    within : (place : ℕ) → HasRequest (w ∷ t.written) place → HasRequest (asked_in c.back) place
    within place has =
        elim (all.complete place lane k (below_has (count_sent past) place (w ∷ t.written) below has)
        (mine place has)) [
          | inl seen ↦ absurd seen
          | inr there ↦ elim (has_parts c.front c.back place (subst (λ (l : List Step). HasRequest (asked_in l) place)
              c.is there)) [
                | inl low ↦ absurd (let lt : place < w.0 = known_has past w.0 place (asked_in c.front) c.low low in
                    let le : w.0 ≤ place = from place has in omega (arith, lt, le))
                | inr more ↦ more
              ]
        ]

    others : (place : ℕ) → HasRequest (asked_in c.back) place → place < place_behind w t.written
        → is_asked_by (asked_at past place) lane k ≡ false → LeavesBytes config first run.steps t.held.file place
    others place has lt out =
        elim (eqb_tells w.0 place) [
          | inl e ↦ absurd (both_ways (is_asked_by (asked_at past place) lane k) out (mine place (inl e.1)))
          | inr e ↦ t.others place (let le : w.0 ≤ place = c.high place has in let ne : w.0 ≢ place = e.1 in
              omega (arith, le, ne)) lt out
        ]

    alone : AreAlone config t.held.file handle (place_behind w t.written) (w ∷ t.written) began c.back
    alone =
        alone_by config first past (count_sent past) (count_submitted past) lane k t.held.file w.0
        (place_behind w t.written) handle run.steps
        c.front c.back (w ∷ t.written) began all.rising all.known c.is refl own_rising own_known
        (bear_all past (count_submitted past) lane k handle (w ∷ t.written) own_known mine bears) within
        (λ place has own_it. call_has past lane k place (w ∷ t.written) t.asks own_it)
        (λ a more e. sym (λ i. behind_of (e i))) (λ none. absurd (let clash : w ∷ t.written ≡ [] = none in cc)) others
        (guards_of s config choices first now past lane k w t.written handle run
        (runs_are_journals s turns past whole_run) t.asks below.0 bears) c.high mine
      where
        behind_of : Own → ℕ
        behind_of [] = 0
        behind_of (a ∷ more) = place_behind a more

    at_first : tree_at config first run.steps w.0 ≡ began
    at_first = ap (after config first) (ap (filter (λ (x : Step). nat_lt x.place w.0)) c.is
        ∙ steps_before w.0 c.front c.back (λ place has. known_has past w.0 place (asked_in c.front) c.low has) c.high)

    is_open : opened_at began handle ≡ Some (opened.File t.held)
    is_open = subst (λ (x : FileTree). opened_at x handle ≡ Some (opened.File t.held)) at_first t.is_open

    parts : run.steps ≡ (c.front ++ alone.between) ++ alone.rest
    parts = c.is ∙ (ap (λ (l : List Step). c.front ++ l) alone.is ∙ sym (append_assoc c.front alone.between alone.rest))

    low : (place : ℕ) → HasRequest (asked_in (c.front ++ alone.between)) place → place < place_behind w t.written
    low place has = elim (has_parts c.front alone.between place has) [
      | inl there ↦ (let lt : place < w.0 = known_has past w.0 place (asked_in c.front) c.low there in
          let last : w.0 < place_behind w t.written = (all_behind w t.written own_rising).0 in omega (arith, lt, last))
      | inr more ↦ alone.low place more
    ]

    at_end : tree_at config first run.steps (place_behind w t.written) ≡ after config began alone.between
    at_end =
        ap (after config first) (ap (filter (λ (x : Step). nat_lt x.place (place_behind w t.written))) parts
        ∙ steps_before (place_behind w t.written) (c.front ++ alone.between) alone.rest low alone.high)
        ∙ after_two config first c.front alone.between

    served : AreServed config (answer past) began alone.between
    served =
        served_first config (answer past) began alone.between alone.rest
        (subst (AreServed config (answer past) began) alone.is (served_rest config (answer past) first c.front c.back
        (subst (AreServed config (answer past) first) c.is run.served)))
