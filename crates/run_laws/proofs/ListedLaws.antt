-- Listings stand among the requests of others in a journal that a file machine serves.
use Rattle.std.proofs.Common.{
  ◌≡◌,
  ◌≢◌,
  ◌<◌,
  ℕ,
  Bool,
  true,
  false,
  List,
  [],
  ◌∷◌,
  ◌++◌,
  drop,
  Option,
  Some,
  if◌then◌else◌,
  refl,
  ap,
  sym,
  ◌∙◌,
  subst,
  arith,
  inl,
  inr,
}
use Rattle.std.specs.Prelude.{◌==◌}
use Rattle.std.proofs.lemmas.Bool.{and_parts, both_ways, cases_lt, eqb-true}
use Rattle.std.proofs.lemmas.Bool.Decides.{eqb_tells}
use Rattle.std.proofs.lemmas.List.{map-append}
use Rattle.sftp_model.specs.declared.config.Choice.{Choice}
use Rattle.sftp_model.specs.declared.config.ServerConfig.{ServerConfig}
use Rattle.sftp_model.specs.declared.error.Error.TheVariants as error
use Rattle.sftp_model.specs.declared.error.IoKind.TheVariants as kind
use Rattle.sftp_model.specs.declared.outcome.Outcome.{Outcome}
use Rattle.sftp_model.specs.declared.outcome.Outcome.TheVariants as outcome
use Rattle.sftp_model.specs.declared.reply.NameEntry.{NameEntry}
use Rattle.sftp_model.specs.declared.reply.Reply.TheVariants as reply
use Rattle.sftp_model.specs.declared.request.Request.{Request}
use Rattle.sftp_model.specs.declared.request.Request.TheVariants as request
use Rattle.sftp_model.specs.declared.slot.Facts.{Facts}
use Rattle.sftp_model.specs.declared.slot.Move.TheVariants.{Ask, Done}
use Rattle.sftp_model.specs.declared.slot.Site.{Site}
use Rattle.machine_model.specs.Changes.{ClosesHandle, ListsEntries}
use Rattle.machine_model.specs.FileTree.{FileTree}
use Rattle.machine_model.specs.Pairs.{HasEntry}
use Rattle.machine_model.specs.TreeAnswers.{apply, first_choice}
use Rattle.plan_model.specs.declared.call.Call.TheVariants as call
use Rattle.sftp_model.specs.Frames.{is_too_long}
use Rattle.plan_model.specs.Moves.{Answers, Own, handle_of}
use Rattle.plan_model.specs.PathPlans.{from_directory}
use Rattle.plan_model.specs.WholePlans.{entries_next}
use Rattle.session_model.specs.declared.entry.Entry.{Entry}
use Rattle.session_model.specs.declared.event.Owner.{Owner}
use Rattle.session_model.specs.declared.event.Owner.TheVariants as owner
use Rattle.session_model.specs.declared.turn.Turn.{Turn}
use Rattle.session_model.specs.Calls.{Setting}
use Rattle.session_model.specs.Grants.{is_asked_by, is_close}
use Rattle.session_model.specs.Journals.{IsJournal}
use Rattle.session_model.specs.Readings.{AskedRequest, answer, count_submitted, asked_at, is_by, own, count_sent}
use Rattle.session_model.specs.Runs.{IsRun}
use Rattle.session_model.specs.Served.{ServesJournal, ServesAll, requests_sent}
use Rattle.session_model.proofs.OverLaws.{runs_are_journals}
use Rattle.session_model.proofs.RequestLaws.{sent_asked}
use Rattle.run_laws.specs.Bearing.{BearsHandle, IsOfAsker, UsesGrant, grant_at, subject, grant_used_at}
use Rattle.run_laws.specs.CallsAmong.{HasEnded, StandListing, StandsOnDirectory, asked_by}
use Rattle.run_laws.specs.GrantUses.{IsUsed}
use Rattle.run_laws.specs.InJournals.{AreBelow}
use Rattle.run_laws.specs.Listings.{IsListed, before_place, site_at}
use Rattle.run_laws.specs.Steps.{ChooseOnly, FeignNoEnd, FeignsNoEnd, IsAnyChoice, Step, AreServed, answer_to, asked_in}
use Rattle.run_laws.proofs.AmongLaws.{later_above, low_known, not_own, other_with, own_with, with_own, with_own_well}
use Rattle.run_laws.proofs.BackLaws.{OpensFirst, granted_by, opened_first}
use Rattle.run_laws.proofs.CutLaws.{has_parts, known_has, known_parts, one_at, pair_is, rising_distinct, rising_parts}
use Rattle.run_laws.proofs.GrantAtLaws.{grant_of_subject, used_well}
use Rattle.run_laws.proofs.GrantLaws.{AreKept, AreKinds, grants_are_kept, kinds_as, kinds_of}
use Rattle.run_laws.proofs.LaidLaws.{below_has, own_at}
use Rattle.run_laws.proofs.LaneLaws.{ACall, TheSession, WhoAsked, in_turn, one_lane, who_asked}
use Rattle.run_laws.proofs.ListLaws.{lists_begin, lists_directory, lists_each_once, opendir_is}
use Rattle.run_laws.proofs.MoveWords.{outcome_of}
use Rattle.run_laws.proofs.OwnLaws.{has_call, own_listed}
use Rattle.run_laws.proofs.RunLaws.{seen_after}
use Rattle.run_laws.proofs.SentLaws.{AreAll, AreKnown, AreRising, IsAt, all_sent}
use Rattle.run_laws.proofs.ServedSteps.{HasRequest, steps_ask, steps_leave, steps_of, steps_served}
use Rattle.run_laws.proofs.TreeAtLaws.{IsSplit, rest_honest, served_tree, served_two, split_at}
use Rattle.run_laws.proofs.UseLaws.{UseWell, above_has, use_grants}
use Rattle.run_laws.proofs.UsedLaws.{some_is, uses_grant}
use Rattle.run_laws.proofs.WholeRunSent.{whole_run_sent}

-- ---- who takes entries

-- a lane that asks by a grant asked for it
pub lane_asker : (past : List Entry) (o : Owner) (g l c : ℕ) → is_by o l c ≡ true → IsOfAsker past o g → (earlier : ℕ)
    × (is_asked_by (asked_at past g) l earlier ≡ true)
lane_asker past (owner.Call lane n) g l c mine asker = (
  asker.0,
  subst (λ (k : ℕ). is_asked_by (asked_at past g) k asker.0 ≡ true)
      (eqb-true lane l (and_parts (lane == l) (n == c) mine).0) asker.1,
)
lane_asker past owner.Setup g l c mine asker = absurd cc
lane_asker past owner.Close g l c mine asker = absurd cc

-- Between two requests of a call, a READDIR by what its first one brought is its own.
readdir_is_own : (s : Setting) (past : List Entry) (lane k p q : ℕ) (first : ℕ × Request) (later : Own)
    (a : AskedRequest)
    (h : List ℕ) → IsJournal s past → own past lane k ≡ first ∷ later → first.0 < p → p < q
    → is_asked_by (asked_at past q) lane k ≡ true → asked_at past p ≡ Some a → a.request ≡ request.Readdir h
    → grant_used_at s past p h ≡ Some first.0 → is_asked_by (asked_at past p) lane k ≡ false → ⊥
readdir_is_own s past lane k p q first later a h j own_is above below mine is lists uses out =
    by_who (who_asked s past p a j is)
  where
    u : UsesGrant s past p a.by h
    u = uses_grant s past p a h j is (subst (λ (r : Request). BearsHandle r h) (sym lists) refl)

    asker : IsOfAsker past a.by first.0
    asker = subst (IsOfAsker past a.by) (some_is u.grant first.0 (sym u.is ∙ uses)) u.asker

    first_mine : is_asked_by (asked_at past first.0) lane k ≡ true
    first_mine = has_call past lane k first.0 (first ∷ later) own_is (inl refl)

    by_lane : (c : ℕ) → is_asked_by (asked_at past p) lane c ≡ true → ⊥
    by_lane c theirs =
        elim (eqb_tells c k) [
          | inl t ↦ both_ways (is_asked_by (asked_at past p) lane k) out
              (subst (λ (n : ℕ). is_asked_by (asked_at past p) lane n ≡ true) t.1 theirs)
          | inr t ↦ elim (cases_lt c k) [
            | inl low ↦ (let early : p < first.0 = in_turn s past lane c k p first.0 j low theirs first_mine in
                omega (arith, early, above))
            | inr le ↦ (let ne : c ≢ k = t.1 in let late : q < p =
                in_turn s past lane k c q p j (omega (arith, le, ne)) mine theirs in omega (arith, late, below))
          ]
        ]

    by_who : WhoAsked past p a → ⊥
    by_who (TheSession (inl closes)) = (let clash : false ≡ true = sym (ap is_close lists) ∙ closes in cc)
    by_who (TheSession (inr queries)) = (let clash : request.Readdir h ≡ request.LimitsQuery = sym lists ∙ queries in
        cc)
    by_who (ACall l c theirs) =
        let by_it : is_by a.by l c ≡ true = ap (λ x. is_asked_by x l c) (sym is) ∙ theirs in
        let asked_for = lane_asker past a.by first.0 l c by_it asker in
        let same : l ≡ lane = (one_lane past first.0 l lane asked_for.0 k asked_for.1 first_mine).0 in
        by_lane c (subst (λ (n : ℕ). is_asked_by (asked_at past p) n c ≡ true) same theirs)

lists_is : (r : Request) (h : List ℕ) → ListsEntries r h → r ≡ request.Readdir h
lists_is (request.Readdir handle) h e = ap (λ (w : List ℕ). request.Readdir w) e
lists_is other h e = absurd e

-- ---- the steps

choose_any : (steps : List Step) → ChooseOnly IsAnyChoice steps
choose_any [] = tt
choose_any (s ∷ steps) = (tt, choose_any steps)

first_honest : (choices : List Choice) → FeignNoEnd choices → FeignsNoEnd (first_choice choices)
first_honest [] h = λ e. cc
first_honest (c ∷ choices) h = h.0

steps_honest : (config : ServerConfig) (past : List Entry) (tree : FileTree) (choices : List Choice) (requests : Own)
    (now : FileTree) (s : ServesAll config past tree choices requests now) → FeignNoEnd choices
    → ChooseOnly FeignsNoEnd (steps_of config past tree choices requests now s)
steps_honest config past tree choices [] now s h = tt
steps_honest config past tree choices (r ∷ requests) now s h = (
  first_honest choices h,
  steps_honest config past (apply tree config r.1 (first_choice choices) s.0).1
      (drop 1 choices) requests now s.1.2 (rest_honest choices h),
)

pub used_there : (grant_of : ℕ → Option ℕ) (g place : ℕ) (steps : List Step) → HasRequest (asked_in steps) place
    → grant_of place ≡ Some g → IsUsed grant_of g steps
used_there grant_of g place [] has uses = absurd has
used_there grant_of g place (s ∷ steps) (inl here) uses = inl (ap grant_of here ∙ uses)
used_there grant_of g place (s ∷ steps) (inr has) uses = inr (used_there grant_of g place steps has uses)

pub kept_rest : (answers : Answers) (grant_of : ℕ → Option ℕ) (seen : List ℕ) (xs ys : List Step)
    → AreKept answers grant_of seen (xs ++ ys) → AreKept answers grant_of (seen_after seen xs) ys
kept_rest answers grant_of seen [] ys kept = kept
kept_rest answers grant_of seen (x ∷ xs) ys kept = kept_rest answers grant_of (x.place ∷ seen) xs ys kept.1

-- Steps behind the first request of a listing, in which its further ones stand.
listing_stands : (chosen : Choice → Type 0) (s : Setting) (config : ServerConfig) (past : List Entry) (lane k n m : ℕ)
    (first : ℕ × Request) (all : Own) (h : List ℕ) (steps : List Step) (later : Own) (seen : List ℕ) (tree : FileTree)
    → IsJournal s past → own past lane k ≡ first ∷ all → answer past first.0 ≡ Some (reply.Handle h)
    → HasEntry seen first.0
    → AreKept (answer past) (with_own past lane k first.0 (grant_at s past)) seen steps
    → ChooseOnly chosen steps → AreRising (asked_in steps) → AreKnown past n (asked_in steps)
    → ((place : ℕ) → HasRequest (asked_in steps) place → first.0 < place)
    → AreRising later → AreKnown past m later → ((place : ℕ) → HasRequest later place → HasRequest all place)
    → ((place : ℕ) → HasRequest later place → HasRequest (asked_in steps) place)
    → ((place : ℕ) → HasRequest (asked_in steps) place → HasRequest all place → HasRequest later place)
    → StandListing chosen config h later tree steps
listing_stands chosen s config past lane k n m first all h steps [] seen tree j own_is came there kept honest rising
    known above rising' known' mine within sub = tt
listing_stands chosen s config past lane k n m first all h [] (a ∷ later) seen tree j own_is came there kept honest
    rising known above rising' known' mine within sub = absurd (within a.0 (inl refl))
listing_stands chosen s config past lane k n m first all h (t ∷ steps) (a ∷ later) seen tree j own_is came there kept
    honest rising known above rising' known' mine within sub =
    elim (eqb_tells t.place a.0) [
      | inl here ↦ inl (
        here.1,
        one_at past (asked_by t) a known.0.1 known'.0.1 here.1,
        honest.0,
        listing_stands chosen s config past lane k n m first all h steps later (t.place ∷ seen)
            (answer_to config tree t).1 j own_is came (inr there) kept.1 honest.1 rising.1 known.1
            (λ place has. above place (inr has)) rising'.1 known'.1
            (λ place has. mine place (inr has))
            (λ place has. elim (within place (inr has)) [
              | inl e ↦ absurd (let lt : a.0 < place = above_has a.0 place later rising'.0 has in let same : t.place
                  ≡ place = e in let one : t.place ≡ a.0 = here.1 in omega (arith, lt, same, one))
              | inr more ↦ more
            ])
            (λ place has own_it. elim (sub place (inr has) own_it) [
              | inl e ↦ absurd (let lt : t.place < place = above_has t.place place (asked_in steps) rising.0 has in
                  let same : a.0 ≡ place = e in let one : t.place ≡ a.0 = here.1 in omega (arith, lt, same, one))
              | inr more ↦ more
            ]),
      )
      | inr apart ↦ inr (
        subst (λ (w : List ℕ). ClosesHandle t.request w → ⊥) (ap handle_of came) (guarded apart.1).0,
        λ lists. other_lists apart.1 (lists_is t.request h lists),
        listing_stands chosen s config past lane k n m first all h steps (a ∷ later) (t.place ∷ seen)
            (answer_to config tree t).1 j own_is came (inr there) kept.1 honest.1 rising.1 known.1
            (λ place has. above place (inr has)) rising' known' mine
            (λ place has. elim (within place has) [
              | inl e ↦ absurd
                  (not_mine apart.1 (subst (λ (p : ℕ). HasRequest (a ∷ later) p) (sym e) has))
              | inr more ↦ more
            ])
            (λ place has own_it. sub place (inr has) own_it),
      )
    ]
  where
    grant_of : ℕ → Option ℕ
    grant_of = with_own past lane k first.0 (grant_at s past)

    -- the call's next request stands behind
    behind : t.place ≢ a.0 → HasRequest (asked_in steps) a.0
    behind apart = elim (within a.0 (inl refl)) [ inl e ↦ absurd (apart e) | inr more ↦ more ]

    not_mine : t.place ≢ a.0 → HasRequest (a ∷ later) t.place → ⊥
    not_mine apart (inl e) = apart (sym e)
    not_mine apart (inr has) =
        let lt : a.0 < t.place = above_has a.0 t.place later rising'.0 has in let low : t.place < a.0 =
        above_has t.place a.0 (asked_in steps) rising.0 (behind apart) in omega (arith, lt, low)

    guarded : t.place ≢ a.0 → (ClosesHandle t.request (handle_of (answer past first.0)) → ⊥)
        × ((other : ℕ) → grant_of t.place ≡ Some other → handle_of (answer past other) ≡ handle_of (answer past first.0)
        → other ≡ first.0)
    guarded apart = kept.0 first.0 there (used_there grant_of first.0 a.0 steps (behind apart)
        (own_with past lane k a.0 first all (grant_at s past) own_is (mine a.0 (inl refl))))

    other_lists : t.place ≢ a.0 → t.request ≡ request.Readdir h → ⊥
    other_lists apart lists =
        let here : IsAt past (asked_by t) = known.0.1 in
        let asks : here.0.request ≡ request.Readdir h = here.1.1 ∙ lists in
        let high : first.0 < t.place = above t.place (inl refl) in
        let out : is_asked_by (asked_at past t.place) lane k ≡ false =
        not_own past lane k t.place first all own_is high (λ has. not_mine apart (sub t.place (inl refl) has)) in
        let u : UsesGrant s past t.place here.0.by h = uses_grant s past t.place here.0 h j here.1.0
        (subst (λ (r : Request). BearsHandle r h) (sym asks) refl) in
        let is : grant_of t.place ≡ Some u.grant = other_with past lane k t.place first.0 (grant_at s past) out
        ∙ (grant_of_subject s past t.place here.0 h here.1.0 (ap subject asks) ∙ u.is) in
        let same : u.grant ≡ first.0 = (guarded apart).1 u.grant is (ap handle_of (u.came ∙ sym came)) in
        readdir_is_own s past lane k t.place a.0 first all here.0 h j own_is high
        (above_has t.place a.0 (asked_in steps) rising.0 (behind apart))
        (has_call past lane k a.0 (first ∷ all) own_is (inr (mine a.0 (inl refl)))) here.1.0 asks
        (u.is ∙ ap (λ (g : ℕ). Some g) same) out

-- ---- the call

list_opens : (path : List ℕ) (bound : ℕ) (site : Site) (facts : Facts) (first : ℕ × Request)
    → OpensFirst (call.List path bound) site facts first
list_opens path bound site facts first l answers r e = opened_first first.0 (answers first.0) site
    (λ handle. entries_next handle [] bound site l answers) r e

-- a call that asked nothing ended without names
none_asked : (b : Bool) (o : Outcome) (site left : Site) (r : Request) (names : List NameEntry)
    → (o ≡ outcome.Names names → ⊥) → (if b then Done o site else Ask r) ≡ Done (outcome.Names names) left → ⊥
none_asked true o site left r names not e = not (ap outcome_of e)
none_asked false o site left r names not e = (let both : outcome.NoFile ≡ outcome.Names names = ap outcome_of e in cc)

-- In a whole run that a file machine serves, a call that listed a directory gave its first entries, and all where no
-- choice feigns an end.
pub run_lists : (s : Setting) (config : ServerConfig) (choices : List Choice) (first now : FileTree) (turns : List Turn)
    (past : List Entry) (lane k : ℕ) (path : List ℕ) (bound : ℕ) (names : List NameEntry)
    → IsRun s turns past → ServesJournal config choices first past now
    → HasEnded (call.List path bound) (site_at s past lane k) s.facts (own past lane k) (answer past)
    (outcome.Names names) → IsListed s config choices first past lane k path names
run_lists s config choices first now turns past lane k path bound names run serves e = by_own (own past lane k) refl e
  where
    j : IsJournal s past
    j = runs_are_journals s turns past run

    site : Site
    site = site_at s past lane k

    all : AreAll past (count_sent past) [] (requests_sent past)
    all = all_sent past

    below : (opendir : ℕ × Request) (later : Own) → own past lane k ≡ opendir ∷ later
        → AreBelow (count_sent past) (opendir ∷ later)
    below opendir later is = subst (AreBelow (count_sent past)) is (whole_run_sent s turns past lane k run)

    by_split : (opendir : ℕ × Request) (later : Own) → own past lane k ≡ opendir ∷ later
        → HasEnded (call.List path bound) site s.facts (opendir ∷ later) (answer past) (outcome.Names names)
        → IsSplit config past first choices (requests_sent past) now opendir.0
        → IsListed s config choices first past lane k path names
    by_split opendir later is e split =
        record {
          place = opendir.0;
          asked = at.0;
          stands = at.1.0;
          by = asked_it at.0.by (ap (λ x. is_asked_by x lane k) (sym at.1.0)
              ∙ has_call past lane k opendir.0 (opendir ∷ later) is (inl refl));
          asks = at.1.1 ∙ opendir_is path bound site s.facts opendir later (answer past) (outcome.Names names) e;
          tree = split.at;
          had = split.front;
          begins = lists_begin config (answer past) path bound site s.facts later names split.at step rest any
              first_ended;
          entries = λ honest. lists_directory config (answer past) path bound site s.facts later names split.at step
              rest
              (stands FeignsNoEnd e (steps_honest config past (apply split.at config split.r.1 (first_choice split.left)
              split.back.0).1 (drop 1 split.left) split.rest now split.back.1.2
              (rest_honest split.left (split.honest honest)))) first_ended;
          once = λ t. lists_each_once config (answer past) path bound site s.facts later names split.at step rest
              (served_tree config past first choices (before_place opendir.0 (requests_sent past)) split.at split.front
              t) any first_ended;
        }
      where
        at : IsAt past opendir
        at = own_at past lane k opendir later is

        asked_it : (o : Owner) → is_by o lane k ≡ true → o ≡ owner.Call lane k
        asked_it (owner.Call l c) test = let both = and_parts (l == lane) (c == k) test in
            λ i. owner.Call (eqb-true l lane both.0 i) (eqb-true c k both.1 i)
        asked_it owner.Setup test = absurd cc
        asked_it owner.Close test = absurd cc

        front : List Step
        front = steps_of config past first choices (before_place opendir.0 (requests_sent past)) split.at split.front

        step : Step
        step = record {
          place = split.r.0;
          request = split.r.1;
          choice = first_choice split.left;
          handle =
              split.back.0;
        }

        rest : List Step
        rest = steps_of config past (apply split.at config split.r.1 (first_choice split.left) split.back.0).1
            (drop 1 split.left) split.rest now split.back.1.2

        whole : List Step
        whole = front ++ step ∷ rest

        asks_all : asked_in whole ≡ requests_sent past
        asks_all =
            map-append (λ (t : Step). (let p : ℕ × Request = (t.place, t.request) in p)) front (step ∷ rest)
            ∙ (λ i. steps_ask config past first choices (before_place opendir.0 (requests_sent past)) split.at
            split.front i ++ steps_ask config past split.at split.left (split.r ∷ split.rest) now split.back i)
            ∙ sym split.is

        whole_all : AreAll past (count_sent past) [] (asked_in whole)
        whole_all = subst (AreAll past (count_sent past) []) (sym asks_all) all

        served_rest : AreServed config (answer past) split.at (step ∷ rest)
        served_rest = steps_served config past split.at split.left (split.r ∷ split.rest) now split.back

        served : AreServed config (answer past) first whole
        served =
            served_two config (answer past) first front (step ∷ rest)
            (steps_served config past first choices (before_place opendir.0 (requests_sent past)) split.at
            split.front)
            (subst (λ (t : FileTree). AreServed config (answer past) t (step ∷ rest))
            (steps_leave config past first choices (before_place opendir.0 (requests_sent past)) split.at
            split.front) served_rest)

        known : AreKnown past (count_sent past) (asked_in front)
            × AreKnown past (count_sent past) (asked_in (step ∷ rest))
        known = known_parts past (count_sent past) front (step ∷ rest) whole_all.known

        rising : AreRising (asked_in (step ∷ rest))
        rising = (rising_parts front (step ∷ rest) whole_all.rising).1

        is_first : asked_by step ≡ opendir
        is_first = pair_is step opendir split.here (one_at past (asked_by step) opendir known.1.0.1 at split.here)

        own_known : AreKnown past (count_submitted past) (opendir ∷ later)
        own_known = subst (AreKnown past (count_submitted past)) is (own_listed past lane k).1

        own_rising : AreRising (opendir ∷ later)
        own_rising = subst AreRising is (own_listed past lane k).0

        within : (place : ℕ) → HasRequest later place → HasRequest (asked_in rest) place
        within place has =
            let high : opendir.0 < place = later_above past lane k place opendir later is has in
            let one : step.place ≡ opendir.0 = split.here in
            elim (whole_all.complete place lane k (below_has (count_sent past) place later (below opendir later is).1
            has)
            (has_call past lane k place (opendir ∷ later) is (inr has))) [
              | inl seen ↦ absurd seen
              | inr there ↦ elim (has_parts front (step ∷ rest) place there) [
                | inl low ↦ absurd (let lt : place < step.place = known_has past step.place place (asked_in front)
                    (low_known past (count_sent past) front rest step whole_all.rising known.0) low in
                    omega (arith, lt, one, high))
                | inr (inl same) ↦ absurd (let here : step.place ≡ place = same in omega (arith, here, one, high))
                | inr (inr more) ↦ more
              ]
            ]

        by_handle : (chosen : Choice → Type 0) → ChooseOnly chosen rest → (h : List ℕ) → answer past opendir.0
            ≡ Some (reply.Handle h) → ((place : ℕ) → HasRequest later place → (h : List ℕ)
            × (answer past opendir.0 ≡ Some (reply.Handle h)))
            → StandListing chosen config (handle_of (answer past step.place)) later (answer_to config split.at step).1
            rest
        by_handle chosen chose h came granted =
            subst (λ (w : List ℕ). StandListing chosen config w later (answer_to config split.at step).1 rest)
            (sym (ap (λ (p : ℕ). handle_of (answer past p)) split.here ∙ ap handle_of came))
            (listing_stands chosen s config past lane k (count_sent past) (count_submitted past) opendir later h rest
            later
            (step.place ∷ seen_after [] front) (answer_to config split.at step).1 j is came (inl split.here) kept.1
            chose rising.1 known.1.1
            (λ place has. let lt : step.place < place = above_has step.place place (asked_in rest) rising.0 has in
            let one : step.place ≡ opendir.0 = split.here in omega (arith, lt, one)) own_rising.1 own_known.1
            (λ place has. has) within
            (λ place has own_it. own_it))
          where
            grant_of : ℕ → Option ℕ
            grant_of = with_own past lane k opendir.0 (grant_at s past)

            well : UseWell s past grant_of
            well = with_own_well s past lane k opendir later (grant_at s past) j
                (record { own_is = is; granted = granted }) (used_well s past j)

            kinds : AreKinds config (answer past) (kinds_of config first whole) first whole
            kinds = kinds_as config (answer past) (kinds_of config first whole) first whole (λ place there. refl)
                (rising_distinct whole whole_all.rising) served

            kept : AreKept (answer past) grant_of (seen_after [] front) (step ∷ rest)
            kept =
                kept_rest (answer past) grant_of [] front (step ∷ rest)
                (grants_are_kept config (answer past) grant_of (kinds_of config first whole) first whole served
                (use_grants s past (count_sent past) grant_of [] whole j (sent_asked past) well whole_all) kinds)

        by_later : (chosen : Choice → Type 0) → ChooseOnly chosen rest → (l : Own) → later ≡ l
            → ((place : ℕ) → HasRequest later place → (h : List ℕ) × (answer past opendir.0 ≡ Some (reply.Handle h)))
            → StandListing chosen config (handle_of (answer past step.place)) later (answer_to config split.at step).1
            rest
        by_later chosen chose [] none granted = subst (λ (l : Own). StandListing chosen config
            (handle_of (answer past step.place)) l (answer_to config split.at step).1 rest) (sym none) tt
        by_later chosen chose (a ∷ l) some granted = (let came =
            granted a.0 (subst (λ (l : Own). HasRequest l a.0) (sym some) (inl refl)) in
            by_handle chosen chose came.0 came.1 granted)

        stands : (chosen : Choice → Type 0) → HasEnded (call.List path bound) site s.facts (opendir ∷ later)
            (answer past) (outcome.Names names) → ChooseOnly chosen rest
            → StandsOnDirectory chosen config (answer past) later split.at step rest
        stands chosen e chose =
            record {
              served = served_rest;
              stands = by_later chosen chose later refl (granted_by (call.List path bound) site s.facts opendir later
                  (answer past) (outcome.Names names) (list_opens path bound site s.facts opendir) e);
            }

        any : StandsOnDirectory IsAnyChoice config (answer past) later split.at step rest
        any = stands IsAnyChoice e (choose_any rest)

        first_ended : HasEnded (call.List path bound) site s.facts (asked_by step ∷ later) (answer past)
            (outcome.Names names)
        first_ended = subst (λ (p : ℕ × Request). HasEnded (call.List path bound) site s.facts (p ∷ later) (answer past)
            (outcome.Names names)) (sym is_first) e

    by_own : (o : Own) → own past lane k ≡ o → HasEnded (call.List path bound) site s.facts o (answer past)
        (outcome.Names names) → IsListed s config choices first past lane k path names
    by_own [] none e =
        let asks : Request = request.Opendir (from_directory site path) in
        absurd (none_asked (is_too_long asks) (outcome.Refused (error.IOError kind.PathTooLong)) site e.left asks names
        (λ same. cc same) e.ends)
    by_own (opendir ∷ later) is e =
        by_split opendir later is e
        (split_at config past first choices (requests_sent past) now opendir.0 serves.0 all.rising
        (elim (all.complete opendir.0 lane k (below opendir later is).0
        (has_call past lane k opendir.0 (opendir ∷ later) is (inl refl)))
        [ inl seen ↦ absurd seen | inr has ↦ has ]))
