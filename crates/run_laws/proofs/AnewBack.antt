-- A file that a lane opened anew and wrote by a later call is read back by a further one.
use Rattle.std.proofs.Common.{
  append_assoc,
  ◌≡◌,
  ◌≢◌,
  ◌<◌,
  ◌≤◌,
  ℕ,
  Bool,
  true,
  false,
  List,
  [],
  ◌∷◌,
  ◌++◌,
  Option,
  Some,
  refl,
  ap,
  sym,
  ◌∙◌,
  subst,
  arith,
  inl,
  inr,
}
use Rattle.std.proofs.lemmas.Bool.{both_ways, cases_lt}
use Rattle.std.proofs.lemmas.Bool.Decides.{eqb_tells}
use Rattle.std.proofs.lemmas.List.{append-nil}
use Rattle.sftp_model.specs.declared.config.Choice.{Choice}
use Rattle.sftp_model.specs.declared.config.ServerConfig.{ServerConfig}
use Rattle.sftp_model.specs.declared.outcome.Outcome.{Outcome}
use Rattle.sftp_model.specs.declared.request.Request.{Request}
use Rattle.sftp_model.specs.declared.slot.Facts.{Facts}
use Rattle.sftp_model.specs.declared.slot.Site.{Site}
use Rattle.machine_model.specs.Changes.{IsWellFormed}
use Rattle.machine_model.specs.Components.{Name, components}
use Rattle.machine_model.specs.FileTree.{FileTree}
use Rattle.plan_model.specs.declared.call.Call.TheVariants as call
use Rattle.plan_model.specs.FilePlans.{open_request}
use Rattle.plan_model.specs.Moves.{Own}
use Rattle.plan_model.specs.PathPlans.{from_directory}
use Rattle.plan_model.specs.WholePlans.{to_replace}
use Rattle.session_model.specs.declared.entry.Entry.{Entry}
use Rattle.session_model.specs.declared.turn.Turn.{Turn}
use Rattle.session_model.specs.Calls.{Setting}
use Rattle.session_model.specs.Grants.{is_asked_by}
use Rattle.session_model.specs.Journals.{IsJournal}
use Rattle.session_model.specs.Readings.{answer, count_submitted, asked_at, own, count_sent}
use Rattle.session_model.specs.Runs.{IsRun}
use Rattle.session_model.specs.Served.{ServesJournal}
use Rattle.session_model.proofs.OverLaws.{runs_are_journals}
use Rattle.session_model.proofs.RequestLaws.{sent_asked}
use Rattle.run_laws.specs.Bearing.{grant_at}
use Rattle.run_laws.specs.CallsAmong.{GivesUnless, HasEnded, asked_by}
use Rattle.run_laws.specs.DeferredWrites.{AreWrites, AreWritten, place_behind, carried_bytes, places}
use Rattle.run_laws.specs.GrantUses.{IsCallOn, IsRunOn, PassesBy}
use Rattle.run_laws.specs.InJournals.{AreBelow, PassesAt, is_elsewhere, is_of_call}
use Rattle.run_laws.specs.Steps.{AreAllowed, ChooseOnly, FeignsNoEnd, Step, asked_in}
use Rattle.run_laws.proofs.AmongLaws.{Brings, among_by, call_on, low_known, not_begun, not_own, other_with, own_with, with_own, with_own_well}
use Rattle.run_laws.proofs.AnewLaws.{anew_writes}
use Rattle.run_laws.proofs.AnewRuns.{LaneOpened, with_call}
use Rattle.run_laws.proofs.BackLaws.{granted_by, read_opens}
use Rattle.run_laws.proofs.CutLaws.{chosen_parts, has_parts, known_has, known_parts, rising_parts}
use Rattle.run_laws.proofs.LaidLaws.{IsFront, IsLaid, below_has, front, front_as, lay_call, lay_rest}
use Rattle.run_laws.proofs.LaneLaws.{all_behind, behind_within, in_turn, lane_comes, not_after, place_passes}
use Rattle.run_laws.proofs.NamedLaws.{passes_by, run_on}
use Rattle.run_laws.proofs.OwnLaws.{call_has, has_call, own_listed}
use Rattle.run_laws.proofs.RunLaws.{reads_after}
use Rattle.run_laws.proofs.SentLaws.{AreAll, AreKnown, AreRising, IsAt}
use Rattle.run_laws.proofs.ServedSteps.{HasRequest}
use Rattle.run_laws.proofs.UseLaws.{UseWell, above_has}
use Rattle.run_laws.proofs.WholeRunSent.{whole_run_sent}

-- A lane to whom a name is opened it to be written anew, wrote to what it opened by a later call, and read the name as
-- a whole by a further one; what its other calls between the first and the last of these ask passes the name by.
pub anew_back : (allowed : Choice → Type 0) (s : Setting) (config : ServerConfig) (choices : List Choice)
    (first now : FileTree) (turns : List Turn) (past : List Entry) (name : Name) (lane opener writer reader : ℕ)
    (w r : ℕ × Request) (written read : Own) (path : List ℕ) (bound : ℕ) (site : Site) (facts : Facts) (ended : Outcome)
    → ((c : Choice) → allowed c → FeignsNoEnd c) → IsRun s turns past → ServesJournal config choices first past now
    → AreAllowed allowed choices → IsWellFormed first → (t : LaneOpened s past name lane opener writer w written)
    → writer < reader → own past lane reader ≡ r ∷ read
    → ((place call : ℕ) → opener < call → call < reader → call ≢ writer → is_of_call past (lane, call) place ≡ true
    → PassesAt s past name place)
    → AreWrites t.handle 0 written → AreWritten (answer past) (places written)
    → UseWell s past (with_call past lane writer w.0 (grant_at s past))
    → components (from_directory site path) ≡ name → 1 ≤ facts.read_len
    → HasEnded (call.FsRead path bound) site facts (r ∷ read) (answer past) ended
    → GivesUnless allowed ended (carried_bytes written)
anew_back allowed s config choices first now turns past name lane opener writer reader w r written read path bound site
    facts ended honest whole_run serves among well_formed t later reads others writes said uses denotes one did =
    by_laid (front allowed config choices first past now n serves among
    (behind_within (count_sent past) r read until_sent))
  where
    n : ℕ
    n = place_behind r read

    j : IsJournal s past
    j = runs_are_journals s turns past whole_run

    until_sent : AreBelow (count_sent past) (r ∷ read)
    until_sent = subst (AreBelow (count_sent past)) reads (whole_run_sent s turns past lane reader whole_run)

    until : AreBelow n (r ∷ read)
    until = all_behind r read (subst AreRising reads (own_listed past lane reader).0)

    last : r.0 < n
    last = until.0

    opener_asked : is_asked_by (asked_at past w.0) lane opener ≡ true
    opener_asked = has_call past lane opener w.0 (w ∷ []) t.opens (inl refl)

    reader_asked : is_asked_by (asked_at past r.0) lane reader ≡ true
    reader_asked = has_call past lane reader r.0 (r ∷ read) reads (inl refl)

    apart : w.0 < r.0
    apart = let lt : opener < writer = t.in_turn in
        in_turn s past lane opener reader w.0 r.0 j (omega (arith, lt, later)) opener_asked reader_asked

    -- the writer's requests stand between the two first ones
    above : (place : ℕ) → is_asked_by (asked_at past place) lane writer ≡ true → w.0 < place
    above place mine = in_turn s past lane opener writer w.0 place j t.in_turn opener_asked mine

    below : (place : ℕ) → is_asked_by (asked_at past place) lane writer ≡ true → place < r.0
    below place mine = in_turn s past lane writer reader place r.0 j later mine reader_asked

    known : AreKnown past (count_submitted past) written
    known = subst (AreKnown past (count_submitted past)) t.asks (own_listed past lane writer).1

    grant_of : ℕ → Option ℕ
    grant_of = with_own past lane reader r.0 (with_call past lane writer w.0 (grant_at s past))

    brings : Brings past lane reader r read
    brings = record {
      own_is = reads;
      granted = granted_by (call.FsRead path bound) site facts r read (answer past) ended
          (read_opens path bound site facts r) did;
    }

    well : UseWell s past grant_of
    well = with_own_well s past lane reader r read (with_call past lane writer w.0 (grant_at s past)) j brings uses

    within : (place c : ℕ) → w.0 < place → place < n → is_asked_by (asked_at past place) lane writer ≡ false
        → is_asked_by (asked_at past place) lane reader ≡ false → is_asked_by (asked_at past place) lane c ≡ true
        → PassesAt s past name place
    within place c high lt out out' mine =
        elim (eqb_tells c opener) [
          | inl u ↦ absurd (by_has (call_has past lane opener place (w ∷ []) t.opens
              (subst (λ (k : ℕ). is_asked_by (asked_at past place) lane k ≡ true) u.1 mine)))
          | inr u ↦ elim (eqb_tells c writer) [
            | inl v ↦ absurd (both_ways (is_asked_by (asked_at past place) lane writer) out
                (subst (λ (k : ℕ). is_asked_by (asked_at past place) lane k ≡ true) v.1 mine))
            | inr v ↦ elim (eqb_tells c reader) [
              | inl x ↦ absurd (both_ways (is_asked_by (asked_at past place) lane reader) out'
                  (subst (λ (k : ℕ). is_asked_by (asked_at past place) lane k ≡ true) x.1 mine))
              | inr x ↦ elim (cases_lt c opener) [
                | inl low ↦ absurd (let early : place < w.0 = in_turn s past lane c opener place w.0 j low mine
                    opener_asked in omega (arith, early, high))
                | inr from ↦ elim (cases_lt reader c) [
                  | inl behind_it ↦ absurd (not_after s past lane reader c place r read j reads lt mine behind_it)
                  | inr to ↦ others place c (let ne : c ≢ opener = u.1 in omega (arith, ne, from))
                      (let ne : c ≢ reader = x.1 in omega (arith, ne, to)) v.1 mine
                ]
              ]
            ]
          ]
        ]
      where
        by_has : HasRequest (w ∷ []) place → ⊥
        by_has (inl e) = (let here : w.0 ≡ place = e in omega (arith, here, high))
        by_has (inr h) = h

    passes : (x : Step) → IsAt past (asked_by x) → w.0 < x.place → x.place < n
        → is_asked_by (asked_at past x.place) lane writer ≡ false → is_asked_by (asked_at past x.place) lane reader
        ≡ false
        → PassesBy (answer past) grant_of (is_elsewhere past name) name x
    passes x at high lt out out' =
        passes_by s past name grant_of x j at
        (other_with past lane reader x.place r.0 (with_call past lane writer w.0 (grant_at s past)) out' ∙ rw out refl)
        (place_passes s past name lane x.place j t.lanes (λ c mine. within x.place c high lt out out' mine))

    not_read : (place : ℕ) → place < r.0 → is_asked_by (asked_at past place) lane reader ≡ false
    not_read place lt = not_begun past lane reader place r read reads lt

    not_written : (place : ℕ) → r.0 ≤ place → is_asked_by (asked_at past place) lane writer ≡ false
    not_written place le = by_test (is_asked_by (asked_at past place) lane writer) refl
      where
        by_test : (b : Bool) → is_asked_by (asked_at past place) lane writer ≡ b → b ≡ false
        by_test true mine = absurd (let lt : place < r.0 = below place mine in omega (arith, lt, le))
        by_test false out = refl

    out_of : (place : ℕ) → (HasRequest written place → ⊥) → is_asked_by (asked_at past place) lane writer ≡ false
    out_of place out = by_test (is_asked_by (asked_at past place) lane writer) refl
      where
        by_test : (b : Bool) → is_asked_by (asked_at past place) lane writer ≡ b → b ≡ false
        by_test true mine = absurd (out (call_has past lane writer place written t.asks mine))
        by_test false none = refl

    -- the two calls in a run of these steps
    ends_so : (before between rest : List Step) (w_step r_step : Step)
        → IsFront allowed config past n first (before ++ ((w_step ∷ between) ++ r_step ∷ rest)) → asked_by w_step ≡ w
        → asked_by r_step ≡ r → GivesUnless allowed ended (carried_bytes written)
    ends_so before between rest w_step r_step f is_w is_r =
        reads_after allowed config (answer past) grant_of (is_elsewhere past name) name first before between rest w_step
        r_step path
        (carried_bytes written) bound site facts written read ended honest chosen well_formed run on_write
        (λ tree sound stands. anew_writes config (answer past) name t.path t.handle written tree w_step between sound
        asks_w t.denotes
        (ap (answer past) at_w ∙ t.came) stands writes said) denotes one on_read
        (subst (λ (p : ℕ × Request). HasEnded (call.FsRead path bound) site facts (p ∷ read) (answer past) ended)
        (sym is_r) did)
      where
        whole : List Step
        whole = before ++ ((w_step ∷ between) ++ r_step ∷ rest)

        at_w : w_step.place ≡ w.0
        at_w = ap (λ (p : ℕ × Request). p.0) is_w

        at_r : r_step.place ≡ r.0
        at_r = ap (λ (p : ℕ × Request). p.0) is_r

        asks_w : w_step.request ≡ open_request to_replace t.path
        asks_w = ap (λ (p : ℕ × Request). p.1) is_w ∙ t.anew

        rising : AreRising (asked_in ((w_step ∷ between) ++ r_step ∷ rest))
        rising = (rising_parts before ((w_step ∷ between) ++ r_step ∷ rest) f.all.rising).1

        rising_w : AreRising (asked_in (w_step ∷ between))
        rising_w = (rising_parts (w_step ∷ between) (r_step ∷ rest) rising).0

        rising_r : AreRising (asked_in (r_step ∷ rest))
        rising_r = (rising_parts (w_step ∷ between) (r_step ∷ rest) rising).1

        fronts : AreKnown past n (asked_in before) × AreKnown past n (asked_in ((w_step ∷ between) ++ r_step ∷ rest))
        fronts = known_parts past n before ((w_step ∷ between) ++ r_step ∷ rest) f.all.known

        parts : AreKnown past n (asked_in (w_step ∷ between)) × AreKnown past n (asked_in (r_step ∷ rest))
        parts = known_parts past n (w_step ∷ between) (r_step ∷ rest) fronts.1

        low : AreKnown past r.0 (asked_in (w_step ∷ between))
        low = subst (λ (k : ℕ). AreKnown past k (asked_in (w_step ∷ between))) at_r
            (low_known past n (w_step ∷ between) rest r_step rising parts.0)

        chosen : ChooseOnly allowed (r_step ∷ rest)
        chosen = (chosen_parts allowed (w_step ∷ between) (r_step ∷ rest)
            (chosen_parts allowed before ((w_step ∷ between) ++ r_step ∷ rest) f.chosen).1).1

        run : IsRunOn config (answer past) grant_of (is_elsewhere past name) name first whole
        run = run_on s config past name n grant_of first whole j
            (let le : count_sent past ≤ count_submitted past = sent_asked past in
            let was : n ≤ count_sent past = behind_within (count_sent past) r read until_sent in omega (arith, le, was))
            well f.all f.served
            (lane_comes s past name lane n j t.lanes)

        in_between : (place : ℕ) → HasRequest written place → HasRequest (asked_in between) place
        in_between place h =
            let mine : is_asked_by (asked_at past place) lane writer ≡ true =
            has_call past lane writer place written t.asks h in
            let high : w.0 < place = above place mine in
            let lt : place < r.0 = below place mine in
            elim (f.all.complete place lane writer (omega (arith, lt, last)) mine) [
              | inl seen ↦ absurd seen
              | inr has ↦ elim (has_parts before ((w_step ∷ between) ++ r_step ∷ rest) place has) [
                | inl before_w ↦ absurd (let early : place < w_step.place =
                    known_has past w_step.place place (asked_in before)
                    (low_known past n before (between ++ r_step ∷ rest) w_step f.all.rising fronts.0) before_w in
                    omega (arith, early, high, at_w))
                | inr more ↦ elim (has_parts (w_step ∷ between) (r_step ∷ rest) place more) [
                  | inl (inl e) ↦ absurd (let same : w_step.place ≡ place = e in omega (arith, same, high, at_w))
                  | inl (inr there) ↦ there
                  | inr (inl e) ↦ absurd (let same : r_step.place ≡ place = e in omega (arith, same, lt, at_r))
                  | inr (inr beyond) ↦ absurd (let late : r_step.place < place =
                      above_has r_step.place place (asked_in rest) rising_r.0 beyond in
                      omega (arith, late, lt, at_r))
                ]
              ]
            ]

        on_write : IsCallOn (answer past) grant_of (is_elsewhere past name) name written w_step between
        on_write =
            record {
              among = among_by past r.0 (count_submitted past) w_step.place w.0 (answer past) grant_of
                  (is_elsewhere past name) name
                  w_step.place written between written (omega (arith, at_w)) rising_w.0 rising_w.1 low.1
                  (subst AreRising t.asks (own_listed past lane writer).0) known in_between (λ place lt h. h)
                  (λ place h. let mine : is_asked_by (asked_at past place) lane writer ≡ true =
                  has_call past lane writer place written t.asks h in
                  other_with past lane reader place r.0 (with_call past lane writer w.0 (grant_at s past))
                  (not_read place (below place mine))
                  ∙ (rw mine refl ∙ ap (λ (p : ℕ). Some p) (sym at_w)))
                  (λ x at high lt out. passes x at high (omega (arith, lt, last)) (out_of x.place out)
                  (not_read x.place lt));
            }

        again : whole ≡ (before ++ (w_step ∷ between)) ++ r_step ∷ (rest ++ [])
        again = sym (append_assoc before (w_step ∷ between) (r_step ∷ rest))
            ∙ ap (λ (l : List Step). (before ++ (w_step ∷ between)) ++ r_step ∷ l) (sym (append-nil rest))

        on_read : IsCallOn (answer past) grant_of (is_elsewhere past name) name read r_step rest
        on_read =
            call_on past n n grant_of (is_elsewhere past name) name lane reader r read (before ++ (w_step ∷ between))
            rest [] r_step (subst (λ (l : List Step). AreAll past n [] (asked_in l)) again f.all) reads is_r
            (omega arith) parts.1.1 (λ place h. below_has n place read until.1 h) (λ place h. absurd h)
            (λ place h. own_with past lane reader place r read (with_call past lane writer w.0 (grant_at s past)) reads
            h)
            (λ x at high lt out. passes x at (omega (arith, apart, high)) lt (not_written x.place (omega (arith, high)))
            (not_own past lane reader x.place r read reads high out))

    by_rest : (before tail : List Step) (w_step : Step) → IsFront allowed config past n first (before ++ w_step ∷ tail)
        → asked_by w_step ≡ w → IsLaid r tail → GivesUnless allowed ended (carried_bytes written)
    by_rest before tail w_step f is_w l =
        ends_so before l.before l.rest w_step l.step (front_as allowed config past n first (before ++ w_step ∷ tail)
        (before ++ ((w_step ∷ l.before) ++ l.step ∷ l.rest)) (ap (λ (x : List Step). before ++ w_step ∷ x) l.is) f)
        is_w l.asks

    by_laid : (steps : List Step) × IsFront allowed config past n first steps
        → GivesUnless allowed ended (carried_bytes written)
    by_laid (steps, f) =
        let l : IsLaid w steps = lay_call allowed config past n lane opener first w [] steps f t.opens
        (omega (arith, apart, last)) in
        let g : IsFront allowed config past n first (l.before ++ l.step ∷ l.rest) =
        front_as allowed config past n first steps (l.before ++ l.step ∷ l.rest) l.is f in
        by_rest l.before l.rest l.step g l.asks (lay_rest allowed config past n lane reader first r read l.before
        l.rest l.step g reads last (let at : l.step.place ≡ w.0 = ap (λ (p : ℕ × Request). p.0) l.asks in
        omega (arith, at, apart)))
