-- What a whole run leaves of a file that a lane opened anew and wrote by a later call.
use Rattle.std.proofs.Common.{◌≡◌, ◌≢◌, ◌<◌, ℕ, Bool, true, false, List, [], ◌∷◌, ◌++◌, Option, Some, if◌then◌else◌, refl, ap, sym, ◌∙◌, subst, arith, inl, inr}
use Rattle.std.proofs.lemmas.Bool.{cases_lt, false_from_ne_true}
use Rattle.std.proofs.lemmas.Bool.Decides.{eqb_tells}
use Rattle.sftp_model.specs.declared.config.Choice.{Choice}
use Rattle.sftp_model.specs.declared.config.ServerConfig.{ServerConfig}
use Rattle.sftp_model.specs.Slots.{slot_at}
use Rattle.sftp_model.specs.declared.outcome.Outcome.TheVariants as outcome
use Rattle.sftp_model.specs.declared.reply.Reply.TheVariants as reply
use Rattle.sftp_model.specs.declared.request.Request.{Request}
use Rattle.sftp_model.specs.declared.request.Request.TheVariants as request
use Rattle.sftp_model.specs.declared.slot.Buffer.{Buffer}
use Rattle.sftp_model.specs.declared.slot.Facts.{Facts}
use Rattle.sftp_model.specs.declared.slot.FileAt.{FileAt}
use Rattle.sftp_model.specs.declared.slot.Site.{Site}
use Rattle.sftp_model.specs.declared.slot.Slot.TheVariants.{Buffered}
use Rattle.machine_model.specs.Changes.{IsWellFormed}
use Rattle.machine_model.specs.Components.{Name, components}
use Rattle.machine_model.specs.FileTree.{FileTree}
use Rattle.plan_model.specs.declared.call.Call.TheVariants as call
use Rattle.plan_model.specs.FilePlans.{open_request}
use Rattle.plan_model.specs.Moves.{Own}
use Rattle.plan_model.specs.WholePlans.{to_replace}
use Rattle.session_model.specs.declared.entry.Entry.{Entry}
use Rattle.session_model.specs.declared.turn.Turn.{Turn}
use Rattle.session_model.specs.Calls.{Setting}
use Rattle.session_model.specs.Grants.{is_asked_by, is_one_of}
use Rattle.session_model.specs.Journals.{IsJournal}
use Rattle.session_model.specs.Readings.{AskedRequest, answer, count_submitted, asked_at, own, count_sent}
use Rattle.session_model.specs.Runs.{IsRun}
use Rattle.session_model.specs.Served.{ServesJournal}
use Rattle.session_model.proofs.OverLaws.{runs_are_journals}
use Rattle.session_model.proofs.RequestLaws.{sent_asked}
use Rattle.run_laws.specs.Bearing.{grant_at, grant_used_at}
use Rattle.run_laws.specs.CallsAmong.{HasEnded, asked_by}
use Rattle.run_laws.specs.DeferredWrites.{AreWrites, AreWritten, carried_bytes, places}
use Rattle.run_laws.specs.FilesLeft.{LaneAnew}
use Rattle.run_laws.specs.GrantUses.{IsCallOn, IsRunOn, PassesBy, WritesBy}
use Rattle.run_laws.specs.InJournals.{AreBelow, IsOfLane, PassesAt, is_elsewhere, is_of_call}
use Rattle.run_laws.specs.Steps.{HasBytes, IsAnyChoice, RunOf, Step, after, asked_in}
use Rattle.run_laws.proofs.AmongLaws.{among_by, low_known}
use Rattle.run_laws.proofs.AnewLaws.{anew_stays}
use Rattle.run_laws.proofs.BufferLaws.{AreFlushed, WriteBy, flushed_asks}
use Rattle.run_laws.proofs.CutLaws.{has_parts, known_has, known_parts, rising_parts}
use Rattle.run_laws.proofs.GrantAtLaws.{used_well}
use Rattle.run_laws.proofs.LaidLaws.{IsFront, IsLaid, below_has, front_as, lay_call}
use Rattle.run_laws.proofs.LaneLaws.{in_turn, lane_comes, place_passes}
use Rattle.run_laws.proofs.NamedLaws.{passes_by, run_on}
use Rattle.run_laws.proofs.OwnLaws.{call_has, has_call, own_listed}
use Rattle.run_laws.proofs.SentLaws.{AreAll, AreKnown, AreRising, IsAt, all_sent}
use Rattle.run_laws.proofs.ServedSteps.{any_allowed, run_chosen, HasRequest, run_of}
use Rattle.run_laws.proofs.UseLaws.{MayBeUsed, UseWell}
use Rattle.run_laws.proofs.UsedLaws.{closed_before, some_is}
use Rattle.run_laws.proofs.WholeRunSent.{whole_run_sent}

-- ---- two calls of a lane

-- `LaneAnew` without what the requests of the second bear and use
pub record LaneOpened (s : Setting) (past : List Entry) (name : Name) (lane opener writer : ℕ) (w : ℕ × Request)
    (written : Own) : Type 0 where
  pub lanes : IsOfLane past name lane
  pub opens : own past lane opener ≡ w ∷ []
  pub path : List ℕ
  pub anew : w.1 ≡ open_request to_replace path
  pub denotes : components path ≡ name
  pub handle : List ℕ
  pub came : answer past w.0 ≡ Some (reply.Handle handle)
  pub in_turn : opener < writer
  pub asks : own past lane writer ≡ written

-- ---- what is left

-- what calls of the lane ask behind the OPEN passes the name by, but for the call that writes
abbrev pub OthersPass : Setting → List Entry → Name → ℕ → ℕ → ℕ → Type 0
OthersPass s past name lane opener writer =
    (place call : ℕ) → opener < call → call ≢ writer → is_of_call past (lane, call) place ≡ true
    → PassesAt s past name place

anew_left : (s : Setting) (config : ServerConfig) (choices : List Choice) (first now : FileTree) (turns : List Turn)
    (past : List Entry) (name : Name) (lane opener writer : ℕ) (w : ℕ × Request) (written : Own)
    (grant_of : ℕ → Option ℕ)
    → IsRun s turns past → ServesJournal config choices first past now → IsWellFormed first
    → (t : LaneOpened s past name lane opener writer w written)
    → OthersPass s past name lane opener writer → AreWrites t.handle 0 written
    → AreWritten (answer past) (places written)
    → UseWell s past grant_of → ((place : ℕ) → HasRequest written place → grant_of place ≡ Some w.0)
    → ((place : ℕ) → is_asked_by (asked_at past place) lane writer ≡ false → grant_of place ≡ grant_at s past place)
    → HasBytes now name (carried_bytes written)
anew_left s config choices first now turns past name lane opener writer w written grant_of run serves well_formed t
    others
    writes said well own_uses others_use =
    by_laid (lay_call IsAnyChoice config past (count_sent past) lane opener first w [] r.steps f t.opens until.0)
  where
    j : IsJournal s past
    j = runs_are_journals s turns past run

    r : RunOf config choices first past now
    r = run_of config choices first past now serves

    f : IsFront IsAnyChoice config past (count_sent past) first r.steps
    f = record {
      all = subst (AreAll past (count_sent past) []) (sym r.asks) (all_sent past);
      chosen =
          run_chosen IsAnyChoice config choices first past now serves (any_allowed choices);
      served = r.served;
    }

    until : AreBelow (count_sent past) (w ∷ [])
    until = subst (AreBelow (count_sent past)) t.opens (whole_run_sent s turns past lane opener run)

    below : AreBelow (count_sent past) written
    below = subst (AreBelow (count_sent past)) t.asks (whole_run_sent s turns past lane writer run)

    known : AreKnown past (count_submitted past) written
    known = subst (AreKnown past (count_submitted past)) t.asks (own_listed past lane writer).1

    opener_asked : is_asked_by (asked_at past w.0) lane opener ≡ true
    opener_asked = has_call past lane opener w.0 (w ∷ []) t.opens (inl refl)

    above : (place : ℕ) → is_asked_by (asked_at past place) lane writer ≡ true → w.0 < place
    above place mine = in_turn s past lane opener writer w.0 place j t.in_turn opener_asked mine

    -- the lane's requests behind the OPEN are those of the call that writes and of others behind it
    within : (place c : ℕ) → w.0 < place → (HasRequest written place → ⊥) → is_asked_by (asked_at past place) lane c
        ≡ true → PassesAt s past name place
    within place c high out mine =
        elim (eqb_tells c opener) [
          | inl u ↦ absurd (by_has (call_has past lane opener place (w ∷ []) t.opens
              (subst (λ (k : ℕ). is_asked_by (asked_at past place) lane k ≡ true) u.1 mine)))
          | inr u ↦ elim (eqb_tells c writer) [
            | inl v ↦ absurd (out (call_has past lane writer place written t.asks
                (subst (λ (k : ℕ). is_asked_by (asked_at past place) lane k ≡ true) v.1 mine)))
            | inr v ↦ elim (cases_lt c opener) [
              | inl low ↦ absurd (let early : place < w.0 = in_turn s past lane c opener place w.0 j low mine
                  opener_asked in omega (arith, early, high))
              | inr from ↦ others place c (let ne : c ≢ opener = u.1 in omega (arith, ne, from)) v.1 mine
            ]
          ]
        ]
      where
        by_has : HasRequest (w ∷ []) place → ⊥
        by_has (inl e) = (let here : w.0 ≡ place = e in omega (arith, here, high))
        by_has (inr h) = h

    not_mine : (place : ℕ) → (HasRequest written place → ⊥) → is_asked_by (asked_at past place) lane writer ≡ false
    not_mine place out = false_from_ne_true (is_asked_by (asked_at past place) lane writer)
        (λ mine. out (call_has past lane writer place written t.asks mine))

    passes : (x : Step) → IsAt past (asked_by x) → w.0 < x.place → (HasRequest written x.place → ⊥)
        → PassesBy (answer past) grant_of (is_elsewhere past name) name x
    passes x at high out =
        passes_by s past name grant_of x j at (others_use x.place (not_mine x.place out))
        (place_passes s past name lane x.place j t.lanes (λ c mine. within x.place c high out mine))

    by_steps : (before rest : List Step) (step : Step) → IsFront IsAnyChoice config past (count_sent past) first
        (before ++ step ∷ rest) → asked_by step ≡ w → HasBytes (after config first (before ++ step ∷ rest)) name
        (carried_bytes written)
    by_steps before rest step g is =
        let whole : List Step = before ++ step ∷ rest in
        let at_w : step.place ≡ w.0 = ap (λ (p : ℕ × Request). p.0) is in
        let asks_w : step.request ≡ open_request to_replace t.path = ap (λ (p : ℕ × Request). p.1) is ∙ t.anew in
        let parts = known_parts past (count_sent past) before (step ∷ rest) g.all.known in
        let rising : AreRising (asked_in (step ∷ rest)) = (rising_parts before (step ∷ rest) g.all.rising).1 in
        let among =
        among_by past (count_sent past) (count_submitted past) step.place w.0 (answer past) grant_of
        (is_elsewhere past name) name
        step.place written rest written (omega (arith, at_w)) rising.0 rising.1 parts.1.1
        (subst AreRising t.asks (own_listed past lane writer).0) known
        (λ place h. in_rest before rest step g at_w place h) (λ place lt h. h)
        (λ place h. own_uses place h ∙ ap (λ (p : ℕ). Some p) (sym at_w)) (λ x at high lt out. passes x at high out)
        in
        let on : IsCallOn (answer past) grant_of (is_elsewhere past name) name written step rest =
        record { among = among } in
        let run_is : IsRunOn config (answer past) grant_of (is_elsewhere past name) name first whole =
        run_on s config past name (count_sent past) grant_of first whole j (sent_asked past) well g.all g.served
        (lane_comes s past name lane (count_sent past) j t.lanes)
        in
        anew_stays config (answer past) grant_of (is_elsewhere past name) name first before rest step t.path t.handle
        written well_formed run_is on asks_w t.denotes (ap (answer past) at_w ∙ t.came) writes said
      where
        in_rest : (before rest : List Step) (step : Step) → IsFront IsAnyChoice config past (count_sent past) first
            (before ++ step ∷ rest) → step.place ≡ w.0 → (place : ℕ) → HasRequest written place
            → HasRequest (asked_in rest) place
        in_rest before rest step g at_w place h =
            let mine : is_asked_by (asked_at past place) lane writer ≡ true =
            has_call past lane writer place written t.asks h in
            let high : w.0 < place = above place mine in
            elim (g.all.complete place lane writer (below_has (count_sent past) place written below h) mine) [
              | inl seen ↦ absurd seen
              | inr has ↦ elim (has_parts before (step ∷ rest) place has) [
                | inl low ↦ absurd (let lt : place < step.place = known_has past step.place place (asked_in before)
                    (low_known past (count_sent past) before rest step g.all.rising
                    (known_parts past (count_sent past) before (step ∷ rest) g.all.known).0) low in
                    omega (arith, lt, high, at_w))
                | inr (inl e) ↦ absurd (let same : step.place ≡ place = e in omega (arith, same, high, at_w))
                | inr (inr more) ↦ more
              ]
            ]

    by_laid : IsLaid w r.steps → HasBytes now name (carried_bytes written)
    by_laid l =
        subst (λ (tree : FileTree). HasBytes tree name (carried_bytes written))
        (sym (r.leaves ∙ ap (after config first) l.is))
        (by_steps l.before l.rest l.step (front_as IsAnyChoice config past (count_sent past) first r.steps
        (l.before ++ l.step ∷ l.rest) l.is f) l.asks)

-- ---- written to a buffer and flushed

pub bear_all : (past : List Entry) (n lane writer : ℕ) (h : List ℕ) (requests : Own) → AreKnown past n requests
    → ((place : ℕ) → HasRequest requests place → is_of_call past (lane, writer) place ≡ true)
    → ((place : ℕ) (a : AskedRequest) → is_of_call past (lane, writer) place ≡ true → asked_at past place ≡ Some a
    → WritesBy a.request h) → WriteBy h requests
bear_all past n lane writer h [] known mine bears = tt
bear_all past n lane writer h (r ∷ requests) known mine bears =
    let at : IsAt past r = known.0.1 in (
      subst (λ (q : Request). WritesBy q h) at.1.1 (bears r.0 at.0 (mine r.0 (inl refl)) at.1.0),
      bear_all past n lane writer h requests known.1 (λ place has. mine place (inr has)) bears,
    )

-- the requests of the call that writes use the grant of the OPEN, the others what they used
abbrev pub with_call : List Entry → ℕ → ℕ → ℕ → (ℕ → Option ℕ) → ℕ → Option ℕ
with_call past lane n grant grant_of place = if is_asked_by (asked_at past place) lane n then Some grant else
    grant_of place

-- a request that writes by a handle is no CLOSE
writes_close_none : (r : Request) (h k : List ℕ) → WritesBy r h → r ≡ request.Close k → ⊥
writes_close_none r h k w e = subst (λ (q : Request). WritesBy q h) e w

pub with_call_well : (s : Setting) (past : List Entry) (lane opener writer grant : ℕ) (handle : List ℕ)
    → IsJournal s past → is_asked_by (asked_at past grant) lane opener ≡ true → answer past grant
    ≡ Some (reply.Handle handle)
    → ((place : ℕ) (a : AskedRequest) → is_of_call past (lane, writer) place ≡ true → asked_at past place ≡ Some a
    → WritesBy a.request handle) → ((place : ℕ) → is_of_call past (lane, writer) place ≡ true → grant < place)
    → ((place : ℕ) → is_of_call past (lane, writer) place ≡ true
    → is_one_of (closed_before s past place) grant ≡ false)
    → UseWell s past (with_call past lane writer grant (grant_at s past))
with_call_well s past lane opener writer grant handle j asker came bears before unclosed =
    record { may = may; closes = closes }
  where
    may : (place g : ℕ) → place < count_submitted past → with_call past lane writer grant (grant_at s past) place
        ≡ Some g → MayBeUsed s past place g
    may place g lt e = by_test (is_asked_by (asked_at past place) lane writer) refl e
      where
        by_test : (b : Bool) → is_asked_by (asked_at past place) lane writer ≡ b
            → (if b then Some grant else grant_at s past place) ≡ Some g → MayBeUsed s past place g
        by_test true mine e =
            subst (MayBeUsed s past place) (some_is grant g e)
            (record {
              before = before place mine;
              lane = lane;
              call = opener;
              asker = asker;
              handle = handle;
              came = came;
              unclosed = unclosed place mine;
            })
        by_test false out e = UseWell.may (used_well s past j) place g lt e

    closes : (place : ℕ) (a : AskedRequest) (h : List ℕ) → asked_at past place ≡ Some a → a.request ≡ request.Close h
        → with_call past lane writer grant (grant_at s past) place ≡ grant_used_at s past place h
    closes place a h at close = by_test (is_asked_by (asked_at past place) lane writer) refl
      where
        by_test : (b : Bool) → is_asked_by (asked_at past place) lane writer ≡ b
            → (if b then Some grant else grant_at s past place) ≡ grant_used_at s past place h
        by_test true mine = absurd (writes_close_none a.request handle h (bears place a mine at) close)
        by_test false out = UseWell.closes (used_well s past j) place a h at close

-- A lane to whom a name is opened it to be written anew, and by a later call wrote bytes to what was opened, which it
-- had buffered and which wasn't closed then, and flushed it: the bytes are left.
pub opened_left : (s : Setting) (config : ServerConfig) (choices : List Choice) (first now : FileTree)
    (turns : List Turn) (past : List Entry) (name : Name) (lane opener writer : ℕ) (w : ℕ × Request) (written : Own)
    (bytes : List ℕ) → IsRun s turns past → ServesJournal config choices first past now → IsWellFormed first
    → (t : LaneOpened s past name lane opener writer w written) → OthersPass s past name lane opener writer
    → ((place : ℕ) (a : AskedRequest) → is_of_call past (lane, writer) place ≡ true → asked_at past place ≡ Some a
    → WritesBy a.request t.handle) → ((place : ℕ) → is_of_call past (lane, writer) place ≡ true
    → is_one_of (closed_before s past place) w.0 ≡ false)
    → AreFlushed t.handle 0 bytes (answer past) written → HasBytes now name bytes
opened_left s config choices first now turns past name lane opener writer w written bytes run serves well_formed t
    others
    bears unclosed f =
    let j : IsJournal s past = runs_are_journals s turns past run in
    let asker : is_asked_by (asked_at past w.0) lane opener ≡ true =
    has_call past lane opener w.0 (w ∷ []) t.opens (inl refl) in
    subst (λ (b : List ℕ). HasBytes now name b) f.all
    (anew_left s config choices first now turns past name lane opener writer w written
    (with_call past lane writer w.0 (grant_at s past)) run serves well_formed t others f.asks f.said
    (with_call_well s past lane opener writer w.0 t.handle j asker t.came bears
    (λ place mine. in_turn s past lane opener writer w.0 place j t.in_turn asker mine) unclosed)
    (λ place has. rw (has_call past lane writer place written t.asks has) refl) (λ place out. rw out refl))

-- A lane to whom a name is opened it to be written anew, and by a later call wrote bytes to what was opened, which it
-- had buffered, and flushed it: the bytes are left.
pub flushed_left : (s : Setting) (config : ServerConfig) (choices : List Choice) (first now : FileTree)
    (turns : List Turn) (past : List Entry) (name : Name) (lane opener writer slot : ℕ) (w : ℕ × Request)
    (written flush_own : Own)
    (file : FileAt) (buffer : Buffer) (bytes : List ℕ) (site flush_site : Site) (facts flush_facts : Facts)
    → IsRun s turns past → ServesJournal config choices first past now → IsWellFormed first
    → LaneAnew s past name lane opener writer w written → slot_at site slot ≡ Buffered file buffer → file.offset ≡ 0
    → (wrote : HasEnded (call.BufWriteAll slot bytes) site facts written (answer past) outcome.Done)
    → slot_at flush_site slot ≡ slot_at wrote.left slot → HasEnded (call.BufFlush slot) flush_site flush_facts
    flush_own (answer past) outcome.Done
    → HasBytes now name bytes
flushed_left s config choices first now turns past name lane opener writer slot w written flush_own file buffer bytes
    site flush_site facts flush_facts run serves well_formed t stands start wrote same flush =
    let known : AreKnown past (count_submitted past) written =
    subst (AreKnown past (count_submitted past)) t.asks (own_listed past lane writer).1 in
    let bears : WriteBy t.handle written = bear_all past (count_submitted past) lane writer t.handle written known
    (λ place has. has_call past lane writer place written t.asks has) t.bears in
    let f = flushed_asks (answer past) slot file buffer bytes site flush_site facts flush_facts written flush_own
    t.handle bears stands wrote same flush in
    subst (λ (b : List ℕ). HasBytes now name b) f.all
    (anew_left s config choices first now turns past name lane opener writer w written (grant_at s past) run serves
    well_formed opened t.others (subst (λ (n : ℕ). AreWrites t.handle n written) start f.asks) f.said
    (used_well s past (runs_are_journals s turns past run)) (λ place has. t.uses place
    (has_call past lane writer place written t.asks has)) (λ place out. refl))
  where
    opened : LaneOpened s past name lane opener writer w written
    opened = record {
      lanes = t.lanes;
      opens = t.opens;
      path = t.path;
      anew = t.anew;
      denotes = t.denotes;
      handle =
          t.handle;
      came = t.came;
      in_turn = t.in_turn;
      asks = t.asks;
    }
