-- The requests of a lane that alone uses a name, and of lanes that keep off it.
use Rattle.std.proofs.Common.{
  ◌≡◌,
  ◌<◌,
  ◌≤◌,
  ◌==◌,
  ℕ,
  Bool,
  true,
  false,
  List,
  [],
  ◌∷◌,
  ◌++◌,
  Option,
  Some,
  None,
  if◌then◌else◌,
  refl,
  ap,
  sym,
  ◌∙◌,
  subst,
  arith,
  inl,
  inr,
}
use Rattle.std.specs.Prelude.{◌⊎◌, ◌||◌}
use Rattle.std.specs.List.{list_all}
use Rattle.std.proofs.lemmas.Bool.{and_parts, eq-eqb, eqb-true, ne_eqb, or_right}
use Rattle.std.proofs.lemmas.Bool.Decides.{eqb_tells}
use Rattle.sftp_model.specs.declared.flags.OpenFlags.{OpenFlags}
use Rattle.sftp_model.specs.declared.reply.Reply.TheVariants as reply
use Rattle.sftp_model.specs.declared.request.Request.{Request}
use Rattle.sftp_model.specs.declared.request.Request.TheVariants as request
use Rattle.sftp_model.specs.declared.slot.Facts.{Facts}
use Rattle.sftp_model.specs.declared.slot.Move.TheVariants.{Ask}
use Rattle.sftp_model.specs.declared.slot.Site.{Site}
use Rattle.machine_model.proofs.NameLaws.{handles_tell}
use Rattle.machine_model.specs.Components.{Name}
use Rattle.sftp_model.specs.OpenOptions.{flags_of}
use Rattle.sftp_model.specs.declared.open_options.OpenOptions.{OpenOptions}
use Rattle.plan_model.specs.FilePlans.{open_request}
use Rattle.plan_model.specs.Moves.{Answers, Own, Plan, ask_path}
use Rattle.plan_model.specs.OwnRequests.{AreAsked, oldest_first}
use Rattle.plan_model.specs.PathPlans.{from_directory}
use Rattle.plan_model.specs.WholePlans.{to_replace}
use Rattle.plan_model.specs.WindowPlans.{to_read}
use Rattle.plan_model.specs.declared.call.Call.{Call}
use Rattle.plan_model.specs.declared.call.Call.TheVariants as call
use Rattle.session_model.specs.declared.entry.Entry.{Entry}
use Rattle.session_model.specs.declared.entry.Entry.TheVariants as entry
use Rattle.session_model.specs.declared.event.Event.TheVariants.{Submit}
use Rattle.session_model.specs.declared.event.Owner.{Owner}
use Rattle.session_model.specs.declared.event.Owner.TheVariants as owner
use Rattle.session_model.specs.Calls.{GoesByPlan, Setting, call_at, current, lane_calls, move_at, move_of, site_of}
use Rattle.session_model.specs.Grants.{is_asked_by}
use Rattle.session_model.specs.Journals.{IsJournal}
use Rattle.session_model.specs.Readings.{AskedRequest, answer, count_submitted, asked_at, count_ended, is_by, own}
use Rattle.session_model.proofs.CallLaws.{next_submit}
use Rattle.session_model.proofs.CallsSoFar.{calls_so_far}
use Rattle.session_model.proofs.RequestLaws.{asked_other}
use Rattle.run_laws.specs.Bearing.{is_handle_reply, grant_used_at, used_in}
use Rattle.run_laws.specs.InJournals.{is_of_call}
use Rattle.run_laws.proofs.OpenLaws.{open_is}
use Rattle.run_laws.proofs.OwnLaws.{own_listed}
use Rattle.run_laws.proofs.SentLaws.{AreKnown, IsAt}
use Rattle.run_laws.proofs.UsedLaws.{asked_there, front_of, some_is}
use Rattle.run_laws.specs.NameCalls.{all_keep_off, is_buffered, may_own}
use Rattle.run_laws.proofs.BufferedMoves.{buffer_asks_none, flush_asks_none, open_asks_once}
use Rattle.run_laws.proofs.CallMoves.{call_goes}
use Rattle.run_laws.proofs.PartMoves.{GoesSo, IsAnySite, IsByHandle}
use Rattle.run_laws.proofs.LaneCalls.{all_before, all_more, call_stays, each_is, plain_path, plain_site}
use Rattle.run_laws.proofs.LaneDirectories.{directory_at, directory_now, off_before, off_there}
use Rattle.run_laws.proofs.OffRequests.{IsHarmless, IsOff, call_off, is_still, on_paths_harmless}
use Rattle.run_laws.proofs.WholeMoves.{IsRead, IsWriteBy, read_asks, write_asks}
use Rattle.plan_model.specs.CallPlans.{next}

-- ---- a journal up to a request

pub journal_before : (s : Setting) (more past : List Entry) → IsJournal s (more ++ past) → IsJournal s past
journal_before s [] past j = j
journal_before s (e ∷ more) past j = journal_before s more past j.1

-- a journal in two parts, where the request at a place is the first entry of the later part
pub record Split (past : List Entry) (place : ℕ) (a : AskedRequest) : Type 0 where
  pub more : List Entry
  pub before : List Entry
  pub is : more ++ entry.Event (Submit a.by a.id a.request) ∷ before ≡ past
  pub at : count_submitted before ≡ place

split_later : (past : List Entry) (e : Entry) (place : ℕ) (a : AskedRequest) → Split past place a
    → Split (e ∷ past) place a
split_later past e place a t = record {
  more = e ∷ t.more;
  before = t.before;
  is = ap (λ (l : List Entry). e ∷ l) t.is;
  at = t.at;
}

pub split_at : (past : List Entry) (place : ℕ) (a : AskedRequest) → asked_at past place ≡ Some a → Split past place a
split_at [] place a e = absurd cc
split_at (entry.Event (Submit by id r) ∷ past) place a e =
    elim (eqb_tells place (count_submitted past)) [
      | inl t ↦ (let same = some_is (record { by = by; id = id; request = r }) a (rw t.0 at e) in
          record {
            more = [];
            before = past;
            is = ap (λ (x : AskedRequest). entry.Event (Submit x.by x.id x.request) ∷
                past) (sym same);
            at = sym t.1;
          })
      | inr t ↦ split_later past (entry.Event (Submit by id r)) place a (split_at past place a (rw t.0 at e))
    ]
split_at (x ∷ past) place a e = split_later past x place a (split_at past place a e)

pub asked_grows : (more past : List Entry) → count_submitted past ≤ count_submitted (more ++ past)
asked_grows [] past = omega arith
asked_grows (entry.Event (Submit by id r) ∷ more) past = let le = asked_grows more past in omega (arith, le)
asked_grows (_ ∷ more) past = asked_grows more past

-- requests stay where they were asked
asked_stays : (more past : List Entry) (place : ℕ) (a : AskedRequest) → asked_at past place ≡ Some a
    → asked_at (more ++ past) place ≡ Some a
asked_stays [] past place a e = e
asked_stays (entry.Event (Submit by id r) ∷ more) past place a e =
    let le = asked_grows more past in
    let lt = asked_there past place a e in asked_other (more ++ past) by id place r (omega (arith, le, lt))
    ∙ asked_stays more past place a e
asked_stays (_ ∷ more) past place a e = asked_stays more past place a e

-- and the grant whose handle one bears
used_stays : (s : Setting) (more past : List Entry) (place g : ℕ) (h : List ℕ) → place < count_submitted past
    → grant_used_at s past place h ≡ Some g → grant_used_at s (more ++ past) place h ≡ Some g
used_stays s [] past place g h lt e = e
used_stays s (entry.Event (Submit by id r) ∷ more) past place g h lt e =
    let le = asked_grows more past in rw (ne_eqb place (count_submitted (more ++ past))
    (λ same. omega (arith, same, le, lt))) (used_stays s more past place g h lt e)
used_stays s (_ ∷ more) past place g h lt e = used_stays s more past place g h lt e

-- ---- what one request is

-- the request at a place writes by the handle of a grant that an OPEN of this path was given
abbrev pub WritesAt : Setting → List Entry → ℕ → List ℕ → Request → Type 0
WritesAt s past place path (request.Write h offset content) =
    (g : ℕ) × ((grant_used_at s past place h ≡ Some g) × ((b : AskedRequest)
    × ((asked_at past g ≡ Some b) × (b.request ≡ open_request to_replace path))))
WritesAt s past place path other = ⊥

-- a call that the lane may make
abbrev pub may_hold : Name → Call → Bool
may_hold name c = is_buffered c || may_own name c

pub own_held : (name : Name) (c : Call) → may_own name c ≡ true → may_hold name c ≡ true
own_held name c e = or_right (is_buffered c) (may_own name c) e

pub held_still : (name : Name) (c : Call) → may_hold name c ≡ true → is_still c ≡ true
held_still name (call.Cwd path) e = absurd cc
held_still name other e = refl

-- a call asks an OPEN of its path, and then READs, or WRITEs by what it opened; or it is no such call, and does the
-- name no harm
abbrev pub IsAskOf : Name → Setting → List Entry → ℕ → Call → Request → Type 0
IsAskOf name s past place (call.FsRead path bound) r = (r ≡ open_request to_read path) ⊎ IsRead r
IsAskOf name s past place (call.FsWrite path bytes) r = (r ≡ open_request to_replace path)
    ⊎ WritesAt s past place path r
IsAskOf name s past place (call.OpenFile slot options path) r = r ≡ open_request (flags_of options) path
IsAskOf name s past place (call.BufWriteAll slot bytes) r = IsByHandle r
IsAskOf name s past place other r = IsHarmless name r

-- the request at a place is one of a call of the lane
pub record IsAsked (name : Name) (s : Setting) (past : List Entry) (lane k place : ℕ) (r : Request) : Type 0 where
  pub c : Call
  pub is : call_at s past lane k ≡ Some c
  pub asks : IsAskOf name s past place c r

-- the first request of a call is what its plan asks at first
pub first_asked : (plan : Plan) (requests : Own) (answers : Answers) (first : ℕ × Request) (later : Own)
    → AreAsked plan requests answers → oldest_first requests ≡ first ∷ later → (before : Answers)
    × (plan [] before ≡ Ask first.1)
first_asked plan [] answers first later asks are = absurd cc
first_asked plan (a ∷ past) answers first later (before, earlier, is, none, stays) are =
    elim (front_of (oldest_first past) a first later are) [
      | inl new ↦ (
        before,
        subst (λ (x : ℕ × Request). plan [] before ≡ Ask x.1) new.1
            (subst (λ (l : Own). plan l before ≡ Ask a.1) new.0 is),
      )
      | inr old ↦ first_asked plan past before first old.0 earlier old.1
    ]

-- the first request of these stands in the journal
first_known : (past : List Entry) (n : ℕ) (requests : Own) (first : ℕ × Request) (later : Own)
    → AreKnown past n requests → requests ≡ first ∷ later → IsAt past first
first_known past n requests first later known are = (subst (AreKnown past n) are known).0.1

-- a WRITE by the handle that the first request of its call was granted uses this grant
used_first : (s : Setting) (past : List Entry) (lane k id : ℕ) (h : List ℕ) (offset : ℕ) (content : List ℕ)
    (first : ℕ × Request) (later : Own) → own past lane k ≡ first ∷ later → answer past first.0 ≡ Some (reply.Handle h)
    → grant_used_at s (entry.Event (Submit (owner.Call lane k) id (request.Write h offset content)) ∷ past)
    (count_submitted past) h ≡ Some first.0
used_first s past lane k id h offset content first later are came =
    rw (eq-eqb (count_submitted past) (count_submitted past) refl)
    (ap (λ (o : Own). used_in s past lane o h) are ∙ by_test (is_handle_reply (answer past first.0) h)
    (ap (λ x. is_handle_reply x h) came ∙ (handles_tell h h).1 refl))
  where
    other : Option ℕ
    other = used_in s past lane [] h

    by_test : (b : Bool) → b ≡ true → (if b then Some first.0 else other) ≡ Some first.0
    by_test true t = refl
    by_test false t = absurd cc

pub move_is : (o : Option Call) (site : Site) (facts : Facts) (own : Own) (answers : Answers) (r : Request)
    → move_at o site facts own answers ≡ Some (Ask r) → (d : Call)
    × ((o ≡ Some d) × (next d site facts own answers ≡ Ask r))
move_is None site facts own answers r e = absurd cc
move_is (Some d) site facts own answers r e = (d, (refl, cc e))

-- what a call of the lane asks next
asks_next : (name : Name) (s : Setting) (past : List Entry) (lane id : ℕ) (r : Request) → IsJournal s past
    → list_all (may_hold name) (lane_calls s past lane) ≡ true
    → move_at (current s past lane) (site_of s past lane) s.facts (own past lane (count_ended past lane)) (answer past)
    ≡ Some (Ask r)
    → IsAsked name s (entry.Event (Submit (owner.Call lane (count_ended past lane)) id r) ∷ past) lane
    (count_ended past lane) (count_submitted past) r
asks_next name s past lane id r j w m =
    let d = move_is (current s past lane) (site_of s past lane) s.facts (own past lane (count_ended past lane))
    (answer past) r m in
    by_call d.0 d.1.0 d.1.1 (each_is (may_hold name) (lane_calls s past lane) (count_ended past lane) d.0 w d.1.0)
  where
    now : Request → List Entry
    now q = entry.Event (Submit (owner.Call lane (count_ended past lane)) id q) ∷ past

    k : ℕ
    k = count_ended past lane

    site : Site
    site = site_of s past lane

    still : list_all is_still (lane_calls s past lane) ≡ true
    still = all_more (may_hold name) is_still (lane_calls s past lane) (held_still name) w

    -- an OPEN that was asked is one of the call's path
    opens : (flags : OpenFlags) (path : List ℕ) (q : Request) →
        ask_path (open_request flags (from_directory site path)) site ≡ Ask q → q ≡ open_request flags path
    opens flags path q e = open_is flags (from_directory site path) site q e
        ∙ ap (open_request flags) (plain_path s past lane path still)

    -- the first request of a whole write is such an OPEN, which stands at its place
    first_open : (path bytes : List ℕ) (first : ℕ × Request) (later : Own) → current s past lane
        ≡ Some (call.FsWrite path bytes) → own past lane k ≡ first ∷ later
        → (b : AskedRequest) × ((asked_at past first.0 ≡ Some b) × (b.request ≡ open_request to_replace path))
    first_open path bytes first later is are =
        let plans : GoesByPlan s past lane (call.FsWrite path bytes) =
        calls_so_far s past lane (call.FsWrite path bytes) j is in
        let f = first_asked (next (call.FsWrite path bytes) site s.facts) plans.requests (answer past) first later
        plans.so_far.asked (plans.are ∙ are) in
        let at : IsAt past first = first_known past (count_submitted past) (own past lane k) first later
        (own_listed past lane k).1 are in (at.0, (at.1.0, at.1.1 ∙ opens to_replace path first.1 f.1))

    by_request : (path bytes : List ℕ) (first : ℕ × Request) (later : Own) (h : List ℕ) (q : Request)
        → current s past lane ≡ Some (call.FsWrite path bytes) → own past lane k ≡ first ∷ later → answer past first.0
        ≡ Some (reply.Handle h) → IsWriteBy h q
        → WritesAt s (now q) (count_submitted past) path q
    by_request path bytes first later h (request.Write handle offset content) is are came by =
        let f = first_open path bytes first later is are in (
          first.0,
          (
            used_first s past lane k id handle offset content first later are
                (came ∙ ap (λ (x : List ℕ). Some (reply.Handle x)) (sym by)),
            (
              f.0,
              (
                asked_other past (owner.Call lane k) id first.0 (request.Write handle offset content)
                    (asked_there past first.0 f.0 f.1.0) ∙ f.1.0,
                f.1.1,
              ),
            ),
          ),
        )
    by_request path bytes first later h other is are came by = absurd by

    by_own_read : (path : List ℕ) (bound : ℕ) (o : Own) → next (call.FsRead path bound) site s.facts o (answer past)
        ≡ Ask r → IsAskOf name s (now r) (count_submitted past) (call.FsRead path bound) r
    by_own_read path bound [] e = inl (opens to_read path r e)
    by_own_read path bound (first ∷ later) e = inr (read_asks path bound site s.facts first later (answer past) r e)

    by_own_write : (path bytes : List ℕ) (o : Own) → current s past lane ≡ Some (call.FsWrite path bytes)
        → own past lane k ≡ o → next (call.FsWrite path bytes) site s.facts o (answer past) ≡ Ask r
        → IsAskOf name s (now r) (count_submitted past) (call.FsWrite path bytes) r
    by_own_write path bytes [] is are e = inl (opens to_replace path r e)
    by_own_write path bytes (first ∷ later) is are e =
        let x = write_asks path bytes site s.facts first later (answer past) r e in
        inr (by_request path bytes first later x.0 r is are x.1.0 x.1.1)

    by_own_open : (slot : ℕ) (options : OpenOptions) (path : List ℕ) (o : Own)
        → next (call.OpenFile slot options path) site s.facts o (answer past) ≡ Ask r → r
        ≡ open_request (flags_of options) path
    by_own_open slot options path [] e = open_is (flags_of options) path site r e
    by_own_open slot options path (first ∷ later) e = absurd (open_asks_once slot options path site s.facts first later
        (answer past) r e)

    by_call : (c : Call) → current s past lane ≡ Some c → next c site s.facts (own past lane k) (answer past) ≡ Ask r
        → may_hold name c ≡ true → IsAsked name s (now r) lane k (count_submitted past) r
    by_call (call.FsRead path bound) is e owns = record {
      c = call.FsRead path bound;
      is = is;
      asks =
          by_own_read path bound (own past lane k) e;
    }
    by_call (call.FsWrite path bytes) is e owns = record {
      c = call.FsWrite path bytes;
      is = is;
      asks =
          by_own_write path bytes (own past lane k) is refl e;
    }
    by_call (call.OpenFile slot options path) is e owns = record
        { c = call.OpenFile slot options path; is = is; asks = by_own_open slot options path (own past lane k) e }
    by_call (call.BufWriteAll slot bytes) is e owns =
        record {
          c = call.BufWriteAll slot bytes;
          is = is;
          asks = subst (GoesSo IsByHandle IsAnySite) e (call_goes IsByHandle IsAnySite (call.BufWriteAll slot bytes)
              site
              s.facts (own past lane k) (answer past) (λ q x. x) tt (λ other left x y b. tt) tt);
        }
    by_call (call.Buffer slot len) is e owns = absurd (buffer_asks_none slot len site s.facts (own past lane k)
        (answer past) r e)
    by_call (call.BufFlush slot) is e owns = absurd (flush_asks_none slot site s.facts (own past lane k) (answer past) r
        e)
    by_call other is e owns = record {
      c = other;
      is = is;
      asks =
          on_paths_harmless name other site s.facts (own past lane k) (answer past) r (plain_site s past lane still)
          owns
          e;
    }

writes_stay : (s : Setting) (more past : List Entry) (place : ℕ) (path : List ℕ) (r : Request)
    → place < count_submitted past
    → WritesAt s past place path r → WritesAt s (more ++ past) place path r
writes_stay s more past place path (request.Write h offset content) lt w = (
  w.0,
  (
    used_stays s more past place w.0 h lt w.1.0,
    (
      w.1.1.0,
      (asked_stays more past w.0 w.1.1.0 w.1.1.1.0, w.1.1.1.1),
    ),
  ),
)
writes_stay s more past place path other lt w = absurd w

asks_stay : (name : Name) (s : Setting) (more past : List Entry) (place : ℕ) (c : Call) (r : Request)
    → place < count_submitted past → IsAskOf name s past place c r → IsAskOf name s (more ++ past) place c r
asks_stay name s more past place (call.FsRead path bound) r lt x = x
asks_stay name s more past place (call.FsWrite path bytes) r lt (inl e) = inl e
asks_stay name s more past place (call.FsWrite path bytes) r lt (inr w) =
    inr (writes_stay s more past place path r lt w)
asks_stay name s more past place other r lt x = x

asked_grow : (name : Name) (s : Setting) (more past : List Entry) (lane k place : ℕ) (r : Request)
    → place < count_submitted past
    → IsAsked name s past lane k place r → IsAsked name s (more ++ past) lane k place r
asked_grow name s more past lane k place r lt a = record {
  c = a.c;
  is = call_stays s more past lane k a.c a.is;
  asks =
      asks_stay name s more past place a.c r lt a.asks;
}

-- each request of such a lane is one of its call
pub asked_own : (name : Name) (s : Setting) (past : List Entry) (lane k place : ℕ) (a : AskedRequest) → IsJournal s past
    → list_all (may_hold name) (lane_calls s past lane) ≡ true → asked_at past place ≡ Some a
    → is_of_call past (lane, k) place ≡ true → IsAsked name s past lane k place a.request
asked_own name s past lane k place a j w e mine =
    let t : Split past place a = split_at past place a e in
    let whole : List Entry = t.more ++ entry.Event (Submit a.by a.id a.request) ∷ t.before in
    let at : is_by a.by lane k ≡ true = sym (ap (λ x. is_asked_by x lane k) e) ∙ mine in
    subst (λ (l : List Entry). IsAsked name s l lane k place a.request) t.is
    (subst (λ (p : ℕ). IsAsked name s whole lane k p a.request) t.at
    (by_owner t.more t.before a.by a.id a.request (subst (IsJournal s) (sym t.is) j)
    (subst (λ (l : List Entry). list_all (may_hold name) (lane_calls s l lane) ≡ true) (sym t.is) w) at))
  where
    by_owner : (more before : List Entry) (o : Owner) (id : ℕ) (r : Request)
        → IsJournal s (more ++ entry.Event (Submit o id r) ∷ before)
        → list_all (may_hold name) (lane_calls s (more ++ entry.Event (Submit o id r) ∷ before) lane) ≡ true
        → is_by o lane k ≡ true
        → IsAsked name s (more ++ entry.Event (Submit o id r) ∷ before) lane k (count_submitted before) r
    by_owner more before (owner.Call l n) id r j w at =
        let both = and_parts (l == lane) (n == k) at in
        let at_lane : l ≡ lane = eqb-true l lane both.0 in
        let at_call : n ≡ k = eqb-true n k both.1 in
        let now : List Entry = entry.Event (Submit (owner.Call l n) id r) ∷ before in
        let so_far : IsJournal s now = journal_before s more now j in
        let may = next_submit s before l n id r so_far.0 in
        let first : list_all (may_hold name) (lane_calls s before l) ≡ true =
        subst (λ (y : ℕ). list_all (may_hold name) (lane_calls s before y) ≡ true) (sym at_lane)
        (all_before (may_hold name) s more now lane w) in
        let next_is : IsAsked name s now l n (count_submitted before) r =
        subst (λ (x : ℕ). IsAsked name s (entry.Event (Submit (owner.Call l x) id r) ∷ before) l x
        (count_submitted before) r)
        (sym may.0) (asks_next name s before l id r so_far.1 first may.1)
        in
        asked_grow name s more now lane k (count_submitted before) r (omega arith)
        (subst (λ (x : ℕ). IsAsked name s now lane x (count_submitted before) r) at_call
        (subst (λ (y : ℕ). IsAsked name s now y n (count_submitted before) r) at_lane next_is))
    by_owner more before owner.Setup id r j w at = absurd cc
    by_owner more before owner.Close id r j w at = absurd cc

-- each request of a lane that keeps off the name keeps off it
pub off_asked : (name : Name) (s : Setting) (past : List Entry) (lane k place : ℕ) (a : AskedRequest) → IsJournal s past
    → all_keep_off name [] (lane_calls s past lane) ≡ true → asked_at past place ≡ Some a
    → is_of_call past (lane, k) place ≡ true → IsOff name a.request
off_asked name s past lane k place a j off e mine =
    let t : Split past place a = split_at past place a e in
    let at : is_by a.by lane k ≡ true = sym (ap (λ x. is_asked_by x lane k) e) ∙ mine in
    by_owner t.more t.before a.by a.id a.request (subst (IsJournal s) (sym t.is) j)
    (subst (λ (l : List Entry). all_keep_off name [] (lane_calls s l lane) ≡ true) (sym t.is) off) at
  where
    by_lane : (before : List Entry) (l id : ℕ) (r : Request) → IsJournal s before
        → all_keep_off name [] (lane_calls s before l) ≡ true → move_of s before l ≡ Some (Ask r) → IsOff name r
    by_lane before l id r j off m =
        let d = move_is (current s before l) (site_of s before l) s.facts (own before l (count_ended before l))
        (answer before) r m in
        call_off name d.0 (site_of s before l) s.facts (own before l (count_ended before l)) (answer before) r
        (directory_at [] (lane_calls s before l) (count_ended before l)) (directory_now s before l j)
        (off_there name [] (lane_calls s before l) (count_ended before l) d.0 off d.1.0) d.1.1

    by_owner : (more before : List Entry) (o : Owner) (id : ℕ) (r : Request)
        → IsJournal s (more ++ entry.Event (Submit o id r) ∷ before)
        → all_keep_off name [] (lane_calls s (more ++ entry.Event (Submit o id r) ∷ before) lane) ≡ true
        → is_by o lane k ≡ true
        → IsOff name r
    by_owner more before (owner.Call l n) id r j off at =
        let both = and_parts (l == lane) (n == k) at in
        let at_lane : l ≡ lane = eqb-true l lane both.0 in
        let now : List Entry = entry.Event (Submit (owner.Call l n) id r) ∷ before in
        let so_far : IsJournal s now = journal_before s more now j in
        let may = next_submit s before l n id r so_far.0 in
        by_lane before l id r so_far.1 (subst (λ (y : ℕ). all_keep_off name [] (lane_calls s before y) ≡ true)
        (sym at_lane) (off_before name s more now lane off)) may.1
    by_owner more before owner.Setup id r j off at = absurd cc
    by_owner more before owner.Close id r j off at = absurd cc
