-- A request that bears a handle bears that of a grant which who asks may use, and which has no CLOSE yet.
use Rattle.std.proofs.Common.{◌≡◌, ◌<◌, ◌==◌, ℕ, Bool, true, false, List, [], ◌∷◌, Option, Some, None, if◌then◌else◌, refl, ap, sym, ◌∙◌, subst, inl, inr}
use Rattle.std.specs.Prelude.{◌&&◌, MatchOption, length}
use Rattle.std.proofs.lemmas.Bool.{and_parts, both_ways, eq-eqb, false_from_ne_true, or_left, or_right}
use Rattle.sftp_model.specs.declared.error.IoKind.TheVariants as kind
use Rattle.sftp_model.specs.declared.outcome.Outcome.TheVariants as outcome
use Rattle.sftp_model.specs.declared.reply.Reply.{Reply}
use Rattle.sftp_model.specs.declared.reply.Reply.TheVariants as reply
use Rattle.sftp_model.specs.declared.request.Request.{Request}
use Rattle.sftp_model.specs.declared.request.Request.TheVariants as request
use Rattle.sftp_model.specs.declared.slot.Facts.{Facts}
use Rattle.sftp_model.specs.declared.slot.Move.TheVariants.{Ask, Done}
use Rattle.sftp_model.specs.declared.slot.Site.{Site}
use Rattle.sftp_model.specs.declared.slot.Slot.{Slot}
use Rattle.sftp_model.specs.declared.slot.Slot.TheVariants.{Empty, File, Buffered}
use Rattle.sftp_model.specs.Slots.{has_grant, slot_at, with_slot}
use Rattle.machine_model.proofs.NameLaws.{handles_tell}
use Rattle.plan_model.specs.FilePlans.{close_slot_next, open_request}
use Rattle.plan_model.specs.GoodMoves.{ClosesGrant, IsBrought, IsGoodAsk, IsHeldHandle, Situation, MayBringGrant, situation}
use Rattle.sftp_model.specs.Frames.{is_too_long}
use Rattle.plan_model.specs.Moves.{Answers, Own, done_by, handle_of, once_answered, refuse_locally}
use Rattle.plan_model.specs.PathPlans.{from_directory}
use Rattle.plan_model.specs.WindowPlans.{to_read}
use Rattle.plan_model.proofs.CallLaws.{asks_good}
use Rattle.plan_model.proofs.MoveLaws.{by_status}
use Rattle.plan_model.proofs.SlotLaws.{slot_held}
use Rattle.plan_model.specs.declared.call.Call.{Call}
use Rattle.plan_model.specs.declared.call.Call.TheVariants as call
use Rattle.session_model.specs.declared.entry.Entry.{Entry}
use Rattle.session_model.specs.declared.entry.Entry.TheVariants as entry
use Rattle.session_model.specs.declared.event.Event.TheVariants.{Submit}
use Rattle.session_model.specs.declared.event.Owner.{Owner}
use Rattle.session_model.specs.declared.event.Owner.TheVariants as owner
use Rattle.session_model.specs.Calls.{Setting, current, held_by, held_site, move_at, site_of}
use Rattle.session_model.specs.Grants.{closed_grants, closed_by, closes, first_below, holds, is_close, is_granted, is_held, is_one_of, is_unended_asker, next_due}
use Rattle.session_model.specs.Journals.{IsJournal, MayCome, MustClose, cancelled_end}
use Rattle.session_model.specs.Readings.{answer, count_submitted, count_ended, last_cancel, own}
use Rattle.session_model.proofs.CallLaws.{has_place, next_submit}
use Rattle.session_model.proofs.ClosedLaws.{IsClosing, closing, gone_unheld, lane_there}
use Rattle.session_model.proofs.GrantLaws.{any_passes, below_none, first_passes}
use Rattle.session_model.proofs.HolderLaws.{may_of, own_asked, slots_owned}
use Rattle.session_model.proofs.LetGoLaws.{granted_below}
use Rattle.session_model.proofs.PlannedLaws.{AsksClose, asks_close}
use Rattle.run_laws.proofs.WindowReads.{ByHandle, WindowAsked, asks_read, window_asked}
use Rattle.run_laws.specs.Bearing.{BearsHandle, BearsGrant, MayUse, is_handle_reply, held_with, used_in}
use Rattle.plan_model.specs.CallPlans.{next}

-- ---- handles

pub brought_is : (o : Option Reply) (h : List ℕ) → is_handle_reply o h ≡ true → o ≡ Some (reply.Handle h)
brought_is None h e = absurd cc
brought_is (Some (reply.Handle handle)) h e = ap (λ (w : List ℕ). Some (reply.Handle w)) ((handles_tell handle h).0 e)
brought_is (Some other) h e = absurd cc

pub is_brought : (o : Option Reply) (h : List ℕ) → o ≡ Some (reply.Handle h) → is_handle_reply o h ≡ true
is_brought o h e = ap (λ (w : Option Reply). is_handle_reply w h) e ∙ (handles_tell h h).1 refl

pub grant_came : (o : Option Reply) (h : List ℕ) → is_granted o ≡ true → handle_of o ≡ h → o ≡ Some (reply.Handle h)
grant_came None h is e = absurd cc
grant_came (Some (reply.Handle handle)) h is e = ap (λ (w : List ℕ). Some (reply.Handle w)) e
grant_came (Some other) h is e = absurd cc

-- ---- what a lane's call may ask

-- a request that may be asked bears a handle that is held, unless it is a CLOSE
good_bears : (t : Situation) (r : Request) (h : List ℕ) → is_close r ≡ false → IsGoodAsk t r → BearsHandle r h
    → IsHeldHandle t h
good_bears t (request.Close handle) h plain good b = absurd cc
good_bears t (request.Read handle offset len) h plain good b = subst (IsHeldHandle t) b good.0
good_bears t (request.Write handle offset content) h plain good b = subst (IsHeldHandle t) b good.0
good_bears t (request.Fstat handle) h plain good b = subst (IsHeldHandle t) b good
good_bears t (request.Fsetstat handle attrs) h plain good b = subst (IsHeldHandle t) b good.0
good_bears t (request.Readdir handle) h plain good b = subst (IsHeldHandle t) b good
good_bears t (request.Fsync handle) h plain good b = subst (IsHeldHandle t) b good
good_bears t (request.CopyData from from_offset len to to_offset) h plain good (inl b) = subst (IsHeldHandle t) b good.0
good_bears t (request.CopyData from from_offset len to to_offset) h plain good (inr b) = subst (IsHeldHandle t) b good.1
good_bears t other h plain good b = absurd b

-- a whole read, which alone might ask past the range, asks by the handle that its OPEN brought
whole_bears : (path : List ℕ) (bound : ℕ) (site : Site) (facts : Facts) (mine : Own) (answers : Answers) (r : Request)
    (h : List ℕ) → next (call.FsRead path bound) site facts mine answers ≡ Ask r → BearsHandle r h
    → IsHeldHandle (situation (call.FsRead path bound) site facts mine answers) h
whole_bears path bound site facts [] answers r h asks b = absurd
    (opens (is_too_long (open_request to_read (from_directory site path))) asks)
  where
    opens : (long : Bool) → (if long then refuse_locally kind.PathTooLong site else
        Ask (open_request to_read (from_directory site path))) ≡ Ask r → ⊥
    opens true e = cc e
    opens false e = let same : r ≡ open_request to_read (from_directory site path) = cc e in
        subst (λ (q : Request). BearsHandle q h) same b
whole_bears path bound site facts (first ∷ reads) answers r h asks b =
    let w : WindowAsked (Some bound) first reads answers facts r =
    window_asked path (Some bound) site facts first reads answers r asks in
    let by : ByHandle w.handle r = asks_read w.handle (Some bound) reads answers facts r w.asks in
    let same : w.handle ≡ h = subst (λ (q : Request). BearsHandle q h) by.is b in
    record {
      grant = first.0;
      held = inr (record { asked = first.1; later = reads; handle = w.handle; first = refl; came = w.brought });
      bears = sym same ∙ sym (ap handle_of w.brought);
    }

-- what a call asks bears a handle that is held, unless it is a CLOSE
call_bears : (c : Call) (site : Site) (facts : Facts) (mine : Own) (answers : Answers) (r : Request) (h : List ℕ)
    → is_close r ≡ false → next c site facts mine answers ≡ Ask r → BearsHandle r h
    → IsHeldHandle (situation c site facts mine answers) h
call_bears (call.FsRead path bound) site facts mine answers r h plain asks b =
    whole_bears path bound site facts mine answers r h asks b
call_bears other site facts mine answers r h plain asks b = good_bears (situation other site facts mine answers) r h
    plain (asks_good other site facts mine answers r tt asks) b

-- what a call brings came with its first request
first_brought : (c : Call) (own : Own) (answers : Answers) (g : ℕ) → MayBringGrant c own answers g
    → IsBrought own answers g
first_brought (call.OpenFile slot flags path) own answers g b = b
first_brought (call.FsRead path bound) own answers g b = b
first_brought (call.FsWrite path bytes) own answers g b = b
first_brought (call.List path bound) own answers g b = b
first_brought other own answers g b = absurd b

-- a call that has yet to ask has given up no grant
never_asks : (emptied : Site) (place : ℕ) (got : Option Reply) (r : Request) → once_answered place got (done_by emptied)
    ≡ Ask r → ⊥
never_asks emptied place None r e = cc
never_asks emptied place (Some q) r e = by_status (λ m. m ≡ Ask r → ⊥) q emptied (Done outcome.Done emptied)
    (λ n same. cc) (λ same. cc) e

close_asks : (slot : ℕ) (site : Site) (a : ℕ × Request) (later : Own) (answers : Answers) (r : Request) (x : Slot)
    → close_slot_next slot site (a ∷ later) answers x ≡ Ask r → ⊥
close_asks slot site a later answers r Empty e = cc
close_asks slot site a later answers r (File file) e = never_asks (with_slot site slot Empty) a.0 (answers a.0) r e
close_asks slot site a later answers r (Buffered file buffer) e =
    never_asks (with_slot site slot Empty) a.0 (answers a.0) r e

asker_has : (c : Call) (site : Site) (facts : Facts) (own : Own) (answers : Answers) (r : Request) (g : ℕ)
    → next c site facts own answers ≡ Ask r → has_grant site g ≡ true → has_grant (held_by (Some c) own site) g ≡ true
asker_has (call.Close slot) site facts [] answers r g e h = h
asker_has (call.Close slot) site facts (a ∷ later) answers r g e h =
    absurd (close_asks slot site a later answers r (slot_at site slot) e)
asker_has other site facts own answers r g e h = h

-- ---- what a lane holds

-- a grant of a lane, whose HANDLE has these bytes
abbrev HoldsWith : Setting → List Entry → ℕ → List ℕ → ℕ → Type 0
HoldsWith s past lane h g = (holds s past g lane ≡ true) × (answer past g ≡ Some (reply.Handle h))

held_handle : (s : Setting) (past : List Entry) (lane n id : ℕ) (r : Request) (h : List ℕ)
    → IsJournal s (entry.Event (Submit (owner.Call lane n) id r) ∷ past) → is_close r ≡ false → BearsHandle r h
    → (g : ℕ)
    × HoldsWith s past lane h g
held_handle s past lane n id r h j plain b = by_call (current s past lane) refl (next_submit s past lane n id r j.0).1
  where
    mine : Own
    mine = own past lane (count_ended past lane)

    by_call : (c : Option Call) → current s past lane ≡ c → move_at c (site_of s past lane) s.facts mine (answer past)
        ≡ Some (Ask r) → (g : ℕ) × HoldsWith s past lane h g
    by_call None at is = absurd cc
    by_call (Some c) at is =
        let asks : next c (site_of s past lane) s.facts mine (answer past) ≡ Ask r = cc is in
        let w = call_bears c (site_of s past lane) s.facts mine (answer past) r h plain asks b in (
          w.grant,
          elim w.held [
            | inl stood ↦ (let owned = slots_owned s past lane w.grant j.1 stood in
                let has : has_grant (held_site s past lane) w.grant ≡ true =
                ap (λ (x : Option Call). has_grant (held_by x mine (site_of s past lane)) w.grant) at
                ∙ asker_has c (site_of s past lane) s.facts mine (answer past) r w.grant asks stood in (
                  or_left (has_grant (held_site s past lane) w.grant) (is_unended_asker past lane w.grant) has,
                  grant_came (answer past w.grant) h owned.0 (sym w.bears),
                ))
            | inr new ↦ (let first = first_brought c mine (answer past) w.grant new in
                let asker : is_unended_asker past lane w.grant ≡ true =
                own_asked past lane (count_ended past lane) w.grant (ap (λ (o : Own). has_place o w.grant) first.first
                ∙ or_left (w.grant == w.grant) _ (eq-eqb w.grant w.grant refl))
                in (
                  or_right (has_grant (held_site s past lane) w.grant) (is_unended_asker past lane w.grant) asker,
                  grant_came (answer past w.grant) h (ap is_granted first.came) (sym w.bears),
                ))
          ],
        )

first_is : (f : ℕ → Bool) (n k : ℕ) → k < n → f k ≡ true → (g : ℕ) × (first_below f n ≡ Some g)
first_is f n k lt is = by_first (first_below f n) refl
  where
    by_first : (o : Option ℕ) → first_below f n ≡ o → (g : ℕ) × (first_below f n ≡ Some g)
    by_first (Some g) e = (g, e)
    by_first None e = absurd (both_ways (f k) (below_none f n e k lt) is)

both_true : (a b : Bool) → a ≡ true → b ≡ true → (a && b) ≡ true
both_true a b e f = rw (e, f) refl

-- the grant that a request is said to use is one of its lane
abbrev UsesOne : Setting → List Entry → ℕ → Own → List ℕ → Type 0
UsesOne s past lane o h = (g : ℕ) × ((used_in s past lane o h ≡ Some g) × HoldsWith s past lane h g)

held_one : (s : Setting) (past : List Entry) (lane g : ℕ) (h : List ℕ) → HoldsWith s past lane h g → (k : ℕ)
    × ((held_with s past lane h ≡ Some k) × HoldsWith s past lane h k)
held_one s past lane g h w =
    let test : ℕ → Bool = λ k. holds s past k lane && is_handle_reply (answer past k) h in
    let below : g < count_submitted past = granted_below past g (ap is_granted w.1) in
    let first = first_is test (count_submitted past) g below (both_true (holds s past g lane)
    (is_handle_reply (answer past g) h) w.0 (is_brought (answer past g) h w.1)) in
    let passes = and_parts (holds s past first.0 lane) (is_handle_reply (answer past first.0) h)
    (first_passes test (count_submitted past) first.0 first.1).1 in
    (first.0, (first.1, (passes.0, brought_is (answer past first.0) h passes.1)))

one_used : (s : Setting) (past : List Entry) (lane g : ℕ) (h : List ℕ) (o : Own) → HoldsWith s past lane h g
    → ((a : ℕ × Request) (later : Own) → o ≡ a ∷ later → holds s past a.0 lane ≡ true) → UsesOne s past lane o h
one_used s past lane g h [] w firsts = held_one s past lane g h w
one_used s past lane g h (a ∷ later) w firsts = by_test (is_handle_reply (answer past a.0) h) refl
  where
    by_test : (b : Bool) → is_handle_reply (answer past a.0) h ≡ b → (k : ℕ)
        × (((if b then Some a.0 else held_with s past lane h) ≡ Some k) × HoldsWith s past lane h k)
    by_test true e = (a.0, (refl, (firsts a later refl, brought_is (answer past a.0) h e)))
    by_test false e = held_one s past lane g h w

pub first_held : (s : Setting) (past : List Entry) (lane : ℕ) (a : ℕ × Request) (later : Own)
    → own past lane (count_ended past lane) ≡ a ∷ later → holds s past a.0 lane ≡ true
first_held s past lane a later is =
    or_right (has_grant (held_site s past lane) a.0) (is_unended_asker past lane a.0)
    (own_asked past lane (count_ended past lane) a.0 (ap (λ (o : Own). has_place o a.0) is
    ∙ or_left (a.0 == a.0) _ (eq-eqb a.0 a.0 refl)))

-- what a lane holds has no CLOSE
pub unclosed_held : (s : Setting) (past : List Entry) (g lane : ℕ) → IsJournal s past → lane < length s.lanes
    → holds s past g lane ≡ true → is_one_of (closed_grants s past) g ≡ false
unclosed_held s past g lane j there holder =
    false_from_ne_true (is_one_of (closed_grants s past) g) (λ e. both_ways (is_held s past g)
    (gone_unheld s past g j e).1
    (any_passes (holds s past g) (length s.lanes) lane there holder))

-- ---- what is submitted

pub asker_there : (s : Setting) (past : List Entry) (lane n id : ℕ) (r : Request)
    → IsJournal s (entry.Event (Submit (owner.Call lane n) id r) ∷ past) → lane < length s.lanes
asker_there s past lane n id r j =
    lane_there s past lane j.1 (λ none. let move : move_at None (site_of s past lane) s.facts
    (own past lane (count_ended past lane)) (answer past) ≡ Some (Ask r) =
    ap (λ (x : Option Call). move_at x (site_of s past lane) s.facts (own past lane (count_ended past lane))
    (answer past))
    (sym none) ∙ (next_submit s past lane n id r j.0).1 in cc move)

plain_bears : (s : Setting) (past : List Entry) (lane n id : ℕ) (r : Request) (h : List ℕ)
    → IsJournal s (entry.Event (Submit (owner.Call lane n) id r) ∷ past) → is_close r ≡ false → BearsHandle r h
    → BearsGrant s past (owner.Call lane n) r h
plain_bears s past lane n id r h j plain b =
    let now : n ≡ count_ended past lane = (next_submit s past lane n id r j.0).0 in
    let w = held_handle s past lane n id r h j plain b in
    let u : UsesOne s past lane (own past lane n) h = subst (λ (k : ℕ). UsesOne s past lane (own past lane k) h)
    (sym now) (one_used s past lane w.0 h (own past lane (count_ended past lane)) w.1 (first_held s past lane)) in
    record {
      grant = u.0;
      is = rw plain u.1.0;
      came = u.1.1.1;
      unclosed =
          unclosed_held s past u.0 lane j.1 (asker_there s past lane n id r j) u.1.1.0;
      may = u.1.1.0;
    }

-- a CLOSE of a call closes what its lane holds
closer_holds : (s : Setting) (past : List Entry) (lane n id g : ℕ) (handle : List ℕ)
    → IsJournal s (entry.Event (Submit (owner.Call lane n) id (request.Close handle)) ∷ past)
    → closes s past (closed_grants s past) (owner.Call lane n) ≡ Some g
    → holds s past g lane ≡ true
closer_holds s past lane n id g handle j is =
    let may = next_submit s past lane n id (request.Close handle) j.0 in
    let mine : Own = own past lane (count_ended past lane) in
    let site : Site = site_of s past lane in
    let a : AsksClose (current s past lane) site mine (answer past) handle =
    asks_close (current s past lane) site s.facts mine (answer past) handle may.1 in
    let w : ClosesGrant a.0 site mine (answer past) handle = a.1.1 in
    let closes_it : closes s past (closed_grants s past) (owner.Call lane n) ≡ Some w.grant =
    ap (λ (k : ℕ). closes s past (closed_grants s past) (owner.Call lane k)) may.0 ∙ ap (λ x. closed_by x site) a.1.0
    ∙ w.stood in
    let same : Some w.grant ≡ Some g = sym closes_it ∙ is in
    let one : w.grant ≡ g = cc same in
    let stood : has_grant site w.grant ≡ true = slot_held site.slots a.0 w.grant w.stood in
    let held : has_grant (held_site s past lane) w.grant ≡ true =
    ap (λ (x : Own). has_grant (held_by (current s past lane) x site) w.grant) w.fresh
    ∙ ap (λ x. has_grant (held_by x [] site) w.grant) a.1.0 ∙ stood in
    subst (λ (k : ℕ). holds s past k lane ≡ true) one (or_left (has_grant (held_site s past lane) w.grant)
    (is_unended_asker past lane w.grant) held)

closer_may : (s : Setting) (past : List Entry) (by : Owner) (id g : ℕ) (handle : List ℕ)
    → IsJournal s (entry.Event (Submit by id (request.Close handle)) ∷ past) → closes s past (closed_grants s past) by
    ≡ Some g
    → MayUse s past by g
closer_may s past (owner.Call lane n) id g handle j is = closer_holds s past lane n id g handle j is
closer_may s past owner.Setup id g handle j is = absurd cc
closer_may s past owner.Close id g handle j is = is

close_bears : (s : Setting) (past : List Entry) (by : Owner) (id : ℕ) (handle h : List ℕ)
    → IsJournal s (entry.Event (Submit by id (request.Close handle)) ∷ past) → handle ≡ h
    → BearsGrant s past by (request.Close handle) h
close_bears s past by id handle h j b =
    let c : IsClosing s past by id handle = closing s past by id handle j (λ g. gone_unheld s past g j.1) in
    record {
      grant = c.grant;
      is = c.is;
      came = grant_came (answer past c.grant) h c.unheld.0 (c.bears ∙ b);
      unclosed =
          c.unclosed;
      may = closer_may s past by id c.grant handle j c.is;
    }

-- what the session submits bears a handle in a CLOSE alone
pub session_bears : (s : Setting) (past : List Entry) (id : ℕ) (r : Request)
    → IsJournal s (entry.Event (Submit owner.Close id r) ∷ past) → is_close r ≡ true
session_bears s past id r j = by_due (last_cancel past) (next_due s past) j.0
  where
    e : Entry
    e = entry.Event (Submit owner.Close id r)

    by_due : (c g : Option ℕ) → MatchOption c (MatchOption g (MayCome s past e) (λ grant. MustClose past grant e))
        (λ l. e ≡ cancelled_end past l) → is_close r ≡ true
    by_due (Some l) g k = absurd (cc k)
    by_due None None k = absurd k
    by_due None (Some g) k = let is : r ≡ request.Close (handle_of (answer past g)) = cc (k.1.1) in ap is_close is

pub setup_asks : (s : Setting) (past : List Entry) (id : ℕ) (r : Request)
    → IsJournal s (entry.Event (Submit owner.Setup id r) ∷ past) → r ≡ request.LimitsQuery
setup_asks s past id r j = (may_of s past (entry.Event (Submit owner.Setup id r)) j.0 (λ g m. cc (m.1.1))
    (λ k same. cc same)).2

other_bears : (s : Setting) (past : List Entry) (by : Owner) (id : ℕ) (r : Request) (h : List ℕ)
    → IsJournal s (entry.Event (Submit by id r) ∷ past) → is_close r ≡ false → BearsHandle r h
    → BearsGrant s past by r h
other_bears s past (owner.Call lane n) id r h j plain b = plain_bears s past lane n id r h j plain b
other_bears s past owner.Setup id r h j plain b = absurd (subst (λ (q : Request). BearsHandle q h)
    (setup_asks s past id r j) b)
other_bears s past owner.Close id r h j plain b = absurd (both_ways (is_close r) plain (session_bears s past id r j))

pub bears_grant : (s : Setting) (past : List Entry) (by : Owner) (id : ℕ) (r : Request) (h : List ℕ)
    → IsJournal s (entry.Event (Submit by id r) ∷ past) → BearsHandle r h → BearsGrant s past by r h
bears_grant s past by id (request.Close handle) h j b = close_bears s past by id handle h j b
bears_grant s past by id other h j b = other_bears s past by id other h j refl b
