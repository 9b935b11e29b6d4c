-- How a seat opens the session.
use Rattle.std.proofs.Common.{◌≡◌, ◌⊎◌, ◌≤◌, ◌+◌, ◌-◌, ℕ, List, [], drop, Bool, true, false, true≢false, refl, sym, ap, ◌∙◌, subst, inl, inr, arith, Option, Some, None, Ok, Err}
use Rattle.std.specs.Prelude.{IfErr, OnOk, Result}
use Rattle.session_driver.specs.declared.session.Phase.TheVariants.{Fresh, Greeted}
use Rattle.session_driver.specs.Session.{SessionView}
use Rattle.session_driver.specs.declared.session.Phase.{Phase}
use Rattle.link_frames.specs.Causes.{IsCausedByLink}
use Rattle.link_frames.specs.Reading.{IsWhole}
use Rattle.session_model.specs.declared.entry.Entry.{Entry}
use Rattle.session_model.specs.declared.entry.Entry.TheVariants as entry
use Rattle.session_model.specs.Settings.{version_reply_of}
use Rattle.session_model.specs.Shown.{hello_frame}
use Rattle.session_seats.specs.declared.view.Claim.{Claim}
use Rattle.session_seats.specs.declared.view.Receipt.{Receipt}
use Rattle.session_seats.specs.declared.view.Sight.{Sight}
use Rattle.session_seats.specs.Holds.{Allowance, Applied, GoesBy, AddsEntries, Hold, claim_of, no_allowance, passes}
use Rattle.session_seats.specs.Sights.{StaysThere}
use Rattle.session_seats.proofs.GrowLaws.{grew_on, grew_weaker}
use Rattle.session_seats.proofs.HoldLaws.{hold_map}
use Rattle.session_seats.proofs.Lists.{stays_same}
use Rattle.session_seats.proofs.RepeatLaws.{sees_version}
use Rattle.session_work.specs.Working.{past_of}
use Rattle.sftp_lanes.specs.Events.{BeginsBy, FrameRead, HandsHello, HandsOutIn, TakesIn, TakesVersion}
use Rattle.sftp_lanes.specs.Seen.{SessionValue}
use Rattle.sftp_lanes.proofs.ReadFrames.{same_read}
use Rattle.sftp_link.specs.Told.{GotAll, IfLogged}
use Rattle.sftp_link.specs.Views.{LinkView}
use Rattle.sftp_model.specs.declared.error.Error.{Error}
use Rattle.sftp_model.specs.declared.error.Fault.TheVariants as fault
use Rattle.sftp_model.specs.declared.frame_error.FrameError.{FrameError}
use Rattle.sftp_model.specs.declared.reply.Reply.{Reply}
use Rattle.sftp_core.specs.Pieces.{chunk_bytes}
use Rattle.sftp_model.specs.ReplyReadings.{reply_at}
use Rattle.sftp_wire.specs.FrameReader.{Received}
use Rattle.sftp_wire.specs.Reading.{GivesBody}
use Rattle.sftp_tasks.specs.declared.frames.Handed.{Handed}
use Rattle.sftp_tasks.specs.declared.locked.Locked.{Locked}
use Rattle.sftp_tasks.specs.Calls.{with_receipt}
use Rattle.sftp_tasks.specs.Entries.{by_failing, by_nothing}
use Rattle.sftp_tasks.specs.LockedEvents.{HandingOut, CountsTakenFrame, ReadsFrame, UnlessFault, tells_written}
use Rattle.sftp_tasks.specs.Opening.{FindsHello, GetsSomeVersion, HandingHello, HandsOutHello, IsUnasked, TakingVersion, TakingVersionFrame, VersionStops, by_opening}
use Rattle.sftp_tasks.specs.Rounds.{RefusesRound, Token}
use Rattle.sftp_tasks.specs.SessionEvents.{MayTakeCalls, RefusesCall, TakeStops}
use Rattle.sftp_tasks.specs.Shows.{shown_of}
use Rattle.sftp_tasks.proofs.EntryLaws.{
  Extended,
  Extends,
  begins_later,
  extends_none,
  extends_one,
  kept_extended,
  refuses_extended,
  same_extended,
  session_goes,
  stops_extended,
}
use Rattle.sftp_tasks.proofs.HoldLaws.{handed_goes, stops_as_read, taken_goes}
use Rattle.sftp_tasks.proofs.PhaseLaws.{number_rises}
use Rattle.sftp_tasks.proofs.SentEvents.{whole_body}

-- ---- the hello

hello_extended : (test : Entry → Bool) (old new : SessionValue) → old.phase ≡ Fresh → HandsHello old new
    → Extended test old new
hello_extended test old new fresh h = record {
  past = ([], ap (λ (s : SessionView). s.progress.past) h.greeted, refl);
  lanes = ap (λ (s : SessionView). s.given.lanes) h.greeted;
  options = ap (λ (s : SessionView). s.given.options) h.greeted;
  version = subst (StaysThere old.version) (sym (ap (λ (s : SessionView). s.version) h.greeted))
      (stays_same old.version);
  phase = number_rises old.phase new.phase Fresh Greeted (sym fresh) (ap (λ (s : SessionValue). s.phase) h.rest)
      (omega arith);
}

pub hello_goes : (lane : Option ℕ) (y z : Locked) (r : Result (Option Handed) Error) → z
    ≡ record y { session = z.session; counts = record y.counts { handed = z.counts.handed } }
    → HandingHello y z r → GoesBy (passes by_nothing lane) no_allowance (shown_of y) (shown_of z)
hello_goes lane y z (Ok None) rest h = subst (λ (x : Locked). GoesBy (passes by_nothing lane) no_allowance (shown_of y)
    (shown_of x)) (sym h.1)
    (session_goes _ y y refl (same_extended _ y.session y.session refl))
hello_goes lane y z (Ok (Some x)) rest h = handed_goes _ y z rest (let more = h.counts.counts in omega arith)
    (hello_extended _ y.session z.session h.fresh h.hands)
hello_goes lane y z (Err e) rest h = handed_goes _ y z rest (let same = h.1 in omega arith)
    (refuses_extended _ e y.session z.session h.0)

none-some : {A : Type 0} (x : A) → None ≡ Some x → ⊥
none-some x e = cc e

some-same : (a b : List ℕ) → Some a ≡ Some b → a ≡ b
some-same a b e = cc e

-- the hello is handed out first
pub hello_first : (y z : Locked) (r : Result (Option Handed) Error) → y.session.phase ≡ Fresh → HandingOut y z r
    → HandingHello y z r
hello_first y z (Ok None) fresh h =
    absurd (none-some hello_frame (subst (λ (p : Phase). HandsOutIn p y.session z.session None) fresh h.0).0)
hello_first y z (Ok (Some x)) fresh h =
    let s = subst (λ (p : Phase). HandsOutIn p y.session z.session (Some (chunk_bytes x.chunk))) fresh h.0 in
    record {
      hello = some-same (chunk_bytes x.chunk) hello_frame s.0;
      fresh = fresh;
      hands = s.1;
      counts = h.1.0.0;
      written = h.1.1;
    }
hello_first y z (Err e) fresh h = h

-- a seat may record as written the frames that it handed out
pub hello_unwritten : (m n : Token) {Did : Locked → Locked → List Entry → Type 0} (h : Hold shown_of Did m n)
    (handed : Handed)
    → HandsOutHello h.before h.after handed → handed.frames ≤ (claim_of n).unwritten
hello_unwritten m n h handed r =
    let un : (claim_of n).unwritten ≡ (claim_of m).unwritten + h.after.counts.handed + h.now.counts.written -
    (h.now.counts.handed + h.after.counts.written) = ap (λ (x : Token). (claim_of x).unwritten) h.is in
    let all : h.now.counts.handed ≡ h.before.counts.handed = ap (λ (s : Sight). s.counts.handed) h.took.shows.told in
    let wrote : h.now.counts.written ≡ h.before.counts.written = ap (λ (s : Sight). s.counts.written) h.took.shows.told
    in
    let more = r.counts.counts in
    let same = r.written in
    omega arith

-- a hold that takes no user out leaves the seat its share
pub share_kept_by : {X Y : Type 0} {test : Entry → Bool} {Does : Locked → Locked → Type 0} {copied : Result X Y}
    {old new : List Receipt} (frames : ℕ) (m n : Token)
    → Hold shown_of (Applied shown_of test (tells_written frames) Does copied old new) m n
    → (claim_of m).share ≤ (claim_of n).share
share_kept_by frames m n h =
    let is : (claim_of n).share ≡ (claim_of m).share + h.after.users - h.before.users =
    ap (λ (x : Token). (claim_of x).share) h.is in
    let stay : h.before.users ≤ 0 + h.after.users = h.did.goes.users in
    omega (arith, is, stay)

-- ---- VERSION

begins_extend : (asks : Bool) (p : Phase) (before now : List Entry) (lane : Option ℕ) → BeginsBy asks p before now
    → Extends (passes by_opening lane) before now
begins_extend false p before now lane h = subst (Extends (passes by_opening lane) before) (sym h.1)
    (extends_none _ before)
begins_extend true p before now lane h = subst (Extends (passes by_opening lane) before) (sym h.1.1.1)
    (extends_one _ _ before refl)

version_extended : (body_reads : Result (Option ℕ × Reply) FrameError) (asks : Bool) (lane : Option ℕ)
    (old new : SessionValue)
    → TakesVersion body_reads asks old new → Greeted ≡ old.phase → Extended (passes by_opening lane) old new
version_extended body_reads asks lane old new h was = record {
  past = begins_extend asks new.phase (past_of old.work) (past_of new.work) lane h.begins;
  lanes = ap (λ (s : SessionValue). s.lanes) h.rest;
  options = ap (λ (s : SessionValue). s.options) h.rest;
  version = subst (λ (v : Option Reply). StaysThere v new.version) (sym h.untold) tt;
  phase = begins_later old.phase asks new.phase _ _ was h.begins;
}

-- a frame that is not taken as VERSION adds at most a fault
untaken_extended : (lane : Option ℕ) (read : FrameRead) (e : Error) (old new : SessionValue)
    → RefusesCall e old new ⊎ (TakeStops read e old new ⊎ IsUnasked e old new)
    → Extended (passes by_opening lane) old new
untaken_extended lane read e old new (inl h) = refuses_extended _ e old new h
untaken_extended lane read e old new (inr (inl h)) = stops_extended _ (λ f. refl) _ e old new h
untaken_extended lane read e old new (inr (inr h)) = kept_extended _ (λ f. refl) (fault.Response None) old new h.kept

pub version_goes : (lane : Option ℕ) (read : FrameRead) (y z : Locked) (r : Result (Unit {0}) Error) → z
    ≡ record y { session = z.session; counts = record y.counts { taken = z.counts.taken } }
    → y.counts.taken ≤ z.counts.taken → TakingVersion read y z r
    → GoesBy (passes by_opening lane) no_allowance (shown_of y) (shown_of z)
version_goes lane read y z (Ok u) rest more h = taken_goes _ y z rest more
    (version_extended _ h.0.0 lane y.session z.session h.0.1 (sym h.2))
version_goes lane read y z (Err e) rest more h = taken_goes _ y z rest more
    (untaken_extended lane read e y.session z.session h.0)

pub version_awaited : (read : FrameRead) (y z : Locked) (r : Result (Unit {0}) Error) → y.session.phase ≡ Greeted
    → CountsTakenFrame read y z r → TakingVersion read y z r
version_awaited read y z (Ok u) greeted h = (
  subst (λ (p : Phase). TakesIn p read y.session z.session)
      greeted h.0,
  h.1,
  greeted,
)
version_awaited read y z (Err e) greeted h = (inr (inl h.0), h.1)

-- VERSION is taken as it was read
taken_version : (read bytes : FrameRead) (y z : Locked) (r : Result (Unit {0}) Error) → GivesBody read bytes
    → TakingVersion read y z r → TakingVersion bytes y z r
taken_version read bytes y z (Ok u) gives h =
    let v = h.0 in (
      (
        v.0,
        subst (λ (b : FrameRead). TakesVersion b v.0 y.session z.session)
            (sym (same_read read bytes gives _ v.1.reads)) v.1,
      ),
      h.1,
      h.2,
    )
taken_version read bytes y z (Err e) gives h = (untaken h.0, h.1)
  where
    untaken : RefusesCall e y.session z.session
        ⊎ (TakeStops read e y.session z.session ⊎ IsUnasked e y.session z.session)
        → RefusesCall e y.session z.session
        ⊎ (TakeStops bytes e y.session z.session ⊎ IsUnasked e y.session z.session)
    untaken (inl h) = inl h
    untaken (inr (inl h)) = inr (inl (stops_as_read read bytes e y.session z.session gives h))
    untaken (inr (inr h)) = inr (inr h)

-- the body of the frame is taken
taking_version : (frame : Received) (read : FrameRead) (y z : Locked) (r : Result (Unit {0}) Error)
    → ReadsFrame frame read → TakingVersion read y z r → TakingVersionFrame frame y z r
taking_version frame read y z r reads h body is =
    let g = reads body is in (g.0, taken_version read (reply_at body) y z r g.1 h)

module _ {X Y Service : Type 0} {test : Entry → Bool} {needs : Allowance} {old new : List Receipt} (copied : Result X Y)
    (m n : Token)
    (frame : Received) (read : FrameRead) (before now : LinkView Service) where
  -- a frame that was got and taken is VERSION
  version_got : IsWhole frame → ReadsFrame frame read → IfLogged (GotAll frame.bytes) before.log now.log
      → IsCausedByLink {T = Received} before now (Ok frame)
      → Hold shown_of (Applied shown_of test needs (λ y z. UnlessFault (TakingVersion read) y z (Ok tt)) copied old new)
      m n → GetsSomeVersion m n before now
  version_got whole reads got caused h =
      let body = drop 4 frame.bytes in
      let taken = taking_version frame read h.before h.after (Ok tt) reads h.did.does.0 in
      let t = taken body (whole_body frame whole) in
      let v = t.1.0.1 in (
        version_reply_of v.extensions,
        record {
          frame = frame;
          got = got;
          caused = caused;
          reads = record { body = body; framed = t.0.0; short = t.0.1; reads = v.reads };
          takes = hold_map shown_of m n h (
            ((t.1.0.0, subst (λ x. TakesVersion x t.1.0.0 h.before.session h.after.session) v.reads v), t.1.1),
            h.did.does.1,
          );
          sees = sees_version shown_of m n h ∙ v.told;
        },
      )

  pub version_gets : (did : Result (Unit {0}) Error) → IsWhole frame → ReadsFrame frame read
      → IfLogged (GotAll frame.bytes) before.log now.log
      → IsCausedByLink {T = Received} before now (Ok frame)
      → Hold shown_of (Applied shown_of test needs (λ y z. UnlessFault (TakingVersion read) y z did) copied old new) m n
      → OnOk (with_receipt did copied) (GetsSomeVersion m n before now)
      × IfErr (with_receipt did copied) (λ e. VersionStops e m n before now)
  version_gets (Err e) whole reads got caused h =
      let refused = taking_version frame read h.before h.after (Err e) reads h.did.does.0 in (
        tt,
        inr (inl record { frame = frame; whole = whole; got = got; refuses = hold_map shown_of m n h refused }),
      )
  version_gets (Ok u) whole reads got caused h = by_copied copied (version_got whole reads got caused h)
    where
      by_copied : (c : Result X Y) → GetsSomeVersion m n before now
          → OnOk (with_receipt {X = X} {Y = Y} (Ok u) c) (GetsSomeVersion m n before now)
          × IfErr (with_receipt {X = X} {Y = Y} (Ok u) c) (λ e. VersionStops e m n before now)
      by_copied (Ok x) g = (g, tt)
      by_copied (Err y) g = (tt, inr (inr (refl, g)))

pub if_ok : {T E : Type 0} (r : Result T E) (P : Type 0) → P → OnOk r P
if_ok (Ok x) P p = p
if_ok (Err e) P p = tt

-- ---- which entries

pub opening_nothing : (lane : Option ℕ) (a b : Claim) → AddsEntries (by_nothing lane) a b
    → AddsEntries (by_opening lane) a b
opening_nothing lane a b g = grew_weaker (by_nothing lane) (by_opening lane) (λ e h. absurd (true≢false (sym h))) a b g

failing_opens : (lane : Option ℕ) (e : Entry) → by_failing lane e ≡ true → by_opening lane e ≡ true
failing_opens lane (entry.Kept f) h = refl
failing_opens lane (entry.Event x) h = absurd (true≢false (sym h))
failing_opens lane (entry.Added l call) h = absurd (true≢false (sym h))
failing_opens lane (entry.LetGo l) h = absurd (true≢false (sym h))

pub opening_failing : (lane : Option ℕ) (a b : Claim) → AddsEntries (by_failing lane) a b
    → AddsEntries (by_opening lane) a b
opening_failing lane a b g = grew_weaker (by_failing lane) (by_opening lane) (failing_opens lane) a b g

pub opening_on : (lane other : Option ℕ) (a b c : Claim) → other ≡ lane → AddsEntries (by_opening lane) a b
    → AddsEntries (by_opening other) b c
    → AddsEntries (by_opening lane) a c
opening_on lane other a b c same g h = grew_on (by_opening lane) a b c g
    (subst (λ (l : Option ℕ). AddsEntries (by_opening l) b c) same h)

-- ---- the holds

module _ {X Y : Type 0} {test : Entry → Bool} {needs : Allowance} {old new : List Receipt} {copied : Result X Y}
    (m n : Token) where
  pub hello_none : (did : Result (Option Handed) Error) → did ≡ Ok None
      → Hold shown_of (Applied shown_of test needs (λ y z. UnlessFault HandingHello y z did) copied old new) m n
      → FindsHello m n
  hello_none did is h =
      let r = subst (λ (x : Result (Option Handed) Error). UnlessFault HandingHello h.before h.after x) is h.did.does in
      hold_map shown_of m n h (r.0.0, r.0.1, r.1)

  pub hello_refused : {Service : Type 0} (before : LinkView Service) (did : Result (Option Handed) Error) (e : Error)
      → did ≡ Err e
      → Hold shown_of (Applied shown_of test needs (λ y z. UnlessFault HandingHello y z did) copied old new) m n
      → RefusesRound e m n before before
  hello_refused before did e is h =
      let r = subst (λ (x : Result (Option Handed) Error). UnlessFault HandingHello h.before h.after x) is h.did.does in
      (hold_map shown_of m n h r.0.0, refl)

  pub hello_handed : (did : Result (Option Handed) Error) (handed : Handed) → did ≡ Ok (Some handed)
      → (h : Hold shown_of (Applied shown_of test needs (λ y z. UnlessFault HandingHello y z did) copied old new) m n)
      → HandsOutHello h.before h.after handed × MayTakeCalls h.before.session
  hello_handed did handed is h =
      let r = subst (λ (x : Result (Option Handed) Error). UnlessFault HandingHello h.before h.after x) is h.did.does in
      (r.0, r.1)
