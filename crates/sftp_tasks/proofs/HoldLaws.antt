-- What one hold of the locked value adds to its journal, with counts that rise.
use Rattle.std.proofs.Common.{
  ◌≡◌,
  ◌≢◌,
  ◌≤◌,
  ℕ,
  ◌+◌,
  ◌-◌,
  ◌==◌,
  List,
  [],
  ◌∷◌,
  Bool,
  true,
  false,
  true≢false,
  refl,
  sym,
  ap,
  ◌∙◌,
  subst,
  ⊎_elim,
  ◌⊎◌,
  inl,
  inr,
  arith,
  Some,
  None,
  Ok,
  Err,
  IfOk,
  IfErr,
  OnOk,
  MatchOption,
  ◌^◌,
  min,
  nat_le,
}
use Rattle.std.proofs.lemmas.Bool.Decides.{nat_tests}
use Rattle.std.specs.Prelude.{Option, Result}
use Rattle.std.specs.List.{list_all}
use Rattle.sftp_model.specs.declared.error.Error.{Error}
use Rattle.sftp_model.specs.declared.error.Error.TheVariants as error
use Rattle.sftp_model.specs.declared.error.Fault.{Fault}
use Rattle.session_driver.specs.declared.session.Phase.{Phase}
use Rattle.session_driver.specs.declared.session.Phase.TheVariants.{Fresh, Open, Failed}
use Rattle.session_model.specs.Readings.{count_unanswered}
use Rattle.session_model.specs.declared.entry.Entry.{Entry}
use Rattle.session_model.specs.declared.entry.Entry.TheVariants as entry
use Rattle.sftp_lanes.specs.Events.{FrameRead, HandsOutIn, TakesIn}
use Rattle.sftp_lanes.specs.Seen.{SessionValue}
use Rattle.sftp_lanes.proofs.ReadFrames.{taken_as_read, wrong_as_read}
use Rattle.session_work.specs.Working.{LanesValue, past_of}
use Rattle.session_seats.specs.Sights.{FitsStage, CountsRise, StaysThere}
use Rattle.atomic_table.specs.Table.{Me}
use Rattle.session_seats.specs.declared.view.Sight.{Sight}
use Rattle.session_seats.specs.declared.view.View.{View}
use Rattle.session_seats.specs.Holds.{Allowance, GoesBy, Hold, claim_of, no_allowance, passes}
use Rattle.session_seats.proofs.Lists.{stays_on, stays_same}
use Rattle.sftp_tasks.specs.declared.locked.Locked.{Locked}
use Rattle.sftp_tasks.specs.Shows.{counts_of, shown_of}
use Rattle.sftp_tasks.proofs.PhaseLaws.{number_fails, number_stays}
use Rattle.sftp_core.specs.Pieces.{chunk_bytes}
use Rattle.sftp_model.specs.ReplyReadings.{reply_at}
use Rattle.std.specs.Option.{option_map}
use Rattle.plan_model.specs.declared.call.Call.{Call}
use Rattle.sftp_lanes.specs.Adding.{AddsCall, IsSame}
use Rattle.sftp_tasks.specs.SessionEvents.{GivesUp, HandsUnsent, IsRefusedBy, IsUnawaited, KeepsFault, RefusesCall, RefusesToAdd, SubmitsCall, TakeStops}
use Rattle.sftp_tasks.specs.LockedEvents.{
  SettlesEnd,
  HandingOut,
  HandsOutFrames,
  CountsTakenFrame,
  IsFrame,
  ReadsFrame,
  TakingFrame,
  UnlessFault,
  NotesWritten,
  at_end,
  is_answered,
  tells_written,
}
use Rattle.sftp_wire.specs.FrameReader.{Received, body_of}
use Rattle.sftp_wire.specs.Reading.{GivesBody}
use Rattle.sftp_tasks.specs.declared.frames.Handed.{Handed}
use Rattle.sftp_tasks.specs.Entries.{by_failing, by_flush, by_nothing, by_read, by_step, by_submit}
use Rattle.sftp_tasks.proofs.EntryLaws.{
  Extends,
  and_true,
  extends_on,
  extends_one,
  Extended,
  same_extended,
  refuses_extended,
  session_goes,
  same_lane,
  steps_extended,
  hands_extended,
  takes_extended,
  kept_extended,
  stops_extended,
}

pub counts_goes : (test : Entry → Bool) (may : Allowance) (y z : Locked) → z.users ≡ y.users → z.seated ≡ y.seated
    → z.counts.stage ≡ y.counts.stage → CountsRise (counts_of y) (counts_of z)
    → y.counts.handed + z.counts.written ≤ may.tells + z.counts.handed + y.counts.written
    → Extended test y.session z.session → GoesBy test may (shown_of y) (shown_of z)
counts_goes test may y z users seated stage rises written e = (
  e.past.0,
  record {
    past = e.past.1;
    passes = e.past.2;
    seated = seated;
    lanes = e.lanes;
    options = e.options;
    version = e.version;
    rises = rises;
    written = written;
    users = omega arith;
    ends = subst (λ (k : ℕ × ℕ). FitsStage y.counts.stage y.users → FitsStage k.0 k.1) (λ i. (sym stage i, sym users i))
        (λ was. was);
  },
)

-- more frames were handed out
pub handed_goes : (test : Entry → Bool) (y z : Locked) → z ≡ record y
    { session = z.session; counts = record y.counts { handed = z.counts.handed } } → y.counts.handed ≤ z.counts.handed
    → Extended test y.session z.session → GoesBy test no_allowance (shown_of y) (shown_of z)
handed_goes test y z rest more e =
    let stage : z.counts.stage ≡ y.counts.stage = ap (λ (x : Locked). x.counts.stage) rest in
    let written : z.counts.written ≡ y.counts.written = ap (λ (x : Locked). x.counts.written) rest in
    let taken : z.counts.taken ≡ y.counts.taken = ap (λ (x : Locked). x.counts.taken) rest in
    counts_goes test no_allowance y z (ap (λ (x : Locked). x.users) rest) (ap (λ (x : Locked). x.seated) rest) stage
    record { handed = more; written = omega arith; taken = omega arith; stage = omega arith; phase = e.phase }
    (omega arith) e

pub taken_goes : (test : Entry → Bool) (y z : Locked) → z ≡ record y
    { session = z.session; counts = record y.counts { taken = z.counts.taken } } → y.counts.taken ≤ z.counts.taken
    → Extended test y.session z.session → GoesBy test no_allowance (shown_of y) (shown_of z)
taken_goes test y z rest more e =
    let stage : z.counts.stage ≡ y.counts.stage = ap (λ (x : Locked). x.counts.stage) rest in
    let written : z.counts.written ≡ y.counts.written = ap (λ (x : Locked). x.counts.written) rest in
    let handed : z.counts.handed ≡ y.counts.handed = ap (λ (x : Locked). x.counts.handed) rest in
    counts_goes test no_allowance y z (ap (λ (x : Locked). x.users) rest) (ap (λ (x : Locked). x.seated) rest) stage
    record { handed = omega arith; written = omega arith; taken = more; stage = omega arith; phase = e.phase }
    (omega arith) e

pub handing_goes : (lane : Option ℕ) (y z : Locked) (r : Result (Option Handed) Error) → z
    ≡ record y { session = z.session; counts = record y.counts { handed = z.counts.handed } }
    → HandingOut y z r → GoesBy (passes by_flush lane) no_allowance (shown_of y) (shown_of z)
handing_goes lane y z (Ok None) rest h = handed_goes _ y z rest (let same = h.1.0 in omega arith)
    (hands_extended y.session.phase lane y.session z.session None refl h.0)
handing_goes lane y z (Ok (Some x)) rest h = handed_goes _ y z rest (let more = h.1.0.0.counts in omega arith)
    (hands_extended y.session.phase lane y.session z.session _ refl h.0)
handing_goes lane y z (Err e) rest h = handed_goes _ y z rest (let same = h.1 in omega arith)
    (refuses_extended _ e y.session z.session h.0)

-- frames were written
pub writing_goes : (lane : Option ℕ) (frames : ℕ) (y z : Locked) → NotesWritten frames y z
    → y.counts.written ≤ z.counts.written → GoesBy (passes by_nothing lane) (tells_written frames) (shown_of y)
    (shown_of z)
writing_goes lane frames y z is small =
    let stage : z.counts.stage ≡ y.counts.stage = ap (λ (x : Locked). x.counts.stage) is in
    let written : z.counts.written ≡ min (y.counts.written + frames) (2 ^ 64 - 1) =
    ap (λ (x : Locked). x.counts.written) is in
    let handed : z.counts.handed ≡ y.counts.handed = ap (λ (x : Locked). x.counts.handed) is in
    let taken : z.counts.taken ≡ y.counts.taken = ap (λ (x : Locked). x.counts.taken) is in
    let same = same_extended _ y.session z.session (ap (λ (x : Locked). x.session) is) in
    counts_goes _ (tells_written frames) y z (ap (λ (x : Locked). x.users) is) (ap (λ (x : Locked). x.seated) is) stage
    record {
      handed = omega arith;
      written = omega arith;
      taken = omega arith;
      stage = omega arith;
      phase = same.phase;
    } (omega arith) same

pub taking_goes : (lane : Option ℕ) (read : FrameRead) (y z : Locked) (r : Result (Unit {0}) Error) → z
    ≡ record y { session = z.session; counts = record y.counts { taken = z.counts.taken } }
    → y.counts.taken ≤ z.counts.taken
    → CountsTakenFrame read y z r → GoesBy (passes by_read lane) no_allowance (shown_of y) (shown_of z)
taking_goes lane read y z (Ok u) rest more h = taken_goes _ y z rest more
    (takes_extended y.session.phase _ lane y.session z.session refl h.0)
taking_goes lane read y z (Err e) rest more h = taken_goes _ y z rest more
    (stops_extended _ (λ f. refl) _ e y.session z.session h.0)

pub failing_goes : (lane : Option ℕ) (f : Fault) (y z : Locked) (r : Result (Unit {0}) Error) → z
    ≡ record y { session = z.session }
    → KeepsFault f y.session z.session r → GoesBy (passes by_failing lane) no_allowance (shown_of y) (shown_of z)
failing_goes lane f y z (Ok u) rest h = session_goes _ y z rest (kept_extended _ (λ g. refl) f y.session z.session h)
failing_goes lane f y z (Err e) rest h = session_goes _ y z rest (same_extended _ y.session z.session h.1.1.1)

hands_from : (y z : Locked) (handed : Option Handed) → MatchOption handed (z.counts.handed ≡ y.counts.handed)
    (λ h. z.counts.handed ≡ y.counts.handed + h.frames)
    → MatchOption handed (Unit {0}) (λ h. HandsUnsent y.session h.chunk h.frames)
    → MatchOption handed (z.counts.handed ≡ y.counts.handed)
    (λ h. HandsOutFrames y z h.frames × HandsUnsent y.session h.chunk h.frames)
hands_from y z None counts frames = counts
hands_from y z (Some h) counts frames = (record { counts = counts; frames = frames.unsent }, frames)

pub handing_from : (y z : Locked) (r : Result (Option Handed) Error) → z
    ≡ record y { session = z.session; counts = record y.counts { handed = z.counts.handed } }
    → IfOk r (λ handed. HandsOutIn y.session.phase y.session z.session (option_map (λ h. chunk_bytes h.chunk) handed))
    → IfOk r (λ handed. MatchOption handed (z.counts.handed ≡ y.counts.handed)
    (λ h. z.counts.handed ≡ y.counts.handed + h.frames))
    → IfOk r (λ handed. MatchOption handed (Unit {0}) (λ h. HandsUnsent y.session h.chunk h.frames))
    → IfErr r (λ e. RefusesCall e y.session z.session × (z.counts.handed ≡ y.counts.handed)) → HandingOut y z r
handing_from y z (Ok handed) rest a b c d = (a, (hands_from y z handed b c, ap (λ (x : Locked). x.counts.written) rest))
handing_from y z (Err e) rest a b c d = d

pub taking_from : (read : FrameRead) (y z : Locked) (r : Result (Unit {0}) Error)
    → OnOk r (TakesIn y.session.phase read y.session z.session)
    → OnOk r ((z.counts.taken ≡ min (y.counts.taken + 1) (2 ^ 64 - 1)) × (y.counts.taken ≤ z.counts.taken))
    → IfErr r (λ e. TakeStops read e y.session z.session × (z.counts.taken ≡ y.counts.taken))
    → CountsTakenFrame read y z r × (y.counts.taken ≤ z.counts.taken)
taking_from read y z (Ok u) a b c = ((a, b.0), b.1)
taking_from read y z (Err e) a b c = (c, let same = c.1 in omega arith)

pub gives_up_goes : (lane : Option ℕ) (y z : Locked) → z ≡ record y { session = z.session }
    → GivesUp y.session z.session → GoesBy (passes by_nothing lane) no_allowance (shown_of y) (shown_of z)
gives_up_goes lane y z rest h = session_goes _ y z rest record {
  past = ([], ap (λ (s : SessionValue). past_of s.work) h, refl);
  lanes = ap (λ (s : SessionValue). s.lanes) h;
  options = ap (λ (s : SessionValue). s.options) h;
  version = subst (StaysThere y.session.version) (sym (ap (λ (s : SessionValue). s.version) h))
      (stays_same y.session.version);
  phase = number_fails y.session.phase z.session.phase (ap (λ (s : SessionValue). s.phase) h);
}

-- the end is settled
answered_begun : (p : Phase) (stage unanswered : ℕ) → is_answered p stage unanswered ≡ true → 1 ≤ stage
answered_begun Open stage unanswered is =
    let low = (Rattle.session_seats.proofs.HoldLaws.both_true (nat_le 1 stage) (unanswered == 0) is).0 in
    grind (arith, nat_tests)
answered_begun Fresh stage unanswered is = absurd (true≢false (sym is))
answered_begun other stage unanswered is = absurd (true≢false (sym is))

ends_at : (lane : Option ℕ) (y : Locked) (all : Bool) → y.counts.stage ≤ 2 → (all ≡ true → 1 ≤ y.counts.stage)
    → GoesBy (passes by_nothing lane) no_allowance (shown_of y) (shown_of (record y { counts = at_end all y.counts }))
ends_at lane y false most begun = session_goes _ y y refl (same_extended _ y.session y.session refl)
ends_at lane y true most begun =
    let low = begun refl in (
      [],
      record {
        past = refl;
        passes = refl;
        seated = refl;
        lanes = refl;
        options = refl;
        version = stays_same y.session.version;
        rises = record {
          handed = omega arith;
          written = omega arith;
          taken = omega arith;
          stage =
              omega (arith, most);
          phase = number_stays y.session.phase y.session.phase refl;
        };
        written = omega arith;
        users = omega arith;
        ends = λ was. (omega arith, λ rose. was.1 (omega (arith, low)));
      },
    )

pub finishing_goes : (lane : Option ℕ) (y z : Locked) (r : Result Bool Error) → y.counts.stage ≤ 2 → SettlesEnd y z r
    → GoesBy (passes by_nothing lane) no_allowance (shown_of y) (shown_of z)
finishing_goes lane y z (Ok all) most h =
    subst (λ (x : Locked). GoesBy (passes by_nothing lane) no_allowance (shown_of y) (shown_of x)) (sym h.1)
    (ends_at lane y all most (λ yes. answered_begun y.session.phase y.counts.stage _ (sym h.0 ∙ yes)))
finishing_goes lane y z (Err e) most h =
    subst (λ (x : Locked). GoesBy (passes by_nothing lane) no_allowance (shown_of y) (shown_of x)) (sym h.0)
    (session_goes _ y y refl (same_extended _ y.session y.session refl))

pub finishing_from : (y z : Locked) (r : Result Bool Error)
    → IfOk r (λ all. all ≡ is_answered y.session.phase y.counts.stage (count_unanswered (past_of y.session.work)))
    → IfOk r (λ all. z ≡ record y { counts = at_end all y.counts })
    → IfErr r (λ e. RefusesCall e y.session y.session × (z ≡ y)) → SettlesEnd y z r
finishing_from y z (Ok all) told stage refused = (told, stage)
finishing_from y z (Err e) told stage refused = (refused.1, refused.0)

-- ---- calls that are added

sames_contents : (old new : SessionValue) → IsSame old new → past_of new.work ≡ past_of old.work
sames_contents old new h = ap (λ (c : LanesValue). c.past) h.contents

pub refused_add_extended : (test : Entry → Bool) (e : Error) (old new : SessionValue) → RefusesToAdd e old new
    → Extended test old new
refused_add_extended test error.OutOfMemory old new h =
    ⊎_elim (same_extended test old new)
    (λ (s : IsSame old new). record {
      past = ([], sames_contents old new s, refl);
      lanes = ap (λ (x : SessionValue). x.lanes) s.rest;
      options = ap (λ (x : SessionValue). x.options) s.rest;
      version = subst (StaysThere old.version) (sym (ap (λ (x : SessionValue). x.version) s.rest))
          (stays_same old.version);
      phase = number_stays old.phase new.phase (ap (λ (x : SessionValue). x.phase) s.rest);
    })
    h
refused_add_extended test (error.BackgroundTaskFailure fault) old new h = same_extended test old new h.1
refused_add_extended test error.LinkFault old new h = absurd h
refused_add_extended test other old new h = absurd h

adds_call_extended : (lane : ℕ) (call : Call) (old new : SessionValue) → AddsCall lane call old new
    → Extended (passes by_submit (Some lane)) old new
adds_call_extended lane call old new h = record {
  past = subst (Extends (passes by_submit (Some lane)) (past_of old.work)) (sym (ap (λ (c : LanesValue). c.past) h.is))
      (extends_one _ (entry.Added lane call) (past_of old.work) (same_lane lane));
  lanes = ap (λ (x : SessionValue). x.lanes) h.rest;
  options = ap (λ (x : SessionValue). x.options) h.rest;
  version = subst (StaysThere old.version) (sym (ap (λ (x : SessionValue). x.version) h.rest)) (stays_same old.version);
  phase = number_stays old.phase new.phase (ap (λ (x : SessionValue). x.phase) h.rest);
}

step_is_submit : (lane : Option ℕ) (e : Entry) → passes by_step lane e ≡ true → passes by_submit lane e ≡ true
step_is_submit lane (entry.Event x) h = h
step_is_submit lane (entry.Added l call) h = absurd (true≢false (sym h))
step_is_submit lane (entry.LetGo l) h = absurd (true≢false (sym h))
step_is_submit lane (entry.Kept f) h = absurd (true≢false (sym h))

weaker : (P Q : Entry → Bool) → ((e : Entry) → P e ≡ true → Q e ≡ true) → (es : List Entry) → list_all P es ≡ true
    → list_all Q es ≡ true
weaker P Q f [] h = refl
weaker P Q f (e ∷ es) h = let b = Rattle.session_seats.proofs.HoldLaws.both_true (P e) (list_all P es) h in
    and_true (Q e) (list_all Q es) (f e b.0) (weaker P Q f es b.1)

extended_as : (P Q : Entry → Bool) → ((e : Entry) → P e ≡ true → Q e ≡ true) → (old new : SessionValue)
    → Extended P old new → Extended Q old new
extended_as P Q f old new h = record {
  past = (h.past.0, h.past.1, weaker P Q f h.past.0 h.past.2);
  lanes = h.lanes;
  options = h.options;
  version = h.version;
  phase = h.phase;
}

extended_on : (test : Entry → Bool) (a b c : SessionValue) → Extended test a b → Extended test b c → Extended test a c
extended_on test a b c p q = record {
  past = extends_on test (past_of a.work) (past_of b.work) (past_of c.work) p.past q.past;
  lanes = q.lanes ∙ p.lanes;
  options = q.options ∙ p.options;
  version = stays_on a.version b.version c.version p.version q.version;
  phase = (let first = p.phase in let then = q.phase in omega arith);
}

pub submits_extended : (lane : ℕ) (call : Call) (old new : SessionValue) (r : Result Bool Error)
    → SubmitsCall lane call old new r → Extended (passes by_submit (Some lane)) old new
submits_extended lane call old new (Ok true) h =
    extended_on _ old h.0 new (adds_call_extended lane call old h.0 h.1.0)
    (extended_as _ _ (step_is_submit (Some lane)) h.0 new (steps_extended h.0.phase lane h.0 new h.1.1.0 h.1.1.1))
submits_extended lane call old new (Ok false) h = same_extended _ old new h.1
submits_extended lane call old new (Err e) h =
    ⊎_elim (refused_add_extended _ e old new)
    (λ (x : (mid : SessionValue) × (AddsCall lane call old mid × RefusesCall e mid new)). extended_on _ old x.0 new
    (adds_call_extended lane call old x.0 x.1.0) (refuses_extended _ e x.0 new x.1.1))
    h

-- ---- rounds

pub none_passes : (lane : Option ℕ) (more : List Entry) → list_all (passes by_nothing lane) more ≡ true → more ≡ []
none_passes lane [] h = refl
none_passes lane (e ∷ more) h = absurd (true≢false (sym h))

pub if_false : (r : Result Bool Error) (P : Bool → Type 0) → IfOk r (λ did. did ≡ false) → P false → IfOk r P
if_false (Ok did) P is p = subst P (sym is) p
if_false (Err e) P is p = tt

-- a seat may record as written the frames that it handed out
pub handed_unwritten : (m n : Me Locked View) {Did : Locked → Locked → List Entry → Type 0} (h : Hold shown_of Did m n)
    (handed : Handed)
    → UnlessFault HandingOut h.before h.after (Ok (Some handed)) → handed.frames ≤ (claim_of n).unwritten
handed_unwritten m n h handed r =
    let un : (claim_of n).unwritten ≡ (claim_of m).unwritten + h.after.counts.handed + h.now.counts.written -
    (h.now.counts.handed + h.after.counts.written) = ap (λ (x : Me Locked View). (claim_of x).unwritten) h.is in
    let all : h.now.counts.handed ≡ h.before.counts.handed = ap (λ (s : Sight). s.counts.handed) h.took.shows.told in
    let wrote : h.now.counts.written ≡ h.before.counts.written = ap (λ (s : Sight). s.counts.written) h.took.shows.told
    in
    let more = r.0.1.0.0.counts in
    let same = r.0.1.1 in
    omega arith

abbrev got_or : List ℕ → Option (List ℕ) → List ℕ
got_or body None = body
got_or body (Some b) = b

-- a frame's body is the one that was read
pub body_read : (frame : Received) (body : List ℕ) (read : FrameRead) → body_of frame ≡ Some body → IsFrame frame body
    → GivesBody read (reply_at body) → ReadsFrame frame read
body_read frame body read is spelled gives other same =
    subst (λ (b : List ℕ). IsFrame frame b × GivesBody read (reply_at b)) (ap (got_or body) (sym is ∙ same))
    (spelled, gives)

-- a frame is refused as its bytes are
stops_either_as_read : (read bytes : FrameRead) (e : Error) (old new : SessionValue) → GivesBody read bytes
    → IsRefusedBy read e old new ⊎ IsUnawaited e old new → IsRefusedBy bytes e old new ⊎ IsUnawaited e old new
stops_either_as_read read bytes e old new gives (inl r) =
    inl record {
      error = r.error;
      is = r.is;
      unfailed = r.unfailed;
      untold = r.untold;
      first = wrong_as_read old.phase (past_of old.work) r.error read bytes gives r.first;
      kept = r.kept;
    }
stops_either_as_read read bytes e old new gives (inr u) = inr u

pub stops_as_read : (read bytes : FrameRead) (e : Error) (old new : SessionValue) → GivesBody read bytes
    → TakeStops read e old new → TakeStops bytes e old new
stops_as_read read bytes (error.BackgroundTaskFailure f) old new gives h = h
stops_as_read read bytes error.OutOfMemory old new gives h = stops_either_as_read read bytes _ old new gives h
stops_as_read read bytes other old new gives h = stops_either_as_read read bytes _ old new gives h

counted_as_read : (read bytes : FrameRead) (y z : Locked) (r : Result (Unit {0}) Error) → GivesBody read bytes
    → CountsTakenFrame read y z r → CountsTakenFrame bytes y z r
counted_as_read read bytes y z (Ok u) gives h = (
  taken_as_read y.session.phase read bytes y.session z.session gives h.0,
  h.1,
)
counted_as_read read bytes y z (Err e) gives h = (stops_as_read read bytes e y.session z.session gives h.0, h.1)

-- a frame is taken as it was read
pub taking_frame : (frame : Received) (read : FrameRead) (y z : Locked) (r : Result (Unit {0}) Error)
    → ReadsFrame frame read → CountsTakenFrame read y z r → TakingFrame frame y z r
taking_frame frame read y z r reads h body is =
    let g = reads body is in (g.0, counted_as_read read (reply_at body) y z r g.1 h)
