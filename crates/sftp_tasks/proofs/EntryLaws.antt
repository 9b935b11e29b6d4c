-- The entries that the calls of a session add to its journal.
use Rattle.std.proofs.Common.{
  ◌≡◌,
  ◌⊎◌,
  ◌≤◌,
  ℕ,
  ◌==◌,
  List,
  [],
  ◌∷◌,
  ◌++◌,
  Bool,
  true,
  false,
  ◌&&◌,
  refl,
  sym,
  ap,
  ◌∙◌,
  subst,
  ⊎_elim,
  arith,
  Some,
  None,
  Ok,
  Err,
  append_assoc,
  eq-eqb,
  MatchBool,
  IfOk,
  IfErr,
}
use Rattle.std.specs.Prelude.{Option, Result}
use Rattle.std.specs.List.{list_all}
use Rattle.sftp_core.specs.declared.errors.TakeError.{TakeError}
use Rattle.sftp_core.specs.Take.{fault_of}
use Rattle.sftp_model.specs.declared.error.Error.{Error}
use Rattle.sftp_model.specs.declared.error.Error.TheVariants as error
use Rattle.sftp_model.specs.declared.error.Fault.{Fault}
use Rattle.sftp_model.specs.declared.error.Fault.TheVariants as fault
use Rattle.sftp_model.specs.declared.frame_error.FrameError.{FrameError}
use Rattle.sftp_model.specs.declared.reply.Reply.{Reply}
use Rattle.sftp_model.specs.declared.request.Request.{Request}
use Rattle.sftp_model.specs.declared.slot.Move.{Move}
use Rattle.sftp_model.specs.declared.slot.Move.TheVariants.{Ask, Wait, Done}
use Rattle.session_driver.specs.declared.session.Phase.{Phase}
use Rattle.session_driver.specs.declared.session.Phase.TheVariants.{Fresh, Greeted, Asking, Queried, Open, Failed}
use Rattle.session_driver.specs.declared.session.Stepped.{Stepped}
use Rattle.session_driver.specs.Session.{SessionInputs, SessionView, StepsTo, CancelsCall, LetsGo, TakesAndSettles, HandsOut}
use Rattle.session_model.specs.Calls.{Setting, move_of}
use Rattle.session_model.specs.Turns.{RunProgress, ClosesTo, SettlesTo, begun_but}
use Rattle.session_model.specs.Journals.{cancelled_end}
use Rattle.session_model.specs.Readings.{was_let_go}
use Rattle.session_model.specs.declared.entry.Entry.{Entry}
use Rattle.session_model.specs.declared.entry.Entry.TheVariants as entry
use Rattle.session_model.specs.declared.event.Event.TheVariants.{Submit, Send, Take, Cancel}
use Rattle.session_model.specs.declared.event.Owner.TheVariants as owner
use Rattle.sftp_lanes.specs.Events.{
  BeginsBy,
  CancelsIn,
  LanesDid,
  HandsOutIn,
  HasFailed,
  IsRefused,
  LetsGoIn,
  LetsIdleGo,
  StepsIn,
  TakesIn,
}
use Rattle.sftp_lanes.specs.Seen.{SessionValue, given_of, seen_of, setting_at}
use Rattle.session_work.specs.Working.{LanesValue, past_of, progress_of}
use Rattle.session_work.specs.SoFar.{refused_past}
use Rattle.session_work.specs.declared.lanes.Lanes.{Lanes}
use Rattle.session_seats.specs.Sights.{FitsStage, StaysThere}
use Rattle.session_seats.specs.Holds.{GoesBy, no_allowance, passes}
use Rattle.session_seats.proofs.Lists.{stays_same}
use Rattle.sftp_tasks.specs.declared.locked.Locked.{Locked}
use Rattle.sftp_tasks.specs.Phases.{phase_number}
use Rattle.sftp_tasks.specs.Shows.{shown_of}
use Rattle.sftp_tasks.proofs.PhaseLaws.{number_fails, number_rises, number_stays}
use Rattle.sftp_tasks.specs.SessionEvents.{
  IsKept,
  IsRefusedBy,
  IsUnawaited,
  IsUnmoved,
  LetsLaneGoIn,
  PollsIn,
  RefusesCall,
  TakeStops,
}
use Rattle.sftp_tasks.specs.declared.polls.Polled.{Polled}
use Rattle.sftp_tasks.specs.declared.polls.Polled.TheVariants as polled
use Rattle.sftp_tasks.specs.Entries.{by_cancel, by_flush, by_let_go, by_read, by_step, names}

-- the journal has further entries, which pass the test
abbrev pub Extends : (Entry → Bool) → List Entry → List Entry → Type 0
Extends test before now = (more : List Entry) × (now ≡ more ++ before) × (list_all test more ≡ true)

pub extends_none : (test : Entry → Bool) (past : List Entry) → Extends test past past
extends_none test past = ([], refl, refl)

pub and_true : (b c : Bool) → b ≡ true → c ≡ true → (b && c) ≡ true
and_true true c p q = q
and_true false c p q = p

all_both : (test : Entry → Bool) (xs ys : List Entry) → list_all test xs ≡ true → list_all test ys ≡ true
    → list_all test (xs ++ ys) ≡ true
all_both test [] ys p q = q
all_both test (x ∷ xs) ys p q = let b = Rattle.session_seats.proofs.HoldLaws.both_true (test x) (list_all test xs) p in
    and_true (test x) (list_all test (xs ++ ys)) b.0 (all_both test xs ys b.1 q)

pub extends_on : (test : Entry → Bool) (a b c : List Entry) → Extends test a b → Extends test b c → Extends test a c
extends_on test a b c p q = (
  q.0 ++ p.0,
  q.1 ∙ ap (λ (l : List Entry). q.0 ++ l) p.1 ∙ sym (append_assoc q.0 p.0 a),
  all_both test q.0 p.0 q.2 p.2,
)

pub extends_one : (test : Entry → Bool) (e : Entry) (past : List Entry) → test e ≡ true → Extends test past (e ∷ past)
extends_one test e past passes = (e ∷ [], refl, and_true (test e) true passes refl)

-- a test that lets all CLOSEs through
abbrev pub LetsClose : (Entry → Bool) → Type 0
LetsClose test = (id : ℕ) (r : Request) → test (entry.Event (Submit owner.Close id r)) ≡ true

pub closes_extend : (test : Entry → Bool) → LetsClose test → (s : Setting) (before now : List Entry)
    → ClosesTo s before now → Extends test before now
closes_extend test lets s before [] h = ([], sym h, refl)
closes_extend test lets s before (e ∷ past) h =
    ⊎_elim
    (λ (same : before ≡ e ∷ past). ([], sym same, refl))
    (λ (on : _). let r = closes_extend test lets s before past on.1 in
    extends_on test before past (e ∷ past) r (extends_one test e past (ap test on.0.1.1.1.1 ∙ lets on.0.1.1.0 _)))
    h

pub settles_extend : (test : Entry → Bool) → LetsClose test → (s : Setting) (before now : List Entry)
    → SettlesTo s before now → Extends test before now
settles_extend test lets s before now h = closes_extend test lets s before now h.0

-- ---- the locked value

-- the session's journal has such further entries, and a VERSION that was reported stays
pub record Extended (test : Entry → Bool) (old new : SessionValue) : Type 0 where
  pub past : Extends test (past_of old.work) (past_of new.work)
  pub lanes : new.lanes ≡ old.lanes
  pub options : new.options ≡ old.options
  pub version : StaysThere old.version new.version
  pub phase : phase_number old.phase ≤ phase_number new.phase

pub same_extended : (test : Entry → Bool) (old new : SessionValue) → new ≡ old → Extended test old new
same_extended test old new is = subst (Extended test old) (sym is) record {
  past = extends_none test (past_of old.work);
  lanes = refl;
  options = refl;
  version = stays_same old.version;
  phase = number_stays old.phase old.phase refl;
}

pub failed_extended : (test : Entry → Bool) (old new : SessionValue) → HasFailed old new → Extended test old new
failed_extended test old new h = record {
  past = ([], h.left.past, refl);
  lanes = ap (λ (s : SessionValue). s.lanes) h.rest;
  options = ap (λ (s : SessionValue). s.options) h.rest;
  version = subst (StaysThere old.version) (sym (ap (λ (s : SessionValue). s.version) h.rest)) (stays_same old.version);
  phase = number_fails old.phase new.phase (ap (λ (s : SessionValue). s.phase) h.rest);
}

pub unmoved_extended : (test : Entry → Bool) (old new : SessionValue) → IsUnmoved old new → Extended test old new
unmoved_extended test old new h = ⊎_elim (same_extended test old new) (failed_extended test old new) h

pub refuses_extended : (test : Entry → Bool) (e : Error) (old new : SessionValue) → RefusesCall e old new
    → Extended test old new
refuses_extended test error.OutOfMemory old new h = unmoved_extended test old new h
refuses_extended test (error.BackgroundTaskFailure fault) old new h = same_extended test old new h.1
refuses_extended test error.LinkFault old new h = absurd h
refuses_extended test other old new h = absurd h

pub goes_on_extended : (test : Entry → Bool) (Did : Setting → Lanes → Lanes → Type 0) (old new : SessionValue)
    → LanesDid Did old new
    → Extends test (past_of old.work) (past_of new.work) → Extended test old new
goes_on_extended test Did old new h past = record {
  past = past;
  lanes = ap (λ (s : SessionValue). s.lanes) h.rest;
  options = ap (λ (s : SessionValue). s.options) h.rest;
  version = subst (StaysThere old.version) (sym (ap (λ (s : SessionValue). s.version) h.rest)) (stays_same old.version);
  phase = number_stays old.phase new.phase (ap (λ (s : SessionValue). s.phase) h.rest);
}

-- if only the session has changed
pub session_goes : (test : Entry → Bool) (y z : Locked) → z ≡ record y { session = z.session }
    → Extended test y.session z.session → GoesBy test no_allowance (shown_of y) (shown_of z)
session_goes test y z rest e =
    let users : z.users ≡ y.users = ap (λ (x : Locked). x.users) rest in
    let stage : z.counts.stage ≡ y.counts.stage = ap (λ (x : Locked). x.counts.stage) rest in
    let handed : z.counts.handed ≡ y.counts.handed = ap (λ (x : Locked). x.counts.handed) rest in
    let written : z.counts.written ≡ y.counts.written = ap (λ (x : Locked). x.counts.written) rest in
    let taken : z.counts.taken ≡ y.counts.taken = ap (λ (x : Locked). x.counts.taken) rest in (
      e.past.0,
      record {
        past = e.past.1;
        passes = e.past.2;
        seated = ap (λ (x : Locked). x.seated) rest;
        lanes = e.lanes;
        options = e.options;
        version = e.version;
        rises = record {
          handed = omega arith;
          written = omega arith;
          taken = omega arith;
          stage = omega arith;
          phase = e.phase;
        };
        written = omega arith;
        users = omega arith;
        ends = subst (λ (k : ℕ × ℕ). FitsStage y.counts.stage y.users → FitsStage k.0 k.1)
            (λ i. (sym stage i, sym users i)) (λ was. was);
      },
    )

-- ---- steps

step_closes : (lane : Option ℕ) → LetsClose (passes by_step lane)
step_closes lane id r = refl

pub same_lane : (lane : ℕ) → (names (Some lane) lane && names (Some lane) lane) ≡ true
same_lane lane = let one = eq-eqb lane lane refl in and_true (lane == lane) (lane == lane) one one

pub steps_to_extend : (s : Setting) (lane : ℕ) (a b : RunProgress) (m : Option Move) (event : Stepped)
    → StepsTo s lane a b m event → Extends (passes by_step (Some lane)) a.past b.past
steps_to_extend s lane a b None event h = subst (λ (x : RunProgress). Extends (passes by_step (Some lane)) a.past
    x.past) (sym h.1) (extends_none _ a.past)
steps_to_extend s lane a b (Some (Wait place)) event h = subst
    (λ (x : RunProgress). Extends (passes by_step (Some lane)) a.past x.past) (sym h.1) (extends_none _ a.past)
steps_to_extend s lane a b (Some (Ask r)) event h =
    extends_on _ a.past _ b.past (extends_one (passes by_step (Some lane)) _ a.past (same_lane lane))
    (settles_extend _ (step_closes (Some lane)) s _ b.past h.2.1.1)
steps_to_extend s lane a b (Some (Done o site)) event h =
    extends_on _ a.past _ b.past (extends_one (passes by_step (Some lane)) _ a.past (same_lane lane))
    (settles_extend _ (step_closes (Some lane)) s _ b.past h.2)

pub steps_extended : (p : Phase) (lane : ℕ) (old new : SessionValue) (event : Stepped) → StepsIn p lane old new event
    → Extended (passes by_step (Some lane)) old new
steps_extended Open lane old new event h =
    goes_on_extended _ _ old new h (steps_to_extend (setting_at old) lane (progress_of old.work) (progress_of new.work)
    (move_of (setting_at old) (past_of old.work) lane) event h.did.steps)
steps_extended Failed lane old new event h = absurd h
steps_extended Fresh lane old new event h = same_extended _ old new h.1
steps_extended opening lane old new event h = same_extended _ old new h.1

-- ---- a result, or an error

pub result_extended : {A : Type 0} (test : Entry → Bool) (old new : SessionValue) (r : Result A Error) (P : A → Type 0)
    → ((a : A) → P a → Extended test old new) → IfOk r P → IfErr r (λ e. RefusesCall e old new) → Extended test old new
result_extended test old new (Ok a) P f p q = f a p
result_extended test old new (Err e) P f p q = refuses_extended test e old new q

either_way : {X Y Z : Type 0} (b : Bool) → MatchBool b X Y → (X → Z) → (Y → Z) → Z
either_way true h f g = f h
either_way false h f g = g h

-- a lane that is polled
pub polls_extended : (lane : ℕ) (old new : SessionValue) (p : Polled) → PollsIn lane old new p
    → Extended (passes by_step (Some lane)) old new
polls_extended lane old new (polled.Ended calls) h = same_extended _ old new h.1
polls_extended lane old new polled.Moved h = steps_extended old.phase lane old new h.0 h.1.1
polls_extended lane old new polled.Waits h = steps_extended old.phase lane old new h.0 h.1.1

-- ---- cancels

pub cancels_to_extend : (s : Setting) (lane : ℕ) (a b : RunProgress) (event : Bool) → CancelsCall s lane a b event
    → Extends (passes by_cancel (Some lane)) a.past b.past
cancels_to_extend s lane a b event h =
    either_way _ h
    (λ (x : (event ≡ true) × (b.begun ≡ begun_but a.begun lane)
    × SettlesTo s (cancelled_end (entry.Event (Cancel lane) ∷ a.past) lane ∷ entry.Event (Cancel lane) ∷ a.past)
    b.past). extends_on _ a.past _ b.past
    (extends_on _ a.past _ _ (extends_one (passes by_cancel (Some lane)) (entry.Event (Cancel lane)) a.past
    (same_lane lane)) (extends_one (passes by_cancel (Some lane)) _ _ (same_lane lane)))
    (settles_extend _ (λ id r. refl) s _ b.past x.2))
    (λ (x : (event ≡ false) × (b ≡ a)). subst (λ (y : RunProgress). Extends (passes by_cancel (Some lane)) a.past
    y.past) (sym x.1) (extends_none _ a.past))

pub cancels_extended : (p : Phase) (lane : ℕ) (old new : SessionValue) (event : Bool) → CancelsIn p lane old new event
    → Extended (passes by_cancel (Some lane)) old new
cancels_extended Open lane old new event h = goes_on_extended _ _ old new h
    (cancels_to_extend (setting_at old) lane (progress_of old.work) (progress_of new.work) event h.did.cancels)
cancels_extended Failed lane old new event h = absurd h
cancels_extended Fresh lane old new event h = same_extended _ old new h.1
cancels_extended opening lane old new event h = same_extended _ old new h.1

-- ---- lanes that are released

pub lets_go_extend : (s : Setting) (lane : ℕ) (a b : RunProgress) → LetsGo s lane a b
    → Extends (passes by_let_go (Some lane)) a.past b.past
lets_go_extend s lane a b h =
    either_way _ h
    (λ (x : (b.begun ≡ a.begun) × SettlesTo s (entry.LetGo lane ∷ a.past) b.past). extends_on _ a.past _ b.past
    (extends_one (passes by_let_go (Some lane)) (entry.LetGo lane) a.past (same_lane lane))
    (settles_extend _ (λ id r. refl) s _ b.past x.1))
    (λ (x : b ≡ a). subst (λ (y : RunProgress). Extends (passes by_let_go (Some lane)) a.past y.past) (sym x)
    (extends_none _ a.past))

lets_idle_go_extended : (lane : ℕ) (old new : SessionValue) → LetsIdleGo lane old new
    → Extended (passes by_let_go (Some lane)) old new
lets_idle_go_extended lane old new h = record {
  past = subst (Extends (passes by_let_go (Some lane)) (past_of old.work)) (sym (ap (λ (c : LanesValue). c.past) h.is))
      (extends_one _ (entry.LetGo lane) (past_of old.work) (same_lane lane));
  lanes = ap (λ (s : SessionValue). s.lanes) h.rest;
  options = ap (λ (s : SessionValue). s.options) h.rest;
  version = subst (StaysThere old.version) (sym (ap (λ (s : SessionValue). s.version) h.rest)) (stays_same old.version);
  phase = number_stays old.phase new.phase (ap (λ (s : SessionValue). s.phase) h.rest);
}

lets_idle : (lane : ℕ) (old new : SessionValue) (there : Bool) → MatchBool there (LetsIdleGo lane old new) (new ≡ old)
    → Extended (passes by_let_go (Some lane)) old new
lets_idle lane old new there h = either_way there h (λ (x : LetsIdleGo lane old new). lets_idle_go_extended lane old new
    x) (λ (x : new ≡ old). same_extended _ old new x)

lets_go_in_extended : (p : Phase) (lane : ℕ) (old new : SessionValue) → LetsGoIn p lane old new
    → Extended (passes by_let_go (Some lane)) old new
lets_go_in_extended Open lane old new h = goes_on_extended _ _ old new h
    (lets_go_extend (setting_at old) lane (progress_of old.work) (progress_of new.work) h.did.lets_go)
lets_go_in_extended Failed lane old new h = absurd h
lets_go_in_extended Fresh lane old new h = lets_idle lane old new _ h
lets_go_in_extended opening lane old new h = lets_idle lane old new _ h

pub lets_go_extended : (lane : ℕ) (old new : SessionValue) (event : Bool) → LetsLaneGoIn lane old new event
    → Extended (passes by_let_go (Some lane)) old new
lets_go_extended lane old new true h =
    ⊎_elim
    (λ (g : LetsGoIn old.phase lane old new). lets_go_in_extended old.phase lane old new g)
    (λ (g : (was_let_go (past_of old.work) lane ≡ true) × (new ≡ old)). same_extended _ old new g.1)
    h
lets_go_extended lane old new false h = same_extended _ old new h.1

-- ---- frames that are handed out

hands_extend : (s : Setting) (a b : RunProgress) (bytes : Option (List ℕ)) (lane : Option ℕ) → HandsOut s a bytes b
    → Extends (passes by_flush lane) a.past b.past
hands_extend s a b None lane h = subst (λ (y : RunProgress). Extends (passes by_flush lane) a.past y.past) (sym h.1)
    (extends_none _ a.past)
hands_extend s a b (Some bytes) lane h = subst (λ (y : RunProgress). Extends (passes by_flush lane) a.past y.past)
    (sym h.2)
    (extends_one _ (entry.Event Send) a.past refl)

-- the parts of a session that are seen
seen_extended : (test : Entry → Bool) (old new : SessionValue) (now : SessionView) → seen_of new ≡ now → now.given
    ≡ given_of old → now.version ≡ old.version → phase_number old.phase ≤ phase_number now.phase
    → Extends test (past_of old.work) now.progress.past
    → Extended test old new
seen_extended test old new now is given version phase past = record {
  past = subst (λ (s : SessionView). Extends test (past_of old.work) s.progress.past) (sym is) past;
  lanes = ap (λ (s : SessionView). s.given.lanes) is ∙ ap (λ (g : SessionInputs). g.lanes) given;
  options = ap (λ (s : SessionView). s.given.options) is ∙ ap (λ (g : SessionInputs). g.options) given;
  version = subst (StaysThere old.version) (sym (ap (λ (s : SessionView). s.version) is ∙ version))
      (stays_same old.version);
  phase = subst (λ (p : Phase). phase_number old.phase ≤ phase_number p)
      (sym (ap (λ (s : SessionView). s.phase) is)) phase;
}

pub hands_extended : (p : Phase) (lane : Option ℕ) (old new : SessionValue) (bytes : Option (List ℕ)) → p ≡ old.phase
    → HandsOutIn p old new bytes → Extended (passes by_flush lane) old new
hands_extended Fresh lane old new bytes was h = seen_extended _ old new _ h.1.greeted refl refl
    (number_rises old.phase Greeted Fresh Greeted was refl (omega arith))
    (extends_none _ (past_of old.work))
hands_extended Greeted lane old new bytes was h = same_extended _ old new h.1
hands_extended Asking lane old new bytes was h = seen_extended _ old new _ h.1.queried refl refl
    (number_rises old.phase Queried Asking Queried was refl (omega arith))
    (extends_one _ (entry.Event Send) (past_of old.work) refl)
hands_extended Queried lane old new bytes was h = same_extended _ old new h.1
hands_extended Open lane old new bytes was h = goes_on_extended _ _ old new h
    (hands_extend (setting_at old) (progress_of old.work) (progress_of new.work) bytes lane h.did.hands)
hands_extended Failed lane old new bytes was h = absurd h

-- ---- frames that are taken

takes_extend : (s : Setting) (body_reads : Result (Option ℕ × Reply) FrameError) (a b : RunProgress) (lane : Option ℕ)
    → TakesAndSettles s body_reads a b → Extends (passes by_read lane) a.past b.past
takes_extend s body_reads a b lane h = extends_on _ a.past _ b.past
    (extends_one (passes by_read lane) (entry.Event (Take h.0 h.1.0)) a.past refl)
    (settles_extend _ (λ id r. refl) s _ b.past h.1.1.3)

begins_extend : (asks : Bool) (p : Phase) (before now : List Entry) (lane : Option ℕ) → BeginsBy asks p before now
    → Extends (passes by_read lane) before now
begins_extend false p before now lane h = subst (Extends (passes by_read lane) before) (sym h.1) (extends_none _ before)
begins_extend true p before now lane h = subst (Extends (passes by_read lane) before) (sym h.1.1.1)
    (extends_one _ _ before refl)

-- the phase after VERSION
pub begins_later : (old : Phase) (asks : Bool) (new : Phase) (before now : List Entry) → Greeted ≡ old
    → BeginsBy asks new before now → phase_number old ≤ phase_number new
begins_later old false new before now was h = number_rises old new Greeted Open was h.0 (omega arith)
begins_later old true new before now was h = number_rises old new Greeted Asking was h.0 (omega arith)

pub takes_extended : (p : Phase) (body_reads : Result (Option ℕ × Reply) FrameError) (lane : Option ℕ)
    (old new : SessionValue) → p ≡ old.phase → TakesIn p body_reads old new → Extended (passes by_read lane) old new
takes_extended Greeted body_reads lane old new was h = record {
  past = begins_extend h.0 new.phase (past_of old.work) (past_of new.work) lane h.1.begins;
  lanes = ap (λ (s : SessionValue). s.lanes) h.1.rest;
  options = ap (λ (s : SessionValue). s.options) h.1.rest;
  version = subst (λ (v : Option Reply). StaysThere v new.version) (sym h.1.untold) tt;
  phase = begins_later old.phase h.0 new.phase _ _ was h.1.begins;
}
takes_extended Queried body_reads lane old new was h = record {
  past = let t = h.limited.tells in subst (Extends (passes by_read lane) (past_of old.work)) (sym t.1.1.2)
      (extends_one _ (entry.Event (Take t.0 t.1.0)) (past_of old.work) refl);
  lanes = ap (λ (s : SessionValue). s.lanes) h.rest;
  options = ap (λ (s : SessionValue). s.options) h.rest;
  version = subst (StaysThere old.version) (sym (ap (λ (s : SessionValue). s.version) h.rest)) (stays_same old.version);
  phase = number_rises old.phase new.phase Queried Open was (ap (λ (s : SessionValue). s.phase) h.rest) (omega arith);
}
takes_extended Open body_reads lane old new was h = goes_on_extended _ _ old new h
    (takes_extend (setting_at old) body_reads (progress_of old.work) (progress_of new.work) lane h.did.takes)
takes_extended Fresh body_reads lane old new was h = absurd h
takes_extended Asking body_reads lane old new was h = absurd h
takes_extended Failed body_reads lane old new was h = absurd h

-- ---- faults

-- a test that lets each fault through
abbrev pub LetsKeep : (Entry → Bool) → Type 0
LetsKeep test = (f : Fault) → test (entry.Kept f) ≡ true

pub kept_extended : (test : Entry → Bool) → LetsKeep test → (f : Fault) (old new : SessionValue) → IsKept f old new
    → Extended test old new
kept_extended test lets f old new h = record {
  past = subst (Extends test (past_of old.work)) (sym h.past)
      (extends_one test (entry.Kept f) (past_of old.work) (lets f));
  lanes = h.lanes;
  options = h.options;
  version = subst (StaysThere old.version) (sym h.version) (stays_same old.version);
  phase = number_fails old.phase new.phase h.failed;
}

refused_extend : (test : Entry → Bool) → LetsKeep test → (fault : Option Fault) (past now : List Entry) → now
    ≡ refused_past fault past → Extends test past now
refused_extend test lets None past now is = subst (Extends test past) (sym is) (extends_none test past)
refused_extend test lets (Some f) past now is = subst (Extends test past) (sym is)
    (extends_one test (entry.Kept f) past (lets f))

refused_extended : (test : Entry → Bool) → LetsKeep test → (e : TakeError) (old new : SessionValue)
    → IsRefused e old new → Extended test old new
refused_extended test lets e old new h = record {
  past = refused_extend test lets (fault_of e) (past_of old.work) (past_of new.work) h.past;
  lanes = ap (λ (s : SessionValue). s.lanes) h.rest;
  options = ap (λ (s : SessionValue). s.options) h.rest;
  version = subst (StaysThere old.version) (sym (ap (λ (s : SessionValue). s.version) h.rest)) (stays_same old.version);
  phase = number_fails old.phase new.phase (ap (λ (s : SessionValue). s.phase) h.rest);
}

stops_either : (test : Entry → Bool) → LetsKeep test → (body_reads : Result (Option ℕ × Reply) FrameError) (e : Error)
    (old new : SessionValue)
    → IsRefusedBy body_reads e old new ⊎ IsUnawaited e old new → Extended test old new
stops_either test lets body_reads e old new h =
    ⊎_elim (λ (r : IsRefusedBy body_reads e old new). refused_extended test lets r.error old new r.kept)
    (λ (k : IsUnawaited e old new). kept_extended test lets (fault.Response None) old new k.kept) h

pub stops_extended : (test : Entry → Bool) → LetsKeep test →
    (body_reads : Result (Option ℕ × Reply) FrameError) (e : Error) (old new : SessionValue)
    → TakeStops body_reads e old new → Extended test old new
stops_extended test lets body_reads (error.BackgroundTaskFailure f) old new h = same_extended test old new h.1
stops_extended test lets body_reads error.OutOfMemory old new h = stops_either test lets body_reads _ old new h
stops_extended test lets body_reads other old new h = stops_either test lets body_reads _ old new h
