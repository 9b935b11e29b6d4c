-- What single calls of a session and a link are as parts of a run.
use Rattle.std.proofs.Common.{◌≡◌, ◌≢◌, ◌<◌, ◌≤◌, ℕ, Bool, true, false, List, ◌∷◌, Option, Some, None, ◌^◌, ◌-◌, refl, ap, sym, ◌∙◌, subst, inl, inr}
use Rattle.std.specs.Prelude.{Result, Ok, Err, OnOk, MatchBool, nat_lt, length}
use denote.Enum.Bare.{sameb}
use Rattle.session_driver.specs.contracts.session.Stepped.{the_type}
use Rattle.ssh_encoding.specs.Writing.{string}
use Rattle.sftp_model.specs.declared.error.Error.{Error}
use Rattle.sftp_model.specs.declared.slot.Move.{Move}
use Rattle.sftp_model.specs.declared.slot.Move.TheVariants.{Ask, Wait, Done}
use Rattle.sftp_model.specs.ReplyReadings.{reply_at}
use Rattle.sftp_core.specs.declared.errors.TakeError.{TakeError}
use Rattle.sftp_core.specs.Take.{IsFirst}
use Rattle.sftp_link.specs.Told.{IfLogged, GotAll}
use Rattle.sftp_link.specs.Views.{LinkView}
use Rattle.session_model.specs.declared.turn.Turn.TheVariants as turn
use Rattle.session_model.specs.declared.event.Event.TheVariants.{Cancel}
use Rattle.session_model.specs.declared.entry.Entry.{Entry}
use Rattle.session_model.specs.declared.entry.Entry.TheVariants as entry
use Rattle.session_model.specs.Readings.{count_sent, count_awaited, count_unanswered}
use Rattle.session_model.specs.Calls.{Setting, move_of}
use Rattle.session_model.specs.Journals.{cancelled_end}
use Rattle.session_model.specs.Turns.{RunProgress, TurnTo, MovesBy, SettlesTo, RulesTo, begun_but, is_full}
use Rattle.session_model.specs.Runs.{LetGoTo}
use Rattle.session_driver.specs.RunsSoFar.{TurnSoFar, LetGoSoFar}
use Rattle.session_driver.specs.declared.session.Stepped.{Stepped}
use Rattle.session_driver.specs.declared.session.Stepped.TheVariants as stepped
use Rattle.session_driver.specs.Session.{SessionView, HasRefused, IsLater, StaysInPhase, ContinuesJournal, StepsTo, CancelsCall, TakesAndSettles, LetsGo, HandsOut}
use Rattle.link_frames.specs.Causes.{IsCausedByLink, SentBy}
use Rattle.session_driver.specs.Refusals.{refuses}
use Rattle.sftp_core.specs.Errors.{error_of}
use Rattle.link_frames.specs.Reading.{IsFramePrefix, ReadFails}
use Rattle.session_driver.specs.Logs.{even, by_send}
use Rattle.session_driver.specs.Ongoing.{RunState, run_state, IsReady, Part, AddsNothing, RunsPart, SendsExcess, flush_part, settle_part, turn_of, let_go_of}
use Rattle.link_frames.proofs.Joining.{error_causes, same_caused}
use Rattle.session_driver.proofs.Journals.{later_self, lets_go, match_true, match_false, full_sends, full_begun, flush_turns, flush_awaits}
use Rattle.session_driver.proofs.Stopping.{
  keeps_sent,
  keeps_taken,
  same_keep,
  step_keeps,
  cancel_keeps,
  let_go_keeps,
  sent_here,
  unread_here,
  refused_ahead,
  refused_here,
}
use Rattle.session_driver.proofs.Joining.{quiet, idle, join, as_part, went_of, phase_stays, stays_hold, holds_self}

-- ---- a flush

later_same : (s : Setting) (before now : RunProgress) → now ≡ before → IsLater s before.past now.past
later_same s before now same = subst (λ (w : RunProgress). IsLater s before.past w.past) (sym same)
    (later_self s before.past)

pub flush_none : {S : Type 0} (a now : SessionView) (x : LinkView S) (u : Unit {0})
    → HandsOut a.setting a.progress None now.progress
    → StaysInPhase a now → IsReady (run_state a x) → RunsPart flush_part (run_state a x) (run_state now x) (Ok u)
flush_none a now x u out stays ready =
    quiet flush_part a now x u (match_false _ _ _ out.0 out.1) (record
    { stays = stays; later = later_same a.setting a.progress now.progress out.1 })
    (same_keep a.progress now.progress out.1)
    ready

pub flush_sent : {S : Type 0} (a mid now : SessionView) (x y : LinkView S) (sent bytes : List ℕ) (v u : Unit {0})
    → IsReady (run_state a x) → HandsOut a.setting a.progress (Some bytes) mid.progress → StaysInPhase a mid → now ≡ mid
    → sent ≡ bytes
    → SentBy sent x y (Ok v) → RunsPart flush_part (run_state a x) (run_state now y) (Ok u)
flush_sent a mid now x y sent bytes v u ready out stays is same by =
    subst (λ (w : SessionView). RunsPart flush_part (run_state a x) (run_state w y) (Ok u)) (sym is)
    (record {
      went = record {
        whole = match_true _ _ _ out.0 (out.2, out.3);
        later = subst (λ (w : RunProgress). IsLater a.setting a.progress.past w.past) (sym out.2)
            (inr (out.4, later_self a.setting a.progress.past));
        stays = stays;
        log = keeps_sent a.progress.past mid.progress.past sent x.log y.log (ap (λ (w : RunProgress). w.past) out.2)
            (same ∙ out.1) by.log;
        ready = record {
          is_open = phase_stays a mid stays ready.is_open;
          count =
              subst (λ (n : ℕ). n < 2 ^ 64 - 1) (sym by.caused.cause) ready.count;
        };
      };
      stopped = tt;
      caused = record { cause = by.caused.cause; end = tt; only = tt; service = by.caused.service };
    })

pub flush_unsent : {S : Type 0} (a now : SessionView) (x y : LinkView S) (sent bytes : List ℕ) (e : Error)
    → HandsOut a.setting a.progress (Some bytes) now.progress → StaysInPhase a now → sent ≡ bytes
    → SentBy {T = Unit {0}} sent x y (Err e) → RunsPart flush_part (run_state a x) (run_state now y) (Err e)
flush_unsent a now x y sent bytes e out stays same by =
    record {
      went = tt;
      stopped = record {
        past = a.progress.past;
        is = record { later = later_self a.setting a.progress.past; so_far = refl };
        ahead = by_send by.log.0 (ap (λ (w : RunProgress). w.past) out.2);
        holds = stays_hold a now stays;
        log = sent_here y.ended e a.progress.past sent x.log y.log (same ∙ out.1) by.log.0 by.log.1;
      };
      caused = by.caused;
    }

-- ---- a step

pub steps_by : (s : Setting) (lane : ℕ) (a b : RunProgress) (m : Option Move) (event : Stepped)
    → StepsTo s lane a b m event → MovesBy (SettlesTo s) lane a b m
steps_by s lane a b None event t = t.1
steps_by s lane a b (Some (Wait place)) event t = t.1
steps_by s lane a b (Some (Ask r)) event t = (t.1, t.2)
steps_by s lane a b (Some (Done o site)) event t = (t.1, t.2)

-- there was nothing to do, or the call waits
pub steps_nothing : (s : Setting) (lane : ℕ) (a b : RunProgress) (m : Option Move) (event : Stepped) → event
    ≡ stepped.Nothing
    → StepsTo s lane a b m event → MovesBy (RulesTo s) lane a b m
steps_nothing s lane a b None event none t = t.1
steps_nothing s lane a b (Some (Wait place)) event none t = t.1
steps_nothing s lane a b (Some (Ask r)) event none t = (let e = t.0 in absurd cc)
steps_nothing s lane a b (Some (Done o site)) event none t = (let e = t.0 in absurd cc)

pub steps_settle : (s : Setting) (lane : ℕ) (a b c : RunProgress) (m : Option Move) (event : Stepped)
    → event ≢ stepped.Nothing → StepsTo s lane a b m event → SendsExcess s b c → MovesBy (RulesTo s) lane a c m
steps_settle s lane a b c None event some t settled = absurd (some t.0)
steps_settle s lane a b c (Some (Wait place)) event some t settled = absurd (some t.0)
steps_settle s lane a b c (Some (Ask r)) event some t settled =
    (settled.begun ∙ t.1, (t.2.0, (t.2.1.0, (b.past, (t.2.1.1, settled.sends)))))
steps_settle s lane a b c (Some (Done o site)) event some t settled =
    (settled.begun ∙ t.1, (b.past, (t.2, settled.sends)))

pub is_nothing : (event : Stepped) → true ≡ sameb the_type event stepped.Nothing → event ≡ stepped.Nothing
is_nothing stepped.Nothing e = refl
is_nothing stepped.Submitted e = cc
is_nothing stepped.Ended e = cc

pub is_some_event : (event : Stepped) → false ≡ sameb the_type event stepped.Nothing → event ≢ stepped.Nothing
is_some_event stepped.Nothing e = cc
is_some_event stepped.Submitted e = λ same. cc
is_some_event stepped.Ended e = λ same. cc

abbrev pub stepping : ℕ → Stepped → Part
stepping lane event = record { whole = λ s a b. StepsTo s lane a b (move_of s a.past lane) event; so_far = AddsNothing }

pub stepped_on : {S : Type 0} (lane : ℕ) (event : Stepped) (a b : SessionView) (x : LinkView S)
    → StepsTo a.setting lane a.progress b.progress (move_of a.setting a.progress.past lane) event → ContinuesJournal a b
    → IsReady (run_state a x)
    → RunsPart (stepping lane event) (run_state a x) (run_state b x) (Ok tt)
stepped_on lane event a b x t goes ready = quiet (stepping lane event) a b x tt t goes
    (step_keeps a.setting lane a.progress b.progress (move_of a.setting a.progress.past lane) event t) ready

pub half_step : (s : Setting) (lane : ℕ) (event : Stepped) (a b : RunProgress)
    → StepsTo s lane a b (move_of s a.past lane) event → (past : List Entry) → past ≡ b.past
    → TurnSoFar s (turn.Step lane) a past
half_step s lane event a b t past is = inr (record {
  now = b;
  event =
      steps_by s lane a b (move_of s a.past lane) event t;
  is = sym is;
})

-- ---- a cancel

cancels_by : (s : Setting) (lane : ℕ) (a b at : RunProgress) (cond event : Bool) → MatchBool cond
    ((event ≡ true) × (b.begun ≡ at.begun) × SettlesTo s (cancelled_end (entry.Event (Cancel lane) ∷ a.past) lane ∷
    entry.Event (Cancel lane) ∷ a.past) b.past)
    ((event ≡ false) × (b ≡ a)) → MatchBool cond
    ((b.begun ≡ at.begun) × SettlesTo s (cancelled_end (entry.Event (Cancel lane) ∷ a.past) lane ∷ entry.Event
    (Cancel lane) ∷ a.past) b.past)
    (b ≡ a)
cancels_by s lane a b at true event t = (t.1, t.2)
cancels_by s lane a b at false event t = t.1

cancels_settle : (s : Setting) (lane : ℕ) (a b c at : RunProgress) (cond event : Bool) → event ≡ true → MatchBool cond
    ((event ≡ true) × (b.begun ≡ at.begun) × SettlesTo s (cancelled_end (entry.Event (Cancel lane) ∷ a.past) lane ∷
    entry.Event (Cancel lane) ∷ a.past) b.past)
    ((event ≡ false) × (b ≡ a)) → SendsExcess s b c → MatchBool cond
    ((c.begun ≡ at.begun) × RulesTo s (cancelled_end (entry.Event (Cancel lane) ∷ a.past) lane ∷ entry.Event
    (Cancel lane) ∷ a.past) c.past)
    (c ≡ a)
cancels_settle s lane a b c at true event is t settled = (settled.begun ∙ t.1, (b.past, (t.2, settled.sends)))
cancels_settle s lane a b c at false event is t settled = (let e = t.0 in absurd cc)

cancels_nothing : (s : Setting) (lane : ℕ) (a b at : RunProgress) (cond event : Bool) → event ≡ false → MatchBool cond
    ((event ≡ true) × (b.begun ≡ at.begun) × SettlesTo s (cancelled_end (entry.Event (Cancel lane) ∷ a.past) lane ∷
    entry.Event (Cancel lane) ∷ a.past) b.past)
    ((event ≡ false) × (b ≡ a)) → MatchBool cond
    ((b.begun ≡ at.begun) × RulesTo s (cancelled_end (entry.Event (Cancel lane) ∷ a.past) lane ∷ entry.Event
    (Cancel lane) ∷ a.past) b.past)
    (b ≡ a)
cancels_nothing s lane a b at true event is t = (let e = t.0 in absurd cc)
cancels_nothing s lane a b at false event is t = t.1

-- the lanes that were begun, but this one
abbrev ended_progress : ℕ → RunProgress → RunProgress
ended_progress lane a = record { past = a.past; begun = begun_but a.begun lane }

abbrev pub cancelling : ℕ → Bool → Part
cancelling lane event = record { whole = λ s a b. CancelsCall s lane a b event; so_far = AddsNothing }

pub cancelled_on : {S : Type 0} (lane : ℕ) (event : Bool) (a b : SessionView) (x : LinkView S)
    → CancelsCall a.setting lane a.progress b.progress event → ContinuesJournal a b → IsReady (run_state a x)
    → RunsPart (cancelling lane event) (run_state a x) (run_state b x) (Ok tt)
cancelled_on lane event a b x t goes ready = quiet (cancelling lane event) a b x tt t goes
    (cancel_keeps a.setting lane a.progress b.progress event t) ready

pub cancel_settles : (s : Setting) (lane : ℕ) (event : Bool) (a b c : RunProgress) → event ≡ true
    → CancelsCall s lane a b event
    → SendsExcess s b c → TurnTo s (turn.Cancel lane) a c
cancel_settles s lane event a b c is t settled = cancels_settle s lane a b c (ended_progress lane a) _ event is t
    settled

pub cancel_nothing : (s : Setting) (lane : ℕ) (event : Bool) (a b : RunProgress) → event ≡ false
    → CancelsCall s lane a b event → TurnTo s (turn.Cancel lane) a b
cancel_nothing s lane event a b is t = cancels_nothing s lane a b (ended_progress lane a) _ event is t

pub half_cancel : (s : Setting) (lane : ℕ) (event : Bool) (a b : RunProgress) → CancelsCall s lane a b event
    → (past : List Entry)
    → past ≡ b.past → TurnSoFar s (turn.Cancel lane) a past
half_cancel s lane event a b t past is =
    inr (record { now = b; event = cancels_by s lane a b (ended_progress lane a) _ event t; is = sym is })

-- ---- a take

abbrev pub taking : List ℕ → Part
taking body = record {
  whole = λ s a b. (nat_lt 0 (count_awaited a.past) ≡ true)
      × TakesAndSettles s (reply_at body) a b;
  so_far = AddsNothing;
}

pub taken_on : {S R : Type 0} (a b : SessionView) (x y : LinkView S) (r : R) (body bytes : List ℕ)
    → IsReady (run_state a x)
    → nat_lt 0 (count_awaited a.progress.past) ≡ true → TakesAndSettles a.setting (reply_at body) a.progress b.progress
    → ContinuesJournal a b
    → bytes ≡ string body → length body ≤ 1048575 → IfLogged (GotAll bytes) x.log y.log → IsCausedByLink x y (Ok r)
    → RunsPart (taking body) (run_state a x) (run_state b y) (Ok tt)
taken_on a b x y r body bytes ready some t goes framed short got caused =
    record {
      went = record {
        whole = (some, t);
        later = goes.later;
        stays = goes.stays;
        log = keeps_taken a.setting a.progress b.progress body bytes x.log y.log t framed short got;
        ready = record {
          is_open = phase_stays a b goes.stays ready.is_open;
          count =
              subst (λ (n : ℕ). n < 2 ^ 64 - 1) (sym caused.cause) ready.count;
        };
      };
      stopped = tt;
      caused = record { cause = caused.cause; end = tt; only = tt; service = caused.service };
    }

pub take_settles : (s : Setting) (body : List ℕ) (a b c : RunProgress) → (nat_lt 0 (count_awaited a.past) ≡ true)
    × TakesAndSettles s (reply_at body) a b → SendsExcess s b c → TurnTo s turn.Take a c
take_settles s body a b c t settled =
    match_true _ _ _ t.0 (
      settled.begun ∙ t.1.1.1.2,
      (
        t.1.0,
        (
          t.1.1.0,
          (t.1.1.1.1, (b.past, (t.1.1.1.3, settled.sends))),
        ),
      ),
    )

pub half_take : (s : Setting) (body : List ℕ) (a b : RunProgress) → (nat_lt 0 (count_awaited a.past) ≡ true)
    × TakesAndSettles s (reply_at body) a b → (past : List Entry) → past ≡ b.past → TurnSoFar s turn.Take a past
half_take s body a b t past is =
    inr (record {
      now = b;
      event = match_true _ _ _ t.0 (t.1.1.1.2, (t.1.0, (t.1.1.0, (t.1.1.1.1, t.1.1.1.3))));
      is =
          sym is;
    })

pub take_nothing : (s : Setting) (a : RunProgress) → nat_lt 0 (count_awaited a.past) ≡ false → TurnTo s turn.Take a a
take_nothing s a none = match_false _ _ _ none refl

-- no frame came
pub unread : {S R : Type 0} (a : SessionView) (x y : LinkView S) (e : Error) → 0 < count_awaited a.progress.past
    → IfLogged (ReadFails e) x.log y.log → IsCausedByLink {T = R} x y (Err e)
    → RunsPart (turn_of turn.Take) (run_state a x) (run_state a y) (Err e)
unread a x y e some fails caused =
    let why = same_caused x y e caused in
    record {
      went = tt;
      stopped = record {
        past = a.progress.past;
        is = record { later = later_self a.setting a.progress.past; so_far = inl refl };
        ahead = even refl;
        holds = holds_self a;
        log = unread_here y.ended e a.progress.past x.log y.log some why.end fails;
      };
      caused = why;
    }

-- a frame came that is refused
pub refused_take : {S R : Type 0} (a now : SessionView) (x y : LinkView S) (r : R) (t : TakeError) (body bytes : List ℕ)
    → 0 < count_awaited a.progress.past → IsFramePrefix bytes → bytes ≡ string body → length body ≤ 1048575
    → IsFirst t (refuses a.progress.past (reply_at body)) → HasRefused t a now → IfLogged (GotAll bytes) x.log y.log
    → IsCausedByLink x y (Ok r)
    → RunsPart (turn_of turn.Take) (run_state a x) (run_state now y) (Err (error_of t))
refused_take a now x y r t body bytes some front framed short why left got caused =
    record {
      went = tt;
      stopped = record {
        past = a.progress.past;
        is = record { later = later_self a.setting a.progress.past; so_far = inl refl };
        ahead = refused_ahead t a.progress.past now.progress.past left.past;
        holds = left.holds;
        log = refused_here y.ended t a.progress.past body bytes x.log y.log some front framed short why got;
      };
      caused = error_causes x y r t caused;
    }

-- ---- a lane is let go

abbrev pub letting_go : ℕ → Part
letting_go lane = record {
  whole = λ s a b. (b.begun ≡ a.begun) × SettlesTo s (entry.LetGo lane ∷ a.past) b.past;
  so_far = AddsNothing;
}

pub let_go_on : {S : Type 0} (lane : ℕ) (a b : SessionView) (x : LinkView S)
    → LetsGo a.setting lane a.progress b.progress
    → lane < length a.setting.lanes → ContinuesJournal a b → IsReady (run_state a x)
    → RunsPart (letting_go lane) (run_state a x) (run_state b x) (Ok tt)
let_go_on lane a b x t there goes ready =
    let l = lets_go a.setting lane a.progress b.progress t there in
    quiet (letting_go lane) a b x tt l goes (let_go_keeps a.setting lane a.progress.past b.progress.past l.1) ready

pub let_go_settles : (s : Setting) (lane : ℕ) (a b c : RunProgress) → (b.begun ≡ a.begun)
    × SettlesTo s (entry.LetGo lane ∷ a.past) b.past → SendsExcess s b c → LetGoTo s lane a c
let_go_settles s lane a b c t settled = (settled.begun ∙ t.0, (b.past, (t.1, settled.sends)))

pub half_let_go : (s : Setting) (lane : ℕ) (a b : RunProgress) → (b.begun ≡ a.begun)
    × SettlesTo s (entry.LetGo lane ∷ a.past) b.past → (past : List Entry) → past ≡ b.past → LetGoSoFar s lane a past
half_let_go s lane a b t past is = inr (subst (λ (p : List Entry). SettlesTo s (entry.LetGo lane ∷ a.past) p) (sym is)
    t.1)

-- ---- turns, of the calls that they are

-- too much was unsent, and it was flushed
pub settle_full : {S : Type 0} {a b : RunState S} {result : Result (Unit {0}) Error}
    → is_full a.seen.setting a.seen.progress.past ≡ true → RunsPart flush_part a b result
    → RunsPart settle_part a b result
settle_full {a = a} {b = b} full part =
    as_part (λ f. record {
      begun = full_begun a.seen.setting a.seen.progress b.seen.progress f;
      sends =
          full_sends a.seen.setting a.seen.progress b.seen.progress full f;
    }) (λ past nothing. nothing) part

-- no more was unsent than may be
pub settle_none : {S : Type 0} (a : SessionView) (x : LinkView S) → is_full a.setting a.progress.past ≡ false
    → IsReady (run_state a x)
    → RunsPart settle_part (run_state a x) (run_state a x) (Ok tt)
settle_none a x none ready = idle settle_part a x tt (record { begun = refl; sends = match_false _ _ _ none refl })
    ready

pub flush_is : {S : Type 0} {a b : RunState S} {result : Result (Unit {0}) Error} → RunsPart flush_part a b result
    → RunsPart (turn_of turn.Flush) a b result
flush_is {a = a} {b = b} part = as_part (λ f. flush_turns a.seen.setting a.seen.progress b.seen.progress f)
    (λ past nothing. inl nothing) part

pub flush_leaves : {S : Type 0} {a b : RunState S} {result : Result (Unit {0}) Error} → RunsPart flush_part a b result
    → OnOk result (0 < count_unanswered a.seen.progress.past → 0 < count_awaited b.seen.progress.past)
flush_leaves {a = a} {b = b} part = went_of _ part (λ went. flush_awaits a.seen.setting a.seen.progress b.seen.progress
    went.whole)

-- a step was no event
pub step_none : {S : Type 0} (lane : ℕ) (event : Stepped) (a b : SessionView) (x : LinkView S) → event ≡ stepped.Nothing
    → StepsTo a.setting lane a.progress b.progress (move_of a.setting a.progress.past lane) event → ContinuesJournal a b
    → IsReady (run_state a x)
    → RunsPart (turn_of (turn.Step lane)) (run_state a x) (run_state b x) (Ok tt)
step_none lane event a b x none t goes ready =
    as_part (λ u. steps_nothing a.setting lane a.progress b.progress (move_of a.setting a.progress.past lane) event none
    u)
    (λ past nothing. inl nothing) (stepped_on lane event a b x t goes ready)

-- a step was an event, and was settled
pub step_is : {S : Type 0} (lane : ℕ) (event : Stepped) (a b : SessionView) (x : LinkView S) {c : RunState S}
    {result : Result (Unit {0}) Error} → event ≢ stepped.Nothing
    → StepsTo a.setting lane a.progress b.progress (move_of a.setting a.progress.past lane) event → ContinuesJournal a b
    → IsReady (run_state a x)
    → RunsPart settle_part (run_state b x) c result → RunsPart (turn_of (turn.Step lane)) (run_state a x) c result
step_is lane event a b x {c = c} some t goes ready settled =
    join (λ u v. steps_settle a.setting lane a.progress b.progress c.seen.progress
    (move_of a.setting a.progress.past lane) event
    some u v) (λ u. half_step a.setting lane event a.progress b.progress u) (stepped_on lane event a b x t goes ready)
    settled

pub cancel_none : {S : Type 0} (lane : ℕ) (event : Bool) (a b : SessionView) (x : LinkView S) → event ≡ false
    → CancelsCall a.setting lane a.progress b.progress event → ContinuesJournal a b → IsReady (run_state a x)
    → RunsPart (turn_of (turn.Cancel lane)) (run_state a x) (run_state b x) (Ok tt)
cancel_none lane event a b x is t goes ready = as_part (λ u. cancel_nothing a.setting lane event a.progress b.progress
    is u)
    (λ past nothing. inl nothing) (cancelled_on lane event a b x t goes ready)

pub cancel_is : {S : Type 0} (lane : ℕ) (event : Bool) (a b : SessionView) (x : LinkView S) {c : RunState S}
    {result : Result (Unit {0}) Error} → event ≡ true → CancelsCall a.setting lane a.progress b.progress event
    → ContinuesJournal a b
    → IsReady (run_state a x)
    → RunsPart settle_part (run_state b x) c result → RunsPart (turn_of (turn.Cancel lane)) (run_state a x) c result
cancel_is lane event a b x {c = c} is t goes ready settled =
    join (λ u v. cancel_settles a.setting lane event a.progress b.progress c.seen.progress is u v)
    (λ u. half_cancel a.setting lane event a.progress b.progress u) (cancelled_on lane event a b x t goes ready) settled

pub take_none : {S : Type 0} (a : SessionView) (x : LinkView S) → nat_lt 0 (count_awaited a.progress.past) ≡ false
    → IsReady (run_state a x)
    → RunsPart (turn_of turn.Take) (run_state a x) (run_state a x) (Ok tt)
take_none a x none ready = idle (turn_of turn.Take) a x tt (take_nothing a.setting a.progress none) ready

pub take_is : {S : Type 0} (body : List ℕ) {a b c : RunState S} {result : Result (Unit {0}) Error}
    → RunsPart (taking body) a b (Ok tt) → RunsPart settle_part b c result → RunsPart (turn_of turn.Take) a c result
take_is body {a = a} {b = b} {c = c} taken settled =
    join (λ u v. take_settles a.seen.setting body a.seen.progress b.seen.progress c.seen.progress u v)
    (λ u. half_take a.seen.setting body a.seen.progress b.seen.progress u) taken settled

pub let_go_is : {S : Type 0} (lane : ℕ) {a b c : RunState S} {result : Result (Unit {0}) Error}
    → RunsPart (letting_go lane) a b (Ok tt) → RunsPart settle_part b c result → RunsPart (let_go_of lane) a c result
let_go_is lane {a = a} {b = b} {c = c} gone settled =
    join (λ u v. let_go_settles a.seen.setting lane a.seen.progress b.seen.progress c.seen.progress u v)
    (λ u. half_let_go a.seen.setting lane a.seen.progress b.seen.progress u) gone settled
