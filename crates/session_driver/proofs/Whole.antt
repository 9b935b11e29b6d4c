-- The parts of a run joined: the whole of it, or as far as it came.
use Rattle.std.proofs.Common.{◌≡◌, ◌<◌, ℕ, List, [], length, Option, None, ap, sym, ◌∙◌, subst, inr}
use Rattle.std.specs.Prelude.{Result, Ok, Err, false, ◌^◌, ◌-◌}
use Rattle.sftp_model.specs.declared.error.Error.{Error}
use Rattle.sftp_link.specs.Told.{IfLogged}
use Rattle.sftp_link.specs.Views.{LinkView}
use Rattle.session_model.specs.declared.turn.Turn.{Turn}
use Rattle.session_model.specs.declared.entry.Entry.{Entry}
use Rattle.session_model.specs.Readings.{was_let_go}
use Rattle.session_model.specs.Calls.{Setting, current}
use Rattle.session_model.specs.Turns.{RunProgress}
use Rattle.session_model.specs.Runs.{TurnsTo, EndsTo, LetsGoTo, OpensSession, IsRun, at_first}
use Rattle.session_driver.specs.RunsSoFar.{OpensSoFar, RunSoFar, in_opening, in_turns, in_rounds, in_letting_go, in_drains}
use Rattle.session_driver.specs.Session.{SessionInputs, SessionView, IsFixed, IsOpened, IsSoFar, at_rest}
use Rattle.link_frames.specs.Causes.{IsCausedByLink}
use Rattle.session_driver.specs.Logs.{ShowsJournal, HasRun}
use Rattle.session_driver.specs.Ongoing.{RunState, DrivesSession, HasStopped, RunsPart, IsReady, Part, StopsInPart, StoppedOpen, turns_of, lanes_end, lanes_go, drain_part}
use Rattle.session_driver.proofs.Journals.{later_on}
use Rattle.session_driver.proofs.Settled.{still_fixed}
use Rattle.session_driver.proofs.ServingLaws.{completes}
use Rattle.session_driver.proofs.Stopping.{ends_by, shown_stop, shows_on, stopped_as_well}
use Rattle.session_driver.proofs.Joining.{join}
use Rattle.link_frames.proofs.Joining.{caused_on, same_caused}
use Rattle.session_driver.proofs.Loops.{whole_join, stop_join, stops_as, same_setting}
use Rattle.session_driver.proofs.Rounds.{begins_at_first, is_run, opened_holds, held_on, ended_done}

-- the schedule's turns, and then rounds until no lane has a call left
pub record Ended (schedule : List Turn) (s : Setting) (a c : RunProgress) : Type 0 where
  pub turned : RunProgress
  pub turns : TurnsTo s schedule a turned
  pub ends : EndsTo s (length s.lanes) turned c

-- and then each lane is let go
pub record Gone (schedule : List Turn) (s : Setting) (a c : RunProgress) : Type 0 where
  pub ended : RunProgress
  pub first : Ended schedule s a ended
  pub goes : LetsGoTo s (length s.lanes) ended c

-- a run from where the session was opened
abbrev pub run_on : List Turn → Part
run_on schedule = record {
  whole = λ s a c. OpensSession s.limits a.past → a.begun ≡ at_rest.begun → IsRun s schedule c.past;
  so_far = λ s a past. OpensSession s.limits a.past → a.begun ≡ at_rest.begun → RunSoFar s schedule past;
}

abbrev pub to_ends : List Turn → Part
to_ends schedule = record { whole = Ended schedule; so_far = (run_on schedule).so_far }

abbrev pub to_gone : List Turn → Part
to_gone schedule = record { whole = Gone schedule; so_far = (run_on schedule).so_far }

from_first : (s : Setting) (schedule : List Turn) (a b : RunProgress) → a.begun ≡ at_rest.begun → TurnsTo s schedule a b
    → TurnsTo s schedule (at_first a.past) b
from_first s schedule a b none turns = subst (λ (w : RunProgress). TurnsTo s schedule w b) (begins_at_first a none)
    turns

module _ {S : Type 0} where
  pub turns_stopped : (schedule : List Turn) {a b : RunState S} {e : Error} → RunsPart (turns_of schedule) a b (Err e)
      → RunsPart (run_on schedule) a b (Err e)
  turns_stopped schedule {a = a} {b = b} part = stops_as (λ past so_far opens none. in_turns a.seen.progress.past opens
      (by_first schedule a past none so_far)) part
    where
      by_first : (schedule : List Turn) (a : RunState S) (past : List Entry) → a.seen.progress.begun ≡ at_rest.begun
          → (turns_of schedule).so_far a.seen.setting a.seen.progress past
          → (turns_of schedule).so_far a.seen.setting (at_first a.seen.progress.past) past
      by_first schedule a past none so_far = subst (λ (w : RunProgress). (turns_of schedule).so_far a.seen.setting w
          past) (begins_at_first a.seen.progress none) so_far

  pub ends_stopped : (schedule : List Turn) {a b c : RunState S} {u : Unit {0}} {e : Error}
      → RunsPart (turns_of schedule) a b (Ok u) → RunsPart lanes_end b c (Err e)
      → RunsPart (run_on schedule) a c (Err e)
  ends_stopped schedule {a = a} {b = b} turned part =
      stop_join (λ r past so_far opens none. in_rounds a.seen.progress.past b.seen.progress opens
      (from_first a.seen.setting schedule a.seen.progress b.seen.progress none r) so_far) turned part

  pub ended_on : (schedule : List Turn) {a b c : RunState S} {u v : Unit {0}} → RunsPart (turns_of schedule) a b (Ok u)
      → RunsPart lanes_end b c (Ok v) → RunsPart (to_ends schedule) a c (Ok tt)
  ended_on schedule {b = b} turned part = whole_join (λ r q. record { turned = b.seen.progress; turns = r; ends = q })
      turned part

  pub go_stopped : (schedule : List Turn) {a b c : RunState S} {u : Unit {0}} {e : Error}
      → RunsPart (to_ends schedule) a b (Ok u) → RunsPart lanes_go b c (Err e) → RunsPart (run_on schedule) a c (Err e)
  go_stopped schedule {a = a} {b = b} ended part =
      stop_join (λ r past so_far opens none. in_letting_go a.seen.progress.past r.turned b.seen.progress opens
      (from_first a.seen.setting schedule a.seen.progress r.turned none r.turns) r.ends so_far) ended part

  pub gone_on : (schedule : List Turn) {a b c : RunState S} {u v : Unit {0}} → RunsPart (to_ends schedule) a b (Ok u)
      → RunsPart lanes_go b c (Ok v) → RunsPart (to_gone schedule) a c (Ok tt)
  gone_on schedule {b = b} ended part = whole_join (λ r q. record { ended = b.seen.progress; first = r; goes = q })
      ended part

  pub run_is : (schedule : List Turn) {a b c : RunState S} {u : Unit {0}} {result : Result (Unit {0}) Error}
      → RunsPart (to_gone schedule) a b (Ok u) → RunsPart drain_part b c result → RunsPart (run_on schedule) a c result
  run_is schedule {a = a} {b = b} {c = c} gone part =
      join
      (λ r q opens none. is_run a.seen.setting schedule a.seen.progress r.first.turned r.ended b.seen.progress
      c.seen.progress
      opens none r.first.turns r.first.ends r.goes (q.drains, q.went) q.answered)
      (λ r past so_far opens none. in_drains a.seen.progress.past r.first.turned r.ended b.seen.progress opens
      (from_first a.seen.setting schedule a.seen.progress r.first.turned none r.first.turns) r.first.ends r.goes
      so_far)
      gone part

  -- where rounds have ended, no lane has a call, and none was let go
  pub all_done : (schedule : List Turn) {a b : RunState S} {u : Unit {0}} → RunsPart (to_ends schedule) a b (Ok u)
      → (k : ℕ)
      → k < length b.seen.setting.lanes → current b.seen.setting b.seen.progress.past k ≡ None
  all_done schedule {a = a} {b = b} ended k lt =
      let same = same_setting ended in
      let r = ended.went.whole in
      subst (λ (s : Setting). current s b.seen.progress.past k ≡ None) (sym same)
      (ended_done a.seen.setting (length a.seen.setting.lanes) r.turned b.seen.progress r.ends k
      (subst (λ (s : Setting). k < length s.lanes) same lt))

  pub all_held : (schedule : List Turn) {a b : RunState S} {u : Unit {0}}
      → OpensSession a.seen.setting.limits a.seen.progress.past
      → RunsPart (to_ends schedule) a b (Ok u) → (k : ℕ) → was_let_go b.seen.progress.past k ≡ false
  all_held schedule {a = a} {b = b} opens ended k =
      let r = ended.went.whole in
      held_on a.seen.setting schedule (length a.seen.setting.lanes) a.seen.progress r.turned b.seen.progress r.turns
      r.ends k
      (opened_holds a.seen.setting.limits a.seen.progress.past opens k)

  -- ---- what the caller is told

  run_told : (given : SessionInputs) (schedule : List Turn) (x : Option _) {a c : RunState S} {u : Unit {0}}
      → IsOpened given a.seen
      → IfLogged (ShowsJournal a.seen.version a.seen.progress.past) x a.link.log → RunsPart (run_on schedule) a c (Ok u)
      → HasRun given schedule c.seen x c.link.log
  run_told given schedule x {a = a} {c = c} opened shows run = record {
    run = subst (λ (s : Setting). IsRun s schedule c.seen.progress.past) (sym (same_setting run))
        (run.went.whole opened.opens opened.begun);
    fixed = subst (λ (w : SessionView). IsFixed given w.version c.seen.progress.past w.setting) (sym run.went.stays)
        (still_fixed given a.seen.version a.seen.progress.past c.seen.progress.past a.seen.setting opened.fixed
        opened.opens run.went.later);
    shows = shows_on a.seen.version c.seen.version a.seen.progress.past c.seen.progress.past x a.link.log c.link.log
        (ap (λ (w : SessionView). w.version) run.went.stays) shows run.went.log;
  }

  -- where it was opened, and then stopped
  left_on : (schedule : List Turn) (before : RunState S) {a c : RunState S} (e : Error)
      → IsOpened before.seen.given a.seen
      → IfLogged (ShowsJournal a.seen.version a.seen.progress.past) before.link.log a.link.log
      → StopsInPart (run_on schedule) a c e
      → StoppedOpen (λ s. RunSoFar s schedule) before c e
  left_on schedule before {a = a} {c = c} e opened shows stopped = record {
    past = stopped.past;
    is = subst (λ (w : SessionView). RunSoFar w.setting schedule stopped.past) (sym stopped.holds)
        (stopped.is.so_far opened.opens opened.begun);
    so_far = subst (λ (w : SessionView). IsSoFar before.seen.given w.version w.setting stopped.past) (sym stopped.holds) (
      later_on a.seen.setting [] a.seen.progress.past stopped.past opened.later stopped.is.later,
      still_fixed before.seen.given a.seen.version a.seen.progress.past stopped.past a.seen.setting opened.fixed
          opened.opens stopped.is.later,
    );
    same = ap (λ (w : SessionView). w.given) stopped.holds ∙ opened.same;
    ahead = stopped.ahead;
    log = shown_stop a.seen.version c.seen.version a.seen.progress.past stopped.past c.link.ended e before.link.log
        a.link.log c.link.log
        (ap (λ (w : SessionView). w.version) stopped.holds) shows stopped.log;
  }

  -- an error is all that is to be told
  stopped_drives : {schedule : List Turn} (before : RunState S) {now : RunState S} {e : Error}
      → HasStopped (λ s. RunSoFar s schedule) before now e
      → IsCausedByLink {T = Unit {0}} before.link now.link (Err e) → DrivesSession schedule before now (Err e)
  stopped_drives {schedule = schedule} before {now = now} {e = e} left caused = record {
    run = tt;
    left = left;
    caused = caused;
    stops = ends_by (λ s. RunSoFar s schedule) before now e left;
    complete = completes before.seen.given schedule now.link.ended e before.link.faults now.link.faults before.link.log
        now.link.log
        (ends_by (λ s. RunSoFar s schedule) before now e left) caused.cause;
  }

  -- the opening stopped
  pub unopened : (schedule : List Turn) (before : RunState S) {now : RunState S} {T : Type 0} {e : Error}
      → HasStopped (λ s. OpensSoFar s.limits) before now e → IsCausedByLink {T = T} before.link now.link (Err e)
      → DrivesSession schedule before now (Err e)
  unopened schedule before {now = now} {e = e} left caused =
      stopped_drives before
      (stopped_as_well (λ s. OpensSoFar s.limits) (λ s. RunSoFar s schedule) before now e
      (λ s past so_far. in_opening so_far) left)
      (same_caused before.link now.link e caused)

  -- a session was opened, and then its lanes ran, or it stopped
  pub drives : (schedule : List Turn) (before : RunState S) {a c : RunState S} {u : Unit {0}}
      {result : Result (Unit {0}) Error}
      → IsOpened before.seen.given a.seen → IfLogged (ShowsJournal a.seen.version a.seen.progress.past) before.link.log
      a.link.log
      → IsCausedByLink before.link a.link (Ok u) → RunsPart (run_on schedule) a c result
      → DrivesSession schedule before c result
  drives schedule before {a = a} {c = c} {u = u} {result = Ok v} opened shows caused run = record {
    run = run_told before.seen.given schedule before.link.log opened shows run;
    left = tt;
    caused = caused_on before.link a.link c.link u (Ok v) caused run.caused;
    stops = tt;
    complete = tt;
  }
  drives schedule before {a = a} {c = c} {u = u} {result = Err e} opened shows caused run =
      stopped_drives before (inr (left_on schedule before e opened shows run.stopped))
      (caused_on before.link a.link c.link u (Err e) caused run.caused)

  pub is_ready : (a : RunState S) (x : LinkView S) (u : Unit {0}) (given : SessionInputs) → x.faults < 2 ^ 64 - 1
      → IsOpened given a.seen → IsCausedByLink x a.link (Ok u) → IsReady a
  is_ready a x u given count opened caused = record {
    is_open = opened.is_open;
    count =
        subst (λ (n : ℕ). n < 2 ^ 64 - 1) (sym caused.cause) count;
  }
