-- Parts of a run that join.
use Rattle.std.proofs.Common.{◌≡◌, List, refl, ap, sym, ◌∙◌, subst}
use Rattle.std.specs.Prelude.{Result, Ok, Err, OnOk}
use Rattle.sftp_model.specs.declared.error.Error.{Error}
use Rattle.sftp_model.specs.declared.error.Error.TheVariants as error
use Rattle.sftp_link.specs.declared.piece.Piece.{Piece}
use Rattle.sftp_link.specs.Views.{LinkView}
use Rattle.session_model.specs.declared.entry.Entry.{Entry}
use Rattle.session_model.specs.Calls.{Setting}
use Rattle.session_driver.specs.declared.session.Phase.TheVariants.{Open}
use Rattle.session_driver.specs.Session.{SessionView, KeepsMade, IsLater, IsUnmoved, StaysInPhase, ContinuesJournal}
use Rattle.session_driver.specs.Logs.{KeepsTrace, even}
use Rattle.session_driver.specs.Ongoing.{RunState, run_state, IsReady, Part, RunsToEnd, MayStop, StoppedAs, StopsInPart, RunsPart}
use Rattle.link_frames.proofs.Joining.{caused_on, caused_self}
use Rattle.session_driver.proofs.Journals.{later_self, later_on}
use Rattle.session_driver.proofs.Stopping.{keeps_on, stops_here, stops_behind, keeps_quietly}

-- ---- a session goes on

pub stays_self : (a : SessionView) → StaysInPhase a a
stays_self a = refl

pub stays_on : (a b c : SessionView) → StaysInPhase a b → StaysInPhase b c → StaysInPhase a c
stays_on a b c l m = m ∙ ap (λ (w : SessionView). record w { progress = c.progress; work = c.work }) l

pub setting_stays : (a b : SessionView) → StaysInPhase a b → b.setting ≡ a.setting
setting_stays a b l = ap (λ (w : SessionView). w.setting) l

pub phase_stays : (a b : SessionView) → StaysInPhase a b → a.phase ≡ Open → b.phase ≡ Open
phase_stays a b l was = ap (λ (w : SessionView). w.phase) l ∙ was

pub stays_hold : (a b : SessionView) → StaysInPhase a b → KeepsMade a b
stays_hold a b l =
    let same = ap (λ (w : SessionView). w.phase) l in
    l ∙ (λ i. record a { phase = sym same i; progress = b.progress; work = b.work })

pub holds_on : (a b c : SessionView) → KeepsMade a b → KeepsMade b c → KeepsMade a c
holds_on a b c l m = m ∙ ap (λ (w : SessionView). record w { phase = c.phase; progress = c.progress; work = c.work }) l

pub holds_self : (a : SessionView) → KeepsMade a a
holds_self a = refl

-- ---- parts

module _ {S : Type 0} where
  -- one part, and then another
  pub went_on : {p q r : Part} {a b c : RunState S} → (p.whole a.seen.setting a.seen.progress b.seen.progress
      → q.whole a.seen.setting b.seen.progress c.seen.progress → r.whole a.seen.setting a.seen.progress c.seen.progress)
      → RunsToEnd p a b → RunsToEnd q b c → RunsToEnd r a c
  went_on {p = p} {q = q} {r = r} {a = a} {b = b} {c = c} joins first second =
      let same = setting_stays a.seen b.seen first.stays in
      record {
        whole = joins first.whole (subst (λ (s : Setting). q.whole s b.seen.progress c.seen.progress) same
            second.whole);
        later = later_on a.seen.setting a.seen.progress.past b.seen.progress.past c.seen.progress.past first.later
            (subst (λ (s : Setting). IsLater s b.seen.progress.past c.seen.progress.past) same second.later);
        stays = stays_on a.seen b.seen c.seen first.stays second.stays;
        log = keeps_on a.seen.progress.past b.seen.progress.past c.seen.progress.past a.link.log b.link.log c.link.log
            first.log second.log;
        ready = second.ready;
      }

  -- one part, and then another that was stopped
  pub stopped_on : (p q r : Part) (a b c : RunState S) (e : Error) →
      (p.whole a.seen.setting a.seen.progress b.seen.progress → (past : List Entry)
      → q.so_far a.seen.setting b.seen.progress past → r.so_far a.seen.setting a.seen.progress past)
      → RunsToEnd p a b → StopsInPart q b c e → StopsInPart r a c e
  stopped_on p q r a b c e joins first second =
      let same = setting_stays a.seen b.seen first.stays in
      record {
        past = second.past;
        is = record {
          later = later_on a.seen.setting a.seen.progress.past b.seen.progress.past second.past first.later
              (subst (λ (s : Setting). IsLater s b.seen.progress.past second.past) same second.is.later);
          so_far = joins first.whole second.past
              (subst (λ (s : Setting). q.so_far s b.seen.progress second.past) same second.is.so_far);
        };
        ahead = second.ahead;
        holds = holds_on a.seen b.seen c.seen (stays_hold a.seen b.seen first.stays) second.holds;
        log = stops_behind c.link.ended e a.seen.progress.past b.seen.progress.past second.past a.link.log b.link.log
            c.link.log first.log second.log;
      }

  pub join : {p q r : Part} {a b c : RunState S} {x : Unit {0}} {result : Result (Unit {0}) Error}
      → (p.whole a.seen.setting a.seen.progress b.seen.progress → q.whole a.seen.setting b.seen.progress c.seen.progress
      → r.whole a.seen.setting a.seen.progress c.seen.progress)
      → (p.whole a.seen.setting a.seen.progress b.seen.progress → (past : List Entry)
      → q.so_far a.seen.setting b.seen.progress past → r.so_far a.seen.setting a.seen.progress past)
      → RunsPart p a b (Ok x) → RunsPart q b c result → RunsPart r a c result
  join {p = p} {q = q} {r = r} {a = a} {b = b} {c = c} {x = x} {result = Ok y} whole so_far first second =
      record {
        went = went_on whole first.went second.went;
        stopped = tt;
        caused =
            caused_on a.link b.link c.link x (Ok y) first.caused second.caused;
      }
  join {p = p} {q = q} {r = r} {a = a} {b = b} {c = c} {x = x} {result = Err e} whole so_far first second =
      record {
        went = tt;
        stopped = stopped_on p q r a b c e so_far first.went second.stopped;
        caused =
            caused_on a.link b.link c.link x (Err e) first.caused second.caused;
      }

  pub stopped_as : (p r : Part) (a b : RunState S) (e : Error) → ((past : List Entry)
      → p.so_far a.seen.setting a.seen.progress past → r.so_far a.seen.setting a.seen.progress past)
      → StopsInPart p a b e
      → StopsInPart r a b e
  stopped_as p r a b e so_far stopped =
      record {
        past = stopped.past;
        is = record { later = stopped.is.later; so_far = so_far stopped.past stopped.is.so_far };
        ahead = stopped.ahead;
        holds = stopped.holds;
        log = stopped.log;
      }

  -- a part that is a part of another
  pub as_part : {p r : Part} {a b : RunState S} {result : Result (Unit {0}) Error}
      → (p.whole a.seen.setting a.seen.progress b.seen.progress
      → r.whole a.seen.setting a.seen.progress b.seen.progress)
      → ((past : List Entry) → p.so_far a.seen.setting a.seen.progress past
      → r.so_far a.seen.setting a.seen.progress past)
      → RunsPart p a b result → RunsPart r a b result
  as_part {p = p} {r = r} {a = a} {b = b} {result = Ok y} whole so_far part =
      let w = part.went in
      record {
        went = record { whole = whole w.whole; later = w.later; stays = w.stays; log = w.log; ready = w.ready };
        stopped = tt;
        caused = part.caused;
      }
  as_part {p = p} {r = r} {a = a} {b = b} {result = Err e} whole so_far part =
      record { went = tt; stopped = stopped_as p r a b e so_far part.stopped; caused = part.caused }

  -- nothing was moved over the link
  pub quiet : (p : Part) (before now : SessionView) (link : LinkView S) (x : Unit {0})
      → p.whole before.setting before.progress now.progress → ContinuesJournal before now
      → ((log : List Piece) → KeepsTrace before.progress.past now.progress.past log log)
      → IsReady (run_state before link) → RunsPart p (run_state before link) (run_state now link) (Ok x)
  quiet p before now link x whole goes keeps ready =
      record {
        went = record {
          whole = whole;
          later = goes.later;
          stays = goes.stays;
          log = keeps_quietly before.progress.past now.progress.past link.log keeps;
          ready = record { is_open = phase_stays before now goes.stays ready.is_open; count = ready.count };
        };
        stopped = tt;
        caused = caused_self link x;
      }

  -- there was nothing to do
  pub idle : (p : Part) (seen : SessionView) (link : LinkView S) (x : Unit {0})
      → p.whole seen.setting seen.progress seen.progress
      → IsReady (run_state seen link) → RunsPart p (run_state seen link) (run_state seen link) (Ok x)
  idle p seen link x whole ready =
      quiet p seen seen link x whole (record { stays = refl; later = later_self seen.setting seen.progress.past })
      (λ log hello first shown. shown) ready

  -- no memory was there to begin with it
  pub stopped_here : (such : List Entry → Type 0) (before now : SessionView) (link : LinkView S)
      → such before.progress.past → IsUnmoved before now
      → StoppedAs such (run_state before link) (run_state now link) error.OutOfMemory
  stopped_here such before now link is left =
      record {
        past = before.progress.past;
        is = is;
        ahead = even left.past;
        holds = left.holds;
        log = stops_here link.ended before.progress.past link.log;
      }

  pub no_memory : (p : Part) (before now : SessionView) (link : LinkView S)
      → p.so_far before.setting before.progress before.progress.past → IsUnmoved before now
      → RunsPart p (run_state before link) (run_state now link) (Err error.OutOfMemory)
  no_memory p before now link nothing left =
      record {
        went = tt;
        stopped = stopped_here (MayStop p before) before now link
            (record { later = later_self before.setting before.progress.past; so_far = nothing }) left;
        caused = record { cause = refl; end = tt; only = tt; service = refl };
      }

  -- what follows where a part went on to its end
  pub went_of : {p : Part} {a b : RunState S} {result : Result (Unit {0}) Error} (P : Type 0) → RunsPart p a b result
      → (RunsToEnd p a b → P) → OnOk result P
  went_of {p = p} {a = a} {b = b} {result = Ok y} P part f = f part.went
  went_of {p = p} {a = a} {b = b} {result = Err e} P part f = tt
