-- What the opening of a session keeps, whole or stopped.
use Rattle.std.proofs.Common.{◌≡◌, ◌<◌, ◌≤◌, ℕ, Bool, true, false, List, [], ◌∷◌, length, Option, refl, ap, sym, ◌∙◌, subst, inl, inr, arith}
use Rattle.std.specs.Prelude.{Result, Ok, Err, IfErr, ◌==◌}
use Rattle.std.proofs.lemmas.Bool.Decides.{eqb_tells}
use Rattle.sftp_model.specs.declared.frame_error.FrameError.{FrameError}
use Rattle.sftp_model.specs.declared.reply.Reply.{Reply}
use Rattle.sftp_model.specs.Lengths.{offers_limits}
use Rattle.session_model.specs.declared.event.Event.TheVariants.{Send, Take}
use Rattle.session_model.specs.declared.entry.Entry.{Entry}
use Rattle.session_model.specs.declared.entry.Entry.TheVariants as entry
use Rattle.session_model.specs.Readings.{count_awaited, unsent_bytes}
use Rattle.session_model.specs.Calls.{Setting}
use Rattle.session_model.specs.Journals.{IsFree, MayTake}
use Rattle.session_model.specs.Runs.{OpensSession, limits_query_sent}
use Rattle.ssh_encoding.specs.Writing.{string}
use Rattle.sftp_core.specs.declared.errors.TakeError.{TakeError}
use Rattle.sftp_core.specs.Take.{IsFirst}
use Rattle.sftp_model.specs.declared.error.Error.{Error}
use Rattle.sftp_model.specs.ReplyReadings.{reply_at}
use Rattle.sftp_link.specs.Told.{IfLogged, GotAll}
use Rattle.sftp_link.specs.Views.{LinkView}
use Rattle.link_frames.specs.Causes.{IsCausedByLink, SentBy}
use Rattle.session_driver.specs.Logs.{KeepsTrace, ShowsJournal, by_send, even}
use Rattle.session_driver.specs.Ongoing.{HasStopped, MayAsk, StoppedAs, StoppedOpen, run_state}
use Rattle.link_frames.specs.Reading.{IsFramePrefix, ReadFails}
use Rattle.session_driver.specs.Refusals.{refuses}
use Rattle.sftp_core.specs.Errors.{error_of}
use Rattle.session_driver.specs.RunsSoFar.{OpensSoFar}
use Rattle.session_driver.specs.Session.{
  SessionInputs,
  HasRefused,
  SessionView,
  IsLater,
  IsFixed,
  IsQueried,
  IsSoFar,
  IsWelcomed,
  IsOpened,
  OpensOn,
  HasTakenLimits,
  TakesLimitsReply,
  queried_with,
}
use Rattle.session_driver.proofs.Greeting.{queried_holds}
use Rattle.session_driver.proofs.Joining.{holds_on}
use Rattle.session_driver.proofs.Journals.{later_on}
use Rattle.link_frames.proofs.Joining.{end_told}
use Rattle.session_driver.proofs.Stopping.{keeps_sent, refused_ahead, refused_here, sent_here, shown_stop, stops_behind, unread_here}

asked_limits : (given : SessionInputs) (asks : Bool) (a : SessionView) → IsWelcomed given asks a → a.setting.limits
    ≡ asks
asked_limits given asks a w =
    let same : w.extensions ≡ w.fixed.0 = cc in
    ap (λ (s : Setting). s.limits) w.fixed.1.1 ∙ (ap offers_limits (sym same) ∙ sym w.asked)

-- the query for limits stands in the queue
pub ask_here : (a : SessionView) → IsWelcomed a.given true a → MayAsk a a.progress.past
ask_here a w =
    let b = w.begins in
    record {
      later = w.later;
      fixed = w.fixed;
      so_far = subst (λ (l : Bool). OpensSoFar l a.progress.past) (sym (asked_limits a.given true a w))
          (inr (b.1.0, (b.1.1.0, inl b.1.1.1)));
    }

-- it was sent
sent_now : (a : SessionView) → IsWelcomed a.given true a → IsLater a.setting a.progress.past
    (entry.Event Send ∷ a.progress.past)
    → MayAsk a (entry.Event Send ∷ a.progress.past)
sent_now a w later =
    let b = w.begins in
    record {
      later = later_on a.setting [] a.progress.past (entry.Event Send ∷ a.progress.past) w.later later;
      fixed = w.fixed;
      so_far = subst (λ (l : Bool). OpensSoFar l (entry.Event Send ∷ a.progress.past))
          (sym (asked_limits a.given true a w)) (inr (
            b.1.0,
            (
              b.1.1.0,
              inr (ap (λ (p : List Entry). entry.Event Send ∷ p) b.1.1.1),
            ),
          ));
    }

pub ask_sent : (a b : SessionView) (work : ℕ) → IsWelcomed a.given true a → b ≡ queried_with a work
    → IsLater b.setting a.progress.past b.progress.past → MayAsk a b.progress.past
ask_sent a b work w is later =
    subst (λ (x : SessionView). MayAsk a x.progress.past) (sym is)
    (sent_now a w (subst (λ (x : SessionView). IsLater x.setting a.progress.past x.progress.past) is later))

pub ask_awaits : (a b : SessionView) (work : ℕ) → IsWelcomed a.given true a → b ≡ queried_with a work
    → 0 < count_awaited b.progress.past
ask_awaits a b work w is =
    subst (λ (x : SessionView). 0 < count_awaited x.progress.past) (sym is)
    (subst (λ (p : List Entry). 0 < count_awaited (entry.Event Send ∷ p)) (sym w.begins.1.1.1) (omega arith))

-- the reply is one to the query
one_query : (id other : ℕ) (r : Reply) → MayTake (limits_query_sent id) other r → id ≡ other
one_query id other r may = elim (eqb_tells id other) [ inl t ↦ t.1 | inr t ↦ absurd (none t.0) ]
  where
    none : (id == other) ≡ false → ⊥
    none e = let b = rw e at may.1.0.0 in absurd cc

tells_opens : (read : Result (Option ℕ × Reply) FrameError) (id : ℕ) (now : List Entry) → IsFree [] id
    → TakesLimitsReply read (limits_query_sent id) now → OpensSession true now
tells_opens read id now free t =
    let same : id ≡ t.0 = one_query id t.0 t.1.0 t.1.1.1 in
    subst (λ (k : ℕ). OpensSession true now) same (
      t.0,
      (
        t.1.0,
        (
          subst (λ (k : ℕ). IsFree [] k) same free,
          subst (λ (k : ℕ). MayTake (limits_query_sent k) t.0 t.1.0) same t.1.1.1,
          subst (λ (k : ℕ). now ≡ entry.Event (Take t.0 t.1.0) ∷ limits_query_sent k) same t.1.1.2,
        ),
      ),
    )

opened_now : (read : Result (Option ℕ × Reply) FrameError) (a now : SessionView) (work : ℕ) → IsWelcomed a.given true a
    → HasTakenLimits read (queried_with a work) now → now.given ≡ a.given → now.version ≡ a.version
    → IsOpened a.given now
opened_now read a now work w l given version =
    let fixed : IsFixed a.given now.version now.progress.past now.setting =
    subst (λ (g : SessionInputs). IsFixed g now.version now.progress.past now.setting) given l.fixed in
    let told : a.version ≡ now.version = sym version in
    let same : w.extensions ≡ fixed.0 = cc in
    let limits : now.setting.limits ≡ true = ap (λ (s : Setting). s.limits) fixed.1.1
    ∙ (ap offers_limits (sym same) ∙ sym w.asked) in
    let b = w.begins in
    record {
      same = given;
      fixed = fixed;
      opens = subst (λ (t : Bool). OpensSession t now.progress.past) (sym limits)
          (tells_opens read b.1.0 now.progress.past b.1.1.0 (subst
          (λ (p : List Entry). TakesLimitsReply read (entry.Event Send ∷ p)
          now.progress.past) b.1.1.1 l.tells));
      later = l.later;
      is_open = l.is_open;
      begun = l.begun ∙ w.begun;
    }

pub limits_open : (read : Result (Option ℕ × Reply) FrameError) (a b now : SessionView) (work : ℕ)
    → IsWelcomed a.given true a
    → b ≡ queried_with a work → HasTakenLimits read b now → now.given ≡ b.given → now.version ≡ b.version
    → OpensOn a now
limits_open read a b now work w is l given version =
    let same_version : now.version ≡ a.version = version ∙ ap (λ (x : SessionView). x.version) is in
    record {
      opened = opened_now read a now work w (subst (λ (x : SessionView). HasTakenLimits read x now) is l)
          (given ∙ ap (λ (x : SessionView). x.given) is) same_version;
      version = same_version;
    }

-- ---- where it stops

module _ {S : Type 0} where
  -- the query could not all be sent
  pub query_fails : (a b : SessionView) (x y : LinkView S) (bytes : List ℕ) (e : Error) → IsWelcomed a.given true a
      → IsQueried a b
      → bytes ≡ unsent_bytes a.progress.past → SentBy {T = Unit {0}} bytes x y (Err e)
      → StoppedAs (MayAsk a) (run_state a x) (run_state b y) e
  query_fails a b x y bytes e w is same by = record {
    past = a.progress.past;
    is = ask_here a w;
    ahead = by_send by.log.0 (ap (λ (v : SessionView). v.progress.past) is);
    holds = queried_holds a b is;
    log = sent_here y.ended e a.progress.past bytes x.log y.log same by.log.0 by.log.1;
  }

  -- it was sent
  asked_on : (a b : SessionView) (x y : LinkView S) (bytes : List ℕ) (u : Unit {0}) → IsQueried a b → bytes
      ≡ unsent_bytes a.progress.past
      → SentBy bytes x y (Ok u) → IfLogged (KeepsTrace a.progress.past b.progress.past) x.log y.log
  asked_on a b x y bytes u is same by = keeps_sent a.progress.past b.progress.past bytes x.log y.log
      (ap (λ (v : SessionView). v.progress.past) is) same by.log

  -- and no reply came
  pub limits_fail : {R : Type 0} (a b : SessionView) (x y z : LinkView S) (bytes : List ℕ) (e : Error) (u : Unit {0})
      → IsWelcomed a.given true a
      → IsQueried a b → IsLater b.setting a.progress.past b.progress.past → bytes ≡ unsent_bytes a.progress.past
      → SentBy bytes x y (Ok u)
      → IfLogged (ReadFails e) y.log z.log → IsCausedByLink {T = R} y z (Err e)
      → StoppedAs (MayAsk a) (run_state a x) (run_state b z) e
  limits_fail a b x y z bytes e u w is later same by fails caused = record {
    past = b.progress.past;
    is = ask_sent a b b.work w is later;
    ahead = even refl;
    holds = queried_holds a b is;
    log = stops_behind z.ended e a.progress.past b.progress.past b.progress.past x.log y.log z.log
        (asked_on a b x y bytes u is same by)
        (unread_here z.ended e b.progress.past y.log z.log (ask_awaits a b b.work w is) (end_told caused) fails);
  }

  -- or one that is refused
  pub limits_refused : (a b now : SessionView) (x y z : LinkView S) (sent body bytes : List ℕ) (t : TakeError)
      (u : Unit {0}) → IsWelcomed a.given true a
      → IsQueried a b → IsLater b.setting a.progress.past b.progress.past → sent ≡ unsent_bytes a.progress.past
      → SentBy sent x y (Ok u)
      → IsFramePrefix bytes → bytes ≡ string body → length body ≤ 1048575
      → IsFirst t (refuses b.progress.past (reply_at body))
      → HasRefused t b now → IfLogged (GotAll bytes) y.log z.log
      → StoppedAs (MayAsk a) (run_state a x) (run_state now z) (error_of t)
  limits_refused a b now x y z sent body bytes t u w is later same by front framed short why left got = record {
    past = b.progress.past;
    is = ask_sent a b b.work w is later;
    ahead = refused_ahead t b.progress.past now.progress.past left.past;
    holds = holds_on a b now (queried_holds a b is) left.holds;
    log = stops_behind z.ended (error_of t) a.progress.past b.progress.past b.progress.past x.log y.log z.log
        (asked_on a b x y sent u is same by)
        (refused_here z.ended t b.progress.past body bytes y.log z.log (ask_awaits a b b.work w is) front framed short
        why got);
  }

  -- VERSION came, the limits were asked for, and it stopped
  ask_stops : (before a now : SessionView) (x y z : LinkView S) (e : Error) → a.given ≡ before.given
      → IfLogged (ShowsJournal a.version a.progress.past) x.log y.log
      → StoppedAs (MayAsk a) (run_state a y) (run_state now z) e
      → StoppedOpen (λ s. OpensSoFar s.limits) (run_state before x) (run_state now z) e
  ask_stops before a now x y z e same shows stopped = record {
    past = stopped.past;
    is = subst (λ (w : SessionView). OpensSoFar w.setting.limits stopped.past) (sym stopped.holds) stopped.is.so_far;
    so_far = subst (λ (w : SessionView). IsSoFar before.given w.version w.setting stopped.past) (sym stopped.holds)
        (subst (λ (g : SessionInputs). IsSoFar g a.version a.setting stopped.past) same
        (stopped.is.later, stopped.is.fixed));
    same = ap (λ (w : SessionView). w.given) stopped.holds ∙ same;
    ahead = stopped.ahead;
    log = shown_stop a.version now.version a.progress.past stopped.past z.ended e x.log y.log z.log
        (ap (λ (w : SessionView). w.version) stopped.holds) shows stopped.log;
  }

  pub asked_stops : (before a now : SessionView) (x y z : LinkView S) (result : Result (Unit {0}) Error) → a.given
      ≡ before.given
      → IfLogged (ShowsJournal a.version a.progress.past) x.log y.log
      → IfErr result (StoppedAs (MayAsk a) (run_state a y) (run_state now z))
      → IfErr result (HasStopped (λ s. OpensSoFar s.limits) (run_state before x) (run_state now z))
  asked_stops before a now x y z (Ok u) same shows stopped = tt
  asked_stops before a now x y z (Err e) same shows stopped = inr (ask_stops before a now x y z e same shows stopped)
