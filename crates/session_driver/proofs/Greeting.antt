-- Where the hello of a session stops.
use Rattle.std.proofs.Common.{◌≡◌, ◌≤◌, ℕ, Bool, true, false, List, [], ◌∷◌, Option, length, ap, sym, ◌∙◌, subst}
use Rattle.std.specs.Prelude.{Ok, Err}
use Rattle.ssh_encoding.specs.Writing.{string}
use Rattle.sftp_model.specs.declared.error.Error.{Error}
use Rattle.sftp_model.specs.declared.error.Error.TheVariants as error
use Rattle.sftp_model.specs.declared.reply.Reply.{Reply}
use Rattle.sftp_model.specs.ReplyReadings.{reply_at}
use Rattle.sftp_core.specs.declared.errors.TakeError.{TakeError}
use Rattle.sftp_core.specs.Take.{IsFirst}
use Rattle.sftp_link.specs.declared.piece.Piece.{Piece}
use Rattle.sftp_link.specs.Log.{SentOn}
use Rattle.sftp_link.specs.Told.{IfLogged, GotAll, SentAll}
use Rattle.sftp_link.proofs.Telling.{told_on}
use Rattle.sftp_link.specs.Views.{LinkView}
use Rattle.session_model.specs.declared.entry.Entry.{Entry}
use Rattle.session_model.specs.declared.entry.Entry.TheVariants as entry
use Rattle.session_model.specs.declared.event.Event.TheVariants.{Send}
use Rattle.session_model.specs.Shown.{ShowsExchange, hello_frame}
use Rattle.session_model.specs.Turns.{RunProgress}
use Rattle.session_driver.specs.declared.session.Phase.{Phase}
use Rattle.session_driver.specs.declared.session.Phase.TheVariants.{Greeted, Queried}
use Rattle.link_frames.specs.Causes.{IsCausedByLink, SentBy}
use Rattle.session_driver.specs.Logs.{IsAhead, ShowsJournal, even}
use Rattle.session_driver.specs.Ongoing.{StoppedAtHello, run_state}
use Rattle.link_frames.specs.Reading.{IsFramePrefix, ReadFails}
use Rattle.session_driver.specs.Refusals.{refuses_hello}
use Rattle.sftp_core.specs.Errors.{error_of}
use Rattle.session_driver.specs.Session.{BeginsWithQuery, HasRefused, HasTakenVersion, IsFresh, IsGreeted, IsQueried, IsUnmoved, KeepsMade, SessionInputs, SessionView}
use Rattle.session_driver.proofs.Joining.{holds_on}
use Rattle.link_frames.proofs.Joining.{end_told}
use Rattle.session_driver.proofs.Stopping.{hello_refused, hello_unbegun, hello_unread, hello_unsent, refused_ahead}

-- ---- what the opening leaves of a session

opening_holds : (a b : SessionView) (phase : Phase) (progress : RunProgress) → b
    ≡ record a { phase = phase; progress = progress; work = b.work } → KeepsMade a b
opening_holds a b phase progress e = e ∙ (λ i. record a {
  phase = (sym e i).phase;
  progress = (sym e i).progress;
  work =
      b.work;
})

pub greeted_holds : (a b : SessionView) → IsGreeted a b → KeepsMade a b
greeted_holds a b e = opening_holds a b Greeted a.progress e

pub queried_holds : (a b : SessionView) → IsQueried a b → KeepsMade a b
queried_holds a b e = opening_holds a b Queried (record {
  past = entry.Event Send ∷ a.progress.past;
  begun =
      a.progress.begun;
}) e

-- nothing had happened, and nothing has but the hello
none_yet : (a : SessionView) → IsFresh a → a.progress.past ≡ []
none_yet a fresh = ap (λ (w : RunProgress). w.past) fresh.rest

none_then : (a b : SessionView) → IsFresh a → IsGreeted a b → b.progress.past ≡ []
none_then a b fresh greeted = ap (λ (w : SessionView). w.progress.past) greeted ∙ none_yet a fresh

module _ {S : Type 0} where
  pub no_hello : (a b : SessionView) (x : LinkView S) → IsFresh a → IsUnmoved a b
      → StoppedAtHello (run_state a x) (run_state b x) error.OutOfMemory
  no_hello a b x fresh left = record {
    ahead = even (left.past ∙ none_yet a fresh);
    holds = left.holds;
    log =
        hello_unbegun x.ended x.log;
  }

  pub hello_fails : (a b : SessionView) (x y : LinkView S) (bytes : List ℕ) (e : Error) → IsFresh a → IsGreeted a b
      → bytes ≡ hello_frame
      → SentBy {T = Unit {0}} bytes x y (Err e) → StoppedAtHello (run_state a x) (run_state b y) e
  hello_fails a b x y bytes e fresh greeted same by = record {
    ahead = even (none_then a b fresh greeted);
    holds = greeted_holds a b greeted;
    log = hello_unsent y.ended e bytes x.log y.log same by.log.0 by.log.1;
  }

  pub version_fails : {R : Type 0} (a b : SessionView) (x y z : LinkView S) (bytes : List ℕ) (e : Error) (u : Unit {0})
      → IsFresh a → IsGreeted a b
      → bytes ≡ hello_frame → SentBy bytes x y (Ok u) → IfLogged (ReadFails e) y.log z.log
      → IsCausedByLink {T = R} y z (Err e)
      → StoppedAtHello (run_state a x) (run_state b z) e
  version_fails a b x y z bytes e u fresh greeted same by fails caused = record {
    ahead = even (none_then a b fresh greeted);
    holds = greeted_holds a b greeted;
    log = hello_unread z.ended e bytes x.log y.log z.log same by.log (end_told caused) fails;
  }

  pub version_refused : (a b now : SessionView) (x y z : LinkView S) (sent body bytes : List ℕ) (t : TakeError)
      (u : Unit {0}) → IsFresh a → IsGreeted a b
      → sent ≡ hello_frame → SentBy sent x y (Ok u) → IsFramePrefix bytes → bytes ≡ string body → length body ≤ 1048575
      → IsFirst t (refuses_hello (reply_at body)) → HasRefused t b now → IfLogged (GotAll bytes) y.log z.log
      → StoppedAtHello (run_state a x) (run_state now z) (error_of t)
  version_refused a b now x y z sent body bytes t u fresh greeted same by front framed short why left got = record {
    ahead = sub (refused_ahead t b.progress.past now.progress.past left.past);
    holds = holds_on a b now (greeted_holds a b greeted) left.holds;
    log = hello_refused z.ended t sent body bytes x.log y.log z.log same by.log front framed short why got;
  }
    where
      sub : IsAhead (error_of t) b.progress.past now.progress.past → IsAhead (error_of t) [] now.progress.past
      sub ahead = subst (λ (w : List Entry). IsAhead (error_of t) w now.progress.past) (none_then a b fresh greeted)
          ahead

-- ---- what the log shows once VERSION was taken

with_query : (asks : Bool) (phase : Phase) (past : List Entry) → BeginsWithQuery asks phase past → (hello : Reply)
    (first log : List Piece) → ShowsExchange hello [] first log → ShowsExchange hello past first log
with_query false phase past begins hello first log shown =
    subst (λ (w : List Entry). ShowsExchange hello w first log) (sym begins.1) shown
with_query true phase past begins hello first log shown =
    subst (λ (w : List Entry). ShowsExchange hello w first log) (sym begins.1.1.1) shown

pub shows_hello : (given : SessionInputs) (asks : Bool) (now : SessionView) (sent body bytes : List ℕ)
    (x y z : Option (List Piece)) → sent ≡ hello_frame → IfLogged (SentAll sent) x y
    → HasTakenVersion (reply_at body) given asks now → bytes ≡ string body → length body ≤ 1048575
    → IfLogged (GotAll bytes) y z → IfLogged (ShowsJournal now.version now.progress.past) x z
shows_hello given asks now sent body bytes x y z same told t framed short got =
    told_on _ _ _ x y z told got
    (λ p q r s g. subst (λ (v : Option Reply). ShowsJournal v now.progress.past p r) (sym t.welcomed.told)
    (with_query asks now.phase now.progress.past t.welcomed.begins _ p r (
      q,
      (
        subst (λ (b : List ℕ). SentOn p q b) same s,
        (bytes, (record { body = body; framed = framed; short = short; reads = t.reads }, g)),
      ),
    )))
