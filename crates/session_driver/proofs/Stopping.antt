-- What a log shows where a run goes on, and where it stops.
use Rattle.std.proofs.Common.{◌≡◌, ◌<◌, ◌≤◌, ℕ, Bool, true, false, List, [], ◌∷◌, length, Option, Some, None, refl, ap, sym, ◌∙◌, subst, arith, inl, inr}
use Rattle.std.specs.Prelude.{Err, MatchBool}
use Rattle.ssh_encoding.specs.Writing.{string}
use Rattle.sftp_model.specs.declared.error.Error.{Error}
use Rattle.sftp_model.specs.declared.error.Error.TheVariants as error
use Rattle.sftp_model.specs.declared.reply.Reply.{Reply}
use Rattle.sftp_model.specs.declared.slot.Move.{Move}
use Rattle.sftp_model.specs.declared.slot.Move.TheVariants.{Ask, Wait, Done}
use Rattle.sftp_model.specs.ReplyReadings.{reply_at}
use Rattle.sftp_core.specs.declared.errors.TakeError.{TakeError}
use Rattle.sftp_core.specs.declared.errors.TakeError.TheVariants as take
use Rattle.sftp_core.specs.Take.{IsFirst}
use Rattle.sftp_link.specs.declared.piece.Piece.{Piece}
use Rattle.sftp_link.specs.Log.{SentOn, GotOn}
use Rattle.sftp_link.specs.Told.{IfLogged, SentLess, SentAll, GotAll}
use Rattle.sftp_link.proofs.Telling.{told_self, told_on, told_as}
use Rattle.session_model.specs.declared.event.Owner.TheVariants as owner
use Rattle.session_model.specs.declared.event.Event.TheVariants.{Submit, Send, Take, Cancel, End}
use Rattle.session_model.specs.declared.entry.Entry.{Entry}
use Rattle.session_model.specs.declared.entry.Entry.TheVariants as entry
use Rattle.session_model.specs.Readings.{count_awaited, count_ended, unsent_bytes}
use Rattle.session_model.specs.Calls.{Setting}
use Rattle.session_model.specs.Journals.{cancelled_end}
use Rattle.session_model.specs.Turns.{RunProgress, ClosesTo, SettlesTo}
use Rattle.session_model.specs.Shown.{ShowsExchange, hello_frame}
use Rattle.session_driver.specs.declared.session.Phase.{Phase}
use Rattle.session_driver.specs.declared.session.Stepped.{Stepped}
use Rattle.session_driver.specs.Session.{BeginsWithQuery, SessionInputs, IsLater, IsSoFar, StepsTo, CancelsCall, TakesAndSettles, TakesLimitsReply}
use Rattle.link_frames.specs.Causes.{EndCause, IsUnsent}
use Rattle.session_driver.specs.Refusals.{NotesRefusal, refuses, refuses_hello}
use Rattle.sftp_core.specs.Errors.{error_of}
use Rattle.link_frames.specs.Reading.{IsFramePrefix, ReadFails}
use Rattle.session_driver.specs.Logs.{KeepsTrace, ShowsJournal, StopsAt, EndsAs, HasPartialStep, SentPart, HelloStops, BehindHello, IsAhead, even, by_fault}
use Rattle.session_driver.specs.Ongoing.{RunState, HasStopped, StopsShown}
use Rattle.session_model.specs.Settings.{version_reply_of}

-- ---- a run goes on

pub keeps_self : (past : List Entry) (x : Option (List Piece)) → IfLogged (KeepsTrace past past) x x
keeps_self past x = told_self _ x (λ p hello first shown. shown)

pub keeps_on : (a b c : List Entry) (x y z : Option (List Piece)) → IfLogged (KeepsTrace a b) x y
    → IfLogged (KeepsTrace b c) y z → IfLogged (KeepsTrace a c) x z
keeps_on a b c x y z k m = told_on _ _ _ x y z k m (λ p q r f g hello first shown. g hello first (f hello first shown))

pub keeps_quietly : (a b : List Entry) (x : Option (List Piece)) → ((log : List Piece) → KeepsTrace a b log log)
    → IfLogged (KeepsTrace a b) x x
keeps_quietly a b x quiet = told_self _ x quiet

-- a CLOSE by rule is not in the log
pub closes_keep : (s : Setting) (before now : List Entry) (hello : Reply) (first log : List Piece)
    → ClosesTo s before now → ShowsExchange hello before first log → ShowsExchange hello now first log
closes_keep s before [] hello first log c shown = subst (λ (w : List Entry). ShowsExchange hello w first log) c shown
closes_keep s before (e ∷ past) hello first log (inl same) shown =
    subst (λ (w : List Entry). ShowsExchange hello w first log) same shown
closes_keep s before (e ∷ past) hello first log (inr c) shown =
    let rest : ShowsExchange hello past first log = closes_keep s before past hello first log c.1 shown in
    subst (λ (w : Entry). ShowsExchange hello (w ∷ past) first log) (sym c.0.1.1.1.1) rest

pub same_keep : (before now : RunProgress) → now ≡ before → (log : List Piece) → KeepsTrace before.past now.past log log
same_keep before now same log hello first shown = subst (λ (w : RunProgress). ShowsExchange hello w.past first log)
    (sym same) shown

pub step_keeps : (s : Setting) (lane : ℕ) (before now : RunProgress) (m : Option Move) (event : Stepped)
    → StepsTo s lane before now m event → (log : List Piece) → KeepsTrace before.past now.past log log
step_keeps s lane before now None event t log hello first shown = same_keep before now t.1 log hello first shown
step_keeps s lane before now (Some (Wait place)) event t log hello first shown =
    subst (λ (w : RunProgress). ShowsExchange hello w.past first log) (sym t.1) shown
step_keeps s lane before now (Some (Ask r)) event t log hello first shown =
    closes_keep s (entry.Event (Submit (owner.Call lane (count_ended before.past lane)) t.2.0 r) ∷ before.past) now.past
    hello first log t.2.1.1.0 shown
step_keeps s lane before now (Some (Done o site)) event t log hello first shown =
    closes_keep s (entry.Event (End lane (count_ended before.past lane) o) ∷ before.past) now.past hello first log t.2.0
    shown

cancels_keep : (s : Setting) (lane : ℕ) (before now : RunProgress) (b event : Bool) (Begun : Type 0) → MatchBool b
    ((event ≡ true) × Begun × SettlesTo s (cancelled_end (entry.Event (Cancel lane) ∷ before.past) lane ∷ entry.Event
    (Cancel lane) ∷ before.past) now.past)
    ((event ≡ false) × (now ≡ before)) → (log : List Piece) → KeepsTrace before.past now.past log log
cancels_keep s lane before now true event Begun t log hello first shown =
    closes_keep s (cancelled_end (entry.Event (Cancel lane) ∷ before.past) lane ∷ entry.Event (Cancel lane) ∷
    before.past) now.past hello first log t.2.0 shown
cancels_keep s lane before now false event Begun t log hello first shown =
    same_keep before now t.1 log hello first shown

pub cancel_keeps : (s : Setting) (lane : ℕ) (before now : RunProgress) (event : Bool)
    → CancelsCall s lane before now event
    → (log : List Piece) → KeepsTrace before.past now.past log log
cancel_keeps s lane before now event t = cancels_keep s lane before now _ event _ t

pub let_go_keeps : (s : Setting) (lane : ℕ) (before now : List Entry) → SettlesTo s (entry.LetGo lane ∷ before) now
    → (log : List Piece) → KeepsTrace before now log log
let_go_keeps s lane before now t log hello first shown = closes_keep s (entry.LetGo lane ∷ before) now hello first log
    t.0 shown

-- a reply was got and taken
pub keeps_taken : (s : Setting) (before now : RunProgress) (body bytes : List ℕ) (x y : Option (List Piece))
    → TakesAndSettles s (reply_at body) before now
    → bytes ≡ string body → length body ≤ 1048575 → IfLogged (GotAll bytes) x y
    → IfLogged (KeepsTrace before.past now.past) x y
keeps_taken s before now body bytes x y t framed short got =
    told_as _ _ x y got
    (λ p q g hello first shown.
    closes_keep s (entry.Event (Take t.0 t.1.0) ∷ before.past) now.past hello first q t.1.1.3.0
    (p, (shown, (bytes, (record { body = body; framed = framed; short = short; reads = t.1.1.0 }, g)))))

-- ---- a run stops

pub stops_here : (ended : Bool) (past : List Entry) (x : Option (List Piece))
    → IfLogged (StopsAt past ended error.OutOfMemory past) x x
stops_here ended past x = told_self _ x (λ p hello first shown. (p, (shown, inl (inl refl))))

pub stops_behind : (ended : Bool) (e : Error) (a b now : List Entry) (x y z : Option (List Piece))
    → IfLogged (KeepsTrace a b) x y
    → IfLogged (StopsAt now ended e b) y z → IfLogged (StopsAt now ended e a) x z
stops_behind ended e a b now x y z k m = told_on _ _ _ x y z k m
    (λ p q r f g hello first shown. g hello first (f hello first shown))

-- a part of what is unsent was sent
unsent_behind : (ended : Bool) (e : Error) (past : List Entry) (mid after : List Piece) → IsUnsent e
    → SentPart (unsent_bytes past) mid after → HasPartialStep ended e past mid after
unsent_behind ended error.OutOfMemory past mid after why part = inl part
unsent_behind ended error.LinkFault past mid after why part = inl part
unsent_behind ended other past mid after why part = absurd why

pub sent_here : (ended : Bool) (e : Error) (past : List Entry) (bytes : List ℕ) (x y : Option (List Piece))
    → bytes ≡ unsent_bytes past → IsUnsent e → IfLogged (SentLess bytes) x y → IfLogged (StopsAt past ended e past) x y
sent_here ended e past bytes x y same why told =
    told_as _ _ x y told
    (λ p q less hello first shown. (
      p,
      (
        shown,
        unsent_behind ended e past p q why
            (inr (subst (λ (w : List ℕ). SentLess w p q) same less)),
      ),
    ))

-- ---- no frame came

read_behind : (ended : Bool) (e : Error) (past : List Entry) (mid after : List Piece) → 0 < count_awaited past
    → EndCause {T = Unit {0}} ended (Err e) → ReadFails e mid after → HasPartialStep ended e past mid after
read_behind ended error.OutOfMemory past mid after some end fails = inr (some, fails)
read_behind ended error.LinkFault past mid after some end fails = inr (some, fails)
read_behind ended error.LinkEnded past mid after some end fails = (end, some, fails)
read_behind ended other past mid after some end fails = (
  some,
  inl (fails.1.0.0, (fails.1.0.1.0, (fails.0, (fails.1.0.1.1, fails.1.1)))),
)

pub unread_here : (ended : Bool) (e : Error) (past : List Entry) (x y : Option (List Piece)) → 0 < count_awaited past
    → EndCause {T = Unit {0}} ended (Err e) → IfLogged (ReadFails e) x y → IfLogged (StopsAt past ended e past) x y
unread_here ended e past x y some end told =
    told_as _ _ x y told (λ p q fails hello first shown. (p, (shown, read_behind ended e past p q some end fails)))

read_hello : (ended : Bool) (e : Error) (mid after : List Piece) → EndCause {T = Unit {0}} ended (Err e)
    → ReadFails e mid after → BehindHello ended e mid after
read_hello ended error.OutOfMemory mid after end fails = fails
read_hello ended error.LinkFault mid after end fails = fails
read_hello ended error.LinkEnded mid after end fails = (end, fails)
read_hello ended other mid after end fails = inl (fails.1.0.0, (fails.1.0.1.0, (fails.0, (fails.1.0.1.1, fails.1.1))))

pub hello_unread : (ended : Bool) (e : Error) (bytes : List ℕ) (x y z : Option (List Piece)) → bytes ≡ hello_frame
    → IfLogged (SentAll bytes) x y → EndCause {T = Unit {0}} ended (Err e) → IfLogged (ReadFails e) y z
    → IfLogged (HelloStops ended e) x z
hello_unread ended e bytes x y z same sent end told =
    told_on _ _ _ x y z sent told (λ p q r s fails. inr (
      q,
      (
        subst (λ (w : List ℕ). SentOn p q w) same s,
        read_hello ended e q r end fails,
      ),
    ))

-- ---- a frame came that is refused

refused_behind : (ended : Bool) (t : TakeError) (past : List Entry) (body bytes : List ℕ) (mid after : List Piece)
    → 0 < count_awaited past → IsFramePrefix bytes → bytes ≡ string body → length body ≤ 1048575
    → IsFirst t (refuses past (reply_at body)) → GotOn mid after bytes
    → HasPartialStep ended (error_of t) past mid after
refused_behind ended take.OutOfMemory past body bytes mid after some front framed short why got =
    inr (some, (bytes, (inl front, got)))
refused_behind ended (take.Format kind) past body bytes mid after some front framed short why got =
    (some, inr (body, (short, subst (λ (w : List ℕ). GotOn mid after w) framed got, (take.Format kind, (why, refl)))))
refused_behind ended (take.HandleTooLong len) past body bytes mid after some front framed short why got = (
  some,
  inr (
    body,
    (
      short,
      subst (λ (w : List ℕ). GotOn mid after w) framed got,
      (take.HandleTooLong len, (why, refl)),
    ),
  ),
)
refused_behind ended (take.InvalidResponseId id) past body bytes mid after some front framed short why got = (
  some,
  inr (
    body,
    (
      short,
      subst (λ (w : List ℕ). GotOn mid after w) framed got,
      (take.InvalidResponseId id, (why, refl)),
    ),
  ),
)
refused_behind ended (take.InvalidResponse id) past body bytes mid after some front framed short why got = (
  some,
  inr (
    body,
    (
      short,
      subst (λ (w : List ℕ). GotOn mid after w) framed got,
      (take.InvalidResponse id, (why, refl)),
    ),
  ),
)
refused_behind count_ended (take.LimitsRefused code message language) past body bytes mid after some front framed short
    why
    got = (
      some,
      inr (
        body,
        (
          short,
          subst (λ (w : List ℕ). GotOn mid after w) framed got,
          (take.LimitsRefused code message language, (why, refl)),
        ),
      ),
    )
refused_behind ended (take.Protocol version) past body bytes mid after some front framed short why got = (
  some,
  inr (
    body,
    (
      short,
      subst (λ (w : List ℕ). GotOn mid after w) framed got,
      (take.Protocol version, (why, refl)),
    ),
  ),
)

pub refused_here : (ended : Bool) (t : TakeError) (past : List Entry) (body bytes : List ℕ) (x y : Option (List Piece))
    → 0 < count_awaited past → IsFramePrefix bytes → bytes ≡ string body → length body ≤ 1048575
    → IsFirst t (refuses past (reply_at body)) → IfLogged (GotAll bytes) x y
    → IfLogged (StopsAt past ended (error_of t) past) x y
refused_here ended t past body bytes x y some front framed short why told =
    told_as _ _ x y told (λ p q got hello first shown. (
      p,
      (
        shown,
        refused_behind ended t past body bytes p q some front framed short why got,
      ),
    ))

-- and its fault may be noted
pub refused_ahead : (t : TakeError) (past now : List Entry) → NotesRefusal t past now → IsAhead (error_of t) past now
refused_ahead t past now (inl same) = even same
refused_ahead t past now (inr kept) = by_fault t kept.0 refl kept.1.0 kept.1.1

refused_hello : (ended : Bool) (t : TakeError) (body bytes : List ℕ) (mid after : List Piece) → IsFramePrefix bytes
    → bytes ≡ string body → length body ≤ 1048575
    → IsFirst t (refuses_hello (reply_at body)) → GotOn mid after bytes → BehindHello ended (error_of t) mid after
refused_hello ended take.OutOfMemory body bytes mid after front framed short why got = (bytes, (inl front, got))
refused_hello ended (take.Format kind) body bytes mid after front framed short why got =
    inr (body, (short, subst (λ (w : List ℕ). GotOn mid after w) framed got, (take.Format kind, (why, refl))))
refused_hello ended (take.HandleTooLong len) body bytes mid after front framed short why got =
    inr (body, (short, subst (λ (w : List ℕ). GotOn mid after w) framed got, (take.HandleTooLong len, (why, refl))))
refused_hello ended (take.InvalidResponseId id) body bytes mid after front framed short why got =
    inr (body, (short, subst (λ (w : List ℕ). GotOn mid after w) framed got, (take.InvalidResponseId id, (why, refl))))
refused_hello ended (take.InvalidResponse id) body bytes mid after front framed short why got =
    inr (body, (short, subst (λ (w : List ℕ). GotOn mid after w) framed got, (take.InvalidResponse id, (why, refl))))
refused_hello ended (take.LimitsRefused code message language) body bytes mid after front framed short why got =
    inr (
      body,
      (
        short,
        subst (λ (w : List ℕ). GotOn mid after w) framed got,
        (take.LimitsRefused code message language, (why, refl)),
      ),
    )
refused_hello ended (take.Protocol version) body bytes mid after front framed short why got =
    inr (body, (short, subst (λ (w : List ℕ). GotOn mid after w) framed got, (take.Protocol version, (why, refl))))

pub hello_refused : (ended : Bool) (t : TakeError) (sent body bytes : List ℕ) (x y z : Option (List Piece)) → sent
    ≡ hello_frame → IfLogged (SentAll sent) x y → IsFramePrefix bytes → bytes ≡ string body → length body ≤ 1048575
    → IsFirst t (refuses_hello (reply_at body)) → IfLogged (GotAll bytes) y z
    → IfLogged (HelloStops ended (error_of t)) x z
hello_refused ended t sent body bytes x y z same told front framed short why got =
    told_on _ _ _ x y z told got (λ p q r s g. inr (
      q,
      (
        subst (λ (w : List ℕ). SentOn p q w) same s,
        refused_hello ended t body bytes q r front framed short why g,
      ),
    ))

-- a part of the hello was sent
pub hello_unsent : (ended : Bool) (e : Error) (bytes : List ℕ) (x y : Option (List Piece)) → bytes ≡ hello_frame
    → IsUnsent e → IfLogged (SentLess bytes) x y → IfLogged (HelloStops ended e) x y
hello_unsent ended e bytes x y same why told = told_as _ _ x y told
    (λ p q less. inl (why, inr (subst (λ (w : List ℕ). SentLess w p q) same less)))

pub hello_unbegun : (ended : Bool) (x : Option (List Piece)) → IfLogged (HelloStops ended error.OutOfMemory) x x
hello_unbegun ended x = told_self _ x (λ p. inl (tt, inl refl))

-- ---- the opening

-- the log shows VERSION and the journal that has gone on
pub shows_on : (version now_version : Option Reply) (a b : List Entry) (x y z : Option (List Piece)) → now_version
    ≡ version → IfLogged (ShowsJournal version a) x y → IfLogged (KeepsTrace a b) y z
    → IfLogged (ShowsJournal now_version b) x z
shows_on version now_version a b x y z same shows keeps = subst (λ (v : Option Reply). IfLogged (ShowsJournal v b) x z)
    (sym same) (shown_on version shows)
  where
    shown_on : (v : Option Reply) → IfLogged (ShowsJournal v a) x y → IfLogged (ShowsJournal v b) x z
    shown_on None f = told_on _ _ _ x y z f keeps (λ p q r g k. absurd g)
    shown_on (Some hello) f = told_on _ _ _ x y z f keeps (λ p q r g k. k hello p g)

-- the log shows VERSION and a journal, and then it shows the one where it stopped
pub shown_stop : (version now_version : Option Reply) (a now : List Entry) (ended : Bool) (e : Error)
    (x y z : Option (List Piece)) → now_version
    ≡ version → IfLogged (ShowsJournal version a) x y → IfLogged (StopsAt now ended e a) y z
    → IfLogged (StopsShown now_version now ended e) x z
shown_stop version now_version a now ended e x y z same shows stops =
    subst (λ (v : Option Reply). IfLogged (StopsShown v now ended e) x z) (sym same) (shown_on version shows)
  where
    shown_on : (v : Option Reply) → IfLogged (ShowsJournal v a) x y → IfLogged (StopsShown v now ended e) x z
    shown_on None f = told_on _ _ _ x y z f stops (λ p q r g k. absurd g)
    shown_on (Some hello) f = told_on _ _ _ x y z f stops (λ p q r g k. k hello p g)

-- what is left of a session that was stopped says how its log ends
stopped_ends : (given : SessionInputs) (such : Setting → List Entry → Type 0) (ended : Bool) (e : Error)
    (version : Option Reply) (s : Setting)
    (past : List Entry) (p q : List Piece) → such s past → IsSoFar given version s past
    → StopsShown version past ended e p q
    → EndsAs given such ended e p q
stopped_ends given such ended e version s past p q is so_far shown =
    let fixed = so_far.1 in
    let told : StopsShown (Some (version_reply_of fixed.0)) past ended e p q =
    subst (λ (v : Option Reply). StopsShown v past ended e p q) fixed.1.0 shown in
    inr (record {
      extensions = fixed.0;
      now = past;
      mid = told.0;
      later = subst (λ (t : Setting). IsLater t [] past) fixed.1.1 so_far.0;
      so_far = subst (λ (t : Setting). such t past) fixed.1.1 is;
      shows = told.1.0;
      behind = told.1.1;
    })

pub ends_by : {S : Type 0} (such : Setting → List Entry → Type 0) (before now : RunState S) (e : Error)
    → HasStopped such before now e
    → IfLogged (EndsAs before.seen.given such now.link.ended e) before.link.log now.link.log
ends_by such before now e (inl h) = told_as _ _ before.link.log now.link.log h.log (λ p q w. inl w)
ends_by such before now e (inr w) =
    told_as _ _ before.link.log now.link.log w.log
    (λ p q shown. stopped_ends before.seen.given such now.link.ended e now.seen.version now.seen.setting w.past p q w.is
    w.so_far shown)

pub stopped_as_well : {S : Type 0} (such other : Setting → List Entry → Type 0) (before now : RunState S) (e : Error)
    → ((s : Setting) (past : List Entry) → such s past → other s past) → HasStopped such before now e
    → HasStopped other before now e
stopped_as_well such other before now e is (inl h) = inl h
stopped_as_well such other before now e is (inr w) = inr (record {
  past = w.past;
  is = is now.seen.setting w.past w.is;
  so_far = w.so_far;
  same = w.same;
  ahead = w.ahead;
  log = w.log;
})

-- the query for limits was sent
pub keeps_sent : (past now : List Entry) (bytes : List ℕ) (x y : Option (List Piece)) → now ≡ entry.Event Send ∷ past
    → bytes ≡ unsent_bytes past → IfLogged (SentAll bytes) x y → IfLogged (KeepsTrace past now) x y
keeps_sent past now bytes x y is same told =
    told_as _ _ x y told
    (λ p q sent hello first shown. subst (λ (w : List Entry). ShowsExchange hello w first q) (sym is)
    (p, (shown, subst (λ (w : List ℕ). SentOn p q w) same sent)))

-- its reply was got and taken
pub keeps_told : (before now : List Entry) (body bytes : List ℕ) (x y : Option (List Piece))
    → TakesLimitsReply (reply_at body) before now → bytes ≡ string body → length body ≤ 1048575
    → IfLogged (GotAll bytes) x y
    → IfLogged (KeepsTrace before now) x y
keeps_told before now body bytes x y t framed short told =
    told_as _ _ x y told
    (λ p q got hello first shown.
    subst (λ (w : List Entry). ShowsExchange hello w first q) (sym t.1.1.2)
    (p, (shown, (bytes, (record { body = body; framed = framed; short = short; reads = t.1.1.0 }, got)))))

pub asked_awaits : (phase : Phase) (past now : List Entry) → BeginsWithQuery true phase past → now
    ≡ entry.Event Send ∷ past → 0 < count_awaited now
asked_awaits phase past now begins is =
    subst (λ (w : List Entry). 0 < count_awaited w) (sym (is ∙ ap (λ (w : List Entry). entry.Event Send ∷ w)
    begins.1.1.1)) (omega arith)
