-- The bytes that the rounds of the sending worker write, once VERSION was reported.
use Rattle.std.proofs.Common.{
  ◌≡◌,
  ◌⊎◌,
  ℕ,
  List,
  [],
  ◌∷◌,
  ◌++◌,
  Bool,
  true,
  false,
  refl,
  sym,
  ap,
  ◌∙◌,
  subst,
  inl,
  inr,
  append_assoc,
  append-nil,
  Option,
  Some,
  None,
  Ok,
  Err,
}
use Rattle.std.specs.Prelude.{Result}
use Rattle.std.proofs.lemmas.List.{append_cancel_right}
use Rattle.link_frames.proofs.Getting.{sent_both}
use Rattle.session_model.specs.declared.entry.Entry.{Entry}
use Rattle.session_model.specs.declared.entry.Entry.TheVariants as entry
use Rattle.session_model.specs.declared.event.Event.TheVariants.{Send}
use Rattle.session_seats.specs.Holds.{number_of, sight_by}
use Rattle.session_seats.specs.Repeats.{IsChainOf, NotLast}
use Rattle.session_work.specs.Working.{past_of}
use Rattle.sftp_lanes.specs.Events.{HandsOutIn}
use Rattle.sftp_lanes.specs.Seen.{SessionValue}
use Rattle.sftp_link.proofs.Telling.{sent_nothing, told_as, told_on, told_self}
use Rattle.sftp_link.specs.declared.piece.Piece.{Piece}
use Rattle.sftp_link.specs.Told.{SentAll, SentFront, SentLess, IfLogged}
use Rattle.sftp_link.specs.Views.{LinkView}
use Rattle.sftp_model.specs.declared.error.Error.{Error}
use Rattle.sftp_model.specs.declared.error.Error.TheVariants as error
use Rattle.sftp_model.specs.declared.error.Fault.{Fault}
use Rattle.sftp_model.specs.declared.reply.Reply.{Reply}
use Rattle.sftp_tasks.specs.declared.locked.Locked.{Locked}
use Rattle.sftp_tasks.specs.declared.workers.Shift.{Shift}
use Rattle.sftp_tasks.specs.declared.workers.Shift.TheVariants.{Over}
use Rattle.sftp_tasks.specs.Calls.{InOneHold}
use Rattle.sftp_tasks.specs.Entries.{by_failing}
use Rattle.sftp_tasks.specs.LockedEvents.{TellsStage, NotesWritten}
use Rattle.sftp_tasks.specs.Rounds.{FlushStops, FlushesRound, FlushesOnce, HoldsOnce, KeepsFirst, Noting, NotesGroup, StopsInRound, StopsByError, Token, StopsUnsent, fault_for}
use Rattle.sftp_tasks.specs.Sent.{SeesVersion, SentUnless, WroteSends, sent_by, taken_by}
use Rattle.sftp_tasks.specs.SessionEvents.{RefusesCall}
use Rattle.sftp_tasks.specs.Shows.{shown_of}
use Rattle.sftp_tasks.specs.Workers.{FlushShift, FlushWorks, WorkerState, SentNone, is_over}
use Rattle.sftp_tasks.proofs.EntryLaws.{Extends, kept_extended, refuses_extended}
use Rattle.sftp_tasks.proofs.SentEvents.{failing_quiet, hands_none, hands_send, same_more}
use Rattle.sftp_tasks.proofs.SentLists.{hold_sent, hold_sent_none, hold_took_none, version_after, version_before}

-- ---- holds that send and take nothing

-- the seat sent and took no more, and the VERSION that it had seen stays
pub record SameSent (m n : Token) : Type 0 where
  pub sent : sent_by (number_of n) (sight_by n).log ≡ sent_by (number_of m) (sight_by m).log
  pub taken : taken_by (number_of n) (sight_by n).log ≡ taken_by (number_of m) (sight_by m).log
  pub version : (hello : Reply) → SeesVersion hello (sight_by m) → SeesVersion hello (sight_by n)

same_self : (m : Token) → SameSent m m
same_self m = record { sent = refl; taken = refl; version = λ hello sees. sees }

pub same_on : (m k n : Token) → SameSent m k → SameSent k n → SameSent m n
same_on m k n p q = record {
  sent = q.sent ∙ p.sent;
  taken = q.taken ∙ p.taken;
  version = λ hello sees. q.version hello (p.version hello sees);
}

module _ {Did : Locked → Locked → List Entry → Type 0} (m n : Token) (h : HoldsOnce Did m n) where
  -- only faults were kept
  pub same_if : Extends (by_failing None) (past_of h.before.session.work) (past_of h.after.session.work) → SameSent m n
  same_if e =
      let all = same_more (by_failing None) (past_of h.before.session.work) (past_of h.after.session.work) h.more e
      h.past in record {
        sent = hold_sent_none shown_of m n h (by_failing None) failing_quiet all;
        taken = hold_took_none shown_of m n h (by_failing None) failing_quiet all;
        version = version_after shown_of m n h;
      }

  -- nothing was added
  pub same_past : past_of h.after.session.work ≡ past_of h.before.session.work → SameSent m n
  same_past is = same_if ([], is, refl)

  pub same_value : h.after ≡ h.before → SameSent m n
  same_value is = same_past (ap (λ (y : Locked). past_of y.session.work) is)

pub same_refused : (e : Error) (m n : Token) → HoldsOnce (λ y z more. RefusesCall e y.session z.session) m n
    → SameSent m n
same_refused e m n h = same_if m n h (refuses_extended (by_failing None) e h.before.session h.after.session h.did).past

first_extends : (o : Option Fault) (y z : Locked) → KeepsFirst o y z
    → Extends (by_failing None) (past_of y.session.work) (past_of z.session.work)
first_extends (Some fault) y z h = (kept_extended (by_failing None) (λ f. refl) fault y.session z.session h).past
first_extends None y z h = absurd h

stopping_extends : (why e : Error) (y z : Locked) → StopsInRound why e y z
    → Extends (by_failing None) (past_of y.session.work) (past_of z.session.work)
stopping_extends why error.OutOfMemory y z h = ([], ap (λ (s : SessionValue). past_of s.work) h.1, refl)
stopping_extends why (error.BackgroundTaskFailure first) y z h =
    ([], ap (λ (x : Locked). past_of x.session.work) h.1, refl)
stopping_extends why other y z h = first_extends (fault_for why) y z h.1

pub same_stopped : (why e : Error) (m n : Token) → StopsByError why e m n → SameSent m n
same_stopped why e m n h = same_if m n h (stopping_extends why e h.before h.after h.did)

pub same_noted : (frames : ℕ) (m n : Token) → HoldsOnce (λ y z more. (more ≡ []) × NotesWritten frames y z) m n
    → SameSent m n
same_noted frames m n h = same_past m n h (ap (λ (x : Locked). past_of x.session.work) h.did.1)

same_groups : (first : Noting) (between : List Noting) (last : Noting) → IsChainOf NotesGroup first between last
    → SameSent first.1 last.1
same_groups first [] last is = subst (λ (x : Noting). SameSent first.1 x.1) (sym is) (same_self first.1)
same_groups first (x ∷ earlier) last led =
    same_on first.1 x.1 last.1 (same_groups first earlier x led.1) (same_noted led.0.0 x.1 last.1 led.0.2)

looked_past : {A : Type 0} (Looks : Locked → Locked → Result A Error → Type 0)
    → ((y z : Locked) (r : Result A Error) → Looks y z r → past_of z.session.work ≡ past_of y.session.work)
    → (e : Error) (y z : Locked) → Looks y z (Err e) ⊎ ((e ≡ error.OutOfMemory) × ((a : A) × Looks y z (Ok a)))
    → past_of z.session.work ≡ past_of y.session.work
looked_past Looks same e y z (inl l) = same y z (Err e) l
looked_past Looks same e y z (inr l) = same y z (Ok l.1.0) l.1.1

-- a look that changes nothing
pub same_looked : {A : Type 0} (Looks : Locked → Locked → Result A Error → Type 0)
    → ((y z : Locked) (r : Result A Error) → Looks y z r → past_of z.session.work ≡ past_of y.session.work)
    → (r : Result A Error) (m n : Token) → InOneHold Looks r m n → SameSent m n
same_looked Looks same (Ok a) m n h = same_past m n h (same h.before h.after (Ok a) h.did.0)
same_looked Looks same (Err e) m n h = same_past m n h (looked_past Looks same e h.before h.after h.did)

stage_same : (y z : Locked) (r : Result ℕ Error) → TellsStage y z r → past_of z.session.work ≡ past_of y.session.work
stage_same y z (Ok stage) h = ap (λ (x : Locked). past_of x.session.work) h.0
stage_same y z (Err e) h = ap (λ (x : Locked). past_of x.session.work) h.0

-- ---- the bytes that were written

less_front : (bytes : List ℕ) (x y : List Piece) → SentLess bytes x y → SentFront bytes x y
less_front bytes x y s = (s.0, s.1, s.2, s.4)

all_front : (bytes : List ℕ) (x y : List Piece) → SentAll bytes x y → SentFront bytes x y
all_front bytes x y s = (bytes, [], sym (append-nil bytes), s)

-- all of the first bytes, and then those of the others that were written
sent_then : {T : Type 0} (r : Result T Error) (p q : List ℕ) (a b c : List Piece) → SentAll p a b → SentUnless r q b c
    → SentUnless r (p ++ q) a c
sent_then (Ok x) p q a b c s t = sent_both a b c p q s t
sent_then (Err e) p q a b c s t =
    (p ++ t.0, t.1, ap (λ (l : List ℕ). p ++ l) t.2 ∙ sym (append_assoc p t.0 t.1), sent_both a b c p t.0 s t.3)

-- ---- one hold that hands out

-- it made a Send of exactly these bytes
handed : {Did : Locked → Locked → List Entry → Type 0} (bytes : List ℕ) (m n : Token) (h : HoldsOnce Did m n)
    (hello : Reply) → SeesVersion hello (sight_by m)
    → HandsOutIn h.before.session.phase h.before.session h.after.session (Some bytes)
    → sent_by (number_of n) (sight_by n).log ≡ sent_by (number_of m) (sight_by m).log ++ bytes
handed bytes m n h hello sees hands =
    let s = hands_send h.before.session.phase h.before.session h.after.session bytes hello
    (version_before shown_of m n h hello sees) hands in
    let is : h.more ≡ entry.Event Send ∷ [] =
    append_cancel_right h.more (entry.Event Send ∷ []) (past_of h.before.session.work) (sym h.past ∙ s.past) in
    hold_sent shown_of m n h is ∙ ap (λ (l : List ℕ). sent_by (number_of m) (sight_by m).log ++ l) (sym s.bytes_are)

module _ {Service : Type 0} where
  wrote_none : (m : Token) (v : LinkView Service) → WroteSends {T = Unit {0}} (Ok tt) m m v v
  wrote_none m v = record {
    bytes = [];
    made = sym (append-nil (sent_by (number_of m) (sight_by m).log));
    shown = told_self (SentAll []) v.log (λ x. sent_nothing x);
  }

  -- the seat continued without sending
  wrote_same : {T : Type 0} (r : Result T Error) (m k n : Token) (v w : LinkView Service) → WroteSends r m k v w
      → SameSent k n → WroteSends r m n v w
  wrote_same r m k n v w p s = record { bytes = p.bytes; made = s.sent ∙ p.made; shown = p.shown }

  -- nor was anything sent
  wrote_still : {T : Type 0} (e : Error) (m n : Token) (v w : LinkView Service) → SameSent m n → w ≡ v
      → WroteSends {T = T} (Err e) m n v w
  wrote_still e m n v w s is = record {
    bytes = [];
    made = s.sent ∙ sym (append-nil (sent_by (number_of m) (sight_by m).log));
    shown = subst (λ (x : LinkView Service). IfLogged (SentFront []) v.log x.log) (sym is)
        (told_self (SentFront []) v.log (λ x. all_front [] x x (sent_nothing x)));
  }

  wrote_idle : {T : Type 0} (t : T) (m n : Token) (v w : LinkView Service) → SameSent m n → w ≡ v
      → WroteSends (Ok t) m n v w
  wrote_idle t m n v w s is = record {
    bytes = [];
    made = s.sent ∙ sym (append-nil (sent_by (number_of m) (sight_by m).log));
    shown = subst (λ (x : LinkView Service). IfLogged (SentAll []) v.log x.log) (sym is)
        (told_self (SentAll []) v.log (λ x. sent_nothing x));
  }

  wrote_ok : {T U : Type 0} (t : T) (u : U) (m n : Token) (v w : LinkView Service) → WroteSends (Ok t) m n v w
      → WroteSends (Ok u) m n v w
  wrote_ok t u m n v w p = record { bytes = p.bytes; made = p.made; shown = p.shown }

  wrote_err : {T U : Type 0} (e f : Error) (m n : Token) (v w : LinkView Service) → WroteSends {T = T} (Err e) m n v w
      → WroteSends {T = U} (Err f) m n v w
  wrote_err e f m n v w p = record { bytes = p.bytes; made = p.made; shown = p.shown }

  -- all that was made was sent, and then an error came
  wrote_part : {T U : Type 0} (t : T) (e : Error) (m n : Token) (v w : LinkView Service) → WroteSends (Ok t) m n v w
      → WroteSends {T = U} (Err e) m n v w
  wrote_part t e m n v w p = record {
    bytes = p.bytes;
    made = p.made;
    shown = told_as (SentAll p.bytes) (SentFront p.bytes) v.log w.log p.shown (λ x y s. all_front p.bytes x y s);
  }

  wrote_on : {T U : Type 0} (t : T) (r : Result U Error) (m k n : Token) (v w x : LinkView Service)
      → WroteSends (Ok t) m k v w
      → WroteSends r k n w x → WroteSends r m n v x
  wrote_on t r m k n v w x p q = record {
    bytes = p.bytes ++ q.bytes;
    made = q.made ∙ ap (λ (l : List ℕ). l ++ q.bytes) p.made ∙ append_assoc (sent_by (number_of m) (sight_by m).log)
        p.bytes q.bytes;
    shown = told_on (SentAll p.bytes) (SentUnless r q.bytes) (SentUnless r (p.bytes ++ q.bytes)) v.log w.log x.log
        p.shown q.shown
        (λ a b c s t. sent_then r p.bytes q.bytes a b c s t);
  }

  -- ---- rounds

  -- the state of a seat that had seen VERSION, after a round
  abbrev Wrote : {T : Type 0} → Reply → Result T Error → Token → Token → LinkView Service → LinkView Service → Type 0
  Wrote hello r m n v w = WroteSends r m n v w × SeesVersion hello (sight_by n)

  flushed_wrote : {T : Type 0} (t : T) (hello : Reply) (m n : Token) (v w : LinkView Service)
      → SeesVersion hello (sight_by m) → FlushesOnce m n v w → Wrote hello (Ok t) m n v w
  flushed_wrote t hello m n v w sees f =
      let notes = same_groups (0, f.mid) f.notes.notes.0 (f.frames, n) f.notes.notes.1 in (
        wrote_same (Ok t) m f.mid n v w
            (record {
              bytes = f.bytes;
              made = handed f.bytes m f.mid f.hands hello sees f.hands.did.0;
              shown =
                  f.sent.log;
            }) notes,
        notes.version hello (version_after shown_of m f.mid f.hands hello sees),
      )

  unsent_wrote : {T : Type 0} (e : Error) (hello : Reply) (m n : Token) (v w : LinkView Service)
      → SeesVersion hello (sight_by m) → StopsUnsent e m n v w → Wrote {T = T} hello (Err e) m n v w
  unsent_wrote e hello m n v w sees u =
      let groups = same_groups (0, u.mid) u.notes.notes.0 (u.noted, u.at) u.notes.notes.1 in
      let stops = same_on u.mid u.at n groups (same_stopped u.why e u.at n u.stops) in (
        wrote_same (Err e) m u.mid n v w
            (record {
              bytes = u.bytes;
              made = handed u.bytes m u.mid u.hands hello sees u.hands.did.0;
              shown = told_as (SentLess u.bytes) (SentFront u.bytes) v.log w.log u.sent.log.1
                  (λ x y s. less_front u.bytes x y s);
            })
            stops,
        stops.version hello (version_after shown_of m u.mid u.hands hello sees),
      )

  same_none : (m n : Token) (v w : LinkView Service) → FlushesRound false m n v w → SameSent m n
  same_none m n v w h = same_past m n h.0 (hands_none h.0.before.session.phase h.0.before.session h.0.after.session
      h.0.did.0)

  round_wrote : {T : Type 0} (t : T) (did : Bool) (hello : Reply) (m n : Token) (v w : LinkView Service)
      → SeesVersion hello (sight_by m)
      → FlushesRound did m n v w → Wrote hello (Ok t) m n v w
  round_wrote t true hello m n v w sees h = flushed_wrote t hello m n v w sees h
  round_wrote t false hello m n v w sees h =
      let same = same_none m n v w h in (wrote_idle t m n v w same h.1, same.version hello sees)

  stops_wrote : {T : Type 0} (e : Error) (hello : Reply) (m n : Token) (v w : LinkView Service)
      → SeesVersion hello (sight_by m)
      → FlushStops e m n v w → Wrote {T = T} hello (Err e) m n v w
  stops_wrote e hello m n v w sees (inl r) =
      let same = same_refused e m n r.0 in (wrote_still e m n v w same r.1, same.version hello sees)
  stops_wrote e hello m n v w sees (inr (inl u)) = unsent_wrote e hello m n v w sees u
  stops_wrote e hello m n v w sees (inr (inr did)) =
      let p = round_wrote {T = Unit {0}} tt did.1.0 hello m n v w sees did.1.1 in
      (wrote_part {T = Unit {0}} tt e m n v w p.0, p.1)

  -- ---- shifts

  none_same : {r : Result ℕ Error} (a b : WorkerState Service) → SentNone r a b → SameSent a.0 b.0
  none_same {r = r} a b s =
      same_on a.0 s.mid b.0 (same_none a.0 s.mid a.1 b.1 s.none) (same_looked TellsStage stage_same r s.mid b.0 s.looks)

  shift_wrote : (r : Result Shift Error) (hello : Reply) (a b : WorkerState Service) → SeesVersion hello (sight_by a.0)
      → FlushShift r a b
      → Wrote hello r a.0 b.0 a.1 b.1
  shift_wrote (Ok shift) hello a b sees (inl h) = flushed_wrote shift hello a.0 b.0 a.1 b.1 sees h.1
  shift_wrote (Ok shift) hello a b sees (inr h) =
      let same = none_same a b h.1.1 in (wrote_idle shift a.0 b.0 a.1 b.1 same h.1.1.none.1, same.version hello sees)
  shift_wrote (Err e) hello a b sees (inl h) = stops_wrote e hello a.0 b.0 a.1 b.1 sees h
  shift_wrote (Err e) hello a b sees (inr h) =
      let same = none_same a b h in (wrote_still e a.0 b.0 a.1 b.1 same h.none.1, same.version hello sees)

  -- ---- all of them

  led_wrote : (hello : Reply) (first : WorkerState Service) (between : List (WorkerState Service))
      (last : WorkerState Service) → SeesVersion hello (sight_by first.0)
      → IsChainOf (NotLast is_over FlushShift) first between last
      → Wrote {T = Unit {0}} hello (Ok tt) first.0 last.0 first.1 last.1
  led_wrote hello first [] last sees led =
      subst (λ (x : WorkerState Service). Wrote {T = Unit {0}} hello (Ok tt) first.0 x.0 first.1 x.1) (sym led)
      (wrote_none first.0 first.1, sees)
  led_wrote hello first (x ∷ earlier) last sees led =
      let p = led_wrote hello first earlier x sees led.1 in
      let s = shift_wrote (Ok led.0.0) hello x last p.1 led.0.1.1 in (
        wrote_on {T = Unit {0}} {U = Unit {0}} tt (Ok tt) first.0 x.0 last.0 first.1 x.1 last.1 p.0
            (wrote_ok {U = Unit {0}} led.0.0 tt x.0 last.0 x.1 last.1 s.0),
        s.1,
      )

  -- The worker that sends wrote the bytes of the Sends that it made.
  pub flush_wrote : (r : Result (Unit {0}) Error) (hello : Reply) (a b : WorkerState Service)
      → SeesVersion hello (sight_by a.0) → FlushWorks r a b
      → WroteSends r a.0 b.0 a.1 b.1
  flush_wrote (Ok u) hello a b sees works =
      let mid = works.0 in
      let p = led_wrote hello a works.1.0.0 mid sees works.1.0.1 in
      let s = shift_wrote (Ok Over) hello mid b p.1 works.1.1 in
      wrote_on {T = Unit {0}} tt (Ok u) a.0 mid.0 b.0 a.1 mid.1 b.1 p.0 (wrote_ok Over u mid.0 b.0 mid.1 b.1 s.0)
  flush_wrote (Err e) hello a b sees works =
      let mid = works.0 in
      let p = led_wrote hello a works.1.0.0 mid sees works.1.0.1 in
      let s = shift_wrote (Err e) hello mid b p.1 works.1.1 in
      wrote_on {T = Unit {0}} {U = Unit {0}} tt (Err e) a.0 mid.0 b.0 a.1 mid.1 b.1 p.0
      (wrote_err {U = Unit {0}} e e mid.0 b.0 mid.1 b.1 s.0)
