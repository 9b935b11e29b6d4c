-- A run is stopped by the session's first fault.
use Rattle.std.proofs.Common.{◌≡◌, ◌∙◌, ◌⊎◌, ⊎_elim, ℕ, List, ◌∷◌, ap, drop, refl, sym, subst, inl, inr, Err, Some, None}
use Rattle.std.specs.Prelude.{◌≢◌, Option, Result}
use Rattle.sftp_core.specs.Errors.{error_of}
use Rattle.session_model.specs.declared.entry.Entry.{Entry}
use Rattle.session_model.specs.declared.entry.Entry.TheVariants as entry
use Rattle.session_seats.specs.Holds.{sight_by}
use Rattle.session_seats.specs.Sights.{entries}
use Rattle.session_seats.proofs.HoldLaws.{hold_map}
use Rattle.session_seats.proofs.RepeatLaws.{sees_past}
use Rattle.session_work.specs.SoFar.{kept_in, refused_past}
use Rattle.session_work.specs.Working.{past_of}
use Rattle.sftp_core.specs.declared.errors.TakeError.{TakeError}
use Rattle.sftp_core.specs.declared.errors.TakeError.TheVariants as take
use Rattle.sftp_core.specs.Take.{fault_of}
use Rattle.sftp_lanes.specs.Seen.{SessionValue}
use Rattle.sftp_link.specs.Views.{LinkView}
use Rattle.sftp_model.specs.declared.error.Error.{Error}
use Rattle.sftp_model.specs.declared.error.Error.TheVariants as error
use Rattle.sftp_model.specs.declared.error.Fault.{Fault}
use Rattle.sftp_model.specs.declared.error.Fault.TheVariants as fault
use Rattle.sftp_model.specs.declared.frame_error.FrameError.{FrameError}
use Rattle.sftp_model.specs.declared.reply.Reply.{Reply}
use Rattle.sftp_model.specs.ReplyReadings.{reply_at}
use Rattle.sftp_tasks.specs.declared.locked.Locked.{Locked}
use Rattle.sftp_tasks.specs.Calls.{InOneHold}
use Rattle.sftp_tasks.specs.LockedEvents.{TellsStage}
use Rattle.sftp_tasks.specs.Opening.{GreetStops, HelloStops, IsUnasked, VersionStops}
use Rattle.sftp_tasks.specs.Rounds.{FlushStops, HoldsOnce, KeepsFirst, RefusesRound, StopsByError, Token, fault_for}
use Rattle.sftp_tasks.specs.SessionEvents.{HasNoFault, IsKept, IsRefusedBy, IsUnawaited, RefusesCall, TakeStops}
use Rattle.sftp_tasks.specs.Shows.{shown_of}
use Rattle.sftp_tasks.specs.Workers.{FlushShift, FlushWorks, WorkerState}
use Rattle.sftp_tasks.proofs.SentEvents.{whole_body}
use Rattle.session_threads.specs.Reports.{IsFirstFault}

-- a fault was recorded, and none was before
abbrev KeepsIts : Option Fault → SessionValue → SessionValue → Type 0
KeepsIts None old new = ⊥
KeepsIts (Some fault) old new = HasNoFault old × (past_of new.work ≡ entry.Kept fault ∷ past_of old.work)

-- ---- one hold

pub refuses_own : (e : Error) (old new : SessionValue) → fault_for e ≢ None → RefusesCall e old new → ⊥
refuses_own error.OutOfMemory old new own h = own refl
refuses_own (error.BackgroundTaskFailure fault) old new own h = own refl
refuses_own other old new own h = h

keeps_its : (f : Fault) (old new : SessionValue) → IsKept f old new → KeepsIts (Some f) old new
keeps_its f old new h = (h.first, h.past)

pub same_fault : (e : TakeError) → fault_for (error_of e) ≡ fault_of e
same_fault take.OutOfMemory = refl
same_fault (take.Format kind) = refl
same_fault (take.HandleTooLong len) = refl
same_fault (take.InvalidResponseId id) = refl
same_fault (take.InvalidResponse id) = refl
same_fault (take.LimitsRefused code message language) = refl
same_fault (take.Protocol version) = refl

refused_keeps : (o : Option Fault) (old new : SessionValue) → o ≢ None → HasNoFault old → past_of new.work
    ≡ refused_past o (past_of old.work)
    → KeepsIts o old new
refused_keeps None old new own first past = absurd (own refl)
refused_keeps (Some f) old new own first past = (first, past)

refused_its : (reads : Result (Option ℕ × Reply) FrameError) (e : Error) (old new : SessionValue) → fault_for e ≢ None
    → IsRefusedBy reads e old new
    → KeepsIts (fault_for e) old new
refused_its reads e old new own h =
    let same : fault_of h.error ≡ fault_for e = sym (same_fault h.error) ∙ ap fault_for (sym h.is) in
    subst (λ (o : Option Fault). KeepsIts o old new) same
    (refused_keeps (fault_of h.error) old new (λ none. own (sym same ∙ none)) h.unfailed h.kept.past)

either_its : (reads : Result (Option ℕ × Reply) FrameError) (e : Error) (old new : SessionValue) → fault_for e ≢ None
    → IsRefusedBy reads e old new ⊎ IsUnawaited e old new → KeepsIts (fault_for e) old new
either_its reads e old new own (inl h) = refused_its reads e old new own h
either_its reads e old new own (inr h) =
    subst (λ (x : Error). KeepsIts (fault_for x) old new) (sym h.is) (keeps_its (fault.Response None) old new h.kept)

pub take_its : (reads : Result (Option ℕ × Reply) FrameError) (e : Error) (old new : SessionValue) → fault_for e ≢ None
    → TakeStops reads e old new
    → KeepsIts (fault_for e) old new
take_its reads (error.BackgroundTaskFailure f) old new own h = absurd (own refl)
take_its reads error.OutOfMemory old new own h = absurd (own refl)
take_its reads other old new own h = either_its reads _ old new own h

version_its : (reads : Result (Option ℕ × Reply) FrameError) (e : Error) (old new : SessionValue) → fault_for e ≢ None
    → RefusesCall e old new ⊎ (TakeStops reads e old new ⊎ IsUnasked e old new) → KeepsIts (fault_for e) old new
version_its reads e old new own (inl h) = absurd (refuses_own e old new own h)
version_its reads e old new own (inr (inl h)) = take_its reads e old new own h
version_its reads e old new own (inr (inr h)) =
    subst (λ (x : Error). KeepsIts (fault_for x) old new) (sym h.is) (keeps_its (fault.Response None) old new h.kept)

-- In the last hold of a seat the session, which had recorded no fault, recorded the one of this error after this journal.
pub record KeepsOwn (e : Error) (n : Token) (past : List Entry) : Type 0 where
  pub m : Token
  pub fault : Fault
  pub is : fault_for e ≡ Some fault
  pub keeps : HoldsOnce (λ y z more. HasNoFault y.session × (past_of z.session.work ≡ entry.Kept fault ∷ past)) m n

pub own_first : (e : Error) (n : Token) (past : List Entry) → KeepsOwn e n past → IsFirstFault e
own_first e n past k = record {
  m = k.m;
  n = n;
  fault = k.fault;
  is = k.is;
  keeps = hold_map shown_of k.m n k.keeps (k.keeps.did.0, ap kept_in k.keeps.did.1);
}

-- the seat has seen it then
pub own_sees : (e : Error) (n : Token) (past : List Entry) → (k : KeepsOwn e n past)
    → entries (sight_by n).log ≡ entry.Kept k.fault ∷ past
own_sees e n past k = sees_past shown_of k.m n k.keeps ∙ k.keeps.did.1

-- a hold in which the session recorded the error's fault
pub held_own : (e : Error) (m n : Token) {Did : Locked → Locked → List Entry → Type 0} (h : HoldsOnce Did m n)
    → KeepsIts (fault_for e) h.before.session h.after.session → KeepsOwn e n (past_of h.before.session.work)
held_own e m n h keeps = by_fault (fault_for e) refl keeps
  where
    by_fault : (o : Option Fault) → fault_for e ≡ o → KeepsIts o h.before.session h.after.session
        → KeepsOwn e n (past_of h.before.session.work)
    by_fault None is k = absurd k
    by_fault (Some f) is k = record { m = m; fault = f; is = is; keeps = hold_map shown_of m n h k }

kept_option : (o : Option Fault) (y z : Locked) → KeepsFirst o y z → KeepsIts o y.session z.session
kept_option None y z k = k
kept_option (Some f) y z k = keeps_its f y.session z.session k

stopped_its : (e why : Error) (y z : Locked) → e ≡ why → KeepsFirst (fault_for why) y z
    → KeepsIts (fault_for e) y.session z.session
stopped_its e why y z is k =
    subst (λ (x : Error). KeepsIts (fault_for x) y.session z.session) (sym is) (kept_option (fault_for why) y z k)

pub stopped_own : (e why : Error) (m n : Token) → fault_for e ≢ None → (h : StopsByError why e m n)
    → KeepsOwn e n (past_of h.before.session.work) × (e ≡ why)
stopped_own error.OutOfMemory why m n own h = absurd (own refl)
stopped_own (error.BackgroundTaskFailure first) why m n own h = absurd (own refl)
stopped_own other why m n own h = (
  held_own _ m n h (stopped_its _ why h.before h.after h.did.0 h.did.1),
  h.did.0,
)

pub looked_none : {A : Type 0} (e : Error) (Looks : Locked → Locked → Result A Error → Type 0) (m n : Token)
    → fault_for e ≢ None
    → ((y z : Locked) → Looks y z (Err e) → ⊥) → InOneHold Looks (Err e) m n → ⊥
looked_none e Looks m n own refused h = ⊎_elim (refused h.before h.after) (λ x. own (ap fault_for x.0)) h.did

-- ---- rounds and workers

module _ {Service : Type 0} (e : Error) (own : fault_for e ≢ None) where
  pub refused_none : (m n : Token) (v w : LinkView Service) → RefusesRound e m n v w → ⊥
  refused_none m n v w r = refuses_own e r.0.before.session r.0.after.session own r.0.did

  flush_own : (m n : Token) (v w : LinkView Service) → FlushStops e m n v w → (past : List Entry) × KeepsOwn e n past
  flush_own m n v w (inl r) = absurd (refused_none m n v w r)
  flush_own m n v w (inr (inl u)) =
      (past_of u.stops.before.session.work, (stopped_own e u.why u.at n own u.stops).0)
  flush_own m n v w (inr (inr did)) = absurd (own (ap fault_for did.0))

  flush_shift_own : (a b : WorkerState Service) → FlushShift (Err e) a b → (past : List Entry) × KeepsOwn e b.0 past
  flush_shift_own a b (inl h) = flush_own a.0 b.0 a.1 b.1 h
  flush_shift_own a b (inr s) =
      absurd (looked_none e TellsStage s.mid b.0 own (λ y z h. refuses_own e y.session y.session own h.1) s.looks)

  -- the worker that sends recorded its error's fault in its last hold
  pub flush_works_own : (a b : WorkerState Service) → FlushWorks (Err e) a b → (past : List Entry) × KeepsOwn e b.0 past
  flush_works_own a b works = flush_shift_own works.0 b works.1.1

  hello_own : (m n : Token) (v w : LinkView Service) → HelloStops e m n v w → (past : List Entry) × KeepsOwn e n past
  hello_own m n v w (inl r) = absurd (refused_none m n v w r)
  hello_own m n v w (inr u) =
      (past_of u.stops.before.session.work, (stopped_own e u.why u.mid n own u.stops).0)

  version_own : (m n : Token) (v w : LinkView Service) → VersionStops e m n v w → (past : List Entry) × KeepsOwn e n past
  version_own m n v w (inl u) = (past_of u.stops.before.session.work, (stopped_own e u.why m n own u.stops).0)
  version_own m n v w (inr (inl r)) =
      let h = r.refuses in
      let body = drop 4 r.frame.bytes in (
        past_of h.before.session.work,
        held_own e m n h
            (version_its (reply_at body) e h.before.session h.after.session own
            (h.did body (whole_body r.frame r.whole)).1.0),
      )
  version_own m n v w (inr (inr did)) = absurd (own (ap fault_for did.0))

-- ---- the opening

-- the home seat recorded the error's fault in its last hold
pub greet_own : {A B : Type 0} (e : Error) (m n : Token) (out out' : LinkView A) (input input' : LinkView B)
    → fault_for e ≢ None
    → GreetStops e m n out out' input input' → (past : List Entry) × KeepsOwn e n past
greet_own e m n out out' input input' own (inl h) = hello_own e own m n out out' h.0
greet_own e m n out out' input input' own (inr h) = version_own e own h.0 n input input' h.1.1
