-- A session that may go on stays so over its calls.
use Rattle.std.proofs.Common.{◌≡◌, ◌<◌, ◌-◌, ◌^◌, inl, inr, ℕ, Bool, true, false, refl, sym, ap, ◌∙◌, subst, Option, Some, None, IsSome}
use Rattle.std.specs.Prelude.{Ok, Err}
use Rattle.sftp_model.specs.ReplyReadings.{reply_at}
use Rattle.sftp_model.specs.declared.error.Error.{Error}
use Rattle.sftp_model.specs.declared.error.Error.TheVariants as error
use Rattle.sftp_model.specs.declared.error.Fault.{Fault}
use Rattle.sftp_core.specs.declared.handshake.Handshake.{Handshake}
use Rattle.sftp_core.specs.Core.{Core, failed_with}
use Rattle.sftp_core.specs.Info.{info_of}
use Rattle.sftp_link.specs.Views.{LinkView}
use Rattle.link_frames.specs.Causes.{CountsLinkFault}
use Rattle.plan_state.specs.Keeping.{KeepsHeld}
use Rattle.plan_state.proofs.Keeping.{keeps_both, keeps_failed, keeps_handed_out, keeps_same, keeps_taken}
use Rattle.plan_state.proofs.OthersKept.{keeps_unchanged}
use Rattle.sftp_client.specs.Sessions.{FlushesQueue, IsKept, RefusesFrame, SendStops, SendsAll, SftpValue, TakesOrKept, TakesFrame, failed_by, fault_by, with_queue_handed_out, kept_after}
use Rattle.sftp_client.proofs.Lowering.{take_stays_open}
use Rattle.transfer_pool.specs.Sessions.{IsGoing, TookTurn}

-- what a call of a session leaves
pub record Left {L S : Type 0} (state : L → LinkView S) (old new : SftpValue L) : Type 0 where
  pub going : IsGoing state new
  pub keeps : KeepsHeld old.core new.core

abbrev Below : ℕ → Type 0
Below n = n < 2 ^ 64 - 1

-- ---- after an error

kept_keeps : (e : Error) (core : Core) → KeepsHeld core (kept_after e core)
kept_keeps e core = by_fault (fault_by e)
  where
    by_fault : (f : Option Fault) → KeepsHeld core (failed_by f core)
    by_fault None = keeps_same core
    by_fault (Some f) = keeps_failed core f

kept_phase : (e : Error) (core : Core) → (kept_after e core).phase ≡ core.phase
kept_phase e core = by_fault (fault_by e)
  where
    by_fault : (f : Option Fault) → (failed_by f core).phase ≡ core.phase
    by_fault None = refl
    by_fault (Some f) = refl

-- the link's faults grew only where a fault is kept
kept_alive : (e : Error) (core : Core) (before now : ℕ) → CountsLinkFault {T = Unit {0}} before now (Err e)
    → Below before → (kept_after e core).fault ≡ None → Below now
kept_alive error.LinkFault core before now cause below none = absurd cc
kept_alive error.LinkEnded core before now same below none = subst Below (sym same) below
kept_alive error.OutOfMemory core before now same below none = subst Below (sym same) below
kept_alive (error.UnsupportedSftpProtocol version) core before now same below none = subst Below (sym same) below
kept_alive (error.FormatError kind) core before now same below none = subst Below (sym same) below
kept_alive (error.HandleTooLong len) core before now same below none = subst Below (sym same) below
kept_alive (error.InvalidResponseId id) core before now same below none = subst Below (sym same) below
kept_alive (error.InvalidResponse id) core before now same below none = subst Below (sym same) below
kept_alive (error.SftpError code message language) core before now same below none = subst Below (sym same) below
kept_alive (error.UnsupportedExtension extensions) core before now same below none = subst Below (sym same) below
kept_alive (error.IOError kind) core before now same below none = subst Below (sym same) below
kept_alive (error.BackgroundTaskFailure fault) core before now same below none = subst Below (sym same) below

-- ---- what one call leaves

left_same : {L S : Type 0} (state : L → LinkView S) (s : SftpValue L) → IsGoing state s → Left state s s
left_same state s going = record { going = going; keeps = keeps_same s.core }

left_both : {L S : Type 0} (state : L → LinkView S) (a b c : SftpValue L) → Left state a b → Left state b c
    → Left state a c
left_both state a b c x y = record { going = y.going; keeps = keeps_both a.core b.core c.core x.keeps y.keeps }

left_handed : {L S : Type 0} (state : L → LinkView S) (s : SftpValue L) → IsGoing state s
    → Left state s (with_queue_handed_out s)
left_handed state s going = record {
  going = record { opened = going.opened; alive = going.alive };
  keeps =
      keeps_handed_out s.core;
}

left_sent : {L S : Type 0} (state : L → LinkView S) (old new : SftpValue L) → IsGoing state old → SendsAll state old new
    → Left state old new
left_sent state old new going sends =
    let core_is : new.core ≡ old.core = ap (λ (s : SftpValue _). s.core) sends.left in
    record {
      going = record {
        opened = subst (λ (c : Core). IsSome (info_of c.phase)) (sym core_is) going.opened;
        alive = λ none. subst Below (sym sends.unfaulted.cause) (going.alive
            (ap (λ (c : Core). c.fault) (sym core_is) ∙ none));
      };
      keeps = keeps_unchanged old.core new.core core_is;
    }

-- a core after an error, and a link that tells why
left_kept : {L S : Type 0} (state : L → LinkView S) (old new : SftpValue L) (e : Error) → IsGoing state old
    → old.core.fault ≡ None → new.core ≡ kept_after e old.core
    → CountsLinkFault {T = Unit {0}} (state old.link).faults (state new.link).faults (Err e) → Left state old new
left_kept state old new e going unfailed core_is cause = record {
  going = record {
    opened = subst (λ (c : Core). IsSome (info_of c.phase)) (sym core_is)
        (subst (λ (p : Handshake). IsSome (info_of p)) (sym (kept_phase e old.core)) going.opened);
    alive = λ none. kept_alive e old.core (state old.link).faults (state new.link).faults cause (going.alive unfailed)
        (ap (λ (c : Core). c.fault) (sym core_is) ∙ none);
  };
  keeps = subst (λ (c : Core). KeepsHeld old.core c) (sym core_is) (kept_keeps e old.core);
}

left_stopped : {L S : Type 0} (state : L → LinkView S) (old new : SftpValue L) (e : Error) → IsGoing state old
    → old.core.fault ≡ None → SendStops state old new e → Left state old new
left_stopped state old new e going unfailed stops = left_kept state old new e going unfailed
    (ap (λ (s : SftpValue _). s.core) stops.left) stops.caused.cause

-- ---- flush

pub flushed : {L S : Type 0} (state : L → LinkView S) (old new : SftpValue L) → IsGoing state old
    → FlushesQueue state old new (Ok tt) → Left state old new
flushed state old new going (unfailed, sends) = left_both state old (with_queue_handed_out old) new
    (left_handed state old going)
    (left_sent state (with_queue_handed_out old) new (left_handed state old going).going sends)

kept_same : {L S : Type 0} (state : L → LinkView S) (old new : SftpValue L) (e : Error) → IsGoing state old
    → IsKept old new e → Left state old new
kept_same state old new (error.BackgroundTaskFailure fault) going (kept, same) =
    subst (λ (s : SftpValue _). Left state old s) (sym same) (left_same state old going)
kept_same state old new error.OutOfMemory going never = absurd never
kept_same state old new other going never = absurd never

pub flush_stopped : {L S : Type 0} (state : L → LinkView S) (old new : SftpValue L) (e : Error) → IsGoing state old
    → FlushesQueue state old new (Err e) → Left state old new
flush_stopped state old new e going (inl kept) = kept_same state old new e going kept
flush_stopped state old new e going (inr (unfailed, inl stops)) = left_stopped state old new e going unfailed stops
flush_stopped state old new e going (inr (unfailed, inr (inr (memory, sends)))) = left_sent state old new going sends
flush_stopped state old new e going (inr (unfailed, inr (inl stops))) =
    (let h = left_handed state old going in left_both state old (with_queue_handed_out old) new h
    (left_stopped state (with_queue_handed_out old) new e h.going unfailed stops))

-- ---- take

left_taken : {L S : Type 0} (state : L → LinkView S) (old new : SftpValue L) → IsGoing state old → old.core.fault ≡ None
    → TakesFrame state old new → Left state old new
left_taken state old new going unfailed takes = record {
  going = record {
    opened = take_stays_open old.core new.core (reply_at takes.body) takes.told going.opened takes.taken;
    alive = λ none. subst Below (sym takes.unfaulted.cause) (going.alive unfailed);
  };
  keeps = keeps_taken old.core new.core (reply_at takes.body) takes.told going.opened takes.right takes.taken;
}

pub took : {L S : Type 0} (state : L → LinkView S) (old new : SftpValue L) (b : Bool) → IsGoing state old
    → TakesOrKept state old new (Ok b) → Left state old new
took state old new true going (unfailed, (due, takes)) = left_taken state old new going unfailed takes
took state old new false going (unfailed, takes) = left_sent state old new going takes.sends

left_refused : {L S : Type 0} (state : L → LinkView S) (old new : SftpValue L) (e : Error) → IsGoing state old
    → RefusesFrame state old new e → Left state old new
left_refused state old new e going refuses =
    let core_is : new.core ≡ failed_with old.core refuses.fault = ap (λ (s : SftpValue _). s.core) refuses.left in
    record {
      going = record {
        opened = subst (λ (c : Core). IsSome (info_of c.phase)) (sym core_is) going.opened;
        alive = λ none. (let never = ap (λ (c : Core). c.fault) (sym core_is) ∙ none in absurd cc);
      };
      keeps = subst (λ (c : Core). KeepsHeld old.core c) (sym core_is) (keeps_failed old.core refuses.fault);
    }

pub take_stopped : {L S : Type 0} (state : L → LinkView S) (old new : SftpValue L) (e : Error) → IsGoing state old
    → TakesOrKept state old new (Err e) → Left state old new
take_stopped state old new e going (inl kept) = kept_same state old new e going kept
take_stopped state old new e going (inr (unfailed, inl stops)) = left_stopped state old new e going unfailed stops
take_stopped state old new e going (inr (unfailed, inr (due, inl stops))) =
    left_kept state old new e going unfailed (ap (λ (s : SftpValue _). s.core) stops.left) stops.caused.cause
take_stopped state old new e going (inr (unfailed, inr (due, inr refuses))) = left_refused state old new e going refuses

-- ---- a turn

pub turn_ends : {L S E : Type 0} (state : L → LinkView S) (old mid new : SftpValue L) (b : Bool) → IsGoing state old
    → FlushesQueue state old mid (Ok tt) → TakesOrKept state mid new (Ok b)
    → TookTurn {E = E} state old new (Ok tt)
turn_ends state old mid new b going flushes takes =
    let first = flushed state old mid going flushes in
    let l = left_both state old mid new first (took state mid new b first.going takes) in
    record { going = l.going; keeps = l.keeps; turns = (mid, b, flushes, takes) }

pub turn_stops : {L S E : Type 0} (state : L → LinkView S) (old new : SftpValue L) (e : E) → Left state old new
    → TookTurn {E = E} state old new (Err e)
turn_stops state old new e l = record { going = l.going; keeps = l.keeps; turns = tt }

pub flush_stops_turn : {L S E : Type 0} (state : L → LinkView S) (old new : SftpValue L) (e : Error) (x : E)
    → IsGoing state old → FlushesQueue state old new (Err e) → TookTurn {E = E} state old new (Err x)
flush_stops_turn state old new e x going flushes = turn_stops state old new x
    (flush_stopped state old new e going flushes)

pub take_stops_turn : {L S E : Type 0} (state : L → LinkView S) (old mid new : SftpValue L) (e : Error) (x : E)
    → IsGoing state old → FlushesQueue state old mid (Ok tt) → TakesOrKept state mid new (Err e)
    → TookTurn {E = E} state old new (Err x)
take_stops_turn state old mid new e x going flushes takes =
    let first = flushed state old mid going flushes in
    turn_stops state old new x (left_both state old mid new first (take_stopped state mid new e first.going takes))
