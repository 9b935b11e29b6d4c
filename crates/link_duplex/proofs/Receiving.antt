-- The effect of a recv of the link, from the effects of its parts.
use Rattle.std.proofs.Common.{◌≡◌, ◌==◌, ◌<◌, ◌+◌, ◌-◌, ℕ, zero, suc, Bool, false, List, [], ◌++◌, take, length, Option, Some, None, refl, ap, sym, ◌∙◌, subst, arith}
use Rattle.std.specs.Prelude.{Ok, Err, Result}
use Rattle.std.proofs.lemmas.List.{append-nil}
use Rattle.std.proofs.Math.Dec.{eqb-suc-zero}
use Rattle.sftp_link.specs.Causes.{CountsDeviceFault}
use Rattle.sftp_link.specs.Moves.{HasReceived}
use Rattle.sftp_link.specs.Told.{IsEnd, LogsNothing, IfLogged}
use Rattle.sftp_link.specs.declared.device_error.DeviceError.{DeviceError}
use Rattle.sftp_link.proofs.Telling.{told_as, told_self}
use Rattle.link_duplex.specs.WireSteps.{WireStep, LogsSteps, Got}
use Rattle.link_duplex.specs.Duplex.{DuplexLinkState, MovesBytes, ReadsNow, RecvDid, TakesTurn, IsNeededReadiness, duplex_view, bytes_given}
use Rattle.link_duplex.specs.Buffers.{GivesPrefix, PutsAtOnce, ReadsAhead}
use Rattle.link_duplex.specs.Wires.{HasGivenUp, HasGot, HasWaited, LogsStep, WireView}
use Rattle.link_duplex.specs.declared.read_ahead.GetOutcome.{GetOutcome}
use Rattle.link_duplex.specs.declared.read_ahead.GetOutcome.TheVariants as outcome
use Rattle.link_duplex.specs.declared.wire.Readiness.{Readiness}
use Rattle.link_duplex.proofs.Stepping.{acted_got, acted_none}
use Rattle.link_duplex.proofs.Putting.{cause_as, cause_at}
use Rattle.link_duplex.proofs.Calling.{moved_none, moved_on, moved_now, moved_waits}

-- ---- Recvs

-- Bytes that were ahead were returned.
pub gives_ahead : {W : Type 0} (state : W → WireView) (room : List ℕ) (old new : DuplexLinkState W) (n : ℕ)
    → 0 < length room → 0 < length old.ahead
    → GivesPrefix old.ahead new.ahead room n → new ≡ record old { ahead = new.ahead; ended = false }
    → HasReceived (Unit {0}) room (duplex_view state old) (duplex_view state new) (Ok n)
    × RecvDid state room old new (Ok n)
gives_ahead state room old new zero some any gives is = absurd (omega (arith, gives.0))
gives_ahead {W = W} state room old new (suc n) some any gives is = (
  record {
    within = omega (arith, gives.0);
    log = tt;
    end = ap (λ b. b.ended) is;
    cause = ap (λ b. (state b.wire).faults) is;
    same = refl;
  },
  record {
    put = [];
    got = [];
    out = append-nil old.behind ∙ sym (ap (λ b. b.behind) is);
    come = append-nil old.ahead ∙ gives.1;
    log = told_as LogsNothing (LogsSteps old.limit (length old.ahead) (length (old.behind ++ [])) [] [])
        (state old.wire).log (state new.wire).log
        (subst (λ (w : W). IfLogged LogsNothing (state old.wire).log (state w).log) (sym (ap (λ b. b.wire) is))
        (told_self LogsNothing (state old.wire).log (λ l. refl)))
        (λ r s e. subst (λ (w : List WireStep). LogsSteps old.limit (length old.ahead) (length (old.behind ++ [])) [] []
        r w) (sym e)
        (acted_none old.limit (length old.ahead) (length (old.behind ++ [])) r));
    limit = ap (λ b. b.limit) is;
  },
)

-- Bytes came, and the first of them were returned.
moved_came : {W : Type 0} (state : W → WireView) (given came : List ℕ) (old new : DuplexLinkState W) → old.ahead ≡ []
    → came ≡ given ++ new.ahead
    → IfLogged (LogsStep (Got came)) (state old.wire).log (state new.wire).log → new.behind ≡ old.behind → new.limit
    ≡ old.limit
    → MovesBytes state [] given old new
moved_came state given came old new none is log behind limit = record {
  put = [];
  got = came;
  out = append-nil old.behind ∙ sym behind;
  come = ap (λ (w : List ℕ). w ++ came) none ∙ is;
  log = told_as (LogsStep (Got came)) (LogsSteps old.limit (length old.ahead) (length (old.behind ++ [])) [] came)
      (state old.wire).log (state new.wire).log log
      (λ r s e. acted_got old.limit (length old.ahead) (length (old.behind ++ [])) [] [] came r r s
      (acted_none old.limit (length old.ahead) (length (old.behind ++ [])) r) e);
  limit = limit;
}

-- Into the room of the caller.
pub reads_directly : {W : Type 0} (state : W → WireView) (room : List ℕ) (old new : DuplexLinkState W)
    (result : Result (Option ℕ) DeviceError)
    → old.ahead ≡ [] → new ≡ record old { wire = new.wire } → HasGot room (state old.wire) (state new.wire) result
    → ReadsNow state room old new result
reads_directly state room old new (Ok (Some n)) none is got = record {
  within = got.within;
  moved = moved_came state (take n room) (take n room) old new none
      (sym (ap (λ (w : List ℕ). take n room ++ w) (ap (λ b. b.ahead) is ∙ none) ∙ append-nil (take n room))) got.log
      (ap (λ b. b.behind) is) (ap (λ b. b.limit) is);
  none = tt;
  stops = tt;
  cause = got.cause;
  behind = ap (λ b. b.behind) is;
  ended = ap (λ b. b.ended) is;
}
reads_directly state room old new (Ok None) none is got = record {
  within = tt;
  moved = moved_none state old new got.log (ap (λ b. b.ahead) is) (ap (λ b. b.behind) is) (ap (λ b. b.limit) is);
  none = ap (λ b. b.ahead) is ∙ none;
  stops = tt;
  cause = got.cause;
  behind = ap (λ b. b.behind) is;
  ended = ap (λ b. b.ended) is;
}
reads_directly state room old new (Err e) none is got = record {
  within = tt;
  moved = moved_none state old new got.log (ap (λ b. b.ahead) is) (ap (λ b. b.behind) is) (ap (λ b. b.limit) is);
  none = tt;
  stops = ap (λ b. b.ahead) is ∙ none;
  cause = got.cause;
  behind = ap (λ b. b.behind) is;
  ended = ap (λ b. b.ended) is;
}

-- Into the room of the bytes ahead.
pub reads_through : {W : Type 0} (state : W → WireView) (room mid : List ℕ) (old new : DuplexLinkState W) (n : ℕ)
    → old.ahead ≡ []
    → ReadsAhead old.limit old.ahead mid (state old.wire) (state new.wire) (Ok outcome.Came)
    → GivesPrefix mid new.ahead room n
    → new ≡ record old { wire = new.wire; ahead = new.ahead } → ReadsNow state room old new (Ok (Some n))
reads_through state room mid old new n none t gives is =
    let all : t.takes.0 ≡ mid = sym (t.takes.1 ∙ ap (λ (w : List ℕ). w ++ t.takes.0) none) in
    record {
      within = omega (arith, gives.0);
      moved = moved_came state (take n room) t.takes.0 old new none (all ∙ gives.1) t.takes.3 (ap (λ b. b.behind) is)
          (ap (λ b. b.limit) is);
      none = tt;
      stops = tt;
      cause = t.cause;
      behind = ap (λ b. b.behind) is;
      ended = ap (λ b. b.ended) is;
    }

pub reads_end : {W : Type 0} (state : W → WireView) (room : List ℕ) (old new : DuplexLinkState W) → old.ahead ≡ []
    → ReadsAhead old.limit old.ahead new.ahead (state old.wire) (state new.wire) (Ok outcome.End)
    → new ≡ record old { wire = new.wire; ahead = new.ahead } → ReadsNow state room old new (Ok (Some 0))
reads_end state room old new none t is = record {
  within = omega arith;
  moved = moved_came state [] [] old new none (sym (t.takes.0 ∙ none)) t.takes.1 (ap (λ b. b.behind) is)
      (ap (λ b. b.limit) is);
  none = tt;
  stops = tt;
  cause = t.cause;
  behind = ap (λ b. b.behind) is;
  ended = ap (λ b. b.ended) is;
}

pub reads_nothing : {W : Type 0} (state : W → WireView) (room : List ℕ) (old new : DuplexLinkState W) → old.ahead ≡ []
    → ReadsAhead old.limit old.ahead new.ahead (state old.wire) (state new.wire) (Ok outcome.Nothing)
    → new ≡ record old { wire = new.wire; ahead = new.ahead } → ReadsNow state room old new (Ok None)
reads_nothing state room old new none t is = record {
  within = tt;
  moved = moved_none state old new t.takes.1 t.takes.0 (ap (λ b. b.behind) is) (ap (λ b. b.limit) is);
  none = t.takes.0 ∙ none;
  stops = tt;
  cause = t.cause;
  behind = ap (λ b. b.behind) is;
  ended = ap (λ b. b.ended) is;
}

pub reads_failed : {W : Type 0} (state : W → WireView) (room : List ℕ) (old new : DuplexLinkState W) (e : DeviceError)
    → old.ahead ≡ []
    → ReadsAhead old.limit old.ahead new.ahead (state old.wire) (state new.wire) (Err e)
    → new ≡ record old { wire = new.wire; ahead = new.ahead } → ReadsNow state room old new (Err e)
reads_failed state room old new e none t is = record {
  within = tt;
  moved = moved_none state old new t.takes.1 t.takes.0 (ap (λ b. b.behind) is) (ap (λ b. b.limit) is);
  none = tt;
  stops = t.takes.0 ∙ none;
  cause = cause_as GetOutcome (Option ℕ) (state old.wire).faults (state new.wire).faults e t.cause;
  behind = ap (λ b. b.behind) is;
  ended = ap (λ b. b.ended) is;
}

-- ---- Turns of a recv

pub turns_reads : {W : Type 0} (state : W → WireView) (room : List ℕ) (old mid new : DuplexLinkState W)
    (result : Result (Option ℕ) DeviceError)
    → PutsAtOnce old.behind mid.behind (state old.wire) (state mid.wire) (Ok tt) → mid
    ≡ record old { wire = mid.wire; behind = mid.behind }
    → ReadsNow state room mid new result → TakesTurn state room old new result
turns_reads state room old mid new result put is reads = record {
  within = reads.within;
  moved = moved_on state (bytes_given room result) old mid new
      (moved_now state old mid (Ok tt) put (ap (λ b. b.ahead) is) (ap (λ b. b.limit) is)) reads.moved;
  none = reads.none;
  stops = reads.stops;
  cause = cause_at {U = Option ℕ} (state old.wire).faults (state mid.wire).faults (state new.wire).faults result
      put.cause reads.cause;
  ended = reads.ended ∙ ap (λ b. b.ended) is;
}

pub turns_fails : {W : Type 0} (state : W → WireView) (room : List ℕ) (old new : DuplexLinkState W) (e : DeviceError)
    → old.ahead ≡ []
    → PutsAtOnce old.behind new.behind (state old.wire) (state new.wire) (Err e) → new
    ≡ record old { wire = new.wire; behind = new.behind }
    → TakesTurn state room old new (Err e)
turns_fails state room old new e none put is = record {
  within = tt;
  moved = moved_now state old new (Err e) put (ap (λ b. b.ahead) is) (ap (λ b. b.limit) is);
  none = tt;
  stops = ap (λ b. b.ahead) is ∙ none;
  cause = cause_as (Unit {0}) (Option ℕ) (state old.wire).faults (state new.wire).faults e put.cause;
  ended = ap (λ b. b.ended) is;
}

-- No bytes had come, and the wire was waited for.
pub turns_waits : {W : Type 0} (state : W → WireView) (room : List ℕ) (old mid new : DuplexLinkState W)
    (readiness : Readiness) → TakesTurn state room old mid (Ok None)
    → IsNeededReadiness readiness mid.behind → HasWaited readiness (state mid.wire) (state new.wire) (Ok tt) → new
    ≡ record mid { wire = new.wire }
    → TakesTurn state room old new (Ok None)
turns_waits state room old mid new readiness turn watches waited is = record {
  within = tt;
  moved = moved_on state [] old mid new turn.moved
      (moved_waits state mid new readiness waited.log watches (ap (λ b. b.ahead) is) (ap (λ b. b.behind) is)
      (ap (λ b. b.limit) is));
  none = ap (λ b. b.ahead) is ∙ turn.none;
  stops = tt;
  cause = waited.cause ∙ turn.cause;
  ended = ap (λ b. b.ended) is ∙ turn.ended;
}

pub turns_tired : {W : Type 0} (state : W → WireView) (room : List ℕ) (old mid new : DuplexLinkState W)
    (readiness : Readiness) (e : DeviceError)
    → TakesTurn state room old mid (Ok None) → IsNeededReadiness readiness mid.behind
    → HasWaited readiness (state mid.wire) (state new.wire) (Err e)
    → new ≡ record mid { wire = new.wire } → TakesTurn state room old new (Err e)
turns_tired state room old mid new readiness e turn watches waited is = record {
  within = tt;
  moved = moved_on state [] old mid new turn.moved
      (moved_waits state mid new readiness waited.log watches (ap (λ b. b.ahead) is) (ap (λ b. b.behind) is)
      (ap (λ b. b.limit) is));
  none = tt;
  stops = ap (λ b. b.ahead) is ∙ turn.none;
  cause = cause_at {U = Option ℕ} (state old.wire).faults (state mid.wire).faults (state new.wire).faults (Err e)
      turn.cause
      (cause_as (Unit {0}) (Option ℕ) (state mid.wire).faults (state new.wire).faults e waited.cause);
  ended = ap (λ b. b.ended) is ∙ turn.ended;
}

-- Turns that returned nothing.
pub record Turned {W : Type 0} (state : W → WireView) (old new : DuplexLinkState W) : Type 0 where
  pub moved : MovesBytes state [] [] old new
  pub ahead : new.ahead ≡ []
  pub ended : new.ended ≡ false
  pub faults : (state new.wire).faults ≡ (state old.wire).faults

pub turned_none : {W : Type 0} (state : W → WireView) (old new : DuplexLinkState W) → old.ahead ≡ [] → new
    ≡ record old { ended = false }
    → Turned state old new
turned_none {W = W} state old new none is =
    subst (λ (now : DuplexLinkState W). Turned state old now) (sym is) record {
      moved = moved_none state old (record old { ended = false })
          (told_self LogsNothing (state old.wire).log (λ l. refl)) refl refl refl;
      ahead = none;
      ended = refl;
      faults = refl;
    }

pub turned_on : {W : Type 0} (state : W → WireView) (room : List ℕ) (a b c : DuplexLinkState W) → Turned state a b
    → TakesTurn state room b c (Ok None)
    → Turned state a c
turned_on state room a b c so turn = record {
  moved = moved_on state [] a b c so.moved turn.moved;
  ahead = turn.none;
  ended = turn.ended ∙ so.ended;
  faults = turn.cause ∙ so.faults;
}

at_end : (n : ℕ) (ended : Bool) → ended ≡ (n == 0) → IsEnd ended (Ok n)
at_end zero ended e = e
at_end (suc n) ended e = e ∙ eqb-suc-zero n

pub recv_gives : {W : Type 0} (state : W → WireView) (room : List ℕ) (a b c d : DuplexLinkState W) (n : ℕ)
    → Turned state a b
    → TakesTurn state room b c (Ok (Some n)) → d ≡ record c { ended = n == 0 }
    → HasReceived (Unit {0}) room (duplex_view state a) (duplex_view state d) (Ok n) × RecvDid state room a d (Ok n)
recv_gives {W = W} state room a b c d n so turn is =
    let moved : MovesBytes state [] (take n room) a c = moved_on state (take n room) a b c so.moved turn.moved in (
      record {
        within = turn.within;
        log = tt;
        end = at_end n d.ended (ap (λ b. b.ended) is);
        cause = ap (λ b. (state b.wire).faults) is ∙ (turn.cause ∙ so.faults);
        same = refl;
      },
      subst (λ (now : DuplexLinkState W). MovesBytes state [] (take n room) a now) (sym is)
          record {
            put = moved.put;
            got = moved.got;
            out = moved.out;
            come = moved.come;
            log = moved.log;
            limit =
                moved.limit;
          },
    )

pub recv_stops : {W : Type 0} (state : W → WireView) (room : List ℕ) (a b c : DuplexLinkState W) (e : DeviceError)
    → Turned state a b
    → TakesTurn state room b c (Err e)
    → HasReceived (Unit {0}) room (duplex_view state a) (duplex_view state c) (Err e) × RecvDid state room a c (Err e)
recv_stops state room a b c e so turn = (
  record {
    within = tt;
    log = tt;
    end = turn.ended ∙ so.ended;
    cause = cause_at {U = ℕ} (state a.wire).faults (state b.wire).faults (state c.wire).faults (Err e) so.faults
        (cause_as (Option ℕ) ℕ (state b.wire).faults (state c.wire).faults e turn.cause);
    same = refl;
  },
  (moved_on state [] a b c so.moved turn.moved, turn.stops),
)

pub recv_given_up : {W : Type 0} (state : W → WireView) (room : List ℕ) (a b c : DuplexLinkState W) (e : DeviceError)
    → Turned state a b
    → HasGivenUp (state b.wire) (state c.wire) e → c ≡ record b { wire = c.wire }
    → HasReceived (Unit {0}) room (duplex_view state a) (duplex_view state c) (Err e) × RecvDid state room a c (Err e)
recv_given_up {W = W} state room a b c e so up is =
    let same : IfLogged LogsNothing (state b.wire).log (state c.wire).log =
    subst (λ (w : Option (List WireStep)). IfLogged LogsNothing (state b.wire).log w) (sym up.log)
    (told_self LogsNothing (state b.wire).log (λ l. refl)) in
    let still : MovesBytes state [] [] b c = moved_none state b c same (ap (λ b. b.ahead) is) (ap (λ b. b.behind) is)
    (ap (λ b. b.limit) is) in (
      record {
        within = tt;
        log = tt;
        end = ap (λ b. b.ended) is ∙ so.ended;
        cause = subst (λ (x : DeviceError). CountsDeviceFault {T = ℕ} (state a.wire).faults (state c.wire).faults
            (Err x)) (sym up.is)
            (subst (λ (k : ℕ). k < (state c.wire).faults) so.faults up.more);
        same = refl;
      },
      (moved_on state [] a b c so.moved still, ap (λ b. b.ahead) is ∙ so.ahead),
    )
