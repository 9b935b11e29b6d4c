-- The effect of any call on the link, and of a send, from the effects of its parts.
use Rattle.std.proofs.Common.{◌≡◌, ◌<◌, ◌+◌, ◌-◌, ℕ, false, List, [], ◌∷◌, ◌++◌, take, length, refl, ap, sym, ◌∙◌, subst, append_assoc, arith, length-append}
use Rattle.std.specs.Prelude.{Ok, Err, Result}
use Rattle.std.proofs.lemmas.List.{append-nil, take_all}
use Rattle.sftp_link.specs.Moves.{HasSent}
use Rattle.sftp_link.specs.Told.{LogsNothing, IfLogged}
use Rattle.sftp_link.specs.declared.device_error.DeviceError.{DeviceError}
use Rattle.sftp_link.specs.declared.device_error.DeviceError.TheVariants.{OutOfMemory}
use Rattle.sftp_link.proofs.Telling.{told_as, told_on, told_self}
use Rattle.link_duplex.specs.WireSteps.{WireStep, LogsSteps, MayWaitFor, Waited}
use Rattle.link_duplex.specs.Duplex.{DuplexLinkState, FlushDid, MovesBytes, SendDid, IsNeededReadiness, duplex_view}
use Rattle.link_duplex.specs.Buffers.{PutsAll, PutsMeanwhile, PutsAtOnce, PutsSome}
use Rattle.link_duplex.specs.Wires.{LogsStep, WireView}
use Rattle.link_duplex.specs.declared.wire.Readiness.{Readiness}
use Rattle.link_duplex.specs.declared.wire.Readiness.TheVariants.{Readable, Writable, Either}
use Rattle.link_duplex.proofs.Stepping.{acted_none, acted_on}
use Rattle.link_duplex.proofs.Putting.{cause_as, cause_at, meanwhile_on}

-- ---- All calls

-- No bytes moved.
pub moved_none : {W : Type 0} (state : W → WireView) (old new : DuplexLinkState W)
    → IfLogged LogsNothing (state old.wire).log (state new.wire).log
    → new.ahead ≡ old.ahead → new.behind ≡ old.behind → new.limit ≡ old.limit → MovesBytes state [] [] old new
moved_none state old new same ahead behind limit = record {
  put = [];
  got = [];
  out = append-nil old.behind ∙ sym behind;
  come = append-nil old.ahead ∙ sym ahead;
  log = told_as LogsNothing (LogsSteps old.limit (length old.ahead) (length (old.behind ++ [])) [] [])
      (state old.wire).log (state new.wire).log same
      (λ r s e. subst (λ (w : List WireStep). LogsSteps old.limit (length old.ahead) (length (old.behind ++ [])) [] [] r
      w) (sym e)
      (acted_none old.limit (length old.ahead) (length (old.behind ++ [])) r));
  limit = limit;
}

-- Two calls, if nothing is ahead after the first.
pub moved_on : {W : Type 0} (state : W → WireView) (given : List ℕ) (a b c : DuplexLinkState W)
    → MovesBytes state [] [] a b → MovesBytes state [] given b c
    → MovesBytes state [] given a c
moved_on {W = W} state given a b c first later =
    let owed : length (a.behind ++ []) ≡ length first.put + length b.behind = ap (λ (w : List ℕ). length w) first.out
    ∙ length-append first.put b.behind in
    let left : length (b.behind ++ []) ≡ length (a.behind ++ []) - length first.put =
    omega (arith, owed, length-append b.behind []) in
    let more : length b.ahead ≡ length a.ahead + length first.got = ap (λ (w : List ℕ). length w) (sym first.come)
    ∙ length-append a.ahead first.got in
    let at_limit : IfLogged (LogsSteps a.limit (length b.ahead) (length (b.behind ++ [])) later.put later.got)
    (state b.wire).log (state c.wire).log =
    subst (λ (k : ℕ). IfLogged (LogsSteps k (length b.ahead) (length (b.behind ++ [])) later.put later.got)
    (state b.wire).log (state c.wire).log) first.limit later.log in
    record {
      put = first.put ++ later.put;
      got = first.got ++ later.got;
      out = first.out ∙ (ap (λ (w : List ℕ). first.put ++ w) (sym (append-nil b.behind) ∙ later.out)
          ∙ sym (append_assoc first.put later.put c.behind));
      come = sym (append_assoc a.ahead first.got later.got) ∙ (ap (λ (w : List ℕ). w ++ later.got) first.come
          ∙ later.come);
      log = told_on (LogsSteps a.limit (length a.ahead) (length (a.behind ++ [])) first.put first.got)
          (LogsSteps a.limit (length b.ahead) (length (b.behind ++ [])) later.put later.got)
          (LogsSteps a.limit (length a.ahead) (length (a.behind ++ [])) (first.put ++ later.put)
          (first.got ++ later.got))
          (state a.wire).log (state b.wire).log (state c.wire).log first.log at_limit
          (λ r s t f l. acted_on a.limit (length a.ahead) (length (a.behind ++ [])) (length b.ahead)
          (length (b.behind ++ [])) first.put first.got later.put
          later.got r s t f more left l);
      limit = later.limit ∙ first.limit;
    }

-- Bytes held back were put, and those that came meanwhile are ahead.
pub moved_puts : {W : Type 0} (state : W → WireView) (old new : DuplexLinkState W)
    (result : Result (Unit {0}) DeviceError)
    → PutsAll old.limit old.behind new.behind old.ahead new.ahead (state old.wire) (state new.wire) result → new.limit
    ≡ old.limit
    → MovesBytes state [] [] old new
moved_puts state old new result p limit = record {
  put = p.put;
  got = p.did.got;
  out = append-nil old.behind ∙ p.order;
  come = sym p.did.ahead;
  log = p.did.log (length (old.behind ++ []));
  limit = limit;
}

pub moved_now : {W : Type 0} (state : W → WireView) (old new : DuplexLinkState W)
    (result : Result (Unit {0}) DeviceError)
    → PutsAtOnce old.behind new.behind (state old.wire) (state new.wire) result → new.ahead ≡ old.ahead → new.limit
    ≡ old.limit
    → MovesBytes state [] [] old new
moved_now state old new result p ahead limit = record {
  put = p.put;
  got = [];
  out = append-nil old.behind ∙ p.order;
  come = append-nil old.ahead ∙ sym ahead;
  log = p.log old.limit (length old.ahead) (length (old.behind ++ []));
  limit = limit;
}

-- A wait for both directions, or only to read if nothing is held back.
pub moved_waits : {W : Type 0} (state : W → WireView) (old new : DuplexLinkState W) (readiness : Readiness)
    → IfLogged (LogsStep (Waited readiness)) (state old.wire).log (state new.wire).log
    → IsNeededReadiness readiness old.behind
    → new.ahead ≡ old.ahead → new.behind ≡ old.behind → new.limit ≡ old.limit → MovesBytes state [] [] old new
moved_waits state old new readiness log watches ahead behind limit = record {
  put = [];
  got = [];
  out = append-nil old.behind ∙ sym behind;
  come = append-nil old.ahead ∙ sym ahead;
  log = told_as (LogsStep (Waited readiness)) (LogsSteps old.limit (length old.ahead) (length (old.behind ++ [])) [] [])
      (state old.wire).log (state new.wire).log log
      (λ r s e. record {
        steps = Waited readiness ∷ [];
        all = e;
        puts = refl;
        gots = refl;
        waits = (may old.limit (length old.ahead) old.behind readiness watches, tt);
      });
  limit = limit;
} where
  may : (limit ahead : ℕ) (behind : List ℕ) (readiness : Readiness) → IsNeededReadiness readiness behind
      → MayWaitFor limit ahead (length (behind ++ [])) readiness []
  may limit ahead behind Either h = tt
  may limit ahead behind Readable h = omega (arith, ap (λ (w : List ℕ). length w) h, length-append behind [])
  may limit ahead behind Writable h = absurd h

-- ---- Sends

pub flushed : {W : Type 0} (state : W → WireView) (old new : DuplexLinkState W) (result : Result (Unit {0}) DeviceError)
    → PutsAll old.limit old.behind new.behind old.ahead new.ahead (state old.wire) (state new.wire) result → new.limit
    ≡ old.limit
    → FlushDid state old new result
flushed state old new result p limit = record {
  moved = moved_puts state old new result p limit;
  all = p.all;
  cause =
      p.cause;
}

-- The bytes are held back.
pub sends_held : {W : Type 0} (state : W → WireView) (bytes : List ℕ) (old new : DuplexLinkState W) → 0 < length bytes
    → new ≡ record old { behind = old.behind ++ bytes; ended = false }
    → HasSent (Unit {0}) bytes (duplex_view state old) (duplex_view state new) (Ok (length bytes))
    × SendDid state bytes old new (Ok (length bytes))
sends_held {W = W} state bytes old new some is =
    subst (λ (now : DuplexLinkState W). HasSent (Unit {0}) bytes (duplex_view state old) (duplex_view state now)
    (Ok (length bytes))
    × SendDid state bytes old now (Ok (length bytes))) (sym is) (
      record { within = (some, omega arith); log = tt; end = refl; cause = refl; same = refl },
      record {
        put = [];
        got = [];
        out = ap (λ (w : List ℕ). old.behind ++ w) (take_all (length bytes) bytes (omega arith));
        come = append-nil old.ahead;
        log = told_self (LogsSteps old.limit (length old.ahead) (length (old.behind ++ take (length bytes) bytes)) []
            []) (state old.wire).log
            (acted_none old.limit (length old.ahead) (length (old.behind ++ take (length bytes) bytes)));
        limit = refl;
      },
    )

-- An allocation failed.
pub sends_unheld : {W : Type 0} (state : W → WireView) (bytes : List ℕ) (old new : DuplexLinkState W) → new
    ≡ record old { ended = false }
    → HasSent (Unit {0}) bytes (duplex_view state old) (duplex_view state new) (Err OutOfMemory)
    × SendDid state bytes old new (Err OutOfMemory)
sends_unheld {W = W} state bytes old new is =
    subst (λ (now : DuplexLinkState W). HasSent (Unit {0}) bytes (duplex_view state old) (duplex_view state now)
    (Err OutOfMemory)
    × SendDid state bytes old now (Err OutOfMemory)) (sym is) (
      record { within = tt; log = tt; end = refl; cause = refl; same = refl },
      moved_none state old (record old { ended = false }) (told_self LogsNothing (state old.wire).log (λ l. refl)) refl
          refl refl,
    )

-- The bytes held back could not all be put.
pub sends_unput : {W : Type 0} (state : W → WireView) (bytes : List ℕ) (old new : DuplexLinkState W) (e : DeviceError)
    → PutsAll old.limit old.behind new.behind old.ahead new.ahead (state old.wire) (state new.wire) (Err e)
    → new.limit ≡ old.limit → new.ended ≡ false
    → HasSent (Unit {0}) bytes (duplex_view state old) (duplex_view state new) (Err e)
    × SendDid state bytes old new (Err e)
sends_unput state bytes old new e p limit end = (
  record {
    within = tt;
    log = tt;
    end = end;
    cause = cause_as (Unit {0}) ℕ (state old.wire).faults
        (state new.wire).faults e p.cause;
    same = refl;
  },
  moved_puts state old new (Err e) p limit,
)

-- They were, and then some of the bytes were put, or that failed.
pub sends_after : {W : Type 0} (state : W → WireView) (bytes mid_ahead : List ℕ) (old new : DuplexLinkState W) (mid : W)
    (result : Result ℕ DeviceError)
    → PutsAll old.limit old.behind new.behind old.ahead mid_ahead (state old.wire) (state mid) (Ok tt)
    → PutsSome old.limit bytes mid_ahead new.ahead (state mid) (state new.wire) result → new.limit ≡ old.limit
    → new.ended ≡ false
    → HasSent (Unit {0}) bytes (duplex_view state old) (duplex_view state new) result
    × SendDid state bytes old new result
sends_after state bytes mid_ahead old new mid (Ok n) p s limit end =
    let did : PutsMeanwhile old.limit (p.put ++ take n bytes) old.ahead new.ahead (state old.wire) (state new.wire) =
    meanwhile_on old.limit p.put (take n bytes) old.ahead mid_ahead new.ahead (state old.wire) (state mid)
    (state new.wire) p.did s.did in
    let was : old.behind ≡ p.put = p.order ∙ (ap (λ (w : List ℕ). p.put ++ w) p.all ∙ append-nil p.put) in (
      record { within = s.within; log = tt; end = end; cause = s.cause ∙ p.cause; same = refl },
      record {
        put = p.put ++ take n bytes;
        got = did.got;
        out = ap (λ (w : List ℕ). w ++ take n bytes) was ∙ sym (ap (λ (w : List ℕ). (p.put ++ take n bytes) ++ w) p.all
            ∙ append-nil (p.put ++ take n bytes));
        come = sym did.ahead;
        log = did.log (length (old.behind ++ take n bytes));
        limit = limit;
      },
    )
sends_after state bytes mid_ahead old new mid (Err e) p s limit end =
    let did : PutsMeanwhile old.limit (p.put ++ []) old.ahead new.ahead (state old.wire) (state new.wire) =
    meanwhile_on old.limit p.put [] old.ahead mid_ahead new.ahead (state old.wire) (state mid) (state new.wire) p.did
    s.did in (
      record {
        within = tt;
        log = tt;
        end = end;
        cause = cause_at {U = ℕ} (state old.wire).faults (state mid).faults (state new.wire).faults (Err e) p.cause
            s.cause;
        same = refl;
      },
      record {
        put = p.put ++ [];
        got = did.got;
        out = append-nil old.behind ∙ (p.order ∙ ap (λ (w : List ℕ). w ++ new.behind) (sym (append-nil p.put)));
        come = sym did.ahead;
        log = did.log (length (old.behind ++ []));
        limit = limit;
      },
    )
