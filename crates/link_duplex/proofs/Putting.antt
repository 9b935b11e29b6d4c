-- Bytes that are put, and bytes that come meanwhile.
use Rattle.std.proofs.Common.{◌≡◌, ◌<◌, ◌≤◌, ◌+◌, ◌-◌, ℕ, List, [], ◌∷◌, ◌++◌, take, drop, length, Option, Some, None, refl, ap, sym, ◌∙◌, subst, append_assoc, arith, length-append, inl, inr}
use Rattle.std.specs.Prelude.{Ok, Err, Result}
use Rattle.std.proofs.lemmas.List.{append-nil, take-append-drop, drop-drop}
use Rattle.sftp_link.specs.Causes.{CountsDeviceFault}
use Rattle.sftp_link.specs.Told.{LogsNothing, IfLogged}
use Rattle.sftp_link.specs.declared.device_error.DeviceError.{DeviceError}
use Rattle.sftp_link.specs.declared.device_error.DeviceError.TheVariants.{OutOfMemory, Failed}
use Rattle.sftp_link.proofs.Telling.{rest_is, rest_of, told_as, told_on, told_self}
use Rattle.link_duplex.specs.WireSteps.{WireStep, LogsSteps, Got, Put, Waited}
use Rattle.link_duplex.specs.Buffers.{MakesWay, PutsAll, PutsMeanwhile, PutsAtOnce, PutsSome, ReadsAhead}
use Rattle.link_duplex.specs.Wires.{HasGivenUp, HasPut, HasWaited, LogsStep, WireView}
use Rattle.link_duplex.specs.declared.read_ahead.GetOutcome.{GetOutcome}
use Rattle.link_duplex.specs.declared.read_ahead.GetOutcome.TheVariants as outcome
use Rattle.link_duplex.specs.declared.wire.Readiness.TheVariants.{Writable, Either}
use Rattle.link_duplex.proofs.Stepping.{acted_got, acted_none, acted_on, acted_put, acted_wait}

-- ---- Causes

pub cause_at : {U : Type 0} (a b c : ℕ) (result : Result U DeviceError) → b ≡ a → CountsDeviceFault b c result
    → CountsDeviceFault a c result
cause_at {U = U} a b c result e h = subst (λ (k : ℕ). CountsDeviceFault {T = U} k c result) e h

pub cause_as : (T U : Type 0) (a b : ℕ) (e : DeviceError) → CountsDeviceFault {T = T} a b (Err e)
    → CountsDeviceFault {T = U} a b (Err e)
cause_as T U a b OutOfMemory h = h
cause_as T U a b Failed h = h

-- ---- Several calls

pub meanwhile_none : (limit : ℕ) (ahead : List ℕ) (x : WireView) → PutsMeanwhile limit [] ahead ahead x x
meanwhile_none limit ahead x = record {
  got = [];
  ahead = sym (append-nil ahead);
  log = λ owed. told_self (LogsSteps limit (length ahead) owed [] []) x.log (acted_none limit (length ahead) owed);
}

pub meanwhile_on : (limit : ℕ) (p q a b c : List ℕ) (x y z : WireView) → PutsMeanwhile limit p a b x y
    → PutsMeanwhile limit q b c y z → PutsMeanwhile limit (p ++ q) a c x z
meanwhile_on limit p q a b c x y z first later =
    let more : length b ≡ length a + length first.got = ap (λ (w : List ℕ). length w) first.ahead
    ∙ length-append a first.got in
    record {
      got = first.got ++ later.got;
      ahead = later.ahead ∙ (ap (λ (w : List ℕ). w ++ later.got) first.ahead ∙ append_assoc a first.got later.got);
      log = λ owed. told_on (LogsSteps limit (length a) owed p first.got)
          (LogsSteps limit (length b) (owed - length p) q later.got)
          (LogsSteps limit (length a) owed (p ++ q) (first.got ++ later.got)) x.log y.log z.log (first.log owed)
          (later.log (owed - length p))
          (λ r s t f l. acted_on limit (length a) owed (length b) (owed - length p) p first.got q later.got r s t f more
          refl l);
    }

-- No step was logged.
pub meanwhile_same : (limit : ℕ) (ahead : List ℕ) (x y : WireView) → IfLogged LogsNothing x.log y.log
    → PutsMeanwhile limit [] ahead ahead x y
meanwhile_same limit ahead x y same = record {
  got = [];
  ahead = sym (append-nil ahead);
  log = λ owed. told_as LogsNothing (LogsSteps limit (length ahead) owed [] []) x.log y.log same
      (λ r s e. subst (λ (w : List WireStep). LogsSteps limit (length ahead) owed [] [] r w) (sym e)
      (acted_none limit (length ahead) owed r));
}

-- Bytes came.
pub meanwhile_came : (limit : ℕ) (old new came : List ℕ) (x y : WireView) → new ≡ old ++ came
    → IfLogged (LogsStep (Got came)) x.log y.log
    → PutsMeanwhile limit [] old new x y
meanwhile_came limit old new came x y is log = record {
  got = came;
  ahead = is;
  log = λ owed. told_as (LogsStep (Got came)) (LogsSteps limit (length old) owed [] came) x.log y.log log
      (λ r s e. acted_got limit (length old) owed [] [] came r r s (acted_none limit (length old) owed r) e);
}

-- Bytes were put.
pub meanwhile_put : (limit : ℕ) (ahead piece : List ℕ) (x y : WireView) → IfLogged (LogsStep (Put piece)) x.log y.log
    → PutsMeanwhile limit piece ahead ahead x y
meanwhile_put limit ahead piece x y log = record {
  got = [];
  ahead = sym (append-nil ahead);
  log = λ owed. told_as (LogsStep (Put piece)) (LogsSteps limit (length ahead) owed piece []) x.log y.log log
      (λ r s e. acted_put limit (length ahead) owed [] [] piece r r s (acted_none limit (length ahead) owed r) e);
}

-- ---- Waits

-- For both directions.
waits_either : (limit : ℕ) (ahead : List ℕ) (x y : WireView) → IfLogged (LogsStep (Waited Either)) x.log y.log
    → PutsMeanwhile limit [] ahead ahead x y
waits_either limit ahead x y log = record {
  got = [];
  ahead = sym (append-nil ahead);
  log = λ owed. told_as (LogsStep (Waited Either)) (LogsSteps limit (length ahead) owed [] []) x.log y.log log
      (λ r s e. acted_wait limit (length ahead) owed [] [] Either r r s (acted_none limit (length ahead) owed r) tt e);
}

-- To write alone, when the limit is reached.
waits_full : (limit : ℕ) (ahead : List ℕ) (x y : WireView) → limit ≤ length ahead
    → IfLogged (LogsStep (Waited Writable)) x.log y.log
    → PutsMeanwhile limit [] ahead ahead x y
waits_full limit ahead x y full log = record {
  got = [];
  ahead = sym (append-nil ahead);
  log = λ owed. told_as (LogsStep (Waited Writable)) (LogsSteps limit (length ahead) owed [] []) x.log y.log log
      (λ r s e. acted_wait limit (length ahead) owed [] [] Writable r r s (acted_none limit (length ahead) owed r)
      (inl (omega (arith, full))) e);
}

-- To write alone, after the end was found.
waits_ended : (limit : ℕ) (ahead : List ℕ) (x y z : WireView) → IfLogged (LogsStep (Got [])) x.log y.log
    → IfLogged (LogsStep (Waited Writable)) y.log z.log
    → PutsMeanwhile limit [] ahead ahead x z
waits_ended limit ahead x y z met log = record {
  got = [];
  ahead = sym (append-nil ahead);
  log = λ owed. told_on (LogsStep (Got [])) (LogsStep (Waited Writable)) (LogsSteps limit (length ahead) owed [] [])
      x.log y.log z.log met log
      (λ r s t e w. record {
        steps = Waited Writable ∷ Got [] ∷ [];
        all = w ∙ ap (λ (v : List WireStep). Waited Writable ∷ v) e;
        puts = refl;
        gots = refl;
        waits = (inr (inl refl), tt);
      });
}

-- ---- make_way

pub way_came : (limit : ℕ) (old new : List ℕ) (x y : WireView) → ReadsAhead limit old new x y (Ok outcome.Came)
    → MakesWay limit old new x y (Ok tt)
way_came limit old new x y t = record {
  did = meanwhile_came limit old new t.takes.0 x y t.takes.1 t.takes.3;
  cause =
      t.cause;
}

pub way_failed : (limit : ℕ) (old new : List ℕ) (x y : WireView) (e : DeviceError)
    → ReadsAhead limit old new x y (Err e)
    → MakesWay limit old new x y (Err e)
way_failed limit old new x y e t =
    subst (λ (w : List ℕ). MakesWay limit old w x y (Err e)) (sym t.takes.0) record {
      did = meanwhile_same limit old x y t.takes.1;
      cause = cause_as GetOutcome (Unit {0}) x.faults y.faults e t.cause;
    }

pub way_nothing : (limit : ℕ) (old new : List ℕ) (x y z : WireView) (result : Result (Unit {0}) DeviceError)
    → ReadsAhead limit old new x y (Ok outcome.Nothing) → HasWaited Either y z result
    → MakesWay limit old new x z result
way_nothing limit old new x y z result t w =
    subst (λ (k : List ℕ). MakesWay limit old k x z result) (sym t.takes.0) record {
      did = meanwhile_on limit [] [] old old old x y z (meanwhile_same limit old x y t.takes.1)
          (waits_either limit old y z w.log);
      cause = cause_at x.faults y.faults z.faults result t.cause w.cause;
    }

pub way_ended : (limit : ℕ) (old new : List ℕ) (x y z : WireView) (result : Result (Unit {0}) DeviceError)
    → ReadsAhead limit old new x y (Ok outcome.End) → HasWaited Writable y z result → MakesWay limit old new x z result
way_ended limit old new x y z result t w =
    subst (λ (k : List ℕ). MakesWay limit old k x z result) (sym t.takes.0) record {
      did = waits_ended limit old x y z t.takes.1 w.log;
      cause = cause_at x.faults y.faults z.faults result t.cause w.cause;
    }

pub way_full : (limit : ℕ) (old new : List ℕ) (x y z : WireView) (result : Result (Unit {0}) DeviceError)
    → ReadsAhead limit old new x y (Ok outcome.Full) → HasWaited Writable y z result → MakesWay limit old new x z result
way_full limit old new x y z result t w =
    subst (λ (k : List ℕ). MakesWay limit old k x z result) (sym t.takes.0) record {
      did = waits_full limit old x z t.takes.1 (subst (λ (v : WireView). IfLogged (LogsStep (Waited Writable)) v.log
          z.log) t.takes.2 w.log);
      cause = cause_at x.faults y.faults z.faults result t.cause w.cause;
    }

-- ---- put_some

-- Bytes that came while none could be put.
pub record Waiting (limit : ℕ) (old new : List ℕ) (before now : WireView) : Type 0 where
  pub did : PutsMeanwhile limit [] old new before now
  pub faults : now.faults ≡ before.faults

pub waiting_none : (limit : ℕ) (ahead : List ℕ) (x : WireView) → Waiting limit ahead ahead x x
waiting_none limit ahead x = record { did = meanwhile_none limit ahead x; faults = refl }

no_place : (limit : ℕ) (a b bytes : List ℕ) (x y z : WireView) → Waiting limit a b x y → HasPut bytes y z (Ok None)
    → Waiting limit a b x z
no_place limit a b bytes x y z so put = record {
  did = meanwhile_on limit [] [] a b b x y z so.did (meanwhile_same limit b y z put.log);
  faults = put.cause ∙ so.faults;
}

pub waiting_on : (limit : ℕ) (a b c bytes : List ℕ) (x y mid z : WireView) → Waiting limit a b x y
    → HasPut bytes y mid (Ok None)
    → MakesWay limit b c mid z (Ok tt) → Waiting limit a c x z
waiting_on limit a b c bytes x y mid z so put way =
    let at : Waiting limit a b x mid = no_place limit a b bytes x y mid so put in
    record { did = meanwhile_on limit [] [] a b c x mid z at.did way.did; faults = way.cause ∙ at.faults }

pub waiting_put : (limit : ℕ) (a b bytes : List ℕ) (x y z : WireView) (n : ℕ) → Waiting limit a b x y
    → HasPut bytes y z (Ok (Some n))
    → PutsSome limit bytes a b x z (Ok n)
waiting_put limit a b bytes x y z n so put = record {
  within = put.within;
  did = meanwhile_on limit [] (take n bytes) a b b x y z so.did (meanwhile_put limit b (take n bytes) y z put.log);
  cause = put.cause ∙ so.faults;
}

pub waiting_refused : (limit : ℕ) (a b bytes : List ℕ) (x y z : WireView) (e : DeviceError) → Waiting limit a b x y
    → HasPut bytes y z (Err e)
    → PutsSome limit bytes a b x z (Err e)
waiting_refused limit a b bytes x y z e so put = record {
  within = tt;
  did = meanwhile_on limit [] [] a b b x y z so.did (meanwhile_same limit b y z put.log);
  cause = cause_at {U = ℕ} x.faults y.faults z.faults (Err e) so.faults
      (cause_as (Option ℕ) ℕ y.faults z.faults e put.cause);
}

pub waiting_stopped : (limit : ℕ) (a b c bytes : List ℕ) (x y mid z : WireView) (e : DeviceError)
    → Waiting limit a b x y
    → HasPut bytes y mid (Ok None) → MakesWay limit b c mid z (Err e) → PutsSome limit bytes a c x z (Err e)
waiting_stopped limit a b c bytes x y mid z e so put way =
    let at : Waiting limit a b x mid = no_place limit a b bytes x y mid so put in
    record {
      within = tt;
      did = meanwhile_on limit [] [] a b c x mid z at.did way.did;
      cause = cause_at {U = ℕ} x.faults mid.faults z.faults (Err e) at.faults
          (cause_as (Unit {0}) ℕ mid.faults z.faults e way.cause);
    }

pub waiting_ended : (limit : ℕ) (a b bytes : List ℕ) (x y z : WireView) (e : DeviceError) → Waiting limit a b x y
    → HasGivenUp y z e
    → PutsSome limit bytes a b x z (Err e)
waiting_ended limit a b bytes x y z e so up =
    subst (λ (w : DeviceError). PutsSome limit bytes a b x z (Err w)) (sym up.is) record {
      within = tt;
      did = meanwhile_on limit [] [] a b b x y z so.did
          (meanwhile_same limit b y z (subst (λ (w : Option (List WireStep)). IfLogged LogsNothing y.log w) (sym up.log)
          (told_self LogsNothing y.log (λ l. refl))));
      cause = subst (λ (k : ℕ). k < z.faults) so.faults up.more;
    }

-- ---- Bytes held back

-- The first bytes were put, and those that came meanwhile are ahead.
pub record PutSoFar (limit : ℕ) (old new a b : List ℕ) (x y : WireView) : Type 0 where
  pub put : List ℕ
  pub order : old ≡ put ++ new
  pub did : PutsMeanwhile limit put a b x y
  pub faults : y.faults ≡ x.faults

pub so_far_none : (limit : ℕ) (bytes a : List ℕ) (x : WireView) → PutSoFar limit bytes bytes a a x x
so_far_none limit bytes a x = record { put = []; order = refl; did = meanwhile_none limit a x; faults = refl }

cut_at : (bytes : List ℕ) (at n : ℕ) → drop at bytes ≡ take n (rest_of bytes at) ++ drop (at + n) bytes
cut_at bytes at n =
    let piece : take n (rest_of bytes at) ≡ take n (drop at bytes) = ap (λ (w : List ℕ). take n w) (rest_is bytes at) in
    sym (take-append-drop n (drop at bytes)) ∙ (λ i. sym piece i ++ drop-drop n at bytes i)

pub so_far_more : (limit : ℕ) (first bytes : List ℕ) (at n : ℕ) (a b c : List ℕ) (x y z : WireView)
    → PutSoFar limit first (drop at bytes) a b x y → PutsSome limit (rest_of bytes at) b c y z (Ok n)
    → PutSoFar limit first (drop (at + n) bytes) a c x z
so_far_more limit first bytes at n a b c x y z so some =
    let piece : List ℕ = take n (rest_of bytes at) in
    record {
      put = so.put ++ take n (rest_of bytes at);
      order = so.order ∙ (ap (λ (w : List ℕ). so.put ++ w) (cut_at bytes at n)
          ∙ sym (append_assoc so.put (take n (rest_of bytes at)) (drop (at + n) bytes)));
      did = meanwhile_on limit so.put (take n (rest_of bytes at)) a b c x y z so.did some.did;
      faults = some.cause ∙ so.faults;
    }

pub so_far_stops : (limit : ℕ) (first rest piece a b c : List ℕ) (x y z : WireView) (e : DeviceError)
    → PutSoFar limit first rest a b x y
    → PutsSome limit piece b c y z (Err e) → PutsAll limit first rest a c x z (Err e)
so_far_stops limit first rest piece a b c x y z e so some = record {
  put = so.put;
  order = so.order;
  did = subst (λ (w : List ℕ). PutsMeanwhile limit w a c x z) (append-nil so.put)
      (meanwhile_on limit so.put [] a b c x y z so.did some.did);
  all = tt;
  cause = cause_at {U = Unit {0}} x.faults y.faults z.faults (Err e) so.faults
      (cause_as ℕ (Unit {0}) y.faults z.faults e some.cause);
}

pub so_far_all : (limit : ℕ) (first rest a b : List ℕ) (x y : WireView) → PutSoFar limit first rest a b x y → rest ≡ []
    → PutsAll limit first rest a b x y (Ok tt)
so_far_all limit first rest a b x y so none = record {
  put = so.put;
  order = so.order;
  did = so.did;
  all = none;
  cause =
      so.faults;
}

-- ---- Puts at once

pub record NowSoFar (old new : List ℕ) (x y : WireView) : Type 0 where
  pub put : List ℕ
  pub order : old ≡ put ++ new
  pub log : (limit ahead owed : ℕ) → IfLogged (LogsSteps limit ahead owed put []) x.log y.log
  pub faults : y.faults ≡ x.faults

pub now_none : (bytes : List ℕ) (x : WireView) → NowSoFar bytes bytes x x
now_none bytes x = record {
  put = [];
  order = refl;
  log = λ limit ahead owed. told_self (LogsSteps limit ahead owed [] []) x.log (acted_none limit ahead owed);
  faults = refl;
}

pub now_more : (first bytes : List ℕ) (at n : ℕ) (x y z : WireView) → NowSoFar first (drop at bytes) x y
    → HasPut (rest_of bytes at) y z (Ok (Some n)) → NowSoFar first (drop (at + n) bytes) x z
now_more first bytes at n x y z so put = record {
  put = so.put ++ take n (rest_of bytes at);
  order = so.order ∙ (ap (λ (w : List ℕ). so.put ++ w) (cut_at bytes at n)
      ∙ sym (append_assoc so.put (take n (rest_of bytes at)) (drop (at + n) bytes)));
  log = λ limit ahead owed. told_on (LogsSteps limit ahead owed so.put []) (LogsStep (Put (take n (rest_of bytes at))))
      (LogsSteps limit ahead owed (so.put ++ take n (rest_of bytes at)) []) x.log y.log z.log (so.log limit ahead owed)
      put.log
      (λ r s t f e. acted_put limit ahead owed so.put [] (take n (rest_of bytes at)) r s t f e);
  faults = put.cause ∙ so.faults;
}

then_same : (put : List ℕ) (x y z : WireView) → ((limit ahead owed : ℕ)
    → IfLogged (LogsSteps limit ahead owed put []) x.log y.log) → IfLogged LogsNothing y.log z.log
    → (limit ahead owed : ℕ) → IfLogged (LogsSteps limit ahead owed put []) x.log z.log
then_same put x y z log same limit ahead owed =
    told_on (LogsSteps limit ahead owed put []) LogsNothing (LogsSteps limit ahead owed put []) x.log y.log z.log
    (log limit ahead owed) same
    (λ r s t f e. subst (λ (w : List WireStep). LogsSteps limit ahead owed put [] r w) (sym e) f)

pub now_full : (first rest piece : List ℕ) (x y z : WireView) → NowSoFar first rest x y → HasPut piece y z (Ok None)
    → PutsAtOnce first rest x z (Ok tt)
now_full first rest piece x y z so put = record {
  put = so.put;
  order = so.order;
  log = then_same so.put x y z so.log put.log;
  cause = put.cause ∙ so.faults;
}

pub now_fails : (first rest piece : List ℕ) (x y z : WireView) (e : DeviceError) → NowSoFar first rest x y
    → HasPut piece y z (Err e)
    → PutsAtOnce first rest x z (Err e)
now_fails first rest piece x y z e so put = record {
  put = so.put;
  order = so.order;
  log = then_same so.put x y z so.log put.log;
  cause = cause_at {U = Unit {0}} x.faults y.faults z.faults (Err e) so.faults
      (cause_as (Option ℕ) (Unit {0}) y.faults z.faults e put.cause);
}

pub now_all : (first rest : List ℕ) (x y : WireView) → NowSoFar first rest x y → PutsAtOnce first rest x y (Ok tt)
now_all first rest x y so = record { put = so.put; order = so.order; log = so.log; cause = so.faults }
