-- If a fault of the link stopped a run, the count of one of its halves rose.
use Rattle.std.proofs.Common.{◌≡◌, ◌<◌, ◌∙◌, ◌⊎◌, ⊎_elim, ℕ, List, [], ◌∷◌, ap, arith, drop, sym, subst, inl, inr, true, false, Ok, Err}
use Rattle.std.specs.Prelude.{Bool, Option, Result}
use Rattle.link_frames.specs.Causes.{CountsLinkFault, IsCausedByLink}
use Rattle.sftp_core.specs.Errors.{error_of}
use Rattle.plan_model.specs.declared.call.Lane.{Lane}
use Rattle.session_seats.specs.Repeats.{IsChainOf, NotLast}
use Rattle.sftp_core.specs.declared.errors.TakeError.{TakeError}
use Rattle.sftp_core.specs.declared.errors.TakeError.TheVariants as take
use Rattle.sftp_lanes.specs.Seen.{SessionValue}
use Rattle.sftp_link.specs.Views.{LinkView}
use Rattle.sftp_model.specs.declared.error.Error.{Error}
use Rattle.sftp_model.specs.declared.error.Error.TheVariants as error
use Rattle.sftp_model.specs.declared.frame_error.FrameError.{FrameError}
use Rattle.sftp_model.specs.declared.options.SftpOptions.{SftpOptions}
use Rattle.sftp_model.specs.declared.reply.Reply.{Reply}
use Rattle.sftp_model.specs.ReplyReadings.{reply_at}
use Rattle.sftp_tasks.specs.declared.workers.Shift.{Shift}
use Rattle.sftp_tasks.specs.Opening.{GreetStops, HasGreeted, HelloStops, IsUnasked, VersionStops}
use Rattle.sftp_tasks.specs.Rounds.{FlushStops, FlushesRound, ReadStops, ReadsRound, StopsByError, Token}
use Rattle.sftp_tasks.specs.SessionEvents.{IsRefusedBy, IsUnawaited, RefusesCall, TakeStops}
use Rattle.sftp_tasks.specs.Workers.{FlushShift, FlushWorks, WorkerState, ReadShift, ReadWorks, is_over}
use Rattle.sftp_tasks.proofs.SentEvents.{whole_body}
use Rattle.session_threads.specs.Failures.{WorksOverHalf}
use Rattle.session_threads.specs.Reports.{OpeningStops, StopsBy, WorkersStop}

not_refused : (e : TakeError) → error.LinkFault ≡ error_of e → ⊥
not_refused take.OutOfMemory is = cc is
not_refused (take.Format kind) is = cc is
not_refused (take.HandleTooLong len) is = cc is
not_refused (take.InvalidResponseId id) is = cc is
not_refused (take.InvalidResponse id) is = cc is
not_refused (take.LimitsRefused code message language) is = cc is
not_refused (take.Protocol version) is = cc is

-- a frame that is refused is no fault of the link
take_none : (reads : Result (Option ℕ × Reply) FrameError) (old new : SessionValue)
    → TakeStops reads error.LinkFault old new → ⊥
take_none reads old new h = ⊎_elim (λ (r : IsRefusedBy reads error.LinkFault old new). not_refused r.error r.is)
    (λ (u : IsUnawaited error.LinkFault old new). cc u.is) h

version_none : (reads : Result (Option ℕ × Reply) FrameError) (old new : SessionValue)
    → RefusesCall error.LinkFault old new ⊎ (TakeStops reads error.LinkFault old new
    ⊎ IsUnasked error.LinkFault old new) → ⊥
version_none reads old new (inl h) = h
version_none reads old new (inr (inl h)) = take_none reads old new h
version_none reads old new (inr (inr h)) = cc h.is

module _ {Service : Type 0} where
  -- the half's count is as before, or rose
  abbrev Same : LinkView Service → LinkView Service → Type 0
  Same v w = w.faults ≡ v.faults

  abbrev Rose : LinkView Service → LinkView Service → Type 0
  Rose v w = v.faults < w.faults

  rose : {T : Type 0} (why : Error) (m n : Token) (v w : LinkView Service) → IsCausedByLink {T = T} v w (Err why)
      → StopsByError why error.LinkFault m n → Rose v w
  rose {T} why m n v w c h = subst (λ (e : Error). CountsLinkFault {T = T} v.faults w.faults (Err e)) (sym h.did.0)
      c.cause

  -- ---- the worker that sends

  flush_same : (did : Bool) (m n : Token) (v w : LinkView Service) → FlushesRound did m n v w → Same v w
  flush_same true m n v w f = f.sent.caused.cause
  flush_same false m n v w f = ap (λ (x : LinkView Service). x.faults) f.1

  flush_shift_same : (shift : Shift) (a b : WorkerState Service) → FlushShift (Ok shift) a b → Same a.1 b.1
  flush_shift_same shift a b (inl h) = flush_same true a.0 b.0 a.1 b.1 h.1
  flush_shift_same shift a b (inr h) = flush_same false a.0 h.1.1.mid a.1 b.1 h.1.1.none

  flush_led_same : (first : WorkerState Service) (between : List (WorkerState Service)) (last : WorkerState Service)
      → IsChainOf (NotLast is_over FlushShift) first between last
      → Same first.1 last.1
  flush_led_same first [] last led = ap (λ (x : WorkerState Service). x.1.faults) led
  flush_led_same first (x ∷ earlier) last led = flush_shift_same led.0.0 x last led.0.1.1
      ∙ flush_led_same first earlier x led.1

  flush_rose : (m n : Token) (v w : LinkView Service) → FlushStops error.LinkFault m n v w → Rose v w
  flush_rose m n v w (inl r) = absurd r.0.did
  flush_rose m n v w (inr (inl u)) = rose {T = Unit {0}} u.why u.at n v w u.sent.caused u.stops
  flush_rose m n v w (inr (inr did)) = absurd (cc did.0)

  flush_shift_rose : (a b : WorkerState Service) → FlushShift (Err error.LinkFault) a b → Rose a.1 b.1
  flush_shift_rose a b (inl h) = flush_rose a.0 b.0 a.1 b.1 h
  flush_shift_rose a b (inr s) = absurd (⊎_elim (λ l. l.1) (λ x. cc x.0) s.looks.did)

  flush_works_rose : (v w : LinkView Service) → WorksOverHalf FlushWorks (Err error.LinkFault) v w → Rose v w
  flush_works_rose v w h =
      let same : h.1.1.0.1.faults ≡ v.faults = flush_led_same (h.0, v) h.1.1.1.0.0 h.1.1.0 h.1.1.1.0.1 in
      let more : h.1.1.0.1.faults < w.faults = flush_shift_rose h.1.1.0 (h.1.0, w) h.1.1.1.1 in
      omega (arith, same, more)

  -- ---- the worker that reads

  read_same : (did : Bool) (m n : Token) (v w : LinkView Service) → ReadsRound did m n v w → Same v w
  read_same true m n v w o = o.caused.cause
  read_same false m n v w o = ap (λ (x : LinkView Service). x.faults) o.1

  read_shift_same : (shift : Shift) (a b : WorkerState Service) → ReadShift (Ok shift) a b → Same a.1 b.1
  read_shift_same shift a b (inl h) = read_same true a.0 b.0 a.1 b.1 h.1
  read_shift_same shift a b (inr h) = read_same false a.0 h.1.1.mid a.1 b.1 h.1.1.none

  read_led_same : (first : WorkerState Service) (between : List (WorkerState Service)) (last : WorkerState Service)
      → IsChainOf (NotLast is_over ReadShift) first between last
      → Same first.1 last.1
  read_led_same first [] last led = ap (λ (x : WorkerState Service). x.1.faults) led
  read_led_same first (x ∷ earlier) last led = read_shift_same led.0.0 x last led.0.1.1
      ∙ read_led_same first earlier x led.1

  read_rose : (m n : Token) (v w : LinkView Service) → ReadStops error.LinkFault m n v w → Rose v w
  read_rose m n v w (inl r) = absurd r.0.did
  read_rose m n v w (inr (inl u)) = rose u.why u.mid n v w u.caused u.stops
  read_rose m n v w (inr (inr (inl u))) =
      let h = u.refuses in
      let body = drop 4 u.frame.bytes in
      absurd (take_none (reply_at body) h.before.session h.after.session (h.did body (whole_body u.frame u.whole)).1.0)
  read_rose m n v w (inr (inr (inr did))) = absurd (cc did.0)

  read_shift_rose : (a b : WorkerState Service) → ReadShift (Err error.LinkFault) a b → Rose a.1 b.1
  read_shift_rose a b (inl h) = read_rose a.0 b.0 a.1 b.1 h
  read_shift_rose a b (inr s) = absurd (⊎_elim (λ l. l.1) (λ x. cc x.0) s.looks.did)

  read_works_rose : (v w : LinkView Service) → WorksOverHalf ReadWorks (Err error.LinkFault) v w → Rose v w
  read_works_rose v w h =
      let same : h.1.1.0.1.faults ≡ v.faults = read_led_same (h.0, v) h.1.1.1.0.0 h.1.1.0 h.1.1.1.0.1 in
      let more : h.1.1.0.1.faults < w.faults = read_shift_rose h.1.1.0 (h.1.0, w) h.1.1.1.1 in
      omega (arith, same, more)

  -- ---- the opening

  hello_rose : (m n : Token) (v w : LinkView Service) → HelloStops error.LinkFault m n v w → Rose v w
  hello_rose m n v w (inl r) = absurd r.0.did
  hello_rose m n v w (inr u) = rose {T = Unit {0}} u.why u.mid n v w u.sent.caused u.stops

  version_rose : (m n : Token) (v w : LinkView Service) → VersionStops error.LinkFault m n v w → Rose v w
  version_rose m n v w (inl u) = rose u.why m n v w u.caused u.stops
  version_rose m n v w (inr (inl r)) =
      let h = r.refuses in
      let body = drop 4 r.frame.bytes in
      absurd (version_none (reply_at body) h.before.session h.after.session
      (h.did body (whole_body r.frame r.whole)).1.0)
  version_rose m n v w (inr (inr did)) = absurd (cc did.0)

-- ---- a run

module _ {A B : Type 0} (out out' : LinkView A) (input input' : LinkView B) where
  greet_rose : (m n : Token) → GreetStops error.LinkFault m n out out' input input' → Rose out out' ⊎ Rose input input'
  greet_rose m n (inl h) = inl (hello_rose m n out out' h.0)
  greet_rose m n (inr h) = inr (version_rose h.0 n input input' h.1.1)

  opening_rose : (lanes : List Lane) (options : SftpOptions)
      → OpeningStops lanes options out out' input input' error.LinkFault → Rose out out' ⊎ Rose input input'
  opening_rose lanes options (inl memory) = absurd (cc memory)
  opening_rose lanes options (inr h) = greet_rose h.1.1.0 h.1.1.1.0 h.1.1.1.1

  workers_rose : (lanes : List Lane) (options : SftpOptions)
      → WorkersStop out out' input input' lanes options error.LinkFault → Rose out out' ⊎ Rose input input'
  workers_rose lanes options (inl memory) = absurd (cc memory)
  workers_rose lanes options (inr h) =
      ⊎_elim (λ is. inl (flush_works_rose out out' (subst (λ (r : Result (Unit {0}) Error). WorksOverHalf FlushWorks r
      out out') is h.1.sends)))
      (λ is. inr (read_works_rose input input' (subst (λ (r : Result (Unit {0}) Error). WorksOverHalf ReadWorks r input
      input') is h.1.reads)))
      h.1.stops

pub run_rose : {A B : Type 0} (lanes : List Lane) (options : SftpOptions) (out out' : LinkView A)
    (input input' : LinkView B)
    → StopsBy lanes options out out' input input' error.LinkFault
    → Rose out out' ⊎ Rose input input'
run_rose lanes options out out' input input' (inl h) = opening_rose out out' input input' lanes options h
run_rose {A} {B} lanes options out out' input input' (inr h) = behind h.1.1.1.0.0 h.0 h.1.0 h.1.1.0 h.1.1.1.0.1 h.1.1.1.1
  where
    behind : (m n : Token) (out_then : LinkView A) (input_then : LinkView B)
        → HasGreeted m n out out_then input input_then
        → WorkersStop out_then out' input_then input' lanes options error.LinkFault → Rose out out' ⊎ Rose input input'
    behind m n out_then input_then g h =
        let sent : out_then.faults ≡ out.faults = g.sends.sent.caused.cause in
        let got : input_then.faults ≡ input.faults = g.gets.caused.cause in
        ⊎_elim (λ more. inl (omega (arith, sent, more))) (λ more. inr (omega (arith, got, more)))
        (workers_rose out_then out' input_then input' lanes options h)
