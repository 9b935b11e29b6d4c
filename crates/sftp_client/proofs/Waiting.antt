-- What the rounds of a session leave to a call that awaits its reply.
use Rattle.std.proofs.Common.{◌≡◌, ◌<◌, ◌+◌, ◌-◌, ◌^◌, ℕ, suc, true, false, refl, ap, sym, ◌∙◌, subst, arith, inl, inr}
use Rattle.std.specs.Prelude.{Bool, Option, Result, Ok, Err, None, Some, IsSome, IsTrue, OnOk}
use Rattle.sftp_model.specs.ReplyReadings.{reply_at}
use Rattle.sftp_model.specs.declared.error.Error.{Error}
use Rattle.sftp_model.specs.declared.error.Error.TheVariants as error
use Rattle.sftp_model.specs.declared.error.Fault.{Fault}
use Rattle.sftp_core.specs.Core.{Core, record_at, awaited_of, failed_with, handed_out, is_ticket, reply_in}
use Rattle.sftp_core.specs.Info.{info_of}
use Rattle.sftp_link.specs.Views.{LinkView}
use Rattle.plan_state.specs.Calls.{
  CallValue,
  CancelsAwaited,
  CountsGrant,
  HoldsReady,
  IsHeld,
  IsHeldAt,
  IsNoneOfCall,
  IsUnderWay,
  KeepsOtherTickets,
  core_after_cancel,
  is_ended,
}
use Rattle.plan_state.specs.Keeping.{KeepsHeld, KeepsGrants, SparesOthers}
use Rattle.plan_state.proofs.Sparing.{cancelled_spares, spares_both, spares_kept, spares_then, stepped_spares}
use Rattle.plan_state.specs.Runners.{Meaning}
use Rattle.plan_state.specs.declared.poll.Poll.{Poll}
use Rattle.plan_state.specs.declared.stage.Stage.{Stage}
use Rattle.plan_state.specs.declared.stage.Stage.TheVariants.{Ended, Ready, Unsent, Asked, Came}
use Rattle.plan_state.specs.declared.poll.Poll.TheVariants as poll
use Rattle.plan_state.proofs.Keeping.{grants_both, keeps_both, keeps_failed, keeps_handed_out, keeps_same, keeps_taken}
use Rattle.plan_state.proofs.OthersKept.{keeps_unchanged, still_under_way}
use Rattle.sftp_core.specs.Table.{asks_handle, count, is_waiting}
use Rattle.sftp_core.specs.declared.id_record.IdRecord.{IdRecord}
use Rattle.sftp_core.specs.declared.id_record.IdRecord.TheVariants.{Answered, Granted, Waiting}
use Rattle.sftp_core.proofs.Tables.{count-remove}
use Rattle.sftp_client.proofs.Faults.{faults_kept, stop_faults}
use Rattle.sftp_client.proofs.Lowering.{all_awaited}
use Rattle.sftp_file.proofs.Steps.{cancelled_keeps}
use Rattle.sftp_client.specs.Sessions.{
  FlushesQueue,
  FlushesUnfailed,
  IsKept,
  SendStops,
  SftpValue,
  TakesFrame,
  TakesOrKept,
  TakesUnfailed,
  TakesWhole,
  failed_by,
  fault_by,
  kept_after,
  with_core,
  with_queue_handed_out,
}
use Rattle.sftp_client.specs.Waits.{ArePollRounds, HasFinished, HasWaited, MayWait, PolledIn, RoundFails, SendsAndTakes, WaitStops, WaitsIn}

-- ---- a core over a round

kept_out : (old new : Core) → new ≡ handed_out old → KeepsHeld old new
kept_out old new is = subst (λ (c : Core). KeepsHeld old c) (sym is) (keeps_handed_out old)

kept_failed : (old new : Core) (fault : Fault) → new ≡ failed_with old fault → KeepsHeld old new
kept_failed old new fault is = subst (λ (c : Core). KeepsHeld old c) (sym is) (keeps_failed old fault)

kept_by_fault : (old : Core) (f : Option Fault) → KeepsHeld old (failed_by f old)
kept_by_fault old None = keeps_same old
kept_by_fault old (Some fault) = keeps_failed old fault

kept_by_error : (old new : Core) (e : Error) → new ≡ kept_after e old → KeepsHeld old new
kept_by_error old new e is = subst (λ (c : Core). KeepsHeld old c) (sym is) (kept_by_fault old (fault_by e))

-- ---- a session over a round

send_stops : {L S : Type 0} (state : L → LinkView S) (old new : SftpValue L) (e : Error) → SendStops state old new e
    → KeepsHeld old.core new.core
send_stops state old new e h = kept_by_error old.core new.core e (ap (λ (s : SftpValue _). s.core) h.left)

unfailed_flush : {L S : Type 0} (state : L → LinkView S) (old new : SftpValue L) (result : Result (Unit {0}) Error)
    → FlushesUnfailed state old new result → KeepsHeld old.core new.core
unfailed_flush state old new (Ok u) h = kept_out old.core new.core (ap (λ (s : SftpValue _). s.core) h.left)
unfailed_flush state old new (Err e) (inl h) = send_stops state old new e h
unfailed_flush state old new (Err e) (inr (inr h)) =
    keeps_unchanged old.core new.core (ap (λ (s : SftpValue _). s.core) h.1.left)
unfailed_flush state old new (Err e) (inr (inl h)) =
    keeps_both old.core (handed_out old.core) new.core (kept_out old.core (handed_out old.core) refl)
    (send_stops state (with_queue_handed_out old) new e h)

kept_same : {L : Type 0} (old new : SftpValue L) (e : Error) → IsKept old new e → new.core ≡ old.core
kept_same old new (error.BackgroundTaskFailure fault) h = ap (λ (s : SftpValue _). s.core) h.1
kept_same old new error.OutOfMemory h = absurd h
kept_same old new error.LinkFault h = absurd h
kept_same old new error.LinkEnded h = absurd h
kept_same old new (error.UnsupportedSftpProtocol version) h = absurd h
kept_same old new (error.FormatError kind) h = absurd h
kept_same old new (error.HandleTooLong len) h = absurd h
kept_same old new (error.InvalidResponseId id) h = absurd h
kept_same old new (error.InvalidResponse id) h = absurd h
kept_same old new (error.SftpError code message language) h = absurd h
kept_same old new (error.UnsupportedExtension extension) h = absurd h
kept_same old new (error.IOError kind) h = absurd h

flush_stays : {L S : Type 0} (state : L → LinkView S) (old new : SftpValue L) (result : Result (Unit {0}) Error)
    → FlushesQueue state old new result → KeepsHeld old.core new.core
flush_stays state old new (Ok u) h = unfailed_flush state old new (Ok u) h.1
flush_stays state old new (Err e) (inl h) = keeps_unchanged old.core new.core (kept_same old new e h)
flush_stays state old new (Err e) (inr h) = unfailed_flush state old new (Err e) h.1

frame_stays : {L S : Type 0} (state : L → LinkView S) (old new : SftpValue L) → IsSome (info_of old.core.phase)
    → TakesFrame state old new → KeepsHeld old.core new.core
frame_stays state old new opened h = keeps_taken old.core new.core (reply_at h.body) h.told opened h.right h.taken

whole_stops : {L S : Type 0} (state : L → LinkView S) (old new : SftpValue L) (e : Error)
    → TakesWhole state old new (Err e) → KeepsHeld old.core new.core
whole_stops state old new e (inl h) = kept_by_error old.core new.core e (ap (λ (s : SftpValue _). s.core) h.left)
whole_stops state old new e (inr h) = kept_failed old.core new.core h.fault (ap (λ (s : SftpValue _). s.core) h.left)

unfailed_take : {L S : Type 0} (state : L → LinkView S) (old new : SftpValue L) (result : Result Bool Error)
    → IsSome (info_of old.core.phase) → TakesUnfailed state old new result → KeepsHeld old.core new.core
unfailed_take state old new (Ok true) opened h = frame_stays state old new opened h.1
unfailed_take state old new (Ok false) opened h = keeps_unchanged old.core new.core
    (ap (λ (s : SftpValue _). s.core) h.sends.left)
unfailed_take state old new (Err e) opened (inl h) = send_stops state old new e h
unfailed_take state old new (Err e) opened (inr h) = whole_stops state old new e h.1

take_stays : {L S : Type 0} (state : L → LinkView S) (old new : SftpValue L) (result : Result Bool Error)
    → IsSome (info_of old.core.phase) → TakesOrKept state old new result → KeepsHeld old.core new.core
take_stays state old new (Ok took) opened h = unfailed_take state old new (Ok took) opened h.1
take_stays state old new (Err e) opened (inl h) = keeps_unchanged old.core new.core (kept_same old new e h)
take_stays state old new (Err e) opened (inr h) = unfailed_take state old new (Err e) opened h.1

-- a round that went well, and one that went wrong
pub round_stays : {L S : Type 0} (state : L → LinkView S) (old new : SftpValue L) → IsSome (info_of old.core.phase)
    → SendsAndTakes state old new → KeepsHeld old.core new.core
round_stays state old new opened h =
    let first = flush_stays state old h.mid (Ok tt) h.sends in
    keeps_both old.core h.mid.core new.core first (take_stays state h.mid new (Ok h.took) (first.grants.opened opened)
    h.takes)

pub fail_stays : {L S : Type 0} (state : L → LinkView S) (old new : SftpValue L) (e : Error)
    → IsSome (info_of old.core.phase)
    → RoundFails state old new e → KeepsHeld old.core new.core
fail_stays state old new e opened (inl h) = flush_stays state old new (Err e) h
fail_stays state old new e opened (inr h) =
    let first = flush_stays state old h.0 (Ok tt) h.1.0 in
    keeps_both old.core h.0.core new.core first (take_stays state h.0 new (Err e) (first.grants.opened opened) h.1.1)

-- ---- a frame is taken in a round where a reply is missing

-- a core has a ticket whose reply is missing
pub record AwaitsOne (core : Core) : Type 0 where
  pub ticket : ℕ
  pub counted : IsTrue (is_ticket (record_at core ticket))
  pub missing : reply_in (record_at core ticket) ≡ None

waiting_here : (core : Core) (ticket : ℕ) (p : Option IdRecord) → record_at core ticket ≡ p → IsTrue (is_ticket p)
    → reply_in p ≡ None
    → 0 < count is_waiting core.table
waiting_here core ticket (Some (Waiting kind sent wanted)) here counted none =
    let w = count-remove is_waiting core.table ticket (Waiting kind sent wanted) here in omega (arith, w)
waiting_here core ticket (Some (Answered kind r)) here counted none = absurd cc
waiting_here core ticket (Some (Granted handle users)) here counted none = absurd cc
waiting_here core ticket None here counted none = absurd cc

took_frame : {L S : Type 0} (state : L → LinkView S) (old new : SftpValue L) (took : Bool) → 0 < awaited_of old.core
    → TakesUnfailed state old new (Ok took) → took ≡ true
took_frame state old new true some h = refl
took_frame state old new false some h = absurd (omega (arith, some, h.none))

pub round_takes : {L S : Type 0} (state : L → LinkView S) (old new : SftpValue L) (h : SendsAndTakes state old new)
    → IsSome (info_of old.core.phase) → AwaitsOne old.core → h.took ≡ true
round_takes state old new h opened one =
    let out : h.mid.core ≡ handed_out old.core = ap (λ (s : SftpValue _). s.core) h.sends.1.left in
    let some = waiting_here old.core one.ticket (record_at old.core one.ticket) refl one.counted one.missing in
    let all = all_awaited old.core opened in
    let due : 0 < awaited_of h.mid.core = subst (λ (c : Core). 0 < awaited_of c) (sym out) (omega (arith, some, all)) in
    took_frame state h.mid new h.took due h.takes.1

-- the link doesn't fail in a round that goes well
took_unfaulted : {L S : Type 0} (state : L → LinkView S) (old new : SftpValue L) (took : Bool)
    → TakesUnfailed state old new (Ok took) → (state new.link).faults ≡ (state old.link).faults
took_unfaulted state old new true h = h.1.unfaulted.cause
took_unfaulted state old new false h = h.sends.unfaulted.cause

pub round_unfaulted : {L S : Type 0} (state : L → LinkView S) (old new : SftpValue L) → SendsAndTakes state old new
    → (state new.link).faults ≡ (state old.link).faults
round_unfaulted state old new h = took_unfaulted state h.mid new h.took h.takes.1 ∙ h.sends.1.unfaulted.cause

-- ---- a call over rounds

-- what holds between two rounds
pub record WaitsOn {W M V L S : Type 0} (s : Meaning W M V) (state : L → LinkView S) (count : ℕ) (old new : SftpValue L)
    (p q : CallValue M) : Type 0 where
  pub rounds : ArePollRounds (WaitsIn s) state count old new p q
  pub may : MayWait s new.core q
  pub grants : KeepsGrants old.core new.core
  pub others : KeepsOtherTickets old.core new.core p.stage q.stage
  pub spares : SparesOthers old.core new.core (IsNoneOfCall p.stage) (IsNoneOfCall q.stage)
  pub unfaulted : (state new.link).faults ≡ (state old.link).faults

pub waits_first : {W M V L S : Type 0} (s : Meaning W M V) (state : L → LinkView S) (old : SftpValue L)
    (p : CallValue M)
    → MayWait s old.core p → WaitsOn s state 0 old old p p
waits_first s state old p may =
    record {
      rounds = (refl, refl);
      may = may;
      grants = (keeps_same old.core).grants;
      others = λ ticket kind apart h. (h, apart);
      spares = spares_kept old.core old.core (IsNoneOfCall p.stage) (keeps_same old.core);
      unfaulted = refl;
    }

-- what a poll leaves to the call and to the session
pub record PollLeaves {W M V L : Type 0} (s : Meaning W M V) (old new : SftpValue L) (p q : CallValue M)
    (result : Poll (Result V Error)) : Type 0 where
  pub held : IsHeld s new.core q
  pub holds : HoldsReady s new.core result
  pub grants : KeepsGrants old.core new.core
  pub others : KeepsOtherTickets old.core new.core p.stage q.stage
  pub spares : SparesOthers old.core new.core (IsNoneOfCall p.stage) (IsNoneOfCall q.stage)
  pub opened : IsSome (info_of new.core.phase)
  pub link : new.link ≡ old.link

holds_nothing : {W M V : Type 0} (s : Meaning W M V) (core : Core) (result : Poll (Result V Error))
    → result ≡ poll.Ready (Err error.OutOfMemory) → HoldsReady s core result
holds_nothing s core result is = subst (λ r. HoldsReady s core r) (sym is) tt

poll_leaves : {W M V L : Type 0} (s : Meaning W M V) (old new : SftpValue L) (p q : CallValue M)
    (result : Poll (Result V Error)) → MayWait s old.core p → PolledIn s old new p q result
    → PollLeaves s old new p q result
poll_leaves s old new p q result may (inl h) =
    record {
      held = h.0.held;
      holds = h.0.holds;
      grants = h.0.grants;
      others = h.0.others;
      spares = stepped_spares s old.core new.core p q result h.0;
      opened = h.0.grants.opened may.opened;
      link = ap (λ (x : SftpValue _). x.link) h.1;
    }
poll_leaves s old new p q result may (inr h) =
    record {
      held = subst (λ (x : SftpValue _). IsHeld s x.core q) (sym h.1.1.0)
          (subst (λ x. IsHeld s old.core x) (sym h.1.1.1) may.under_way.held);
      holds = holds_nothing s new.core result h.1.0;
      grants = subst (λ (x : SftpValue _). KeepsGrants old.core x.core) (sym h.1.1.0) (keeps_same old.core).grants;
      others = subst (λ (x : SftpValue _). KeepsOtherTickets old.core x.core p.stage q.stage) (sym h.1.1.0)
          (subst (λ x. KeepsOtherTickets old.core old.core p.stage x.stage) (sym h.1.1.1)
          (λ ticket kind apart here. (here, apart)));
      spares = subst (λ (x : SftpValue _). SparesOthers old.core x.core (IsNoneOfCall p.stage) (IsNoneOfCall q.stage))
          (sym h.1.1.0)
          (subst (λ x. SparesOthers old.core old.core (IsNoneOfCall p.stage) (IsNoneOfCall x.stage)) (sym h.1.1.1)
          (spares_kept old.core old.core (IsNoneOfCall p.stage) (keeps_same old.core)));
      opened = subst (λ (x : SftpValue _). IsSome (info_of x.core.phase)) (sym h.1.1.0) may.opened;
      link = ap (λ (x : SftpValue _). x.link) h.1.1.0;
    }

-- a call without an answer is under way still
pending_on : {W M V L : Type 0} (s : Meaning W M V) (old new : SftpValue L) (p q : CallValue M)
    → PolledIn s old new p q poll.Pending → IsUnderWay s new.core q
pending_on s old new p q (inl h) = record { over = h.0.over; held = h.0.held }
pending_on s old new p q (inr h) = absurd cc

-- it awaits a reply that is missing
pending_awaits : {W M V L : Type 0} (s : Meaning W M V) (old new : SftpValue L) (p q : CallValue M)
    → PolledIn s old new p q poll.Pending → AwaitsOne new.core
pending_awaits s old new p q (inl h) =
    let held : IsHeldAt s new.core q.runner (Asked h.0.awaits.0) =
    subst (λ x. IsHeldAt s new.core q.runner x) h.0.awaits.1.0 h.0.held in
    record { ticket = h.0.awaits.0; counted = held.counted; missing = h.0.awaits.1.1 }
pending_awaits s old new p q (inr h) = absurd cc

others_both : (a b c : Core) (x y z : Stage) → KeepsOtherTickets a b x y → KeepsOtherTickets b c y z
    → KeepsOtherTickets a c x z
others_both a b c x y z first last ticket kind apart h =
    let mid = first ticket kind apart h in last ticket kind mid.1 mid.0

others_kept : (a b c : Core) (x y : Stage) → KeepsOtherTickets a b x y → KeepsHeld b c → KeepsOtherTickets a c x y
others_kept a b c x y first k ticket kind apart h =
    let mid = first ticket kind apart h in (k.holds ticket kind mid.0, mid.1)

-- a round
pub waits_next : {W M V L S : Type 0} (s : Meaning W M V) (state : L → LinkView S) (count : ℕ)
    (old mid polled new : SftpValue L)
    (p m q : CallValue M) → WaitsOn s state count old mid p m → PolledIn s mid polled m q poll.Pending
    → SendsAndTakes state polled new → WaitsOn s state (count + 1) old new p q
waits_next s state count old mid polled new p m q w pending round =
    let next : suc count ≡ count + 1 = omega arith in
    let left = poll_leaves s mid polled m q poll.Pending w.may pending in
    let stays = round_stays state polled new left.opened round in
    subst (λ (n : ℕ). WaitsOn s state n old new p q) next (record {
      rounds = (
        mid,
        (
          m,
          (
            w.rounds,
            record {
              mid = polled;
              waits = pending;
              round = round;
              took = round_takes state polled new round left.opened (pending_awaits s mid polled m q pending);
            },
          ),
        ),
      );
      may = record {
        opened = stays.grants.opened left.opened;
        under_way = still_under_way s polled.core new.core q stays (pending_on s mid polled m q pending);
      };
      grants = grants_both old.core polled.core new.core (grants_both old.core mid.core polled.core w.grants
          left.grants) stays.grants;
      others = others_kept old.core polled.core new.core p.stage q.stage
          (others_both old.core mid.core polled.core p.stage m.stage q.stage w.others left.others) stays;
      spares = spares_then old.core polled.core new.core (IsNoneOfCall p.stage) (IsNoneOfCall q.stage)
          (spares_both old.core mid.core polled.core (IsNoneOfCall p.stage) (IsNoneOfCall m.stage)
          (IsNoneOfCall q.stage) w.spares left.spares)
          stays;
      unfaulted = round_unfaulted state polled new round ∙ (ap (λ l. (state l).faults) left.link ∙ w.unfaulted);
    })

-- the call answered
pub waits_end : {W M V L S : Type 0} (s : Meaning W M V) (state : L → LinkView S) (count : ℕ)
    (old mid new : SftpValue L)
    (p m q : CallValue M) (result : Result V Error) → WaitsOn s state count old mid p m
    → PolledIn s mid new m q (poll.Ready result) → HasWaited s state old new p q result
waits_end s state count old mid new p m q result w polled =
    let left = poll_leaves s mid new m q (poll.Ready result) w.may polled in
    record {
      count = count;
      mid = mid;
      call = m;
      rounds = w.rounds;
      ends = inl (inl polled);
      held = left.held;
      holds = left.holds;
      grants = grants_both old.core mid.core new.core w.grants left.grants;
      others = others_both old.core mid.core new.core p.stage m.stage q.stage w.others left.others;
      spares = spares_both old.core mid.core new.core (IsNoneOfCall p.stage) (IsNoneOfCall m.stage)
          (IsNoneOfCall q.stage) w.spares left.spares;
      faults = faults_kept result _ _ new.core.fault (ap (λ l. (state l).faults) left.link ∙ w.unfaulted);
    }

-- or no round was left
pub waits_out : {W M V L S : Type 0} (s : Meaning W M V) (state : L → LinkView S) (count : ℕ) (old new : SftpValue L)
    (p q : CallValue M) → WaitsOn s state count old new p q → count ≡ 2 ^ 64 - 1
    → HasWaited {V = V} s state old new p q (Err error.OutOfMemory)
waits_out s state count old new p q w all =
    record {
      count = count;
      mid = new;
      call = q;
      rounds = w.rounds;
      ends = inr (all, (refl, (refl, refl)));
      held = w.may.under_way.held;
      holds = tt;
      grants = w.grants;
      others = w.others;
      spares = w.spares;
      faults = w.unfaulted;
    }

-- or a round went wrong
pub waits_stop : {W M V L S : Type 0} (s : Meaning W M V) (state : L → LinkView S) (count : ℕ)
    (old mid polled new : SftpValue L)
    (p m q : CallValue M) (e : Error) → WaitsOn s state count old mid p m → PolledIn s mid polled m q poll.Pending
    → RoundFails state polled new e → HasWaited s state old new p q (Err e)
waits_stop {V = V} s state count old mid polled new p m q e w pending fails =
    let left = poll_leaves s mid polled m q poll.Pending w.may pending in
    let stays = fail_stays state polled new e left.opened fails in
    let on = still_under_way s polled.core new.core q stays (pending_on s mid polled m q pending) in
    record {
      count = count;
      mid = mid;
      call = m;
      rounds = w.rounds;
      ends = inl (inr (polled, (e, (pending, (fails, refl)))));
      held = on.held;
      holds = tt;
      grants = grants_both old.core polled.core new.core (grants_both old.core mid.core polled.core w.grants
          left.grants) stays.grants;
      others = others_kept old.core polled.core new.core p.stage q.stage
          (others_both old.core mid.core polled.core p.stage m.stage q.stage w.others left.others) stays;
      spares = spares_then old.core polled.core new.core (IsNoneOfCall p.stage) (IsNoneOfCall q.stage)
          (spares_both old.core mid.core polled.core (IsNoneOfCall p.stage) (IsNoneOfCall m.stage)
          (IsNoneOfCall q.stage) w.spares left.spares)
          stays;
      faults = stop_faults V state (state old.link).faults polled new e (ap (λ l. (state l).faults) left.link
          ∙ w.unfaulted) fails;
    }

pub waits_count : {W M V L S : Type 0} (s : Meaning W M V) (state : L → LinkView S) (count : ℕ)
    (old mid polled : SftpValue L)
    (p m q : CallValue M) → (state old.link).faults < 2 ^ 64 - 1 → WaitsOn s state count old mid p m
    → PolledIn s mid polled m q poll.Pending → (state polled.link).faults < 2 ^ 64 - 1
waits_count s state count old mid polled p m q few w pending =
    let left = poll_leaves s mid polled m q poll.Pending w.may pending in
    subst (λ (n : ℕ). n < 2 ^ 64 - 1) (sym (ap (λ l. (state l).faults) left.link ∙ w.unfaulted)) few

-- ---- a call that is given up once it was run

pub ended_by : {W M V L S : Type 0} (s : Meaning W M V) (state : L → LinkView S) (count : ℕ) (old new : SftpValue L)
    (p q : CallValue M) (value : V) → WaitStops s state count old new p q (Ok value) → is_ended q.stage ≡ true
ended_by s state count old new p q value (inl (inl (inl h))) = h.0.over
ended_by s state count old new p q value (inl (inl (inr h))) = absurd cc
ended_by s state count old new p q value (inl (inr h)) = absurd cc
ended_by s state count old new p q value (inr h) = absurd cc

-- nothing is left of a call that has answered
pub nothing_left : (core : Core) (stage : Stage) → is_ended stage ≡ true → core_after_cancel core stage ≡ core
nothing_left core Ended over = refl
nothing_left core Ready over = absurd cc
nothing_left core (Unsent asking) over = absurd cc
nothing_left core (Asked ticket) over = absurd cc
nothing_left core (Came t) over = absurd cc

pub given_up : {W M V L S : Type 0} (s : Meaning W M V) (state : L → LinkView S) (old mid : SftpValue L) (new : Core)
    (p last : CallValue M) (result : Result V Error) → HasWaited s state old mid p last result
    → CancelsAwaited mid.core new last.stage
    → HoldsReady s new (poll.Ready result) × OnOk result (KeepsGrants old.core new)
given_up s state old mid new p last (Err e) w cancels = (tt, tt)
given_up s state old mid new p last (Ok value) w cancels =
    let over = ended_by s state w.count w.mid mid w.call last value w.ends in
    let same : new ≡ mid.core = cancels.core ∙ nothing_left mid.core last.stage over in
    let P : Core → Type 0 = λ (c : Core). CountsGrant c (s.grant value) × KeepsGrants old.core c in
    subst P (sym same) (w.holds, w.grants)

pub finish_spares : (old mid new : Core) (before last : Stage)
    → SparesOthers old mid (IsNoneOfCall before) (IsNoneOfCall last)
    → CancelsAwaited mid new last → SparesOthers old new (IsNoneOfCall before) (λ id. Unit {0})
finish_spares old mid new before last spares cancels =
    spares_both old mid new (IsNoneOfCall before) (IsNoneOfCall last) (λ id. Unit {0}) spares
    (cancelled_spares mid new last cancels)

pub finished : {W M V L S : Type 0} (s : Meaning W M V) (state : L → LinkView S) (old mid inside new : SftpValue L)
    (p last : CallValue M) (result : Result V Error) → HasWaited s state old mid p last result → inside ≡ mid
    → CancelsAwaited inside.core new.core last.stage → new ≡ with_core inside new.core
    → HasFinished s state old new p result
finished s state old mid inside new p last result w same cancels left =
    let waited = subst (λ (x : SftpValue _). HasWaited s state old x p last result) (sym same) w in
    let up = given_up s state old inside new.core p last result waited cancels in
    record {
      mid = inside;
      last = last;
      waited = waited;
      given_up = cancels;
      left = left;
      holds = up.0;
      grants = up.1;
      others = λ ticket kind apart h. let on = waited.others ticket kind apart h in
          cancels.others ticket kind on.1 on.0;
      spares = finish_spares old.core inside.core new.core p.stage last.stage waited.spares cancels;
    }

-- ---- the grants of others

-- a call that no HANDLE answers leaves every grant, whatever it answered
pub finish_keeps : {W M V L S : Type 0} (s : Meaning W M V) (state : L → LinkView S) (old new : SftpValue L)
    (p : CallValue M)
    (result : Result V Error) → ((m : M) → asks_handle (s.expected m) ≡ false) → HasFinished s state old new p result
    → KeepsGrants old.core new.core
finish_keeps s state old new p result none h =
    grants_both old.core h.mid.core new.core h.waited.grants
    (cancelled_keeps s h.mid.core new.core h.last (none h.last.runner) h.waited.held h.given_up)
