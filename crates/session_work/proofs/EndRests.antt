-- A call that waits, or has ended, leaves its session at rest, but for the grants that are due then.
use Rattle.std.proofs.Common.{
  arith,
  ◌≡◌,
  ◌<◌,
  ◌≤◌,
  ◌==◌,
  ℕ,
  Bool,
  true,
  false,
  List,
  [],
  ◌∷◌,
  Option,
  Some,
  None,
  refl,
  ap,
  sym,
  ◌∙◌,
  subst,
  inr,
  ◌||◌,
  if◌then◌else◌,
}
use Rattle.std.specs.Prelude.{length, is_some}
use Rattle.sftp_model.specs.declared.outcome.Outcome.{Outcome}
use Rattle.sftp_model.specs.declared.slot.Move.TheVariants.{Wait}
use Rattle.sftp_core.specs.Core.{Core}
use Rattle.plan_runner.specs.Asking.{IsAmong}
use Rattle.plan_runner.specs.Pending.{own_place, reads_under}
use Rattle.session_model.specs.declared.event.Event.TheVariants.{End}
use Rattle.session_model.specs.declared.entry.Entry.{Entry}
use Rattle.session_model.specs.declared.entry.Entry.TheVariants as entry
use Rattle.session_model.specs.Readings.{answer, count_submitted, count_ended, own}
use Rattle.session_model.specs.Calls.{Setting, has_waited, is_wait, move_of}
use Rattle.session_model.specs.Journals.{IsNext, is_some_asked, may_cancel}
use Rattle.session_model.specs.Steady.{IsCancellableRun}
use Rattle.session_model.specs.Turns.{begun_but, begun_with}
use Rattle.session_model.proofs.CallLaws.{may_next}
use Rattle.session_model.proofs.CountLaws.{some_unanswered}
use Rattle.session_model.proofs.RunLaws.{begun_more, end_good}
use Rattle.session_laws.specs.Changes.{ended_lane, with_lane}
use Rattle.session_laws.specs.Lanes.{LaneValue, ticket_places}
use Rattle.session_laws.specs.Places.{is_in}
use Rattle.session_laws.proofs.HoldLaws.{of_in, ticket_index}
use Rattle.session_laws.proofs.LaneLaws.{replies_agree}
use Rattle.session_laws.proofs.TransferLaws.{place_below}
use Rattle.session_laws.proofs.PlaceLaws.{at_in}
use Rattle.session_laws.proofs.SessionLaws.{each_with}
use Rattle.session_laws.specs.Budgets.{KeepsIdBudget}
use Rattle.session_laws.specs.Rest.{AtRest, CountsJournal, IsTransferAt, LaneAsks, awaited_in, weigh}
use Rattle.session_laws.proofs.AskedLaws.{asks_on}
use Rattle.plan_runner.specs.declared.next.Running.{Running}
use Rattle.session_work.specs.Holding.{TurnTied}
use Rattle.session_work.specs.Rests.{EndsCall, GoesWithoutEntry, LaneWaits}
use Rattle.plan_model.specs.declared.call.Call.{Call}
use Rattle.session_work.specs.Turning.{TurnWaits}
use Rattle.session_work.specs.declared.lane.Moved.TheVariants as moved
use Rattle.session_work.proofs.AskRests.{Midway}
use Rattle.session_work.proofs.Holding.{with_here}

-- ---- an end

-- a lane whose call has ended awaits what its slots await
ended_asks : (past : List Entry) (lane : ℕ) (v : LaneValue) → v.running ≡ None
    → ((p : ℕ) → is_in p (ticket_places v.tickets) ≡ true → IsTransferAt past p) → LaneAsks past lane v
ended_asks past lane v idle others =
    record {
      current = λ p mine. absurd (let clash : ◌≡◌ {A = Option ℕ} None (Some p) = sym (ap own_place idle) ∙ mine in cc);
      only = λ p has. inr (others p has);
      keeps = λ g opens. absurd (let clash : ◌≡◌ {A = Option ℕ} None (Some g) = rw idle at opens in cc);
      fits = λ p b y looks there may. absurd (let clash : ◌≡◌ {A = Option ℕ} None (Some p) =
          sym (ap (λ (o : Option Running). awaited_in o v.site) idle) ∙ looks in cc);
      reads = λ x among. absurd (subst (λ (o : Option Running). IsAmong x (reads_under o)) idle among);
    }

pub ended_rests : (s : Setting) (past : List Entry) (core c new : Core) (lanes : ℕ → LaneValue) (begun : ℕ → Bool)
    (lane : ℕ) (now : LaneValue) (o : Outcome) → AtRest s past core lanes begun → lane < length s.lanes
    → Midway past core c → new ≡ c
    → ((p : ℕ) → is_in p (ticket_places now.tickets) ≡ true → IsTransferAt past p)
    → TurnTied s past new (with_lane lanes lane) lane now (moved.Ended o)
    → KeepsIdBudget s (entry.Event (End lane (count_ended past lane) o) ∷ past) new
    (with_lane lanes lane (ended_lane now now.site))
    → EndsCall s past core new (with_lane lanes lane (ended_lane now now.site)) begun lane now o
ended_rests s past core c new lanes begun lane now o h there m same others t spent =
    let b = h.between in
    let e : Entry = entry.Event (End lane (count_ended past lane) o) in
    let next : IsNext s past e = may_next s past e b.good.calm h.settled (refl, (now.site, t.move), b.good.ready) in
    let good : IsCancellableRun s (e ∷ past) (begun_but begun lane) =
    end_good s past begun lane o b.good.run b.good.ready b.good.unkept b.good.cancels next in
    let both = t.tied good.run in
    record {
      move = t.move;
      next = next;
      work = subst (λ (x : Core). weigh x ≤ weigh core) (sym same) m.work;
      between = record {
        good = good;
        due = both.0;
        tied = both.1;
        counted = subst (λ (x : Core). CountsJournal (e ∷ past) x) (sym same)
            (record { waiting = m.counted.waiting; sent = m.counted.sent });
        spends = spent;
        asks = λ w lt. each_with (λ n v. LaneAsks (e ∷ past) n v) lanes lane (ended_lane now now.site) (length s.lanes)
            (ended_asks (e ∷ past) lane (ended_lane now now.site) refl
            (λ p has. let t = others p has in record { asked = t.asked; here = t.here; transfers = t.transfers }))
            (λ n less ne. asks_on past (e ∷ past) n (lanes n) (λ p below. refl) (b.tied.each n less).goes.awaits
            (b.asks n less)) w lt;
      };
    }

-- ---- a call that waits

wait_left : (a b : Bool) → a ≡ true → (a || b) ≡ true
wait_left true b e = refl
wait_left false b e = absurd cc

wait_right : (a b : Bool) → b ≡ true → (a || b) ≡ true
wait_right true b e = refl
wait_right false b e = e

waits_now : (s : Setting) (past : List Entry) (lane place : ℕ) → move_of s past lane ≡ Some (Wait place)
    → has_waited s past lane ≡ true
waits_now s [] lane place e = ap is_wait e
waits_now s (entry.Event (End l c o) ∷ past) lane place e = wait_left
    (is_wait (move_of s (entry.Event (End l c o) ∷ past) lane)) (if l == lane then false else has_waited s past lane)
    (ap is_wait e)
waits_now s (e ∷ past) lane place w = wait_left (is_wait (move_of s (e ∷ past) lane)) (has_waited s past lane)
    (ap is_wait w)

waiting_good : (s : Setting) (past : List Entry) (begun : ℕ → Bool) (lane place : ℕ) → IsCancellableRun s past begun
    → move_of s past lane ≡ Some (Wait place) → IsCancellableRun s past (begun_with begun lane)
waiting_good s past begun lane place g move =
    record {
      run = g.run;
      calm = g.calm;
      ready = g.ready;
      unkept = g.unkept;
      cancels = λ l any. begun_more lane l begun (may_cancel s past l ≡ true)
          (λ is. subst (λ (n : ℕ). may_cancel s past n ≡ true) is
          (wait_right (is_some_asked (own past lane (count_ended past lane))) (has_waited s past lane)
          (waits_now s past lane place move))) (λ old. g.cancels l old) any;
    }

pub waits_rest : (s : Setting) (past : List Entry) (core new : Core) (lanes : ℕ → LaneValue) (begun : ℕ → Bool)
    (lane : ℕ) (c : Call) (now : LaneValue) → AtRest s past core lanes begun → lane < length s.lanes
    → TurnWaits c s.facts core new (lanes lane) now moved.Waits
    → TurnTied s past new (with_lane lanes lane) lane now moved.Waits
    → KeepsIdBudget s past new (with_lane lanes lane now)
    → LaneWaits s past core new (with_lane lanes lane now) begun lane
waits_rest s past core new lanes begun lane c now h there x t spent =
    let b = h.between in
    let v : LaneValue = lanes lane in
    let a : LaneAsks past lane v = b.asks lane there in
    let has : is_in x.ticket.place (ticket_places v.tickets) ≡ true =
    at_in (ticket_places v.tickets) x.k x.ticket.place (ticket_index v.tickets x.k x.ticket x.here) in
    let mine = of_in past lane (ticket_places v.tickets) x.ticket.place (b.tied.each lane there).holds.tied_of has in
    let below : x.ticket.place < count_submitted past = place_below past x.ticket.place mine.0 mine.1.0 in
    let missing : answer past x.ticket.place ≡ None = sym (replies_agree s past core lanes [] lane x.k x.ticket b.tied
    there x.here) ∙ x.missing in
    let runs : is_some now.running ≡ true = ap (λ (y : LaneValue). is_some y.running) x.same ∙ ap is_some x.was in
    record {
      place = t.0.0;
      move = t.0.1;
      runs = ap (λ (y : LaneValue). is_some y.running) (with_here lanes lane now) ∙ runs;
      unanswered = some_unanswered past x.ticket.place below missing;
      work = subst (λ (y : Core). weigh y ≤ weigh core) (sym x.core) (omega arith);
      rest = record {
        settled = h.settled;
        between = record {
          good = waiting_good s past begun lane t.0.0 b.good t.0.1;
          due = b.due;
          tied = t.1;
          counted = subst (λ (y : Core). CountsJournal past y) (sym x.core) b.counted;
          spends = spent;
          asks = λ w lt. each_with (λ n y. LaneAsks past n y) lanes lane now (length s.lanes)
              (subst (λ (y : LaneValue). LaneAsks past lane y) (sym x.same) a) (λ n less ne. b.asks n less) w lt;
        };
      };
    }

-- ---- a call that goes on without an entry

pub goes_rest : (s : Setting) (past : List Entry) (core c new : Core) (lanes : ℕ → LaneValue) (begun : ℕ → Bool)
    (lane : ℕ) (now : LaneValue) (r : Running) → AtRest s past core lanes begun → lane < length s.lanes
    → Midway past core c → new ≡ c → now.running ≡ Some r → LaneAsks past lane now
    → TurnTied s past new (with_lane lanes lane) lane now moved.Went
    → KeepsIdBudget s past new (with_lane lanes lane now)
    → GoesWithoutEntry s past core new (with_lane lanes lane now) begun
goes_rest s past core c new lanes begun lane now r h there m same was asks t spent =
    let b = h.between in
    record {
      work = subst (λ (x : Core). weigh x ≤ weigh core) (sym same) m.work;
      rest = record {
        settled = h.settled;
        between = record {
          good = b.good;
          due = b.due;
          tied = t;
          counted = subst (λ (x : Core). CountsJournal past x) (sym same) m.counted;
          spends = spent;
          asks = λ w lt. each_with (λ n y. LaneAsks past n y) lanes lane now (length s.lanes) asks
              (λ n less ne. b.asks n less) w lt;
        };
      };
    }
