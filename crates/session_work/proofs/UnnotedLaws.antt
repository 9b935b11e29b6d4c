-- What leaves no entry: a turn up to the next one, and tickets that are dropped.
use Rattle.std.proofs.Common.{◌≡◌, ◌<◌, ◌≤◌, ◌+◌, ℕ, Bool, true, false, List, [], Some, None, refl, ap, sym, ◌∙◌, subst, arith}
use Rattle.std.specs.Prelude.{is_some, length, slice_get, slice_index_or, slice_set}
use Rattle.std.proofs.lemmas.List.{length-set}
use Rattle.std.proofs.lemmas.Option.{slice_get-get_or}
use Rattle.sftp_core.specs.Core.{Core, core_after_abandon}
use Rattle.plan_runner.specs.Pending.{slots_times}
use Rattle.session_model.specs.declared.entry.Entry.{Entry}
use Rattle.session_model.specs.Calls.{Setting}
use Rattle.session_model.specs.Turns.{ClosesTo}
use Rattle.session_driver.specs.Session.{IsLater, LessBy, is_event}
use Rattle.session_driver.specs.declared.session.Stepped.{Stepped}
use Rattle.session_laws.specs.Changes.{spent_lane}
use Rattle.session_laws.specs.Lanes.{LaneValue, Ticketed}
use Rattle.session_laws.proofs.LaneLaws.{tickets_count}
use Rattle.session_work.specs.Tokens.{AreCounted}
use Rattle.session_laws.specs.Rest.{AtRest, begun_of, weigh}
use Rattle.session_laws.proofs.ForgetLaws.{unawaited_forgotten}
use Rattle.session_work.specs.Closing.{IsClosed}
use Rattle.session_work.specs.Letting.{IsLetGo}
use Rattle.session_work.specs.Noting.{with_begun, turned_in}
use Rattle.session_work.specs.Working.{LanesValue, StepsIn, NotesNothing, IsAtRestOpen, lane_in, lanes_left, work_in}
use Rattle.session_work.proofs.BegunLaws.{begun_same}
use Rattle.session_work.proofs.CancellingLaws.{there_of}
use Rattle.session_work.proofs.ClosingLaws.{fewer_grants}
use Rattle.session_work.proofs.Contents.{lane_set, set_here, state_at}

pub unnoted_self : (s : Setting) (c : LanesValue) → IsAtRestOpen s c → NotesNothing s c c
unnoted_self s c w = record { works = w; same = refl; work = omega arith }

pub unnoted_on : (s : Setting) (a b c : LanesValue) → NotesNothing s a b → NotesNothing s b c → NotesNothing s a c
unnoted_on s a b c x y =
    record {
      works = y.works;
      same = y.same ∙ ap (λ (z : LanesValue). record z { core = c.core; states = c.states }) x.same;
      work = (let first = x.work in let second = y.work in omega (arith, first, second));
    }

-- ---- steps, closes and lanes that are let go

sum_less : (left less more : ℕ) → less ≤ more → left + less ≤ left + more
sum_less left less more le = omega (arith, le)

less_on : (b : Bool) (old mid new : ℕ) → mid ≤ old → LessBy b mid new → LessBy b old new
less_on true old mid new le less = omega (arith, le, less)
less_on false old mid new le less = omega (arith, le, less)

-- a step from behind it is a step from before it
pub steps_from : (s : Setting) (lane : ℕ) (old mid new : LanesValue) (event : Stepped) → NotesNothing s old mid
    → StepsIn s lane mid new event → StepsIn s lane old new event
steps_from s lane old mid new event u h =
    let x : StepsIn s lane (record old { core = mid.core; states = mid.states }) new event =
    subst (λ (y : LanesValue). StepsIn s lane y new event) u.same h in
    record {
      steps = x.steps;
      later = x.later;
      working = x.working;
      less = less_on (is_event event) (work_in old) (lanes_left old.facts old.past old.calls 0 + weigh mid.core)
          (work_in new) (sum_less (lanes_left old.facts old.past old.calls 0) (weigh mid.core) (weigh old.core) u.work)
          x.less;
      waits = x.waits;
    }

pub closed_on : (s : Setting) (before : List Entry) (old mid new : LanesValue) → IsClosed s before old mid
    → NotesNothing s mid new → IsClosed s before old new
closed_on s before old mid new x u =
    record {
      works = u.works;
      closes = subst (λ (y : LanesValue). ClosesTo s before y.past) (sym u.same) x.closes;
      later = subst (λ (y : LanesValue). IsLater s before y.past) (sym u.same) x.later;
      begun = ap (λ (y : LanesValue). y.begun) u.same ∙ x.begun;
      left = ap (λ (y : LanesValue). lanes_left y.facts y.past y.calls 0) u.same ∙ x.left;
      work = (let first = x.work in let second = u.work in omega (arith, first, second));
    }

pub let_go_on : (s : Setting) (before : List Entry) (old mid new : LanesValue) → IsLetGo s before old mid
    → NotesNothing s mid new → IsLetGo s before old new
let_go_on s before old mid new x u =
    record {
      works = u.works;
      closes = subst (λ (y : LanesValue). ClosesTo s before y.past) (sym u.same) x.closes;
      later = subst (λ (y : LanesValue). IsLater s before y.past) (sym u.same) x.later;
      begun = ap (λ (y : LanesValue). y.begun) u.same ∙ x.begun;
    }

-- ---- tickets

-- the lane without a ticket; it runs no call
abbrev pub forgot : LaneValue → ℕ → LaneValue
forgot v k = spent_lane v k None v.site

ticket_forgotten : (s : Setting) (lane k : ℕ) (c : LanesValue) (t : Ticketed) → IsAtRestOpen s c
    → lane < length c.states
    → (lane_in c.states lane).running ≡ None → slice_get (lane_in c.states lane).tickets k ≡ Some t
    → slots_times t.place (lane_in c.states lane).site.slots ≡ 0
    → NotesNothing s c (turned_in c lane (core_after_abandon c.core t.ticket) (forgot (lane_in c.states lane) k))
ticket_forgotten s lane k c t w lt idle here none =
    let now : LaneValue = forgot (lane_in c.states lane) k in
    let x = unawaited_forgotten s c.past c.core (lane_in c.states) c.begun lane k t w.rest (there_of s c lane w lt) idle
    here none in
    let st = w.stands in
    record {
      works = record {
        stands = record {
          calls = st.calls;
          ok = st.ok;
          facts = st.facts;
          fit = st.fit;
          asked = st.asked;
          count =
              length-set c.states lane now ∙ st.count;
          lanes = st.lanes;
        };
        rest = subst (λ (f : ℕ → LaneValue). AtRest s c.past (core_after_abandon c.core t.ticket) f c.begun)
            (sym (lane_set c.states lane now lt)) x.rest;
      };
      same = refl;
      work = x.work;
    }

-- what dropping the ticket at an index made of the lane and the core
pub record HasForgotten (core new : Core) (v now : LaneValue) (k : ℕ) : Type 0 where
  pub within : k < length v.tickets
  pub unawaited : (t : Ticketed) → slice_get v.tickets k ≡ Some t → slots_times t.place v.site.slots ≡ 0
  pub left : (t : Ticketed) → slice_get v.tickets k ≡ Some t → new ≡ core_after_abandon core t.ticket
  pub lane : now ≡ spent_lane v k v.running v.site

-- so it did where the code looked at the lane twice, for the index and for the change
pub has_forgotten : (states : List LaneValue) (lane k : ℕ) (v u now : LaneValue) (core new : Core)
    → lane < length states → v ≡ slice_index_or states lane v → u ≡ slice_index_or states lane u → k < length v.tickets
    → ((t : Ticketed) → slice_get v.tickets k ≡ Some t → slots_times t.place v.site.slots ≡ 0)
    → ((t : Ticketed) → slice_get u.tickets k ≡ Some t → new ≡ core_after_abandon core t.ticket) → now
    ≡ spent_lane u k u.running u.site → HasForgotten core new (lane_in states lane) now k
has_forgotten states lane k v u now core new lt first second within unawaited left is =
    let one : v ≡ lane_in states lane = state_at states lane v lt first in
    let two : u ≡ lane_in states lane = state_at states lane u lt second in
    record {
      within = subst (λ (y : LaneValue). k < length y.tickets) one within;
      unawaited = subst (λ (y : LaneValue). (t : Ticketed) → slice_get y.tickets k ≡ Some t
          → slots_times t.place y.site.slots ≡ 0) one unawaited;
      left = subst (λ (y : LaneValue). (t : Ticketed) → slice_get y.tickets k ≡ Some t → new
          ≡ core_after_abandon core t.ticket) two left;
      lane = is ∙ ap (λ (y : LaneValue). spent_lane y k y.running y.site) two;
    }

forgot_is : (core new : Core) (v now : LaneValue) (k : ℕ) → HasForgotten core new v now k → v.running ≡ None → now
    ≡ forgot v k
forgot_is core new v now k x idle = x.lane ∙ ap (λ (r : _). spent_lane v k r v.site) idle

-- it leaves no entry,
forgets_turned : (s : Setting) (lane k : ℕ) (c : LanesValue) (new : Core) (now : LaneValue) → IsAtRestOpen s c
    → lane < length c.states → (lane_in c.states lane).running ≡ None
    → HasForgotten c.core new (lane_in c.states lane) now k → NotesNothing s c (turned_in c lane new now)
forgets_turned s lane k c new now w lt idle x =
    let v : LaneValue = lane_in c.states lane in
    let none : Ticketed = record { place = 0; ticket = 0 } in
    let t : Ticketed = slice_index_or v.tickets k none in
    let here : slice_get v.tickets k ≡ Some t = slice_get-get_or v.tickets k none x.within in
    subst (λ (y : LanesValue). NotesNothing s c y) (λ i. turned_in c lane (sym (x.left t here) i)
    (sym (forgot_is c.core new v now k x idle) i)) (ticket_forgotten s lane k c t w lt idle here
    (x.unawaited t here))

-- and the lanes that run a call are those that ran one,
pub forgets_unnoted : (s : Setting) (lane k : ℕ) (c : LanesValue) (new : Core) (now : LaneValue) → IsAtRestOpen s c
    → lane < length c.states → (lane_in c.states lane).running ≡ None
    → HasForgotten c.core new (lane_in c.states lane) now k → c.begun ≡ begun_of (lane_in c.states)
    → NotesNothing s c (with_begun (begun_of (lane_in (slice_set c.states lane now))) (turned_in c lane new now))
forgets_unnoted s lane k c new now w lt idle x are =
    let none : is_some now.running ≡ is_some (lane_in c.states lane).running =
    ap (λ (y : LaneValue). is_some y.running) (forgot_is c.core new (lane_in c.states lane) now k x idle)
    ∙ sym (ap is_some idle) in
    subst (λ (b : ℕ → Bool). NotesNothing s c (with_begun b (turned_in c lane new now)))
    (are ∙ sym (begun_same c.states lane now lt none)) (forgets_turned s lane k c new now w lt idle x)

-- the lane runs no call then,
pub forgets_idle : (lane k : ℕ) (c : LanesValue) (new : Core) (now : LaneValue) → lane < length c.states
    → (lane_in c.states lane).running ≡ None → HasForgotten c.core new (lane_in c.states lane) now k
    → (lane_in (slice_set c.states lane now) lane).running ≡ None
forgets_idle lane k c new now lt idle x = ap (λ (y : LaneValue). y.running)
    (set_here c.states lane now lt ∙ forgot_is c.core new (lane_in c.states lane) now k x idle)

-- and has a ticket less
pub forgets_less : (lane k : ℕ) (c : LanesValue) (new : Core) (now : LaneValue) → lane < length c.states
    → HasForgotten c.core new (lane_in c.states lane) now k → length
    (lane_in (slice_set c.states lane now) lane).tickets < length (lane_in c.states lane).tickets
forgets_less lane k c new now lt x =
    (let less = fewer_grants (lane_in c.states lane).tickets k x.within in
    let same = ap (λ (y : LaneValue). length y.tickets) (set_here c.states lane now lt ∙ x.lane) in
    omega (arith, less, same))

-- the core counts each ticket of the lane
pub tickets_in : (s : Setting) (lane : ℕ) (c : LanesValue) → IsAtRestOpen s c → lane < length c.states
    → AreCounted c.core (lane_in c.states lane).tickets
tickets_in s lane c w lt k t got = tickets_count s c.past c.core (lane_in c.states) [] lane k t w.rest.between.tied
    (there_of s c lane w lt) got
