-- A lane that is let go.
use Rattle.std.proofs.Common.{
  ◌≡◌,
  ◌<◌,
  ◌≤◌,
  ◌+◌,
  ◌-◌,
  ◌^◌,
  ℕ,
  drop,
  take,
  take_all,
  Bool,
  true,
  false,
  List,
  [],
  ◌∷◌,
  Some,
  None,
  refl,
  ap,
  sym,
  ◌∙◌,
  subst,
  arith,
  inl,
  inr,
}
use Rattle.std.specs.Prelude.{is_some, length, nat_lt, slice_get, slice_index_or, slice_set, MatchBool}
use Rattle.std.specs.List.{list_any}
use Rattle.std.proofs.lemmas.Bool.Decides.{nat_tests}
use Rattle.std.proofs.lemmas.List.{length-set}
use Rattle.sftp_model.specs.Slots.{grant_of, slot_has}
use Rattle.sftp_model.specs.declared.slot.Slot.{Slot}
use Rattle.session_model.specs.declared.entry.Entry.{Entry}
use Rattle.session_model.specs.declared.entry.Entry.TheVariants as entry
use Rattle.session_model.specs.Calls.{Setting, current}
use Rattle.session_model.specs.Readings.{was_let_go}
use Rattle.session_driver.proofs.Journals.{later_on, later_self}
use Rattle.session_laws.specs.Changes.{closed_lane, let_go_lane}
use Rattle.session_laws.specs.Lanes.{Held, LaneValue}
use Rattle.session_laws.proofs.LaneLaws.{grants_count}
use Rattle.session_work.specs.Tokens.{AreGrants}
use Rattle.session_laws.specs.Ends.{LettingGo, StaysOpen, close_entry, let_go}
use Rattle.session_laws.proofs.LettingSteps.{at_rest, letting_begins, letting_ends, slots_closed, slots_passed}
use Rattle.session_laws.specs.Rest.{begun_of}
use Rattle.session_work.specs.Closing.{closed_in}
use Rattle.session_work.specs.Letting.{IsLetGo, LettingLane}
use Rattle.session_work.specs.Working.{LanesValue, LetsGoIn, IsAtRestOpen, lane_in}
use Rattle.session_work.proofs.BegunLaws.{begun_same}
use Rattle.session_work.proofs.Contents.{lane_set, set_here}

-- ---- slot by slot

pub letting_there : (s : Setting) (before : List Entry) (lane : ℕ) (c : LanesValue) (rest : List Slot)
    → LettingLane s before lane c rest → lane < length c.states
letting_there s before lane c rest h = (let there = h.there in let count = h.stands.count in
    omega (arith, there, count))

-- a slot is passed
pub letting_passes : (s : Setting) (before : List Entry) (lane : ℕ) (c : LanesValue) (slot : Slot) (rest : List Slot)
    → LettingLane s before lane c (slot ∷ rest) → StaysOpen (lane_in c.states lane).grants slot rest
    → LettingLane s before lane c rest
letting_passes s before lane c slot rest h stays =
    record {
      stands = h.stands;
      there = h.there;
      idle = h.idle;
      going =
          slots_passed s c.past c.core (lane_in c.states) c.begun lane slot rest h.going stays;
      closes = h.closes;
      later =
          h.later;
    }

-- or its grant is closed
pub letting_closes : (s : Setting) (before : List Entry) (lane k : ℕ) (c : LanesValue) (g : Held) (slot : Slot)
    (rest : List Slot) → LettingLane s before lane c (slot ∷ rest) → grant_of slot ≡ Some g.place
    → list_any (slot_has g.place) rest ≡ false
    → slice_get (lane_in c.states lane).grants k ≡ Some g → g.grant.id < 2 ^ 32
    → LettingLane s before lane (closed_in c lane k g) rest
letting_closes s before lane k c g slot rest h grant none here small =
    let lt = letting_there s before lane c (slot ∷ rest) h in
    let v : LaneValue = lane_in c.states lane in
    let x = slots_closed s c.past c.core (lane_in c.states) c.begun lane k g slot rest h.going h.there grant none here
    small in
    record {
      stands = record {
        calls = h.stands.calls;
        ok = h.stands.ok;
        facts = h.stands.facts;
        fit = h.stands.fit;
        asked = ap (λ (n : ℕ). n + 1) h.stands.asked;
        count = length-set c.states lane (closed_lane v k) ∙ h.stands.count;
        lanes = h.stands.lanes;
      };
      there = h.there;
      idle = ap (λ (y : LaneValue). y.running) (set_here c.states lane (closed_lane v k) lt) ∙ h.idle;
      going = subst (λ (f : ℕ → LaneValue). LettingGo s (close_entry g.grant ∷ c.past) (let_go c.core g.grant) f c.begun
          lane rest) (sym (lane_set c.states lane (closed_lane v k) lt)) x.letting;
      closes = inr ((g.place, (x.due, x.must)), h.closes);
      later = inr (x.next, h.later);
    }

pub letting_over : (s : Setting) (before : List Entry) (lane : ℕ) (old c : LanesValue) → LettingLane s before lane c []
    → c.begun ≡ old.begun → IsLetGo s before old c
letting_over s before lane old c h begun =
    record {
      works = record {
        stands = h.stands;
        rest = letting_ends s c.past c.core (lane_in c.states) c.begun lane
            h.going;
      };
      closes = h.closes;
      later = h.later;
      begun = begun;
    }

-- ---- the whole

-- the lanes once one is let go, before its grants are closed
abbrev pub let_go_in : LanesValue → ℕ → LanesValue
let_go_in c lane = record c {
  past = entry.LetGo lane ∷ c.past;
  states =
      slice_set c.states lane (let_go_lane (lane_in c.states lane));
}

-- a lane that has no call left runs none
pub idle_over : (s : Setting) (lane : ℕ) (c : LanesValue) → IsAtRestOpen s c → lane < length s.lanes
    → current s c.past lane
    ≡ None → (lane_in c.states lane).running ≡ None
idle_over s lane c w there none = (at_rest s c.past lane (lane_in c.states lane) []
    (w.rest.between.tied.each lane there) none).0

-- so its letting go leaves those that were begun
pub let_go_begun : (s : Setting) (lane : ℕ) (c : LanesValue) (now : LaneValue) → IsAtRestOpen s c
    → lane < length c.states
    → current s c.past lane ≡ None → let_go_lane (lane_in c.states lane) ≡ now → begun_of (lane_in c.states)
    ≡ begun_of (lane_in (slice_set c.states lane now))
let_go_begun s lane c now w lt none is =
    let there : lane < length s.lanes = (let count = w.stands.count in omega (arith, lt, count)) in
    sym (begun_same c.states lane now lt (ap (λ (y : LaneValue). is_some y.running) (sym is)
    ∙ sym (ap is_some (idle_over s lane c w there none))))

pub letting_starts : (s : Setting) (lane : ℕ) (c : LanesValue) → IsAtRestOpen s c → lane < length s.lanes
    → current s c.past lane
    ≡ None → was_let_go c.past lane ≡ false → LettingLane s (entry.LetGo lane ∷ c.past) lane (let_go_in c lane)
    (lane_in c.states lane).site.slots
letting_starts s lane c w there none held =
    let lt : lane < length c.states = (let count = w.stands.count in omega (arith, there, count)) in
    let v : LaneValue = lane_in c.states lane in
    let x = letting_begins s c.past c.core (lane_in c.states) c.begun lane w.rest there none held in
    record {
      stands = record {
        calls = w.stands.calls;
        ok = w.stands.ok;
        facts = w.stands.facts;
        fit = w.stands.fit;
        asked =
            w.stands.asked;
        count = length-set c.states lane (let_go_lane v) ∙ w.stands.count;
        lanes = w.stands.lanes;
      };
      there = there;
      idle = ap (λ (y : LaneValue). y.running) (set_here c.states lane (let_go_lane v) lt);
      going = subst (λ (f : ℕ → LaneValue). LettingGo s (entry.LetGo lane ∷ c.past) c.core f c.begun lane v.site.slots)
          (sym (lane_set c.states lane (let_go_lane v) lt)) x.1;
      closes = inl refl;
      later = inl refl;
    }

at_true : (b : Bool) (X Y : Type 0) → b ≡ true → X → MatchBool b X Y
at_true true X Y e x = x
at_true false X Y e x = absurd cc

at_false : (b : Bool) (X Y : Type 0) → b ≡ false → Y → MatchBool b X Y
at_false false X Y e y = y
at_false true X Y e y = absurd cc

pub lets_lane_go : (s : Setting) (lane : ℕ) (c last : LanesValue) → IsAtRestOpen s c → lane < length s.lanes
    → current s c.past lane ≡ None → was_let_go c.past lane ≡ false
    → IsLetGo s (entry.LetGo lane ∷ c.past) (let_go_in c lane) last → LetsGoIn s lane c last
lets_lane_go s lane c last w there none held x =
    let next = (letting_begins s c.past c.core (lane_in c.states) c.begun lane w.rest there none held).0 in
    let is : nat_lt lane (length s.lanes) ≡ true = grind (arith, nat_tests) in
    record {
      lets_go = at_true (nat_lt lane (length s.lanes)) _ _ is (x.begun, (x.closes, x.works.rest.settled));
      later = later_on s c.past (entry.LetGo lane ∷ c.past) last.past (inr (next, later_self s c.past)) x.later;
      working = x.works;
    }

-- there is no such lane
pub lets_none_go : (s : Setting) (lane : ℕ) (c : LanesValue) → IsAtRestOpen s c → length c.states ≤ lane
    → LetsGoIn s lane c c
lets_none_go s lane c w out =
    (let count = w.stands.count in
    let is : nat_lt lane (length s.lanes) ≡ false = grind (arith, nat_tests) in
    record { lets_go = at_false (nat_lt lane (length s.lanes)) _ _ is refl; later = later_self s c.past; working = w })

-- ---- what a call of the code asks for

-- the core counts one user of each grant of the lane
pub letting_grants : (s : Setting) (before : List Entry) (lane : ℕ) (c : LanesValue) (rest : List Slot)
    → LettingLane s before lane c rest → AreGrants c.core (lane_in c.states lane).grants
letting_grants s before lane c rest h k g got = grants_count s c.past c.core (lane_in c.states) _ lane k g h.going.tied
    h.there got

-- a list by its first item and those behind it
pub first_is : {A : Type 0} (xs : List A) (x : A) → 1 ≤ length xs → x ≡ slice_index_or xs 0 x → xs
    ≡ x ∷ take (length xs - 1) (drop 1 xs)
first_is [] x some is = absurd (omega (arith, some))
first_is (y ∷ ys) x some is = λ i. sym is i ∷ sym (take_all (length (y ∷ ys) - 1) ys (omega arith)) i

pub none_left : {A : Type 0} (xs : List A) → length xs < 1 → xs ≡ []
none_left [] none = refl
none_left (x ∷ xs) none = absurd (omega (arith, none))
