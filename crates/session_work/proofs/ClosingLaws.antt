-- The grants of a lane that are due are closed, one after another.
use Rattle.std.proofs.Common.{◌≡◌, ◌<◌, ◌≤◌, ◌+◌, ◌^◌, ℕ, zero, suc, List, [], ◌∷◌, Option, Some, None, refl, ap, sym, ◌∙◌, subst, arith, inr}
use Rattle.std.specs.Prelude.{length, reverse, slice_get, slice_set}
use Rattle.std.proofs.lemmas.List.{length-reverse, length-set}
use Rattle.sftp_model.specs.declared.request.Request.TheVariants as request
use Rattle.session_model.specs.declared.event.Event.TheVariants.{Submit}
use Rattle.session_model.specs.declared.entry.Entry.{Entry}
use Rattle.session_model.specs.declared.entry.Entry.TheVariants as entry
use Rattle.session_model.specs.Calls.{Setting}
use Rattle.session_model.specs.Readings.{count_submitted}
use Rattle.session_laws.specs.Changes.{closed_lane}
use Rattle.session_laws.specs.Dues.{unheld_of}
use Rattle.session_laws.specs.Lanes.{Held, LaneValue, grant_places}
use Rattle.session_laws.specs.Places.{without_index}
use Rattle.session_laws.proofs.LaneLaws.{grants_count}
use Rattle.session_work.specs.Tokens.{AreGrants}
use Rattle.session_laws.specs.Ends.{close_entry, let_go}
use Rattle.session_laws.specs.Rest.{IsBetweenSteps, opened_in, weigh}
use Rattle.session_laws.proofs.CloseSteps.{due_closed, none_due_rests}
use Rattle.session_work.specs.Closing.{IsClosingLane, IsClosed, closed_in}
use Rattle.session_work.specs.Working.{LanesValue, HasGivenLanes, lane_in, lanes_left}
use Rattle.session_work.proofs.Contents.{lane_set, set_here}
use Rattle.session_work.proofs.Remaining.{close_left}

-- there are no more requests than entries
pub few_asked : (past : List Entry) → count_submitted past ≤ length past
few_asked [] = omega arith
few_asked (entry.Event (Submit by id r) ∷ past) = (let few = few_asked past in omega (arith, few))
few_asked (_ ∷ past) = (let few = few_asked past in omega (arith, few))

-- a grant is one less
pub fewer_grants : {A : Type 0} (xs : List A) (k : ℕ) → k < length xs → length (without_index k xs) + 1 ≡ length xs
fewer_grants [] k lt = absurd (omega (arith, lt))
fewer_grants (x ∷ xs) zero lt = omega arith
fewer_grants (x ∷ xs) (suc k) lt = (let less = fewer_grants xs k (omega (arith, lt)) in omega (arith, less))

-- what stands behind an entry that a lane's value changed with
stands_on : (s : Setting) (c : LanesValue) (lane k : ℕ) (g : Held) → HasGivenLanes s c
    → HasGivenLanes s (closed_in c lane k g)
stands_on s c lane k g t =
    record {
      calls = t.calls;
      ok = t.ok;
      facts = t.facts;
      fit = t.fit;
      asked = ap (λ (n : ℕ). n + 1) t.asked;
      count = length-set c.states lane (closed_lane (lane_in c.states lane) k) ∙ t.count;
      lanes = t.lanes;
    }

pub there_in : (s : Setting) (before : List Entry) (lane : ℕ) (c : LanesValue) → IsClosingLane s before lane c
    → lane < length c.states
there_in s before lane c h = (let there = h.there in let count = h.stands.count in omega (arith, there, count))

-- One grant is closed.
pub record Goes (s : Setting) (before : List Entry) (lane : ℕ) (old new : LanesValue) : Type 0 where
  pub closing : IsClosingLane s before lane new
  pub begun : new.begun ≡ old.begun
  pub left : lanes_left new.facts new.past new.calls 0 ≡ lanes_left old.facts old.past old.calls 0
  pub work : weigh new.core ≤ weigh old.core

pub goes_self : (s : Setting) (before : List Entry) (lane : ℕ) (c : LanesValue) → IsClosingLane s before lane c
    → Goes s before lane c c
goes_self s before lane c h = record { closing = h; begun = refl; left = refl; work = omega arith }

pub goes_next : (s : Setting) (before : List Entry) (lane k : ℕ) (c : LanesValue) (g : Held)
    → IsClosingLane s before lane c
    → slice_get (lane_in c.states lane).grants k ≡ Some g
    → unheld_of (lane_in c.states lane).site (grant_places (lane_in c.states lane).grants)
    ≡ g.place ∷ unheld_of (lane_in c.states lane).site (grant_places (without_index k (lane_in c.states lane).grants))
    → g.grant.id < 2 ^ 32 → Goes s before lane c (closed_in c lane k g)
goes_next s before lane k c g h here first small =
    let v : LaneValue = lane_in c.states lane in
    let rest : List ℕ = unheld_of v.site (grant_places (without_index k v.grants)) in
    let lt : lane < length c.states = there_in s before lane c h in
    let due : IsBetweenSteps s c.past c.core (lane_in c.states) c.begun (g.place ∷ rest) =
    subst (λ (ds : List ℕ). IsBetweenSteps s c.past c.core (lane_in c.states) c.begun ds) first h.between in
    let x = due_closed s c.past c.core (lane_in c.states) c.begun lane k g rest due h.plain h.there here small
    (λ e. let clash : ◌≡◌ {A = Option ℕ} None (Some g.place) = sym (ap opened_in h.idle) ∙ e in cc) in
    let now : ℕ → LaneValue = lane_in (slice_set c.states lane (closed_lane v k)) in
    let here_now : now lane ≡ closed_lane v k = set_here c.states lane (closed_lane v k) lt in
    record {
      closing = record {
        stands = stands_on s c lane k g h.stands;
        there = h.there;
        plain = h.plain;
        idle = ap (λ (y : LaneValue). y.running) here_now ∙ h.idle;
        between = subst (λ (y : LaneValue). IsBetweenSteps s (close_entry g.grant ∷ c.past) (let_go c.core g.grant) now
            c.begun
            (unheld_of y.site (grant_places y.grants))) (sym here_now)
            (subst (λ (f : ℕ → LaneValue). IsBetweenSteps s (close_entry g.grant ∷ c.past) (let_go c.core g.grant) f
            c.begun
            rest) (sym (lane_set c.states lane (closed_lane v k) lt)) x.between);
        closes = inr ((g.place, (x.due, x.must)), h.closes);
        later = inr (x.next, h.later);
      };
      begun = refl;
      left = close_left c.facts c.past c.calls 0 g.grant.id (request.Close g.grant.handle);
      work = (let less = x.work in omega (arith, less));
    }

pub goes_on : (s : Setting) (before : List Entry) (lane : ℕ) (a b c : LanesValue) → Goes s before lane a b
    → Goes s before lane b c → Goes s before lane a c
goes_on s before lane a b c x y =
    record {
      closing = y.closing;
      begun = y.begun ∙ x.begun;
      left = y.left ∙ x.left;
      work =
          (let first = x.work in let second = y.work in omega (arith, first, second));
    }

-- none is left: the session is at rest
pub closed_all : (s : Setting) (before : List Entry) (lane : ℕ) (old new : LanesValue) → Goes s before lane old new
    → unheld_of (lane_in new.states lane).site (grant_places (lane_in new.states lane).grants) ≡ []
    → IsClosed s before old new
closed_all s before lane old new x none =
    record {
      works = record {
        stands = x.closing.stands;
        rest = none_due_rests s new.past new.core (lane_in new.states) new.begun
            (subst (λ (ds : List ℕ). IsBetweenSteps s new.past new.core (lane_in new.states) new.begun ds) none
            x.closing.between) x.closing.plain;
      };
      closes = x.closing.closes;
      later = x.closing.later;
      begun = x.begun;
      left = x.left;
      work = x.work;
    }

-- ---- what a call of the code asks for

-- the core counts one user of each grant of the lane
pub grants_in : (s : Setting) (before : List Entry) (lane : ℕ) (c : LanesValue) → IsClosingLane s before lane c
    → AreGrants c.core (lane_in c.states lane).grants
grants_in s before lane c h k g got = grants_count s c.past c.core (lane_in c.states) _ lane k g h.between.tied h.there
    got

-- there are no more requests than entries
pub counted_in : (s : Setting) (c : LanesValue) (journal : List Entry) → HasGivenLanes s c → c.past ≡ reverse journal
    → c.asked ≤ length journal
counted_in s c journal t is =
    (let few = few_asked c.past in
    let same : length c.past ≡ length journal = ap length is ∙ length-reverse journal in
    let asked_is = t.asked in
    omega (arith, few, same, asked_is))

-- the grants of the lane behind a CLOSE
pub grants_left : (c : LanesValue) (lane k : ℕ) (g : Held) → lane < length c.states
    → k < length (lane_in c.states lane).grants → length (lane_in (closed_in c lane k g).states lane).grants + 1
    ≡ length (lane_in c.states lane).grants
grants_left c lane k g lt within =
    (let less = fewer_grants (lane_in c.states lane).grants k within in
    let here : length (lane_in (closed_in c lane k g).states lane).grants
    ≡ length (without_index k (lane_in c.states lane).grants) = ap (λ (v : LaneValue). length v.grants)
    (set_here c.states lane (closed_lane (lane_in c.states lane) k) lt) in
    omega (arith, less, here))
