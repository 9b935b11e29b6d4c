-- Which lanes run a call, where one of them has another value.
use Rattle.std.proofs.Common.{◌≡◌, ◌<◌, ◌==◌, ℕ, Bool, true, false, List, refl, ap, sym, ◌∙◌, inl, inr}
use Rattle.std.specs.Prelude.{◌||◌, ◌&&◌, not, is_some, length, slice_index_or, slice_set}
use Rattle.std.proofs.lemmas.Bool.Decides.{eqb_tells}
use Rattle.session_model.specs.Turns.{begun_but, begun_with}
use Rattle.session_laws.specs.Changes.{with_lane}
use Rattle.session_laws.specs.Lanes.{LaneValue}
use Rattle.session_laws.specs.Rest.{begun_of}
use Rattle.session_work.specs.Noting.{KeepsOtherLanes, OthersRun}
use Rattle.session_work.specs.Working.{lane_in}
use Rattle.session_work.proofs.Contents.{lane_set, set_here, state_at}

-- what an index finds runs a call where the lane was begun
pub begun_at : (states : List LaneValue) (lane : ℕ) (v : LaneValue) (b : Bool) → lane < length states → v
    ≡ slice_index_or states lane v → is_some v.running ≡ b → begun_of (lane_in states) lane ≡ b
begun_at states lane v b lt value runs = ap (λ (y : LaneValue). is_some y.running)
    (sym (state_at states lane v lt value)) ∙ runs

-- the others are as they were
pub others_kept : (states : List LaneValue) (lane : ℕ) (now : LaneValue) → lane < length states
    → KeepsOtherLanes lane states (slice_set states lane now)
others_kept states lane now lt begun others w ne =
    others w ne ∙ sym (ap (λ (f : ℕ → LaneValue). is_some (f w).running) (lane_set states lane now lt) ∙ other)
  where
    other : is_some (with_lane (lane_in states) lane now w).running ≡ is_some (lane_in states w).running
    other = elim (eqb_tells lane w) [ inl t ↦ absurd (ne t.1) | inr t ↦ rw t.0 refl ]

-- the lanes that were begun are these and that of the step, where it runs a call,
pub begun_runs : (begun : ℕ → Bool) (lane : ℕ) (states : List LaneValue) → OthersRun begun lane states
    → is_some (lane_in states lane).running ≡ true → begun_with begun lane ≡ begun_of (lane_in states)
begun_runs begun lane states others runs = λ i w. each w i
  where
    each : (w : ℕ) → ((lane == w) || begun w) ≡ is_some (lane_in states w).running
    each w = elim (eqb_tells lane w) [
      | inl t ↦ rw t.0 (sym runs ∙ ap (λ (n : ℕ). is_some (lane_in states n).running) t.1)
      | inr t ↦ rw t.0 (others w t.1)
    ]

-- or all but that one, where it runs none
pub begun_ends : (begun : ℕ → Bool) (lane : ℕ) (states : List LaneValue) → OthersRun begun lane states
    → is_some (lane_in states lane).running ≡ false → begun_but begun lane ≡ begun_of (lane_in states)
begun_ends begun lane states others none = λ i w. each w i
  where
    each : (w : ℕ) → (not (lane == w) && begun w) ≡ is_some (lane_in states w).running
    each w = elim (eqb_tells lane w) [
      | inl t ↦ rw t.0 (sym none ∙ ap (λ (n : ℕ). is_some (lane_in states n).running) t.1)
      | inr t ↦ rw t.0 (others w t.1)
    ]

-- a lane that runs a call as before, or none as before
pub begun_same : (states : List LaneValue) (lane : ℕ) (now : LaneValue) → lane < length states → is_some now.running
    ≡ is_some (lane_in states lane).running → begun_of (lane_in (slice_set states lane now)) ≡ begun_of (lane_in states)
begun_same states lane now lt same = ap begun_of (lane_set states lane now lt) ∙ (λ i w. each w i)
  where
    each : (w : ℕ) → is_some (with_lane (lane_in states) lane now w).running ≡ is_some (lane_in states w).running
    each w = elim (eqb_tells lane w) [
      | inl t ↦ rw t.0 (same ∙ ap (λ (n : ℕ). is_some (lane_in states n).running) t.1)
      | inr t ↦ rw t.0 refl
    ]

-- a lane that was begun, and runs no call now
pub begun_less : (states : List LaneValue) (lane : ℕ) (now : LaneValue) → lane < length states → is_some now.running
    ≡ false → begun_but (begun_of (lane_in states)) lane ≡ begun_of (lane_in (slice_set states lane now))
begun_less states lane now lt none =
    begun_ends (begun_of (lane_in states)) lane (slice_set states lane now)
    (others_kept states lane now lt (begun_of (lane_in states)) (λ w ne. refl))
    (ap (λ (y : LaneValue). is_some y.running) (set_here states lane now lt) ∙ none)
