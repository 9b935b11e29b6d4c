-- One lane of a list has another value.
use Rattle.std.proofs.Common.{◌≡◌, ◌<◌, ◌++◌, ◌∷◌, [], ℕ, List, Some, ap, sym, ◌∙◌, arith, inl, inr}
use Rattle.std.specs.Prelude.{length, reverse, slice_get, slice_index_or, slice_set}
use Rattle.std.proofs.lemmas.Bool.Decides.{eqb_tells}
use Rattle.std.proofs.lemmas.List.{get_or-set_other, get_or-set_same, get_or_default, length-set, reverse-append}
use Rattle.std.proofs.lemmas.Option.{slice_get-get_or}
use Rattle.session_laws.specs.Changes.{fresh_lane, with_lane}
use Rattle.session_laws.specs.Lanes.{LaneValue}
use Rattle.session_work.specs.Working.{lane_in}

pub lane_set : (states : List LaneValue) (lane : ℕ) (v : LaneValue) → lane < length states
    → lane_in (slice_set states lane v) ≡ with_lane (lane_in states) lane v
lane_set states lane v lt = λ i w. at_lane w i
  where
    at_lane : (w : ℕ) → lane_in (slice_set states lane v) w ≡ with_lane (lane_in states) lane v w
    at_lane w = elim (eqb_tells lane w) [
      | inl t ↦ rw t.0 (ap (lane_in (slice_set states lane v)) (sym t.1) ∙ get_or-set_same states lane v fresh_lane lt)
      | inr t ↦ rw t.0 (get_or-set_other states lane w v fresh_lane (λ e. t.1 (sym e)))
    ]

-- that lane is this value,
pub set_here : (states : List LaneValue) (lane : ℕ) (v : LaneValue) → lane < length states
    → lane_in (slice_set states lane v) lane ≡ v
set_here states lane v lt = get_or-set_same states lane v fresh_lane lt

-- and a look finds it
pub get_set : (states : List LaneValue) (lane : ℕ) (v : LaneValue) → lane < length states
    → slice_get (slice_set states lane v) lane ≡ Some v
get_set states lane v lt =
    (let same = length-set states lane v in
    let within : lane < length (slice_set states lane v) = omega (arith, lt, same) in
    slice_get-get_or (slice_set states lane v) lane fresh_lane within ∙ ap Some (set_here states lane v lt))

-- what an index finds is that lane
pub state_at : (states : List LaneValue) (lane : ℕ) (v : LaneValue) → lane < length states → v
    ≡ slice_index_or states lane v → v ≡ lane_in states lane
state_at states lane v lt is = is ∙ sym (get_or_default states lane fresh_lane v lt)

-- an entry behind all others is the newest
pub pushed : {A : Type 0} (xs : List A) (x : A) → reverse (xs ++ x ∷ []) ≡ x ∷ reverse xs
pushed xs x = reverse-append xs (x ∷ [])
