-- Worked rows: the home seat gave one seat, of lane 0; the home seat handed out, and then the other released lane 0.
use Rattle.std.specs.Prelude.{◌≡◌, ℕ, List, [], ◌∷◌, Option, Some, None, true, false}
use Rattle.std.proofs.Common.{refl, ap, ◌∙◌, subst, arith}
use Rattle.session_model.specs.declared.entry.Entry.TheVariants as entry
use Rattle.session_model.specs.declared.event.Event.TheVariants.{Send}
use Rattle.session_seats.specs.declared.view.Counts.{Counts}
use Rattle.session_seats.specs.declared.view.SeatName.{SeatName}
use Rattle.session_seats.specs.declared.view.Stamp.{Stamp}
use Rattle.session_seats.specs.Rules.{no_counts}
use Rattle.session_seats.specs.Sights.{
  AllNamed,
  CountsRise,
  FitsStage,
  AreSeatedInOrder,
  seats_given_by,
  lane_of,
  lanes_in,
  made_on,
  name_at,
  own,
  receipt,
  seat_name,
  stamp,
}
use Rattle.session_seats.specs.Holds.{is_of}
use Rattle.session_seats.specs.Covers.{times_in}

abbrev pub seats : List SeatName
seats = seat_name 0 (Some 0) ∷ seat_name 0 None ∷ []

abbrev pub log : List Stamp
log = stamp 1 (entry.LetGo 0) ∷ stamp 0 (entry.Event Send) ∷ []

-- ---- Entries that each seat made

pub home_made : own 0 log ≡ receipt 0 (entry.Event Send) ∷ []
home_made = refl

pub lane_made : own 1 log ≡ receipt 1 (entry.LetGo 0) ∷ []
lane_made = refl

pub nobody_made : own 2 log ≡ []
nobody_made = refl

-- Two further entries, the newest first, have the next places.
pub next_places : made_on 2 (entry.Event Send ∷ entry.LetGo 1 ∷ [])
    ≡ receipt 2 (entry.LetGo 1) ∷ receipt 3 (entry.Event Send) ∷ []
next_places = refl

-- The home seat counts among those that it gave.
pub home_gave : seats_given_by 0 seats ≡ 0 ∷ 1 ∷ []
home_gave = refl

pub lane_gave : seats_given_by 1 seats ≡ []
lane_gave = refl

pub second_seat : name_at seats 1 ≡ Some (seat_name 0 (Some 0))
second_seat = refl

pub no_third_seat : name_at seats 2 ≡ None
no_third_seat = refl

pub one_lane_seat : lanes_in seats ≡ 1
one_lane_seat = refl

-- ---- Covers

pub first_covered : times_in 0 (own 0 log ∷ own 1 log ∷ []) ≡ 1
first_covered = refl

pub second_covered : times_in 1 (own 0 log ∷ own 1 log ∷ []) ≡ 1
second_covered = refl

-- Neither without the lane's receipts, nor with the home seat's twice.
pub second_missing : times_in 1 (own 0 log ∷ []) ≡ 0
second_missing = refl

pub first_twice : times_in 0 (own 0 log ∷ own 0 log ∷ []) ≡ 2
first_twice = refl

-- ---- Seats that may make an entry

pub any_seat : lane_of (entry.Event Send) ≡ None
any_seat = refl

pub its_lane : is_of (Some 0) (entry.LetGo 0) ≡ true
its_lane = refl

pub another_lane : is_of (Some 1) (entry.LetGo 0) ≡ false
another_lane = refl

pub no_lane : is_of None (entry.LetGo 0) ≡ false
no_lane = refl

abbrev lane_by : Option SeatName → Option ℕ
lane_by None = None
lane_by (Some g) = g.lane

abbrev is_none : Option ℕ → Type 0
is_none None = Unit {0}
is_none (Some lane) = ⊥

-- The home seat names no lane.
pub not_by_home : AllNamed seats (stamp 0 (entry.LetGo 0) ∷ []) → ⊥
not_by_home h = subst is_none (ap lane_by h.0.1 ∙ h.0.2) tt

-- Lane 1 is not the first that gets a seat.
pub not_lane_1_first : AreSeatedInOrder (seat_name 0 (Some 1) ∷ seat_name 0 None ∷ []) → ⊥
not_lane_1_first h = let is = h.2 in absurd (omega arith)

-- ---- The end

pub goes_on : FitsStage 0 3
goes_on = (omega arith, λ rose. absurd (omega arith))

pub nobody_left : FitsStage 1 0
nobody_left = (omega arith, λ rose. refl)

pub not_with_users : FitsStage 1 1 → ⊥
not_with_users h = let none = h.1 (omega arith) in absurd (omega arith)

pub no_third_stage : FitsStage 3 0 → ⊥
no_third_stage h = let low = h.0 in absurd (omega arith)

-- ---- Phases

-- The counts of a session in this phase that has done nothing else.
abbrev pub in_phase : ℕ → Counts
in_phase phase = record no_counts { phase = phase }

-- An open session fails, and one that has failed stays so.
pub fails : CountsRise (in_phase 4) (in_phase 5)
fails = record {
  handed = omega arith;
  written = omega arith;
  taken = omega arith;
  stage = omega arith;
  phase = omega arith;
}

pub stays_failed : CountsRise (in_phase 5) (in_phase 4) → ⊥
stays_failed h = let phase = h.phase in absurd (omega arith)
