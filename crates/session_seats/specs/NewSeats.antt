-- Seats that another seat gives.
use Rattle.std.specs.Prelude.{◌≡◌, ◌<◌, ◌≤◌, ℕ, ◌+◌, Bool, true, [], ◌∷◌, ◌++◌, length, Option, Some}
use Rattle.atomic_table.specs.Table.{Me}
use Rattle.session_seats.specs.declared.view.Sight.{Sight}
use Rattle.session_seats.specs.declared.view.View.{View}
use Rattle.session_seats.specs.Sights.{Shown, seats_given_by, lanes_in, seat_name}
use Rattle.session_seats.specs.Rules.{ShowsSightOf, next_lane, first_share}
use Rattle.session_seats.specs.Holds.{IsFresh, claim_of, number_of, sight_by}

-- The value after a seat was given: a lane's seat is counted, and is a user.
abbrev pub with_seat : Bool → Shown → Shown
with_seat names y = record y { seated = y.seated + first_share names; users = y.users + first_share names }

module _ {S : Type 0} (shown : S → Shown) where
  -- The seat gave a new one, with the next number. Both have then seen the same.
  pub record Gives (names : Bool) (m n new : Me S View) : Type 0 where
    pub before : S
    pub now : Sight
    pub took : ShowsSightOf (claim_of m) now (shown before)
    pub number : number_of n ≡ number_of m
    pub share : (claim_of n).share ≡ (claim_of m).share
    pub sight : sight_by n ≡ record now { seats = seat_name (number_of m) (next_lane names now.seats) ∷ now.seats }
    pub given : seats_given_by (number_of n) (sight_by n).seats ≡ seats_given_by (number_of m) (sight_by m).seats
        ++ number_of new ∷ []
    pub new_number : number_of new ≡ length now.seats
    pub new_share : (claim_of new).share ≡ first_share names
    pub new_sight : sight_by new ≡ sight_by n

  -- The seat gave the next lane's seat.
  pub record GivesLane (lane : Option ℕ) (m n new : Me S View) : Type 0 where
    pub gives : Gives true m n new
    pub fresh : IsFresh (claim_of new) lane
    pub number : ℕ
    pub names : lane ≡ Some number
    pub next : lanes_in (sight_by n).seats ≡ number + 1
    pub there : number < length (sight_by n).lanes

  -- The seat saw everything, and added nothing.
  pub record Looks (m n : Me S View) : Type 0 where
    pub before : S
    pub now : Sight
    pub took : ShowsSightOf (claim_of m) now (shown before)
    pub number : number_of n ≡ number_of m
    pub share : (claim_of n).share ≡ (claim_of m).share
    pub sight : sight_by n ≡ now

  -- Each lane has a seat, and the seat saw it.
  pub record HasNone (m n : Me S View) : Type 0 where
    pub looks : Looks m n
    pub all : length (sight_by n).lanes ≤ lanes_in (sight_by n).seats
