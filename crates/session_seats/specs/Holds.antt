-- believed: claim_of, sight_by, number_of, seat_with, Hold
-- Holds of the shared value.
use Rattle.std.specs.Prelude.{
  ◌≡◌,
  ◌≤◌,
  ℕ,
  ◌+◌,
  ◌==◌,
  Bool,
  true,
  false,
  ◌&&◌,
  List,
  [],
  ◌∷◌,
  ◌++◌,
  map,
  length,
  Option,
  Some,
  None,
  Result,
  OnOk,
}
use Rattle.std.specs.List.{list_all}
use Rattle.atomic_table.specs.Table.{Me}
use Rattle.session_model.specs.declared.entry.Entry.{Entry}
use Rattle.session_seats.specs.declared.view.Receipt.{Receipt}
use Rattle.session_seats.specs.declared.view.SeatName.{SeatName}
use Rattle.session_seats.specs.declared.view.Sight.{Sight}
use Rattle.session_seats.specs.declared.view.Claim.{Claim}
use Rattle.session_seats.specs.declared.view.View.{View}
use Rattle.session_seats.specs.Sights.{
  SessionInputs,
  Shown,
  own,
  made_on,
  seats_given_by,
  stamp,
  lane_of,
  name_at,
  FitsStage,
  IsLaterSight,
  CountsRise,
  StaysThere,
}
use Rattle.session_seats.specs.declared.wakes.WakeSet.{WakeSet}
use Rattle.session_seats.specs.Wakes.{concerns, tide_of}
use Rattle.session_seats.specs.Rules.{view, no_counts, first, sees, claim_with_entries, ShowsSightOf, MayRelease}

-- The view of a value that nobody has used yet.
abbrev pub at_first : SessionInputs → Shown
at_first m = record {
  past = [];
  lanes = m.lanes;
  options = m.options;
  version = None;
  counts = no_counts;
  users = 1;
  seated = 0;
}

-- ---- Effects of an event on the value

-- True for an entry of no lane, or of this one.
abbrev pub fits_lane : Option ℕ → Option ℕ → Bool
fits_lane None lane = true
fits_lane (Some l) None = false
fits_lane (Some l) (Some k) = l == k

abbrev pub is_of : Option ℕ → Entry → Bool
is_of lane e = fits_lane (lane_of e) lane

-- True for an entry of no other lane that the event may add.
abbrev pub passes : (Option ℕ → Entry → Bool) → Option ℕ → Entry → Bool
passes only lane e = only lane e && is_of lane e

-- The needs of one hold from its seat: how many of the frames that the seat handed out it reports as written, and how
-- many shares it gives up.
pub record Allowance : Type 0 where
  pub tells : ℕ
  pub leaves : ℕ

abbrev pub no_allowance : Allowance
no_allowance = record { tells = 0; leaves = 0 }

-- The seat has what the hold needs.
abbrev pub MayHold : Claim → Allowance → Type 0
MayHold c needs = (needs.tells ≤ c.unwritten) × (needs.leaves ≤ c.share)

-- There are the users that the seat may take out, and none once the end has started.
abbrev pub HasUsers : Allowance → Shown → Type 0
HasUsers may y = (may.leaves ≤ y.users) × FitsStage y.counts.stage y.users

-- The journal continues by these entries, the newest first, which pass the test. What was reported stays, no count
-- falls, and users and written frames are within the allowance.
pub record GoesByEntries (test : Entry → Bool) (may : Allowance) (more : List Entry) (old new : Shown) : Type 0 where
  pub past : new.past ≡ more ++ old.past
  pub passes : list_all test more ≡ true
  pub seated : new.seated ≡ old.seated
  pub lanes : new.lanes ≡ old.lanes
  pub options : new.options ≡ old.options
  pub version : StaysThere old.version new.version
  pub rises : CountsRise old.counts new.counts
  pub written : old.counts.handed + new.counts.written ≤ may.tells + new.counts.handed + old.counts.written
  pub users : old.users ≤ may.leaves + new.users
  pub ends : FitsStage old.counts.stage old.users → FitsStage new.counts.stage new.users

-- The journal continues by some such entries.
abbrev pub GoesBy : (Entry → Bool) → Allowance → Shown → Shown → Type 0
GoesBy test may old new = (more : List Entry) × GoesByEntries test may more old new

-- ---- Tokens

module _ {S : Type 0} where
  abbrev pub claim_of : Me S View → Claim
  claim_of m = first m.0.claims

  abbrev pub sight_by : Me S View → Sight
  sight_by m = (claim_of m).sight

  abbrev pub number_of : Me S View → ℕ
  number_of m = (claim_of m).number

  -- A seat with this claim, which has nothing.
  abbrev pub seat_with : Claim → Me S View
  seat_with c = (view false 0 (c ∷ []), [])

  abbrev pub IsSeat : Me S View → Type 0
  IsSeat m = m ≡ seat_with (claim_of m)

-- The lane that a seat names, if the seat exists.
abbrev pub lane_in : Option SeatName → Option (Option ℕ)
lane_in None = None
lane_in (Some g) = Some g.lane

-- The seat names the lane, or none.
abbrev pub NamesLane : Claim → Option ℕ → Type 0
NamesLane c lane = lane_in (name_at c.sight.seats c.number) ≡ Some lane

module _ {S : Type 0} (shown : S → Shown) where
  -- The seat has the value, and has seen its view.
  pub record HasTaken (m n : Me S View) : Type 0 where
    pub value : S
    pub now : Sight
    pub took : ShowsSightOf (claim_of m) now (shown value)
    pub is : n ≡ (view true (shown value).users (sees now (claim_of m) ∷ []), (0, value) ∷ [])

  -- The seat has the value, and may give it back.
  pub record CanRelease (m : Me S View) : Type 0 where
    pub value : S
    pub claim : Claim
    pub users : ℕ
    pub is : m ≡ (view true users (claim ∷ []), (0, value) ∷ [])
    pub may : MayRelease claim users (shown value)

  abbrev pub Releases : Me S View → Me S View → Type 0
  Releases m n = (y : S) (users : ℕ) (c : Claim) → m ≡ (view true users (c ∷ []), (0, y) ∷ []) → n
      ≡ seat_with (claim_with_entries (shown y) users c)

  -- One hold: the value before, the view that the seat had of it, the value after, and the entries that were added.
  pub record Hold (Did : S → S → List Entry → Type 0) (m n : Me S View) : Type 0 where
    pub before : S
    pub now : Sight
    pub after : S
    pub more : List Entry
    pub took : ShowsSightOf (claim_of m) now (shown before)
    pub past : (shown after).past ≡ more ++ (shown before).past
    pub is : n ≡ seat_with (claim_with_entries (shown after) (shown before).users (sees now (claim_of m)))
    pub log : (sight_by n).log ≡ map (stamp (number_of m)) more ++ now.log
    pub seats : (sight_by n).seats ≡ now.seats
    pub later : IsLaterSight now (sight_by n)
    pub did : Did before after more

  -- The effect of a hold that concerns these threads, by the entries that it added and what the value shows before and
  -- after it.
  abbrev pub Concerning : (S → S → List Entry → Type 0) → WakeSet → S → S → List Entry → Type 0
  Concerning Did set y z more = Did y z more
      × (set ≡ concerns (tide_of (shown y).counts) (tide_of (shown z).counts) more (shown y).past)

  -- The effect of an event in one hold: the entries pass its test, and if allocation succeeded the seat has a receipt
  -- of each.
  pub record Applied {X E : Type 0} (test : Entry → Bool) (needs : Allowance) (Does : S → S → Type 0)
      (copied : Result X E) (old new : List Receipt) (y z : S) (more : List Entry) : Type 0 where
    pub goes : GoesByEntries test needs more (shown y) (shown z)
    pub does : Does y z
    pub kept : OnOk copied (new ≡ old ++ made_on (length (shown y).past) more)

-- ---- Several holds

-- Each receipt is at the place or after it, and its entry passes the test.
abbrev pub AllFrom : ℕ → (Entry → Bool) → List Receipt → Type 0
AllFrom k test [] = Unit {0}
AllFrom k test (r ∷ rs) = (k ≤ r.place) × (test r.entry ≡ true) × AllFrom k test rs

-- The additions by a call of several holds: such entries, after all that the seat had seen; it gave no seat.
pub record AddsEntries (test : Entry → Bool) (c d : Claim) : Type 0 where
  pub later : IsLaterSight c.sight d.sight
  pub number : d.number ≡ c.number
  pub more : List Receipt
  pub made : own c.number d.sight.log ≡ own c.number c.sight.log ++ more
  pub passes : AllFrom (length c.sight.log) test more
  pub given : seats_given_by c.number d.sight.seats ≡ seats_given_by c.number c.sight.seats

-- ---- New seats

-- A seat that made and gave nothing yet, and names this lane.
pub record IsFresh (c : Claim) (lane : Option ℕ) : Type 0 where
  pub names : NamesLane c lane
  pub made : own c.number c.sight.log ≡ []
  pub given : seats_given_by c.number c.sight.seats ≡ []
