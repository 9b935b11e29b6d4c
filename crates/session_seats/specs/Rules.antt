-- believed: claim, view, no_counts, ShowsSight, nothing, first, sees, ShowsSightOf, newer, claim_with_entries
-- The rule of the table: one word, 0 while the value is at home; one slot, which has it; and the views of the seats.
use Rattle.std.specs.Prelude.{
  ◌≡◌,
  ◌≢◌,
  ◌<◌,
  ◌≤◌,
  ◌⊎◌,
  ℕ,
  ◌+◌,
  ◌-◌,
  Bool,
  true,
  false,
  List,
  [],
  ◌∷◌,
  ◌++◌,
  map,
  length,
  take,
  Option,
  Some,
  None,
}
use mathlib.Core.Option.{some, none}
use lib.ListN.{get_elem?}
use Rattle.atomic_table.specs.Table.{State, Me, Step, rest}
use Rattle.session_model.specs.declared.entry.Entry.{Entry}
use Rattle.sftp_model.specs.Options.{default_options}
use Rattle.session_seats.specs.declared.view.Counts.{Counts}
use Rattle.session_seats.specs.declared.view.SeatName.{SeatName}
use Rattle.session_seats.specs.declared.view.Stamp.{Stamp}
use Rattle.session_seats.specs.declared.view.Sight.{Sight}
use Rattle.session_seats.specs.declared.view.Claim.{Claim}
use Rattle.session_seats.specs.declared.view.View.{View}
use Rattle.session_seats.specs.Sights.{
  SessionInputs,
  Shown,
  stamp,
  sight_of,
  seat_name,
  entries,
  own,
  seats_given_by,
  lanes_in,
  FitsStage,
  IsLawfulSight,
  AllNamed,
  IsLaterSight,
  CountsRise,
  StaysThere,
}

abbrev pub claim : ℕ → ℕ → ℕ → Sight → Claim
claim number share unwritten s = record { number = number; share = share; unwritten = unwritten; sight = s }

abbrev pub view : Bool → ℕ → List Claim → View
view right users claims = record { right = right; users = users; claims = claims }

abbrev pub nobody : View
nobody = view false 0 []

abbrev pub no_counts : Counts
no_counts = record { handed = 0; written = 0; taken = 0; stage = 0; phase = 0 }

-- The sight at the start: the home seat's number is 0, it names no lane, and it is the one user.
abbrev pub start : SessionInputs → Sight
start m = record {
  log = [];
  seats = seat_name 0 None ∷ [];
  lanes = m.lanes;
  options = m.options;
  version = None;
  counts = no_counts;
}

abbrev pub home : SessionInputs → View
home m = view false 0 (claim 0 1 0 (start m) ∷ [])

-- ---- Views

-- The sight of the claim is a beginning of the current one, all that the seat made and gave is in it, and one seat has
-- the number.
pub record FitsClaim (now : Sight) (whose : ℕ → ℕ) (seat : ℕ) (c : Claim) : Type 0 where
  pub later : IsLaterSight c.sight now
  pub made : own c.number now.log ≡ own c.number c.sight.log
  pub given : seats_given_by c.number now.seats ≡ seats_given_by c.number c.sight.seats
  pub mine : whose c.number ≡ seat
  pub there : c.number < length now.seats

abbrev pub HasClaims : Sight → (ℕ → ℕ) → ℕ → List Claim → Type 0
HasClaims now whose seat [] = Unit {0}
HasClaims now whose seat (c ∷ cs) = FitsClaim now whose seat c × HasClaims now whose seat cs

-- No claim has the number.
abbrev pub LacksNumber : ℕ → List Claim → Type 0
LacksNumber n [] = Unit {0}
LacksNumber n (c ∷ cs) = (n ≢ c.number) × LacksNumber n cs

abbrev pub AreDistinctClaims : List Claim → Type 0
AreDistinctClaims [] = Unit {0}
AreDistinctClaims (c ∷ cs) = LacksNumber c.number cs × AreDistinctClaims cs

-- The first claim has seen everything.
abbrev pub HasSeen : Sight → List Claim → Type 0
HasSeen now [] = ⊥
HasSeen now (c ∷ cs) = c.sight ≡ now

-- The one seat that has the right knows everything.
pub record FitsRight (now : Sight) (users holder seat : ℕ) (v : View) : Type 0 where
  pub holds : seat ≡ holder
  pub sees : HasSeen now v.claims
  pub counts : v.users ≡ users

pub record FitsSight (now : Sight) (users holder : ℕ) (whose : ℕ → ℕ) (seat : ℕ) (v : View) : Type 0 where
  pub right : v.right ≡ true → FitsRight now users holder seat v
  pub claims : HasClaims now whose seat v.claims
  pub distinct : AreDistinctClaims v.claims

-- ---- Sums over all views

abbrev pub shares : List Claim → ℕ
shares [] = 0
shares (c ∷ cs) = c.share + shares cs

abbrev pub count_unwritten : List Claim → ℕ
count_unwritten [] = 0
count_unwritten (c ∷ cs) = c.unwritten + count_unwritten cs

abbrev pub total : (View → ℕ) → List View → ℕ
total f [] = 0
total f (v ∷ views) = f v + total f views

abbrev pub share_of : View → ℕ
share_of v = shares v.claims

abbrev pub unwritten_of : View → ℕ
unwritten_of v = count_unwritten v.claims

-- ---- The rule

-- The value shows what was seen of it.
pub record ShowsSight (y : Shown) (now : Sight) : Type 0 where
  pub past : y.past ≡ entries now.log
  pub told : now ≡ sight_of y now.log now.seats
  pub seated : y.seated ≡ lanes_in now.seats

abbrev pub NoRight : List View → Type 0
NoRight views = (seat : ℕ) (v : View) → get_elem? views seat ≡ some v → v.right ≡ false

module _ {S : Type 0} where
  pub record IsHome (shown : S → Shown) (now : Sight) (users : ℕ) (s : State S View) : Type 0 where
    pub value : S
    pub words : s.words ≡ 0 ∷ []
    pub homes : s.homes ≡ some value ∷ []
    pub shows : ShowsSight (shown value) now
    pub users_are : (shown value).users ≡ users
    pub free : NoRight s.views

  pub record IsOut (s : State S View) : Type 0 where
    pub words : s.words ≡ 1 ∷ []
    pub homes : s.homes ≡ none ∷ []

  -- The seat of each entry is known. The users are the sum of all shares. The frames that were handed out are those
  -- that were written and those that seats have still to report as written. Once the end has started there is no user.
  pub record Kept (shown : S → Shown) (s : State S View) : Type 0 where
    pub now : Sight
    pub users : ℕ
    pub holder : ℕ
    pub whose : ℕ → ℕ
    pub place : IsHome shown now users s ⊎ IsOut s
    pub lawful : IsLawfulSight now
    pub written : now.counts.written + total unwritten_of s.views ≡ now.counts.handed
    pub shared : total share_of s.views ≡ users
    pub ends : FitsStage now.counts.stage users
    pub fits : (seat : ℕ) (v : View) → get_elem? s.views seat ≡ some v → FitsSight now users holder whose seat v

-- ---- What the steps report

abbrev pub nothing : Sight
nothing = record { log = []; seats = []; lanes = []; options = default_options; version = None; counts = no_counts }

abbrev pub first : List Claim → Claim
first [] = claim 0 0 0 nothing
first (c ∷ cs) = c

abbrev pub on_first : (Claim → Claim) → List Claim → List Claim
on_first f [] = []
on_first f (c ∷ cs) = f c ∷ cs

-- The seat has seen everything, and has the right to add.
abbrev pub sees : Sight → Claim → Claim
sees now c = record c { sight = now }

abbrev pub with_claims_held : Sight → ℕ → View → View
with_claims_held now users v = view true users (on_first (sees now) v.claims)

-- The value that was taken shows what the seat has then seen. That is later than what it had seen, and all that the
-- seat made and gave was in that.
pub record ShowsSightOf (c : Claim) (now : Sight) (y : Shown) : Type 0 where
  pub later : IsLaterSight c.sight now
  pub made : own c.number now.log ≡ own c.number c.sight.log
  pub given : seats_given_by c.number now.seats ≡ seats_given_by c.number c.sight.seats
  pub shows : ShowsSight y now
  pub lawful : IsLawfulSight now
  pub there : c.number < length now.seats
  pub share : c.share ≤ y.users
  pub unwritten : now.counts.written + c.unwritten ≤ now.counts.handed
  pub ends : FitsStage now.counts.stage y.users

-- The entries that the journal has before those of the log.
abbrev pub newer : Shown → List Stamp → List Entry
newer y log = take (length y.past - length log) y.past

-- The further entries of the journal are the seat's. Its share grows by the users that were added, and it has to report
-- as written the frames that were handed out since and not written.
abbrev pub claim_with_entries : Shown → ℕ → Claim → Claim
claim_with_entries y users c =
    claim c.number (c.share + y.users - users) (c.unwritten + y.counts.handed + c.sight.counts.written -
    (c.sight.counts.handed + y.counts.written))
    (sight_of y (map (stamp c.number) (newer y c.sight.log) ++ c.sight.log) c.sight.seats)

abbrev pub let_out : Shown → View → View
let_out y v = view false 0 (on_first (claim_with_entries y v.users) v.claims)

-- The precondition of giving the value back: the journal continues by entries of the seat's lane, and nothing that it
-- had seen is lost.
pub record MayRelease (c : Claim) (users : ℕ) (y : Shown) : Type 0 where
  pub past : (more : List Entry) × (y.past ≡ more ++ entries c.sight.log)
      × AllNamed c.sight.seats (map (stamp c.number) more)
  pub seated : y.seated ≡ lanes_in c.sight.seats
  pub lanes : y.lanes ≡ c.sight.lanes
  pub options : y.options ≡ c.sight.options
  pub version : StaysThere c.sight.version y.version
  pub rises : CountsRise c.sight.counts y.counts
  pub written : c.sight.counts.handed + y.counts.written ≤ c.unwritten + y.counts.handed + c.sight.counts.written
  pub users_are : users ≤ c.share + y.users
  pub ends : FitsStage y.counts.stage y.users

module _ {S : Type 0} (shown : S → Shown) where
  abbrev pub acquired : Step S → Me S View → ℕ → Me S View → Type 0
  acquired st m n u =
      (n ≡ 0 → (y : S) × (now : Sight) × (u ≡ (with_claims_held now (shown y).users m.0, (0, y) ∷ m.1))
      × ShowsSightOf (first m.0.claims) now (shown y))
      × (n ≢ 0 → u ≡ m)

  abbrev pub released : Step S → Me S View → ℕ → Me S View → Type 0
  released st m n u = (y : S) → m.1 ≡ (0, y) ∷ rest m.1 → u ≡ (let_out (shown y) m.0, rest m.1)

-- ---- Seats that are cut off and taken in

-- The next lane, for a lane's seat.
abbrev pub next_lane : Bool → List SeatName → Option ℕ
next_lane true seats = Some (lanes_in seats)
next_lane false seats = None

-- The first share of a seat: a lane's seat has one.
abbrev pub first_share : Bool → ℕ
first_share true = 1
first_share false = 0

abbrev pub with_seated_lane : Bool → Claim → Claim
with_seated_lane names c =
    claim c.number (c.share - first_share names) c.unwritten
    (record c.sight { seats = seat_name c.number (next_lane names c.sight.seats) ∷ c.sight.seats })

abbrev pub giver : Bool → View → View
giver names v = view v.right v.users (on_first (with_seated_lane names) v.claims)

abbrev pub fresh : Bool → Claim → Claim
fresh names c = claim (length c.sight.seats) (first_share names) 0 (with_seated_lane names c).sight

abbrev pub newcomer : Bool → View → View
newcomer names v = view false 0 (fresh names (first v.claims) ∷ [])

abbrev pub joined_views : View → View → View
joined_views v w = view v.right v.users (v.claims ++ w.claims)

-- ---- What is reported in the end

pub record ToldClaim (now : Sight) (c : Claim) : Type 0 where
  pub later : IsLaterSight c.sight now
  pub made : own c.number now.log ≡ own c.number c.sight.log
  pub given : seats_given_by c.number now.seats ≡ seats_given_by c.number c.sight.seats
  pub there : c.number < length now.seats

abbrev pub AllTold : Sight → List Claim → Type 0
AllTold now [] = Unit {0}
AllTold now (c ∷ cs) = ToldClaim now c × AllTold now cs

-- The consequences of the rule for the claims of the seat that has the slot.
pub record HoldsForClaims (cs : List Claim) : Type 0 where
  pub lawful : IsLawfulSight (first cs).sight
  pub distinct : AreDistinctClaims cs
  pub all : AllTold (first cs).sight cs

abbrev pub checked_step : {S : Type 0} → Step S → Me S View → ℕ → Me S View → Type 0
checked_step st m n u = (u ≡ m) × (m.0.right ≡ true → HoldsForClaims m.0.claims)
