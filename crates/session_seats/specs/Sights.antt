-- believed, except SessionInputs, inputs_of, seat_name, made_on, made_from
-- The part of a shared session that a seat has seen, and the part that it made. Logs and seats have the newest first.
use Rattle.std.specs.Prelude.{
  ◌≡◌,
  ◌<◌,
  ◌≤◌,
  ℕ,
  suc,
  ◌+◌,
  ◌==◌,
  Bool,
  true,
  false,
  List,
  [],
  ◌∷◌,
  ◌++◌,
  map,
  length,
  Option,
  Some,
  None,
  if◌then◌else◌,
}
use Rattle.sftp_model.specs.declared.options.SftpOptions.{SftpOptions}
use Rattle.sftp_model.specs.declared.reply.Reply.{Reply}
use Rattle.plan_model.specs.declared.call.Lane.{Lane}
use Rattle.session_model.specs.declared.entry.Entry.{Entry}
use Rattle.session_model.specs.declared.entry.Entry.TheVariants as entry
use Rattle.session_model.specs.declared.event.Event.TheVariants.{Submit, Cancel, End}
use Rattle.session_model.specs.declared.event.Owner.TheVariants as owner
use Rattle.session_seats.specs.declared.view.Counts.{Counts}
use Rattle.session_seats.specs.declared.view.Receipt.{Receipt}
use Rattle.session_seats.specs.declared.view.SeatName.{SeatName}
use Rattle.session_seats.specs.declared.view.Sight.{Sight}
use Rattle.session_seats.specs.declared.view.Stamp.{Stamp}

abbrev pub one_if : Bool → ℕ
one_if true = 1
one_if false = 0

-- The lanes and options that a session was made of.
pub record SessionInputs : Type 0 where
  pub lanes : List Lane
  pub options : SftpOptions

abbrev pub inputs_of : List Lane → SftpOptions → SessionInputs
inputs_of lanes options = record { lanes = lanes; options = options }

-- The view of the shared value: its journal, what it was made of, VERSION once it was taken, the counts, how many users
-- there are, and how many lanes have a seat.
pub record Shown : Type 0 where
  pub past : List Entry
  pub lanes : List Lane
  pub options : SftpOptions
  pub version : Option Reply
  pub counts : Counts
  pub users : ℕ
  pub seated : ℕ

abbrev pub stamp : ℕ → Entry → Stamp
stamp by e = record { by = by; entry = e }

abbrev pub receipt : ℕ → Entry → Receipt
receipt place e = record { place = place; entry = e }

abbrev pub seat_name : ℕ → Option ℕ → SeatName
seat_name by lane = record { by = by; lane = lane }

abbrev pub entry_of : Stamp → Entry
entry_of s = s.entry

abbrev pub entries : List Stamp → List Entry
entries log = map entry_of log

-- The sight of a value with this log and these seats.
abbrev pub sight_of : Shown → List Stamp → List SeatName → Sight
sight_of y log seats = record {
  log = log;
  seats = seats;
  lanes = y.lanes;
  options = y.options;
  version = y.version;
  counts = y.counts;
}

-- ---- Entries that a seat made

-- The receipts of the entries that the seat n made.
abbrev pub own : ℕ → List Stamp → List Receipt
own n [] = []
own n (s ∷ past) = if s.by == n then own n past ++ receipt (length past) s.entry ∷ [] else own n past

-- The receipts of these entries, if k came before.
abbrev pub made_on : ℕ → List Entry → List Receipt
made_on k [] = []
made_on k (e ∷ es) = made_on k es ++ receipt (length es + k) e ∷ []

-- The same, the first entry first.
abbrev pub made_from : ℕ → List Entry → List Receipt
made_from k [] = []
made_from k (e ∷ es) = receipt k e ∷ made_from (suc k) es

-- The numbers of the seats that the seat n gave. The home seat, 0, gave itself.
abbrev pub seats_given_by : ℕ → List SeatName → List ℕ
seats_given_by n [] = []
seats_given_by n (g ∷ seats) = if g.by == n then seats_given_by n seats ++ length seats ∷ [] else seats_given_by n seats

-- ---- Seats

-- The seat with the number.
abbrev pub name_at : List SeatName → ℕ → Option SeatName
name_at [] n = None
name_at (g ∷ seats) n = if n == length seats then Some g else name_at seats n

abbrev pub one_lane : Option ℕ → ℕ
one_lane None = 0
one_lane (Some lane) = 1

-- The number of seats that name a lane.
abbrev pub lanes_in : List SeatName → ℕ
lanes_in [] = 0
lanes_in (g ∷ seats) = one_lane g.lane + lanes_in seats

-- A lane's seat names the next lane.
abbrev pub IsNextLane : ℕ → Option ℕ → Type 0
IsNextLane count None = Unit {0}
IsNextLane count (Some lane) = lane ≡ count

-- Each seat except the first was given by an earlier one, and lanes are named one after another.
abbrev pub AreSeatedInOrder : List SeatName → Type 0
AreSeatedInOrder [] = Unit {0}
AreSeatedInOrder (g ∷ seats) = (0 < length seats → g.by < length seats) × (length seats ≡ 0 → g.by ≡ 0)
    × IsNextLane (lanes_in seats) g.lane × AreSeatedInOrder seats

-- ---- The maker of an entry

-- The lane that an entry belongs to.
abbrev pub lane_of : Entry → Option ℕ
lane_of (entry.Event (Submit (owner.Call lane call) id r)) = Some lane
lane_of (entry.Event (Cancel lane)) = Some lane
lane_of (entry.Event (End lane call o)) = Some lane
lane_of (entry.Event other) = None
lane_of (entry.Added lane call) = Some lane
lane_of (entry.LetGo lane) = Some lane
lane_of (entry.Kept fault) = None

abbrev pub IsOf : Option ℕ → Option ℕ → Type 0
IsOf None named = Unit {0}
IsOf (Some lane) named = named ≡ Some lane

-- The seat that made the entry exists, and names its lane.
abbrev pub NamesItsLane : List SeatName → Stamp → Type 0
NamesItsLane seats s = (g : SeatName) × (name_at seats s.by ≡ Some g) × IsOf (lane_of s.entry) g.lane

abbrev pub AllNamed : List SeatName → List Stamp → Type 0
AllNamed seats [] = Unit {0}
AllNamed seats (s ∷ past) = NamesItsLane seats s × AllNamed seats past

-- Each entry was made by a seat that names its lane, and each seat was given by an earlier one.
pub record IsLawfulSight (s : Sight) : Type 0 where
  pub named : AllNamed s.seats s.log
  pub seated : AreSeatedInOrder s.seats

-- ---- The end

-- The stage is at most 2, and once it has risen there is no user.
abbrev pub FitsStage : ℕ → ℕ → Type 0
FitsStage stage users = (stage ≤ 2) × (0 < stage → users ≡ 0)

-- ---- Later sights

-- The list `now` has more items in front.
abbrev pub HasMoreInFront : {A : Type 0} → List A → List A → Type 0
HasMoreInFront {A} before now = (more : List A) × (now ≡ more ++ before)

-- A value that exists stays.
abbrev pub StaysThere : {A : Type 0} → Option A → Option A → Type 0
StaysThere None now = Unit {0}
StaysThere (Some x) now = now ≡ Some x

pub record CountsRise (before now : Counts) : Type 0 where
  pub handed : before.handed ≤ now.handed
  pub written : before.written ≤ now.written
  pub taken : before.taken ≤ now.taken
  pub stage : before.stage ≤ now.stage
  pub phase : before.phase ≤ now.phase

-- The second sight is later.
pub record IsLaterSight (before now : Sight) : Type 0 where
  pub log : HasMoreInFront before.log now.log
  pub seats : HasMoreInFront before.seats now.seats
  pub lanes : now.lanes ≡ before.lanes
  pub options : now.options ≡ before.options
  pub version : StaysThere before.version now.version
  pub counts : CountsRise before.counts now.counts
