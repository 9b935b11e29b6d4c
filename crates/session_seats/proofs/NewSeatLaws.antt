-- What a seat is that was given, and the one that gave it.
use Rattle.std.proofs.Common.{
  ◌≡◌,
  ◌≢◌,
  ◌<◌,
  ◌≤◌,
  ℕ,
  suc,
  ◌+◌,
  ◌-◌,
  List,
  [],
  ◌∷◌,
  ◌++◌,
  map,
  length,
  Bool,
  true,
  false,
  refl,
  sym,
  ap,
  ◌∙◌,
  subst,
  arith,
  Some,
  None,
  ne_eqb,
  eq-eqb,
}
use Rattle.std.specs.Prelude.{Option, IfSome, IfNone, if◌then◌else◌}
use Rattle.atomic_table.specs.Table.{Me, Splits, rest}
use Rattle.session_seats.specs.declared.view.Stamp.{Stamp}
use Rattle.session_seats.specs.declared.view.SeatName.{SeatName}
use Rattle.session_seats.specs.declared.view.Sight.{Sight}
use Rattle.session_seats.specs.declared.view.Claim.{Claim}
use Rattle.session_seats.specs.declared.view.View.{View}
use Rattle.session_seats.specs.Sights.{
  Shown,
  stamp,
  receipt,
  sight_of,
  seat_name,
  own,
  seats_given_by,
  lanes_in,
  name_at,
  one_lane,
  AllNamed,
  AreSeatedInOrder,
  IsLaterSight,
  CountsRise,
  StaysThere,
}
use Rattle.session_seats.specs.declared.view.Receipt.{Receipt}
use Rattle.session_seats.specs.Rules.{ShowsSightOf, sees, Kept, claim_with_entries, newer, MayRelease, next_lane, first_share, with_seated_lane, giver, fresh, newcomer}
use Rattle.session_seats.specs.Holds.{claim_of, number_of, sight_by, seat_with, HasTaken, CanRelease, Releases, IsFresh, NamesLane, lane_in}
use Rattle.session_seats.specs.NewSeats.{Gives, GivesLane, HasNone, Looks, with_seat}
use Rattle.session_seats.proofs.Lists.{name_there, rises_none, stays_same, gave-others, later_on, later_same}
use Rattle.session_seats.proofs.SeatSteps.{splits}
use Rattle.session_seats.proofs.Steps.{newer-is}
use Rattle.session_seats.proofs.HoldLaws.{still_names}

-- ---- a new number made and gave nothing

own_none : (seats : List SeatName) (log : List Stamp) → AllNamed seats log → own (length seats) log ≡ []
own_none seats [] h = refl
own_none seats (s ∷ past) h =
    let less = name_there seats s.by h.0.0 h.0.1 in
    ap (λ b. if b then own (length seats) past ++ receipt (length past) s.entry ∷ [] else own (length seats) past)
    (ne_eqb s.by (length seats) (λ same. absurd (omega arith))) ∙ own_none seats past h.1

gave_none : (n : ℕ) (seats : List SeatName) → length seats ≤ n → 0 < n → AreSeatedInOrder seats → seats_given_by n seats
    ≡ []
gave_none n [] less some h = refl
gave_none n (g ∷ seats) less some h =
    let apart : g.by ≢ n = earlier (length seats) refl in
    ap (λ b. if b then seats_given_by n seats ++ length seats ∷ [] else seats_given_by n seats) (ne_eqb g.by n apart)
    ∙ gave_none n seats (omega arith) some h.3
  where
    earlier : (k : ℕ) → length seats ≡ k → g.by ≢ n
    earlier Prim.Native.Nat.zero is same = let z = h.1 is in absurd (omega arith)
    earlier (suc k) is same = let z = h.0 (omega arith) in absurd (omega arith)

lane_counts : (names : Bool) (seats : List SeatName) → one_lane (next_lane names seats) ≡ first_share names
lane_counts true seats = refl
lane_counts false seats = refl

pub with_none : (y : Shown) → y ≡ with_seat false y
with_none y = let seated : y.seated ≡ y.seated + 0 = omega arith in let users : y.users ≡ y.users + 0 = omega arith in
    λ i. record y { seated = seated i; users = users i }

-- the value that was taken and only looked at
pub look_can : {S : Type 0} (shown : S → Shown) (m p : Me S View) (h : HasTaken shown m p) (z : S) → shown z
    ≡ shown h.value → CanRelease shown (p.0, (0, z) ∷ rest p.1)
look_can shown m p h z is =
    let told : h.now ≡ sight_of (shown z) h.now.log h.now.seats = h.took.shows.told
    ∙ ap (λ (x : Shown). sight_of x h.now.log h.now.seats) (sym is) in
    let handed : h.now.counts.handed ≡ (shown z).counts.handed = ap (λ (s : Sight). s.counts.handed) told in
    let wrote : h.now.counts.written ≡ (shown z).counts.written = ap (λ (s : Sight). s.counts.written) told in
    let stage : h.now.counts.stage ≡ (shown z).counts.stage = ap (λ (s : Sight). s.counts.stage) told in
    let users : (shown z).users ≡ (shown h.value).users = ap (λ (x : Shown). x.users) is in record {
      value = z;
      claim = sees h.now (claim_of m);
      users = (shown h.value).users;
      is = ap (λ (x : Me _ View). (x.0, (0, z) ∷ rest x.1)) h.is;
      may = record {
        past = ([], ap (λ (x : Shown). x.past) is ∙ h.took.shows.past, tt);
        seated = ap (λ (x : Shown). x.seated) is ∙ h.took.shows.seated;
        lanes = sym (ap (λ (s : Sight). s.lanes) told);
        options = sym (ap (λ (s : Sight). s.options) told);
        version = subst (λ (s : Sight). StaysThere s.version (shown z).version) (sym told)
            (stays_same (shown z).version);
        rises = subst (λ (s : Sight). CountsRise s.counts (shown z).counts) (sym told) (rises_none (shown z).counts);
        written = omega arith;
        users_are = omega arith;
        ends = ((let low = h.took.ends.0 in omega arith), λ rose. users ∙ h.took.ends.1 (omega arith));
      };
    }

pub looked : {S : Type 0} (shown : S → Shown) (m p n : Me S View) (h : HasTaken shown m p) (z : S) → shown z
    ≡ shown h.value → Releases shown (p.0, (0, z) ∷ rest p.1) n
    → (n ≡ seat_with (claim_with_entries (shown z) (shown h.value).users (sees h.now (claim_of m)))) × Looks shown m n
looked shown m p n h z is rel =
    let told : h.now ≡ sight_of (shown z) h.now.log h.now.seats = h.took.shows.told
    ∙ ap (λ (x : Shown). sight_of x h.now.log h.now.seats) (sym is) in
    let n-is = rel z (shown h.value).users (sees h.now (claim_of m))
    (ap (λ (x : Me _ View). (x.0, (0, z) ∷ rest x.1)) h.is) in
    let none-newer = newer-is (shown z) h.now.log [] (ap (λ (x : Shown). x.past) is ∙ h.took.shows.past) in
    let users : (shown z).users ≡ (shown h.value).users = ap (λ (x : Shown). x.users) is in
    let share : (claim_of n).share ≡ (claim_of m).share + (shown z).users - (shown h.value).users =
    ap (λ (x : Me _ View). (claim_of x).share) n-is in (
      n-is,
      record {
        before = h.value;
        now = h.now;
        took = h.took;
        number = ap (λ (x : Me _ View). number_of x) n-is;
        share = omega arith;
        sight = ap (λ (x : Me _ View). sight_by x) n-is ∙ (λ i. sight_of (shown z)
            (map (stamp (number_of m)) (none-newer i) ++ h.now.log) h.now.seats) ∙ sym told;
      },
    )

-- the value that was looked at is the one that was taken
pub looked_at : {S : Type 0} (shown : S → Shown) (m p n : Me S View) (h : HasTaken shown m p) (z : S) → shown z
    ≡ shown h.value → Releases shown (p.0, (0, z) ∷ rest p.1) n
    → (l : Looks shown m n) × (l.before ≡ h.value)
unfolding looked
looked_at shown m p n h z is rel = ((looked shown m p n h z is rel).1, refl)

pub hand_is : {S : Type 0} (shown : S → Shown) (m p : Me S View) (h : HasTaken shown m p) → p.1
    ≡ (0, h.value) ∷ rest p.1
hand_is shown m p h = ap (λ (x : Me _ View). x.1) h.is ∙ ap (λ (x : Me _ View). (0, h.value) ∷ rest x.1) (sym h.is)

-- ---- the value and the two seats

module _ {S : Type 0} (shown : S → Shown) (m p : Me S View) (h : HasTaken shown m p) (names : Bool)
    (enough : first_share names ≤ (claim_of m).share) where
  abbrev old : Claim
  old = sees h.now (claim_of m)

  abbrev new : Claim
  new = with_seated_lane names old

  abbrev y : Shown
  y = shown h.value

  pub splits_at : (seat : ℕ) → Splits (Kept shown) seat p.0 (giver names p.0) (newcomer names p.0)
  splits_at seat = subst (λ (x : Me S View). Splits (Kept shown) seat x.0 (giver names x.0) (newcomer names x.0))
      (sym h.is) (splits shown seat y.users old [] names enough)

  module _ (z : S) (is : shown z ≡ with_seat names y) where
    may : MayRelease new y.users (shown z)
    may =
        let told = h.took.shows.told in
        let handed : h.now.counts.handed ≡ y.counts.handed = ap (λ (s : Sight). s.counts.handed) told in
        let wrote : h.now.counts.written ≡ y.counts.written = ap (λ (s : Sight). s.counts.written) told in
        let same : (shown z).counts ≡ y.counts = ap (λ (x : Shown). x.counts) is in
        let handed' : (shown z).counts.handed ≡ y.counts.handed = ap (λ (x : Shown). x.counts.handed) is in
        let wrote' : (shown z).counts.written ≡ y.counts.written = ap (λ (x : Shown). x.counts.written) is in
        let stage' : (shown z).counts.stage ≡ y.counts.stage = ap (λ (x : Shown). x.counts.stage) is in
        let stage : h.now.counts.stage ≡ y.counts.stage = ap (λ (s : Sight). s.counts.stage) told in
        let users : (shown z).users ≡ y.users + first_share names = ap (λ (x : Shown). x.users) is in
        let seats : (shown z).seated ≡ y.seated + first_share names = ap (λ (x : Shown). x.seated) is in
        let lanes = lane_counts names h.now.seats in
        let seated = h.took.shows.seated in
        let has = h.took.share in
        let counts : CountsRise h.now.counts (shown z).counts = subst
        (λ (s : Sight). CountsRise s.counts (shown z).counts)
        (sym told) (subst (CountsRise y.counts) (sym same) (rises_none y.counts)) in record {
          past = ([], ap (λ (x : Shown). x.past) is ∙ h.took.shows.past, tt);
          seated = omega arith;
          lanes = ap (λ (x : Shown). x.lanes) is ∙ sym (ap (λ (s : Sight). s.lanes) told);
          options = ap (λ (x : Shown). x.options) is ∙ sym (ap (λ (s : Sight). s.options) told);
          version = subst (λ (s : Sight). StaysThere s.version (shown z).version) (sym told)
              (subst (StaysThere y.version) (sym (ap (λ (x : Shown). x.version) is)) (stays_same y.version));
          rises = counts;
          written = omega arith;
          users_are = omega arith;
          ends = (
            (let low = h.took.ends.0 in omega arith),
            λ rose. let none-left = h.took.ends.1 (omega arith) in
                omega arith,
          );
        }

    pub gives_can : (q : Me S View) → q ≡ (giver names p.0, (0, z) ∷ rest p.1) → CanRelease shown q
    gives_can q q-is = record {
      value = z;
      claim = new;
      users = y.users;
      is = q-is
          ∙ ap (λ (x : Me S View). (giver names x.0, (0, z) ∷ rest x.1)) h.is;
      may = may;
    }

    abbrev pub after : Claim
    after = claim_with_entries (shown z) y.users new

    pub gave_seat : (q n : Me S View) → q ≡ (giver names p.0, (0, z) ∷ rest p.1) → Releases shown q n → n
        ≡ seat_with after
    gave_seat q n q-is rel = rel z y.users new (q-is ∙ ap (λ (x : Me S View). (giver names x.0, (0, z) ∷ rest x.1))
        h.is)

    pub fresh_seat : (w : Me S View) → w ≡ (newcomer names p.0, []) → w ≡ seat_with (fresh names old)
    fresh_seat w is' = is' ∙ ap (λ (x : Me S View). (newcomer names x.0, [])) h.is

    none_newer : newer (shown z) h.now.log ≡ []
    none_newer = newer-is (shown z) h.now.log [] (ap (λ (x : Shown). x.past) is ∙ h.took.shows.past)

    sight_after : after.sight ≡ new.sight
    sight_after =
        (λ i. sight_of (is i) (map (stamp (number_of m)) (none_newer i) ++ h.now.log) new.sight.seats)
        ∙ ap (λ (s : Sight). record s { seats = new.sight.seats }) (sym h.took.shows.told)

    pub gives : (n w : Me S View) → n ≡ seat_with after → w ≡ seat_with (fresh names old) → Gives shown names m n w
    gives n w n-is w-is =
        let users : (shown z).users ≡ y.users + first_share names = ap (λ (x : Shown). x.users) is in
        let share : (claim_of n).share ≡ (claim_of m).share - first_share names + (shown z).users - y.users =
        ap (λ (x : Me S View). (claim_of x).share) n-is in record {
          before = h.value;
          now = h.now;
          took = h.took;
          number = ap (λ (x : Me S View). number_of x) n-is;
          share = omega arith;
          sight = ap (λ (x : Me S View). sight_by x) n-is ∙ sight_after;
          given =
              (λ i. seats_given_by (number_of (n-is i)) (sight_by (n-is i)).seats)
              ∙ ap (λ b. if b then seats_given_by (number_of m) h.now.seats ++ length h.now.seats ∷ [] else
              seats_given_by (number_of m) h.now.seats) (eq-eqb (number_of m) (number_of m) refl)
              ∙ (λ i. h.took.given i ++ number_of (sym w-is i) ∷ []);
          new_number = ap (λ (x : Me S View). number_of x) w-is;
          new_share = ap (λ (x : Me S View). (claim_of x).share) w-is;
          new_sight = ap (λ (x : Me S View). sight_by x) w-is ∙ sym sight_after
              ∙ sym (ap (λ (x : Me S View). sight_by x) n-is);
        }

    pub is_fresh : (w : Me S View) → w ≡ seat_with (fresh names old)
        → IsFresh (claim_of w) (next_lane names h.now.seats)
    is_fresh w w-is = subst (λ (c : Claim). IsFresh c (next_lane names h.now.seats))
        (sym (ap (λ (x : Me S View). claim_of x) w-is)) record {
          names = ap (λ b. lane_in (if b then Some (seat_name (number_of m) (next_lane names h.now.seats)) else
              name_at h.now.seats (length h.now.seats))) (eq-eqb (length h.now.seats) (length h.now.seats) refl);
          made = own_none h.now.seats h.now.log h.took.lawful.named;
          given = let there = h.took.there in gave-others (number_of m) (length h.now.seats)
              (next_lane names h.now.seats)
              h.now.seats (λ same. absurd (omega arith)) ∙ gave_none (length h.now.seats) h.now.seats (omega arith)
              (omega arith) h.took.lawful.seated;
        }

-- ---- a lane's seat

module _ {S : Type 0} (shown : S → Shown) (m p : Me S View) (h : HasTaken shown m p) (z : S) where
  -- the lane that the new seat names is the next one, and it is there
  pub gives_lane : (enough : first_share true ≤ (claim_of m).share) (is : shown z ≡ with_seat true (shown h.value))
      (n w : Me S View)
      → n ≡ seat_with (after shown m p h true enough z is) → w ≡ seat_with (fresh true (sees h.now (claim_of m)))
      → (lane : ℕ) → lane ≡ (shown h.value).seated → lane < length (shown h.value).lanes
      → GivesLane shown (Some lane) m n w
  unfolding gives
  gives_lane enough is n w n-is w-is lane next less =
      let g : Gives shown true m n w = gives shown m p h true enough z is n w n-is w-is in
      let seats : lanes_in (sight_by n).seats ≡ 1 + lanes_in h.now.seats = ap (λ (s : Sight). lanes_in s.seats) g.sight
      in
      let lanes : length (sight_by n).lanes ≡ length (shown h.value).lanes =
      ap (λ (s : Sight). length s.lanes) g.sight ∙ ap (λ (s : Sight). length s.lanes) h.took.shows.told in
      let seated = h.took.shows.seated in
      let is_next : lanes_in h.now.seats ≡ lane = sym (next ∙ seated) in record {
        gives = g;
        fresh = subst (λ (k : ℕ). IsFresh (claim_of w) (Some k)) is_next (is_fresh shown m p h true enough z is w w-is);
        number = lane;
        names = refl;
        next = omega arith;
        there = omega arith;
      }

  -- no lane is left
  pub has_none : (n : Me S View) (is : shown z ≡ shown h.value) → Releases shown (p.0, (0, z) ∷ rest p.1) n
      → length (shown h.value).lanes ≤ (shown h.value).seated → HasNone shown m n
  unfolding looked
  has_none n is rel less =
      let l : Looks shown m n = (looked shown m p n h z is rel).1 in
      let seats : lanes_in (sight_by n).seats ≡ lanes_in h.now.seats = ap (λ (s : Sight). lanes_in s.seats) l.sight in
      let lanes : length (sight_by n).lanes ≡ length (shown h.value).lanes =
      ap (λ (s : Sight). length s.lanes) l.sight ∙ ap (λ (s : Sight). length s.lanes) h.took.shows.told in
      let seated = h.took.shows.seated in
      record { looks = l; all = omega arith }

-- ---- the seat that gave one

module _ {S : Type 0} (shown : S → Shown) (m n : Me S View) (now : Sight) (y : Shown)
    (took : ShowsSightOf (claim_of m) now y)
    (number : number_of n ≡ number_of m) (log : (sight_by n).log ≡ now.log) (later : IsLaterSight now (sight_by n))
  where
    pub keeps_name : (lane : Option ℕ) → NamesLane (claim_of m) lane → NamesLane (claim_of n) lane
    keeps_name lane names = subst (λ (k : ℕ). lane_in (name_at (sight_by n).seats k) ≡ Some lane) (sym number)
        (still_names (claim_of m) (sight_by n) lane names (later_on (sight_by m) now (sight_by n) took.later later))

    pub keeps_receipts : (receipts : List Receipt) → receipts ≡ own (number_of m) (sight_by m).log → receipts
        ≡ own (number_of n) (sight_by n).log
    keeps_receipts receipts was = was ∙ sym took.made ∙ (λ i. own (sym number i) (sym log i))

gives_later : (now s : Sight) (g : SeatName) → s ≡ record now { seats = g ∷ now.seats } → IsLaterSight now s
gives_later now s g is = subst (IsLaterSight now) (sym is) (let same = later_same now in
    record {
      log = same.log;
      seats = (g ∷ [], refl);
      lanes = refl;
      options = refl;
      version = same.version;
      counts =
          same.counts;
    })

looks_later : (now s : Sight) → s ≡ now → IsLaterSight now s
looks_later now s is = subst (IsLaterSight now) (sym is) (later_same now)

pub gives_keeps : {S : Type 0} (shown : S → Shown) (names : Bool) (m n w : Me S View) (lane : Option ℕ)
    (receipts : List Receipt) → Gives shown names m n w
    → (NamesLane (claim_of m) lane → NamesLane (claim_of n) lane)
    × (receipts ≡ own (number_of m) (sight_by m).log → receipts ≡ own (number_of n) (sight_by n).log)
gives_keeps shown names m n w lane receipts h =
    let log = ap (λ (s : Sight). s.log) h.sight in
    let later = gives_later h.now (sight_by n) _ h.sight in (
      keeps_name shown m n h.now (shown h.before) h.took h.number log later lane,
      keeps_receipts shown m n h.now (shown h.before) h.took h.number log later receipts,
    )

pub looks_keeps : {S : Type 0} (shown : S → Shown) (m n : Me S View) (lane : Option ℕ) (receipts : List Receipt)
    → Looks shown m n
    → (NamesLane (claim_of m) lane → NamesLane (claim_of n) lane)
    × (receipts ≡ own (number_of m) (sight_by m).log → receipts ≡ own (number_of n) (sight_by n).log)
looks_keeps shown m n lane receipts h =
    let log = ap (λ (s : Sight). s.log) h.sight in
    let later = looks_later h.now (sight_by n) h.sight in (
      keeps_name shown m n h.now (shown h.before) h.took h.number log later lane,
      keeps_receipts shown m n h.now (shown h.before) h.took h.number log later receipts,
    )

pub seat_keeps : {S A : Type 0} (shown : S → Shown) (m n : Me S View) (o : Option A) (token : A → Me S View)
    (named : A → Option ℕ) (P Q : A → Type 0) (lane : Option ℕ) (receipts : List Receipt)
    → IfSome o (λ a. GivesLane shown (named a) m n (token a) × P a × Q a) → IfNone o (HasNone shown m n)
    → (NamesLane (claim_of m) lane → NamesLane (claim_of n) lane)
    × (receipts ≡ own (number_of m) (sight_by m).log → receipts ≡ own (number_of n) (sight_by n).log)
seat_keeps shown m n (Some a) token named P Q lane receipts given none =
    gives_keeps shown true m n (token a) lane receipts given.0.gives
seat_keeps shown m n None token named P Q lane receipts given none = looks_keeps shown m n lane receipts none.looks

-- and the share of the seat that gave it, or looked for a lane
pub seat_shares : {S A : Type 0} (shown : S → Shown) (m n : Me S View) (o : Option A) (token : A → Me S View)
    (named : A → Option ℕ) (P Q : A → Type 0)
    → IfSome o (λ a. GivesLane shown (named a) m n (token a) × P a × Q a) → IfNone o (HasNone shown m n)
    → (claim_of n).share ≡ (claim_of m).share
seat_shares shown m n (Some a) token named P Q given none = given.0.gives.share
seat_shares shown m n None token named P Q given none = none.looks.share
