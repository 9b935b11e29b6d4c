-- What a hold leaves.
use Rattle.std.proofs.Common.{
  ◌≡◌,
  ◌-◌,
  ◌≤◌,
  ℕ,
  suc,
  ◌+◌,
  ◌==◌,
  List,
  [],
  ◌∷◌,
  ◌++◌,
  map,
  length,
  drop,
  take,
  reverse,
  get_or,
  Bool,
  true,
  false,
  ◌&&◌,
  true≢false,
  refl,
  sym,
  ap,
  ◌∙◌,
  subst,
  arith,
  Some,
  None,
  eqb-true,
}
use Rattle.std.proofs.lemmas.List.{reverse-append, reverse-reverse, length-reverse}
use Rattle.std.specs.Prelude.{Option}
use Rattle.std.specs.List.{list_all}
use mathlib.Core.Option.{none}
use Rattle.atomic_table.specs.Table.{Me, Allows, step, rest}
use Rattle.session_model.specs.declared.entry.Entry.{Entry}
use Rattle.session_seats.specs.declared.view.Receipt.{Receipt}
use Rattle.session_seats.specs.declared.view.SeatName.{SeatName}
use Rattle.session_seats.specs.declared.view.Sight.{Sight}
use Rattle.session_seats.specs.declared.view.Claim.{Claim}
use Rattle.session_seats.specs.declared.view.View.{View}
use Rattle.session_seats.specs.Sights.{Shown, stamp, receipt, own, made_on, made_from, name_at, IsOf, lane_of, AllNamed, FitsStage, IsLaterSight, StaysThere, CountsRise}
use Rattle.session_seats.specs.Rules.{Kept, MayRelease, ShowsSightOf, acquired, first, claim_with_entries, with_claims_held, let_out, newer, released, sees}
use Rattle.session_seats.specs.Holds.{
  claim_of,
  number_of,
  sight_by,
  seat_with,
  IsSeat,
  HasTaken,
  CanRelease,
  Releases,
  Hold,
  GoesByEntries,
  Allowance,
  HasUsers,
  NamesLane,
  lane_in,
  fits_lane,
  is_of,
}
use Rattle.session_seats.specs.declared.wakes.Tide.{Tide}
use Rattle.session_seats.specs.Wakes.{concerns}
use Rattle.session_seats.proofs.Lists.{length-entries, name_more, name_there, later_on, own-mine}
use Rattle.session_seats.proofs.Steps.{acquires, releases, newer-is, later_now}

module _ {S : Type 0} (shown : S → Shown) where
  pub acquires_as : (slots seat : ℕ) (m n : Me S View) → IsSeat n → m ≡ n
      → Allows (Kept shown) slots seat m 0 (λ k. prog.Atomic.either (k == 0) 1 k)
      (acquired shown (step slots 0 0 1 none) m)
  acquires_as slots seat m n free is =
      subst (λ (x : Me S View). Allows (Kept shown) slots seat x 0 (λ k. prog.Atomic.either (k == 0) 1 k)
      (acquired shown (step slots 0 0 1 none) x))
      (sym (is ∙ free)) (acquires shown slots seat (claim_of n) [] [])

  pub has_taken : (m n : Me S View) → IsSeat m → (y : S) (now : Sight) → n
      ≡ (with_claims_held now (shown y).users m.0, (0, y) ∷ m.1) → ShowsSightOf (first m.0.claims) now (shown y)
      → HasTaken shown m n
  has_taken m n free y now is took = record {
    value = y;
    now = now;
    took = took;
    is = is ∙ ap (λ (x : Me S View). (with_claims_held now (shown y).users x.0, (0, y) ∷ x.1)) free;
  }

  pub releases_at : (slots seat : ℕ) (m : Me S View) → CanRelease shown m
      → Allows (Kept shown) slots seat m 0 (λ _. 0) (λ _. released shown (step slots 0 0 0 none) m 0)
  releases_at slots seat m can =
      subst (λ (x : Me S View). Allows (Kept shown) slots seat x 0 (λ _. 0)
      (λ _. released shown (step slots 0 0 0 none) x 0)) (sym can.is)
      (releases shown slots seat can.users can.claim [] can.value [] can.may)

  pub gave_at : (m n : Me S View) (slots : ℕ) → released shown (step slots 0 0 0 none) m 0 n → Releases shown m n
  gave_at m n slots rel y users c is =
      rel y (ap (λ (x : Me S View). x.1) is ∙ ap (λ (x : Me S View). (0, y) ∷ rest x.1) (sym is))
      ∙ ap (λ (x : Me S View). (let_out (shown y) x.0, rest x.1)) is

-- the value that is lent is the one that was taken
pub tie : {S : Type 0} (shown : S → Shown) (m p : Me S View) (h : HasTaken shown m p) (y : S) → p.1 ≡ (0, y) ∷ rest p.1
    → h.value ≡ y
tie {S} shown m p h y is = ap (λ (l : List (ℕ × S)). (get_or l 0 (0, h.value)).1)
    (sym (ap (λ (x : Me S View). x.1) h.is) ∙ is)

-- ---- the maker of the entries that were added

pub both_true : (b c : Bool) → b && c ≡ true → (b ≡ true) × (c ≡ true)
both_true true c h = (refl, h)
both_true false c h = absurd (true≢false (sym h))

fits_named : (of lane : Option ℕ) → fits_lane of lane ≡ true → IsOf of lane
fits_named None lane h = tt
fits_named (Some l) None h = absurd (true≢false (sym h))
fits_named (Some l) (Some k) h = ap (λ (j : ℕ). Some j) (sym (eqb-true l k h))

abbrev is_there : {A : Type 0} → Option A → Type 0
is_there None = ⊥
is_there (Some x) = Unit {0}

abbrev or_none : Option (Option ℕ) → Option ℕ
or_none None = None
or_none (Some x) = x

-- the seat of a name
found_lane : (o : Option SeatName) (lane : Option ℕ) → lane_in o ≡ Some lane → (g : SeatName) × (o ≡ Some g)
    × (g.lane ≡ lane)
found_lane None lane h = absurd (subst (λ (o : Option (Option ℕ)). is_there o) (sym h) tt)
found_lane (Some g) lane h = (g, refl, ap or_none h)

-- a seat that names a lane does so later, too
pub still_found : (c : Claim) (now : Sight) (lane : Option ℕ) → NamesLane c lane → IsLaterSight c.sight now
    → (g : SeatName)
    × (name_at now.seats c.number ≡ Some g) × (g.lane ≡ lane)
still_found c now lane names later =
    let f = found_lane (name_at c.sight.seats c.number) lane names in
    let there = name_there c.sight.seats c.number f.0 f.1 in (
      f.0,
      ap (λ (l : List SeatName). name_at l c.number) later.seats.1
          ∙ name_more later.seats.0 c.sight.seats c.number there ∙ f.1,
      f.2,
    )

pub still_names : (c : Claim) (now : Sight) (lane : Option ℕ) → NamesLane c lane → IsLaterSight c.sight now
    → lane_in (name_at now.seats c.number) ≡ Some lane
still_names c now lane names later = let f = still_found c now lane names later in ap lane_in f.1
    ∙ ap (λ (o : Option ℕ). Some o) f.2

-- entries of the lane that the seat names
all-named : (seats : List SeatName) (n : ℕ) (lane : Option ℕ) (g : SeatName) → name_at seats n ≡ Some g → g.lane ≡ lane
    → (only : Entry → Bool) (es : List Entry)
    → list_all (λ e. only e && is_of lane e) es ≡ true → AllNamed seats (map (stamp n) es)
all-named seats n lane g at names only [] h = tt
all-named seats n lane g at names only (e ∷ es) h =
    let both = both_true (only e && is_of lane e) (list_all (λ e. only e && is_of lane e) es) h in
    let of = both_true (only e) (is_of lane e) both.0 in (
      (g, at, subst (λ (o : Option ℕ). IsOf (lane_of e) o) (sym names) (fits_named (lane_of e) lane of.1)),
      all-named seats n lane g at names only es both.1,
    )

-- ---- the value goes back

module _ {S : Type 0} (shown : S → Shown) (m p : Me S View) (h : HasTaken shown m p) (z : S) (lane : Option ℕ)
    (only : Entry → Bool) (needs : Allowance) where
  abbrev mine : Claim
  mine = sees h.now (claim_of m)

  abbrev y : Shown
  y = shown h.value

  module _ (more : List Entry) (goes : GoesByEntries (λ e. only e && is_of lane e) needs more y (shown z)) where
    may_release : NamesLane (claim_of m) lane → needs.tells ≤ (claim_of m).unwritten → needs.leaves ≤ (claim_of m).share
        → MayRelease mine y.users (shown z)
    may_release names tells leaves =
        let f = still_found (claim_of m) h.now lane names h.took.later in
        let seen = h.took.shows.told in
        let handed : h.now.counts.handed ≡ y.counts.handed = ap (λ (s : Sight). s.counts.handed) seen in
        let wrote : h.now.counts.written ≡ y.counts.written = ap (λ (s : Sight). s.counts.written) seen in
        let w = goes.written in
        let u = goes.users in record {
          past = (
            more,
            goes.past ∙ ap (λ (l : List Entry). more ++ l) h.took.shows.past,
            all-named h.now.seats (number_of m) lane f.0 f.1 f.2 only more goes.passes,
          );
          seated = goes.seated ∙ h.took.shows.seated;
          lanes = goes.lanes ∙ sym (ap (λ (s : Sight). s.lanes) seen);
          options = goes.options ∙ sym (ap (λ (s : Sight). s.options) seen);
          version = subst (λ (s : Sight). StaysThere s.version (shown z).version) (sym seen) goes.version;
          rises = subst (λ (s : Sight). CountsRise s.counts (shown z).counts) (sym seen) goes.rises;
          written = omega arith;
          users_are = omega arith;
          ends = goes.ends (subst (λ (s : Sight). FitsStage s.counts.stage y.users) seen h.took.ends);
        }

    pub can_release : NamesLane (claim_of m) lane → needs.tells ≤ (claim_of m).unwritten
        → needs.leaves ≤ (claim_of m).share → CanRelease shown (p.0, (0, z) ∷ rest p.1)
    can_release names tells leaves = record {
      value = z;
      claim = mine;
      users = y.users;
      is = ap (λ (x : Me S View). (x.0, (0, z) ∷ rest x.1)) h.is;
      may = may_release names tells leaves;
    }

    pub holds : (n : Me S View) (Did : S → S → List Entry → Type 0) → Releases shown (p.0, (0, z) ∷ rest p.1) n
        → Did h.value z more → Hold shown Did m n
    holds n Did rel did =
        let is = rel z y.users mine (ap (λ (x : Me S View). (x.0, (0, z) ∷ rest x.1)) h.is) in record {
          before = h.value;
          now = h.now;
          after = z;
          more = more;
          took = h.took;
          past = goes.past;
          is = is;
          log = ap (λ (x : Me S View). (sight_by x).log) is
              ∙ ap (λ (es : List Entry). map (stamp (number_of m)) es ++ h.now.log)
              (newer-is (shown z) h.now.log more (goes.past ∙ ap (λ (l : List Entry). more ++ l)
              h.took.shows.past));
          seats = ap (λ (x : Me S View). (sight_by x).seats) is;
          later = subst (λ (x : Me S View). IsLaterSight h.now (sight_by x)) (sym is)
              (later_now h.now (shown z) (number_of m) (newer (shown z) h.now.log)
              (goes.lanes ∙ sym (ap (λ (s : Sight). s.lanes) h.took.shows.told))
              (goes.options ∙ sym (ap (λ (s : Sight). s.options) h.took.shows.told))
              (subst (λ (s : Sight). StaysThere s.version (shown z).version) (sym h.took.shows.told) goes.version)
              (subst (λ (s : Sight). CountsRise s.counts (shown z).counts) (sym h.took.shows.told) goes.rises));
          did = did;
        }

-- ---- the share

share_sum : (share mine before after leaves now : ℕ) → share ≡ mine → mine ≤ before → leaves ≤ mine
    → before ≤ leaves + after
    → now ≡ mine + after - before → after - (before - share) ≡ now
share_sum share mine before after leaves now is within most users sum = omega (arith, is, within, most, users, sum)

-- the share that is counted beside the users is that of the claim
pub shares_after : {S : Type 0} (shown : S → Shown) (m p : Me S View) (h : HasTaken shown m p) (z : S)
    (test : Entry → Bool)
    (needs : Allowance)
    (more : List Entry) → GoesByEntries test needs more (shown h.value) (shown z) → needs.leaves ≤ (claim_of m).share
    → (n : Me S View) → Releases shown (p.0, (0, z) ∷ rest p.1) n → (share before after : ℕ) → share
    ≡ (claim_of m).share
    → before ≡ (shown h.value).users → after ≡ (shown z).users → after - (before - share) ≡ (claim_of n).share
shares_after shown m p h z test needs more goes leaves n rel share before after is was are =
    let mine : Claim = sees h.now (claim_of m) in
    let users : ℕ = (shown h.value).users in
    let gave : n ≡ seat_with (claim_with_entries (shown z) users mine) =
    rel z users mine (ap (λ (x : Me _ View). (x.0, (0, z) ∷ rest x.1)) h.is) in
    (λ i. are i - (was i - share))
    ∙ share_sum share (claim_of m).share users (shown z).users needs.leaves (claim_of n).share is h.took.share leaves
    goes.users
    (ap (λ (x : Me _ View). (claim_of x).share) gave)

-- ---- receipts

pub from-snoc : (k : ℕ) (es : List Entry) (e : Entry) → made_from k (es ++ e ∷ []) ≡ made_from k es
    ++ receipt (k + length es) e ∷ []
from-snoc k [] e = let zero-k : k ≡ k + 0 = omega arith in ap (λ (j : ℕ). receipt j e ∷ []) zero-k
from-snoc k (x ∷ es) e = let one-k : suc k + length es ≡ k + suc (length es) = omega arith in
    ap (λ (l : List Receipt). receipt k x ∷ l) (from-snoc (suc k) es e
    ∙ ap (λ (j : ℕ). made_from (suc k) es ++ receipt j e ∷ []) one-k)

on-from : (k : ℕ) (es : List Entry) → made_from k (reverse es) ≡ made_on k es
on-from k [] = refl
on-from k (e ∷ es) =
    let len : k + length (reverse es) ≡ length es + k = omega (arith, length-reverse es) in
    ap (made_from k) (reverse-append (e ∷ []) es) ∙ from-snoc k (reverse es) e
    ∙ (λ i. on-from k es i ++ receipt (len i) e ∷ [])

drop_front : {A : Type 0} (xs ys : List A) → drop (length xs) (xs ++ ys) ≡ ys
drop_front [] ys = refl
drop_front (x ∷ xs) ys = drop_front xs ys

pub newest : (journal more old : List Entry) → reverse journal ≡ more ++ old → drop (length old) journal ≡ reverse more
newest journal more old is =
    (λ i. drop (sym (length-reverse old) i) (whole i)) ∙ drop_front (reverse old) (reverse more)
  where
    whole : journal ≡ reverse old ++ reverse more
    whole = sym (reverse-reverse journal) ∙ ap reverse is ∙ reverse-append more old

take_front : {A : Type 0} (xs ys : List A) → take (length xs) (xs ++ ys) ≡ xs
take_front [] ys = refl
take_front (x ∷ xs) ys = ap (λ (l : List _). x ∷ l) (take_front xs ys)

oldest : (journal more old : List Entry) → reverse journal ≡ more ++ old → take (length old) journal ≡ reverse old
oldest journal more old is =
    (λ i. take (sym (length-reverse old) i) (whole i)) ∙ take_front (reverse old) (reverse more)
  where
    whole : journal ≡ reverse old ++ reverse more
    whole = sym (reverse-reverse journal) ∙ ap reverse is ∙ reverse-append more old

-- the threads that the new entries concern
pub concerned_on : (journal more old : List Entry) (from : ℕ) (before before' after after' : Tide) → reverse journal
    ≡ more ++ old → from ≡ length old → before ≡ before' → after ≡ after'
    → concerns before after (reverse (drop from journal)) (reverse (take from journal))
    ≡ concerns before' after' more old
concerned_on journal more old from before before' after after' is at was then =
    let added : reverse (drop from journal) ≡ more = (λ i. reverse (drop (at i) journal))
    ∙ ap reverse (newest journal more old is) ∙ reverse-reverse more in
    let there : reverse (take from journal) ≡ old = (λ i. reverse (take (at i) journal))
    ∙ ap reverse (oldest journal more old is) ∙ reverse-reverse old in
    λ i. concerns (was i) (then i) (added i) (there i)

-- the receipts of the new entries
pub receipts_on : (journal more old : List Entry) (from : ℕ) → reverse journal ≡ more ++ old → from ≡ length old
    → made_from from (drop from journal) ≡ made_on (length old) more
receipts_on journal more old from is at =
    (λ i. made_from (at i) (drop (at i) journal)) ∙ ap (made_from (length old)) (newest journal more old is)
    ∙ on-from (length old) more

-- ---- the seat after a hold

pub is_seat : {S : Type 0} (n : Me S View) (c : Claim) → n ≡ seat_with c → IsSeat n
is_seat n c is = is ∙ ap (λ (x : Me _ View). seat_with (claim_of x)) (sym is)

module _ {S : Type 0} (shown : S → Shown) {Did : S → S → List Entry → Type 0} (m n : Me S View) (h : Hold shown Did m n)
  where
    pub number_same : number_of n ≡ number_of m
    number_same = ap (λ (x : Me S View). number_of x) h.is

    pub later_after : IsLaterSight (sight_by m) (sight_by n)
    later_after = later_on (sight_by m) h.now (sight_by n) h.took.later h.later

    pub names_after : (lane : Option ℕ) → NamesLane (claim_of m) lane → NamesLane (claim_of n) lane
    names_after lane names = subst (λ (k : ℕ). lane_in (name_at (sight_by n).seats k) ≡ Some lane) (sym number_same)
        (still_names (claim_of m) (sight_by n) lane names later_after)

    pub seat_after : IsSeat n
    seat_after = is_seat n _ h.is

    pub long : length h.now.log ≡ length (shown h.before).past
    long = sym (length-entries h.now.log) ∙ ap (λ (l : List Entry). length l) (sym h.took.shows.past)

    pub own_after : own (number_of n) (sight_by n).log ≡ own (number_of m) (sight_by m).log
        ++ made_on (length (shown h.before).past) h.more
    own_after =
        (λ i. own (number_same i) (h.log i))
        ∙ own-mine (number_of m) h.more h.now.log
        ∙ (λ i. h.took.made i ++ made_on (long i) h.more)

    pub told_after : (old new : List Receipt) → old ≡ own (number_of m) (sight_by m).log → new ≡ old
        ++ made_on (length (shown h.before).past) h.more → new ≡ own (number_of n) (sight_by n).log
    told_after old new was is = is ∙ ap (λ (l : List Receipt). l ++ made_on (length (shown h.before).past) h.more) was
        ∙ sym own_after

-- a hold that did this did that, too
pub hold_map : {S : Type 0} (shown : S → Shown) {Did Other : S → S → List Entry → Type 0} (m n : Me S View)
    (h : Hold shown Did m n) → Other h.before h.after h.more → Hold shown Other m n
hold_map shown m n h other = record {
  before = h.before;
  now = h.now;
  after = h.after;
  more = h.more;
  took = h.took;
  past = h.past;
  is = h.is;
  log = h.log;
  seats = h.seats;
  later = h.later;
  did = other;
}

-- the value that is lent has the users that the seat may take out
pub has_users : {S : Type 0} (shown : S → Shown) (m p : Me S View) (h : HasTaken shown m p) (needs : Allowance)
    → needs.leaves ≤ (claim_of m).share → HasUsers needs (shown h.value)
has_users shown m p h needs within =
    let has = h.took.share in
    (omega arith, subst (λ (s : Sight). FitsStage s.counts.stage (shown h.value).users) h.took.shows.told h.took.ends)
