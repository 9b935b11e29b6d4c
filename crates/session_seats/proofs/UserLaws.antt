-- A hold that changes how many users there are, and the stage.
use Rattle.std.proofs.Common.{◌≡◌, ◌<◌, ◌≤◌, ℕ, suc, ◌+◌, ◌-◌, ◌==◌, List, [], ◌∷◌, ◌++◌, map, Bool, true, false, refl, sym, ap, ◌∙◌, subst, arith, eqb-true}
use Rattle.std.specs.Prelude.{Option}
use Rattle.atomic_table.specs.Table.{Me, rest}
use Rattle.session_seats.specs.declared.view.Claim.{Claim}
use Rattle.session_seats.specs.declared.view.Receipt.{Receipt}
use Rattle.session_seats.specs.declared.view.Sight.{Sight}
use Rattle.session_seats.specs.declared.view.View.{View}
use Rattle.session_seats.specs.Sights.{Shown, stamp, sight_of, own, FitsStage, IsLaterSight, StaysThere, one_if}
use Rattle.session_seats.specs.Rules.{sees, claim_with_entries, newer, MayRelease}
use Rattle.session_seats.specs.Holds.{claim_of, number_of, sight_by, seat_with, HasTaken, CanRelease, Releases, NamesLane}
use Rattle.session_seats.specs.Users.{with_users, at_stage, Leaves}
use Rattle.session_seats.proofs.Lists.{stays_same, later_same}
use Rattle.session_seats.proofs.Steps.{newer-is}
use Rattle.session_seats.proofs.NewSeatLaws.{keeps_name, keeps_receipts}

later_stage : (now : Sight) (k : ℕ) → now.counts.stage ≤ k → IsLaterSight now (at_stage k now)
later_stage now k up = let same = later_same now in record {
  log = same.log;
  seats = same.seats;
  lanes = refl;
  options = refl;
  version = same.version;
  counts = record {
    handed = omega arith;
    written = omega arith;
    taken = omega arith;
    stage = up;
    phase = omega arith;
  };
}

module _ {S : Type 0} (shown : S → Shown) (m p : Me S View) (h : HasTaken shown m p) (z : S) (u k : ℕ)
    (is : shown z ≡ with_users u k (shown h.value)) where
  abbrev y : Shown
  y = shown h.value

  abbrev mine : Claim
  mine = sees h.now (claim_of m)

  stage_now : h.now.counts.stage ≡ y.counts.stage
  stage_now = ap (λ (s : Sight). s.counts.stage) h.took.shows.told

  users_are : (shown z).users ≡ u
  users_are = ap (λ (x : Shown). x.users) is

  stage_is : (shown z).counts.stage ≡ k
  stage_is = ap (λ (x : Shown). x.counts.stage) is

  -- ---- the value may be given back

  module _ (up : y.counts.stage ≤ k) (within : y.users ≤ (claim_of m).share + u) (ends : FitsStage k u) where
    may : MayRelease mine y.users (shown z)
    may =
        let told = h.took.shows.told in
        let handed : h.now.counts.handed ≡ y.counts.handed = ap (λ (s : Sight). s.counts.handed) told in
        let wrote : h.now.counts.written ≡ y.counts.written = ap (λ (s : Sight). s.counts.written) told in
        let took : h.now.counts.taken ≡ y.counts.taken = ap (λ (s : Sight). s.counts.taken) told in
        let handed' : (shown z).counts.handed ≡ y.counts.handed = ap (λ (x : Shown). x.counts.handed) is in
        let wrote' : (shown z).counts.written ≡ y.counts.written = ap (λ (x : Shown). x.counts.written) is in
        let took' : (shown z).counts.taken ≡ y.counts.taken = ap (λ (x : Shown). x.counts.taken) is in
        let phase : h.now.counts.phase ≡ y.counts.phase = ap (λ (s : Sight). s.counts.phase) told in
        let phase' : (shown z).counts.phase ≡ y.counts.phase = ap (λ (x : Shown). x.counts.phase) is in
        let stage = stage_now in
        let stage' = stage_is in
        let users = users_are in record {
          past = ([], ap (λ (x : Shown). x.past) is ∙ h.took.shows.past, tt);
          seated = ap (λ (x : Shown). x.seated) is ∙ h.took.shows.seated;
          lanes = ap (λ (x : Shown). x.lanes) is ∙ sym (ap (λ (s : Sight). s.lanes) told);
          options = ap (λ (x : Shown). x.options) is ∙ sym (ap (λ (s : Sight). s.options) told);
          version = subst (λ (s : Sight). StaysThere s.version (shown z).version) (sym told)
              (subst (StaysThere y.version) (sym (ap (λ (x : Shown). x.version) is)) (stays_same y.version));
          rises = record {
            handed = omega arith;
            written = omega arith;
            taken = omega arith;
            stage = omega arith;
            phase = omega arith;
          };
          written = omega arith;
          users_are = omega arith;
          ends = ((let low = ends.0 in omega arith), λ rose. users ∙ ends.1 (omega arith));
        }

    pub turn_can : CanRelease shown (p.0, (0, z) ∷ rest p.1)
    turn_can = record {
      value = z;
      claim = mine;
      users = y.users;
      is =
          ap (λ (x : Me S View). (x.0, (0, z) ∷ rest x.1)) h.is;
      may = may;
    }

  -- ---- the seat after the hold

  abbrev pub after : Claim
  after = claim_with_entries (shown z) y.users mine

  module _ (n : Me S View) (rel : Releases shown (p.0, (0, z) ∷ rest p.1) n) where
    pub turned : n ≡ seat_with after
    turned = rel z y.users mine (ap (λ (x : Me S View). (x.0, (0, z) ∷ rest x.1)) h.is)

    none_newer : newer (shown z) h.now.log ≡ []
    none_newer = newer-is (shown z) h.now.log [] (ap (λ (x : Shown). x.past) is ∙ h.took.shows.past)

    sight_after : sight_by n ≡ at_stage k h.now
    sight_after =
        ap (λ (x : Me S View). sight_by x) turned
        ∙ (λ i. sight_of (is i) (map (stamp (number_of m)) (none_newer i) ++ h.now.log) h.now.seats)
        ∙ ap (λ (s : Sight). at_stage k s) (sym h.took.shows.told)

    number_after : number_of n ≡ number_of m
    number_after = ap (λ (x : Me S View). number_of x) turned

    share_after : (claim_of n).share ≡ (claim_of m).share + (shown z).users - y.users
    share_after = ap (λ (x : Me S View). (claim_of x).share) turned

    later_after : h.now.counts.stage ≤ k → IsLaterSight h.now (sight_by n)
    later_after up = subst (IsLaterSight h.now) (sym sight_after) (later_stage h.now k up)

-- ---- a user leaves

module _ {S : Type 0} (shown : S → Shown) (m p : Me S View) (h : HasTaken shown m p) (some : 0 < (claim_of m).share)
  where
    -- there is a user, and the end has not started
    pub can_leave : (0 < (shown h.value).users) × ((shown h.value).counts.stage ≡ 0)
    can_leave = let has = h.took.share in (omega arith, not_begun (shown h.value).counts.stage refl)
      where
        not_begun : (k : ℕ) → (shown h.value).counts.stage ≡ k → (shown h.value).counts.stage ≡ 0
        not_begun Prim.Native.Nat.zero is = is
        not_begun (suc k) is =
            let has = h.took.share in
            let now : h.now.counts.stage ≡ (shown h.value).counts.stage =
            ap (λ (s : Sight). s.counts.stage) h.took.shows.told in
            let none = h.took.ends.1 (omega arith) in absurd (omega arith)

    ends_if : (b : Bool) (n : ℕ) → b ≡ (n == 1) → FitsStage (one_if b) (n - 1)
    ends_if true n is = (omega arith, λ rose. let one = eqb-true n 1 (sym is) in omega arith)
    ends_if false n is = (omega arith, λ rose. absurd (omega arith))

    module _ (z : S) (last : Bool) (is : shown z ≡ with_users ((shown h.value).users - 1) (one_if last) (shown h.value))
        (is_last : last ≡ ((shown h.value).users == 1)) where
      begun : (shown h.value).counts.stage ≤ one_if last
      begun = let none = can_leave.1 in omega arith

      pub leave_can : CanRelease shown (p.0, (0, z) ∷ rest p.1)
      leave_can = turn_can shown m p h z _ (one_if last) is begun (omega arith)
          (ends_if last (shown h.value).users is_last)

      pub leaves : (n : Me S View) → Releases shown (p.0, (0, z) ∷ rest p.1) n → Leaves shown last m n
      leaves n rel =
          let can = can_leave in
          let u = (shown h.value).users - 1 in
          let users = users_are shown m p h z u (one_if last) is in
          let stage = stage_now shown m p h z u (one_if last) is in
          let share = share_after shown m p h z u (one_if last) is n rel in record {
            before = h.value;
            now = h.now;
            took = h.took;
            some = can.0;
            going = stage ∙ can.1;
            is_last = is_last;
            number = number_after shown m p h z u (one_if last) is n rel;
            share = omega arith;
            sight = sight_after shown m p h z u (one_if last) is n rel;
            later = later_after shown m p h z u (one_if last) is n rel (omega arith);
          }

-- ---- the name and the receipts of the seat

pub leaves_keeps : {S : Type 0} (shown : S → Shown) (last : Bool) (m n : Me S View) (lane : Option ℕ)
    (receipts : List Receipt) → Leaves shown last m n
    → (NamesLane (claim_of m) lane → NamesLane (claim_of n) lane)
    × (receipts ≡ own (number_of m) (sight_by m).log → receipts ≡ own (number_of n) (sight_by n).log)
leaves_keeps shown last m n lane receipts l =
    let log = ap (λ (s : Sight). s.log) l.sight in (
      keeps_name shown m n l.now (shown l.before) l.took l.number log l.later lane,
      keeps_receipts shown m n l.now (shown l.before) l.took l.number log l.later receipts,
    )
