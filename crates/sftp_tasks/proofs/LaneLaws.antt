-- Each entry of a lane has its receipt at the seat that names the lane.
use Rattle.std.proofs.Common.{
  ◌≡◌,
  ◌<◌,
  ◌==◌,
  ℕ,
  ◌+◌,
  List,
  [],
  ◌∷◌,
  ◌++◌,
  map,
  length,
  Bool,
  true,
  false,
  refl,
  sym,
  ap,
  ◌∙◌,
  subst,
  arith,
  eq-eqb,
  eqb-true,
  Some,
  None,
  IfSome,
  if◌then◌else◌,
}
use Rattle.std.specs.Prelude.{Contains, Option}
use Rattle.std.proofs.lemmas.List.Elements.{Contains-append_left, Contains-push}
use Rattle.session_seats.specs.declared.rule.Held.{Ghosts}
use Rattle.session_seats.specs.declared.seat.Seat.{Seat}
use Rattle.session_seats.specs.declared.view.Receipt.{Receipt}
use Rattle.session_seats.specs.declared.view.SeatName.{SeatName}
use Rattle.session_seats.specs.declared.view.Sight.{Sight}
use Rattle.session_seats.specs.declared.view.Stamp.{Stamp}
use Rattle.session_seats.specs.Closes.{claim_by, claims_of, part}
use Rattle.session_seats.specs.Rules.{AllTold}
use Rattle.session_seats.specs.Sights.{AllNamed, IsNextLane, IsOf, IsLawfulSight, NamesItsLane, AreSeatedInOrder, entries, lane_of, lanes_in, name_at, own, receipt}
use Rattle.session_seats.proofs.HoldLaws.{still_found}
use Rattle.session_seats.proofs.Lists.{length-entries}
use Rattle.sftp_tasks.specs.declared.locked.Locked.{Locked}
use Rattle.sftp_tasks.specs.Reported.{HasLane, HaveLanes, lane_named}

-- ---- one seat a lane

abbrev lane_by : Option SeatName → Option ℕ
lane_by None = None
lane_by (Some g) = g.lane

same_some : (a b : ℕ) → Some a ≡ Some b → a ≡ b
same_some a b e = cc e

next_is : (count : ℕ) (o : Option ℕ) (l : ℕ) → IsNextLane count o → o ≡ Some l → l ≡ count
next_is count None l h e = absurd (cc e)
next_is count (Some x) l h e = sym (same_some x l e) ∙ h

one_more : (o : Option ℕ) (l count : ℕ) → o ≡ Some l → Rattle.session_seats.specs.Sights.one_lane o + count ≡ count + 1
one_more None l count e = absurd (cc e)
one_more (Some x) l count e = omega arith

-- a lane that is named comes before the next one
lane_below : (seats : List SeatName) (n : ℕ) (g : SeatName) (l : ℕ) → AreSeatedInOrder seats → name_at seats n ≡ Some g
    → g.lane ≡ Some l → l < lanes_in seats
lane_below [] n g l seated is names = absurd (cc is)
lane_below (h ∷ seats) n g l seated is names = by_test (n == length seats)
    (λ at. lane_below seats n g l seated.3 at names) is
  where
    by_test : (b : Bool) → (name_at seats n ≡ Some g → l < lanes_in seats) → (if b then Some h else name_at seats n)
        ≡ Some g → l < lanes_in (h ∷ seats)
    by_test true before at =
        let named : h.lane ≡ Some l = ap lane_by at ∙ names in
        let next = next_is (lanes_in seats) h.lane l seated.2 named in
        let more = one_more h.lane l (lanes_in seats) named in
        omega (arith, next, more)
    by_test false before at = let low = before at in omega (arith, low)

-- two seats that name one lane are one
one_seat : (seats : List SeatName) (a b : ℕ) (g k : SeatName) (l : ℕ) → AreSeatedInOrder seats → name_at seats a
    ≡ Some g → g.lane ≡ Some l
    → name_at seats b ≡ Some k → k.lane ≡ Some l → a ≡ b
one_seat [] a b g k l seated is names at called = absurd (cc is)
one_seat (h ∷ seats) a b g k l seated is names at called =
    by_test (a == length seats) (b == length seats) refl refl (λ x y. one_seat seats a b g k l seated.3 x names y
    called) is at
  where
    last : (n : ℕ) (x : SeatName) → Some h ≡ Some x → x.lane ≡ Some l → l ≡ lanes_in seats
    last n x same named = next_is (lanes_in seats) h.lane l seated.2 (ap lane_by same ∙ named)

    by_test : (s t : Bool) → (a == length seats) ≡ s → (b == length seats) ≡ t
        → (name_at seats a ≡ Some g → name_at seats b ≡ Some k → a ≡ b)
        → (if s then Some h else name_at seats a) ≡ Some g → (if t then Some h else name_at seats b) ≡ Some k → a ≡ b
    by_test true true x y before p q = eqb-true a (length seats) x ∙ sym (eqb-true b (length seats) y)
    by_test true false x y before p q =
        let next = last a g p names in let low = lane_below seats b k l seated.3 q called in
        absurd (omega (arith, next, low))
    by_test false true x y before p q =
        let next = last b k q called in let low = lane_below seats a g l seated.3 p names in
        absurd (omega (arith, next, low))
    by_test false false x y before p q = before p q

-- ---- the receipts of its lane

own_more : (n : ℕ) (s : Stamp) (past : List Stamp) (r : Receipt) → Contains (own n past) r
    → Contains (own n (s ∷ past)) r
own_more n s past r h = by_test (s.by == n)
  where
    by_test : (b : Bool) → Contains (if b then own n past ++ receipt (length past) s.entry ∷ [] else own n past) r
    by_test true = Contains-append_left (own n past) (receipt (length past) s.entry ∷ []) r h
    by_test false = h

own_here : (n : ℕ) (s : Stamp) (past : List Stamp) → s.by ≡ n
    → Contains (own n (s ∷ past)) (receipt (length past) s.entry)
own_here n s past mine =
    subst (λ (l : List Receipt). Contains l (receipt (length past) s.entry))
    (sym (ap (λ (b : Bool). if b then own n past ++ receipt (length past) s.entry ∷ [] else own n past)
    (eq-eqb s.by n mine)))
    (Contains-push (own n past) (receipt (length past) s.entry))

-- the seat that made an entry of a lane names it
names_its : (seats : List SeatName) (s : Stamp) (l : ℕ) (h : NamesItsLane seats s) → lane_of s.entry ≡ Some l → h.0.lane
    ≡ Some l
names_its seats s l h is = subst (λ (o : Option ℕ). IsOf o h.0.lane) is h.2

has_lane : (seats : List SeatName) (n l : ℕ) (g : SeatName) → AreSeatedInOrder seats → name_at seats n ≡ Some g → g.lane
    ≡ Some l
    → (log : List Stamp) → AllNamed seats log → (list : List Receipt)
    → ((r : Receipt) → Contains (own n log) r → Contains list r)
    → HasLane (entries log) l list
has_lane seats n l g seated is names [] all list there = tt
has_lane seats n l g seated is names (s ∷ past) all list there = (
  λ of. let mine = one_seat seats s.by n all.0.0 g l seated all.0.1 (names_its seats s l all.0 of) is names in
      subst (λ (k : ℕ). Contains list (receipt k s.entry)) (sym (length-entries past))
      (there _ (own_here n s past mine)),
  has_lane seats n l g seated is names past all.1 list (λ r h. there r (own_more n s past r h)),
)

-- ---- of each seat

module _ {G : Ghosts Locked} where
  pub have_lanes : (now : Sight) → IsLawfulSight now → (seats : List (Seat Locked G)) → AllTold now (claims_of seats)
      → HaveLanes (entries now.log) (map lane_named seats) (map (part now) seats)
  have_lanes now lawful [] told = tt
  have_lanes now lawful (s ∷ seats) told = (of_lane s.lane refl, have_lanes now lawful seats told.1)
    where
      of_lane : (o : Option ℕ) → s.lane ≡ o → IfSome o (λ l. HasLane (entries now.log) l (part now s))
      of_lane None is = tt
      of_lane (Some l) is =
          let f = still_found (claim_by s) now s.lane s.named told.0.later in
          has_lane now.seats (claim_by s).number l f.0 lawful.seated f.1 (f.2 ∙ is) now.log lawful.named (part now s)
          (λ r h. h)
