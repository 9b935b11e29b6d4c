-- believed: items_of
-- The remains of a shared value that was closed.
use Rattle.std.specs.Prelude.{◌≡◌, ℕ, Bool, true, List, [], ◌∷◌, map, Option, IfSome}
use Rattle.std.specs.declared.vec.Vec.{Vec}
use Rattle.std.proofs.Common.{Global}
use Rattle.atomic_table.specs.Seated.{TableId}
use Rattle.atomic_table.specs.Table.{Me}
use Rattle.session_seats.specs.declared.ended.Ended.{Ended}
use Rattle.session_seats.specs.declared.rule.Held.{Ghosts}
use Rattle.session_seats.specs.declared.seat.Seat.{Seat}
use Rattle.session_seats.specs.declared.view.Claim.{Claim}
use Rattle.session_seats.specs.declared.view.Receipt.{Receipt}
use Rattle.session_seats.specs.declared.view.Sight.{Sight}
use Rattle.session_seats.specs.declared.view.View.{View}
use Rattle.session_seats.specs.Sights.{Shown, own, IsLawfulSight}
use Rattle.session_seats.specs.Rules.{view, AllTold, AreDistinctClaims, ShowsSight}
use Rattle.session_seats.specs.Holds.{HasTaken, claim_of}
use Rattle.session_seats.specs.NewSeats.{Looks}

abbrev pub items_of : Vec Receipt Global → List Receipt
items_of v = v.items

abbrev pub alone : {S : Type 0} → ℕ → Claim → S → Me S View
alone users c y = (view true users (c ∷ []), (0, y) ∷ [])

-- The seat has the value, which may be taken out.
abbrev pub TakesOut : {S : Type 0} → (S → Shown) → (S → Type 0) → Me S View → Me S View → Type 0
TakesOut shown Allows m n = (h : HasTaken shown m n) × Allows h.value

abbrev pub CanJoin : {S : Type 0} → Me S View → Type 0
CanJoin {S} m = (users : ℕ) × (c : Claim) × (y : S) × (m ≡ alone users c y)

module _ {S : Type 0} {G : Ghosts S} where
  -- The seats belong to the table.
  abbrev pub AllOf : TableId → List (Seat S G) → Type 0
  AllOf z [] = Unit {0}
  AllOf z (s ∷ ss) = (s.inner.table_id ≡ z) × AllOf z ss

  abbrev pub claim_by : Seat S G → Claim
  claim_by s = claim_of s.inner.me

  abbrev pub list_of : Seat S G → Vec Receipt Global
  list_of s = s.receipts

  abbrev pub claims_of : List (Seat S G) → List Claim
  claims_of seats = map claim_by seats

  abbrev pub receipts_of : List (Seat S G) → List (Vec Receipt Global)
  receipts_of seats = map list_of seats

  abbrev pub whole_of : Seat S G → Bool
  whole_of s = s.whole

  -- No allocation for a receipt of one of them failed.
  abbrev pub AllWhole : List (Seat S G) → Type 0
  AllWhole [] = Unit {0}
  AllWhole (s ∷ ss) = (s.whole ≡ true) × AllWhole ss

  -- The token that has the value, and has taken in some seats.
  abbrev pub together : ℕ → Claim → S → List (Seat S G) → Me S View
  together users c y ss = (view true users (c ∷ claims_of ss), (0, y) ∷ [])

  abbrev pub JoinsAll : Me S View → Me S View → List (Seat S G) → Type 0
  JoinsAll m u seats = (users : ℕ) (c : Claim) (y : S) → m ≡ alone users c y → u ≡ together users c y seats

  -- The seat has only looked at a value that may not be taken out, with this error.
  pub record Returns {E : Type 0} (shown : S → Shown) (Refuses : S → E → Type 0) (old new : Seat S G) (e : E) : Type 0
    where
      pub looks : Looks shown old.inner.me new.inner.me
      pub lane : new.lane ≡ old.lane
      pub receipts : new.receipts ≡ old.receipts
      pub whole : new.whole ≡ old.whole
      pub refuses : Refuses looks.before e

  -- The seats come back: if the value may not be taken out, the first seat has looked at it.
  pub record HandsBack {E : Type 0} (shown : S → Shown) (Refuses : S → E → Type 0) (seat : Seat S G)
      (others : List (Seat S G))
      (error : Option E) (new : Seat S G) (rest : List (Seat S G)) : Type 0 where
    pub rest_is : rest ≡ others
    pub receipts : new.receipts ≡ seat.receipts
    pub lane : new.lane ≡ seat.lane
    pub why : IfSome error (Returns shown Refuses seat new)

  -- The part of the journal that the seat made.
  abbrev pub part : Sight → Seat S G → List Receipt
  part now s = own (claim_by s).number now.log

  -- There is one journal, of which each seat has seen a beginning. The receipts of each seat are all that it made of
  -- it, and no two seats have one number.
  pub record Closes (shown : S → Shown) (seats : List (Seat S G)) (r : Ended S) : Type 0 where
    pub now : Sight
    pub shows : ShowsSight (shown r.value) now
    pub lawful : IsLawfulSight now
    pub receipts : map items_of r.receipts.items ≡ map (part now) seats
    pub distinct : AreDistinctClaims (claims_of seats)
    pub told : AllTold now (claims_of seats)
