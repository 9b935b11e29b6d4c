-- believed: times_at, times_in, CoversPlacesOnce
-- Covers: each place of the journal is in one list of receipts, once.
use Rattle.std.specs.Prelude.{◌≡◌, ◌<◌, ◌⊎◌, ℕ, ◌+◌, ◌==◌, List, [], ◌∷◌, length, map}
use Rattle.session_seats.specs.declared.ended.Ended.{Ended}
use Rattle.session_seats.specs.declared.view.Claim.{Claim}
use Rattle.session_seats.specs.declared.view.Receipt.{Receipt}
use Rattle.session_seats.specs.Sights.{Shown, seats_given_by, one_if}
use Rattle.session_seats.specs.Closes.{items_of}

-- The number of times that the place is in the list.
abbrev pub times_at : ℕ → List Receipt → ℕ
times_at k [] = 0
times_at k (r ∷ rs) = one_if (r.place == k) + times_at k rs

-- The number of times that it is in all lists.
abbrev pub times_in : ℕ → List (List Receipt) → ℕ
times_in k [] = 0
times_in k (l ∷ ls) = times_at k l + times_in k ls

-- Each of the first n places is in one of the lists, once.
abbrev pub CoversPlacesOnce : ℕ → List (List Receipt) → Type 0
CoversPlacesOnce n lists = (k : ℕ) → k < n → times_in k lists ≡ 1

abbrev pub CoversEntries : {S : Type 0} → (S → Shown) → Ended S → Type 0
CoversEntries shown r = CoversPlacesOnce (length (shown r.value).past) (map items_of r.receipts.items)

-- ---- No seat is missing

-- One of the claims has the number.
abbrev pub HasNumber : ℕ → List Claim → Type 0
HasNumber n [] = ⊥
HasNumber n (c ∷ cs) = (c.number ≡ n) ⊎ HasNumber n cs

abbrev pub HasEach : List ℕ → List Claim → Type 0
HasEach [] cs = Unit {0}
HasEach (n ∷ ns) cs = HasNumber n cs × HasEach ns cs

-- Each seat that one of the first gave is one of the second.
abbrev pub ClosesSeats : List Claim → List Claim → Type 0
ClosesSeats [] all = Unit {0}
ClosesSeats (c ∷ cs) all = HasEach (seats_given_by c.number c.sight.seats) all × ClosesSeats cs all

-- The home seat is one of them, and so is each that one of them gave.
abbrev pub HasAllSeats : List Claim → Type 0
HasAllSeats cs = HasNumber 0 cs × ClosesSeats cs cs

abbrev pub number_in : Claim → ℕ
number_in c = c.number

abbrev pub GaveNone : List Claim → Type 0
GaveNone [] = Unit {0}
GaveNone (c ∷ cs) = (seats_given_by c.number c.sight.seats ≡ []) × GaveNone cs

-- The home seat gave these, and they gave none.
pub record HomeGave (home : Claim) (others : List Claim) : Type 0 where
  pub number : home.number ≡ 0
  pub given : seats_given_by 0 home.sight.seats ≡ 0 ∷ map number_in others
  pub none : GaveNone others
