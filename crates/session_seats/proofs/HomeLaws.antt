-- A run whose home seat gives all other seats covers its journal.
use Rattle.std.proofs.Common.{◌≡◌, ℕ, List, [], ◌∷◌, ◌++◌, map, Bool, refl, sym, ap, ◌∙◌, Option}
use Rattle.atomic_table.specs.Table.{Me}
use Rattle.session_model.specs.declared.entry.Entry.{Entry}
use Rattle.session_seats.specs.declared.view.Claim.{Claim}
use Rattle.session_seats.specs.declared.view.SeatName.{SeatName}
use Rattle.session_seats.specs.declared.view.View.{View}
use Rattle.session_seats.specs.Sights.{SessionInputs, Shown, seats_given_by}
use Rattle.session_seats.specs.Rules.{claim, start}
use Rattle.session_seats.specs.Holds.{AddsEntries, Hold, IsFresh, claim_of, number_of, sight_by}
use Rattle.session_seats.specs.NewSeats.{Gives}
use Rattle.session_seats.specs.Covers.{GaveNone, HomeGave, number_in}
use Rattle.session_seats.proofs.JoinLaws.{map-snoc}
use Rattle.session_seats.proofs.HoldLaws.{number_same}

-- a seat that has the same number, and has given the same seats
abbrev pub GaveSame : Claim → Claim → Type 0
GaveSame c d = (d.number ≡ c.number) × (seats_given_by d.number d.sight.seats ≡ seats_given_by c.number c.sight.seats)

pub grew_same : (test : Entry → Bool) (c d : Claim) → AddsEntries test c d → GaveSame c d
grew_same test c d h = (h.number, ap (λ (n : ℕ). seats_given_by n d.sight.seats) h.number ∙ h.given)

pub hold_same : {S : Type 0} (shown : S → Shown) {Did : S → S → List Entry → Type 0} (m n : Me S View)
    → Hold shown Did m n → GaveSame (claim_of m) (claim_of n)
hold_same shown m n h =
    let number = number_same shown m n h in (
      number,
      ap (λ (k : ℕ). seats_given_by k (sight_by n).seats) number
          ∙ ap (λ (l : List SeatName). seats_given_by (number_of m) l) h.seats ∙ h.took.given,
    )

-- the home seat of a new value gave no other
pub home_first : (m : SessionInputs) → HomeGave (claim 0 1 0 (start m)) []
home_first m = record { number = refl; given = refl; none = tt }

none_snoc : (cs : List Claim) (c : Claim) → GaveNone cs → seats_given_by c.number c.sight.seats ≡ []
    → GaveNone (cs ++ c ∷ [])
none_snoc [] c none given = (given, tt)
none_snoc (d ∷ cs) c none given = (none.0, none_snoc cs c none.1 given)

-- it gives one more
pub home_gives : {S : Type 0} (shown : S → Shown) (names : Bool) (m n w : Me S View) (lane : Option ℕ)
    (others : List Claim)
    → Gives shown names m n w → IsFresh (claim_of w) lane → HomeGave (claim_of m) others
    → HomeGave (claim_of n) (others ++ claim_of w ∷ [])
home_gives shown names m n w lane others g fresh h =
    let number : number_of n ≡ 0 = g.number ∙ h.number in
    let was : seats_given_by (number_of m) (sight_by m).seats ≡ 0 ∷ map number_in others =
    ap (λ (k : ℕ). seats_given_by k (sight_by m).seats) h.number ∙ h.given in record {
      number = number;
      given =
          ap (λ (k : ℕ). seats_given_by k (sight_by n).seats) (sym number)
          ∙ g.given
          ∙ ap (λ (l : List ℕ). l ++ number_of w ∷ []) was
          ∙ ap (λ (l : List ℕ). 0 ∷ l) (sym (map-snoc number_in others (claim_of w)));
      none = none_snoc others (claim_of w) h.none fresh.given;
    }

-- each seat has gone on, and given no more
abbrev pub AllGaveSame : List Claim → List Claim → Type 0
AllGaveSame [] [] = Unit {0}
AllGaveSame [] (d ∷ ds) = ⊥
AllGaveSame (c ∷ cs) [] = ⊥
AllGaveSame (c ∷ cs) (d ∷ ds) = GaveSame c d × AllGaveSame cs ds

numbers_same : (cs ds : List Claim) → AllGaveSame cs ds → map number_in ds ≡ map number_in cs
numbers_same [] [] h = refl
numbers_same [] (d ∷ ds) h = absurd h
numbers_same (c ∷ cs) [] h = absurd h
numbers_same (c ∷ cs) (d ∷ ds) h = λ i. h.0.0 i ∷ numbers_same cs ds h.1 i

none_same : (cs ds : List Claim) → AllGaveSame cs ds → GaveNone cs → GaveNone ds
none_same [] [] h none = tt
none_same [] (d ∷ ds) h none = absurd h
none_same (c ∷ cs) [] h none = absurd h
none_same (c ∷ cs) (d ∷ ds) h none = (h.0.1 ∙ none.0, none_same cs ds h.1 none.1)

-- after calls of the home seat and of all others, none of which gave a seat
pub home_goes_on : (home home' : Claim) (cs ds : List Claim) → GaveSame home home' → AllGaveSame cs ds
    → HomeGave home cs → HomeGave home' ds
home_goes_on home home' cs ds same all h =
    let number : home'.number ≡ 0 = same.0 ∙ h.number in record {
      number = number;
      given =
          ap (λ (k : ℕ). seats_given_by k home'.sight.seats) (sym number)
          ∙ same.1
          ∙ ap (λ (k : ℕ). seats_given_by k home.sight.seats) h.number
          ∙ h.given
          ∙ ap (λ (l : List ℕ). 0 ∷ l) (sym (numbers_same cs ds all));
      none = none_same cs ds all h.none;
    }
