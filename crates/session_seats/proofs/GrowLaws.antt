-- Several holds.
use Rattle.std.proofs.Common.{
  ◌≡◌,
  ◌≤◌,
  ℕ,
  ◌+◌,
  List,
  [],
  ◌∷◌,
  ◌++◌,
  length,
  Bool,
  true,
  false,
  ◌&&◌,
  refl,
  sym,
  ap,
  ◌∙◌,
  subst,
  arith,
  append_assoc,
  append-nil,
  length-append,
}
use Rattle.std.specs.List.{list_all}
use Rattle.std.specs.Prelude.{Option, Result}
use Rattle.atomic_table.specs.Table.{Me}
use Rattle.session_model.specs.declared.entry.Entry.{Entry}
use Rattle.session_seats.specs.declared.view.Claim.{Claim}
use Rattle.session_seats.specs.declared.view.Receipt.{Receipt}
use Rattle.session_seats.specs.declared.view.SeatName.{SeatName}
use Rattle.session_seats.specs.declared.view.Stamp.{Stamp}
use Rattle.session_seats.specs.declared.view.View.{View}
use Rattle.session_seats.specs.Sights.{Shown, receipt, made_on, own, seats_given_by, IsLaterSight}
use Rattle.session_seats.specs.Users.{Leaves}
use Rattle.session_seats.specs.Rules.{ShowsSightOf}
use Rattle.session_seats.specs.declared.view.Sight.{Sight}
use Rattle.session_seats.specs.Holds.{Allowance, AllFrom, Applied, AddsEntries, Hold, claim_of, is_of, number_of, passes, sight_by}
use Rattle.session_seats.proofs.Lists.{later_same, later_on}
use Rattle.session_seats.proofs.HoldLaws.{both_true, later_after, number_same, own_after}

all_both : (k : ℕ) (test : Entry → Bool) (xs ys : List Receipt) → AllFrom k test xs → AllFrom k test ys
    → AllFrom k test (xs ++ ys)
all_both k test [] ys h g = g
all_both k test (x ∷ xs) ys h g = (h.0, h.1, all_both k test xs ys h.2 g)

all_lower : (k j : ℕ) (test : Entry → Bool) (xs : List Receipt) → k ≤ j → AllFrom j test xs → AllFrom k test xs
all_lower k j test [] less h = tt
all_lower k j test (x ∷ xs) less h = ((let a = h.0 in omega arith), h.1, all_lower k j test xs less h.2)

from_made : (k j : ℕ) (test : Entry → Bool) (es : List Entry) → k ≤ j → list_all test es ≡ true
    → AllFrom k test (made_on j es)
from_made k j test [] less h = tt
from_made k j test (e ∷ es) less h =
    let b = both_true (test e) (list_all test es) h in
    all_both k test (made_on j es) (receipt (length es + j) e ∷ []) (from_made k j test es less b.1)
    (omega arith, b.0, tt)

pub grew_none : (test : Entry → Bool) (c : Claim) → AddsEntries test c c
grew_none test c = record {
  later = later_same c.sight;
  number = refl;
  more = [];
  made =
      sym (append-nil (own c.number c.sight.log));
  passes = tt;
  given = refl;
}

-- one hold, whose entries pass
pub grew_once : {S : Type 0} (shown : S → Shown) {Did : S → S → List Entry → Type 0} (m n : Me S View)
    (h : Hold shown Did m n) (test : Entry → Bool) → list_all test h.more ≡ true
    → AddsEntries test (claim_of m) (claim_of n)
grew_once shown m n h test only =
    let k = length (shown h.before).past in
    let long : length h.now.log ≡ k = Rattle.session_seats.proofs.HoldLaws.long shown m n h in
    let front = ap (λ (l : List Stamp). length l) h.took.later.log.1 in
    let number = number_same shown m n h in record {
      later = later_after shown m n h;
      number = number;
      more = made_on k h.more;
      made = ap (λ (j : ℕ). own j (sight_by n).log) (sym number) ∙ own_after shown m n h;
      passes = from_made (length (sight_by m).log) k test h.more
          (omega (arith, length-append h.took.later.log.0 (sight_by m).log)) only;
      given = ap (λ (l : List SeatName). seats_given_by (number_of m) l) h.seats ∙ h.took.given;
    }

pub grew_on : (test : Entry → Bool) (a b c : Claim) → AddsEntries test a b → AddsEntries test b c → AddsEntries test a c
grew_on test a b c p q =
    let front = ap (λ (l : List Stamp). length l) p.later.log.1 in record {
      later = later_on a.sight b.sight c.sight p.later q.later;
      number = q.number ∙ p.number;
      more = p.more ++ q.more;
      made = subst (λ (n : ℕ). own n c.sight.log ≡ own n b.sight.log ++ q.more) p.number q.made
          ∙ ap (λ (l : List Receipt). l ++ q.more) p.made ∙ append_assoc (own a.number a.sight.log) p.more q.more;
      passes = all_both (length a.sight.log) test p.more q.more p.passes
          (all_lower (length a.sight.log) (length b.sight.log) test q.more
          (omega (arith, length-append p.later.log.0 a.sight.log)) q.passes);
      given = subst (λ (n : ℕ). seats_given_by n c.sight.seats ≡ seats_given_by n b.sight.seats) p.number q.given
          ∙ p.given;
    }

-- a hold that added nothing and gave no seat
grew_as : (test : Entry → Bool) (c d : Claim) (now : Sight) (y : Shown) → ShowsSightOf c now y → d.number ≡ c.number
    → d.sight.log ≡ now.log → d.sight.seats ≡ now.seats → IsLaterSight now d.sight
    → AddsEntries test c d
grew_as test c d now y took number log seats later = record {
  later = later_on c.sight now d.sight took.later later;
  number = number;
  more = [];
  made = ap (own c.number) log ∙ took.made ∙ sym (append-nil (own c.number c.sight.log));
  passes = tt;
  given = ap (seats_given_by c.number) seats ∙ took.given;
}

pub grew_leaves : {S : Type 0} (shown : S → Shown) (last : Bool) (m n : Me S View) → Leaves shown last m n
    → (test : Entry → Bool) → AddsEntries test (claim_of m) (claim_of n)
grew_leaves shown last m n l test =
    grew_as test (claim_of m) (claim_of n) l.now (shown l.before) l.took l.number (ap (λ (s : Sight). s.log) l.sight)
    (ap (λ (s : Sight). s.seats) l.sight) l.later

-- ---- tests

all_weaker : (P Q : Entry → Bool) → ((e : Entry) → P e ≡ true → Q e ≡ true) → (k : ℕ) (rs : List Receipt)
    → AllFrom k P rs → AllFrom k Q rs
all_weaker P Q f k [] h = tt
all_weaker P Q f k (r ∷ rs) h = (h.0, f r.entry h.1, all_weaker P Q f k rs h.2)

-- with a weaker test
pub grew_weaker : (P Q : Entry → Bool) → ((e : Entry) → P e ≡ true → Q e ≡ true) → (c d : Claim) → AddsEntries P c d
    → AddsEntries Q c d
grew_weaker P Q f c d h = record {
  later = h.later;
  number = h.number;
  more = h.more;
  made = h.made;
  passes = all_weaker P Q f (length c.sight.log) h.more h.passes;
  given = h.given;
}

pub only_all : (only : Option ℕ → Entry → Bool) (lane : Option ℕ) (es : List Entry) → list_all (passes only lane) es
    ≡ true → list_all (only lane) es ≡ true
only_all only lane [] h = refl
only_all only lane (e ∷ es) h =
    let b = both_true (passes only lane e) (list_all (passes only lane) es) h in
    let first = both_true (only lane e) (is_of lane e) b.0 in
    all_true (only lane e) (list_all (only lane) es) first.0 (only_all only lane es b.1)
  where
    all_true : (a b : Bool) → a ≡ true → b ≡ true → a && b ≡ true
    all_true true b p q = q
    all_true false b p q = p

-- the entries that an event adds pass its test
pub grew_applied : {S X E : Type 0} (shown : S → Shown) {Does : S → S → Type 0} {copied : Result X E}
    {old new : List Receipt}
    (only : Option ℕ → Entry → Bool) (lane : Option ℕ) (needs : Allowance) (m n : Me S View)
    → Hold shown (Applied shown (passes only lane) needs Does copied old new) m n
    → AddsEntries (only lane) (claim_of m) (claim_of n)
grew_applied shown only lane needs m n h = grew_once shown m n h (only lane)
    (only_all only lane h.more h.did.goes.passes)
