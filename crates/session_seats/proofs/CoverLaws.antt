-- The receipts of seats of which none is missing cover the journal.
use Rattle.std.proofs.Common.{
  ◌≡◌,
  ◌≢◌,
  ◌⊎◌,
  ◌<◌,
  ◌≤◌,
  ℕ,
  ◌+◌,
  ◌==◌,
  List,
  [],
  ◌∷◌,
  ◌++◌,
  length,
  map,
  Bool,
  true,
  false,
  refl,
  sym,
  ap,
  ◌∙◌,
  subst,
  inl,
  inr,
  ⊎_elim,
  arith,
  eq-eqb,
  ne_eqb,
  append_assoc,
}
use Rattle.std.specs.Prelude.{if◌then◌else◌}
use mathlib.Core.Logic.{dite}
use native.Mathlib.Decide.{ℕ_discrete}
use Rattle.session_model.specs.declared.entry.Entry.{Entry}
use Rattle.session_seats.specs.declared.ended.Ended.{Ended}
use Rattle.session_seats.specs.declared.rule.Held.{Ghosts}
use Rattle.session_seats.specs.declared.seat.Seat.{Seat}
use Rattle.session_seats.specs.declared.view.Claim.{Claim}
use Rattle.session_seats.specs.declared.view.Receipt.{Receipt}
use Rattle.session_seats.specs.declared.view.SeatName.{SeatName}
use Rattle.session_seats.specs.declared.view.Sight.{Sight}
use Rattle.session_seats.specs.declared.view.Stamp.{Stamp}
use Rattle.session_seats.specs.Sights.{Shown, receipt, own, seats_given_by, AllNamed, AreSeatedInOrder, one_if}
use Rattle.session_seats.specs.Rules.{AllTold, AreDistinctClaims, LacksNumber}
use Rattle.session_seats.specs.Closes.{Closes, claim_by, claims_of, part}
use Rattle.session_seats.specs.Covers.{times_at, times_in, CoversPlacesOnce, CoversEntries, HasNumber, HasEach, ClosesSeats, HasAllSeats, GaveNone, HomeGave, number_in}
use Rattle.session_seats.proofs.Lists.{length-entries, name_there}

-- ---- one entry more

times_snoc : (k : ℕ) (rs : List Receipt) (r : Receipt) → times_at k (rs ++ r ∷ [])
    ≡ times_at k rs + one_if (r.place == k)
times_snoc k [] r = omega arith
times_snoc k (x ∷ rs) r = let more = times_snoc k rs r in omega arith

other_place : (k j : ℕ) (e : Entry) (rs : List Receipt) (b : Bool) → j ≢ k
    → times_at k (if b then rs ++ receipt j e ∷ [] else rs) ≡ times_at k rs
other_place k j e rs true apart =
    let more = times_snoc k rs (receipt j e) in
    let none : one_if (j == k) ≡ 0 = ap one_if (ne_eqb j k apart) in omega arith
other_place k j e rs false apart = refl

this_place : (j : ℕ) (e : Entry) (rs : List Receipt) (b : Bool) → times_at j rs ≡ 0
    → times_at j (if b then rs ++ receipt j e ∷ [] else rs) ≡ one_if b
this_place j e rs true none =
    let more = times_snoc j rs (receipt j e) in
    let one : one_if (j == j) ≡ 1 = ap one_if (eq-eqb j j refl) in omega arith
this_place j e rs false none = none

-- a seat's receipts are of places that the log has
beyond : (n k : ℕ) (log : List Stamp) → length log ≤ k → times_at k (own n log) ≡ 0
beyond n k [] less = refl
beyond n k (s ∷ past) less = other_place k (length past) s.entry (own n past) (s.by == n) (λ same. absurd (omega arith))
    ∙ beyond n k past (omega arith)

abbrev lists : List Stamp → List Claim → List (List Receipt)
lists log [] = []
lists log (c ∷ cs) = own c.number log ∷ lists log cs

others : (k : ℕ) (s : Stamp) (past : List Stamp) (cs : List Claim) → length past ≢ k → times_in k (lists (s ∷ past) cs)
    ≡ times_in k (lists past cs)
others k s past [] apart = refl
others k s past (c ∷ cs) apart = λ i. other_place k (length past) s.entry (own c.number past) (s.by == c.number) apart i
    + others k s past cs apart i

-- how many have the number
abbrev having : ℕ → List Claim → ℕ
having n [] = 0
having n (c ∷ cs) = one_if (n == c.number) + having n cs

newest : (s : Stamp) (past : List Stamp) (cs : List Claim) → times_in (length past) (lists (s ∷ past) cs)
    ≡ having s.by cs
newest s past [] = refl
newest s past (c ∷ cs) = λ i. this_place (length past) s.entry (own c.number past) (s.by == c.number)
    (beyond c.number (length past) past (omega arith)) i + newest s past cs i

having_none : (n : ℕ) (cs : List Claim) → LacksNumber n cs → having n cs ≡ 0
having_none n [] lacks = refl
having_none n (c ∷ cs) lacks =
    let none : one_if (n == c.number) ≡ 0 = ap one_if (ne_eqb n c.number lacks.0) in
    let rest = having_none n cs lacks.1 in omega arith

having_one : (n : ℕ) (cs : List Claim) → AreDistinctClaims cs → HasNumber n cs → having n cs ≡ 1
having_one n [] distinct has = absurd has
having_one n (c ∷ cs) distinct has = dite (ℕ_discrete n c.number)
    (λ same.
    let one : one_if (n == c.number) ≡ 1 = ap one_if (eq-eqb n c.number same) in
    let rest = having_none n cs (subst (λ (k : ℕ). LacksNumber k cs) (sym same) distinct.0) in omega arith)
    (λ apart.
    let none : one_if (n == c.number) ≡ 0 = ap one_if (ne_eqb n c.number apart) in
    let rest = having_one n cs distinct.1 (⊎_elim (λ (is : c.number ≡ n). absurd (apart (sym is)))
    (λ (h : HasNumber n cs). h) has) in omega arith)

-- each place of a log is in one list, once, if the claims are of all seats
once : (seats : List SeatName) (cs : List Claim) → AreDistinctClaims cs → ((n : ℕ) → n < length seats → HasNumber n cs)
    → (log : List Stamp) → AllNamed seats log → CoversPlacesOnce (length log) (lists log cs)
once seats cs distinct all [] named k less = absurd (omega arith)
once seats cs distinct all (s ∷ past) named k less = dite (ℕ_discrete (length past) k)
    (λ same.
    subst (λ (j : ℕ). times_in j (lists (s ∷ past) cs) ≡ 1) same
    (newest s past cs ∙ having_one s.by cs distinct (all s.by (name_there seats s.by named.0.0 named.0.1))))
    (λ apart. others k s past cs apart ∙ once seats cs distinct all past named.1 k (omega arith))

-- ---- none is missing

abbrev Isin : ℕ → List ℕ → Type 0
Isin k [] = ⊥
Isin k (x ∷ xs) = (x ≡ k) ⊎ Isin k xs

in_front : (k : ℕ) (xs ys : List ℕ) → Isin k xs → Isin k (xs ++ ys)
in_front k [] ys is = absurd is
in_front k (x ∷ xs) ys is = ⊎_elim (λ (e : x ≡ k). inl e) (λ (i : Isin k xs). inr (in_front k xs ys i)) is

in_last : (k : ℕ) (xs : List ℕ) → Isin k (xs ++ k ∷ [])
in_last k [] = inl refl
in_last k (x ∷ xs) = inr (in_last k xs)

in_more : (b : Bool) (k j : ℕ) (ks : List ℕ) → Isin k ks → Isin k (if b then ks ++ j ∷ [] else ks)
in_more true k j ks is = in_front k ks (j ∷ []) is
in_more false k j ks is = is

each_has : (ks : List ℕ) (cs : List Claim) → HasEach ks cs → (k : ℕ) → Isin k ks → HasNumber k cs
each_has [] cs h k is = absurd is
each_has (x ∷ xs) cs h k is = ⊎_elim (λ (e : x ≡ k). subst (λ (j : ℕ). HasNumber j cs) e h.0)
    (λ (i : Isin k xs). each_has xs cs h.1 k i) is

closed_has : (now : Sight) (cs all : List Claim) → AllTold now cs → ClosesSeats cs all → (n : ℕ) → HasNumber n cs
    → (k : ℕ) → Isin k (seats_given_by n now.seats) → HasNumber k all
closed_has now [] all told closed n has k is = absurd has
closed_has now (c ∷ cs) all told closed n has k is =
    ⊎_elim
    (λ (e : c.number ≡ n). each_has (seats_given_by c.number c.sight.seats) all closed.0 k
    (subst (Isin k) told.0.given (subst (λ (j : ℕ). Isin k (seats_given_by j now.seats)) (sym e) is)))
    (λ (h : HasNumber n cs). closed_has now cs all told.1 closed.1 n h k is)
    has

-- each seat was given by an earlier one
all_here : (seats : List SeatName) (cs : List Claim) → AreSeatedInOrder seats
    → ((n : ℕ) → HasNumber n cs → (k : ℕ) → Isin k (seats_given_by n seats) → HasNumber k cs) → HasNumber 0 cs
    → (k : ℕ) → k < length seats → HasNumber k cs
all_here [] cs law closed home k less = absurd (omega arith)
all_here (g ∷ seats) cs law closed home k less =
    let before = all_here seats cs law.3 (λ n has j is. closed n has j
    (in_more (g.by == n) j (length seats) (seats_given_by n seats) is)) home in
    let is_in : Isin (length seats) (seats_given_by g.by (g ∷ seats)) =
    subst (λ (b : Bool). Isin (length seats) (if b then seats_given_by g.by seats ++ length seats ∷ [] else
    seats_given_by g.by seats))
    (sym (eq-eqb g.by g.by refl)) (in_last (length seats) (seats_given_by g.by seats)) in
    let last : HasNumber (length seats) cs = dite (ℕ_discrete (length seats) 0)
    (λ none. subst (λ (j : ℕ). HasNumber j cs) (sym none) home)
    (λ some. closed g.by (before g.by (law.0 (omega arith))) (length seats) is_in) in
    dite (ℕ_discrete (length seats) k) (λ same. subst (λ (j : ℕ). HasNumber j cs) same last)
    (λ apart. before k (omega arith))

lists_of : {S : Type 0} {G : Ghosts S} (now : Sight) (seats : List (Seat S G)) → map (part now) seats
    ≡ lists now.log (claims_of seats)
lists_of now [] = refl
lists_of now (s ∷ ss) = ap (λ (l : List (List Receipt)). own (claim_by s).number now.log ∷ l) (lists_of now ss)

-- if none of the seats is missing, each place of the journal is in one list, once
pub covers : {S : Type 0} {G : Ghosts S} (shown : S → Shown) (seats : List (Seat S G)) (r : Ended S)
    → Closes shown seats r → HasAllSeats (claims_of seats) → CoversEntries shown r
covers shown seats r closes complete =
    let now = closes.now in
    let cs = claims_of seats in
    let long : length now.log ≡ length (shown r.value).past = sym (length-entries now.log)
    ∙ ap (λ (l : List Entry). length l) (sym closes.shows.past) in
    let all = all_here now.seats cs closes.lawful.seated (closed_has now cs cs closes.told complete.1) complete.0 in
    λ k less. ap (times_in k) (closes.receipts ∙ lists_of now seats)
    ∙ once now.seats cs closes.distinct all now.log closes.lawful.named k (subst (λ (n : ℕ). k < n) (sym long) less)

-- ---- the home seat gave all others

each_in : (cs front : List Claim) → HasEach (map number_in cs) (front ++ cs)
each_in [] front = tt
each_in (c ∷ cs) front = (
  has_there c cs front,
  subst (λ (all : List Claim). HasEach (map number_in cs) all)
      (append_assoc front (c ∷ []) cs) (each_in cs (front ++ c ∷ [])),
)
  where
    has_there : (c : Claim) (cs front : List Claim) → HasNumber c.number (front ++ c ∷ cs)
    has_there c cs [] = inl refl
    has_there c cs (x ∷ front) = inr (has_there c cs front)

closed_none : (cs all : List Claim) → GaveNone cs → ClosesSeats cs all
closed_none [] all none = tt
closed_none (c ∷ cs) all none = (subst (λ (ns : List ℕ). HasEach ns all) (sym none.0) tt, closed_none cs all none.1)

pub complete_of : (home : Claim) (cs : List Claim) → HomeGave home cs → HasAllSeats (home ∷ cs)
complete_of home cs h =
    let all = home ∷ cs in
    let its : seats_given_by home.number home.sight.seats ≡ 0 ∷ map number_in cs =
    ap (λ (n : ℕ). seats_given_by n home.sight.seats) h.number ∙ h.given in (
      inl h.number,
      (
        subst (λ (ns : List ℕ). HasEach ns all) (sym its) (inl h.number, each_in cs (home ∷ [])),
        closed_none cs all h.none,
      ),
    )
