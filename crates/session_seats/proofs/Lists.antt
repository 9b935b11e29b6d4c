-- Logs, seats and sums over views.
use Rattle.std.proofs.Common.{
  ◌≡◌,
  ◌≢◌,
  ◌⊎◌,
  ◌<◌,
  ◌≤◌,
  ℕ,
  zero,
  suc,
  ◌+◌,
  ◌-◌,
  ◌==◌,
  List,
  [],
  ◌∷◌,
  ◌++◌,
  map,
  length,
  take,
  set,
  Bool,
  true,
  false,
  refl,
  sym,
  ap,
  ◌∙◌,
  subst,
  inl,
  inr,
  ⊎_elim,
  arith,
  append_assoc,
  append-nil,
  length-append,
  ne_eqb,
  eq-eqb,
  eqb-true,
  Some,
  None,
}
use Rattle.std.specs.Prelude.{Option, if◌then◌else◌}
use mathlib.Core.Option.{some, some-ne-none, some-injective}
use lib.ListN.{get_elem?}
use Rattle.session_model.specs.declared.entry.Entry.{Entry}
use Rattle.session_seats.specs.declared.view.Counts.{Counts}
use Rattle.session_seats.specs.declared.view.SeatName.{SeatName}
use Rattle.session_seats.specs.declared.view.Sight.{Sight}
use Rattle.session_seats.specs.declared.view.Stamp.{Stamp}
use Rattle.session_seats.specs.declared.view.Claim.{Claim}
use Rattle.session_seats.specs.declared.view.View.{View}
use Rattle.session_seats.specs.Sights.{stamp, receipt, entries, own, made_on, seats_given_by, name_at, seat_name, AllNamed, HasMoreInFront, StaysThere, CountsRise, IsLaterSight}
use Rattle.session_seats.specs.Rules.{shares, count_unwritten, total}

pub not_true : (b : Bool) → (b ≡ true → ⊥) → b ≡ false
not_true true n = absurd (n refl)
not_true false n = refl

abbrev pub pick : {A : Type 0} → Bool → A → A → A
pick true a b = a
pick false a b = b

-- ---- later

module _ {A : Type 0} where
  pub grows_none : (xs : List A) → HasMoreInFront xs xs
  grows_none xs = ([], refl)

  pub grows_on : (xs ys zs : List A) → HasMoreInFront xs ys → HasMoreInFront ys zs → HasMoreInFront xs zs
  grows_on xs ys zs p q = (q.0 ++ p.0, q.1 ∙ ap (λ (l : List A). q.0 ++ l) p.1 ∙ sym (append_assoc q.0 p.0 xs))

  pub stays_same : (v : Option A) → StaysThere v v
  stays_same None = tt
  stays_same (Some x) = refl

  pub stays_on : (a b c : Option A) → StaysThere a b → StaysThere b c → StaysThere a c
  stays_on None b c p q = tt
  stays_on (Some x) b c p q = subst (λ (o : Option A). StaysThere o c) p q

  pub length_more : (more xs : List A) → length (more ++ xs) - length xs ≡ length more
  length_more more xs = omega (arith, length-append more xs)

  pub take_front : (more xs : List A) → take (length more) (more ++ xs) ≡ more
  take_front [] [] = refl
  take_front [] (x ∷ xs) = refl
  take_front (m ∷ more) xs = ap (λ (l : List A). m ∷ l) (take_front more xs)

  pub at_new : (l : List A) (a b : A) (j : ℕ) → get_elem? (l ++ a ∷ []) j ≡ some b → (get_elem? l j ≡ some b)
      ⊎ ((j ≡ length l) × (a ≡ b))
  at_new [] a b zero e = inr (refl, some-injective a b e)
  at_new [] a b (suc j) e = absurd (some-ne-none b (sym e))
  at_new (x ∷ xs) a b zero e = inl e
  at_new (x ∷ xs) a b (suc j) e = ⊎_elim (λ h. inl h) (λ h. inr (ap suc h.0, h.1)) (at_new xs a b j e)

pub rises_none : (a : Counts) → CountsRise a a
rises_none a = record {
  handed = omega arith;
  written = omega arith;
  taken = omega arith;
  stage = omega arith;
  phase = omega arith;
}

pub rises_on : (a b c : Counts) → CountsRise a b → CountsRise b c → CountsRise a c
rises_on a b c p q = record {
  handed = (let x = p.handed in let y = q.handed in omega arith);
  written = (let x = p.written in let y = q.written in omega arith);
  taken = (let x = p.taken in let y = q.taken in omega arith);
  stage = (let x = p.stage in let y = q.stage in omega arith);
  phase = (let x = p.phase in let y = q.phase in omega arith);
}

pub later_same : (s : Sight) → IsLaterSight s s
later_same s = record {
  log = grows_none s.log;
  seats = grows_none s.seats;
  lanes = refl;
  options = refl;
  version =
      stays_same s.version;
  counts = rises_none s.counts;
}

pub later_on : (a b c : Sight) → IsLaterSight a b → IsLaterSight b c → IsLaterSight a c
later_on a b c p q = record {
  log = grows_on a.log b.log c.log p.log q.log;
  seats = grows_on a.seats b.seats c.seats p.seats q.seats;
  lanes = q.lanes ∙ p.lanes;
  options = q.options ∙ p.options;
  version = stays_on a.version b.version c.version p.version q.version;
  counts = rises_on a.counts b.counts c.counts p.counts q.counts;
}

-- ---- logs

pub entries-grown : (n : ℕ) (es : List Entry) (log : List Stamp) → entries (map (stamp n) es ++ log) ≡ es ++ entries log
entries-grown n [] log = refl
entries-grown n (e ∷ es) log = ap (λ (l : List Entry). e ∷ l) (entries-grown n es log)

pub length-entries : (log : List Stamp) → length (entries log) ≡ length log
length-entries [] = refl
length-entries (s ∷ ss) = ap suc (length-entries ss)

length-stamped : (n : ℕ) (es : List Entry) (log : List Stamp) → length (map (stamp n) es ++ log)
    ≡ length es + length log
length-stamped n [] log = omega arith
length-stamped n (e ∷ es) log = let r = length-stamped n es log in omega arith

-- the entries of another seat leave those that a seat made
pub own-others : (n m : ℕ) (es : List Entry) (log : List Stamp) → n ≢ m → own m (map (stamp n) es ++ log) ≡ own m log
own-others n m [] log ne = refl
own-others n m (e ∷ es) log ne =
    ap (λ b. if b then own m (map (stamp n) es ++ log) ++ receipt (length (map (stamp n) es ++ log)) e ∷ [] else
    own m (map (stamp n) es ++ log)) (ne_eqb n m ne)
    ∙ own-others n m es log ne

-- a seat's own entries come after its receipts
pub own-mine : (n : ℕ) (es : List Entry) (log : List Stamp) → own n (map (stamp n) es ++ log) ≡ own n log
    ++ made_on (length log) es
own-mine n [] log = sym (append-nil (own n log))
own-mine n (e ∷ es) log =
    ap (λ b. if b then own n (map (stamp n) es ++ log) ++ receipt (length (map (stamp n) es ++ log)) e ∷ [] else
    own n (map (stamp n) es ++ log)) (eq-eqb n n refl)
    ∙ (λ i. own-mine n es log i ++ receipt (length-stamped n es log i) e ∷ [])
    ∙ append_assoc (own n log) (made_on (length log) es) (receipt (length es + length log) e ∷ [])

-- ---- seats

pub name_more : (more seats : List SeatName) (n : ℕ) → n < length seats → name_at (more ++ seats) n ≡ name_at seats n
name_more [] seats n less = refl
name_more (g ∷ more) seats n less =
    ap (λ b. if b then Some g else name_at (more ++ seats) n) (ne_eqb n (length (more ++ seats))
    (λ same. absurd (omega (arith, length-append more seats))))
    ∙ name_more more seats n less

name_where : (b : Bool) (n : ℕ) (x g : SeatName) (seats : List SeatName) → (n == length seats) ≡ b
    → (if b then Some x else name_at seats n) ≡ Some g
    → (name_at seats n ≡ Some g → n < length seats) → n < suc (length seats)
name_where true n x g seats is e r = let same = eqb-true n (length seats) is in omega arith
name_where false n x g seats is e r = let less = r e in omega arith

abbrev is_there : {A : Type 0} → Option A → Type 0
is_there None = ⊥
is_there (Some x) = Unit {0}

none-some : {A : Type 0} (x : A) → None ≡ Some x → ⊥
none-some x e = subst (λ (o : Option _). is_there o) (sym e) tt

pub name_there : (seats : List SeatName) (n : ℕ) (g : SeatName) → name_at seats n ≡ Some g → n < length seats
name_there [] n g e = absurd (none-some g e)
name_there (x ∷ seats) n g e = name_where (n == length seats) n x g seats refl e (λ at. name_there seats n g at)

pub named-more : (more seats : List SeatName) (log : List Stamp) → AllNamed seats log → AllNamed (more ++ seats) log
named-more more seats [] h = tt
named-more more seats (s ∷ ss) h = (
  (
    h.0.0,
    name_more more seats s.by (name_there seats s.by h.0.0 h.0.1) ∙ h.0.1,
    h.0.2,
  ),
  named-more more seats ss h.1,
)

pub named-append : (seats : List SeatName) (more log : List Stamp) → AllNamed seats more → AllNamed seats log
    → AllNamed seats (more ++ log)
named-append seats [] log h g = g
named-append seats (s ∷ ss) log h g = (h.0, named-append seats ss log h.1 g)

-- a seat that another one gave leaves those that a seat gave
pub gave-others : (n m : ℕ) (lane : Option ℕ) (seats : List SeatName) → n ≢ m
    → seats_given_by m (seat_name n lane ∷ seats) ≡ seats_given_by m seats
gave-others n m lane seats ne = ap (λ b. if b then seats_given_by m seats ++ length seats ∷ [] else
    seats_given_by m seats) (ne_eqb n m ne)

-- ---- sums

pub shares_both : (cs ds : List Claim) → shares (cs ++ ds) ≡ shares cs + shares ds
shares_both [] ds = omega arith
shares_both (c ∷ cs) ds = let r = shares_both cs ds in omega arith

pub unwritten_both : (cs ds : List Claim) → count_unwritten (cs ++ ds) ≡ count_unwritten cs + count_unwritten ds
unwritten_both [] ds = omega arith
unwritten_both (c ∷ cs) ds = let r = unwritten_both cs ds in omega arith

pub total_set : (f : View → ℕ) (views : List View) (i : ℕ) (v w : View) → get_elem? views i ≡ some v
    → total f (set views i w) + f v ≡ total f views + f w
total_set f [] i v w e = absurd (some-ne-none v (sym e))
total_set f (x ∷ xs) zero v w e = let s : f x ≡ f v = ap f (some-injective _ _ e) in omega arith
total_set f (x ∷ xs) (suc i) v w e = let r = total_set f xs i v w e in omega arith

pub total_snoc : (f : View → ℕ) (views : List View) (w : View) → total f (views ++ w ∷ []) ≡ total f views + f w
total_snoc f [] w = omega arith
total_snoc f (x ∷ xs) w = let r = total_snoc f xs w in omega arith

-- one view's part is within the sum
pub total_has : (f : View → ℕ) (views : List View) (i : ℕ) (v : View) → get_elem? views i ≡ some v → f v ≤ total f views
total_has f [] i v e = absurd (some-ne-none v (sym e))
total_has f (x ∷ xs) zero v e = let s : f x ≡ f v = ap f (some-injective _ _ e) in omega arith
total_has f (x ∷ xs) (suc i) v e = let r = total_has f xs i v e in omega arith
