-- The seats are joined one by one.
use Rattle.std.proofs.Common.{◌≡◌, ℕ, List, [], ◌∷◌, ◌++◌, map, true, refl, sym, ap, ◌∙◌, subst, append_assoc, append-nil, Global}
use Rattle.std.specs.declared.vec.Vec.{Vec}
use Rattle.std.specs.List.{list_all}
use mathlib.Core.Option.{none}
use Rattle.atomic_table.specs.Seated.{TableId}
use Rattle.atomic_table.specs.Table.{Me, Joins, Allows, step}
use Rattle.session_seats.specs.declared.rule.Held.{Ghosts}
use Rattle.session_seats.specs.declared.seat.Seat.{Seat}
use Rattle.session_seats.specs.declared.view.Claim.{Claim}
use Rattle.session_seats.specs.declared.view.Receipt.{Receipt}
use Rattle.session_seats.specs.declared.view.Sight.{Sight}
use Rattle.session_seats.specs.declared.view.View.{View}
use Rattle.session_seats.specs.Sights.{Shown}
use Rattle.session_seats.specs.Rules.{view, joined_views, nobody, Kept, checked_step, HoldsForClaims, AllTold}
use Rattle.session_seats.specs.Closes.{AllOf, AllWhole, CanJoin, JoinsAll, together, claim_by, claims_of, list_of, receipts_of, part, items_of, whole_of}
use Rattle.session_seats.proofs.SeatSteps.{joins}
use Rattle.session_seats.proofs.Steps.{checks}
use Rattle.session_seats.proofs.HoldLaws.{both_true}

pub all_whole : {S : Type 0} {G : Ghosts S} (ss : List (Seat S G)) → list_all whole_of ss ≡ true → AllWhole ss
all_whole [] h = tt
all_whole (s ∷ ss) h = let b = both_true s.whole (list_all whole_of ss) h in (b.0, all_whole ss b.1)

pub map-snoc : {A B : Type 0} (f : A → B) (xs : List A) (x : A) → map f (xs ++ x ∷ []) ≡ map f xs ++ f x ∷ []
map-snoc f [] x = refl
map-snoc f (y ∷ ys) x = ap (λ (l : List _). f y ∷ l) (map-snoc f ys x)

module _ {S : Type 0} {G : Ghosts S} (shown : S → Shown) where
  pub joins_as : (seat other : ℕ) (m : Me S View) (s : Seat S G) (users : ℕ) (c : Claim) (y : S) (ss : List (Seat S G))
      → m ≡ together users c y ss
      → Joins (Kept shown) seat m.0 other s.inner.me.0 (joined_views m.0 s.inner.me.0) nobody
  joins_as seat other m s users c y ss is =
      subst (λ (x : View). Joins (Kept shown) seat x other s.inner.me.0 (joined_views x s.inner.me.0) nobody)
      (sym (ap (λ (x : Me S View). x.0) is))
      (subst (λ (w : View). Joins (Kept shown) seat (view true users (c ∷ claims_of ss)) other w
      (joined_views (view true users (c ∷ claims_of ss)) w) nobody) (sym (ap (λ (x : Me S View). x.0) s.free))
      (joins shown seat users c (claims_of ss) other (claim_by s ∷ [])))

  pub one_more : (m u : Me S View) (s : Seat S G) (users : ℕ) (c : Claim) (y : S) (ss : List (Seat S G)) → m
      ≡ together users c y ss → u ≡ (joined_views m.0 s.inner.me.0, m.1)
      → u ≡ together users c y (ss ++ s ∷ [])
  one_more m u s users c y ss is was =
      was
      ∙ ap (λ (x : Me S View). (joined_views x.0 s.inner.me.0, x.1)) is
      ∙ ap (λ (x : Me S View). (joined_views (view true users (c ∷ claims_of ss)) x.0, (0, y) ∷ [])) s.free
      ∙ ap (λ (cs : List Claim). (view true users (c ∷ cs), (0, y) ∷ [])) (sym (map-snoc claim_by ss s))

  -- Some seats were taken in, and the rest was not yet.
  pub record Joining (all rest : List (Seat S G)) (m u : Me S View) (z : TableId) (old new : List (Vec Receipt Global))
      : Type 0
    where
      pub done : List (Seat S G)
      pub parts : done ++ rest ≡ all
      pub joined : JoinsAll m u done
      pub lists : new ≡ old ++ receipts_of done
      pub of : AllOf z rest

  pub joining_none : (all rest : List (Seat S G)) (m : Me S View) (z : TableId) (old : List (Vec Receipt Global))
      → rest ≡ all → AllOf z all → Joining all rest m m z old old
  joining_none all rest m z old is of = record {
    done = [];
    parts = is;
    joined = λ users c y h. h;
    lists = sym (append-nil old);
    of = subst (AllOf z) (sym is) of;
  }

  pub joining_first : (all rest later : List (Seat S G)) (m u : Me S View) (z : TableId)
      (old new : List (Vec Receipt Global)) (s : Seat S G) → rest ≡ s ∷ later → Joining all rest m u z old new
      → s.inner.table_id ≡ z
  joining_first all rest later m u z old new s is j = (subst (AllOf z) is j.of).0

  pub joining_can : (all rest : List (Seat S G)) (m u : Me S View) (z : TableId) (old new : List (Vec Receipt Global))
      (seat other : ℕ) (s : Seat S G) → CanJoin m → Joining all rest m u z old new
      → Joins (Kept shown) seat u.0 other s.inner.me.0 (joined_views u.0 s.inner.me.0) nobody
  joining_can all rest m u z old new seat other s can j =
      joins_as seat other u s can.0 can.1 can.2 j.done (j.joined can.0 can.1 can.2 can.3)

  pub joining_more : (all rest later : List (Seat S G)) (m u v : Me S View) (z : TableId)
      (old new more : List (Vec Receipt Global)) (s : Seat S G) → rest ≡ s ∷ later
      → v ≡ (joined_views u.0 s.inner.me.0, u.1) → more ≡ new ++ s.receipts ∷ [] → Joining all rest m u z old new
      → Joining all later m v z old more
  joining_more all rest later m u v z old new more s is was wrote j = record {
    done = j.done ++ s ∷ [];
    parts = append_assoc j.done (s ∷ []) later ∙ ap (λ (l : List (Seat S G)). j.done ++ l) (sym is) ∙ j.parts;
    joined = λ users c y h. one_more u v s users c y j.done (j.joined users c y h) was;
    lists = wrote
        ∙ ap (λ (r : List (Vec Receipt Global)). r ++ s.receipts ∷ []) j.lists
        ∙ append_assoc old (receipts_of j.done) (s.receipts ∷ [])
        ∙ ap (λ (r : List (Vec Receipt Global)). old ++ r) (sym (map-snoc list_of j.done s));
    of = (subst (AllOf z) is j.of).1;
  }

  pub joining_all : (all rest : List (Seat S G)) (m u : Me S View) (z : TableId) (old new : List (Vec Receipt Global))
      → rest ≡ [] → Joining all rest m u z old new → JoinsAll m u all × (new ≡ old ++ receipts_of all)
  joining_all all rest m u z old new is j =
      let whole : j.done ≡ all = sym (append-nil j.done) ∙ ap (λ (l : List (Seat S G)). j.done ++ l) (sym is) ∙ j.parts
      in
      (subst (JoinsAll m u) whole j.joined, j.lists ∙ ap (λ (l : List (Seat S G)). old ++ receipts_of l) whole)

  pub checks_as : (slots seat : ℕ) (m : Me S View) (users : ℕ) (c : Claim) (y : S) (ss : List (Seat S G)) → m
      ≡ together users c y ss
      → Allows (Kept shown) slots seat m 0 (λ k. k) (checked_step (step slots 0 0 0 none) m)
  checks_as slots seat m users c y ss is =
      subst (λ (x : Me S View). Allows (Kept shown) slots seat x 0 (λ k. k) (checked_step (step slots 0 0 0 none) x))
      (sym is)
      (checks shown slots seat users c (claims_of ss) y [])

  pub told_as : (slots k : ℕ) (m u : Me S View) (users : ℕ) (c : Claim) (y : S) (ss : List (Seat S G)) → m
      ≡ together users c y ss → checked_step (step slots 0 0 0 none) m k u → HoldsForClaims (c ∷ claims_of ss)
  told_as slots k m u users c y ss is did = subst (λ (x : Me S View). x.0.right ≡ true → HoldsForClaims x.0.claims) is
      did.1 refl

pub parts : {S : Type 0} {G : Ghosts S} (now : Sight) (ss : List (Seat S G)) → AllWhole ss → AllTold now (claims_of ss)
    → map items_of (receipts_of ss) ≡ map (part now) ss
parts now [] whole told = refl
parts now (s ∷ ss) whole told = λ i. (s.told whole.0 ∙ sym told.0.made) i ∷ parts now ss whole.1 told.1 i
