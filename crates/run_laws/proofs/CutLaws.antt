-- Runs that are cut at a place, and requests of a run by their places.
use Rattle.std.proofs.Common.{◌≡◌, ◌<◌, ◌≤◌, ℕ, List, [], ◌∷◌, ◌++◌, refl, ap, sym, ◌∙◌, arith, inl, inr}
use Rattle.std.specs.Prelude.{◌⊎◌}
use Rattle.std.proofs.lemmas.Bool.{cases_lt}
use Rattle.sftp_model.specs.declared.config.Choice.{Choice}
use Rattle.sftp_model.specs.declared.request.Request.{Request}
use Rattle.plan_model.specs.Moves.{Own}
use Rattle.session_model.specs.declared.entry.Entry.{Entry}
use Rattle.session_model.specs.Readings.{AskedRequest, asked_at}
use Rattle.run_laws.specs.CallsAmong.{asked_by}
use Rattle.run_laws.specs.Steps.{Step, AreDistinct, ChooseOnly, HasPlace, asked_in}
use Rattle.run_laws.proofs.SentLaws.{AllAbove, AreKnown, AreRising, IsAt}
use Rattle.run_laws.proofs.ServedSteps.{HasRequest}
use Rattle.run_laws.proofs.UseLaws.{above_has}
use Rattle.run_laws.proofs.UsedLaws.{some_is}

-- ---- requests by their places

pub known_has : (past : List Entry) (n place : ℕ) (requests : Own) → AreKnown past n requests
    → HasRequest requests place → place < n
known_has past n place [] known has = absurd has
known_has past n place (r ∷ requests) known (inl e) = (let lt = known.0.0 in let here : r.0 ≡ place = e in
    omega (arith, lt, here))
known_has past n place (r ∷ requests) known (inr h) = known_has past n place requests known.1 h

-- one request stands at a place
pub one_at : (past : List Entry) (x y : ℕ × Request) → IsAt past x → IsAt past y → x.0 ≡ y.0 → x.1 ≡ y.1
one_at past x y at at' same =
    let one : at.0 ≡ at'.0 = some_is at.0 at'.0 (sym at.1.0 ∙ ap (asked_at past) same ∙ at'.1.0) in sym at.1.1
    ∙ ap (λ (a : AskedRequest). a.request) one ∙ at'.1.1

place_asked : (place : ℕ) (steps : List Step) → HasPlace steps place → HasRequest (asked_in steps) place
place_asked place [] has = has
place_asked place (s ∷ steps) (inl e) = inl e
place_asked place (s ∷ steps) (inr h) = inr (place_asked place steps h)

pub rising_distinct : (steps : List Step) → AreRising (asked_in steps) → AreDistinct steps
rising_distinct [] rising = tt
rising_distinct (s ∷ steps) rising = (
  λ place has same. (let lt : s.place < place = above_has s.place place (asked_in steps) rising.0
      (place_asked place steps has) in omega (arith, lt, same)),
  rising_distinct steps rising.1,
)

-- ---- parts

pub known_parts : (past : List Entry) (n : ℕ) (xs ys : List Step) → AreKnown past n (asked_in (xs ++ ys))
    → AreKnown past n (asked_in xs) × AreKnown past n (asked_in ys)
known_parts past n [] ys known = (tt, known)
known_parts past n (x ∷ xs) ys known = let more = known_parts past n xs ys known.1 in ((known.0, more.0), more.1)

pub above_parts : (n : ℕ) (xs ys : List Step) → AllAbove n (asked_in (xs ++ ys)) → AllAbove n (asked_in xs)
    × AllAbove n (asked_in ys)
above_parts n [] ys above = (tt, above)
above_parts n (x ∷ xs) ys above = let more = above_parts n xs ys above.1 in ((above.0, more.0), more.1)

pub rising_parts : (xs ys : List Step) → AreRising (asked_in (xs ++ ys)) → AreRising (asked_in xs)
    × AreRising (asked_in ys)
rising_parts [] ys rising = (tt, rising)
rising_parts (x ∷ xs) ys rising = let more = rising_parts xs ys rising.1 in
    (((above_parts x.place xs ys rising.0).0, more.0), more.1)

pub chosen_parts : (allowed : Choice → Type 0) (xs ys : List Step) → ChooseOnly allowed (xs ++ ys)
    → ChooseOnly allowed xs × ChooseOnly allowed ys
chosen_parts allowed [] ys all = (tt, all)
chosen_parts allowed (x ∷ xs) ys all = let more = chosen_parts allowed xs ys all.1 in ((all.0, more.0), more.1)

pub has_parts : (xs ys : List Step) (place : ℕ) → HasRequest (asked_in (xs ++ ys)) place
    → HasRequest (asked_in xs) place ⊎ HasRequest (asked_in ys) place
has_parts [] ys place has = inr has
has_parts (x ∷ xs) ys place (inl e) = inl (inl e)
has_parts (x ∷ xs) ys place (inr h) = elim (has_parts xs ys place h)
    [ inl left ↦ inl (inr left) | inr right ↦ inr right ]

-- ---- a run that is cut at a place

-- what stands below the place, and what doesn't
pub record IsCut (past : List Entry) (n : ℕ) (steps : List Step) : Type 0 where
  pub front : List Step
  pub back : List Step
  pub is : steps ≡ front ++ back
  pub low : AreKnown past n (asked_in front)
  pub high : (place : ℕ) → HasRequest (asked_in back) place → n ≤ place

pub cut : (past : List Entry) (m n : ℕ) (steps : List Step) → AreKnown past m (asked_in steps)
    → AreRising (asked_in steps) → IsCut past n steps
cut past m n [] known rising = record { front = []; back = []; is = refl; low = tt; high = λ place has. absurd has }
cut past m n (s ∷ steps) known rising =
    elim (cases_lt s.place n) [
      | inl lt ↦ (let more : IsCut past n steps = cut past m n steps known.1 rising.1 in
          record {
            front = s ∷ more.front;
            back = more.back;
            is = ap (λ (w : List Step). s ∷ w) more.is;
            low = ((lt, known.0.1), more.low);
            high = more.high;
          })
      | inr le ↦ record { front = []; back = s ∷ steps; is = refl; low = tt; high = from_here le }
    ]
  where
    from_here : n ≤ s.place → (place : ℕ) → (s.place ≡ place) ⊎ HasRequest (asked_in steps) place → n ≤ place
    from_here le place (inl e) = (let here : s.place ≡ place = e in omega (arith, le, here))
    from_here le place (inr h) = (let lt : s.place < place = above_has s.place place (asked_in steps) rising.0 h in
        omega (arith, le, lt))

-- a run from the request at a place on: it is the first step
pub record BeginsWith (r : ℕ × Request) (steps : List Step) : Type 0 where
  pub first : Step
  pub rest : List Step
  pub is : steps ≡ first ∷ rest
  pub asks : asked_by first ≡ r

pub pair_is : (s : Step) (r : ℕ × Request) → s.place ≡ r.0 → s.request ≡ r.1 → asked_by s ≡ r
pair_is s r place asks = λ i. (let p : ℕ × Request = (place i, asks i) in p)

pub begins_with : (past : List Entry) (m : ℕ) (r : ℕ × Request) (steps : List Step) → IsAt past r
    → AreKnown past m (asked_in steps) → AreRising (asked_in steps)
    → ((place : ℕ) → HasRequest (asked_in steps) place → r.0 ≤ place)
    → HasRequest (asked_in steps) r.0 → BeginsWith r steps
begins_with past m r [] at known rising high has = absurd has
begins_with past m r (s ∷ steps) at known rising high (inl e) =
    record { first = s; rest = steps; is = refl; asks = pair_is s r e (one_at past (asked_by s) r known.0.1 at e) }
begins_with past m r (s ∷ steps) at known rising high (inr h) =
    absurd (let lt : s.place < r.0 = above_has s.place r.0 (asked_in steps) rising.0 h in let le : r.0 ≤ s.place =
    high s.place (inl refl) in omega (arith, lt, le))
