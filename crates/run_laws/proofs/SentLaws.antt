-- The requests that were sent stand in the order of their places, and all of them that stand before the last one sent
-- are there.
use Rattle.std.proofs.Common.{◌≡◌, ◌<◌, ◌≤◌, ◌+◌, ℕ, true, List, [], ◌∷◌, ◌++◌, Some, refl, ap, sym, ◌∙◌, subst, arith, inl, inr}
use Rattle.std.specs.Prelude.{◌⊎◌}
use Rattle.std.proofs.lemmas.Bool.Decides.{eqb_tells}
use Rattle.std.proofs.lemmas.List.{append-nil}
use Rattle.sftp_model.specs.declared.request.Request.{Request}
use Rattle.machine_model.specs.Pairs.{HasEntry}
use Rattle.plan_model.specs.Moves.{Own}
use Rattle.session_model.specs.declared.entry.Entry.{Entry}
use Rattle.session_model.specs.declared.entry.Entry.TheVariants as entry
use Rattle.session_model.specs.declared.event.Event.TheVariants.{Send, Submit}
use Rattle.session_model.specs.declared.event.Owner.{Owner}
use Rattle.session_model.specs.declared.event.Owner.TheVariants as owner
use Rattle.session_model.specs.Grants.{is_asked_by}
use Rattle.session_model.specs.Readings.{AskedRequest, count_submitted, asked_at, count_sent}
use Rattle.session_model.specs.Served.{served_request, requests_of, requests_sent}
use Rattle.session_model.proofs.RequestLaws.{asked_new, asked_other, sent_asked}
use Rattle.run_laws.proofs.ServedSteps.{HasRequest}

-- ---- lists of requests by their places

abbrev pub AllAbove : ℕ → Own → Type 0
AllAbove n [] = Unit {0}
AllAbove n (r ∷ requests) = (n < r.0) × AllAbove n requests

-- each place is above those before it
abbrev pub AreRising : Own → Type 0
AreRising [] = Unit {0}
AreRising (r ∷ requests) = AllAbove r.0 requests × AreRising requests

-- the request at the place is this one
abbrev pub IsAt : List Entry → ℕ × Request → Type 0
IsAt past r = (a : AskedRequest) × ((asked_at past r.0 ≡ Some a) × (a.request ≡ r.1))

-- each stands at its place, below n
abbrev pub AreKnown : List Entry → ℕ → Own → Type 0
AreKnown past n [] = Unit {0}
AreKnown past n (r ∷ requests) = ((r.0 < n) × IsAt past r) × AreKnown past n requests

pub known_as : (before after : List Entry) (n m : ℕ) (requests : Own) → n ≤ m
    → ((place : ℕ) → place < n → asked_at after place ≡ asked_at before place) → AreKnown before n requests
    → AreKnown after m requests
known_as before after n m [] le same known = tt
known_as before after n m (r ∷ requests) le same known = (
  (let lt = known.0.0 in omega (arith, lt, le), (known.0.1.0, (same r.0 known.0.0 ∙ known.0.1.1.0, known.0.1.1.1))),
  known_as before after n m requests le same known.1,
)

pub known_push : (past : List Entry) (n : ℕ) (requests : Own) (r : ℕ × Request) → AreKnown past n requests → (r.0 < n)
    × IsAt past r → AreKnown past n (requests ++ r ∷ [])
known_push past n [] r known new = (new, tt)
known_push past n (first ∷ requests) r known new = (known.0, known_push past n requests r known.1 new)

above_push : (n : ℕ) (requests : Own) (r : ℕ × Request) → AllAbove n requests → n < r.0
    → AllAbove n (requests ++ r ∷ [])
above_push n [] r above lt = (lt, tt)
above_push n (first ∷ requests) r above lt = (above.0, above_push n requests r above.1 lt)

pub rising_push : (past : List Entry) (n : ℕ) (q : Request) (requests : Own) → AreRising requests
    → AreKnown past n requests → AreRising (requests ++ (n, q) ∷ [])
rising_push past n q [] rising known = (tt, tt)
rising_push past n q (r ∷ requests) rising known = (
  above_push r.0 requests (n, q) rising.0 known.0.0,
  rising_push past n q requests rising.1 known.1,
)

pub has_left : (xs ys : Own) (place : ℕ) → HasRequest xs place → HasRequest (xs ++ ys) place
has_left [] ys place h = absurd h
has_left (x ∷ xs) ys place (inl e) = inl e
has_left (x ∷ xs) ys place (inr h) = inr (has_left xs ys place h)

pub has_right : (xs ys : Own) (place : ℕ) → HasRequest ys place → HasRequest (xs ++ ys) place
has_right [] ys place h = h
has_right (x ∷ xs) ys place h = inr (has_right xs ys place h)

-- ---- the requests of a journal

abbrev AreListed : List Entry → Type 0
AreListed past = AreRising (requests_of past) × AreKnown past (count_submitted past) (requests_of past)

listed_more : (past : List Entry) (by : Owner) (id : ℕ) (q : Request) → AreListed past
    → AreListed (entry.Event (Submit by id q) ∷ past)
listed_more past by id q l = by_owner by
  where
    later : (o : Owner) → AreKnown (entry.Event (Submit o id q) ∷ past) (count_submitted past + 1) (requests_of past)
    later o = known_as past (entry.Event (Submit o id q) ∷ past) (count_submitted past) (count_submitted past + 1)
        (requests_of past)
        (omega arith) (λ place lt. asked_other past o id place q lt) l.1

    new : (o : Owner) → (count_submitted past < count_submitted past + 1)
        × IsAt (entry.Event (Submit o id q) ∷ past) (count_submitted past, q)
    new o = (omega arith, (record { by = o; id = id; request = q }, (asked_new past o id q, refl)))

    by_owner : (o : Owner) → AreListed (entry.Event (Submit o id q) ∷ past)
    by_owner owner.Setup = subst (λ (w : Own). AreRising w × AreKnown (entry.Event (Submit owner.Setup id q) ∷ past)
        (count_submitted past + 1) w) (sym (append-nil (requests_of past))) (l.0, later owner.Setup)
    by_owner owner.Close = (
      rising_push past (count_submitted past) q (requests_of past) l.0 l.1,
      known_push (entry.Event (Submit owner.Close id q) ∷ past) (count_submitted past + 1) (requests_of past)
          (count_submitted past, q)
          (later owner.Close) (new owner.Close),
    )
    by_owner (owner.Call lane call) = (
      rising_push past (count_submitted past) q (requests_of past) l.0 l.1,
      known_push (entry.Event (Submit (owner.Call lane call) id q) ∷ past) (count_submitted past + 1) (requests_of past)
          (count_submitted past, q) (later (owner.Call lane call)) (new (owner.Call lane call)),
    )

listed : (past : List Entry) → AreListed past
listed [] = (tt, tt)
listed (entry.Event (Submit by id q) ∷ past) = listed_more past by id q (listed past)
listed (e ∷ past) = let l = listed past in (
  l.0,
  known_as past (e ∷ past) (count_submitted past) (count_submitted past)
      (requests_of past) (omega arith) (λ place lt. refl) l.1,
)

-- each request of a call is among them
all_listed : (past : List Entry) (place lane call : ℕ) → is_asked_by (asked_at past place) lane call ≡ true
    → HasRequest (requests_of past) place
all_listed [] place lane call mine = absurd cc
all_listed (entry.Event (Submit by id q) ∷ past) place lane call mine =
    elim (eqb_tells place (count_submitted past)) [
      | inl t ↦ has_right (requests_of past) (served_request by (count_submitted past) q) place
          (by_owner by (rw t.0 at mine) (sym t.1))
      | inr t ↦ has_left (requests_of past) (served_request by (count_submitted past) q) place
          (all_listed past place lane call (rw t.0 at mine))
    ]
  where
    by_owner : (o : Owner) → is_asked_by (Some (record { by = o; id = id; request = q })) lane call ≡ true
        → count_submitted past
        ≡ place → HasRequest (served_request o (count_submitted past) q) place
    by_owner (owner.Call l c) test here = inl here
    by_owner owner.Setup test here = absurd cc
    by_owner owner.Close test here = absurd cc
all_listed (_ ∷ past) place lane call mine = all_listed past place lane call mine

-- ---- those that were sent

-- requests in the order of their places, below n: all calls' requests that stand there
pub record AreAll (past : List Entry) (n : ℕ) (seen : List ℕ) (requests : Own) : Type 0 where
  pub rising : AreRising requests
  pub known : AreKnown past n requests
  pub complete : (place lane call : ℕ) → place < n → is_asked_by (asked_at past place) lane call ≡ true
      → HasEntry seen place ⊎ HasRequest requests place

pub all_sent : (past : List Entry) → AreAll past (count_sent past) [] (requests_sent past)
all_sent [] = record { rising = tt; known = tt; complete = λ place lane call lt mine. absurd cc }
all_sent (entry.Event Send ∷ past) =
    let l = listed past in
    record {
      rising = l.0;
      known = known_as past (entry.Event Send ∷ past) (count_submitted past) (count_submitted past) (requests_of past)
          (omega arith) (λ place lt. refl) l.1;
      complete = λ place lane call lt mine. inr (all_listed past place lane call mine);
    }
all_sent (entry.Event (Submit by id q) ∷ past) =
    let old = all_sent past in
    let le : count_sent past ≤ count_submitted past = sent_asked past in
    let same : (place : ℕ) → place < count_sent past → asked_at (entry.Event (Submit by id q) ∷ past) place
    ≡ asked_at past place = λ place lt. asked_other past by id place q (omega (arith, lt, le)) in
    record {
      rising = old.rising;
      known = known_as past (entry.Event (Submit by id q) ∷ past) (count_sent past) (count_sent past)
          (requests_sent past) (omega arith) same old.known;
      complete = λ place lane call lt mine. old.complete place lane call lt
          (ap (λ x. is_asked_by x lane call) (sym (same place lt)) ∙ mine);
    }
all_sent (e ∷ past) =
    let old = all_sent past in
    record {
      rising = old.rising;
      known = known_as past (e ∷ past) (count_sent past) (count_sent past) (requests_sent past) (omega arith)
          (λ place lt. refl) old.known;
      complete = λ place lane call lt mine. old.complete place lane call lt mine;
    }
