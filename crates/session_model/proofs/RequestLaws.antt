-- How the readings of a journal's requests go on with one entry, and what they keep.
use Rattle.std.proofs.Common.{
  ◌≡◌,
  ◌≢◌,
  ◌<◌,
  ◌≤◌,
  ◌==◌,
  ℕ,
  ◌+◌,
  false,
  List,
  [],
  ◌∷◌,
  Option,
  Some,
  None,
  is_none,
  refl,
  ap,
  sym,
  ◌∙◌,
  subst,
  arith,
  if◌then◌else◌,
  inl,
  inr,
}
use Rattle.std.proofs.lemmas.Bool.Decides.{eqb_tells}
use Rattle.std.proofs.lemmas.Bool.{ne_eqb, eq-eqb}
use Rattle.sftp_model.specs.declared.request.Request.{Request}
use Rattle.sftp_model.specs.declared.reply.Reply.{Reply}
use Rattle.session_model.specs.declared.event.Owner.{Owner}
use Rattle.session_model.specs.declared.event.Event.TheVariants.{Submit, Send, Take}
use Rattle.session_model.specs.declared.entry.Entry.{Entry}
use Rattle.session_model.specs.declared.entry.Entry.TheVariants as entry
use Rattle.session_model.specs.Readings.{AskedRequest, count_submitted, asked_at, bearer, answer, is_at, place_awaiting, still_open, count_sent}
use Rattle.session_model.specs.Journals.{MayTake}

-- ---- places

-- no more requests were sent than submitted
pub sent_asked : (past : List Entry) → count_sent past ≤ count_submitted past
sent_asked [] = omega arith
sent_asked (entry.Event (Submit by i r) ∷ past) = let e = sent_asked past in omega arith
sent_asked (entry.Event Send ∷ past) = omega arith
sent_asked (_ ∷ past) = sent_asked past

-- a request that bears an id was submitted
pub bearer_below : (past : List Entry) (id p : ℕ) → bearer past id ≡ Some p → p < count_submitted past
bearer_below [] id p e = absurd cc
bearer_below (entry.Event (Submit by i r) ∷ past) id p e =
    elim (eqb_tells i id) [
      | inl t ↦ (let q : count_submitted past ≡ p = cc (rw t.0 at e) in omega arith)
      | inr t ↦ (let below : p < count_submitted past = bearer_below past id p (rw t.0 at e) in omega arith)
    ]
bearer_below (_ ∷ past) id p e = bearer_below past id p e

-- the new request stands at its place, and each other where it stood
pub asked_new : (past : List Entry) (by : Owner) (i : ℕ) (r : Request)
    → asked_at (entry.Event (Submit by i r) ∷ past) (count_submitted past)
    ≡ Some (record { by = by; id = i; request = r })
asked_new past by i r = rw (eq-eqb (count_submitted past) (count_submitted past) refl) refl

pub asked_other : (past : List Entry) (by : Owner) (i p : ℕ) (r : Request) → p < count_submitted past
    → asked_at (entry.Event (Submit by i r) ∷ past) p ≡ asked_at past p
asked_other past by i p r lt = rw (ne_eqb p (count_submitted past) (λ e. absurd (omega arith))) refl

-- no request stands at a place that isn't reached
pub asked_beyond : (past : List Entry) (p : ℕ) → count_submitted past ≤ p → asked_at past p ≡ None
asked_beyond [] p le = refl
asked_beyond (entry.Event (Submit by i r) ∷ past) p le =
    rw (ne_eqb p (count_submitted past) (λ e. let more : count_submitted past + 1 ≤ p = le in absurd (omega arith)))
    (asked_beyond past p (omega arith))
asked_beyond (_ ∷ past) p le = asked_beyond past p le

-- the new request bears its id, and each other id is borne as it was
pub bearer_new : (past : List Entry) (by : Owner) (id : ℕ) (r : Request)
    → bearer (entry.Event (Submit by id r) ∷ past) id ≡ Some (count_submitted past)
bearer_new past by id r = rw (eq-eqb id id refl) refl

pub bearer_other : (past : List Entry) (by : Owner) (i id : ℕ) (r : Request) → i ≢ id
    → bearer (entry.Event (Submit by i r) ∷ past) id ≡ bearer past id
bearer_other past by i id r ne = rw (ne_eqb i id ne) refl

-- no two ids are borne by one request
pub bearer_one : (past : List Entry) (i j p : ℕ) → bearer past i ≡ Some p → bearer past j ≡ Some p → i ≡ j
bearer_one [] i j p e f = absurd cc
bearer_one (entry.Event (Submit by k r) ∷ past) i j p e f =
    elim (eqb_tells k i) [
      | inl t ↦ elim (eqb_tells k j) [
        | inl u ↦ sym t.1 ∙ u.1
        | inr u ↦ (let q : count_submitted past ≡ p = cc (rw t.0 at e) in let lt : p < count_submitted past =
            bearer_below past j p (rw u.0 at f) in absurd (omega arith))
      ]
      | inr t ↦ elim (eqb_tells k j) [
        | inl u ↦ (let q : count_submitted past ≡ p = cc (rw u.0 at f) in let lt : p < count_submitted past =
            bearer_below past i p (rw t.0 at e) in absurd (omega arith))
        | inr u ↦ bearer_one past i j p (rw t.0 at e) (rw u.0 at f)
      ]
    ]
bearer_one (_ ∷ past) i j p e f = bearer_one past i j p e f

-- the request that bears an id was submitted under it
pub bearer_asked : (past : List Entry) (id p : ℕ) → bearer past id ≡ Some p → (a : AskedRequest)
    × ((asked_at past p ≡ Some a) × (a.id ≡ id))
bearer_asked [] id p e = absurd cc
bearer_asked (entry.Event (Submit by i r) ∷ past) id p e =
    elim (eqb_tells i id) [
      | inl t ↦ (let q : count_submitted past ≡ p = cc (rw t.0 at e) in (
        record { by = by; id = i; request = r },
        (
          subst (λ (k : ℕ). asked_at (entry.Event (Submit by i r) ∷ past) k
              ≡ Some (record { by = by; id = i; request = r })) q (asked_new past by i r),
          t.1,
        ),
      ))
      | inr t ↦ (let old = bearer_asked past id p (rw t.0 at e) in
          (old.0, (asked_other past by i p r (bearer_below past id p (rw t.0 at e)) ∙ old.1.0, old.1.1)))
    ]
bearer_asked (_ ∷ past) id p e = bearer_asked past id p e

-- ---- replies

at_other : (b : Option ℕ) (p : ℕ) → ((q : ℕ) → b ≡ Some q → q ≢ p) → is_at b p ≡ false
at_other None p f = refl
at_other (Some q) p f = ne_eqb q p (f q refl)

-- nothing answers a request that was not submitted
pub answer_beyond : (past : List Entry) (p : ℕ) → count_submitted past ≤ p → answer past p ≡ None
answer_beyond [] p le = refl
answer_beyond (entry.Event (Submit by i r) ∷ past) p le = answer_beyond past p (omega arith)
answer_beyond (entry.Event (Take id r) ∷ past) p le =
    rw (at_other (bearer past id) p (λ q e same. let lt : q < count_submitted past = bearer_below past id q e in
    absurd (omega arith))) (answer_beyond past p le)
answer_beyond (_ ∷ past) p le = answer_beyond past p le

-- what another id bears is not at this one's place
pub not_at : (past : List Entry) (i id p : ℕ) → i ≢ id → bearer past id ≡ Some p → is_at (bearer past i) p ≡ false
not_at past i id p ne e = at_other (bearer past i) p (λ q f same. ne
    (bearer_one past i id p (f ∙ ap (λ (n : ℕ). Some n) same) e))

-- a reply stands at the place of the request that bears its id
pub answer_new : (past : List Entry) (id p : ℕ) (r : Reply) → bearer past id ≡ Some p
    → answer (entry.Event (Take id r) ∷ past) p ≡ Some r
answer_new past id p r e = rw e (rw (eq-eqb p p refl) refl)

-- and each other reply where it stood
pub answer_other : (past : List Entry) (id p q : ℕ) (r : Reply) → bearer past id ≡ Some p → p ≢ q
    → answer (entry.Event (Take id r) ∷ past) q ≡ answer past q
answer_other past id p q r e ne = rw e (rw (ne_eqb p q ne) refl)

-- a reply that was taken stays
pub answer_stays : (past : List Entry) (id : ℕ) (r q : Reply) (p : ℕ) → MayTake past id r → answer past p ≡ Some q
    → answer (entry.Event (Take id r) ∷ past) p ≡ Some q
answer_stays past id r q p may got =
    answer_other past id may.0 p r may.1.0.0 (λ e. let none : answer past p ≡ None =
    subst (λ (w : ℕ). answer past w ≡ None) e may.1.0.2 in absurd cc) ∙ got

-- ---- unanswered requests

-- a request that was submitted is awaited under its id
pub awaiting_submit : (past : List Entry) (by : Owner) (i : ℕ) (r : Request) (q : ℕ)
    → place_awaiting (entry.Event (Submit by i r) ∷ past) q ≡ (if i == q then Some (count_submitted past) else
    place_awaiting past q)
awaiting_submit past by i r q =
    let none : answer past (count_submitted past) ≡ None = answer_beyond past (count_submitted past) (omega arith) in
    elim (eqb_tells i q) [ inl t ↦ rw t.0 (rw none refl) | inr t ↦ rw t.0 refl ]

abbrev with_reply : Option ℕ → Reply → (ℕ → Option Reply) → ℕ → Option Reply
with_reply taken r old place = if is_at taken place then Some r else old place

same_place : (p : ℕ) (r : Reply) (old : ℕ → Option Reply) → still_open (with_reply (Some p) r old) (Some p) ≡ None
same_place p r old = rw (eq-eqb p p refl) refl

other_place : (b : Option ℕ) (p : ℕ) (r : Reply) (old : ℕ → Option Reply) → ((q : ℕ) → b ≡ Some q → p ≢ q)
    → still_open (with_reply (Some p) r old) b ≡ still_open old b
other_place None p r old e = refl
other_place (Some place) p r old e = rw (ne_eqb p place (e place refl)) refl

-- a request that was answered is awaited no more
pub awaiting_take : (past : List Entry) (id p : ℕ) (r : Reply) (q : ℕ) → bearer past id ≡ Some p
    → place_awaiting (entry.Event (Take id r) ∷ past) q ≡ (if id == q then None else place_awaiting past q)
awaiting_take past id p r q e =
    let taken : answer (entry.Event (Take id r) ∷ past) ≡ with_reply (Some p) r (answer past) =
    ap (λ (b : Option ℕ). with_reply b r (answer past)) e in
    elim (eqb_tells id q) [
      | inl t ↦ rw t.0 (ap (λ (f : ℕ → Option Reply). still_open f (bearer past q)) taken
          ∙ (ap (still_open (with_reply (Some p) r (answer past))) (subst (λ (k : ℕ). bearer past k ≡ Some p) t.1 e)
          ∙ same_place p r (answer past)))
      | inr t ↦ rw t.0 (ap (λ (f : ℕ → Option Reply). still_open f (bearer past q)) taken
          ∙ other_place (bearer past q) p r (answer past) (λ k f same. t.1
          (bearer_one past id q p e (f ∙ ap (λ (n : ℕ). Some n) (sym same)))))
    ]

open_is : (f : ℕ → Option Reply) (place p : ℕ) (a : Option Reply) → f place ≡ a
    → (if is_none a then Some place else None) ≡ Some p → (Some place ≡ Some p) × (f p ≡ None)
open_is f place p None is e = (e, (let q : place ≡ p = cc e in subst (λ (k : ℕ). f k ≡ None) q is))
open_is f place p (Some r) is e = absurd cc

open_some : (f : ℕ → Option Reply) (b : Option ℕ) (p : ℕ) → still_open f b ≡ Some p → (b ≡ Some p) × (f p ≡ None)
open_some f None p e = absurd cc
open_some f (Some place) p e = open_is f place p (f place) refl e

-- what is awaited is borne and unanswered, and the other way round
pub awaiting_is : (past : List Entry) (id p : ℕ) → place_awaiting past id ≡ Some p → (bearer past id ≡ Some p)
    × (answer past p ≡ None)
awaiting_is past id p e = open_some (answer past) (bearer past id) p e

pub is_awaiting : (past : List Entry) (id p : ℕ) → bearer past id ≡ Some p → answer past p ≡ None
    → place_awaiting past id ≡ Some p
is_awaiting past id p e f = ap (still_open (answer past)) e ∙ rw f refl
