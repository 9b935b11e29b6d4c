-- How many requests are unanswered, and how many of these were sent, as a journal goes on.
use Rattle.std.proofs.Common.{
  ◌≡◌,
  ◌≢◌,
  ◌<◌,
  ◌≤◌,
  ℕ,
  zero,
  suc,
  ◌+◌,
  Bool,
  true,
  false,
  List,
  [],
  ◌∷◌,
  Option,
  Some,
  None,
  is_none,
  refl,
  ap,
  sym,
  ◌∙◌,
  arith,
  if◌then◌else◌,
  inl,
  inr,
}
use Rattle.std.specs.Prelude.{◌⊎◌}
use Rattle.std.proofs.lemmas.Bool.Decides.{eqb_tells}
use Rattle.sftp_model.specs.declared.request.Request.{Request}
use Rattle.sftp_model.specs.declared.reply.Reply.{Reply}
use Rattle.session_model.specs.declared.event.Owner.{Owner}
use Rattle.session_model.specs.declared.event.Event.TheVariants.{Submit, Send, Take}
use Rattle.session_model.specs.declared.entry.Entry.{Entry}
use Rattle.session_model.specs.declared.entry.Entry.TheVariants as entry
use Rattle.session_model.specs.Readings.{AskedRequest, count_submitted, asked_at, answer, count_sent, count_below, unanswered_below, count_unanswered, count_awaited}
use Rattle.session_model.specs.Calls.{Setting}
use Rattle.session_model.specs.Journals.{IsJournal, IsAwaited, MayTake}
use Rattle.session_model.proofs.RequestLaws.{sent_asked, answer_beyond, answer_new, answer_other}
use Rattle.session_model.proofs.JournalLaws.{unanswered_borne}

-- ---- counts

-- no test among the first n differs
pub count_same : (f g : ℕ → Bool) (n : ℕ) → ((q : ℕ) → q < n → f q ≡ g q) → count_below f n ≡ count_below g n
count_same f g zero same = refl
count_same f g (suc n) same = rw (same n (omega arith)) (let more : count_below f n ≡ count_below g n =
    count_same f g n (λ q lt. same q (omega arith)) in omega arith)

-- one test alone among the first n differs
pub count_one : (f g : ℕ → Bool) (n p : ℕ) → p < n → f p ≡ true → g p ≡ false → ((q : ℕ) → p ≢ q → g q ≡ f q)
    → count_below f n ≡ count_below g n + 1
count_one f g zero p lt pass miss same = absurd (omega arith)
count_one f g (suc n) p lt pass miss same =
    elim (eqb_tells p n) [
      | inl t ↦ (let here : f n ≡ true = ap f (sym t.1) ∙ pass in let there : g n ≡ false = ap g (sym t.1) ∙ miss in
          rw (here, there) (let others : count_below f n ≡ count_below g n =
          count_same f g n (λ q small. sym (same q (λ e. absurd (let is : p ≡ n = t.1 in omega arith)))) in
          omega arith))
      | inr t ↦ (let more : count_below f n ≡ count_below g n + 1 =
          count_one f g n p (let ne : p ≢ n = t.1 in omega arith) pass miss same in
          let here : g n ≡ f n = same n t.1 in rw here (omega arith))
    ]

count_here : (f : ℕ → Bool) (n m : ℕ) (b : Bool) → f n ≡ b → 0 < (if b then 1 else 0) + m → (f n ≡ true) ⊎ (0 < m)
count_here f n m true is lt = inl is
count_here f n m false is lt = inr (omega (arith, lt))

-- where the count isn't 0, some test passes
pub count_some : (f : ℕ → Bool) (n : ℕ) → 0 < count_below f n → (k : ℕ) × ((k < n) × (f k ≡ true))
count_some f zero lt = absurd (omega (arith, lt))
count_some f (suc n) lt =
    elim (count_here f n (count_below f n) (f n) refl lt) [
      | inl here ↦ (n, (omega arith, here))
      | inr more ↦ (let h = count_some f n more in let small : h.0 < n = h.1.0 in (h.0, (omega arith, h.1.1)))
    ]

-- where some test passes, the count isn't 0
pub count_pos : (f : ℕ → Bool) (n k : ℕ) → k < n → f k ≡ true → 0 < count_below f n
count_pos f zero k lt pass = absurd (omega (arith, lt))
count_pos f (suc n) k lt pass =
    elim (eqb_tells k n) [
      | inl t ↦ (let here : f n ≡ true = ap f (sym t.1) ∙ pass in rw here (omega arith))
      | inr t ↦ (let more : 0 < count_below f n = count_pos f n k (let ne : k ≢ n = t.1 in omega arith) pass in
          omega arith)
    ]

count_zero : (f : ℕ → Bool) (n m : ℕ) (b : Bool) → f n ≡ b → (if b then 1 else 0) + m ≡ 0 → (f n ≡ false) × (m ≡ 0)
count_zero f n m true is e = absurd (omega (arith, e))
count_zero f n m false is e = (is, omega (arith, e))

-- where the count is 0, no test passes
pub count_none : (f : ℕ → Bool) (n : ℕ) → count_below f n ≡ 0 → (k : ℕ) → k < n → f k ≡ false
count_none f zero e k lt = absurd (omega arith)
count_none f (suc n) e k lt =
    let h = count_zero f n (count_below f n) (f n) refl e in
    elim (eqb_tells k n) [ inl t ↦ ap f t.1 ∙ h.0 | inr t ↦ count_none f n h.1 k (let ne : k ≢ n = t.1 in omega arith) ]

-- ---- requests

-- a request that is submitted is one more
pub unanswered_submit : (past : List Entry) (by : Owner) (id : ℕ) (r : Request)
    → count_unanswered (entry.Event (Submit by id r) ∷ past) ≡ count_unanswered past + 1
unanswered_submit past by id r =
    let none : answer past (count_submitted past) ≡ None = answer_beyond past (count_submitted past) (omega arith) in
    let next : count_submitted past + 1 ≡ suc (count_submitted past) = omega arith in
    ap (unanswered_below past) next ∙ (ap (λ (a : Option Reply). (if is_none a then 1 else 0) + count_unanswered past)
    none ∙ omega arith)

taken_one : (past : List Entry) (id n : ℕ) (r : Reply) → (may : MayTake past id r) → may.0 < n → unanswered_below past n
    ≡ unanswered_below (entry.Event (Take id r) ∷ past) n + 1
taken_one past id n r may lt =
    count_one (λ place. is_none (answer past place)) (λ place. is_none (answer (entry.Event (Take id r) ∷ past) place))
    n may.0 lt
    (ap (λ (a : Option Reply). is_none a) may.1.0.2) (ap (λ (a : Option Reply). is_none a)
    (answer_new past id may.0 r may.1.0.0))
    (λ q ne. ap (λ (a : Option Reply). is_none a) (answer_other past id may.0 q r may.1.0.0 ne))

-- a reply that is taken leaves one less unanswered, and one less of those that were sent
pub unanswered_take : (past : List Entry) (id : ℕ) (r : Reply) → MayTake past id r → count_unanswered past
    ≡ count_unanswered (entry.Event (Take id r) ∷ past) + 1
unanswered_take past id r may =
    let below : may.0 < count_sent past = may.1.0.1 in let few : count_sent past ≤ count_submitted past =
    sent_asked past in taken_one past id (count_submitted past) r may (omega arith)

pub awaited_take : (past : List Entry) (id : ℕ) (r : Reply) → MayTake past id r → count_awaited past
    ≡ count_awaited (entry.Event (Take id r) ∷ past) + 1
awaited_take past id r may = taken_one past id (count_sent past) r may may.1.0.1

-- behind a Send all that is unanswered was sent
pub awaited_send : (past : List Entry) → count_awaited (entry.Event Send ∷ past) ≡ count_unanswered past
awaited_send past = refl

-- a request without a reply is counted
pub some_unanswered : (past : List Entry) (p : ℕ) → p < count_submitted past → answer past p ≡ None
    → 0 < count_unanswered past
some_unanswered past p lt none = count_pos (λ place. is_none (answer past place)) (count_submitted past) p lt
    (ap (λ (a : Option Reply). is_none a) none)

asked_below : (past : List Entry) (place : ℕ) → place < count_submitted past → (a : AskedRequest)
    × (asked_at past place ≡ Some a)
asked_below [] place lt = absurd (omega arith)
asked_below (entry.Event (Submit by id r) ∷ past) place lt =
    elim (eqb_tells place (count_submitted past)) [
      | inl t ↦ (record { by = by; id = id; request = r }, rw t.0 refl)
      | inr t ↦ (let h = asked_below past place (let ne : place ≢ count_submitted past = t.1 in
          let small : place < count_submitted past + 1 = lt in omega arith) in (h.0, rw t.0 h.1))
    ]
asked_below (_ ∷ past) place lt = asked_below past place lt

is_none_is : (a : Option Reply) → is_none a ≡ true → a ≡ None
is_none_is None e = refl
is_none_is (Some r) e = absurd cc

-- where a sent request is unanswered, an id names one
pub awaited_id : (s : Setting) (past : List Entry) → IsJournal s past → 0 < count_awaited past → (id : ℕ)
    × ((place : ℕ) × IsAwaited past id place)
awaited_id s past j some =
    let h = count_some (λ place. is_none (answer past place)) (count_sent past) some in
    let few : count_sent past ≤ count_submitted past = sent_asked past in
    let below : h.0 < count_sent past = h.1.0 in
    let a = asked_below past h.0 (omega arith) in
    let none : answer past h.0 ≡ None = is_none_is (answer past h.0) h.1.1 in
    (a.0.id, (h.0, (unanswered_borne s past h.0 a.0 j a.1 none, below, none)))
