-- What a part of a run so far says of the whole: its requests, its replies and its picks.
use Rattle.std.proofs.Common.{append_assoc, ◌≡◌, ◌<◌, ℕ, suc, ◌+◌, true, false, List, [], ◌∷◌, ◌++◌, Some, None, refl, ap, sym, ◌∙◌, arith, inl, inr}
use Rattle.std.specs.Prelude.{◌⊎◌, length}
use Rattle.std.proofs.lemmas.Bool.Decides.{eqb_tells}
use Rattle.std.proofs.lemmas.List.{append-nil, length-append}
use Rattle.sftp_model.specs.declared.request.Request.{Request}
use Rattle.sftp_model.specs.declared.reply.Reply.{Reply}
use Rattle.session_model.specs.declared.event.Owner.{Owner}
use Rattle.session_model.specs.declared.event.Owner.TheVariants as owner
use Rattle.session_model.specs.declared.event.Event.TheVariants.{Submit, Send, Take}
use Rattle.session_model.specs.declared.entry.Entry.{Entry}
use Rattle.session_model.specs.declared.entry.Entry.TheVariants as entry
use Rattle.session_model.specs.Readings.{count_submitted, asked_at, answer, count_sent, last_cancel}
use Rattle.session_model.specs.Calls.{Setting}
use Rattle.session_model.specs.Grants.{next_due}
use Rattle.session_model.specs.Journals.{IsJournal, IsNext, MayCome, MustClose, cancelled_end}
use Rattle.session_model.specs.Served.{served_request, requests_of, requests_sent, is_query, IsPicked}
use Rattle.session_model.proofs.CallLaws.{next_by, next_take}
use Rattle.session_model.proofs.RequestLaws.{answer_stays, asked_beyond, asked_other, sent_asked}
use Rattle.run_laws.proofs.Told.{Has, From}

-- ---- a part and what came behind it

pub journal_part : (s : Setting) (later past : List Entry) → IsJournal s (later ++ past) → IsJournal s past
journal_part s [] past j = j
journal_part s (e ∷ later) past j = journal_part s later past j.1

pub picked_part : (picks : List ℕ) (later past : List Entry) → IsPicked picks (later ++ past) → IsPicked picks past
picked_part picks [] past p = p
picked_part picks (entry.Event (Take id r) ∷ later) past p = picked_part picks later past p.1
picked_part picks (_ ∷ later) past p = picked_part picks later past p

pub answer_later : (s : Setting) (later past : List Entry) (place : ℕ) (r : Reply) → IsJournal s (later ++ past)
    → answer past place ≡ Some r → answer (later ++ past) place ≡ Some r
answer_later s [] past place r j e = e
answer_later s (entry.Event (Take id q) ∷ later) past place r j e =
    answer_stays (later ++ past) id q r place (next_take s (later ++ past) id q j.0).0
    (answer_later s later past place r j.1 e)
answer_later s (_ ∷ later) past place r j e = answer_later s later past place r j.1 e

-- the query stays the first request
query_more : (past : List Entry) (by : Owner) (id : ℕ) (r : Request) → is_query (asked_at past 0) ≡ true
    → is_query (asked_at (entry.Event (Submit by id r) ∷ past) 0) ≡ true
query_more past by id r e =
    elim (eqb_tells 0 (count_submitted past)) [
      | inl t ↦ absurd (let none : asked_at past 0 ≡ None = asked_beyond past 0
          (let is : 0 ≡ count_submitted past = t.1 in omega (arith, is)) in let gone : false ≡ true =
          ap is_query (sym none) ∙ e
          in cc)
      | inr t ↦ rw t.0 e
    ]

pub query_later : (later past : List Entry) → is_query (asked_at past 0) ≡ true → is_query (asked_at (later ++ past) 0)
    ≡ true
query_later [] past e = e
query_later (entry.Event (Submit by id r) ∷ later) past e = query_more (later ++ past) by id r
    (query_later later past e)
query_later (_ ∷ later) past e = query_later later past e

-- ---- the requests that were sent

-- the one begins the other
abbrev pub IsFront : List (ℕ × Request) → List (ℕ × Request) → Type 0
IsFront front requests = (rest : List (ℕ × Request)) × (requests ≡ front ++ rest)

front_self : (requests : List (ℕ × Request)) → IsFront requests requests
front_self requests = ([], sym (append-nil requests))

front_more : (front requests more : List (ℕ × Request)) → IsFront front requests → IsFront front (requests ++ more)
front_more front requests more f = (
  f.0 ++ more,
  ap (λ (l : List (ℕ × Request)). l ++ more) f.1
      ∙ append_assoc front f.0 more,
)

sent_front : (past : List Entry) → IsFront (requests_sent past) (requests_of past)
sent_front [] = front_self []
sent_front (entry.Event (Submit by id r) ∷ past) = front_more (requests_sent past) (requests_of past)
    (served_request by (count_submitted past) r) (sent_front past)
sent_front (entry.Event Send ∷ past) = front_self (requests_of past)
sent_front (_ ∷ past) = sent_front past

asked_front : (later past : List Entry) → IsFront (requests_sent past) (requests_of (later ++ past))
asked_front [] past = sent_front past
asked_front (entry.Event (Submit by id r) ∷ later) past = front_more (requests_sent past) (requests_of (later ++ past))
    (served_request by (count_submitted (later ++ past)) r) (asked_front later past)
asked_front (_ ∷ later) past = asked_front later past

pub sent_later : (later past : List Entry) → IsFront (requests_sent past) (requests_sent (later ++ past))
sent_later [] past = front_self (requests_sent past)
sent_later (entry.Event Send ∷ later) past = asked_front later past
sent_later (_ ∷ later) past = sent_later later past

pub has_more : (p : ℕ) (requests more : List (ℕ × Request)) → Has p requests → Has p (requests ++ more)
has_more p [] more h = absurd h
has_more p (r ∷ requests) more (inl e) = inl e
has_more p (r ∷ requests) more (inr h) = inr (has_more p requests more h)

has_last : (p q : ℕ) (r : Request) (requests : List (ℕ × Request)) → q ≡ p → Has p (requests ++ (q, r) ∷ [])
has_last p q r [] e = inl e
has_last p q r (x ∷ requests) e = inr (has_last p q r requests e)

has_counted : (by : Owner) (p q id : ℕ) (r : Request) (requests : List (ℕ × Request)) → q ≡ p
    → is_query (Some (record { by = by; id = id; request = r })) ≡ false → Has p (requests ++ served_request by q r)
has_counted owner.Setup p q id r requests e other = absurd cc
has_counted owner.Close p q id r requests e other = has_last p q r requests e
has_counted (owner.Call lane call) p q id r requests e other = has_last p q r requests e

-- each request stands at its place, but for the query
asked_has : (past : List Entry) (p : ℕ) → p < count_submitted past → is_query (asked_at past p) ≡ false
    → Has p (requests_of past)
asked_has [] p lt other = absurd (omega arith)
asked_has (entry.Event (Submit by id r) ∷ past) p lt other =
    elim (eqb_tells p (count_submitted past)) [
      | inl t ↦ has_counted by p (count_submitted past) id r (requests_of past) (sym t.1) (rw t.0 at other)
      | inr t ↦ has_more p (requests_of past) (served_request by (count_submitted past) r)
          (asked_has past p (let ne : p ≡ count_submitted past → ⊥ = t.1 in let le : p < count_submitted past + 1 = lt
          in omega arith)
          (rw t.0 at other))
    ]
asked_has (_ ∷ past) p lt other = asked_has past p lt other

pub sent_has : (past : List Entry) (p : ℕ) → p < count_sent past → is_query (asked_at past p) ≡ false
    → Has p (requests_sent past)
sent_has [] p lt other = absurd (omega arith)
sent_has (entry.Event (Submit by id r) ∷ past) p lt other =
    let le = sent_asked past in
    sent_has past p lt (ap is_query (sym (asked_other past by id p r (omega (arith, le, lt)))) ∙ other)
sent_has (entry.Event Send ∷ past) p lt other = asked_has past p lt other
sent_has (_ ∷ past) p lt other = sent_has past p lt other

-- ---- the query is the first request, and the others stand one behind another

next_setup : (s : Setting) (past : List Entry) (id : ℕ) (r : Request)
    → IsNext s past (entry.Event (Submit owner.Setup id r)) → MayCome s past (entry.Event (Submit owner.Setup id r))
next_setup s past id r h =
    next_by (last_cancel past) (next_due s past) _ (λ g. MustClose past g (entry.Event (Submit owner.Setup id r)))
    (λ l. entry.Event (Submit owner.Setup id r) ≡ cancelled_end past l) h
    (λ g m. cc (m.1.1)) (λ l e. cc e)

pub query_first : (s : Setting) (past : List Entry) (p : ℕ) → IsJournal s past → is_query (asked_at past p) ≡ true
    → (p ≡ 0) × (s.limits ≡ true)
query_first s [] p j e = absurd cc
query_first s (entry.Event (Submit owner.Setup id r) ∷ past) p j e =
    let may = next_setup s past id r j.0 in
    elim (eqb_tells p (count_submitted past)) [
      | inl t ↦ (t.1 ∙ may.1, may.0)
      | inr t ↦
          query_first s past p j.1 (rw t.0 at e)
    ]
query_first s (entry.Event (Submit owner.Close id r) ∷ past) p j e =
    elim (eqb_tells p (count_submitted past)) [
      | inl t ↦ absurd (let no_way : false ≡ true = rw t.0 at e in cc)
      | inr t ↦
          query_first s past p j.1 (rw t.0 at e)
    ]
query_first s (entry.Event (Submit (owner.Call lane call) id r) ∷ past) p j e =
    elim (eqb_tells p (count_submitted past)) [
      | inl t ↦ absurd (let no_way : false ≡ true = rw t.0 at e in cc)
      | inr t ↦
          query_first s past p j.1 (rw t.0 at e)
    ]
query_first s (_ ∷ past) p j e = query_first s past p j.1 e

-- these requests stand one behind another, n with the query, where that was asked
abbrev pub Counted : List Entry → ℕ → List (ℕ × Request) → Type 0
Counted past n requests =
    (k : ℕ) × (From k requests × (n ≡ k + length requests) × ((k ≡ 0)
    ⊎ ((k ≡ 1) × (is_query (asked_at past 0) ≡ true))))

from_more : (k p : ℕ) (r : Request) (requests : List (ℕ × Request)) → From k requests → p ≡ k + length requests
    → From k (requests ++ (p, r) ∷ [])
from_more k p r [] f e = (omega (arith, e), tt)
from_more k p r (x ∷ requests) f e = (f.0, from_more (suc k) p r requests f.1 (omega (arith, e)))

from_none : (k : ℕ) (requests : List (ℕ × Request)) → length requests ≡ 0 → From k (requests ++ [])
from_none k [] e = tt
from_none k (r ∷ requests) e = absurd (omega (arith, e))

counts_query : (past : List Entry) (by : Owner) (id k : ℕ) (r : Request) → (k ≡ 0)
    ⊎ ((k ≡ 1) × (is_query (asked_at past 0) ≡ true))
    → (k ≡ 0) ⊎ ((k ≡ 1) × (is_query (asked_at (entry.Event (Submit by id r) ∷ past) 0) ≡ true))
counts_query past by id k r (inl e) = inl e
counts_query past by id k r (inr (e, q)) = inr (e, query_more past by id r q)

counts_more : (past : List Entry) (by : Owner) (id : ℕ) (r : Request)
    → Counted past (count_submitted past) (requests_of past)
    → Counted (entry.Event (Submit by id r) ∷ past) (count_submitted past + 1)
    (requests_of past ++ (count_submitted past, r) ∷ [])
counts_more past by id r old =
    let many : count_submitted past ≡ old.0 + length (requests_of past) = old.1.1 in
    let long : length (requests_of past ++ (count_submitted past, r) ∷ []) ≡ length (requests_of past) + 1 =
    length-append (requests_of past) ((count_submitted past, r) ∷ []) in (
      old.0,
      (
        from_more old.0 (count_submitted past) r (requests_of past) old.1.0 many,
        omega (arith, many, long),
        counts_query past by id old.0 r old.1.2,
      ),
    )

asked_counts : (s : Setting) (past : List Entry) → IsJournal s past
    → Counted past (count_submitted past) (requests_of past)
asked_counts s [] j = (0, (tt, refl, inl refl))
asked_counts s (entry.Event (Submit owner.Setup id r) ∷ past) j =
    let none : count_submitted past ≡ 0 = (next_setup s past id r j.0).1 in
    let old = asked_counts s past j.1 in
    let many : count_submitted past ≡ old.0 + length (requests_of past) = old.1.1 in
    let long : length (requests_of past ++ []) ≡ length (requests_of past) = ap length (append-nil (requests_of past))
    in (
      1,
      (
        from_none 1 (requests_of past) (omega (arith, none, many)),
        omega (arith, none, many, long),
        inr (refl, rw none refl),
      ),
    )
asked_counts s (entry.Event (Submit owner.Close id r) ∷ past) j =
    counts_more past owner.Close id r (asked_counts s past j.1)
asked_counts s (entry.Event (Submit (owner.Call lane call) id r) ∷ past) j =
    counts_more past (owner.Call lane call) id r (asked_counts s past j.1)
asked_counts s (_ ∷ past) j = asked_counts s past j.1

pub sent_counts : (s : Setting) (past : List Entry) → IsJournal s past
    → Counted past (count_sent past) (requests_sent past)
sent_counts s [] j = (0, (tt, refl, inl refl))
sent_counts s (entry.Event (Submit by id r) ∷ past) j = let old = sent_counts s past j.1 in
    (old.0, (old.1.0, old.1.1, counts_query past by id old.0 r old.1.2))
sent_counts s (entry.Event Send ∷ past) j = asked_counts s past j.1
sent_counts s (_ ∷ past) j = sent_counts s past j.1
