-- A journal in which the id of each request is its place. What is read of a journal, but for its ids, is read of this
-- one too.
use Rattle.std.proofs.Common.{◌≡◌, ◌<◌, ◌≤◌, ◌==◌, ℕ, ◌+◌, List, [], ◌∷◌, ◌++◌, Option, Some, None, is_none, refl, ap, sym, ◌∙◌, arith, if◌then◌else◌, inl, inr}
use Rattle.std.specs.Prelude.{not, ◌&&◌, ◌||◌, zero, suc, length, nat_lt, slice_get, slice_index_or, ◌%◌, ◌-◌}
use Rattle.std.proofs.Math.Path.{fun_ext}
use Rattle.std.proofs.lemmas.Bool.Decides.{eqb_tells}
use Rattle.std.proofs.lemmas.Bool.{ne_eqb}
use Rattle.sftp_model.specs.declared.slot.Site.{Site}
use Rattle.sftp_model.specs.Slots.{fresh_site, has_grant}
use Rattle.session_model.specs.declared.event.Owner.{Owner}
use Rattle.session_model.specs.declared.event.Owner.TheVariants as owner
use Rattle.session_model.specs.declared.event.Event.TheVariants.{Submit, Send, Take, Cancel, End}
use Rattle.session_model.specs.declared.entry.Entry.{Entry}
use Rattle.session_model.specs.declared.entry.Entry.TheVariants as entry
use Rattle.session_model.specs.Readings.{
  AskedRequest,
  count_submitted,
  asked_at,
  bearer,
  answer,
  is_at,
  is_by,
  count_sent,
  own,
  count_ended,
  last_cancel,
  outcomes_of,
  outcomes_below,
  count_below,
  count_unanswered,
  count_awaited,
}
use Rattle.session_model.specs.Calls.{Setting, calls_added_to, calls_of, call_at, current, site_left, site_of, held_by, move_at, move_of}
use Rattle.session_model.specs.Grants.{
  is_granted,
  is_asked_by,
  is_unended_asker,
  holds,
  any_below,
  is_one_of,
  is_due,
  first_below,
  letting_go,
  next_due_at,
  closed_by,
  closes,
  is_close,
  with_closed,
  closed_grants,
  next_due,
}
use Rattle.session_model.specs.Served.{served_request, requests_of, requests_sent, is_query, those_below, waiting_places, bears_query, count_taken, picked_place}
use Rattle.session_model.specs.Turns.{is_full}
use Rattle.session_model.proofs.RequestLaws.{bearer_below}

-- ---- places in place of ids

-- the place that a request bears; where no request bears the id, one that none has
abbrev pub place_or : Option ℕ → ℕ → ℕ
place_or None beyond = beyond
place_or (Some place) beyond = place

abbrev pub place_of : List Entry → ℕ → ℕ
place_of past id = place_or (bearer past id) (count_submitted past)

abbrev pub placed : List Entry → List Entry
placed [] = []
placed (entry.Event (Submit by id r) ∷ past) = entry.Event (Submit by (count_submitted past) r) ∷ placed past
placed (entry.Event (Take id r) ∷ past) = entry.Event (Take (place_of past id) r) ∷ placed past
placed (e ∷ past) = e ∷ placed past

pub placed_asked : (past : List Entry) → count_submitted (placed past) ≡ count_submitted past
placed_asked [] = refl
placed_asked (entry.Event (Submit by id r) ∷ past) = λ i. placed_asked past i + 1
placed_asked (_ ∷ past) = placed_asked past

borne_below : (past : List Entry) (place : ℕ) → place < count_submitted past → bearer (placed past) place ≡ Some place
borne_below [] place lt = absurd (omega arith)
borne_below (entry.Event (Submit by id r) ∷ past) place lt =
    elim (eqb_tells (count_submitted past) place) [
      | inl t ↦ rw t.0 (ap (λ (n : ℕ). Some n) (placed_asked past ∙ t.1))
      | inr t ↦ rw t.0 (borne_below past place (let ne : count_submitted past ≡ place → ⊥ = t.1 in
          let le : place < count_submitted past + 1 = lt in omega arith))
    ]
borne_below (_ ∷ past) place lt = borne_below past place lt

borne_beyond : (past : List Entry) (place : ℕ) → count_submitted past ≤ place → bearer (placed past) place ≡ None
borne_beyond [] place le = refl
borne_beyond (entry.Event (Submit by id r) ∷ past) place le =
    let more : count_submitted past + 1 ≤ place = le in
    rw (ne_eqb (count_submitted past) place (λ e. absurd (omega arith))) (borne_beyond past place (omega arith))
borne_beyond (_ ∷ past) place le = borne_beyond past place le

placed_bearer : (past : List Entry) (id : ℕ) → bearer (placed past) (place_of past id) ≡ bearer past id
placed_bearer past id = by_place (bearer past id) refl
  where
    by_place : (b : Option ℕ) → bearer past id ≡ b → bearer (placed past) (place_or b (count_submitted past)) ≡ b
    by_place None e = borne_beyond past (count_submitted past) (omega arith)
    by_place (Some place) e = borne_below past place (bearer_below past id place e)

-- ---- requests and replies

placed_answer : (past : List Entry) (place : ℕ) → answer (placed past) place ≡ answer past place
placed_answer [] place = refl
placed_answer (entry.Event (Submit by id r) ∷ past) place = placed_answer past place
placed_answer (entry.Event (Take id r) ∷ past) place = λ i. if is_at (placed_bearer past id i) place then Some r else
    placed_answer past place i
placed_answer (_ ∷ past) place = placed_answer past place

pub placed_answers : (past : List Entry) → answer (placed past) ≡ answer past
placed_answers past = fun_ext (placed_answer past)

pub placed_sent : (past : List Entry) → count_sent (placed past) ≡ count_sent past
placed_sent [] = refl
placed_sent (entry.Event Send ∷ past) = placed_asked past
placed_sent (_ ∷ past) = placed_sent past

-- a request under its place
abbrev under : ℕ → Option AskedRequest → Option AskedRequest
under place None = None
under place (Some a) = Some (record { by = a.by; id = place; request = a.request })

placed_asked_at : (past : List Entry) (place : ℕ) → asked_at (placed past) place ≡ under place (asked_at past place)
placed_asked_at [] place = refl
placed_asked_at (entry.Event (Submit by id r) ∷ past) place =
    elim (eqb_tells place (count_submitted past)) [
      | inl t ↦ rw (placed_asked past, t.0) (λ i. Some (record { by = by; id = sym t.1 i; request = r }))
      | inr t ↦ rw (placed_asked past, t.0) (placed_asked_at past place)
    ]
placed_asked_at (_ ∷ past) place = placed_asked_at past place

pub placed_query : (past : List Entry) (place : ℕ) → is_query (asked_at (placed past) place)
    ≡ is_query (asked_at past place)
placed_query past place = ap is_query (placed_asked_at past place) ∙ same (asked_at past place)
  where
    same : (a : Option AskedRequest) → is_query (under place a) ≡ is_query a
    same None = refl
    same (Some a) = refl

pub placed_unanswered : (past : List Entry) → count_unanswered (placed past) ≡ count_unanswered past
placed_unanswered past = λ i. count_below (λ place. is_none (placed_answers past i place)) (placed_asked past i)

pub placed_awaited : (past : List Entry) → count_awaited (placed past) ≡ count_awaited past
placed_awaited past = λ i. count_below (λ place. is_none (placed_answers past i place)) (placed_sent past i)

pub placed_full : (s : Setting) (past : List Entry) → is_full s (placed past) ≡ is_full s past
placed_full s past = λ i. nat_lt s.max_pending (placed_asked past i - placed_sent past i)

-- ---- calls

pub placed_ended : (past : List Entry) (lane : ℕ) → count_ended (placed past) lane ≡ count_ended past lane
placed_ended [] lane = refl
placed_ended (entry.Event (End l call o) ∷ past) lane = λ i. if l == lane then placed_ended past lane i + 1 else
    placed_ended past lane i
placed_ended (_ ∷ past) lane = placed_ended past lane

placed_own : (past : List Entry) (lane call : ℕ) → own (placed past) lane call ≡ own past lane call
placed_own [] lane call = refl
placed_own (entry.Event (Submit by id r) ∷ past) lane call =
    λ i. if is_by by lane call then placed_own past lane call i ++ (placed_asked past i, r) ∷ [] else
    placed_own past lane call i
placed_own (_ ∷ past) lane call = placed_own past lane call

placed_added : (past : List Entry) (lane : ℕ) → calls_added_to (placed past) lane ≡ calls_added_to past lane
placed_added [] lane = refl
placed_added (entry.Added l c ∷ past) lane = λ i. if l == lane then placed_added past lane i ++ c ∷ [] else
    placed_added past lane i
placed_added (entry.Event Send ∷ past) lane = placed_added past lane
placed_added (_ ∷ past) lane = placed_added past lane

placed_cancel : (past : List Entry) → last_cancel (placed past) ≡ last_cancel past
placed_cancel [] = refl
placed_cancel (entry.Event (Cancel lane) ∷ past) = refl
placed_cancel (_ ∷ past) = refl

placed_call : (s : Setting) (past : List Entry) (lane call : ℕ) → call_at s (placed past) lane call
    ≡ call_at s past lane call
placed_call s past lane call = λ i. slice_get (calls_of (slice_get s.lanes lane) ++ placed_added past lane i) call

pub placed_current : (s : Setting) (past : List Entry) (lane : ℕ) → current s (placed past) lane ≡ current s past lane
placed_current s past lane = λ i. slice_get (calls_of (slice_get s.lanes lane) ++ placed_added past lane i)
    (placed_ended past lane i)

placed_site : (s : Setting) (past : List Entry) (lane : ℕ) → site_of s (placed past) lane ≡ site_of s past lane
placed_site s [] lane = refl
placed_site s (entry.Event (End l c o) ∷ past) lane =
    λ i. if l == lane then site_left (placed_call s past lane c i) (placed_cancel past i) (placed_site s past lane i)
    s.facts (placed_own past lane c i) (placed_answers past i)
    else placed_site s past lane i
placed_site s (entry.LetGo l ∷ past) lane = λ i. if l == lane then
    record { slots = fresh_site.slots; directory = (placed_site s past lane i).directory } else
    placed_site s past lane i
placed_site s (_ ∷ past) lane = placed_site s past lane

placed_own_now : (past : List Entry) (lane : ℕ) → own (placed past) lane (count_ended (placed past) lane)
    ≡ own past lane (count_ended past lane)
placed_own_now past lane = placed_own past lane (count_ended (placed past) lane)
    ∙ ap (own past lane) (placed_ended past lane)

pub placed_move : (s : Setting) (past : List Entry) (lane : ℕ) → move_of s (placed past) lane ≡ move_of s past lane
placed_move s past lane = λ i. move_at (placed_current s past lane i) (placed_site s past lane i) s.facts
    (placed_own_now past lane i) (placed_answers past i)

-- ---- grants

placed_asker : (past : List Entry) (lane place : ℕ) → is_unended_asker (placed past) lane place
    ≡ is_unended_asker past lane place
placed_asker past lane place = (λ i. is_asked_by (placed_asked_at past place i) lane (placed_ended past lane i))
    ∙ same (asked_at past place)
  where
    same : (a : Option AskedRequest) → is_asked_by (under place a) lane (count_ended past lane)
        ≡ is_asked_by a lane (count_ended past lane)
    same None = refl
    same (Some a) = refl

placed_holds : (s : Setting) (past : List Entry) (grant lane : ℕ) → holds s (placed past) grant lane
    ≡ holds s past grant lane
placed_holds s past grant lane =
    λ i. has_grant (held_by (placed_current s past lane i) (placed_own_now past lane i) (placed_site s past lane i))
    grant || placed_asker past lane grant i

placed_next_dues : (s : Setting) (past : List Entry) (gone : List (Option ℕ)) (place : ℕ)
    → is_due s (placed past) gone place ≡ is_due s past gone place
placed_next_dues s past gone place =
    λ i. is_granted (placed_answer past place i) && not (any_below (λ lane. placed_holds s past place lane i)
    (length s.lanes)) && not (is_one_of gone place)

next_due_same : (s : Setting) (past : List Entry) (gone : List (Option ℕ)) (site : Option Site)
    → next_due_at s (placed past) gone site ≡ next_due_at s past gone site
next_due_same s past gone None = λ i. first_below (λ place. placed_next_dues s past gone place i) (placed_asked past i)
next_due_same s past gone (Some site) = refl

placed_letting : (s : Setting) (past : List Entry) → letting_go s (placed past) ≡ letting_go s past
placed_letting s [] = refl
placed_letting s (entry.LetGo lane ∷ past) = λ i. Some (placed_site s past lane i)
placed_letting s (entry.Event (Submit owner.Close id r) ∷ past) = placed_letting s past
placed_letting s (_ ∷ past) = refl

placed_closes : (s : Setting) (past : List Entry) (gone : List (Option ℕ)) (by : Owner) → closes s (placed past) gone by
    ≡ closes s past gone by
placed_closes s past gone (owner.Call lane c) = λ i. closed_by (placed_call s past lane c i) (placed_site s past lane i)
placed_closes s past gone owner.Setup = refl
placed_closes s past gone owner.Close = ap (next_due_at s (placed past) gone) (placed_letting s past)
    ∙ next_due_same s past gone (letting_go s past)

placed_closed : (s : Setting) (past : List Entry) → closed_grants s (placed past) ≡ closed_grants s past
placed_closed s [] = refl
placed_closed s (entry.Event (Submit by id r) ∷ past) =
    let now = (λ i. closes s (placed past) (placed_closed s past i) by) ∙ placed_closes s past (closed_grants s past) by
    in
    λ i. with_closed (is_close r) (now i) (placed_closed s past i)
placed_closed s (_ ∷ past) = placed_closed s past

pub placed_next_due : (s : Setting) (past : List Entry) → next_due s (placed past) ≡ next_due s past
placed_next_due s past = (λ i. next_due_at s (placed past) (placed_closed s past i) (placed_letting s past i))
    ∙ next_due_same s past (closed_grants s past) (letting_go s past)

-- ---- picks

placed_waiting : (past : List Entry) → waiting_places (placed past) ≡ waiting_places past
placed_waiting past = λ i. those_below (λ place. is_none (placed_answer past place i)
    && not (placed_query past place i)) (placed_sent past i)

placed_bears : (past : List Entry) (id : ℕ) → bears_query (placed past) (bearer (placed past) (place_of past id))
    ≡ bears_query past (bearer past id)
placed_bears past id = ap (bears_query (placed past)) (placed_bearer past id) ∙ same (bearer past id)
  where
    same : (b : Option ℕ) → bears_query (placed past) b ≡ bears_query past b
    same None = refl
    same (Some place) = placed_query past place

placed_taken : (past : List Entry) → count_taken (placed past) ≡ count_taken past
placed_taken [] = refl
placed_taken (entry.Event (Take id r) ∷ past) = λ i. if placed_bears past id i then placed_taken past i else
    placed_taken past i + 1
placed_taken (_ ∷ past) = placed_taken past

pub placed_picked : (picks : List ℕ) (past : List Entry) → picked_place picks (placed past) ≡ picked_place picks past
placed_picked picks past = λ i. slice_get (placed_waiting past i)
    (slice_index_or picks (placed_taken past i) 0 % length (placed_waiting past i))

-- ---- what is sent, and what is reported

placed_requests : (past : List Entry) → requests_of (placed past) ≡ requests_of past
placed_requests [] = refl
placed_requests (entry.Event (Submit by id r) ∷ past) = λ i. placed_requests past i
    ++ served_request by (placed_asked past i) r
placed_requests (_ ∷ past) = placed_requests past

pub placed_requests_sent : (past : List Entry) → requests_sent (placed past) ≡ requests_sent past
placed_requests_sent [] = refl
placed_requests_sent (entry.Event Send ∷ past) = placed_requests past
placed_requests_sent (_ ∷ past) = placed_requests_sent past

placed_outcomes : (past : List Entry) (lane : ℕ) → outcomes_of (placed past) lane ≡ outcomes_of past lane
placed_outcomes [] lane = refl
placed_outcomes (entry.Event (End l call o) ∷ past) lane = λ i. if l == lane then placed_outcomes past lane i
    ++ o ∷ [] else placed_outcomes past lane i
placed_outcomes (_ ∷ past) lane = placed_outcomes past lane

pub placed_outcomes_below : (past : List Entry) (n : ℕ) → outcomes_below (placed past) n ≡ outcomes_below past n
placed_outcomes_below past zero = refl
placed_outcomes_below past (suc lane) = λ i. placed_outcomes_below past lane i ++ placed_outcomes past lane i ∷ []
