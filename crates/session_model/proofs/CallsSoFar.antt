-- The calls of a lane go by their plans: each of a call's requests is what its plan asked by the replies that had come
-- by then, whatever the call.
use Rattle.std.proofs.Common.{
  append_assoc,
  ◌≡◌,
  ◌<◌,
  ◌==◌,
  ℕ,
  ◌+◌,
  Bool,
  true,
  false,
  List,
  [],
  ◌∷◌,
  ◌++◌,
  Option,
  Some,
  None,
  refl,
  ap,
  sym,
  ◌∙◌,
  subst,
  arith,
  if◌then◌else◌,
  inl,
  inr,
}
use Rattle.std.specs.Prelude.{◌⊎◌, slice_get, IfSome}
use Rattle.std.proofs.lemmas.Bool.{eq-eqb, or_left, cases_lt}
use Rattle.std.proofs.lemmas.Bool.Decides.{eqb_tells}
use Rattle.sftp_model.specs.declared.request.Request.{Request}
use Rattle.sftp_model.specs.declared.reply.Reply.{Reply}
use Rattle.sftp_model.specs.declared.slot.Move.TheVariants.{Ask}
use Rattle.sftp_model.specs.Answers.{MayAnswer, may_answer}
use Rattle.plan_model.specs.Moves.{Answers, Own, Plan}
use Rattle.plan_model.specs.OwnRequests.{ExtendsAnswers, oldest_first, AreAsked, MayBeAnswered}
use Rattle.plan_model.specs.declared.call.Call.{Call}
use Rattle.session_model.specs.declared.event.Owner.{Owner}
use Rattle.session_model.specs.declared.event.Owner.TheVariants as owner
use Rattle.session_model.specs.declared.event.Event.TheVariants.{Submit, Take, End}
use Rattle.session_model.specs.declared.entry.Entry.{Entry}
use Rattle.session_model.specs.declared.entry.Entry.TheVariants as entry
use Rattle.session_model.specs.Readings.{AskedRequest, count_submitted, asked_at, answer, is_by, own, count_ended}
use Rattle.session_model.specs.Calls.{Setting, calls_added_to, calls_of, current, site_of, move_at, move_of, GoesByPlan}
use Rattle.session_model.specs.Journals.{IsJournal, MayReply}
use Rattle.session_model.proofs.AllClosedLaws.{asker_called}
use Rattle.session_model.proofs.CallLaws.{next_submit, next_take, own_submit, own_other, own_fresh, ended_end, has_place}
use Rattle.session_model.proofs.HolderLaws.{may_of, got_more, own_asked}
use Rattle.session_model.proofs.RequestLaws.{asked_beyond, asked_new, asked_other, answer_beyond, answer_new, answer_other, answer_stays}
use Rattle.plan_model.specs.CallPlans.{next}

-- ---- where requests stand

-- each of these requests stands at its place in the journal
abbrev Stand : List Entry → Own → Type 0
Stand past [] = Unit {0}
Stand past (a ∷ requests) = ((x : AskedRequest) × ((asked_at past a.0 ≡ Some x) × (x.request ≡ a.1)))
    × Stand past requests

asked_below : (past : List Entry) (place : ℕ) (x : AskedRequest) → asked_at past place ≡ Some x
    → place < count_submitted past
asked_below past place x is = elim (cases_lt place (count_submitted past))
    [ inl lt ↦ lt | inr le ↦ absurd (let none : asked_at past place ≡ None = asked_beyond past place le in cc) ]

stand_submit : (past : List Entry) (by : Owner) (id : ℕ) (r : Request) (requests : Own) → Stand past requests
    → Stand (entry.Event (Submit by id r) ∷ past) requests
stand_submit past by id r [] st = tt
stand_submit past by id r (a ∷ requests) st = (
  (st.0.0, (asked_other past by id a.0 r (asked_below past a.0 st.0.0 st.0.1.0) ∙ st.0.1.0, st.0.1.1)),
  stand_submit past by id r requests st.1,
)

-- ---- replies

-- a reply that was taken may answer its request
pub reply_may : (s : Setting) (past : List Entry) (place : ℕ) (q : Reply) (x : AskedRequest) → IsJournal s past
    → answer past place ≡ Some q → asked_at past place ≡ Some x → may_answer x.request q ≡ true
reply_may s [] place q x j got is = absurd cc
reply_may s (entry.Event (Submit by id r) ∷ past) place q x j got is =
    elim (eqb_tells place (count_submitted past)) [
      | inl t ↦ absurd (let none : answer past place ≡ None = answer_beyond past place (omega (arith, t.1)) in cc)
      | inr t ↦ reply_may s past place q x j.1 got (rw t.0 at is)
    ]
reply_may s (entry.Event (Take id r) ∷ past) place q x j got is =
    let may = (next_take s past id r j.0).0 in
    elim (eqb_tells may.0 place) [
      | inl t ↦ (let here : answer (entry.Event (Take id r) ∷ past) place ≡ Some r =
          ap (answer (entry.Event (Take id r) ∷ past)) (sym t.1) ∙ answer_new past id may.0 r may.1.0.0 in
          let same : r ≡ q = cc in
          let replies : MayReply (Some x) r = subst (λ (o : Option AskedRequest). MayReply o r)
          (ap (asked_at past) t.1 ∙ is) may.1.1 in
          ap (may_answer x.request) (sym same) ∙ replies.0)
      | inr t ↦ reply_may s past place q x j.1 (sym (answer_other past id may.0 place r may.1.0.0 t.1) ∙ got) is
    ]
reply_may s (_ ∷ past) place q x j got is = reply_may s past place q x j.1 got is

may_answered : (s : Setting) (past : List Entry) (requests : Own) → IsJournal s past → Stand past requests
    → MayBeAnswered requests (answer past)
may_answered s past [] j st = tt
may_answered s past (a ∷ requests) j st = (by_answer (answer past a.0) refl, may_answered s past requests j st.1)
  where
    by_answer : (o : Option Reply) → answer past a.0 ≡ o → IfSome o (MayAnswer a.1)
    by_answer None is = tt
    by_answer (Some q) is = subst (λ (r : Request). MayAnswer r q) st.0.1.1
        (reply_may s past a.0 q st.0.0 j is st.0.1.0)

-- ---- requests

-- what was asked by some replies was asked, whatever replies came later
asked_later : (plan : Plan) (requests : Own) (before after : Answers) → ExtendsAnswers before after
    → AreAsked plan requests before → AreAsked plan requests after
asked_later plan [] before after more a = tt
asked_later plan (a ∷ requests) before after more (first, earlier, is, none, stays) =
    (first, earlier, is, none, λ place q got. more place q (stays place q got))

-- a lane without a call has no requests of one
unasked : (s : Setting) (past : List Entry) (lane : ℕ) → IsJournal s past → current s past lane ≡ None
    → own past lane (count_ended past lane) ≡ []
unasked s past lane j none = by_own (own past lane (count_ended past lane)) refl
  where
    by_own : (o : Own) → own past lane (count_ended past lane) ≡ o → o ≡ []
    by_own [] is = refl
    by_own (a ∷ later) is =
        absurd (asker_called s past lane (count_ended past lane) a.0 j
        (own_asked past lane (count_ended past lane) a.0 (ap (λ (o : Own). has_place o a.0) is
        ∙ or_left (a.0 == a.0) _ (eq-eqb a.0 a.0 refl))) none)

-- the current call's requests, the newest first: its plan asked each, and each stands at its place
abbrev IsSoFar : Setting → List Entry → ℕ → Type 0
IsSoFar s past lane = (c : Call) → current s past lane ≡ Some c → (requests : Own)
    × ((oldest_first requests ≡ own past lane (count_ended past lane))
    × (AreAsked (next c (site_of s past lane) s.facts) requests (answer past) × Stand past requests))

-- a call without requests is one so far
bare_so_far : (s : Setting) (past : List Entry) (lane : ℕ) → own past lane (count_ended past lane) ≡ []
    → IsSoFar s past lane
bare_so_far s past lane none c is = ([], (sym none, (tt, tt)))

-- the call's next request
own_so_far : (s : Setting) (past : List Entry) (lane id : ℕ) (r : Request) → move_of s past lane ≡ Some (Ask r)
    → IsSoFar s past lane → IsSoFar s (entry.Event (Submit (owner.Call lane (count_ended past lane)) id r) ∷ past) lane
own_so_far s past lane id r move old c is =
    let n : ℕ = count_ended past lane in
    let before = old c is in
    let moves : move_at (Some c) (site_of s past lane) s.facts (own past lane n) (answer past) ≡ Some (Ask r) =
    ap (λ (x : Option Call). move_at x (site_of s past lane) s.facts (own past lane n) (answer past)) (sym is)
    ∙ move in
    let asks : next c (site_of s past lane) s.facts (own past lane n) (answer past) ≡ Ask r = cc moves in (
      (count_submitted past, r) ∷ before.0,
      (
        ap (λ (o : Own). o ++ (count_submitted past, r) ∷ []) before.1.0 ∙ sym (own_submit past lane n id r),
        (
          (
            answer past,
            before.1.1.0,
            subst (λ (o : Own). next c (site_of s past lane) s.facts o (answer past) ≡ Ask r)
                (sym before.1.0) asks,
            answer_beyond past (count_submitted past) (omega arith),
            λ place q got. got,
          ),
          (
            (record { by = owner.Call lane n; id = id; request = r }, (asked_new past (owner.Call lane n) id r, refl)),
            stand_submit past (owner.Call lane n) id r before.0 before.1.1.1,
          ),
        ),
      ),
    )

-- another's request
other_so_far : (s : Setting) (past : List Entry) (by : Owner) (id : ℕ) (r : Request) (lane : ℕ)
    → is_by by lane (count_ended past lane) ≡ false → IsSoFar s past lane
    → IsSoFar s (entry.Event (Submit by id r) ∷ past) lane
other_so_far s past by id r lane e old c is =
    let before = old c is in (
      before.0,
      (
        before.1.0 ∙ sym (own_other past by id r lane (count_ended past lane) e),
        (before.1.1.0, stand_submit past by id r before.0 before.1.1.1),
      ),
    )

-- a call that is added is the current one where there was none
got_added : (xs ys : List Call) (c : Call) (b : Bool) (n : ℕ)
    → (slice_get (xs ++ (if b then ys ++ c ∷ [] else ys)) n ≡ slice_get (xs ++ ys) n) ⊎ (slice_get (xs ++ ys) n ≡ None)
got_added xs ys c false n = inl refl
got_added xs ys c true n =
    elim (got_more (xs ++ ys) (c ∷ []) n) [
      | inl same ↦ inl (ap (λ calls. slice_get calls n)
          (sym (append_assoc xs ys (c ∷ []))) ∙ same)
      | inr none ↦ inr none
    ]

so_far : (s : Setting) (past : List Entry) (lane : ℕ) → IsJournal s past → IsSoFar s past lane
so_far s [] lane j = bare_so_far s [] lane refl
so_far s (entry.Event (Submit (owner.Call l n) id r) ∷ past) lane j =
    let may = next_submit s past l n id r j.0 in
    elim (eqb_tells l lane) [
      | inl t ↦ subst (λ (k : ℕ). IsSoFar s (entry.Event (Submit (owner.Call l n) id r) ∷ past) k) t.1
          (subst (λ (k : ℕ). IsSoFar s (entry.Event (Submit (owner.Call l k) id r) ∷ past) l) (sym may.0)
          (own_so_far s past l id r may.1 (so_far s past l j.1)))
      | inr t ↦ other_so_far s past (owner.Call l n) id r lane (rw t.0 refl) (so_far s past lane j.1)
    ]
so_far s (entry.Event (Submit owner.Setup id r) ∷ past) lane j =
    other_so_far s past owner.Setup id r lane refl (so_far s past lane j.1)
so_far s (entry.Event (Submit owner.Close id r) ∷ past) lane j =
    other_so_far s past owner.Close id r lane refl (so_far s past lane j.1)
so_far s (entry.Event (Take id r) ∷ past) lane j = λ c is.
    let old = so_far s past lane j.1 c is in
    let more : ExtendsAnswers (answer past) (answer (entry.Event (Take id r) ∷ past)) =
    λ place q got. answer_stays past id r q place (next_take s past id r j.0).0 got in (
      old.0,
      (
        old.1.0,
        (
          asked_later (next c (site_of s past lane) s.facts) old.0 (answer past)
              (answer (entry.Event (Take id r) ∷ past)) more old.1.1.0,
          old.1.1.1,
        ),
      ),
    )
so_far s (entry.Event (End l n o) ∷ past) lane j =
    elim (eqb_tells l lane) [
      | inl t ↦ subst (λ (k : ℕ). IsSoFar s (entry.Event (End l n o) ∷ past) k) t.1
          (bare_so_far s (entry.Event (End l n o) ∷ past) l (ap (own past l) (ended_end past l n o)
          ∙ own_fresh s past l (count_ended past l + 1) j.1 (omega arith)))
      | inr t ↦ rw t.0 (so_far s past lane j.1)
    ]
so_far s (entry.Added l d ∷ past) lane j = λ c is.
    elim (got_added (calls_of (slice_get s.lanes lane)) (calls_added_to past lane) d (l == lane)
    (count_ended past lane)) [
      | inl same ↦ so_far s past lane j.1 c (sym same ∙ is)
      | inr none ↦ bare_so_far s (entry.Added l d ∷ past) lane (unasked s past lane j.1 none) c is
    ]
so_far s (entry.LetGo l ∷ past) lane j =
    elim (eqb_tells l lane) [
      | inl t ↦ λ c is. absurd (let none : current s past lane ≡ None =
          subst (λ (k : ℕ). current s past k ≡ None) t.1 (may_of s past (entry.LetGo l) j.0 (λ g m. cc (m.1.1))
          (λ k same. cc same)).1 in cc)
      | inr t ↦ rw t.0 (so_far s past lane j.1)
    ]
so_far s (_ ∷ past) lane j = so_far s past lane j.1

-- in a run so far the current call of a lane is a call so far
pub calls_so_far : (s : Setting) (past : List Entry) (lane : ℕ) (c : Call) → IsJournal s past → current s past lane
    ≡ Some c → GoesByPlan s past lane c
calls_so_far s past lane c j is =
    let k = so_far s past lane j c is in
    record {
      requests = k.0;
      are = k.1.0;
      so_far = record {
        asked = k.1.1.0;
        answered =
            may_answered s past k.0 j k.1.1.1;
      };
    }
