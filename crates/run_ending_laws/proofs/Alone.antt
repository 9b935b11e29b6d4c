-- Journals in which no handle is granted, and what is read off them of one lane.
use Rattle.std.proofs.Common.{◌≡◌, ℕ, zero, suc, Bool, true, false, List, [], ◌∷◌, Some, None, if◌then◌else◌, refl, sym, ◌∙◌, subst, inl, inr}
use Rattle.std.specs.Prelude.{◌==◌, MatchBool}
use Rattle.sftp_model.specs.Answers.{is_handle, may_answer}
use Rattle.sftp_model.specs.declared.reply.Reply.{Reply}
use Rattle.sftp_model.specs.declared.request.Request.{Request}
use Rattle.plan_model.specs.Moves.{Answers, Own}
use Rattle.session_model.specs.declared.entry.Entry.{Entry}
use Rattle.session_model.specs.declared.entry.Entry.TheVariants as entry
use Rattle.session_model.specs.declared.event.Event.TheVariants.{Submit, Send, Take}
use Rattle.session_model.specs.declared.event.Owner.TheVariants as owner
use Rattle.session_model.specs.Calls.{Setting, calls_added_to}
use Rattle.session_model.specs.Grants.{closed_grants, first_below, is_grant, is_granted, is_due, letting_go, next_due}
use Rattle.session_model.specs.Readings.{AskedRequest, answer, count_submitted, asked_at, bearer, count_ended, is_at, own}
use Rattle.session_model.specs.Served.{requests_of}
use Rattle.session_model.specs.Turns.{ClosesTo, RulesTo, is_full}

-- ---- no handle is granted

-- no HANDLE may answer the request
abbrev pub IsQuiet : Request → Type 0
IsQuiet r = (y : Reply) → may_answer r y ≡ true → is_handle y ≡ false

-- no request asks for a handle, and no lane is let go or is given a call
abbrev pub GrantsNone : List Entry → Type 0
GrantsNone [] = Unit {0}
GrantsNone (entry.Event (Submit by id r) ∷ past) = IsQuiet r × GrantsNone past
GrantsNone (entry.Event (Take id r) ∷ past) = (is_handle r ≡ false) × GrantsNone past
GrantsNone (entry.LetGo lane ∷ past) = ⊥
GrantsNone (entry.Added lane c ∷ past) = ⊥
GrantsNone (_ ∷ past) = GrantsNone past

pub asked_quiet : (past : List Entry) (place : ℕ) (a : AskedRequest) → GrantsNone past → asked_at past place ≡ Some a
    → IsQuiet a.request
asked_quiet [] place a g e = absurd cc
asked_quiet (entry.Event (Submit by id r) ∷ past) place a g e =
    by_test (place == count_submitted past) e (λ older. asked_quiet past place a g.1 older)
  where
    by_test : (b : Bool) → (if b then Some (record { by = by; id = id; request = r }) else asked_at past place) ≡ Some a
        → (asked_at past place ≡ Some a → IsQuiet a.request) → IsQuiet a.request
    by_test true e again = (let same : r ≡ a.request = cc in subst IsQuiet same g.0)
    by_test false e again = again e
asked_quiet (entry.Event (Take id r) ∷ past) place a g e = asked_quiet past place a g.1 e
asked_quiet (entry.LetGo lane ∷ past) place a g e = absurd g
asked_quiet (entry.Added lane c ∷ past) place a g e = absurd g
asked_quiet (_ ∷ past) place a g e = asked_quiet past place a g e

grants_none : (past : List Entry) (place : ℕ) → GrantsNone past → is_grant past place ≡ false
grants_none [] place g = refl
grants_none (entry.Event (Take id r) ∷ past) place g = by_test (is_at (bearer past id) place)
    (grants_none past place g.1)
  where
    by_test : (b : Bool) → is_grant past place ≡ false → is_granted (if b then Some r else answer past place) ≡ false
    by_test true older = g.0
    by_test false older = older
grants_none (entry.Event (Submit by id r) ∷ past) place g = grants_none past place g.1
grants_none (entry.LetGo lane ∷ past) place g = absurd g
grants_none (entry.Added lane c ∷ past) place g = absurd g
grants_none (_ ∷ past) place g = grants_none past place g

lets_none_go : (s : Setting) (past : List Entry) → GrantsNone past → letting_go s past ≡ None
lets_none_go s [] g = refl
lets_none_go s (entry.Event (Submit owner.Close id r) ∷ past) g = lets_none_go s past g.1
lets_none_go s (entry.LetGo lane ∷ past) g = absurd g
lets_none_go s (_ ∷ past) g = refl

none_below : (f : ℕ → Bool) (n : ℕ) → ((k : ℕ) → f k ≡ false) → first_below f n ≡ None
none_below f zero none = refl
none_below f (suc n) none = rw (none_below f n none, none n) refl

-- nothing is to be closed
pub none_next_due : (s : Setting) (past : List Entry) → GrantsNone past → next_due s past ≡ None
none_next_due s past g =
    rw (lets_none_go s past g) (none_below (is_due s past (closed_grants s past)) (count_submitted past)
    (λ k. rw (grants_none past k g) refl))

pub none_added : (past : List Entry) (lane : ℕ) → GrantsNone past → calls_added_to past lane ≡ []
none_added [] lane g = refl
none_added (entry.Event (Submit by id r) ∷ past) lane g = none_added past lane g.1
none_added (entry.Event (Take id r) ∷ past) lane g = none_added past lane g.1
none_added (entry.LetGo l ∷ past) lane g = absurd g
none_added (entry.Added l c ∷ past) lane g = absurd g
none_added (_ ∷ past) lane g = none_added past lane g

-- ---- what follows an event

-- where nothing is to be closed, no CLOSE follows
closes_same : (s : Setting) (before now : List Entry) → next_due s before ≡ None → ClosesTo s before now → now ≡ before
closes_same s before [] none e = sym e
closes_same s before (e ∷ past) none (inl same) = sym same
closes_same s before (e ∷ past) none (inr (due, rest)) =
    absurd (let same : past ≡ before = closes_same s before past none rest in
    let some : next_due s before ≡ Some due.0 = subst (λ (p : List Entry). next_due s p ≡ Some due.0) same due.1.0 in
    let both : None ≡ Some due.0 = sym none ∙ some in cc)

-- a Send at most
pub through : (P : List Entry → Type 0) (s : Setting) (before now : List Entry)
    → ((p : List Entry) → P p → P (entry.Event Send ∷ p)) → next_due s before ≡ None
    → RulesTo s before now → P before → P now
through P s before now sends none to p =
    let same : to.0 ≡ before = closes_same s before to.0 none to.1.0.0 in
    by_test (is_full s to.0) to.1.1 (subst P (sym same) p)
  where
    by_test : (b : Bool) → MatchBool b (now ≡ entry.Event Send ∷ to.0) (now ≡ to.0) → P to.0 → P now
    by_test true e mid = subst P (sym e) (sends to.0 mid)
    by_test false e mid = subst P (sym e) mid

-- ---- what is read of one lane

pub record Told : Type 0 where
  pub owns : ℕ → Own
  pub done : ℕ
  pub count : ℕ
  pub answers : Answers
  pub requests : Own

abbrev pub told : ℕ → List Entry → Told
told lane past = record {
  owns = own past lane;
  done = count_ended past lane;
  count = count_submitted past;
  answers = answer past;
  requests = requests_of past;
}
