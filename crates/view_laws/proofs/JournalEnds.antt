-- The calls of a journal of one lane that a file machine serves did as the files say.
use Rattle.std.proofs.Common.{◌≡◌, ◌<◌, ◌+◌, ℕ, true, false, List, [], ◌∷◌, ◌++◌, Option, Some, None, is_none, refl, ap, sym, ◌∙◌, subst, arith, inl, inr}
use Rattle.std.proofs.lemmas.Bool.Decides.{eqb_tells}
use Rattle.std.proofs.lemmas.List.{append-nil, append_assoc}
use Rattle.sftp_model.specs.declared.reply.Reply.{Reply}
use Rattle.sftp_model.specs.declared.request.Request.{Request}
use Rattle.plan_model.specs.Moves.{Own}
use Rattle.session_model.specs.Calls.{Setting, current}
use Rattle.session_model.specs.Journals.{IsJournal}
use Rattle.session_model.specs.Readings.{answer, count_submitted, last_cancel, count_sent, count_unanswered, was_let_go}
use Rattle.session_model.specs.Served.{served_request, requests_of, requests_sent}
use Rattle.session_model.specs.declared.entry.Entry.{Entry}
use Rattle.session_model.specs.declared.entry.Entry.TheVariants as entry
use Rattle.session_model.specs.declared.event.Event.TheVariants.{Cancel, End, Send, Submit}
use Rattle.session_model.proofs.CountLaws.{count_none}
use Rattle.session_model.proofs.HolderLaws.{ending, may_of}
use Rattle.session_model.proofs.RequestLaws.{sent_asked}
use Rattle.run_laws.specs.Steps.{Step, asked_in}
use Rattle.run_laws.proofs.WholeRunSent.{answered_sent}
use Rattle.view_model.specs.Uncancelled.{IsUncancelled}

-- ---- requests

-- what is asked later comes after
pub requests_grow : (more q : List Entry) → (later : Own) × (requests_of (more ++ q) ≡ requests_of q ++ later)
requests_grow [] q = ([], sym (append-nil (requests_of q)))
requests_grow (entry.Event (Submit by id r) ∷ more) q =
    let old = requests_grow more q in
    let new : Own = served_request by (count_submitted (more ++ q)) r in
    (old.0 ++ new, ap (λ (o : Own). o ++ new) old.1 ∙ append_assoc (requests_of q) old.0 new)
requests_grow (_ ∷ more) q = requests_grow more q

-- steps cut where their requests are
pub record Cut (steps : List Step) (a : Own) : Type 0 where
  pub xs : List Step
  pub ys : List Step
  pub split : steps ≡ xs ++ ys
  pub asks : asked_in xs ≡ a

pub cut_steps : (steps : List Step) (a b : Own) → asked_in steps ≡ a ++ b → Cut steps a
cut_steps steps [] b e = record { xs = []; ys = steps; split = refl; asks = refl }
cut_steps [] (x ∷ a) b e = absurd cc
cut_steps (st ∷ steps) (x ∷ a) b e =
    let rest = cut_steps steps a b (tail_is e) in
    record {
      xs = st ∷ rest.xs;
      ys = rest.ys;
      split = ap (λ (l : List Step). st ∷ l) rest.split;
      asks =
          (λ i. head_is e i ∷ rest.asks i);
    }
  where
    tail_is : asked_in (st ∷ steps) ≡ (x ∷ a) ++ b → asked_in steps ≡ a ++ b
    tail_is e = ap tail e
      where
        tail : Own → Own
        tail [] = []
        tail (y ∷ ys) = ys

    head_is : asked_in (st ∷ steps) ≡ (x ∷ a) ++ b → (let p : ℕ × Request = (st.place, st.request) in p) ≡ x
    head_is e = ap (head x) e
      where
        head : ℕ × Request → Own → ℕ × Request
        head d [] = d
        head d (y ∷ ys) = y

-- all was sent where nothing is unanswered
pub sent_whole : (past : List Entry) → count_sent past ≡ count_submitted past → requests_sent past ≡ requests_of past
sent_whole [] e = refl
sent_whole (entry.Event Send ∷ past) e = refl
sent_whole (entry.Event (Submit by id r) ∷ past) e = absurd (let le = sent_asked past in let same : count_sent past
    ≡ count_submitted past + 1 = e in omega (arith, le, same))
sent_whole (_ ∷ past) e = sent_whole past e

none_unsent : (s : Setting) (past : List Entry) → IsJournal s past → count_unanswered past ≡ 0 → count_sent past
    ≡ count_submitted past
none_unsent s past j none = by_order (count_sent past) refl
  where
    by_answer : (o : Option Reply) → answer past (count_sent past) ≡ o → is_none o ≡ false
        → count_sent past < count_sent past
    by_answer None is e = absurd cc
    by_answer (Some x) is e = answered_sent s past (count_sent past) x j is

    by_order : (n : ℕ) → count_sent past ≡ n → count_sent past ≡ count_submitted past
    by_order n is =
        let le = sent_asked past in
        elim (eqb_tells (count_sent past) (count_submitted past)) [
          | inl t ↦ t.1
          | inr t ↦ absurd (let ne = t.1 in
              let answered = count_none (λ place. is_none (answer past place)) (count_submitted past) none
              (count_sent past) (omega (arith, le, ne)) in
              let lt = by_answer (answer past (count_sent past)) refl answered in omega (arith, lt))
        ]

pub all_sent : (s : Setting) (past : List Entry) → IsJournal s past → count_unanswered past ≡ 0 → requests_sent past
    ≡ requests_of past
all_sent s past j none = sent_whole past (none_unsent s past j none)

-- ---- a lane that was let go

pub let_go_idle : (s : Setting) (past : List Entry) → IsJournal s past → was_let_go past 0 ≡ true → current s past 0
    ≡ None
let_go_idle s [] j h = absurd cc
let_go_idle s (entry.Event (End l k o) ∷ past) j h =
    let old = let_go_idle s past j.1 h in
    elim (eqb_tells l 0) [
      | inl t ↦ absurd ((ending s past l k o j).some (subst (λ (n : ℕ). current s past n ≡ None) (sym t.1) old))
      | inr t ↦ rw t.0 old
    ]
let_go_idle s (entry.Added l c ∷ past) j h =
    let may = may_of s past (entry.Added l c) j.0 (λ k m. cc (m.1.1)) (λ k same. cc same) in
    elim (eqb_tells l 0) [
      | inl t ↦ absurd (let held : was_let_go past 0 ≡ false = ap (was_let_go past) (sym t.1) ∙ may.1 in let both : true
          ≡ false = sym h ∙ held in cc)
      | inr t ↦ rw t.0 (let_go_idle s past j.1 h)
    ]
let_go_idle s (entry.LetGo l ∷ past) j h =
    let may = may_of s past (entry.LetGo l) j.0 (λ k m. cc (m.1.1)) (λ k same. cc same) in
    elim (eqb_tells l 0) [
      | inl t ↦ subst (λ (n : ℕ). current s past n ≡ None) t.1 may.1
      | inr t ↦ let_go_idle s past j.1 (rw t.0 at h)
    ]
let_go_idle s (_ ∷ past) j h = let_go_idle s past j.1 h

pub calm : (past : List Entry) → IsUncancelled past → last_cancel past ≡ None
calm [] u = refl
calm (entry.Event (Cancel lane) ∷ past) u = absurd u
calm (_ ∷ past) u = refl

pub uncancelled_before : (e : Entry) (past : List Entry) → IsUncancelled (e ∷ past) → IsUncancelled past
uncancelled_before (entry.Event (Cancel lane)) past u = absurd u
uncancelled_before (entry.Event (Send)) past u = u
uncancelled_before other past u = u
