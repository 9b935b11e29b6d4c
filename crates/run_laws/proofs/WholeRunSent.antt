-- Where each request has its reply, as behind a whole run, all were sent.
use Rattle.std.proofs.Common.{
  ◌≡◌,
  ◌≢◌,
  ◌<◌,
  ◌≤◌,
  ◌+◌,
  ℕ,
  zero,
  suc,
  Bool,
  true,
  false,
  List,
  [],
  ◌∷◌,
  Option,
  Some,
  None,
  is_none,
  if◌then◌else◌,
  refl,
  ap,
  sym,
  ◌∙◌,
  arith,
  inl,
  inr,
}
use Rattle.std.proofs.lemmas.Bool.{cases_lt}
use Rattle.std.proofs.lemmas.Bool.Decides.{eqb_tells}
use Rattle.sftp_model.specs.declared.reply.Reply.{Reply}
use Rattle.plan_model.specs.Moves.{Own}
use Rattle.session_model.specs.declared.entry.Entry.{Entry}
use Rattle.session_model.specs.declared.entry.Entry.TheVariants as entry
use Rattle.session_model.specs.declared.event.Event.TheVariants.{Send, Take}
use Rattle.session_model.specs.declared.turn.Turn.{Turn}
use Rattle.session_model.specs.Calls.{Setting}
use Rattle.session_model.specs.Journals.{IsJournal}
use Rattle.session_model.specs.Readings.{answer, count_submitted, count_below, own, count_sent, count_unanswered}
use Rattle.session_model.specs.Runs.{IsRun}
use Rattle.session_model.proofs.CallLaws.{next_take}
use Rattle.session_model.proofs.OverLaws.{runs_are_journals, runs_are_over}
use Rattle.session_model.proofs.RequestLaws.{answer_beyond, answer_other}
use Rattle.run_laws.specs.InJournals.{AreBelow}
use Rattle.run_laws.proofs.OwnLaws.{own_listed}
use Rattle.run_laws.proofs.SentLaws.{AreKnown}

some_below : (past : List Entry) (place n : ℕ) (q : Reply) → answer past place ≡ Some q → count_submitted past ≤ n
    → place < n
some_below past place n q got le = by_test (answer past place) refl got
  where
    by_test : (o : Option Reply) → answer past place ≡ o → o ≡ Some q → place < n
    by_test None is e = absurd cc
    by_test (Some r) is e = elim (cases_lt place n) [
      | inl lt ↦ lt
      | inr beyond ↦
          absurd (let none : answer past place ≡ None = answer_beyond past place (omega (arith, beyond, le)) in
          let both : None ≡ Some r = sym none ∙ is in cc)
    ]

-- a request that was answered was sent
pub answered_sent : (s : Setting) (past : List Entry) (place : ℕ) (q : Reply) → IsJournal s past → answer past place
    ≡ Some q → place < count_sent past
answered_sent s [] place q j got = absurd cc
answered_sent s (entry.Event Send ∷ past) place q j got = some_below past place (count_submitted past) q got
    (omega arith)
answered_sent s (entry.Event (Take id r) ∷ past) place q j got =
    let may = (next_take s past id r j.0).0 in
    elim (eqb_tells may.0 place) [
      | inl t ↦ (let lt : may.0 < count_sent past = may.1.0.1 in let same : may.0 ≡ place = t.1 in
          omega (arith, lt, same))
      | inr t ↦ answered_sent s past place q j.1 (sym (answer_other past id may.0 place r may.1.0.0 t.1) ∙ got)
    ]
answered_sent s (_ ∷ past) place q j got = answered_sent s past place q j.1 got

none_counts : (f : ℕ → Bool) (n place : ℕ) → count_below f n ≡ 0 → place < n → f place ≡ false
none_counts f zero place e lt = absurd (omega (arith, lt))
none_counts f (suc n) place e lt = by_test (f n) refl e (λ none below. none_counts f n place none below)
  where
    by_test : (b : Bool) → f n ≡ b → (if b then 1 else 0) + count_below f n ≡ 0
        → (count_below f n ≡ 0 → place < n → f place ≡ false) → f place ≡ false
    by_test true is e again = absurd (omega (arith, e))
    by_test false is e again = elim (eqb_tells place n) [
      | inl t ↦ ap f t.1 ∙ is
      | inr t ↦
          again (omega (arith, e)) (let ne : place ≢ n = t.1 in omega (arith, ne, lt))
    ]

is_answered : (o : Option Reply) → is_none o ≡ false → (q : Reply) × (o ≡ Some q)
is_answered None e = absurd cc
is_answered (Some q) e = (q, refl)

sent_all : (s : Setting) (past : List Entry) (n : ℕ) (requests : Own) → IsJournal s past → count_unanswered past ≡ 0
    → n ≤ count_submitted past → AreKnown past n requests → AreBelow (count_sent past) requests
sent_all s past n [] j none le known = tt
sent_all s past n (r ∷ requests) j none le known =
    let lt : r.0 < n = known.0.0 in
    let got = is_answered (answer past r.0) (none_counts (λ place. is_none (answer past place)) (count_submitted past)
    r.0 none (omega (arith, lt, le))) in
    (answered_sent s past r.0 got.0 j got.1, sent_all s past n requests j none le known.1)

-- where each request has its reply, each was sent
pub answered_run_sent : (s : Setting) (past : List Entry) (lane call : ℕ) → IsJournal s past → count_unanswered past ≡ 0
    → AreBelow (count_sent past) (own past lane call)
answered_run_sent s past lane call j none = sent_all s past (count_submitted past) (own past lane call) j none
    (omega arith) (own_listed past lane call).1

pub whole_run_sent : (s : Setting) (turns : List Turn) (past : List Entry) (lane call : ℕ) → IsRun s turns past
    → AreBelow (count_sent past) (own past lane call)
whole_run_sent s turns past lane call run = answered_run_sent s past lane call (runs_are_journals s turns past run)
    (runs_are_over s turns past run).2
