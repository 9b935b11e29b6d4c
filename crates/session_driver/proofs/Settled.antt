-- What the limits fixed stays fixed.
use Rattle.std.proofs.Common.{◌≡◌, ◌<◌, ℕ, arith, Bool, true, false, List, [], ◌∷◌, Option, Some, refl, ap, sym, ◌∙◌, subst, inl, inr}
use Rattle.sftp_model.specs.declared.config.Limits.{Limits}
use Rattle.sftp_model.specs.declared.reply.Reply.{Reply}
use Rattle.session_model.specs.declared.event.Event.TheVariants.{Submit, Send, Take, Cancel, End}
use Rattle.session_model.specs.declared.entry.Entry.{Entry}
use Rattle.session_model.specs.declared.entry.Entry.TheVariants as entry
use Rattle.session_model.specs.Readings.{answer, bearer}
use Rattle.session_model.specs.Calls.{Setting}
use Rattle.session_model.specs.Settings.{facts_of, limits_told}
use Rattle.sftp_model.specs.Lengths.{offers_limits}
use Rattle.session_model.specs.Journals.{IsNext}
use Rattle.session_model.specs.Runs.{OpensSession, limits_query_sent}
use Rattle.session_model.proofs.CallLaws.{next_take}
use Rattle.session_model.proofs.RequestLaws.{answer_stays, answer_new}
use Rattle.session_driver.specs.Session.{SessionInputs, IsFixed, IsLater}

next_answers : (s : Setting) (past : List Entry) (e : Entry) (p : ℕ) (q : Reply) → IsNext s past e → answer past p
    ≡ Some q → answer (e ∷ past) p ≡ Some q
next_answers s past (entry.Event (Take id r)) p q next is = answer_stays past id r q p (next_take s past id r next).0 is
next_answers s past (entry.Event (Submit by id r)) p q next is = is
next_answers s past (entry.Event Send) p q next is = is
next_answers s past (entry.Event (Cancel lane)) p q next is = is
next_answers s past (entry.Event (End lane call o)) p q next is = is
next_answers s past (entry.Added lane c) p q next is = is
next_answers s past (entry.LetGo lane) p q next is = is
next_answers s past (entry.Kept fault) p q next is = is

-- a reply stays as a journal goes on
later_answers : (s : Setting) (a b : List Entry) (p : ℕ) (q : Reply) → IsLater s a b → answer a p ≡ Some q → answer b p
    ≡ Some q
later_answers s a [] p q same is = subst (λ (w : List Entry). answer w p ≡ Some q) same is
later_answers s a (e ∷ past) p q (inl same) is = subst (λ (w : List Entry). answer w p ≡ Some q) same is
later_answers s a (e ∷ past) p q (inr l) is = next_answers s past e p q l.0 (later_answers s a past p q l.1 is)

-- the reply to the query for limits
answered : (past : List Entry) → OpensSession true past → (r : Reply) × (answer past 0 ≡ Some r)
answered past opens =
    let id = opens.0 in
    let r = opens.1.0 in
    let may = opens.1.1.1 in
    let below : may.0 < 1 = may.1.0.1 in
    let first : may.0 ≡ 0 = omega (arith, below) in
    let borne : bearer (limits_query_sent id) id ≡ Some 0 = may.1.0.0 ∙ ap (λ (n : ℕ). Some n) first in
    (r, ap (λ (w : List Entry). answer w 0) opens.1.1.2 ∙ answer_new (limits_query_sent id) id 0 r borne)

told_same : (l : Bool) (s : Setting) (a b : List Entry) → s.limits ≡ l → OpensSession s.limits a → IsLater s a b
    → limits_told l (answer a 0) ≡ limits_told l (answer b 0)
told_same false s a b is opens later = refl
told_same true s a b is opens later =
    let came = answered a (subst (λ (l : Bool). OpensSession l a) is opens) in
    ap (limits_told true) (came.1 ∙ sym (later_answers s a b 0 came.0 later came.1))

pub still_fixed : (given : SessionInputs) (version : Option Reply) (a b : List Entry) (s : Setting)
    → IsFixed given version a s
    → OpensSession s.limits a → IsLater s a b → IsFixed given version b s
still_fixed given version a b s fixed opens later =
    let extensions = fixed.0 in
    let same = told_same (offers_limits extensions) s a b (ap (λ (t : Setting). t.limits) fixed.1.1) opens later in
    let setting : Option Limits → Setting = λ limits. record {
      lanes = given.lanes;
      facts = facts_of given.options extensions limits;
      limits = offers_limits extensions;
      max_pending = given.options.max_pending_requests;
    } in
    (extensions, (fixed.1.0, fixed.1.1 ∙ ap setting same))
