-- What VERSION and the limits fixed stays fixed, and so do the calls of the lanes where none is added.
use Rattle.std.proofs.Common.{◌≡◌, ℕ, Bool, true, false, List, [], ◌∷◌, ◌++◌, Option, Some, None, refl, ap, sym, ◌∙◌, subst, inl, inr}
use Rattle.std.specs.Prelude.{length, slice_get}
use Rattle.sftp_model.specs.declared.config.Limits.{Limits}
use Rattle.sftp_model.specs.declared.error.Fault.{Fault}
use Rattle.sftp_model.specs.declared.reply.Reply.{Reply}
use Rattle.plan_model.specs.declared.call.Call.{Call}
use Rattle.plan_model.specs.declared.call.Lane.{Lane}
use Rattle.plan_model.specs.Lanes.{are_ok}
use Rattle.sftp_model.specs.Lengths.{offers_limits}
use Rattle.session_model.specs.declared.event.Event.TheVariants.{Submit, Send, Take, Cancel, End}
use Rattle.session_model.specs.declared.entry.Entry.{Entry}
use Rattle.session_model.specs.declared.entry.Entry.TheVariants as entry
use Rattle.session_model.specs.Calls.{Setting, calls_added_to, calls_of}
use Rattle.session_model.specs.Journals.{IsNext, is_opened, is_session_open}
use Rattle.session_model.specs.Readings.{answer}
use Rattle.session_model.specs.Settings.{facts_of, limits_told}
use Rattle.session_model.proofs.CallLaws.{next_take}
use Rattle.session_model.proofs.RequestLaws.{answer_stays}
use Rattle.session_driver.specs.Session.{SessionInputs, IsFixed, IsLater}
use Rattle.session_work.specs.declared.lanes.Lanes.{Lanes}
use Rattle.session_work.specs.SoFar.{kept_past, refused_past}
use Rattle.session_work.specs.Working.{past_of}
use Rattle.sftp_lanes.specs.Seen.{HasCalls}

next_answers : (s : Setting) (past : List Entry) (e : Entry) (p : ℕ) (q : Reply) → IsNext s past e → answer past p
    ≡ Some q
    → answer (e ∷ past) p ≡ Some q
next_answers s past (entry.Event (Take id r)) p q next is = answer_stays past id r q p (next_take s past id r next).0 is
next_answers s past (entry.Event (Submit by id r)) p q next is = is
next_answers s past (entry.Event Send) p q next is = is
next_answers s past (entry.Event (Cancel lane)) p q next is = is
next_answers s past (entry.Event (End lane call o)) p q next is = is
next_answers s past (entry.Added lane c) p q next is = is
next_answers s past (entry.LetGo lane) p q next is = is
next_answers s past (entry.Kept fault) p q next is = is

-- a reply stays as a journal goes on
later_answers : (s : Setting) (a b : List Entry) (p : ℕ) (q : Reply) → IsLater s a b → answer a p ≡ Some q → answer b p
    ≡ Some q
later_answers s a [] p q same is = subst (λ (w : List Entry). answer w p ≡ Some q) same is
later_answers s a (e ∷ past) p q (inl same) is = subst (λ (w : List Entry). answer w p ≡ Some q) same is
later_answers s a (e ∷ past) p q (inr l) is = next_answers s past e p q l.0 (later_answers s a past p q l.1 is)

told_on : (l : Bool) (x y : Option Reply) → is_opened l x ≡ true → ((r : Reply) → x ≡ Some r → y ≡ Some r)
    → limits_told l x ≡ limits_told l y
told_on false x y ready stays = refl
told_on true None y ready stays = absurd cc
told_on true (Some r) y ready stays = ap (limits_told true) (sym (stays r refl))

-- the limits were taken, where they are told, and the journal went on
pub fixed_on : (given : SessionInputs) (version : Option Reply) (a b : List Entry) (s : Setting) → is_session_open s a
    ≡ true → IsLater s a b
    → IsFixed given version a s → IsFixed given version b s
fixed_on given version a b s ready later fixed =
    let extensions = fixed.0 in
    let offers : s.limits ≡ offers_limits extensions = ap (λ (t : Setting). t.limits) fixed.1.1 in
    let same = told_on (offers_limits extensions) (answer a 0) (answer b 0)
    (subst (λ (l : Bool). is_opened l (answer a 0) ≡ true) offers ready) (λ r is. later_answers s a b 0 r later is) in
    let by_limits : Option Limits → Setting = λ limits. record {
      lanes = given.lanes;
      facts = facts_of given.options extensions limits;
      limits = offers_limits extensions;
      max_pending = given.options.max_pending_requests;
    } in
    (extensions, (fixed.1.0, fixed.1.1 ∙ ap by_limits same))

-- a fault was kept
pub fixed_refused : (given : SessionInputs) (version : Option Reply) (fault : Option Fault) (past : List Entry)
    (s : Setting)
    → IsFixed given version past s → IsFixed given version (refused_past fault past) s
fixed_refused given version None past s fixed = fixed
fixed_refused given version (Some fault) past s fixed = fixed

pub added_refused : (fault : Option Fault) (past : List Entry) (lane : ℕ)
    → calls_added_to (refused_past fault past) lane ≡ calls_added_to past lane
added_refused None past lane = refl
added_refused (Some fault) past lane = refl

-- the calls are the same, and none was added
pub same_calls : (lanes : List Lane) (old new : Lanes) → new.calls ≡ old.calls
    → ((lane : ℕ) → calls_added_to (past_of new) lane ≡ calls_added_to (past_of old) lane) → HasCalls lanes old
    → HasCalls lanes new
same_calls lanes old new same adds has = record {
  count = ap length same ∙ has.count;
  ok = ap are_ok same ∙ has.ok;
  each = λ lane. ap (λ (ls : List Lane). calls_of (slice_get ls lane)) same ∙ has.each lane
      ∙ ap (λ (cs : List Call). calls_of (slice_get lanes lane) ++ cs) (sym (adds lane));
}

-- the fault that is noted, where none is kept
pub noted : Option Fault → Fault → Option Fault
noted None fault = Some fault
noted (Some first) fault = None

pub kept_refused : (kept : Option Fault) (fault : Fault) (past : List Entry) → kept_past kept fault past
    ≡ refused_past (noted kept fault) past
unfolding noted
kept_refused None fault past = refl
kept_refused (Some first) fault past = refl
