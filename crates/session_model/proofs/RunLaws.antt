-- A whole run is a run so far: each of its entries may come behind those before it.
use Rattle.std.proofs.Common.{
  ◌≡◌,
  ◌≢◌,
  ◌<◌,
  ◌==◌,
  ℕ,
  Bool,
  true,
  false,
  List,
  [],
  ◌∷◌,
  ◌++◌,
  Option,
  Some,
  None,
  refl,
  ap,
  sym,
  ◌∙◌,
  subst,
  arith,
  if◌then◌else◌,
  inl,
  inr,
}
use Rattle.std.specs.Prelude.{◌||◌, ◌&&◌, nat_lt, is_some, MatchBool}
use Rattle.std.proofs.lemmas.Bool.Decides.{nat_tests, eqb_tells}
use Rattle.std.proofs.lemmas.Bool.{ne_eqb}
use Rattle.sftp_model.specs.declared.outcome.Outcome.{Outcome}
use Rattle.sftp_model.specs.declared.outcome.Outcome.TheVariants as outcome
use Rattle.sftp_model.specs.declared.request.Request.{Request}
use Rattle.sftp_model.specs.declared.reply.Reply.{Reply}
use Rattle.sftp_model.specs.declared.slot.Move.{Move}
use Rattle.sftp_model.specs.declared.slot.Move.TheVariants.{Ask, Wait, Done}
use Rattle.plan_model.specs.Moves.{Own}
use Rattle.plan_model.specs.declared.call.Call.{Call}
use Rattle.session_model.specs.declared.turn.Turn.{Turn}
use Rattle.session_model.specs.declared.turn.Turn.TheVariants as turn
use Rattle.session_model.specs.declared.event.Owner.TheVariants as owner
use Rattle.session_model.specs.declared.event.Event.TheVariants.{Submit, Send, Take, Cancel, End}
use Rattle.session_model.specs.declared.entry.Entry.{Entry}
use Rattle.session_model.specs.declared.entry.Entry.TheVariants as entry
use Rattle.session_model.specs.Readings.{count_submitted, count_sent, answer, bearer, is_at, is_by, own, count_ended, was_kept, count_awaited}
use Rattle.session_model.specs.Calls.{Setting, current, move_of, is_wait, has_waited}
use Rattle.session_model.specs.Grants.{letting_go, next_due_at, closed_grants, IsSettled}
use Rattle.session_model.specs.Journals.{IsJournal, IsNext, MayTake, IsFree, close_of, is_opened, is_session_open, is_some_asked, may_cancel, cancelled_end}
use Rattle.session_model.specs.Turns.{RunProgress, TurnTo, MovesBy, RulesTo, ClosesTo, SendsTo, is_full, begun_with, begun_but}
use Rattle.session_model.proofs.CallLaws.{may_next, due_next, cancelled_next, own_submit}
use Rattle.session_model.proofs.LetGoLaws.{closes_leave}
use Rattle.session_model.specs.Steady.{IsCancellableRun, HasNothingDue}

-- ---- what a run keeps

pub record GoodStage (s : Setting) (at : RunProgress) : Type 0 where
  pub good : IsCancellableRun s at.past at.begun
  pub still : HasNothingDue s at.past

-- ---- cancels

pub wait_more : (a w h : Bool) → (a || h) ≡ true → (a || (w || h)) ≡ true
wait_more true w h e = refl
wait_more false true h e = refl
wait_more false false h e = e

asked_more : (b : Bool) (before : Own) (new : ℕ × Request) (w h : Bool) → (is_some_asked before || h) ≡ true
    → (is_some_asked (if b then before ++ new ∷ [] else before) || (w || h)) ≡ true
asked_more false before new w h e = wait_more (is_some_asked before) w h e
asked_more true [] new w h e = refl
asked_more true (a ∷ before) new w h e = refl

some_more : (before : Own) (new : ℕ × Request) (h : Bool) → (is_some_asked (before ++ new ∷ []) || h) ≡ true
some_more [] new h = refl
some_more (a ∷ before) new h = refl

or_true : (a b : Bool) → b ≡ true → (a || b) ≡ true
or_true true b e = refl
or_true false b e = e

left_true : (a b : Bool) → a ≡ true → (a || b) ≡ true
left_true true b e = refl
left_true false b e = absurd cc

-- a lane's call that waits may be cancelled
waits_now : (s : Setting) (past : List Entry) (lane place : ℕ) → move_of s past lane ≡ Some (Wait place)
    → has_waited s past lane ≡ true
waits_now s [] lane place e = ap is_wait e
waits_now s (entry.Event (End l c o) ∷ past) lane place e = left_true
    (is_wait (move_of s (entry.Event (End l c o) ∷ past) lane)) (if l == lane then false else has_waited s past lane)
    (ap is_wait e)
waits_now s (e ∷ past) lane place w = left_true (is_wait (move_of s (e ∷ past) lane)) (has_waited s past lane)
    (ap is_wait w)

-- an end of another lane changes nothing of it
end_cancels : (s : Setting) (past : List Entry) (l call lane : ℕ) (o : Outcome) → l ≢ lane → may_cancel s past lane
    ≡ true → may_cancel s (entry.Event (End l call o) ∷ past) lane ≡ true
end_cancels s past l call lane o ne e = rw (ne_eqb l lane ne)
    (wait_more (is_some_asked (own past lane (count_ended past lane))) _ (has_waited s past lane) e)

-- ---- entries

-- an entry that ends no call, cancels none, adds none and keeps no fault
abbrev pub IsPlain : Entry → Type 0
IsPlain (entry.Event (Submit by id r)) = Unit {0}
IsPlain (entry.Event Send) = Unit {0}
IsPlain (entry.Event (Take id r)) = Unit {0}
IsPlain (entry.LetGo lane) = Unit {0}
IsPlain other = ⊥

still_opened : (limits b : Bool) (r : Reply) (old : Option Reply) → is_opened limits old ≡ true
    → is_opened limits (if b then Some r else old) ≡ true
still_opened false b r old e = refl
still_opened true true r old e = refl
still_opened true false r old e = e

pub good_plain : (s : Setting) (past : List Entry) (begun : ℕ → Bool) (e : Entry) → IsCancellableRun s past begun
    → IsNext s past e → IsPlain e → IsCancellableRun s (e ∷ past) begun
good_plain s past begun (entry.Event (Submit by id r)) g next p =
    record {
      run = (next, g.run);
      calm = refl;
      ready = g.ready;
      unkept = g.unkept;
      cancels = λ lane h. asked_more (is_by by lane (count_ended past lane)) (own past lane (count_ended past lane))
          (count_submitted past, r)
          _ (has_waited s past lane) (g.cancels lane h);
    }
good_plain s past begun (entry.Event Send) g next p =
    record {
      run = (next, g.run);
      calm = refl;
      ready = g.ready;
      unkept = g.unkept;
      cancels = λ lane h. wait_more (is_some_asked (own past lane (count_ended past lane))) _ (has_waited s past lane)
          (g.cancels lane h);
    }
good_plain s past begun (entry.Event (Take id r)) g next p =
    record {
      run = (next, g.run);
      calm = refl;
      ready = still_opened s.limits (is_at (bearer past id) 0) r (answer past 0) g.ready;
      unkept = g.unkept;
      cancels = λ lane h. wait_more (is_some_asked (own past lane (count_ended past lane))) _ (has_waited s past lane)
          (g.cancels lane h);
    }
good_plain s past begun (entry.LetGo lane) g next p =
    record {
      run = (next, g.run);
      calm = refl;
      ready = g.ready;
      unkept = g.unkept;
      cancels = λ lane h. wait_more (is_some_asked (own past lane (count_ended past lane))) _ (has_waited s past lane)
          (g.cancels lane h);
    }
good_plain s past begun (entry.Event (Cancel lane)) g next p = absurd p
good_plain s past begun (entry.Event (End lane call o)) g next p = absurd p
good_plain s past begun (entry.Added lane c) g next p = absurd p
good_plain s past begun (entry.Kept fault) g next p = absurd p

-- ---- rules

pub closes_good : (s : Setting) (before now : List Entry) (begun : ℕ → Bool) → IsCancellableRun s before begun
    → ClosesTo s before now → IsCancellableRun s now begun
closes_good s before [] begun g e = subst (λ (past : List Entry). IsCancellableRun s past begun) e g
closes_good s before (e ∷ past) begun g (inl same) = subst (λ (p : List Entry). IsCancellableRun s p begun) same g
closes_good s before (e ∷ past) begun g (inr (due, rest)) =
    let old : IsCancellableRun s past begun = closes_good s before past begun g rest in
    let next : IsNext s past (close_of past due.0 due.1.1.0) =
    due_next s past due.0 (close_of past due.0 due.1.1.0) old.calm due.1.0 (due.1.1.0, (due.1.1.1.0, refl)) in
    subst (λ (x : Entry). IsCancellableRun s (x ∷ past) begun) (sym due.1.1.1.1)
    (good_plain s past begun (close_of past due.0 due.1.1.0) old next tt)

full_more : (s : Setting) (past : List Entry) → is_full s past ≡ true → count_sent past < count_submitted past
full_more s past e = grind (arith, nat_tests)

sends_by : (s : Setting) (mid now : List Entry) (begun : ℕ → Bool) (b : Bool) → is_full s mid ≡ b
    → IsCancellableRun s mid begun → HasNothingDue s mid
    → MatchBool b (now ≡ entry.Event Send ∷ mid) (now ≡ mid) → IsCancellableRun s now begun × HasNothingDue s now
sends_by s mid now begun false full g h e = (
  subst (λ (p : List Entry). IsCancellableRun s p begun) (sym e) g,
  subst (λ (p : List Entry). HasNothingDue s p) (sym e) h,
)
sends_by s mid now begun true full g h e =
    let next : IsNext s mid (entry.Event Send) = may_next s mid (entry.Event Send) g.calm h.settled
    (full_more s mid full) in (
      subst (λ (p : List Entry). IsCancellableRun s p begun) (sym e)
          (good_plain s mid begun (entry.Event Send) g next tt),
      subst (λ (p : List Entry). HasNothingDue s p) (sym e) (record { settled = h.plain; plain = h.plain }),
    )

pub sends_good : (s : Setting) (mid now : List Entry) (begun : ℕ → Bool) → IsCancellableRun s mid begun
    → HasNothingDue s mid → SendsTo s mid now → IsCancellableRun s now begun × HasNothingDue s now
sends_good s mid now begun g h to = sends_by s mid now begun (is_full s mid) refl g h to

rules_good : (s : Setting) (first now : List Entry) (begun : ℕ → Bool) → IsCancellableRun s first begun
    → letting_go s first ≡ None
    → RulesTo s first now → IsCancellableRun s now begun × HasNothingDue s now
rules_good s first now begun g letting to =
    let good : IsCancellableRun s to.0 begun = closes_good s first to.0 begun g to.1.0.0 in
    let none : letting_go s to.0 ≡ None = (closes_leave s first to.0 to.1.0.0).letting ∙ letting in
    let plain : IsSettled s to.0 = ap (next_due_at s to.0 (closed_grants s to.0)) (sym none) ∙ to.1.0.1 in
    sends_good s to.0 now begun good (record { settled = to.1.0.1; plain = plain }) to.1.1

-- ---- turns

-- a lane that is begun after a step of one is that one, or was begun before
pub begun_more : (l lane : ℕ) (begun : ℕ → Bool) (P : Type 0) → (l ≡ lane → P) → (begun lane ≡ true → P)
    → begun_with begun l lane ≡ true → P
begun_more l lane begun P here there e = elim (eqb_tells l lane) [ inl t ↦ here t.1 | inr t ↦ there (rw t.0 at e) ]

-- a lane that is begun after another one's end was begun before
pub but_begun : (begun : ℕ → Bool) (l lane : ℕ) → begun_but begun l lane ≡ true → (l ≢ lane) × (begun lane ≡ true)
but_begun begun l lane e =
    elim (eqb_tells l lane) [
      | inl t ↦ absurd (let none : false ≡ true = rw t.0 at e in cc)
      | inr t ↦ (t.1, rw t.0 at e)
    ]

stage_good : (s : Setting) (now : RunProgress) (begun : ℕ → Bool) → now.begun ≡ begun
    → IsCancellableRun s now.past begun × HasNothingDue s now.past → GoodStage s now
stage_good s now begun e h = record {
  good = subst (λ (begun : ℕ → Bool). IsCancellableRun s now.past begun) (sym e)
      h.0;
  still = h.1;
}

same_good : (s : Setting) (before now : RunProgress) → now ≡ before → GoodStage s before → GoodStage s now
same_good s before now e g = subst (GoodStage s) (sym e) g

pub submit_good : (s : Setting) (past : List Entry) (begun : ℕ → Bool) (lane id : ℕ) (r : Request)
    → IsCancellableRun s past begun
    → HasNothingDue s past → move_of s past lane ≡ Some (Ask r) → IsFree past id
    → IsCancellableRun s (entry.Event (Submit (owner.Call lane (count_ended past lane)) id r) ∷ past)
    (begun_with begun lane)
submit_good s past begun lane id r g h move free =
    let e : Entry = entry.Event (Submit (owner.Call lane (count_ended past lane)) id r) in
    let next : IsNext s past e = may_next s past e g.calm h.settled (refl, move, free, g.ready, g.unkept) in
    let good : IsCancellableRun s (e ∷ past) begun = good_plain s past begun e g next tt in
    record {
      run = good.run;
      calm = refl;
      ready = good.ready;
      unkept = good.unkept;
      cancels = λ l b. begun_more lane l begun (may_cancel s (e ∷ past) l ≡ true)
          (λ same. subst (λ (k : ℕ). may_cancel s (e ∷ past) k ≡ true) same
          (ap (λ (requests : Own). is_some_asked requests || has_waited s (e ∷ past) lane)
          (own_submit past lane (count_ended past lane) id r) ∙ some_more (own past lane (count_ended past lane))
          (count_submitted past, r) (has_waited s (e ∷ past) lane)))
          (λ old. good.cancels l old) b;
    }

pub end_good : (s : Setting) (past : List Entry) (begun : ℕ → Bool) (lane : ℕ) (o : Outcome) → IsJournal s past
    → is_session_open s past ≡ true → was_kept past ≡ false
    → ((l : ℕ) → begun l ≡ true → may_cancel s past l ≡ true)
    → IsNext s past (entry.Event (End lane (count_ended past lane) o))
    → IsCancellableRun s (entry.Event (End lane (count_ended past lane) o) ∷ past) (begun_but begun lane)
end_good s past begun lane o run ready unkept cancels next =
    record {
      run = (next, run);
      calm = refl;
      ready = ready;
      unkept = unkept;
      cancels = λ l b. let h = but_begun begun lane l b in end_cancels s past lane (count_ended past lane) l o h.0
          (cancels l h.1);
    }

moves_good : (s : Setting) (lane : ℕ) (before now : RunProgress) (m : Option Move) → move_of s before.past lane ≡ m
    → GoodStage s before → MovesBy (RulesTo s) lane before now m → GoodStage s now
moves_good s lane before now None move g e = same_good s before now e g
moves_good s lane before now (Some (Wait place)) move g e =
    subst (GoodStage s) (sym e) (record {
      good = record {
        run = g.good.run;
        calm = g.good.calm;
        ready = g.good.ready;
        unkept = g.good.unkept;
        cancels = λ l b. begun_more lane l before.begun (may_cancel s before.past l ≡ true)
            (λ same. subst (λ (k : ℕ). may_cancel s before.past k ≡ true) same
            (or_true (is_some_asked (own before.past lane (count_ended before.past lane)))
            (has_waited s before.past lane)
            (waits_now s before.past lane place move)))
            (λ old. g.good.cancels l old) b;
      };
      still = g.still;
    })
moves_good s lane before now (Some (Ask r)) move g to =
    stage_good s now (begun_with before.begun lane) to.0 (rules_good s
    (entry.Event (Submit (owner.Call lane (count_ended before.past lane)) to.1.0 r) ∷ before.past) now.past
    (begun_with before.begun lane)
    (submit_good s before.past before.begun lane to.1.0 r g.good g.still move to.1.1.0) refl to.1.1.1)
moves_good s lane before now (Some (Done o site)) move g to =
    let e : Entry = entry.Event (End lane (count_ended before.past lane) o) in
    let next : IsNext s before.past e = may_next s before.past e g.good.calm g.still.settled
    (refl, (site, move), g.good.ready) in
    stage_good s now (begun_but before.begun lane) to.0 (rules_good s (e ∷ before.past) now.past
    (begun_but before.begun lane)
    (end_good s before.past before.begun lane o g.good.run g.good.ready g.good.unkept g.good.cancels next) refl to.1)

lt_is : (n m : ℕ) → nat_lt n m ≡ true → n < m
lt_is n m e = grind (arith, nat_tests)

flush_by : (s : Setting) (before now : RunProgress) (b : Bool)
    → nat_lt (count_sent before.past) (count_submitted before.past) ≡ b → GoodStage s before
    → MatchBool b ((now.begun ≡ before.begun) × RulesTo s (entry.Event Send ∷ before.past) now.past) (now ≡ before)
    → GoodStage s now
flush_by s before now false is g e = same_good s before now e g
flush_by s before now true is g to =
    let next : IsNext s before.past (entry.Event Send) = may_next s before.past (entry.Event Send) g.good.calm
    g.still.settled (lt_is (count_sent before.past) (count_submitted before.past) is) in
    stage_good s now before.begun to.0 (rules_good s (entry.Event Send ∷ before.past) now.past before.begun
    (good_plain s before.past before.begun (entry.Event Send) g.good next tt) refl to.1)

take_by : (s : Setting) (before now : RunProgress) (b : Bool) → GoodStage s before
    → MatchBool b ((now.begun ≡ before.begun) × ((id : ℕ) × ((r : Reply)
    × (MayTake before.past id r × RulesTo s (entry.Event (Take id r) ∷ before.past) now.past)))) (now ≡ before)
    → GoodStage s now
take_by s before now false g e = same_good s before now e g
take_by s before now true g to =
    let e : Entry = entry.Event (Take to.1.0 to.1.1.0) in
    let next : IsNext s before.past e = may_next s before.past e g.good.calm g.still.settled (to.1.1.1.0, g.good.unkept)
    in
    stage_good s now before.begun to.0 (rules_good s (e ∷ before.past) now.past before.begun
    (good_plain s before.past before.begun e g.good next tt) refl to.1.1.1.1)

both_true : (a b : Bool) → (a && b) ≡ true → (a ≡ true) × (b ≡ true)
both_true true b e = (refl, e)
both_true false b e = absurd cc

some_call : (c : Option Call) → is_some c ≡ true → c ≢ None
some_call None e = absurd cc
some_call (Some c) e = λ none. absurd cc

cancel_by : (s : Setting) (lane : ℕ) (before now : RunProgress) (b : Bool)
    → (is_some (current s before.past lane) && before.begun lane) ≡ b → GoodStage s before
    → MatchBool b ((now.begun ≡ begun_but before.begun lane)
    × RulesTo s (cancelled_end (entry.Event (Cancel lane) ∷ before.past) lane ∷ entry.Event (Cancel lane) ∷ before.past)
    now.past) (now ≡ before) → GoodStage s now
cancel_by s lane before now false is g e = same_good s before now e g
cancel_by s lane before now true is g to =
    let both = both_true (is_some (current s before.past lane)) (before.begun lane) is in
    let c : Entry = entry.Event (Cancel lane) in
    let may : IsNext s before.past c = may_next s before.past c g.good.calm g.still.settled
    (some_call (current s before.past lane) both.0, g.good.cancels lane both.1, g.good.ready) in
    stage_good s now (begun_but before.begun lane) to.0 (rules_good s
    (cancelled_end (c ∷ before.past) lane ∷ c ∷ before.past) now.past (begun_but before.begun lane)
    (end_good s (c ∷ before.past) before.begun lane outcome.Cancelled (may, g.good.run) g.good.ready g.good.unkept
    (λ l b. wait_more (is_some_asked (own before.past l (count_ended before.past l))) _ (has_waited s before.past l)
    (g.good.cancels l b)) (cancelled_next s before.past lane)) refl to.1)

pub turn_good : (s : Setting) (t : Turn) (before now : RunProgress) → GoodStage s before → TurnTo s t before now
    → GoodStage s now
turn_good s (turn.Step lane) before now g to = moves_good s lane before now (move_of s before.past lane) refl g to
turn_good s turn.Flush before now g to = flush_by s before now
    (nat_lt (count_sent before.past) (count_submitted before.past)) refl g to
turn_good s turn.Take before now g to = take_by s before now (nat_lt 0 (count_awaited before.past)) g to
turn_good s (turn.Cancel lane) before now g to = cancel_by s lane before now
    (is_some (current s before.past lane) && before.begun lane) refl g to
