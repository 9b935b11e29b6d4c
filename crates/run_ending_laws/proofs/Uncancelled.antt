-- A run under turns that cancel nothing cancels nothing.
use Rattle.std.proofs.Common.{◌≡◌, ◌∷◌, ◌++◌, ◌==◌, ◌≢◌, ℕ, zero, suc, Bool, true, false, List, [], length, Option, Some, None, refl, sym, subst, inl, inr}
use Rattle.std.specs.Prelude.{◌⊎◌, nat_lt, slice_get, MatchBool, MatchOption}
use Rattle.std.proofs.lemmas.Bool.Decides.{eqb_tells}
use Rattle.std.specs.List.{list_all}
use Rattle.std.proofs.lemmas.Bool.{and_parts}
use Rattle.sftp_model.specs.declared.reply.Reply.{Reply}
use Rattle.sftp_model.specs.declared.slot.Move.{Move}
use Rattle.sftp_model.specs.declared.slot.Move.TheVariants.{Ask, Wait, Done}
use Rattle.sftp_model.specs.declared.outcome.Outcome.{Outcome}
use Rattle.sftp_model.specs.declared.outcome.Outcome.TheVariants as outcome
use Rattle.sftp_model.specs.declared.slot.Facts.{Facts}
use Rattle.sftp_model.specs.declared.slot.Site.{Site}
use Rattle.plan_model.specs.CallPlans.{next}
use Rattle.plan_model.specs.Moves.{Answers, Own}
use Rattle.plan_model.specs.declared.call.Call.{Call}
use Rattle.session_model.specs.declared.entry.Entry.{Entry}
use Rattle.session_model.specs.declared.entry.Entry.TheVariants as entry
use Rattle.session_model.specs.declared.event.Event.TheVariants.{Submit, Send, Take, Cancel, End}
use Rattle.session_model.specs.declared.event.Owner.TheVariants as owner
use Rattle.session_model.specs.declared.turn.Turn.{Turn}
use Rattle.session_model.specs.declared.turn.Turn.TheVariants as turn
use Rattle.session_model.specs.Calls.{Setting, current, lane_calls, move_at, move_of, site_of}
use Rattle.session_model.specs.Grants.{next_due}
use Rattle.session_model.specs.Journals.{IsJournal, IsNext, MayCome, MayTake, MustClose, cancelled_end}
use Rattle.session_model.specs.Readings.{answer, count_submitted, count_awaited, count_ended, last_cancel, outcomes_of, own, count_sent}
use Rattle.session_model.specs.Runs.{at_first, DrainsTo, EndsTo, IsRun, LetsGoTo, OpensSession, RoundsTo, TurnsTo, round_of}
use Rattle.session_model.specs.Turns.{ClosesTo, MovesBy, RulesTo, RunProgress, TurnTo, is_full}
use Rattle.run_laws.specs.RoundTrips.{outcome_at}
use Rattle.run_laws.proofs.LaneCalls.{all_before, each_is}
use Rattle.run_ending_laws.specs.PlainCalls.{is_calm}

-- no call was cancelled
abbrev pub CancelsNone : List Entry → Type 0
CancelsNone [] = Unit {0}
CancelsNone (entry.Event (Cancel lane) ∷ past) = ⊥
CancelsNone (_ ∷ past) = CancelsNone past

abbrev Stays : List Entry → List Entry → Type 0
Stays before now = CancelsNone before → CancelsNone now

same_stays : (before now : RunProgress) → now ≡ before → Stays before.past now.past
same_stays before now e p = subst (λ (w : RunProgress). CancelsNone w.past) (sym e) p

closes_stay : (s : Setting) (before now : List Entry) → ClosesTo s before now → Stays before now
closes_stay s before [] e p = tt
closes_stay s before (e ∷ past) (inl same) p = subst CancelsNone same p
closes_stay s before (e ∷ past) (inr (due, rest)) p = subst (λ (w : Entry). CancelsNone (w ∷ past)) (sym due.1.1.1.1)
    (closes_stay s before past rest p)

sends_stay : (b : Bool) (mid now : List Entry) → MatchBool b (now ≡ entry.Event Send ∷ mid) (now ≡ mid) → Stays mid now
sends_stay true mid now e p = subst CancelsNone (sym e) p
sends_stay false mid now e p = subst CancelsNone (sym e) p

rules_stay : (s : Setting) (before now : List Entry) → RulesTo s before now → Stays before now
rules_stay s before now to p = sends_stay (is_full s to.0) to.0 now to.1.1 (closes_stay s before to.0 to.1.0.0 p)

moves_stay : (s : Setting) (lane : ℕ) (before now : RunProgress) (m : Option Move)
    → MovesBy (RulesTo s) lane before now m → Stays before.past now.past
moves_stay s lane before now None e p = same_stays before now e p
moves_stay s lane before now (Some (Wait place)) e p = subst (λ (w : RunProgress). CancelsNone w.past) (sym e) p
moves_stay s lane before now (Some (Ask r)) to p = rules_stay s
    (entry.Event (Submit (owner.Call lane (count_ended before.past lane)) to.1.0 r) ∷ before.past) now.past to.1.1.1 p
moves_stay s lane before now (Some (Done o site)) to p = rules_stay s
    (entry.Event (End lane (count_ended before.past lane) o) ∷ before.past) now.past to.1 p

turn_stays : (s : Setting) (t : Turn) (before now : RunProgress) → is_calm t ≡ true → TurnTo s t before now
    → Stays before.past now.past
turn_stays s (turn.Step lane) before now calm to p = moves_stay s lane before now (move_of s before.past lane) to p
turn_stays s turn.Flush before now calm to p = by_test (nat_lt (count_sent before.past) (count_submitted before.past))
    to
  where
    by_test : (b : Bool) → MatchBool b ((now.begun ≡ before.begun)
        × RulesTo s (entry.Event Send ∷ before.past) now.past) (now ≡ before) → CancelsNone now.past
    by_test true to = rules_stay s (entry.Event Send ∷ before.past) now.past to.1 p
    by_test false e = same_stays before now e p
turn_stays s turn.Take before now calm to p = by_test (nat_lt 0 (count_awaited before.past)) to
  where
    by_test : (b : Bool) → MatchBool b ((now.begun ≡ before.begun)
        × ((id : ℕ) × ((r : Reply) × (MayTake before.past id r × RulesTo s (entry.Event (Take id r) ∷ before.past)
        now.past)))) (now ≡ before) → CancelsNone now.past
    by_test true to = rules_stay s (entry.Event (Take to.1.0 to.1.1.0) ∷ before.past) now.past to.1.1.1.1 p
    by_test false e = same_stays before now e p
turn_stays s (turn.Cancel lane) before now calm to p = absurd cc

turns_stay : (s : Setting) (turns : List Turn) (before now : RunProgress) → list_all is_calm turns ≡ true
    → TurnsTo s turns before now → Stays before.past now.past
turns_stay s [] before now calm e p = same_stays before now e p
turns_stay s (t ∷ turns) before now calm to p =
    let both = and_parts (is_calm t) (list_all is_calm turns) calm in
    turns_stay s turns to.0 now both.1 to.1.1 (turn_stays s t before to.0 both.0 to.1.0 p)

rounds_stay : (s : Setting) (lane n : ℕ) (before now : RunProgress) → RoundsTo s lane n before now
    → Stays before.past now.past
rounds_stay s lane zero before now e p = same_stays before now e p
rounds_stay s lane (suc n) before now to p = rounds_stay s lane n to.1.0 now to.1.1.1
    (turns_stay s (round_of lane) before to.1.0 refl to.1.1.0 p)

ends_stay : (s : Setting) (n : ℕ) (before now : RunProgress) → EndsTo s n before now → Stays before.past now.past
ends_stay s zero before now e p = same_stays before now e p
ends_stay s (suc lane) before now to p = rounds_stay s lane to.1.1.0 to.0 now to.1.1.1
    (ends_stay s lane before to.0 to.1.0 p)

lets_go_stay : (s : Setting) (n : ℕ) (before now : RunProgress) → LetsGoTo s n before now → Stays before.past now.past
lets_go_stay s zero before now e p = same_stays before now e p
lets_go_stay s (suc lane) before now to p = rules_stay s (entry.LetGo lane ∷ to.0.past) now.past to.1.1.1
    (lets_go_stay s lane before to.0 to.1.0 p)

drains_stay : (s : Setting) (n : ℕ) (before now : RunProgress) → DrainsTo s n before now → Stays before.past now.past
drains_stay s zero before now e p = same_stays before now e p
drains_stay s (suc n) before now to p = drains_stay s n to.1.0 now to.1.1.1
    (turns_stay s (turn.Flush ∷ turn.Take ∷ []) before to.1.0 refl to.1.1.0 p)

opens_plain : (b : Bool) (past : List Entry) → OpensSession b past → CancelsNone past
opens_plain false past e = subst CancelsNone (sym e) tt
opens_plain true past to = subst CancelsNone (sym to.1.1.2) tt

pub run_cancels_none : (s : Setting) (turns : List Turn) (past : List Entry) → list_all is_calm turns ≡ true
    → IsRun s turns past → CancelsNone past
run_cancels_none s turns past calm (at, (by, is)) =
    subst CancelsNone is
    (drains_stay s by.drains.0 at.let_go at.drained by.drains.1
    (lets_go_stay s (length s.lanes) at.ended at.let_go by.lets_go
    (ends_stay s (length s.lanes) at.turned at.ended by.ends
    (turns_stay s turns (at_first at.opened) at.turned calm by.turns (opens_plain s.limits at.opened by.opens)))))

-- ---- outcomes

-- where no Cancel stands, none stands last
none_cancels : (past : List Entry) → CancelsNone past → last_cancel past ≡ None
none_cancels [] p = refl
none_cancels (entry.Event (Cancel lane) ∷ past) p = absurd p
none_cancels (_ ∷ past) p = refl

-- the end of a call by its plan
record EndsBy (s : Setting) (past : List Entry) (lane : ℕ) (o : Outcome) : Type 0 where
  site : Site
  moves : move_of s past lane ≡ Some (Done o site)

ends_by : (s : Setting) (past : List Entry) (lane k : ℕ) (o : Outcome) → CancelsNone past
    → IsNext s past (entry.Event (End lane k o)) → EndsBy s past lane o
ends_by s past lane k o none next = by_cancel (last_cancel past) (none_cancels past none) next
  where
    by_next_due : (g : Option ℕ) → MatchOption g (MayCome s past (entry.Event (End lane k o)))
        (λ grant. MustClose past grant (entry.Event (End lane k o)))
        → EndsBy s past lane o
    by_next_due None may = record { site = may.1.0; moves = may.1.1 }
    by_next_due (Some g) must = absurd (cc must.1.1)

    by_cancel : (c : Option ℕ) → c ≡ None → MatchOption c (MatchOption (next_due s past)
        (MayCome s past (entry.Event (End lane k o)))
        (λ grant. MustClose past grant (entry.Event (End lane k o))))
        (λ l. entry.Event (End lane k o) ≡ cancelled_end past l) → EndsBy s past lane o
    by_cancel None is h = by_next_due (next_due s past) h
    by_cancel (Some l) is h = absurd cc

get_last : {A : Type 0} (xs : List A) (x : A) (n : ℕ) (y : A) → slice_get (xs ++ x ∷ []) n ≡ Some y
    → (slice_get xs n ≡ Some y) ⊎ (x ≡ y)
get_last [] x zero y e = inr (let same : x ≡ y = cc in same)
get_last [] x (suc n) y e = absurd cc
get_last (z ∷ xs) x zero y e = inl e
get_last (z ∷ xs) x (suc n) y e = get_last xs x n y e

-- no plan of such a call ends it as cancelled
abbrev pub EndUncancelled : (Call → Bool) → Type 0
EndUncancelled test = (c : Call) → test c ≡ true → (site : Site) (facts : Facts) (own : Own) (answers : Answers)
    (left : Site)
    → next c site facts own answers ≡ Done outcome.Cancelled left → ⊥

move_ends : (test : Call → Bool) (s : Setting) (past : List Entry) (lane : ℕ) (left : Site) → EndUncancelled test
    → list_all test (lane_calls s past lane) ≡ true
    → (c : Option Call) → current s past lane ≡ c
    → move_at c (site_of s past lane) s.facts (own past lane (count_ended past lane)) (answer past)
    ≡ Some (Done outcome.Cancelled left) → ⊥
move_ends test s past lane left plans all None is e = cc
move_ends test s past lane left plans all (Some c) is e =
    plans c (each_is test (lane_calls s past lane) (count_ended past lane) c all is) (site_of s past lane) s.facts
    (own past lane (count_ended past lane)) (answer past) left
    (let same : next c (site_of s past lane) s.facts (own past lane (count_ended past lane)) (answer past)
    ≡ Done outcome.Cancelled left = cc in same)

-- in a journal without a Cancel no call of a lane of such calls is reported as cancelled
pub uncancelled : (test : Call → Bool) (s : Setting) (past : List Entry) (lane k : ℕ) → EndUncancelled test
    → IsJournal s past → CancelsNone past
    → list_all test (lane_calls s past lane) ≡ true → outcome_at past lane k ≡ Some outcome.Cancelled → ⊥
uncancelled test s [] lane k plans j none all e = cc
uncancelled test s (entry.Event (End l n o) ∷ past) lane k plans j none all e =
    by_lane (eqb_tells l lane) (uncancelled test s past lane k plans j.1 none all)
  where
    by_lane : (((l == lane) ≡ true) × (l ≡ lane)) ⊎ (((l == lane) ≡ false) × (l ≢ lane))
        → (outcome_at past lane k ≡ Some outcome.Cancelled → ⊥) → ⊥
    by_lane (inr t) again = again (rw (t.0) at e)
    by_lane (inl t) again = elim (get_last (outcomes_of past lane) o k outcome.Cancelled (rw (t.0) at e)) [
      | inl old ↦ again old
      | inr new ↦ (let b = ends_by s past lane n outcome.Cancelled none
          (subst (λ (x : Outcome). IsNext s past (entry.Event (End lane n x))) new
          (subst (λ (x : ℕ). IsNext s past (entry.Event (End x n o))) t.1 j.0)) in
          move_ends test s past lane b.site plans all (current s past lane) refl b.moves)
    ]
uncancelled test s (entry.Added l c ∷ past) lane k plans j none all e =
    uncancelled test s past lane k plans j.1 none (all_before test s (entry.Added l c ∷ []) past lane all) e
uncancelled test s (entry.Event (Cancel l) ∷ past) lane k plans j none all e = absurd none
uncancelled test s (_ ∷ past) lane k plans j none all e = uncancelled test s past lane k plans j.1 none all e
