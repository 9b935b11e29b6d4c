-- A run of lanes adds no call: its lanes' calls are those that were handed in.
use Rattle.std.proofs.Common.{◌≡◌, ◌∷◌, ◌++◌, ℕ, zero, suc, Bool, true, false, List, [], length, Option, Some, None, refl, ap, sym, ◌∙◌, subst, inl, inr}
use Rattle.std.specs.Prelude.{◌&&◌, nat_lt, is_some, slice_get, MatchBool}
use Rattle.std.proofs.lemmas.List.{append-nil}
use Rattle.sftp_model.specs.declared.reply.Reply.{Reply}
use Rattle.sftp_model.specs.declared.slot.Move.{Move}
use Rattle.sftp_model.specs.declared.slot.Move.TheVariants.{Ask, Wait, Done}
use Rattle.plan_model.specs.declared.call.Call.{Call}
use Rattle.session_model.specs.declared.entry.Entry.{Entry}
use Rattle.session_model.specs.declared.entry.Entry.TheVariants as entry
use Rattle.session_model.specs.declared.event.Event.TheVariants.{Submit, Send, Take, Cancel, End}
use Rattle.session_model.specs.declared.event.Owner.TheVariants as owner
use Rattle.session_model.specs.declared.turn.Turn.{Turn}
use Rattle.session_model.specs.declared.turn.Turn.TheVariants as turn
use Rattle.session_model.specs.Calls.{Setting, calls_added_to, calls_of, current, lane_calls, move_of}
use Rattle.session_model.specs.Journals.{MayTake, cancelled_end}
use Rattle.session_model.specs.Readings.{count_submitted, count_awaited, count_ended, count_sent}
use Rattle.session_model.specs.Runs.{DrainsTo, EndsTo, IsRun, LetsGoTo, OpensSession, RoundsTo, TurnsTo, round_of}
use Rattle.session_model.specs.Turns.{ClosesTo, MovesBy, RulesTo, RunProgress, TurnTo, begun_but, is_full}

-- no call was added
abbrev pub IsPlain : List Entry → Type 0
IsPlain [] = Unit {0}
IsPlain (entry.Added lane c ∷ past) = ⊥
IsPlain (_ ∷ past) = IsPlain past

abbrev Stays : List Entry → List Entry → Type 0
Stays before now = IsPlain before → IsPlain now

same_stays : (before now : RunProgress) → now ≡ before → Stays before.past now.past
same_stays before now e p = subst (λ (w : RunProgress). IsPlain w.past) (sym e) p

closes_stay : (s : Setting) (before now : List Entry) → ClosesTo s before now → Stays before now
closes_stay s before [] e p = tt
closes_stay s before (e ∷ past) (inl same) p = subst IsPlain same p
closes_stay s before (e ∷ past) (inr (due, rest)) p = subst (λ (w : Entry). IsPlain (w ∷ past)) (sym due.1.1.1.1)
    (closes_stay s before past rest p)

sends_stay : (b : Bool) (mid now : List Entry) → MatchBool b (now ≡ entry.Event Send ∷ mid) (now ≡ mid) → Stays mid now
sends_stay true mid now e p = subst IsPlain (sym e) p
sends_stay false mid now e p = subst IsPlain (sym e) p

rules_stay : (s : Setting) (before now : List Entry) → RulesTo s before now → Stays before now
rules_stay s before now to p = sends_stay (is_full s to.0) to.0 now to.1.1 (closes_stay s before to.0 to.1.0.0 p)

moves_stay : (s : Setting) (lane : ℕ) (before now : RunProgress) (m : Option Move)
    → MovesBy (RulesTo s) lane before now m → Stays before.past now.past
moves_stay s lane before now None e p = same_stays before now e p
moves_stay s lane before now (Some (Wait place)) e p = subst (λ (w : RunProgress). IsPlain w.past) (sym e) p
moves_stay s lane before now (Some (Ask r)) to p = rules_stay s
    (entry.Event (Submit (owner.Call lane (count_ended before.past lane)) to.1.0 r) ∷ before.past) now.past to.1.1.1 p
moves_stay s lane before now (Some (Done o site)) to p = rules_stay s
    (entry.Event (End lane (count_ended before.past lane) o) ∷ before.past) now.past to.1 p

turn_stays : (s : Setting) (t : Turn) (before now : RunProgress) → TurnTo s t before now → Stays before.past now.past
turn_stays s (turn.Step lane) before now to p = moves_stay s lane before now (move_of s before.past lane) to p
turn_stays s turn.Flush before now to p = by_test (nat_lt (count_sent before.past) (count_submitted before.past)) to
  where
    by_test : (b : Bool) → MatchBool b ((now.begun ≡ before.begun)
        × RulesTo s (entry.Event Send ∷ before.past) now.past) (now ≡ before) → IsPlain now.past
    by_test true to = rules_stay s (entry.Event Send ∷ before.past) now.past to.1 p
    by_test false e = same_stays before now e p
turn_stays s turn.Take before now to p = by_test (nat_lt 0 (count_awaited before.past)) to
  where
    by_test : (b : Bool) → MatchBool b ((now.begun ≡ before.begun)
        × ((id : ℕ) × ((r : Reply) × (MayTake before.past id r × RulesTo s (entry.Event (Take id r) ∷ before.past)
        now.past)))) (now ≡ before) → IsPlain now.past
    by_test true to = rules_stay s (entry.Event (Take to.1.0 to.1.1.0) ∷ before.past) now.past to.1.1.1.1 p
    by_test false e = same_stays before now e p
turn_stays s (turn.Cancel lane) before now to p = by_test (is_some (current s before.past lane) && before.begun lane) to
  where
    by_test : (b : Bool) → MatchBool b ((now.begun ≡ begun_but before.begun lane)
        × RulesTo s (cancelled_end (entry.Event (Cancel lane) ∷ before.past) lane ∷ entry.Event (Cancel lane) ∷
        before.past) now.past) (now ≡ before) → IsPlain now.past
    by_test true to = rules_stay s (cancelled_end (entry.Event (Cancel lane) ∷ before.past) lane ∷ entry.Event
        (Cancel lane) ∷ before.past) now.past to.1 p
    by_test false e = same_stays before now e p

turns_stay : (s : Setting) (turns : List Turn) (before now : RunProgress) → TurnsTo s turns before now
    → Stays before.past now.past
turns_stay s [] before now e p = same_stays before now e p
turns_stay s (t ∷ turns) before now to p = turns_stay s turns to.0 now to.1.1 (turn_stays s t before to.0 to.1.0 p)

rounds_stay : (s : Setting) (lane n : ℕ) (before now : RunProgress) → RoundsTo s lane n before now
    → Stays before.past now.past
rounds_stay s lane zero before now e p = same_stays before now e p
rounds_stay s lane (suc n) before now to p = rounds_stay s lane n to.1.0 now to.1.1.1
    (turns_stay s (round_of lane) before to.1.0 to.1.1.0 p)

ends_stay : (s : Setting) (n : ℕ) (before now : RunProgress) → EndsTo s n before now → Stays before.past now.past
ends_stay s zero before now e p = same_stays before now e p
ends_stay s (suc lane) before now to p = rounds_stay s lane to.1.1.0 to.0 now to.1.1.1
    (ends_stay s lane before to.0 to.1.0 p)

lets_go_stay : (s : Setting) (n : ℕ) (before now : RunProgress) → LetsGoTo s n before now → Stays before.past now.past
lets_go_stay s zero before now e p = same_stays before now e p
lets_go_stay s (suc lane) before now to p = rules_stay s (entry.LetGo lane ∷ to.0.past) now.past to.1.1.1
    (lets_go_stay s lane before to.0 to.1.0 p)

drains_stay : (s : Setting) (n : ℕ) (before now : RunProgress) → DrainsTo s n before now → Stays before.past now.past
drains_stay s zero before now e p = same_stays before now e p
drains_stay s (suc n) before now to p = drains_stay s n to.1.0 now to.1.1.1
    (turns_stay s (turn.Flush ∷ turn.Take ∷ []) before to.1.0 to.1.1.0 p)

opens_plain : (b : Bool) (past : List Entry) → OpensSession b past → IsPlain past
opens_plain false past e = subst IsPlain (sym e) tt
opens_plain true past to = subst IsPlain (sym to.1.1.2) tt

pub run_plain : (s : Setting) (turns : List Turn) (past : List Entry) → IsRun s turns past → IsPlain past
run_plain s turns past (at, (by, is)) =
    subst IsPlain is
    (drains_stay s by.drains.0 at.let_go at.drained by.drains.1
    (lets_go_stay s (length s.lanes) at.ended at.let_go by.lets_go
    (ends_stay s (length s.lanes) at.turned at.ended by.ends
    (turns_stay s turns _ at.turned by.turns (opens_plain s.limits at.opened by.opens)))))

added_none : (past : List Entry) (lane : ℕ) → IsPlain past → calls_added_to past lane ≡ []
added_none [] lane p = refl
added_none (entry.Added l c ∷ past) lane p = absurd p
added_none (_ ∷ past) lane p = added_none past lane p

pub plain_calls : (s : Setting) (past : List Entry) (lane : ℕ) → IsPlain past → lane_calls s past lane
    ≡ calls_of (slice_get s.lanes lane)
plain_calls s past lane p = ap (λ (w : List Call). calls_of (slice_get s.lanes lane) ++ w) (added_none past lane p)
    ∙ append-nil (calls_of (slice_get s.lanes lane))
