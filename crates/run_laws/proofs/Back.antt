-- A property of a journal that each part has which began it: it goes back through a run, from its end to its first
-- turn.
use Rattle.std.proofs.Common.{◌≡◌, ◌≢◌, ◌<◌, ℕ, zero, suc, Bool, true, false, List, [], ◌∷◌, Option, Some, None, sym, subst, inl, inr}
use Rattle.std.specs.Prelude.{◌&&◌, nat_lt, is_some, MatchBool}
use Rattle.sftp_model.specs.declared.slot.Move.{Move}
use Rattle.sftp_model.specs.declared.slot.Move.TheVariants.{Ask, Wait, Done}
use Rattle.session_model.specs.declared.turn.Turn.{Turn}
use Rattle.session_model.specs.declared.turn.Turn.TheVariants as turn
use Rattle.session_model.specs.declared.event.Event.TheVariants.{Send, Cancel}
use Rattle.session_model.specs.declared.entry.Entry.{Entry}
use Rattle.session_model.specs.declared.entry.Entry.TheVariants as entry
use Rattle.session_model.specs.Readings.{count_submitted, count_sent, count_awaited, count_unanswered}
use Rattle.session_model.specs.Calls.{Setting, current, move_of}
use Rattle.session_model.specs.Turns.{RunProgress, TurnTo, MovesBy, RulesTo, ClosesTo, is_full}
use Rattle.session_model.specs.Runs.{TurnsTo, round_of, RoundsTo, EndsTo, LetsGoTo, DrainsTo}

-- it holds of what stood before an entry
abbrev pub GoesBack : (List Entry → Type 0) → Type 0
GoesBack P = (e : Entry) (past : List Entry) → P (e ∷ past) → P past

-- ---- turns

stage_back : (P : List Entry → Type 0) (before now : RunProgress) → now ≡ before → P now.past → P before.past
stage_back P before now e p = subst (λ (w : RunProgress). P w.past) e p

closes_back : (P : List Entry → Type 0) → GoesBack P → (s : Setting) (before now : List Entry) → ClosesTo s before now
    → P now → P before
closes_back P f s before [] e p = subst P (sym e) p
closes_back P f s before (e ∷ past) (inl same) p = subst P (sym same) p
closes_back P f s before (e ∷ past) (inr (due, rest)) p = closes_back P f s before past rest (f e past p)

sends_back : (P : List Entry → Type 0) → GoesBack P → (b : Bool) (mid now : List Entry)
    → MatchBool b (now ≡ entry.Event Send ∷ mid) (now ≡ mid) → P now → P mid
sends_back P f true mid now e p = f (entry.Event Send) mid (subst P e p)
sends_back P f false mid now e p = subst P e p

pub rules_back : (P : List Entry → Type 0) → GoesBack P → (s : Setting) (before now : List Entry) → RulesTo s before now
    → P now → P before
rules_back P f s before now to p = closes_back P f s before to.0 to.1.0.0
    (sends_back P f (is_full s to.0) to.0 now to.1.1 p)

entry_back : (P : List Entry → Type 0) → GoesBack P → (s : Setting) (e : Entry) (before now : List Entry)
    → RulesTo s (e ∷ before) now → P now → P before
entry_back P f s e before now to p = f e before (rules_back P f s (e ∷ before) now to p)

test_back : (P : List Entry → Type 0) (b : Bool) (Goes : Type 0) (before now : RunProgress) → (Goes → P before.past)
    → MatchBool b Goes (now ≡ before) → P now.past → P before.past
test_back P true Goes before now goes to p = goes to
test_back P false Goes before now goes e p = stage_back P before now e p

moves_back : (P : List Entry → Type 0) → GoesBack P → (s : Setting) (lane : ℕ) (before now : RunProgress)
    (m : Option Move)
    → MovesBy (RulesTo s) lane before now m → P now.past → P before.past
moves_back P f s lane before now None e p = stage_back P before now e p
moves_back P f s lane before now (Some (Wait place)) e p = subst (λ (w : RunProgress). P w.past) e p
moves_back P f s lane before now (Some (Ask r)) to p = entry_back P f s _ before.past now.past to.1.1.1 p
moves_back P f s lane before now (Some (Done o site)) to p = entry_back P f s _ before.past now.past to.1 p

turn_back : (P : List Entry → Type 0) → GoesBack P → (s : Setting) (t : Turn) (before now : RunProgress)
    → TurnTo s t before now → P now.past → P before.past
turn_back P f s (turn.Step lane) before now to p = moves_back P f s lane before now (move_of s before.past lane) to p
turn_back P f s turn.Flush before now to p =
    test_back P (nat_lt (count_sent before.past) (count_submitted before.past)) _ before now
    (λ x. entry_back P f s _ before.past now.past x.1 p) to p
turn_back P f s turn.Take before now to p = test_back P (nat_lt 0 (count_awaited before.past)) _ before now
    (λ x. entry_back P f s _ before.past now.past x.1.1.1.1 p) to p
turn_back P f s (turn.Cancel lane) before now to p =
    test_back P (is_some (current s before.past lane) && before.begun lane) _ before now
    (λ x. f (entry.Event (Cancel lane)) before.past (entry_back P f s _ (entry.Event (Cancel lane) ∷ before.past)
    now.past x.1 p)) to p

pub turns_back : (P : List Entry → Type 0) → GoesBack P → (s : Setting) (turns : List Turn) (before now : RunProgress)
    → TurnsTo s turns before now → P now.past → P before.past
turns_back P f s [] before now e p = stage_back P before now e p
turns_back P f s (t ∷ turns) before now to p = turn_back P f s t before to.0 to.1.0
    (turns_back P f s turns to.0 now to.1.1 p)

-- ---- the same turns n times, each time where something is left: rounds and drains are such

abbrev pub Repeats : (List Entry → Type 0) → Setting → List Turn → ℕ → RunProgress → RunProgress → Type 0
Repeats IsLeft s turns zero before now = now ≡ before
Repeats IsLeft s turns (suc n) before now = IsLeft before.past
    × ((mid : RunProgress) × (TurnsTo s turns before mid × Repeats IsLeft s turns n mid now))

abbrev pub HasCall : Setting → ℕ → List Entry → Type 0
HasCall s lane past = current s past lane ≢ None

abbrev pub Awaits : List Entry → Type 0
Awaits past = 0 < count_unanswered past

pub rounds_repeat : (s : Setting) (lane n : ℕ) (before now : RunProgress) → RoundsTo s lane n before now
    → Repeats (HasCall s lane) s (round_of lane) n before now
rounds_repeat s lane zero before now e = e
rounds_repeat s lane (suc n) before now to = (to.0, (to.1.0, (to.1.1.0, rounds_repeat s lane n to.1.0 now to.1.1.1)))

pub drains_repeat : (s : Setting) (n : ℕ) (before now : RunProgress) → DrainsTo s n before now
    → Repeats Awaits s (turn.Flush ∷ turn.Take ∷ []) n before now
drains_repeat s zero before now e = e
drains_repeat s (suc n) before now to = (to.0, (to.1.0, (to.1.1.0, drains_repeat s n to.1.0 now to.1.1.1)))

pub repeats_back : (P : List Entry → Type 0) → GoesBack P → (IsLeft : List Entry → Type 0) (s : Setting)
    (turns : List Turn) (n : ℕ) (before now : RunProgress)
    → Repeats IsLeft s turns n before now → P now.past → P before.past
repeats_back P f IsLeft s turns zero before now e p = stage_back P before now e p
repeats_back P f IsLeft s turns (suc n) before now to p = turns_back P f s turns before to.1.0 to.1.1.0
    (repeats_back P f IsLeft s turns n to.1.0 now to.1.1.1 p)

-- ---- the other parts of a run

pub ends_back : (P : List Entry → Type 0) → GoesBack P → (s : Setting) (n : ℕ) (before now : RunProgress)
    → EndsTo s n before now → P now.past → P before.past
ends_back P f s zero before now e p = stage_back P before now e p
ends_back P f s (suc lane) before now to p =
    ends_back P f s lane before to.0 to.1.0 (repeats_back P f (HasCall s lane) s (round_of lane) to.1.1.0 to.0 now
    (rounds_repeat s lane to.1.1.0 to.0 now to.1.1.1) p)

pub lets_go_back : (P : List Entry → Type 0) → GoesBack P → (s : Setting) (n : ℕ) (before now : RunProgress)
    → LetsGoTo s n before now → P now.past → P before.past
lets_go_back P f s zero before now e p = stage_back P before now e p
lets_go_back P f s (suc lane) before now to p = lets_go_back P f s lane before to.0 to.1.0
    (entry_back P f s (entry.LetGo lane) to.0.past now.past to.1.1.1 p)
