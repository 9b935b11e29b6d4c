-- Letting a lane go and draining add no call, and end none.
use Rattle.std.proofs.Common.{◌≡◌, ℕ, zero, suc, Bool, true, false, List, [], ◌∷◌, None, refl, sym, ◌∙◌, subst, inl, inr}
use Rattle.std.specs.Prelude.{MatchBool, nat_lt}
use Rattle.sftp_model.specs.declared.reply.Reply.{Reply}
use Rattle.session_model.specs.declared.entry.Entry.{Entry}
use Rattle.session_model.specs.declared.entry.Entry.TheVariants as entry
use Rattle.session_model.specs.declared.event.Event.TheVariants.{Send, Take}
use Rattle.session_model.specs.declared.turn.Turn.{Turn}
use Rattle.session_model.specs.declared.turn.Turn.TheVariants as turn
use Rattle.session_model.specs.Calls.{Setting, calls_added_to, current}
use Rattle.session_model.specs.Journals.{MayTake}
use Rattle.session_model.specs.Readings.{count_submitted, count_awaited, outcomes_of, count_sent, was_let_go}
use Rattle.session_model.specs.Runs.{DrainsTo, LetGoTo, TurnsTo}
use Rattle.session_model.specs.Turns.{ClosesTo, RulesTo, RunProgress, TurnTo, is_full}
use Rattle.view_model.specs.Uncancelled.{IsUncancelled}

-- no call was added, none ended, none was cancelled, no lane was let go, and a lane without a call has none still
pub record Keeps (s : Setting) (before now : List Entry) : Type 0 where
  pub adds : (lane : ℕ) → calls_added_to now lane ≡ calls_added_to before lane
  pub ends : (lane : ℕ) → outcomes_of now lane ≡ outcomes_of before lane
  pub holds : (lane : ℕ) → was_let_go now lane ≡ was_let_go before lane
  pub done : (lane : ℕ) → current s before lane ≡ None → current s now lane ≡ None
  pub uncancelled : IsUncancelled before → IsUncancelled now

keeps_self : (s : Setting) (past : List Entry) → Keeps s past past
keeps_self s past = record {
  adds = λ lane. refl;
  ends = λ lane. refl;
  holds = λ lane. refl;
  done = λ lane none. none;
  uncancelled = λ u. u;
}

keeps_on : (s : Setting) (a b c : List Entry) → Keeps s a b → Keeps s b c → Keeps s a c
keeps_on s a b c first second = record {
  adds = λ lane. second.adds lane ∙ first.adds lane;
  ends = λ lane. second.ends lane ∙ first.ends lane;
  holds = λ lane. second.holds lane ∙ first.holds lane;
  done = λ lane none. second.done lane (first.done lane none);
  uncancelled = λ u. second.uncancelled (first.uncancelled u);
}

keeps_same : (s : Setting) (before now : List Entry) → now ≡ before → Keeps s before now
keeps_same s before now e = subst (Keeps s before) (sym e) (keeps_self s before)

closes_keep : (s : Setting) (before now : List Entry) → ClosesTo s before now → Keeps s before now
closes_keep s before [] e = keeps_same s before [] (sym e)
closes_keep s before (e ∷ past) (inl same) = keeps_same s before (e ∷ past) (sym same)
closes_keep s before (e ∷ past) (inr (due, rest)) =
    subst (λ (w : Entry). Keeps s before (w ∷ past)) (sym due.1.1.1.1)
    (keeps_on s before past _ (closes_keep s before past rest)
    (record {
      adds = λ lane. refl;
      ends = λ lane. refl;
      holds = λ lane. refl;
      done = λ lane none. none;
      uncancelled =
          λ u. u;
    }))

send_keeps : (s : Setting) (past : List Entry) → Keeps s past (entry.Event Send ∷ past)
send_keeps s past = record {
  adds = λ lane. refl;
  ends = λ lane. refl;
  holds = λ lane. refl;
  done = λ lane none. none;
  uncancelled = λ u. u;
}

sends_keep : (s : Setting) (b : Bool) (mid now : List Entry) → MatchBool b (now ≡ entry.Event Send ∷ mid) (now ≡ mid)
    → Keeps s mid now
sends_keep s true mid now e = subst (Keeps s mid) (sym e) (send_keeps s mid)
sends_keep s false mid now e = keeps_same s mid now e

rules_keep : (s : Setting) (before now : List Entry) → RulesTo s before now → Keeps s before now
rules_keep s before now to = keeps_on s before to.0 now (closes_keep s before to.0 to.1.0.0)
    (sends_keep s (is_full s to.0) to.0 now to.1.1)

-- ---- draining

-- a flush or a take
abbrev OfDrain : Turn → Type 0
OfDrain (turn.Step lane) = ⊥
OfDrain turn.Flush = Unit {0}
OfDrain turn.Take = Unit {0}
OfDrain (turn.Cancel lane) = ⊥

progress_same : (s : Setting) (before now : RunProgress) → now ≡ before → Keeps s before.past now.past
progress_same s before now e = subst (λ (w : RunProgress). Keeps s before.past w.past) (sym e)
    (keeps_self s before.past)

turn_keeps : (s : Setting) (t : Turn) (before now : RunProgress) → OfDrain t → TurnTo s t before now
    → Keeps s before.past now.past
turn_keeps s (turn.Step lane) before now of to = absurd of
turn_keeps s turn.Flush before now of to = by_test (nat_lt (count_sent before.past) (count_submitted before.past)) to
  where
    by_test : (b : Bool) → MatchBool b ((now.begun ≡ before.begun)
        × RulesTo s (entry.Event Send ∷ before.past) now.past) (now ≡ before) → Keeps s before.past now.past
    by_test true to =
        keeps_on s before.past (entry.Event Send ∷ before.past) now.past (send_keeps s before.past)
        (rules_keep s (entry.Event Send ∷ before.past) now.past to.1)
    by_test false e = progress_same s before now e
turn_keeps s turn.Take before now of to = by_test (nat_lt 0 (count_awaited before.past)) to
  where
    by_test : (b : Bool) → MatchBool b ((now.begun ≡ before.begun)
        × ((id : ℕ) × ((r : Reply) × (MayTake before.past id r × RulesTo s (entry.Event (Take id r) ∷ before.past)
        now.past)))) (now ≡ before) → Keeps s before.past now.past
    by_test true to =
        keeps_on s before.past (entry.Event (Take to.1.0 to.1.1.0) ∷ before.past) now.past
        (record {
          adds = λ lane. refl;
          ends = λ lane. refl;
          holds = λ lane. refl;
          done = λ lane none. none;
          uncancelled = λ u. u;
        })
        (rules_keep s (entry.Event (Take to.1.0 to.1.1.0) ∷ before.past) now.past to.1.1.1.1)
    by_test false e = progress_same s before now e
turn_keeps s (turn.Cancel lane) before now of to = absurd of

pub drains_keep : (s : Setting) (n : ℕ) (before now : RunProgress) → DrainsTo s n before now
    → Keeps s before.past now.past
drains_keep s zero before now e = progress_same s before now e
drains_keep s (suc n) before now to =
    keeps_on s before.past to.1.0.past now.past (one to.1.0 to.1.1.0) (drains_keep s n to.1.0 now to.1.1.1)
  where
    one : (mid : RunProgress) → TurnsTo s (turn.Flush ∷ turn.Take ∷ []) before mid → Keeps s before.past mid.past
    one mid (a, (flush, (b, (take, e)))) =
        keeps_on s before.past b.past mid.past
        (keeps_on s before.past a.past b.past (turn_keeps s turn.Flush before a tt flush)
        (turn_keeps s turn.Take a b tt take))
        (progress_same s b mid e)

-- ---- a lane is let go

pub let_go_keeps : (s : Setting) (lane : ℕ) (before now : RunProgress) → LetGoTo s lane before now
    → Keeps s (entry.LetGo lane ∷ before.past) now.past
let_go_keeps s lane before now to = rules_keep s (entry.LetGo lane ∷ before.past) now.past to.1
