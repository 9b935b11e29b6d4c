-- Rounds of a lane add no call, let no lane go, and only add to what has ended.
use Rattle.std.proofs.Common.{
  ◌≡◌,
  ℕ,
  zero,
  suc,
  ◌==◌,
  Bool,
  true,
  false,
  List,
  [],
  ◌∷◌,
  ◌++◌,
  Option,
  Some,
  None,
  if◌then◌else◌,
  refl,
  ap,
  sym,
  ◌∙◌,
  subst,
  inl,
  inr,
}
use Rattle.std.specs.Prelude.{MatchBool, nat_lt}
use Rattle.std.proofs.lemmas.List.{append-nil, append_assoc}
use Rattle.sftp_model.specs.declared.outcome.Outcome.{Outcome}
use Rattle.sftp_model.specs.declared.reply.Reply.{Reply}
use Rattle.sftp_model.specs.declared.slot.Move.{Move}
use Rattle.sftp_model.specs.declared.slot.Move.TheVariants.{Ask, Wait, Done}
use Rattle.session_model.specs.declared.entry.Entry.{Entry}
use Rattle.session_model.specs.declared.entry.Entry.TheVariants as entry
use Rattle.session_model.specs.declared.event.Event.TheVariants.{End, Send, Submit, Take}
use Rattle.session_model.specs.declared.event.Owner.TheVariants as owner
use Rattle.session_model.specs.declared.turn.Turn.{Turn}
use Rattle.session_model.specs.declared.turn.Turn.TheVariants as turn
use Rattle.session_model.specs.Calls.{Setting, calls_added_to, move_of}
use Rattle.session_model.specs.Journals.{MayTake}
use Rattle.session_model.specs.Readings.{count_submitted, count_awaited, count_ended, outcomes_of, count_sent, was_let_go}
use Rattle.session_model.specs.Runs.{RoundsTo, TurnsTo, round_of}
use Rattle.session_model.specs.Turns.{ClosesTo, MovesBy, RulesTo, RunProgress, TurnTo, is_full}
use Rattle.view_model.specs.Uncancelled.{IsUncancelled}

-- no call was added, what had ended is what ended first, no lane was let go, and no call was cancelled
pub record GoesOn (before now : List Entry) : Type 0 where
  pub added_so : (lane : ℕ) → calls_added_to now lane ≡ calls_added_to before lane
  pub ended_so : (lane : ℕ) → (more : List Outcome) × (outcomes_of now lane ≡ outcomes_of before lane ++ more)
  pub held_so : (lane : ℕ) → was_let_go now lane ≡ was_let_go before lane
  pub uncancelled : IsUncancelled before → IsUncancelled now

pub goes_self : (past : List Entry) → GoesOn past past
goes_self past = record {
  added_so = λ lane. refl;
  ended_so = λ lane. ([], sym (append-nil (outcomes_of past lane)));
  held_so = λ lane. refl;
  uncancelled = λ u. u;
}

pub goes_on : (a b c : List Entry) → GoesOn a b → GoesOn b c → GoesOn a c
goes_on a b c first second =
    record {
      added_so = λ lane. second.added_so lane ∙ first.added_so lane;
      ended_so = λ lane. (
          let x = first.ended_so lane in
          let y = second.ended_so lane in
          (x.0 ++ y.0, y.1 ∙ (ap (λ (w : List Outcome). w ++ y.0) x.1 ∙ append_assoc (outcomes_of a lane) x.0 y.0))
          );
      held_so = λ lane. second.held_so lane ∙ first.held_so lane;
      uncancelled = λ u. second.uncancelled (first.uncancelled u);
    }

goes_same : (a b : List Entry) → b ≡ a → GoesOn a b
goes_same a b e = subst (GoesOn a) (sym e) (goes_self a)

-- an entry that is neither a call's End nor an addition
goes_event : (before past : List Entry) (e : Entry) → ((lane : ℕ) → calls_added_to (e ∷ past) lane
    ≡ calls_added_to past lane)
    → ((lane : ℕ) → outcomes_of (e ∷ past) lane ≡ outcomes_of past lane)
    → ((lane : ℕ) → was_let_go (e ∷ past) lane ≡ was_let_go past lane)
    → (IsUncancelled past → IsUncancelled (e ∷ past)) → GoesOn before past → GoesOn before (e ∷ past)
goes_event before past e adds ends holds quiet g =
    goes_on before past (e ∷ past) g (record {
      added_so = adds;
      ended_so = λ lane. ([], ends lane ∙ sym (append-nil (outcomes_of past lane)));
      held_so = holds;
      uncancelled = quiet;
    })

goes_end : (past : List Entry) (l call : ℕ) (o : Outcome) → GoesOn past (entry.Event (End l call o) ∷ past)
goes_end past l call o = record {
  added_so = λ lane. refl;
  ended_so = λ lane. by_test lane (l == lane);
  held_so =
      λ lane. refl;
  uncancelled = λ u. u;
}
  where
    by_test : (lane : ℕ) (b : Bool) → (more : List Outcome) × ((if b then outcomes_of past lane ++ o ∷ [] else
        outcomes_of past lane) ≡ outcomes_of past lane ++ more)
    by_test lane true = (o ∷ [], refl)
    by_test lane false = ([], sym (append-nil (outcomes_of past lane)))

closes_go : (s : Setting) (before now : List Entry) → ClosesTo s before now → GoesOn before now
closes_go s before [] e = goes_same before [] (sym e)
closes_go s before (e ∷ past) (inl same) = goes_same before (e ∷ past) (sym same)
closes_go s before (e ∷ past) (inr (due, rest)) =
    subst (λ (w : Entry). GoesOn before (w ∷ past)) (sym due.1.1.1.1)
    (goes_event before past _ (λ lane. refl) (λ lane. refl) (λ lane. refl) (λ u. u) (closes_go s before past rest))

sends_go : (b : Bool) (mid now : List Entry) → MatchBool b (now ≡ entry.Event Send ∷ mid) (now ≡ mid) → GoesOn mid now
sends_go true mid now e = subst (GoesOn mid) (sym e) (goes_event mid mid (entry.Event Send) (λ lane. refl)
    (λ lane. refl) (λ lane. refl) (λ u. u) (goes_self mid))
sends_go false mid now e = goes_same mid now e

rules_go : (s : Setting) (before now : List Entry) → RulesTo s before now → GoesOn before now
rules_go s before now to = goes_on before to.0 now (closes_go s before to.0 to.1.0.0)
    (sends_go (is_full s to.0) to.0 now to.1.1)

-- behind an entry that is none of these
rules_behind : (s : Setting) (past now : List Entry) (e : Entry)
    → ((lane : ℕ) → calls_added_to (e ∷ past) lane ≡ calls_added_to past lane)
    → ((lane : ℕ) → outcomes_of (e ∷ past) lane ≡ outcomes_of past lane)
    → ((lane : ℕ) → was_let_go (e ∷ past) lane ≡ was_let_go past lane)
    → (IsUncancelled past → IsUncancelled (e ∷ past)) → RulesTo s (e ∷ past) now → GoesOn past now
rules_behind s past now e adds ends holds quiet to =
    goes_on past (e ∷ past) now (goes_event past past e adds ends holds quiet (goes_self past))
    (rules_go s (e ∷ past) now to)

stage_same : (before now : RunProgress) → now ≡ before → GoesOn before.past now.past
stage_same before now e = subst (λ (w : RunProgress). GoesOn before.past w.past) (sym e) (goes_self before.past)

moves_go : (s : Setting) (lane : ℕ) (before now : RunProgress) (m : Option Move) → MovesBy (RulesTo s) lane before now m
    → GoesOn before.past now.past
moves_go s lane before now None e = stage_same before now e
moves_go s lane before now (Some (Wait place)) e = subst (λ (w : RunProgress). GoesOn before.past w.past) (sym e)
    (goes_self before.past)
moves_go s lane before now (Some (Ask r)) to =
    rules_behind s before.past now.past (entry.Event (Submit (owner.Call lane (count_ended before.past lane)) to.1.0 r))
    (λ l. refl) (λ l. refl) (λ l. refl) (λ u. u) to.1.1.1
moves_go s lane before now (Some (Done o site)) to =
    goes_on before.past (entry.Event (End lane (count_ended before.past lane) o) ∷ before.past) now.past
    (goes_end before.past lane (count_ended before.past lane) o) (rules_go s
    (entry.Event (End lane (count_ended before.past lane) o) ∷ before.past) now.past to.1)

-- a round's turns
abbrev OfRound : Turn → Type 0
OfRound (turn.Step lane) = Unit {0}
OfRound turn.Flush = Unit {0}
OfRound turn.Take = Unit {0}
OfRound (turn.Cancel lane) = ⊥

turn_goes : (s : Setting) (t : Turn) (before now : RunProgress) → OfRound t → TurnTo s t before now
    → GoesOn before.past now.past
turn_goes s (turn.Step lane) before now of to = moves_go s lane before now (move_of s before.past lane) to
turn_goes s turn.Flush before now of to = by_test (nat_lt (count_sent before.past) (count_submitted before.past)) to
  where
    by_test : (b : Bool) → MatchBool b ((now.begun ≡ before.begun)
        × RulesTo s (entry.Event Send ∷ before.past) now.past) (now ≡ before) → GoesOn before.past now.past
    by_test true to = rules_behind s before.past now.past (entry.Event Send) (λ l. refl) (λ l. refl) (λ l. refl)
        (λ u. u) to.1
    by_test false e = stage_same before now e
turn_goes s turn.Take before now of to = by_test (nat_lt 0 (count_awaited before.past)) to
  where
    by_test : (b : Bool) → MatchBool b ((now.begun ≡ before.begun)
        × ((id : ℕ) × ((r : Reply) × (MayTake before.past id r × RulesTo s (entry.Event (Take id r) ∷ before.past)
        now.past)))) (now ≡ before) → GoesOn before.past now.past
    by_test true to = rules_behind s before.past now.past (entry.Event (Take to.1.0 to.1.1.0)) (λ l. refl) (λ l. refl)
        (λ l. refl) (λ u. u) to.1.1.1.1
    by_test false e = stage_same before now e
turn_goes s (turn.Cancel lane) before now of to = absurd of

pub rounds_go : (s : Setting) (lane n : ℕ) (before now : RunProgress) → RoundsTo s lane n before now
    → GoesOn before.past now.past
rounds_go s lane zero before now e = stage_same before now e
rounds_go s lane (suc n) before now to =
    goes_on before.past to.1.0.past now.past (one to.1.0 to.1.1.0) (rounds_go s lane n to.1.0 now to.1.1.1)
  where
    one : (mid : RunProgress) → TurnsTo s (round_of lane) before mid → GoesOn before.past mid.past
    one mid (a, (step, (b, (flush, (c, (take, e)))))) =
        goes_on before.past c.past mid.past
        (goes_on before.past b.past c.past (goes_on before.past a.past b.past
        (turn_goes s (turn.Step lane) before a tt step) (turn_goes s turn.Flush a b tt flush))
        (turn_goes s turn.Take b c tt take))
        (stage_same c mid e)
