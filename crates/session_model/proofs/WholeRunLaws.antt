-- What the parts of a run keep.
use Rattle.std.proofs.Common.{◌≡◌, ◌≢◌, ◌<◌, ℕ, zero, suc, Bool, true, false, List, [], ◌∷◌, Option, Some, None, refl, ap, sym, ◌∙◌, subst, arith, inl, inr}
use Rattle.std.specs.Prelude.{◌&&◌, nat_lt, is_some, MatchBool}
use Rattle.std.proofs.lemmas.Bool.Decides.{eqb_tells}
use Rattle.sftp_model.specs.declared.outcome.Outcome.{Outcome}
use Rattle.sftp_model.specs.declared.outcome.Outcome.TheVariants as outcome
use Rattle.sftp_model.specs.declared.reply.Reply.{Reply}
use Rattle.sftp_model.specs.declared.slot.Move.{Move}
use Rattle.sftp_model.specs.declared.slot.Move.TheVariants.{Ask, Wait, Done}
use Rattle.plan_model.specs.declared.call.Call.{Call}
use Rattle.session_model.specs.declared.turn.Turn.{Turn}
use Rattle.session_model.specs.declared.turn.Turn.TheVariants as turn
use Rattle.session_model.specs.declared.event.Owner.TheVariants as owner
use Rattle.session_model.specs.declared.event.Event.TheVariants.{Submit, Send, Take, Cancel, End}
use Rattle.session_model.specs.declared.entry.Entry.{Entry}
use Rattle.session_model.specs.declared.entry.Entry.TheVariants as entry
use Rattle.session_model.specs.Readings.{count_submitted, count_sent, answer, own, count_ended, was_let_go, count_awaited}
use Rattle.session_model.specs.Calls.{Setting, current, site_of, move_at, move_of}
use Rattle.session_model.specs.Journals.{MayTake, close_of, cancelled_end}
use Rattle.session_model.specs.Turns.{RunProgress, TurnTo, MovesBy, RulesTo, ClosesTo, is_full, begun_but}
use Rattle.session_model.specs.Runs.{TurnsTo, round_of, RoundsTo, EndsTo, DrainsTo}
use Rattle.session_model.proofs.RunLaws.{GoodStage, turn_good}

-- ---- what turns keep of the lanes

-- a lane without a call stays without one, and no lane is let go
pub record Keeps (s : Setting) (before now : List Entry) : Type 0 where
  pub idle : (lane : ℕ) → current s before lane ≡ None → current s now lane ≡ None
  pub unlet : (lane : ℕ) → was_let_go now lane ≡ was_let_go before lane

keeps_self : (s : Setting) (past : List Entry) → Keeps s past past
keeps_self s past = record { idle = λ lane e. e; unlet = λ lane. refl }

keeps_on : (s : Setting) (a b c : List Entry) → Keeps s a b → Keeps s b c → Keeps s a c
keeps_on s a b c p q = record {
  idle = λ lane e. q.idle lane (p.idle lane e);
  unlet = λ lane. q.unlet lane
      ∙ p.unlet lane;
}

keeps_same : (s : Setting) (before now : List Entry) → now ≡ before → Keeps s before now
keeps_same s before now e = subst (λ (p : List Entry). Keeps s before p) (sym e) (keeps_self s before)

close_keeps : (s : Setting) (past : List Entry) (g id : ℕ) → Keeps s past (close_of past g id ∷ past)
close_keeps s past g id = record { idle = λ lane e. e; unlet = λ lane. refl }

pub closes_keep : (s : Setting) (before now : List Entry) → ClosesTo s before now → Keeps s before now
closes_keep s before [] e = keeps_same s before [] (sym e)
closes_keep s before (e ∷ past) (inl same) = keeps_same s before (e ∷ past) (sym same)
closes_keep s before (e ∷ past) (inr (due, rest)) =
    subst (λ (x : Entry). Keeps s before (x ∷ past)) (sym due.1.1.1.1)
    (keeps_on s before past (close_of past due.0 due.1.1.0 ∷ past) (closes_keep s before past rest)
    (close_keeps s past due.0 due.1.1.0))

pub sends_keep : (s : Setting) (mid now : List Entry) (b : Bool)
    → MatchBool b (now ≡ entry.Event Send ∷ mid) (now ≡ mid) → Keeps s mid now
sends_keep s mid now false e = keeps_same s mid now e
sends_keep s mid now true e = subst (λ (p : List Entry). Keeps s mid p) (sym e)
    (record { idle = λ lane none. none; unlet = λ lane. refl })

rules_keep : (s : Setting) (first now : List Entry) → RulesTo s first now → Keeps s first now
rules_keep s first now to = keeps_on s first to.0 now (closes_keep s first to.0 to.1.0.0)
    (sends_keep s to.0 now (is_full s to.0) to.1.1)

-- an end of a lane that had a call
end_keeps : (s : Setting) (past : List Entry) (lane call : ℕ) (o : Outcome) → current s past lane ≢ None
    → Keeps s past (entry.Event (End lane call o) ∷ past)
end_keeps s past lane call o some =
    record {
      idle = λ l none. elim (eqb_tells lane l) [
        | inl t ↦ absurd (some (subst (λ (k : ℕ). current s past k ≡ None) (sym t.1) none))
        | inr t ↦ rw t.0 none
      ];
      unlet = λ l. refl;
    }

has_call : (c : Option Call) (m : Option Move) → m ≢ None → (c ≡ None → m ≡ None) → c ≢ None
has_call c m some f = λ none. some (f none)

no_move : (s : Setting) (past : List Entry) (lane : ℕ) → current s past lane ≡ None → move_of s past lane ≡ None
no_move s past lane e = ap (λ (c : Option Call). move_at c (site_of s past lane) s.facts
    (own past lane (count_ended past lane)) (answer past)) e

moves_keep : (s : Setting) (lane : ℕ) (before now : RunProgress) (m : Option Move) → move_of s before.past lane ≡ m
    → MovesBy (RulesTo s) lane before now m → Keeps s before.past now.past
moves_keep s lane before now None move e = keeps_same s before.past now.past (ap (λ (x : RunProgress). x.past) e)
moves_keep s lane before now (Some (Wait place)) move e = keeps_same s before.past now.past
    (ap (λ (x : RunProgress). x.past) e)
moves_keep s lane before now (Some (Ask r)) move to =
    let e : Entry = entry.Event (Submit (owner.Call lane (count_ended before.past lane)) to.1.0 r) in
    keeps_on s before.past (e ∷ before.past) now.past (record { idle = λ l none. none; unlet = λ l. refl })
    (rules_keep s (e ∷ before.past) now.past to.1.1.1)
moves_keep s lane before now (Some (Done o site)) move to =
    let e : Entry = entry.Event (End lane (count_ended before.past lane) o) in
    let some : current s before.past lane ≢ None = λ none. absurd (let gone = no_move s before.past lane none in cc) in
    keeps_on s before.past (e ∷ before.past) now.past (end_keeps s before.past lane (count_ended before.past lane) o
    some)
    (rules_keep s (e ∷ before.past) now.past to.1)

flush_keeps : (s : Setting) (before now : RunProgress) (b : Bool) →
    MatchBool b ((now.begun ≡ before.begun) × RulesTo s (entry.Event Send ∷ before.past) now.past) (now ≡ before)
    → Keeps s before.past now.past
flush_keeps s before now false e = keeps_same s before.past now.past (ap (λ (x : RunProgress). x.past) e)
flush_keeps s before now true to =
    keeps_on s before.past (entry.Event Send ∷ before.past) now.past
    (record { idle = λ l none. none; unlet = λ l. refl }) (rules_keep s (entry.Event Send ∷ before.past) now.past
    to.1)

take_keeps : (s : Setting) (before now : RunProgress) (b : Bool)
    → MatchBool b ((now.begun ≡ before.begun) × ((id : ℕ) × ((r : Reply)
    × (MayTake before.past id r × RulesTo s (entry.Event (Take id r) ∷ before.past) now.past)))) (now ≡ before)
    → Keeps s before.past now.past
take_keeps s before now false e = keeps_same s before.past now.past (ap (λ (x : RunProgress). x.past) e)
take_keeps s before now true to =
    let e : Entry = entry.Event (Take to.1.0 to.1.1.0) in
    keeps_on s before.past (e ∷ before.past) now.past (record { idle = λ l none. none; unlet = λ l. refl })
    (rules_keep s (e ∷ before.past) now.past to.1.1.1.1)

some_call : (c : Option Call) (b : Bool) → (is_some c && b) ≡ true → c ≢ None
some_call None b e = absurd cc
some_call (Some c) b e = λ none. absurd cc

cancel_keeps : (s : Setting) (lane : ℕ) (before now : RunProgress) (b : Bool)
    → (is_some (current s before.past lane) && before.begun lane) ≡ b
    → MatchBool b ((now.begun ≡ begun_but before.begun lane)
    × RulesTo s (cancelled_end (entry.Event (Cancel lane) ∷ before.past) lane ∷ entry.Event (Cancel lane) ∷ before.past)
    now.past) (now ≡ before) → Keeps s before.past now.past
cancel_keeps s lane before now false is e = keeps_same s before.past now.past (ap (λ (x : RunProgress). x.past) e)
cancel_keeps s lane before now true is to =
    let c : Entry = entry.Event (Cancel lane) in
    let some : current s before.past lane ≢ None = some_call (current s before.past lane) (before.begun lane) is in
    let first : Keeps s before.past (c ∷ before.past) = record { idle = λ l none. none; unlet = λ l. refl } in
    let second : Keeps s (c ∷ before.past) (cancelled_end (c ∷ before.past) lane ∷ c ∷ before.past) =
    end_keeps s (c ∷ before.past) lane (count_ended before.past lane) outcome.Cancelled some in
    keeps_on s before.past (c ∷ before.past) now.past first
    (keeps_on s (c ∷ before.past) (cancelled_end (c ∷ before.past) lane ∷ c ∷ before.past) now.past second
    (rules_keep s (cancelled_end (c ∷ before.past) lane ∷ c ∷ before.past) now.past to.1))

turn_keeps : (s : Setting) (t : Turn) (before now : RunProgress) → TurnTo s t before now → Keeps s before.past now.past
turn_keeps s (turn.Step lane) before now to = moves_keep s lane before now (move_of s before.past lane) refl to
turn_keeps s turn.Flush before now to = flush_keeps s before now
    (nat_lt (count_sent before.past) (count_submitted before.past)) to
turn_keeps s turn.Take before now to = take_keeps s before now (nat_lt 0 (count_awaited before.past)) to
turn_keeps s (turn.Cancel lane) before now to = cancel_keeps s lane before now
    (is_some (current s before.past lane) && before.begun lane) refl to

-- ---- turns, rounds and drains

pub record Passes (s : Setting) (before now : RunProgress) : Type 0 where
  pub good : GoodStage s before → GoodStage s now
  pub keeps : Keeps s before.past now.past

passes_self : (s : Setting) (before now : RunProgress) → now ≡ before → Passes s before now
passes_self s before now e = record {
  good = λ g. subst (GoodStage s) (sym e) g;
  keeps =
      keeps_same s before.past now.past (ap (λ (x : RunProgress). x.past) e);
}

passes_on : (s : Setting) (a b c : RunProgress) → Passes s a b → Passes s b c → Passes s a c
passes_on s a b c p q = record {
  good = λ g. q.good (p.good g);
  keeps =
      keeps_on s a.past b.past c.past p.keeps q.keeps;
}

pub turns_pass : (s : Setting) (turns : List Turn) (before now : RunProgress) → TurnsTo s turns before now
    → Passes s before now
turns_pass s [] before now e = passes_self s before now e
turns_pass s (t ∷ turns) before now to =
    passes_on s before to.0 now (record {
      good = λ g. turn_good s t before to.0 g to.1.0;
      keeps =
          turn_keeps s t before to.0 to.1.0;
    }) (turns_pass s turns to.0 now to.1.1)

rounds_pass : (s : Setting) (lane n : ℕ) (before now : RunProgress) → RoundsTo s lane n before now → Passes s before now
rounds_pass s lane zero before now e = passes_self s before now e
rounds_pass s lane (suc n) before now to = passes_on s before to.1.0 now
    (turns_pass s (round_of lane) before to.1.0 to.1.1.0) (rounds_pass s lane n to.1.0 now to.1.1.1)

pub drains_pass : (s : Setting) (n : ℕ) (before now : RunProgress) → DrainsTo s n before now → Passes s before now
drains_pass s zero before now e = passes_self s before now e
drains_pass s (suc n) before now to = passes_on s before to.1.0 now
    (turns_pass s (turn.Flush ∷ turn.Take ∷ []) before to.1.0 to.1.1.0) (drains_pass s n to.1.0 now to.1.1.1)

-- the first n lanes have no call left
pub ends_pass : (s : Setting) (n : ℕ) (before now : RunProgress) → EndsTo s n before now → Passes s before now
    × ((lane : ℕ) → lane < n → current s now.past lane ≡ None)
ends_pass s zero before now e = (passes_self s before now e, λ lane lt. absurd (omega arith))
ends_pass s (suc n) before now to =
    let h = ends_pass s n before to.0 to.1.0 in
    let more : Passes s to.0 now = rounds_pass s n to.1.1.0 to.0 now to.1.1.1 in (
      passes_on s before to.0 now h.0 more,
      λ lane lt. elim (eqb_tells lane n) [
        | inl t ↦ subst (λ (k : ℕ). current s now.past k ≡ None) (sym t.1) to.1.2
        | inr t ↦ more.keeps.idle lane (h.1 lane (let ne : lane ≢ n = t.1 in omega arith))
      ],
    )
