-- Worked runs so far, and a near miss.
use Rattle.std.specs.Prelude.{◌≡◌, ℕ, zero, suc, List, [], ◌∷◌, codes, refl}
use Rattle.std.proofs.Common.{◌∙◌, ap, arith, inl, inr}
use Rattle.ssh_encoding.specs.Writing.{uint32, string}
use Rattle.sftp_model.specs.Frames.{request_body, attributes}
use Rattle.plan_model.specs.declared.call.Call.{Call}
use Rattle.session_model.specs.declared.entry.Entry.{Entry}
use Rattle.session_model.specs.declared.entry.Entry.TheVariants as entry
use Rattle.session_model.specs.declared.turn.Turn.TheVariants as turn
use Rattle.session_model.specs.Calls.{Setting}
use Rattle.session_model.specs.Readings.{count_unanswered}
use Rattle.session_model.specs.Turns.{RunProgress, begun_with}
use Rattle.session_model.specs.Runs.{DrainsTo, at_first}
use Rattle.session_model.specs.RowWords.{setting_with, submit, send, open_of}
use Rattle.session_model.specs.LaneRows.{opens}
use Rattle.session_driver.specs.RunsSoFar.{RunSoFar, in_opening, in_turns, in_rounds, in_letting_go, in_drains, whole}

-- ---- A run that is cut within a turn

-- One lane opens a file, and no request may stay unsent.
abbrev pub hasty : Setting
hasty = record opens { max_pending = 0 }

abbrev pub submitted : List Entry
submitted = submit 0 0 0 (open_of (codes "a")) ∷ []

abbrev pub stepped : List Entry → RunProgress
stepped past = record { past = past; begun = begun_with (at_first []).begun 0 }

-- The request was submitted, and the Send that follows has not come.
pub cut_in_turn : RunSoFar hasty (turn.Step 0 ∷ []) submitted
unfolding request_body attributes string uint32
cut_in_turn = in_turns [] refl (inl (inr (record {
  now = stepped submitted;
  event =
      (refl, (0, ((omega arith, refl), (inl refl, refl))));
  is = refl;
})))

-- The Send has come: the turn is whole.
pub cut_after_turn : RunSoFar hasty (turn.Step 0 ∷ []) (send ∷ submitted)
unfolding request_body attributes string uint32
cut_after_turn = in_turns [] refl (inr (
  stepped (send ∷ submitted),
  ((refl, (0, ((omega arith, refl), (submitted, ((inl refl, refl), refl))))), refl),
))

-- ---- No call is added in a run

drained_none : (s : Setting) (n : ℕ) (before now : RunProgress) → before.past ≡ [] → DrainsTo s n before now → now.past
    ≡ []
drained_none s zero before now none drains = ap (λ (w : RunProgress). w.past) drains ∙ none
drained_none s (suc n) before now none drains = absurd (let some = drains.0 in let zero : count_unanswered before.past
    ≡ 0 =
    ap count_unanswered none in omega (arith, some, zero))

pub with_added : (c : Call) → RunSoFar (setting_with []) [] (entry.Added 0 c ∷ []) → ⊥
with_added c (in_opening past) = absurd cc
with_added c (in_turns opened opens part) = absurd cc
with_added c (in_rounds opened turned opens turns part) = (let there = part.there in absurd (omega (arith, there)))
with_added c (in_letting_go opened turned ended opens turns ends part) =
    (let there = part.there in absurd (omega (arith, there)))
with_added c (in_drains opened turned ended let_go opens turns ends goes part) =
    let none : let_go.past ≡ [] = ap (λ (w : RunProgress). w.past) (goes ∙ ends ∙ turns) ∙ opens in
    let zero : count_unanswered part.mid.past ≡ 0 = ap count_unanswered
    (drained_none (setting_with []) part.drains let_go part.mid
    none part.whole) in
    let some = part.left in
    absurd (omega (arith, some, zero))
with_added c (whole run) =
    let by = run.1.0 in
    let none : run.0.let_go.past ≡ [] = ap (λ (w : RunProgress). w.past) (by.lets_go ∙ by.ends ∙ by.turns) ∙ by.opens in
    let empty = drained_none (setting_with []) by.drains.0 run.0.let_go run.0.drained none by.drains.1 in
    let same = run.1.1 in
    absurd cc
