-- Turns that are left to be given.
use Rattle.std.proofs.Common.{◌≡◌, ◌<◌, ◌+◌, ◌-◌, ℕ, List, [], ◌∷◌, ◌++◌, ap, sym, ◌∙◌}
use Rattle.std.specs.Prelude.{replicate}
use Rattle.std.proofs.lemmas.List.{append_assoc}
use Rattle.session_model.specs.declared.turn.Turn.{Turn}
use Rattle.session_model.specs.declared.turn.Turn.TheVariants as turn
use Rattle.mirror_jobs.proofs.DealtLaws.{one_left}
use Rattle.mirror_jobs.specs.JobLanes.{repeat_turn, steps_from}

pub repeated_on : (turns : List Turn) (k n : ℕ) (done new all : List Turn) → done ++ repeat_turn (n - k) turns ≡ all
    → k < n → new ≡ done ++ turns
    → new ++ repeat_turn (n - (k + 1)) turns ≡ all
repeated_on turns k n done new all so_far lt more =
    (λ i. more i ++ repeat_turn (n - (k + 1)) turns)
    ∙ append_assoc done turns (repeat_turn (n - (k + 1)) turns)
    ∙ ap (λ (m : ℕ). done ++ repeat_turn m turns) (sym (one_left k n lt))
    ∙ so_far

pub steps_on : (k n : ℕ) (done new all : List Turn) → done ++ steps_from (k + 1) (n - k) ≡ all → k < n → new ≡ done
    ++ turn.Step (k + 1) ∷ []
    → new ++ steps_from (k + 1 + 1) (n - (k + 1)) ≡ all
steps_on k n done new all so_far lt more =
    (λ i. more i ++ steps_from (k + 1 + 1) (n - (k + 1)))
    ∙ append_assoc done (turn.Step (k + 1) ∷ []) (steps_from (k + 1 + 1) (n - (k + 1)))
    ∙ ap (λ (m : ℕ). done ++ steps_from (k + 1) m) (sym (one_left k n lt))
    ∙ so_far

pub takes_on : (k n : ℕ) (done new all : List Turn) → done ++ replicate (n - k) turn.Take ≡ all → k < n → new ≡ done
    ++ turn.Take ∷ []
    → new ++ replicate (n - (k + 1)) turn.Take ≡ all
takes_on k n done new all so_far lt more =
    (λ i. more i ++ replicate (n - (k + 1)) turn.Take)
    ∙ append_assoc done (turn.Take ∷ []) (replicate (n - (k + 1)) turn.Take)
    ∙ ap (λ (m : ℕ). done ++ replicate m turn.Take) (sym (one_left k n lt))
    ∙ so_far
