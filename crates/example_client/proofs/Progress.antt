-- Steps of a program, one after another.
use Rattle.std.proofs.Common.{◌≡◌, zero, suc, refl, subst, sym}
use Rattle.example_client.specs.Progress.{ReachesBySteps}

pub steps_on : {X : Type 0} (Step : X → X → Type 0) (a b c : X) → ReachesBySteps Step a b → Step b c
    → ReachesBySteps Step a c
steps_on Step a b c g step = (suc g.0, (b, (g.1, step)))

pub first_step : {X : Type 0} (Step : X → X → Type 0) (a b : X) → Step a b → ReachesBySteps Step a b
first_step Step a b step = (suc zero, (a, (refl, step)))

pub steps_both : {X : Type 0} (Step : X → X → Type 0) (a b c : X) → ReachesBySteps Step a b → ReachesBySteps Step b c
    → ReachesBySteps Step a c
steps_both {X = X} Step a b c g (zero, h) = subst (λ (x : X). ReachesBySteps Step a x) (sym h) g
steps_both Step a b c g (suc n, h) = steps_on Step a h.0 c (steps_both Step a b h.0 g (n, h.1.0)) h.1.1
