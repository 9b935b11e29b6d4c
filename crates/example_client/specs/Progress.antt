-- The progress of a program, step by step.
use Rattle.std.specs.Prelude.{◌≡◌, ℕ, zero, suc}

-- `n` steps, one after another.
abbrev pub AreStepsOf : {X : Type 0} → (X → X → Type 0) → ℕ → X → X → Type 0
AreStepsOf Step zero old new = new ≡ old
AreStepsOf {X = X} Step (suc n) old new = (mid : X) × (AreStepsOf Step n old mid × Step mid new)

-- Some number of steps lead from one state to the other.
abbrev pub ReachesBySteps : {X : Type 0} → (X → X → Type 0) → X → X → Type 0
ReachesBySteps Step old new = (count : ℕ) × AreStepsOf Step count old new
