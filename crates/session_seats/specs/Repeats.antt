-- believed
-- Steps one after another.
use Rattle.std.specs.Prelude.{◌≡◌, Bool, false, List, [], ◌∷◌, Result, Ok}

-- Each state comes by a step of the one before it; the states between are listed with the newest first.
abbrev pub IsChainOf : {X : Type 0} → (X → X → Type 0) → X → List X → X → Type 0
IsChainOf Step first [] last = last ≡ first
IsChainOf Step first (x ∷ earlier) last = Step x last × IsChainOf Step first earlier x

-- Some steps lead from one state to the other, or none.
abbrev pub RepeatsSteps : {X : Type 0} → (X → X → Type 0) → X → X → Type 0
RepeatsSteps {X} Step first last = (between : List X) × IsChainOf Step first between last

-- A step with an answer that is followed by another step.
abbrev pub NotLast : {A E X : Type 0} → (A → Bool) → (Result A E → X → X → Type 0) → X → X → Type 0
NotLast {A} is_last Step x y = (a : A) × ((is_last a ≡ false) × Step (Ok a) x y)

-- Steps one after another, and then one with this answer.
abbrev pub StepsUntil : {A E X : Type 0} → (A → Bool) → (Result A E → X → X → Type 0) → Result A E → X → X → Type 0
StepsUntil {A} {E} {X} is_last Step answer first last =
    (mid : X) × (RepeatsSteps (NotLast is_last Step) first mid × Step answer mid last)
