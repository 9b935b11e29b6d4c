-- Command lines with fewer words than a command has operands.
use Rattle.std.proofs.Common.{◌≡◌, ◌≤◌, ◌<◌, List, [], ◌∷◌, ℕ, Some, length, map, refl, arith}
use Rattle.program_shell.specs.Commands.{CommandWords, FewWords, OperandWords, operands_misfit}

pub few_words : {A B : Type 0} (operand : A → OperandWords) (word : B → List ℕ) (command : CommandWords) (operands : List A)
    (words : List B) → 1 ≤ length operands → length words < 1
    → operands_misfit command (map operand operands) (map word words) ≡ Some (FewWords command)
few_words operand word command (o ∷ operands) [] some none = refl
few_words operand word command [] [] some none = absurd (omega (arith, some))
few_words operand word command [] (w ∷ words) some none = absurd (omega (arith, none))
few_words operand word command (o ∷ operands) (w ∷ words) some none = absurd (omega (arith, none))
