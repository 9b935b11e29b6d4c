-- believed
-- The lines of the answers to operations.
use Rattle.std.specs.Prelude.{ℕ, List, [], ◌∷◌, ◌++◌, codes}
use Rattle.script_text.specs.Texts.{hex_word, line, number_text}
use Rattle.view_model.specs.declared.answer.Answer.{Answer}
use Rattle.view_model.specs.declared.answer.Answer.TheVariants as answer

-- The words of an answer.
abbrev pub answer_text : Answer → List ℕ
answer_text (answer.Got bytes) = codes "got " ++ hex_word bytes
answer_text answer.Put = codes "put"
answer_text (answer.Refused code) = codes "refused " ++ number_text code
answer_text answer.TooLong = codes "toolong"

-- A line for each answer.
abbrev pub answer_lines : List Answer → List ℕ
answer_lines [] = []
answer_lines (a ∷ answers) = line (answer_text a) ++ answer_lines answers

-- A line for each answer, and then the counts.
abbrev pub view_lines : List Answer → ℕ → ℕ → List ℕ
view_lines answers hits misses =
    answer_lines answers ++ line (codes "hits " ++ number_text hits) ++ line (codes "misses " ++ number_text misses)
