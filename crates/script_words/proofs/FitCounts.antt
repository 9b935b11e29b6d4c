-- How long the words of a line and the lines of a script are together.
use Rattle.std.proofs.Common.{◌≡◌, ◌≤◌, ℕ, suc, ◌+◌, Bool, true, false, List, [], ◌∷◌, refl, arith, if◌then◌else◌, length}
use Rattle.std.specs.Prelude.{◌*◌, ◌==◌}
use Rattle.script_words.specs.Lines.{with_front, lines_of, words_of, starts_word}

-- ---- words

-- the lengths of words together
abbrev pub words_len : List (List ℕ) → ℕ
words_len [] = 0
words_len (word ∷ words) = length word + words_len words

front_len : (b : ℕ) (words : List (List ℕ)) → words_len (with_front b words) ≡ words_len words + 1
front_len b [] = refl
front_len b (word ∷ words) = omega arith

word_if : (space starts : Bool) (b n : ℕ) (words : List (List ℕ)) → words_len words ≤ n
    → words_len (if space then words else if starts then with_front b words else (b ∷ []) ∷ words) ≤ n + 1
word_if true starts b n words h = omega (arith, h)
word_if false true b n words h = let front = front_len b words in omega (arith, h, front)
word_if false false b n words h = omega (arith, h)

-- the words of a line are together no longer than the line
pub words_fit : (line : List ℕ) → words_len (words_of line) ≤ length line
words_fit [] = omega arith
words_fit (b ∷ line) = let h = word_if (b == 32) (starts_word line) b (length line) (words_of line) (words_fit line) in
    omega (arith, h)

-- ---- lines

-- what a line may count: 65, and 1 for each byte
abbrev pub line_cost : List ℕ → ℕ
line_cost line = 65 + length line

-- what lines may count together
abbrev pub lines_cost : List (List ℕ) → ℕ
lines_cost [] = 0
lines_cost (line ∷ lines) = line_cost line + lines_cost lines

front_cost : (b : ℕ) (lines : List (List ℕ)) → lines_cost (with_front b lines) ≤ lines_cost lines + 66
front_cost b [] = omega arith
front_cost b (line ∷ lines) = omega arith

line_if : (ends : Bool) (b n : ℕ) (lines : List (List ℕ)) → lines_cost lines ≤ n
    → lines_cost (if ends then [] ∷ lines else with_front b lines) ≤ n + 66
line_if true b n lines h = omega (arith, h)
line_if false b n lines h = let front = front_cost b lines in omega (arith, h, front)

-- the lines of a text count at most 66 for each of its bytes
pub lines_fit : (bytes : List ℕ) → lines_cost (lines_of bytes) ≤ length bytes * 66
lines_fit [] = omega arith
lines_fit (b ∷ bytes) = let h = line_if (b == 10) b (length bytes * 66) (lines_of bytes) (lines_fit bytes) in
    omega (arith, h)
