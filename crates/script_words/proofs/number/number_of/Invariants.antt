use Rattle.std.proofs.Common.{◌≡◌, ◌≤◌, ◌^◌, drop}
use Rattle.script_words.specs.Lines.{digits_behind}
use Rattle.script_words.proofs.Numbers.{capped}
use Rattle.script_words.proofs.number.number_of.Given as goal

-- the digits that are left give the number of all
abbrev pub invariant-loop-b : goal.invariant-loop-b
invariant-loop-b l = (capped (digits_behind 0 l.word) ≡ capped (digits_behind l.n (drop l.b-index l.word)))
    × (l.n ≤ 2 ^ 64)
