use Rattle.std.proofs.Common.{◌≡◌, length}
use Rattle.script_words.specs.Lines.{bytes_in, words_of}
use Rattle.script_words.specs.Fields.{each_in}
use Rattle.script_words.proofs.PartLaws.{behind_these}
use Rattle.script_words.proofs.parts.each_in.Given as goal

-- the words that are left give the parts of all
abbrev pub invariant-loop-word : goal.invariant-loop-word
invariant-loop-word l = each_in bytes_in (words_of l.line) ≡ behind_these l.parts.items
    (each_in bytes_in (words_of l.rest))

abbrev pub decreases-loop-word : goal.decreases-loop-word
decreases-loop-word l = length (words_of l.rest)
