use Rattle.std.proofs.Common.{◌≡◌, ◌+◌, ◌≤◌, length}
use Rattle.script_words.specs.Lines.{lines_of, read_by}
use Rattle.script_grammar.proofs.reader.read_lines.Given as goal

-- the lines that are left give what all give, and each line that was read had a byte
abbrev pub invariant-loop-rest : goal.invariant-loop-rest
invariant-loop-rest g l =
    record {
      same : read_by g.R.LineReader.line_by 1 l.fn.start (lines_of l.fn.text)
          ≡ read_by g.R.LineReader.line_by l.number l.reader (lines_of l.rest);
      few : l.number + length l.rest ≤ 1 + length l.fn.text;
    }

abbrev pub decreases-loop-rest : goal.decreases-loop-rest
decreases-loop-rest g l = length l.rest
