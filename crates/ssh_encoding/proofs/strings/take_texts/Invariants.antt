use Rattle.std.proofs.Common.{◌≡◌, ◌-◌}
use Rattle.ssh_encoding.specs.Reading.{texts_within, texts_of, with_prefix}
use Rattle.ssh_encoding.proofs.strings.take_texts.Given as goal

-- the texts read so far, and what is read from the rest, are what is read from the whole
abbrev pub invariant-loop-i : goal.invariant-loop-i
invariant-loop-i g l = with_prefix (texts_of l.texts.items) (texts_within (l.most - l.i) (g.R.Reader.left l.reader))
    ≡ texts_within l.most (g.R.Reader.left l.fn.reader)
