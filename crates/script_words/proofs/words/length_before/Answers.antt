use Rattle.std.proofs.Common.{sym}
use Rattle.script_words.proofs.Splits.{place_None}
use Rattle.script_words.proofs.words.length_before.Goals as goal

pub returns-in-None-clause-value : goal.returns-in-None-clause-value
returns-in-None-clause-value c = place_None c.args.byte c.args.text.now (sym c.in-None.ensures)
