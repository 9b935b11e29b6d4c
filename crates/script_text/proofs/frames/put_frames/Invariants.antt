use Rattle.script_text.proofs.Steps.{Walked}
use Rattle.script_text.proofs.frames.put_frames.Given as goal

abbrev pub invariant-loop-i : goal.invariant-loop-i
invariant-loop-i l = Walked l.trace l.initial.out.items l.first l.i l.out.items
