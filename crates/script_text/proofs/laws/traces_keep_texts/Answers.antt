use Rattle.script_text.proofs.TraceLaws.{trace_text}
use Rattle.script_text.proofs.laws.traces_keep_texts.Goals as goal

pub returns : goal.returns
returns c = trace_text
