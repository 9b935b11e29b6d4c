use Rattle.run_laws.proofs.OneText.{one_text}
use Rattle.run_laws.proofs.texts.texts_are_fixed.Goals as goal

pub returns : goal.returns
returns c = one_text
