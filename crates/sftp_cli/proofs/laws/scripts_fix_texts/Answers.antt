use Rattle.sftp_cli.proofs.Fixing.{one_text}
use Rattle.sftp_cli.proofs.laws.scripts_fix_texts.Goals as goal

pub returns : goal.returns
returns c = one_text
