use Rattle.std.specs.String.{string_bytes}
use Rattle.transfer_args.proofs.FewLaws.{too_few}
use Rattle.transfer_args.proofs.parser.read_words.Goals as goal

pub returns-in_default : goal.returns-in_default
returns-in_default c = too_few string_bytes c.args.words.now c.in_default.len_below
