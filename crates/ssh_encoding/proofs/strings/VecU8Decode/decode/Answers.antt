use Rattle.std.proofs.Common.{rules}
use Rattle.ssh_encoding.specs.Reading.{all_at}
use Rattle.ssh_encoding.proofs.Prefix.{reads_prefixed}
use Rattle.ssh_encoding.proofs.strings.VecU8Decode.decode.Goals as goal

pub returns-clause-read : goal.returns-clause-read
returns-clause-read g c = reads_prefixed _ _ _ _ _ _ all_at (g.R.Reader.left c.args.reader.now) _ _ _ (λ d e h. h)
    (λ inner after h. search rules) c.read_prefixed.ensures.read
