use Rattle.std.proofs.Common.{refl, arith}
use Rattle.std.proofs.lemmas.Grind.{common_steps}
use Rattle.ssh_encoding.proofs.Suffix.{suffix_trans}
use Rattle.ssh_encoding.proofs.reader.Reader.read_prefixed.Goals.{then-is_ok, else-is_ok}
use Rattle.ssh_encoding.proofs.reader.Reader.read_prefixed.Goals as goal

pub returns-clause-read : goal.returns-clause-read
returns-clause-read g c = rw c.in_ok-inner.ensures.read.0 (
  record
      { inner = c.in_ok-inner.inner; after = c.call_with-result.new.x; shows = refl; met = c.call_with-result.ensures },
  grind (arith, common_steps),
)

pub returns-clause-rest : goal.returns-clause-rest
returns-clause-rest g c =
    elim c.if-is_ok.branch [
      | then-is_ok w ↦ rw w.self-is (suffix_trans _ _ _ w.skip.ensures.rest c.read_prefix.ensures.rest)
      | else-is_ok w ↦ rw w.self-is c.read_prefix.ensures.rest
    ]
