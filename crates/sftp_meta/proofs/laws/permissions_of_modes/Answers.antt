use Rattle.sftp_meta.proofs.Bits.{has_bit-permission_bits}
use Rattle.sftp_meta.proofs.laws.permissions_of_modes.Goals as goal

pub returns-clause-each_bit : goal.returns-clause-each_bit
returns-clause-each_bit c = has_bit-permission_bits
