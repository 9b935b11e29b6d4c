use Rattle.std.proofs.Common.{arith}
use Rattle.sftp_meta.proofs.Bits.{has_bit-with_bit, has_bit-with_bit_other}
use Rattle.sftp_meta.proofs.laws.permissions_by_bit.Goals as goal

pub returns-clause-reads_back : goal.returns-clause-reads_back
returns-clause-reads_back c bits k value small = has_bit-with_bit bits k value (omega arith)

pub returns-clause-others_stay : goal.returns-clause-others_stay
returns-clause-others_stay c bits j k value within small apart =
    has_bit-with_bit_other bits j k value (omega arith) (omega arith) apart
