use Rattle.std.proofs.Common.{◌∙◌, Bool, not, arith}
use Rattle.sftp_meta.specs.Permissions.{with_bit}
use Rattle.sftp_meta.proofs.Bits.{has_bit-with_bit_other, readonly_reads_back}
use Rattle.sftp_meta.proofs.laws.readonly_by_bits.Goals as goal

pub returns-clause-reads_back : goal.returns-clause-reads_back
returns-clause-reads_back c = readonly_reads_back

pub returns-clause-others_stay : goal.returns-clause-others_stay
returns-clause-others_stay c bits k readonly small not_owner not_group not_others =
    let value : Bool = not readonly in
    has_bit-with_bit_other (with_bit (with_bit bits 0o200 value) 0o20 value) k 1 value (omega arith) (omega arith)
    not_others
    ∙ has_bit-with_bit_other (with_bit bits 0o200 value) k 4 value (omega arith) (omega arith) not_group
    ∙ has_bit-with_bit_other bits k 7 value (omega arith) (omega arith) not_owner
