use Rattle.sftp_model.specs.Frames.{attributes}
use Rattle.sftp_wire.proofs.Puts.{both_written, then_written}
use Rattle.sftp_wire.proofs.fields.put_attributes.Goals as goal

pub returns-clause-ok : goal.returns-clause-ok
unfolding attributes
returns-clause-ok c =
    then_written _ _ _ _ _ _
    (both_written _ _ _ _ _
    (both_written _ _ _ _ _
    (both_written _ _ _ _ _ (rw c.attribute_bits.ensures at c.in_ok-put_number.ensures.ok) c.in_ok-put_size.ensures.ok)
    c.in_ok-put_two.ensures.ok)
    c.in_ok-put_permissions.ensures.ok)
    c.put_two-2.ensures.ok
