use Rattle.std.proofs.Common.{ℕ, List}
use Rattle.sftp_model.specs.Frames.{extension_pair, posix_rename_name, hardlink_name, fsync_name, expand_path_name, copy_data_name, limits_name}
use Rattle.sftp_wire.proofs.Puts.{then_written, last_written, grows_trans}
use Rattle.sftp_wire.proofs.fields.put_pairs.Goals as goal

pub returns-clause-ok : goal.returns-clause-ok
returns-clause-ok c =
    let pair = λ (row : List ℕ × ℕ). extension_pair c.args.set.0 row in
    then_written c.args.out.now.items _ _ (pair (posix_rename_name, 1)) _ _ c.in_ok-put_pair.ensures.ok
    (then_written c.put_pair.new.out.items _ _ (pair (hardlink_name, 2)) _ _ c.in_ok-put_pair-2.ensures.ok
    (then_written c.put_pair-2.new.out.items _ _ (pair (fsync_name, 4)) _ _ c.in_ok-put_pair-3.ensures.ok
    (then_written c.put_pair-3.new.out.items _ _ (pair (expand_path_name, 8)) _ _ c.in_ok-put_pair-4.ensures.ok
    (then_written c.put_pair-4.new.out.items _ _ (pair (copy_data_name, 16)) _ _ c.in_ok-put_pair-5.ensures.ok
    (last_written c.put_pair-5.new.out.items _ (pair (limits_name, 32)) _ c.put_pair-6.ensures.ok)))))

pub returns-clause-grows : goal.returns-clause-grows
returns-clause-grows c =
    grows_trans _ _ _ c.put_pair.ensures.grows
    (grows_trans _ _ _ c.put_pair-2.ensures.grows
    (grows_trans _ _ _ c.put_pair-3.ensures.grows
    (grows_trans _ _ _ c.put_pair-4.ensures.grows (grows_trans _ _ _ c.put_pair-5.ensures.grows
    c.put_pair-6.ensures.grows))))
