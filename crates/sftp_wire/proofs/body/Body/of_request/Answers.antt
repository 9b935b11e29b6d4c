use Rattle.std.proofs.Common.{append_assoc, append-nil, refl}
use Rattle.sftp_model.specs.Frames.{request_body}
use Rattle.sftp_wire.proofs.body.Body.of_request.Goals as goal

pub returns-in-PosixRename : goal.returns-in-PosixRename
unfolding request_body
returns-in-PosixRename c id = rw (
  c.of_type-in-PosixRename.ensures,
  c.three-in-PosixRename.ensures,
  c.as_bytes-in-PosixRename.ensures,
  c.as_bytes-in-PosixRename-2.ensures,
  c.in-PosixRename.is,
) (simp append-nil refl)

pub returns-in-Hardlink : goal.returns-in-Hardlink
unfolding request_body
returns-in-Hardlink c id = rw (
  c.of_type-in-Hardlink.ensures,
  c.three-in-Hardlink.ensures,
  c.as_bytes-in-Hardlink.ensures,
  c.as_bytes-in-Hardlink-2.ensures,
  c.in-Hardlink.is,
) (simp append-nil refl)

pub returns-in-Fsync : goal.returns-in-Fsync
unfolding request_body
returns-in-Fsync c id = rw (
  c.of_type-in-Fsync.ensures,
  c.two-in-Fsync.ensures,
  c.as_bytes-in-Fsync.ensures.value,
  c.in-Fsync.is,
) (simp append-nil refl)

pub returns-in-ExpandPath : goal.returns-in-ExpandPath
unfolding request_body
returns-in-ExpandPath c id = rw (
  c.of_type-in-ExpandPath.ensures,
  c.two-in-ExpandPath.ensures,
  c.as_bytes-in-ExpandPath.ensures,
  c.in-ExpandPath.is,
) (simp append-nil refl)

pub returns-in-CopyData : goal.returns-in-CopyData
unfolding request_body
returns-in-CopyData c id = rw (
  c.of_type-in-CopyData.ensures,
  c.as_bytes-in-CopyData.ensures.value,
  c.as_bytes-in-CopyData-2.ensures.value,
  c.in-CopyData.is,
) (simp (append_assoc, append-nil) refl)

pub returns-in-LimitsQuery : goal.returns-in-LimitsQuery
unfolding request_body
returns-in-LimitsQuery c id = rw (c.of_type-in-LimitsQuery.ensures, c.one-in-LimitsQuery.ensures, c.in-LimitsQuery.is)
    (simp append-nil refl)
