-- Threads may share a session and a run, and be lent seats.
use denote.RattleType.{RattleType}
use denote.Param.Send.{IsSend, IsSync, recorded_sync, sendable, struct_sync}
use denote.Struct.Declared.{shape}
use Rattle.std.proofs.Crossing.{crosses}
use Rattle.session_seats.proofs.seat.Seat.TheSendSync as seat
use Rattle.session_seats.proofs.shared.Shared.TheSendSync as shared
use Rattle.session_seats.specs.contracts.seat.Seat as of_seat
use Rattle.sftp_model.proofs.error.Error.TheSendSync as err
use Rattle.sftp_model.specs.contracts.error.Error as of_error
use Rattle.sftp_tasks.specs.contracts.locked.Locked as of_locked
use Rattle.sftp_tasks.specs.contracts.locked.LockedHeld.TheImpl.{ghosts}
use Rattle.sftp_tasks.specs.contracts.shared_sftp.SharedSftp as of_shared
use Rattle.sftp_tasks.proofs.Sends.{locked_sends}
use Rattle.session_threads.proofs.shared_run.Signals.TheSendSync as signals
use Rattle.session_threads.specs.contracts.shared_run.SharedRun as of_run

pub shared_syncs : IsSync of_shared.the_row
shared_syncs = search (sendable, crosses, locked_sends, shared.the_field_sync) depth 20

-- the same as a field of another type
shared_field_syncs : IsSync (of_shared.the_field).row
shared_field_syncs = search (sendable, crosses, locked_sends, shared.the_field_sync) depth 20

pub seat_sends : IsSend (of_seat.the_row of_locked.the_row ghosts)
seat_sends = search (sendable, crosses, locked_sends, seat.the_field_send) depth 20

pub error_sends : IsSend of_error.the_row
error_sends = err.the_send

-- threads may share a run, if they may share what stops their waits
pub run_syncs : (S : RattleType) → IsSync S → IsSync (of_run.the_row S)
run_syncs S s = recorded_sync (of_run.the_field S).row _ _ (of_run.the_type S).to_one
    (struct_sync (shape (of_run.the_type S)) (shared_field_syncs, (signals.the_field_sync S s, tt)))
