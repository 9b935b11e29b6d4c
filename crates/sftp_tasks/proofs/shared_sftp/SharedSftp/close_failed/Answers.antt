use Rattle.sftp_tasks.proofs.CloseLaws.{ended_by_fault}
use Rattle.sftp_tasks.proofs.shared_sftp.SharedSftp.close_failed.Goals as goal

pub returns-in-Ok-clause-closes : goal.returns-in-Ok-clause-closes
returns-in-Ok-clause-closes g c = ended_by_fault _ _ _ c.in-Ok.ensures.closes.0 c.in-Ok.ensures.closes.1

pub returns-in-Err-clause-refused : goal.returns-in-Err-clause-refused
returns-in-Err-clause-refused g c =
    let h = c.in-Err.ensures.refused.1.1 in
    record { rest_is = h.rest_is; receipts = h.receipts; lane = h.lane }
