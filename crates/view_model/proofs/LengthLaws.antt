-- How long the OPEN of a path is.
use Rattle.std.proofs.Common.{◌≡◌, ◌+◌, ℕ, List, length, arith, ap}
use Rattle.std.specs.Prelude.{nat_lt}
use Rattle.sftp_model.specs.Frames.{request_body}
use Rattle.sftp_model.specs.Numbers.{MAX_BODY_LEN}
use Rattle.sftp_wire.proofs.Lengths.{lengths}
use Rattle.plan_model.specs.FilePlans.{open_request}
use Rattle.plan_model.specs.WindowPlans.{to_read}
use Rattle.view_model.specs.ViewOps.{passes_length}

pub open_len : (path : List ℕ) → length (request_body (open_request to_read path) 0) ≡ length path + 17
unfolding request_body
open_len path = simp lengths (omega arith)

pub passes_by : (path : List ℕ) → passes_length path ≡ nat_lt MAX_BODY_LEN (length path + 17)
passes_by path = ap (nat_lt MAX_BODY_LEN) (open_len path)
