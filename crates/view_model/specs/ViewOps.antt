-- believed, except is_within, are_ok
-- The operations on a view, and the lists of operations that it can be given.
use Rattle.std.specs.Prelude.{ℕ, ◌+◌, ◌*◌, Bool, ◌&&◌, List, length, nat_le}
use Rattle.std.specs.List.{list_all, sum_by}
use Rattle.plan_model.specs.FilePlans.{open_request}
use Rattle.sftp_model.specs.Frames.{is_too_long}
use Rattle.plan_model.specs.WindowPlans.{to_read}
use Rattle.view_model.specs.declared.op.ViewOp.{ViewOp}
use Rattle.view_model.specs.declared.op.ViewOp.TheVariants as op

-- The greatest count of an operation's calls, at 2 per call, for blocks of this length.
abbrev pub count : ℕ → ViewOp → ℕ
count block (op.Get path offset len) = 12 * (len + 2 * block + 2)
count block (op.Put path offset content) = 12

-- An operation is within its ranges.
abbrev pub is_within : ViewOp → Bool
is_within (op.Get path offset len) = nat_le offset 1099511627776 && nat_le len 1048576
is_within (op.Put path offset content) = nat_le (offset + length content) 16777216

-- The greatest sum of the counts.
abbrev pub count_limit : ℕ
count_limit = 2000000000

-- Operations that a view can be given, for blocks of this length.
abbrev pub are_ok : ℕ → List ViewOp → Bool
are_ok block ops = list_all is_within ops && nat_le (sum_by (count block) ops) count_limit

-- The OPEN of a path is too long for a frame; its flags don't matter.
abbrev pub passes_length : List ℕ → Bool
passes_length path = is_too_long (open_request to_read path)
