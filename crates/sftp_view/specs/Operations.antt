-- The effect of a view, operation by operation.
use Rattle.std.specs.Prelude.{◌≡◌, ◌≤◌, ◌<◌, ◌+◌, ◌*◌, ◌-◌, ◌^◌, ℕ, true, List, [], length}
use Rattle.std.specs.List.{list_all}
use Rattle.sftp_link.specs.Views.{LinkView}
use Rattle.session_driver.specs.Ongoing.{run_state}
use Rattle.sftp_lanes.specs.Seen.{seen_of}
use Rattle.view_model.specs.Viewed.{Doing, Viewed, pure, viewed_from}
use Rattle.view_model.specs.ViewOps.{is_within}
use Rattle.view_model.specs.declared.answer.Answer.{Answer}
use Rattle.view_model.specs.declared.op.ViewOp.{ViewOp}
use Rattle.sftp_view.specs.Doings.{IsIdle, MayDo}
use Rattle.sftp_view.specs.Working.{count_lookups}
use Rattle.sftp_view.specs.declared.ops.View.{View}

-- The effect of operations through a view that has these blocks.
abbrev pub done_by : List ViewOp → View → Doing Viewed
done_by ops view = viewed_from view.block view.cache.capacity ops [] view.cache.kept

-- Nothing remains to be done: these are the answers, and the blocks that the view keeps are kept.
abbrev pub left_by : List Answer → View → Doing Viewed
left_by answers view = pure (record { answers = answers; kept = view.cache.kept })

-- The greatest number of blocks that are looked up.
abbrev pub most : List ViewOp → ℕ
most ops = 2097152 * length ops

-- A view may do these operations: its session is idle, they are within their ranges, their calls are few, blocks have 1
-- to 65536 bytes, and the counts are far from their end.
pub record MayRunAll {Service : Type 0} (ops : List ViewOp) (view : View) (link : LinkView Service) : Type 0 where
  pub idle : IsIdle (run_state (seen_of view.session) link)
  pub may : MayDo (done_by ops view) (seen_of view.session).progress.past
  pub within : list_all is_within ops ≡ true
  pub some : 1 ≤ view.block
  pub short : view.block ≤ 65536
  pub counts : count_lookups view.cache + most ops < 2 ^ 64 - 1
