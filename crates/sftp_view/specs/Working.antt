-- The effect of a view, and the blocks that it keeps.
use Rattle.std.specs.Prelude.{◌≡◌, ◌≤◌, ◌<◌, ◌+◌, ◌-◌, ◌^◌, ℕ, Result, OnOk}
use Rattle.sftp_model.specs.declared.error.Error.{Error}
use Rattle.sftp_link.specs.Views.{LinkView}
use Rattle.session_driver.specs.Ongoing.{run_state}
use Rattle.sftp_lanes.specs.Seen.{seen_of}
use Rattle.view_model.specs.Caches.{CacheValue}
use Rattle.view_model.specs.Viewed.{Doing}
use Rattle.sftp_view.specs.Doings.{IsIdle, MayDo, DoesBySession}
use Rattle.sftp_view.specs.declared.ops.View.{View}

-- The number of lookups of blocks.
abbrev pub count_lookups : CacheValue → ℕ
count_lookups cache = cache.kept.hits + cache.kept.misses

-- The view has blocks of the same length and the same capacity, and at most `most` blocks were looked up since.
pub record StaysView (most : ℕ) (old new : View) : Type 0 where
  pub block : new.block ≡ old.block
  pub capacity : new.cache.capacity ≡ old.cache.capacity
  pub few : count_lookups new.cache ≤ count_lookups old.cache + most

-- A view did this up to the rest that remains, or it stopped.
pub record DoesByView {Service T U : Type 0} (whole : Doing T) (rest : U → Doing T) (most : ℕ) (old : View)
    (link : LinkView Service)
    (new : View) (link_now : LinkView Service) (result : Result U Error) : Type 0 where
  pub runs : DoesBySession whole rest (run_state (seen_of old.session) link) (run_state (seen_of new.session) link_now)
      result
  pub stays : OnOk result (StaysView most old new)

-- A view may do this: its session is idle, the calls are few, blocks have 1 to 65536 bytes, and the counts are far from
-- their end.
pub record MayWork {Service T : Type 0} (whole : Doing T) (view : View) (link : LinkView Service) : Type 0 where
  pub idle : IsIdle (run_state (seen_of view.session) link)
  pub may : MayDo whole (seen_of view.session).progress.past
  pub some : 1 ≤ view.block
  pub short : view.block ≤ 65536
  pub counts : count_lookups view.cache + 2097152 < 2 ^ 64 - 1
