-- believed
-- A grant as its callers see it.
use Rattle.std.specs.Prelude.{ℕ, List}

-- The id of the request that brought it, and the handle.
pub record GrantValue : Type 0 where
  pub id : ℕ
  pub handle : List ℕ
