-- The properties of a list of operations that was read.
use Rattle.std.specs.Prelude.{◌≡◌, ◌==◌, ℕ, Bool, true}
use Rattle.std.specs.List.{list_all}
use Rattle.sftp_model.specs.Numbers.{SSH_FX_OK}
use Rattle.sftp_model.specs.declared.config.Choice.{Choice}
use Rattle.script_grammar.specs.CanRun.{CanBegin}
use Rattle.view_model.specs.ViewOps.{are_ok}
use Rattle.view_model.specs.declared.list.ViewList.{ViewList}

-- The choice refuses nothing.
abbrev pub refuses_nothing : Choice → Bool
refuses_nothing choice = choice.refuse == SSH_FX_OK

-- A server may start with the lines of setup, none of its choices refuses anything, and a view whose blocks have this
-- length can be given the operations.
pub record CanView (block : ℕ) (list : ViewList) : Type 0 where
  pub begins : CanBegin list.script
  pub unrefused : list_all refuses_nothing list.script.choices ≡ true
  pub ok : are_ok block list.ops ≡ true
