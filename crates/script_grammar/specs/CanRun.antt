-- The properties of a script that was read.
use Rattle.std.specs.Prelude.{◌≡◌, ◌≤◌, ◌==◌, Bool, not, true}
use Rattle.std.specs.List.{list_all}
use Rattle.sftp_model.specs.Fits.{FitsSet}
use Rattle.sftp_model.specs.Numbers.{SSH_FX_EOF}
use Rattle.sftp_model.specs.declared.config.Choice.{Choice}
use Rattle.machine_model.specs.FirstTree.{may_begin}
use Rattle.plan_model.specs.Lanes.{are_ok}
use Rattle.script_grammar.specs.declared.script.Script.{Script}

-- True if the choice does not refuse a request by the status that reports the end of a file or of a listing.
abbrev pub feigns_no_end : Choice → Bool
feigns_no_end choice = not (choice.refuse == SSH_FX_EOF)

-- A server may start with the files and directories, the extensions that it offers are known ones, a write of the
-- client carries at least a byte, and no choice feigns an end.
pub record CanBegin (script : Script) : Type 0 where
  pub begins : may_begin script.files script.dirs ≡ true
  pub known : FitsSet script.server.extensions.0
  pub writes : 1 ≤ script.options.tokio_compat_file_write_limit
  pub unfeigned : list_all feigns_no_end script.choices ≡ true

-- The same, and a session can be given the lanes.
pub record CanRun (script : Script) : Type 0 where
  pub begins : may_begin script.files script.dirs ≡ true
  pub known : FitsSet script.server.extensions.0
  pub writes : 1 ≤ script.options.tokio_compat_file_write_limit
  pub unfeigned : list_all feigns_no_end script.choices ≡ true
  pub lanes : are_ok script.lanes ≡ true
