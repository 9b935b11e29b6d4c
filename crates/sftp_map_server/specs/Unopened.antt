-- Servers of files and directories to which no bytes were sent.
use Rattle.std.specs.Prelude.{◌≡◌, ℕ, true, false, List, [], All, IfSome}
use Rattle.sftp_model.specs.declared.config.Choice.{Choice}
use Rattle.sftp_model.specs.declared.config.ServerConfig.{ServerConfig}
use Rattle.sftp_model.specs.Fits.{FitsNumber, FitsSet, FitsLimits}
use Rattle.machine_model.specs.FirstTree.{FirstFile, may_begin}
use Rattle.sftp_map_server.specs.Serving.{Server, Serving, first_state, fresh_server}

-- A server of these files and directories, with the picks for its replies.
abbrev pub unopened_server : List FirstFile → List (List ℕ) → ServerConfig → List Choice → List ℕ → Serving
unopened_server files dirs config choices picks = record {
  first = fresh_server (first_state files dirs config choices) picks;
  now = fresh_server (first_state files dirs config choices) picks;
  log = [];
  ended = false;
}

-- The server's offer and the choices' codes fit their fields.
pub record IsFitting (config : ServerConfig) (choices : List Choice) : Type 0 where
  pub known : FitsSet config.extensions.0
  pub limits : IfSome config.limits FitsLimits
  pub codes : All (λ choice. FitsNumber choice.refuse) choices

-- The first state of a server of some files and directories whose VERSION can list its offer.
pub record IsUnopened (first : Server) : Type 0 where
  pub files : List FirstFile
  pub dirs : List (List ℕ)
  pub may : may_begin files dirs ≡ true
  pub is : first ≡ fresh_server (first_state files dirs first.state.machine.config first.state.choices)
      first.output.picks
  pub fits : IsFitting first.state.machine.config first.state.choices
