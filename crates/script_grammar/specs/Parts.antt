-- Parts of drafts and of lines.
use Rattle.std.specs.Prelude.{ℕ, List, [], ◌∷◌, ◌++◌, Result, Ok}
use Rattle.ssh_encoding.specs.Reading.{◌>>=◌}
use Rattle.sftp_model.specs.declared.config.Limits.{Limits}
use Rattle.machine_model.specs.FirstTree.{FirstFile}
use Rattle.script_words.specs.declared.reason.Reason.{Reason}
use Rattle.script_words.specs.Lines.{number_in, greatest_u64}
use Rattle.script_grammar.specs.Setup.{Draft}

-- The first files, each a path and its bytes, and the paths of the first directories.
pub record First : Type 0 where
  pub files : List FirstFile
  pub dirs : List (List ℕ)

-- The draft with the cut that a script gives.
abbrev pub with_cut : Draft → ℕ → Draft
with_cut d n = record d { script = record d.script { server = record d.script.server { cut = n } } }

-- The draft with another file.
abbrev pub with_file : Draft → List ℕ → List ℕ → Draft
with_file d path content = record d { script = record d.script { files = d.script.files ++ (path, content) ∷ [] } }

-- The draft with another directory.
abbrev pub with_dir : Draft → List ℕ → Draft
with_dir d path = record d { script = record d.script { dirs = d.script.dirs ++ path ∷ [] } }

-- The four limits.
abbrev pub limits_in_words : List ℕ → List ℕ → List ℕ → List ℕ → Result Limits Reason
limits_in_words p r w h = do
  packet ← number_in 0 greatest_u64 p
  read ← number_in 0 greatest_u64 r
  write ← number_in 0 greatest_u64 w
  handles ← number_in 0 greatest_u64 h
  Ok (record { packet_len = packet; read_len = read; write_len = write; open_handles = handles })
