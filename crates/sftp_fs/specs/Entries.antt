-- Entries of a directory whose name was changed.
use Rattle.std.specs.Prelude.{ℕ, List}
use Rattle.sftp_model.specs.declared.reply.NameEntry.{NameEntry}

abbrev pub with_filename : NameEntry → List ℕ → NameEntry
with_filename entry filename = record entry { filename = filename }
