-- Worked states of the examples, and near misses beside them.
use Rattle.std.specs.Prelude.{◌≡◌, ◌∷◌, ℕ, List, [], codes, flat_map, Some, refl}
use Rattle.sftp_model.specs.declared.reply.NameEntry.{NameEntry}
use Rattle.sftp_model.specs.Frames.{no_attributes}
use Rattle.sftp_link.specs.Views.{LinkView}
use Rattle.sftp_file.specs.Files.{FileValue}
use Rattle.sftp_client.specs.Sessions.{SftpValue}
use Rattle.example_client.specs.Files.{AreReads, IsRead}
use Rattle.example_client.specs.Tasks.{line_of, path_line}

abbrev entry : List ℕ → NameEntry
entry name = record { filename = name; longname = []; attrs = no_attributes }

-- A line for each entry, in their order; none for no entries.
pub line_row : line_of (entry (codes "notes.txt")) ≡ codes "notes.txt\n"
line_row = refl

pub lines_row : flat_map line_of (entry (codes "a") ∷ entry (codes "b") ∷ []) ≡ codes "a\nb\n"
lines_row = refl

pub no_lines_row : flat_map line_of [] ≡ []
no_lines_row = refl

-- No READ returned no bytes, and session and file are unchanged.
pub no_reads_row : {L S : Type 0} (state : L → LinkView S) (old : SftpValue L) (file : FileValue)
    → AreReads 4 state 0 old old file file []
no_reads_row state old file = (refl, (refl, refl))

-- The bytes of two READs are in their order.
pub two_reads_row : {L S : Type 0} (state : L → LinkView S) (old mid new : SftpValue L) (before file after : FileValue)
    → IsRead 4 state old mid before file (Some (codes "abc")) → IsRead 4 state mid new file after (Some (codes "d"))
    → AreReads 4 state 2 old new before after (codes "abcd")
two_reads_row state old mid new before file after first second = (
  mid,
  (
    file,
    (
      codes "abc",
      (
        codes "d",
        ((old, (before, ([], (codes "abc", ((refl, (refl, refl)), (first, refl)))))), (second, refl)),
      ),
    ),
  ),
)

-- The whole path of an entry that a walk found.
pub path_row : path_line (record { path = codes "a/b"; metadata = no_attributes }) ≡ codes "a/b\n"
path_row = refl
