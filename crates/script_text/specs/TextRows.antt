-- Worked texts.
use Rattle.std.specs.Prelude.{ℕ, List, ◌≡◌, ◌++◌, ◌∷◌, [], codes, refl}
use Rattle.ssh_encoding.specs.Writing.{uint32, uint64, string}
use Rattle.sftp_model.specs.declared.error.Error.TheVariants as error
use Rattle.sftp_model.specs.declared.error.IoKind.TheVariants as kind
use Rattle.sftp_model.specs.declared.outcome.Outcome.TheVariants as outcome
use Rattle.sftp_model.specs.declared.request.Request.TheVariants as request
use Rattle.sftp_model.specs.Frames.{request_body, reply_body, attributes}
use Rattle.machine_model.specs.FileTree.{FileTree}
use Rattle.machine_model.specs.declared.node.Node.TheVariants as node
use Rattle.session_model.specs.Readings.{outcomes_below}
use Rattle.session_model.specs.JournalRows.{over}
use Rattle.session_model.specs.LaneRows.{cancelled_late, cancelled_answered, was_refused}
use Rattle.session_model.specs.ServedRows.{hello_file}
use Rattle.script_text.specs.Texts.{line, text_of, text_with_files, outcome_line, request_line, file_lines, dir_lines}

-- Lines, each with its line feed.
abbrev text : List (List ℕ) → List ℕ
text [] = []
text (words ∷ more) = line words ++ text more

pub text_of_three : text_with_files over (outcomes_below over 1) hello_file
    ≡ text (codes "> open 00000001610000000100000000" ∷ codes "< handle 0000000107"
    ∷ codes "> read 0000000107000000000000000000000005" ∷ codes "< data 0000000568656c6c6f"
    ∷ codes "> close 0000000107" ∷ codes "< status 000000000000000000000000"
    ∷ codes "lane 0 call 0 opened" ∷ codes "lane 0 call 1 read 68656c6c6f" ∷ codes "lane 0 call 2 done"
    ∷ codes "file 61 68656c6c6f" ∷ [])
unfolding request_body reply_body attributes string uint32 uint64
text_of_three = refl

pub text_of_refused : text_of was_refused (outcomes_below was_refused 1)
    ≡ text (codes "> open 00000001620000000100000000" ∷ codes "< status 000000020000000000000000"
    ∷ codes "lane 0 call 0 refused sftp 2" ∷ codes "lane 0 call 1 nofile" ∷ [])
unfolding request_body reply_body attributes string uint32
text_of_refused = refl

pub text_of_cancelled : text_of cancelled_late (outcomes_below cancelled_late 1)
    ≡ text (codes "> open 00000001610000000100000000" ∷ codes "< handle 0000000107"
    ∷ codes "> close 0000000107" ∷ codes "< status 000000000000000000000000" ∷ codes "lane 0 call 0 cancelled" ∷ [])
unfolding request_body reply_body attributes string uint32
text_of_cancelled = refl

-- The text does not show if the HANDLE came before the cancel or after it.
pub text_of_answered : text_of cancelled_answered (outcomes_below cancelled_answered 1)
    ≡ text_of cancelled_late (outcomes_below cancelled_late 1)
unfolding request_body reply_body attributes string uint32
text_of_answered = refl

pub text_of_nothing : text_of [] (outcomes_below [] 1) ≡ []
text_of_nothing = refl

pub text_of_query : request_line (0, request.LimitsQuery) ≡ text
    (codes "> extended 000000126c696d697473406f70656e7373682e636f6d" ∷ [])
unfolding request_body string uint32
text_of_query = refl

pub text_of_overflow : outcome_line 1 20 (outcome.Refused (error.IOError kind.OffsetOverflow))
    ≡ text (codes "lane 1 call 20 refused io OffsetOverflow" ∷ [])
text_of_overflow = refl

pub text_of_no_bytes : outcome_line 0 0 (outcome.Bytes []) ≡ text (codes "lane 0 call 0 read -" ∷ [])
text_of_no_bytes = refl

pub text_of_extension : outcome_line 0 3 (outcome.Refused (error.UnsupportedExtension (record { 0 = 4 })))
    ≡ text (codes "lane 0 call 3 refused extension fsync" ∷ [])
text_of_extension = refl

-- Names are sorted by the bytes of their written form, and directories come after files.
abbrev tree : FileTree
tree = record {
  names = (codes "b" ∷ [], node.File 0) ∷ (codes "a" ∷ codes "b" ∷ [], node.File 1) ∷ (codes "a" ∷ [], node.Directory) ∷
      (codes "a-b" ∷ [], node.File 2)
      ∷ (codes "a" ∷ codes "c" ∷ [], node.Directory) ∷ [];
  files = codes "1" ∷ [] ∷ codes "3" ∷ [];
  handles = [];
}

pub text_of_files : file_lines tree ≡ text (codes "file 612d62 33" ∷ codes "file 612f62 -" ∷ codes "file 62 31" ∷ [])
text_of_files = refl

pub text_of_directories : dir_lines tree ≡ text (codes "dir 61" ∷ codes "dir 612f63" ∷ [])
text_of_directories = refl

pub text_of_numbers : outcome_line 0 12 (outcome.Count 4096) ≡ text (codes "lane 0 call 12 count 4096" ∷ [])
text_of_numbers = refl
