-- believed: reason_word, refusal_line, error_name, error_line, IsErrorLine
-- The texts that programs share: for arguments that run nothing, for a refusal, and for an error that stopped a run.
use Rattle.std.specs.Prelude.{◌≡◌, ℕ, ◌==◌, List, [], ◌∷◌, ◌++◌, Option, Some, None, codes, if◌then◌else◌}
use Rattle.std.specs.Str.{bytes_eq}
use Rattle.sftp_model.specs.declared.error.Error.{Error}
use Rattle.sftp_model.specs.declared.error.Error.TheVariants as errors
use Rattle.script_words.specs.declared.reason.Reason.{Reason}
use Rattle.script_words.specs.declared.reason.Reason.TheVariants as reason
use Rattle.script_text.specs.Texts.{dir_text, file_text, line, number_text}
use Rattle.program_shell.specs.declared.ending.Answered.{Answered}
use Rattle.program_shell.specs.declared.ending.Answered.TheVariants.{Done, Refused}

-- ---- Arguments

-- The text of `--version`.
unfoldable pub version_text : List ℕ
version_text = codes "tilfrjon 0.1.0\n"

-- The text for a faulty command line.
unfoldable pub faulty_text : List ℕ
faulty_text = codes "line 0 words\n"

-- The answer to arguments that run nothing: two of them are known, and all others are refused.
abbrev pub answered_of : List (List ℕ) → Answered
answered_of [] = Refused
answered_of (word ∷ []) = if bytes_eq word (codes "--help") then Done else if bytes_eq word (codes "--version") then
    Done else Refused
answered_of (word ∷ another ∷ words) = Refused

-- The text for them, if this is the text of `--help`.
abbrev pub text_of : List ℕ → List (List ℕ) → List ℕ
text_of help [] = faulty_text
text_of help (word ∷ []) = if bytes_eq word (codes "--help") then help else if bytes_eq word (codes "--version") then
    version_text else faulty_text
text_of help (word ∷ another ∷ words) = faulty_text

-- ---- A status

-- The message on standard error for a status.
abbrev pub cause_of : ℕ → Option (List ℕ)
cause_of status =
    if status == 3 then Some (codes "standard input failed")
    else if status == 4 then Some (codes "standard output failed")
    else if status == 5 then Some (codes "out of memory")
    else if status == 6 then Some (codes "no server listens")
    else None

-- ---- A refusal

-- The word of a reason.
abbrev pub reason_word : Reason → List ℕ
reason_word reason.Size = codes "size"
reason_word reason.Words = codes "words"
reason_word reason.Word = codes "word"
reason_word reason.Lane = codes "lane"
reason_word reason.Count = codes "count"
reason_word reason.Number = codes "number"
reason_word reason.Hex = codes "hex"
reason_word reason.Mode = codes "mode"
reason_word reason.Range = codes "range"
reason_word reason.Repeat = codes "repeat"

-- The line that reports the refused line, and the reason.
abbrev pub refusal_line : ℕ → Reason → List ℕ
refusal_line number why = line (codes "line " ++ number_text number ++ codes " " ++ reason_word why)

-- ---- A run that stopped

-- The name of an error that stops a run. Out of memory has a status of its own.
abbrev pub error_name : Error → Option (List ℕ)
error_name errors.OutOfMemory = None
error_name errors.LinkFault = Some (codes "LinkFault")
error_name errors.LinkEnded = Some (codes "LinkEnded")
error_name (errors.UnsupportedSftpProtocol version) = Some (codes "UnsupportedSftpProtocol")
error_name (errors.FormatError kind) = Some (codes "FormatError")
error_name (errors.HandleTooLong len) = Some (codes "HandleTooLong")
error_name (errors.InvalidResponseId id) = Some (codes "InvalidResponseId")
error_name (errors.InvalidResponse id) = Some (codes "InvalidResponse")
error_name (errors.SftpError code message language) = Some (codes "SftpError")
error_name (errors.UnsupportedExtension set) = Some (codes "UnsupportedExtension")
error_name (errors.IOError kind) = Some (codes "IOError")
error_name (errors.BackgroundTaskFailure fault) = Some (codes "BackgroundTaskFailure")

-- The line that names an error.
abbrev pub error_line : List ℕ → List ℕ
error_line name = line (codes "error " ++ name)

-- The text is the line that names an error other than out of memory.
abbrev pub IsErrorLine : Error → List ℕ → Type 0
IsErrorLine error text = (name : List ℕ) × (error_name error ≡ Some name) × (text ≡ error_line name)

-- ---- The files and directories that are left

-- The line of a file, if there is one.
abbrev pub file_text_of : Option (List ℕ × List ℕ) → List ℕ
file_text_of None = []
file_text_of (Some file) = file_text file.0 file.1

-- The line of a directory, if there is one.
abbrev pub dir_text_of : Option (List ℕ) → List ℕ
dir_text_of None = []
dir_text_of (Some name) = dir_text name
