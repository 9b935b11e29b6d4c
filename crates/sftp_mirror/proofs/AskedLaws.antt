-- What the words of the command line ask for.
use Rattle.std.proofs.Common.{◌≡◌, ℕ, List, refl}
use Rattle.std.specs.Prelude.{Some, None}
use Rattle.program_shell.specs.Texts.{answered_of, text_of}
use Rattle.sftp_mirror.specs.declared.schedule.Schedule.{Schedule}
use Rattle.sftp_mirror.specs.Words.{AtPath, InMemory, Text, asked_by, copy_of, help_text, unix_of}

pub asked_copy : (words : List (List ℕ)) (schedule : Schedule) → Some schedule ≡ copy_of words → asked_by words
    ≡ InMemory schedule
asked_copy words schedule e = rw (← e) refl

pub asked_unix : (words : List (List ℕ)) (path : List ℕ) (seconds : ℕ) (schedule : Schedule) → None ≡ copy_of words
    → Some (schedule, (path, seconds)) ≡ unix_of words → asked_by words ≡ AtPath path seconds schedule
asked_unix words path seconds schedule e u = rw (← e, ← u) refl

pub asked_text : (words : List (List ℕ)) → None ≡ copy_of words → None ≡ unix_of words → asked_by words
    ≡ Text (answered_of words) (text_of help_text words)
asked_text words e u = rw (← e, ← u) refl
