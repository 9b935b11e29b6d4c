-- Outcomes of calls, as their plans define them.
use Rattle.std.specs.Prelude.{ℕ, ◌==◌, List, Option, Some, None, Result, Ok, Err, if◌then◌else◌}
use Rattle.sftp_model.specs.Numbers.{SSH_FX_EOF, SSH_FX_OK}
use Rattle.sftp_model.specs.declared.error.Error.{Error}
use Rattle.sftp_model.specs.declared.error.Error.TheVariants as error
use Rattle.sftp_model.specs.declared.error.IoKind.{IoKind}
use Rattle.sftp_model.specs.declared.file_attrs.FileAttrs.{FileAttrs}
use Rattle.sftp_model.specs.declared.outcome.Outcome.{Outcome}
use Rattle.sftp_model.specs.declared.outcome.Outcome.TheVariants as outcome
use Rattle.sftp_model.specs.declared.slot.Move.{Move}
use Rattle.sftp_model.specs.declared.slot.Site.{Site}
use Rattle.sftp_model.specs.declared.slot.Move.TheVariants.{Done}
use Rattle.plan_model.specs.Moves.{refuse_locally}
use Rattle.sftp_file.specs.Files.{FileValue, alone}

-- The move after a check of a file before a request.
abbrev pub checked_move : Result (Unit {0}) IoKind → Site → Move → Move
checked_move (Ok u) site go = go
checked_move (Err why) site go = refuse_locally why site

-- The move after a seek: it continues from the new offset, or is refused.
abbrev pub seek_move : Result ℕ IoKind → Site → (ℕ → Move) → Move
seek_move (Ok offset) site go = go offset
seek_move (Err why) site go = refuse_locally why site

-- The outcome of a call that returns no value.
abbrev pub done_outcome : Result (Unit {0}) Error → Outcome
done_outcome (Ok u) = outcome.Done
done_outcome (Err e) = outcome.Refused e

-- The answer that a STATUS is to a call without a value.
abbrev pub status_answer : ℕ → List ℕ → List ℕ → Result (Unit {0}) Error
status_answer code message language = if code == SSH_FX_OK then Ok tt else Err (error.SftpError code message language)

-- The outcome of a read.
abbrev pub read_outcome : Result (Option (List ℕ)) Error → Outcome
read_outcome (Ok (Some bytes)) = outcome.Bytes bytes
read_outcome (Ok None) = outcome.End
read_outcome (Err e) = outcome.Refused e

-- The answer that a STATUS is to a read.
abbrev pub read_answer : ℕ → List ℕ → List ℕ → Result (Option (List ℕ)) Error
read_answer code message language = if code == SSH_FX_EOF then Ok None else Err (error.SftpError code message language)

-- The outcome of a write.
abbrev pub count_outcome : Result ℕ Error → Outcome
count_outcome (Ok n) = outcome.Count n
count_outcome (Err e) = outcome.Refused e

-- The outcome of a call that returns attributes.
abbrev pub attrs_outcome : Result FileAttrs Error → Outcome
attrs_outcome (Ok attrs) = outcome.Meta attrs
attrs_outcome (Err e) = outcome.Refused e

-- The end of a seek: the file is at the new offset, or as before.
abbrev pub seek_outcome : Result (Unit {0}) Error → FileValue → Move
seek_outcome (Ok u) f = Done (outcome.Count f.offset) (alone f)
seek_outcome (Err e) f = Done (outcome.Refused e) (alone f)
