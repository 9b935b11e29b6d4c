-- The results of the parts of a run: the bytes of the source, and the reply to them.
use Rattle.std.specs.Prelude.{◌≡◌, ◌≢◌, ℕ, List, Vec, Option, Result, Ok, IfOk, IfErr, IfSome}
use Rattle.std.specs.declared.alloc.Global.{Global}
use Rattle.ssh_encoding.specs.declared.out_of_memory.OutOfMemory.{OutOfMemory}
use Rattle.sftp_link.specs.Told.{IfLogged, ReadUpTo}
use Rattle.sftp_link.specs.Views.{DialView, LastLink, SourceView}
use Rattle.sftp_map_server.specs.Serving.{Serving}
use Rattle.program_shell.specs.declared.ending.Answered.{Answered}
use Rattle.program_shell.specs.declared.ending.ProgramFailure.{ProgramFailure}
use Rattle.program_shell.specs.declared.ending.ProgramFailure.TheVariants.{SourceFailed, SinkFailed, DialFailed}
use Rattle.program_shell.specs.declared.printed.Printed.{Printed}
use Rattle.program_shell.specs.Ended.{
  DialCause,
  DialledAt,
  DialsAfter,
  ReadAs,
  RefusesLong,
  RightInMemory,
  RightOverLink,
  SourceCause,
  read_limit,
}

-- The bytes that a source returned: all that it had, or the most that may be read.
pub record GivesBytes (result : Result (Vec ℕ Global) ProgramFailure) (before now : SourceView) : Type 0 where
  pub bytes : IfOk result (λ v. IfLogged (ReadUpTo read_limit v.items) before.left now.left)
  pub cause : SourceCause result before.faults now.faults
  pub only : IfErr result (λ e. (e ≢ SinkFailed) × (e ≢ DialFailed))

-- The reply to bytes over a server in memory, which is kept if they read as a value.
pub record RepliesInMemory {T : Type 0} (read : List ℕ → ReadAs T) (leaves : T → Serving → Type 0)
    (right : Option Serving → T → List ℕ → Type 0) (bytes : List ℕ) (result : Result Printed OutOfMemory)
    (kept : Option Serving) : Type 0 where
  pub ok : IfOk result (λ reply. RightInMemory right kept (read bytes) reply.answered reply.text.items)
  pub left : IfSome kept (λ server. (value : T) × (read bytes ≡ Ok value) × leaves value server)
  pub long : RefusesLong read

-- The reply to a value, over a link that was dialled once.
pub record DialsFor {T History : Type 0} (right : Option LastLink → T → Answered → List ℕ → Type 0)
    (dialled : List ℕ → History → History) (path : List ℕ) (value : T) (result : Result Printed ProgramFailure)
    (before now : DialView History) : Type 0 where
  pub ok : IfOk result (λ reply. right now.last value reply.answered reply.text.items)
  pub history : DialledAt dialled path before now
  pub undialled : IfErr result (λ e. e ≡ DialFailed → now.last ≡ before.last)
  pub cause : DialCause result before.faults now.faults
  pub only : IfErr result (λ e. (e ≢ SourceFailed) × (e ≢ SinkFailed))

-- The reply to bytes, over a link that was dialled once if they read as a value.
pub record RepliesAt {T History : Type 0} (read : List ℕ → ReadAs T)
    (right : Option LastLink → T → Answered → List ℕ → Type 0) (dialled : List ℕ → History → History)
    (path bytes : List ℕ) (result : Result Printed ProgramFailure) (before now : DialView History) : Type 0 where
  pub ok : IfOk result (λ reply. RightOverLink right dialled path before now (read bytes) reply.answered
      reply.text.items)
  pub failed : IfErr result (λ e. DialsAfter dialled path ((value : T) × (read bytes ≡ Ok value)) e before now)
  pub cause : DialCause result before.faults now.faults
  pub only : IfErr result (λ e. (e ≢ SourceFailed) × (e ≢ SinkFailed))
  pub long : RefusesLong read
