-- believed
-- The end of the program, by the request of its command line.
use Rattle.std.specs.Prelude.{◌≡◌, ℕ, List, Option, None}
use Rattle.sftp_link.specs.Views.{SinkView, SourceView}
use Rattle.sftp_map_server.specs.Serving.{Serving}
use Rattle.program_shell.specs.Ended.{
  End,
  EndsAtSink,
  EndsInMemory,
  EndsOverLink,
  IsOnlyAnswer,
  status_of,
}
use Rattle.program_shell.specs.Outside.{Outside}
use Rattle.sftp_mirror.specs.declared.schedule.Schedule.{Schedule}
use Rattle.sftp_mirror.specs.Dialled.{RunsOver}
use Rattle.sftp_mirror.specs.Left.{LeavesServer}
use Rattle.sftp_mirror.specs.Lists.{list_of}
use Rattle.sftp_mirror.specs.Printed.{IsCopied}
use Rattle.sftp_mirror.specs.Words.{Asked, AtPath, InMemory, Text}

-- The files of a list from the source are copied over a server of its own in memory, and the text of the copies is
-- written.
abbrev pub EndsList : Schedule → End → Option Serving → SourceView → SourceView → SinkView → SinkView → Type 0
EndsList schedule = EndsInMemory list_of (LeavesServer schedule) (IsCopied schedule)

-- The files of a list from the source are copied over a link to the server at a path, and the text of the copies is
-- written.
abbrev pub EndsListAt : {History : Type 0} → Schedule → (List ℕ → History → History) → List ℕ → End → Outside History
    → Outside History → Type 0
EndsListAt schedule = EndsOverLink list_of (RunsOver schedule)

-- The end for each request, the server that is kept, and the unused parts of the environment, which are unchanged.
abbrev pub EndsSo : {History : Type 0} → (List ℕ → History → History) → Asked → End → Option Serving → Outside History
    → Outside History → Type 0
EndsSo dialled (InMemory schedule) end kept before now =
    EndsList schedule end kept before.source now.source before.sink now.sink × (now.dial ≡ before.dial)
EndsSo dialled (AtPath path seconds schedule) end kept before now =
    EndsListAt schedule dialled path end before now × (kept ≡ None)
EndsSo dialled (Text answered text) end kept before now =
    EndsAtSink (IsOnlyAnswer answered text) end before.sink now.sink
    × (kept ≡ None) × (now.source ≡ before.source) × (now.dial ≡ before.dial)

-- The program ends with this status.
pub record ProgramEnds {History : Type 0} (dialled : List ℕ → History → History) (asked : Asked) (status : ℕ)
    (kept : Option Serving) (before now : Outside History) : Type 0 where
  pub end : End
  pub is : status ≡ status_of end
  pub so : EndsSo dialled asked end kept before now
