-- believed, except MayFail
-- The end of the program, by the request of its command line.
use Rattle.std.specs.Prelude.{◌≡◌, ◌<◌, ◌-◌, ◌^◌, ℕ, Option, None}
use Rattle.sftp_link.specs.Views.{SinkView, SourceView}
use Rattle.sftp_map_server.specs.Serving.{Serving}
use Rattle.program_shell.specs.Ended.{End, EndsAtSink, EndsInMemory, IsOnlyAnswer, status_of}
use Rattle.view_model.specs.Lists.{list_of}
use Rattle.view_model.specs.declared.cache_size.CacheSize.{CacheSize}
use Rattle.sftp_view.specs.Left.{LeavesServer}
use Rattle.sftp_view.specs.Printed.{IsViewed}
use Rattle.sftp_view.specs.Words.{Asked, Text, Through}

-- The records of the source and the sink.
pub record Streams : Type 0 where
  pub source : SourceView
  pub sink : SinkView

-- Each of them may fail another time before its count of faults is at its end.
pub record MayFail (streams : Streams) : Type 0 where
  pub source : streams.source.faults < 2 ^ 64 - 1
  pub sink : streams.sink.faults < 2 ^ 64 - 1

-- The operations of a list from the source are done over a server of its own in memory, and the text of the answers is
-- written.
abbrev pub EndsList : CacheSize → End → Option Serving → SourceView → SourceView → SinkView → SinkView → Type 0
EndsList size = EndsInMemory (list_of size.block) (LeavesServer size) (IsViewed size)

-- The end for each request, the server that is kept, and the unused parts of the environment, which are unchanged.
abbrev pub EndsSo : Asked → End → Option Serving → Streams → Streams → Type 0
EndsSo (Through size) end kept before now = EndsList size end kept before.source now.source before.sink now.sink
EndsSo (Text answered text) end kept before now =
    EndsAtSink (IsOnlyAnswer answered text) end before.sink now.sink × (kept ≡ None) × (now.source ≡ before.source)

-- The program ends with this status.
pub record ProgramEnds (asked : Asked) (status : ℕ) (kept : Option Serving) (before now : Streams) : Type 0 where
  pub end : End
  pub is : status ≡ status_of end
  pub so : EndsSo asked end kept before now
