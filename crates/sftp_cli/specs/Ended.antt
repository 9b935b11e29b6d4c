-- believed
-- The end of the program, by the request of its command line.
use Rattle.std.specs.Prelude.{◌≡◌, ℕ, List, Option, None, IfSome, IfErr}
use Rattle.sftp_cli.specs.Bulk.{bulk_script}
use Rattle.sftp_link.specs.Views.{SinkView, SourceView}
use Rattle.sftp_map_server.specs.Serving.{Serving}
use Rattle.script_grammar.specs.declared.script.Script.{Script}
use Rattle.script_grammar.specs.Scripts.{script_of}
use Rattle.program_shell.specs.declared.ending.Answered.{Answered}
use Rattle.program_shell.specs.declared.ending.Answered.TheVariants.{Done}
use Rattle.program_shell.specs.Ended.{
  End,
  EndsAtSink,
  EndsInMemory,
  EndsOverLink,
  IsOnlyAnswer,
  status_of,
}
use Rattle.program_shell.specs.Outside.{Outside}
use Rattle.sftp_cli.specs.declared.printed.Form.TheVariants as form
use Rattle.sftp_cli.specs.Dialled.{RunsOver}
use Rattle.sftp_cli.specs.Left.{LeavesServer}
use Rattle.sftp_cli.specs.Printed.{IsPrinted}
use Rattle.sftp_cli.specs.Words.{Asked, InMemory, AtPath, Bulk, Text}

-- A script from the source is run over a server of its own files in memory, and the text of the run is written.
abbrev pub EndsScript : End → Option Serving → SourceView → SourceView → SinkView → SinkView → Type 0
EndsScript = EndsInMemory script_of LeavesServer (IsPrinted form.Whole)

-- A script from the source is run over a link to the server at a path, and the text of the run is written.
abbrev pub EndsScriptAt : {History : Type 0} → (List ℕ → History → History) → List ℕ → End → Outside History
    → Outside History → Type 0
EndsScriptAt = EndsOverLink script_of RunsOver

-- ---- A script that three numbers make

-- The summary of a run over a server that is kept.
abbrev pub RightSummary : Option Serving → Script → Answered → List ℕ → Type 0
RightSummary kept script answered text = (answered ≡ Done) × IsPrinted form.Summary kept script text

pub record EndsSummed (script : Script) (end : End) (kept : Option Serving) (before now : SinkView) : Type 0 where
  pub writes : EndsAtSink (RightSummary kept script) end before now
  pub left : IfErr end (λ why. IfSome kept (LeavesServer script))

-- ---- All arguments

-- The end for each request, the server that is kept, and the unused parts of the environment, which are unchanged.
abbrev pub EndsSo : {History : Type 0} → (List ℕ → History → History) → Asked → End → Option Serving → Outside History
    → Outside History → Type 0
EndsSo dialled InMemory end kept before now =
    EndsScript end kept before.source now.source before.sink now.sink × (now.dial ≡ before.dial)
EndsSo dialled (AtPath path seconds) end kept before now = EndsScriptAt dialled path end before now × (kept ≡ None)
EndsSo dialled (Bulk n) end kept before now =
    EndsSummed (bulk_script n.start n.lanes n.calls) end kept before.sink now.sink
    × (now.source ≡ before.source) × (now.dial ≡ before.dial)
EndsSo dialled (Text answered text) end kept before now =
    EndsAtSink (IsOnlyAnswer answered text) end before.sink now.sink
    × (kept ≡ None) × (now.source ≡ before.source) × (now.dial ≡ before.dial)

-- The program ends with this status.
pub record ProgramEnds {History : Type 0} (dialled : List ℕ → History → History) (asked : Asked) (status : ℕ)
    (kept : Option Serving) (before now : Outside History) : Type 0 where
  pub end : End
  pub is : status ≡ status_of end
  pub so : EndsSo dialled asked end kept before now
