-- believed, except RefusesLong, IsNewServer
-- The end of a program that reads a source and writes an answer: over a server in memory, over a link, or at the sink
-- alone. Each program defines the meaning of the source's bytes and the right answer for it.
use Rattle.std.specs.Prelude.{
  ◌≡◌,
  ◌≢◌,
  ◌⊎◌,
  ◌<◌,
  ℕ,
  true,
  List,
  [],
  length,
  nat_lt,
  Option,
  None,
  Result,
  Ok,
  Err,
  IfSome,
  IfErr,
}
use Rattle.sftp_link.specs.Told.{IfLogged, LogsNothing, WroteBytes, WentLess, ReadUpTo}
use Rattle.sftp_link.specs.Views.{DialView, LastLink, SinkView, SourceView}
use Rattle.sftp_map_server.specs.Serving.{Serving, first_state, fresh_server}
use Rattle.sftp_map_server.specs.Unopened.{IsUnopened}
use Rattle.script_words.specs.declared.reason.Reason.{Reason}
use Rattle.script_words.specs.declared.reason.Reason.TheVariants as reason
use Rattle.script_grammar.specs.declared.script.Script.{Script}
use Rattle.script_grammar.specs.Scripts.{MAX_SCRIPT_LEN}
use Rattle.program_shell.specs.declared.ending.Answered.{Answered}
use Rattle.program_shell.specs.declared.ending.Answered.TheVariants.{Done, Stopped, Refused}
use Rattle.program_shell.specs.declared.ending.ProgramFailure.{ProgramFailure}
use Rattle.program_shell.specs.declared.ending.ProgramFailure.TheVariants.{SourceFailed, SinkFailed, OutOfMemory, DialFailed}
use Rattle.program_shell.specs.Outside.{Outside}
use Rattle.program_shell.specs.Texts.{refusal_line}

-- An answer was written whole, or a failure says why not.
abbrev pub End : Type 0
End = Result Answered ProgramFailure

abbrev pub status_of : End → ℕ
status_of (Ok Done) = 0
status_of (Ok Stopped) = 1
status_of (Ok Refused) = 2
status_of (Err SourceFailed) = 3
status_of (Err SinkFailed) = 4
status_of (Err OutOfMemory) = 5
status_of (Err DialFailed) = 6

-- ---- Causes

-- A count of faults rose if this is the failure, and is unchanged otherwise.
abbrev pub SourceCause : {T : Type 0} → Result T ProgramFailure → ℕ → ℕ → Type 0
SourceCause (Err SourceFailed) before now = before < now
SourceCause other before now = now ≡ before

abbrev pub SinkCause : {T : Type 0} → Result T ProgramFailure → ℕ → ℕ → Type 0
SinkCause (Err SinkFailed) before now = before < now
SinkCause other before now = now ≡ before

abbrev pub DialCause : {T : Type 0} → Result T ProgramFailure → ℕ → ℕ → Type 0
DialCause (Err DialFailed) before now = before < now
DialCause other before now = now ≡ before

-- ---- The source

-- The greatest length of a source plus one, in bytes.
abbrev pub read_limit : ℕ
read_limit = 16777217

-- A value; or the line that is refused, and the reason.
abbrev pub ReadAs : Type 0 → Type 0
ReadAs T = Result T (ℕ × Reason)

-- Bytes that are too many are refused for their size.
abbrev pub RefusesLong : {T : Type 0} → (List ℕ → ReadAs T) → Type 0
RefusesLong read = (bytes : List ℕ) → nat_lt MAX_SCRIPT_LEN (length bytes) ≡ true → read bytes ≡ Err (0, reason.Size)

-- The bytes are all that were left, and none are left now.
abbrev pub GaveAll : List ℕ → List ℕ → List ℕ → Type 0
GaveAll bytes before now = (before ≡ bytes) × (now ≡ [])

-- The bytes that the source returned, by their reading. The bytes of a value are all bytes that the source had. Other
-- bytes are all that it had, or the most that may be read.
abbrev pub GaveInput : {T : Type 0} → ReadAs T → List ℕ → SourceView → SourceView → Type 0
GaveInput (Ok value) bytes before now = IfLogged (GaveAll bytes) before.left now.left
GaveInput (Err why) bytes before now = IfLogged (ReadUpTo read_limit bytes) before.left now.left

-- The source was read to its end, and its bytes read as this value.
pub record GaveValue {T : Type 0} (read : List ℕ → ReadAs T) (value : T) (before now : SourceView) : Type 0 where
  pub bytes : List ℕ
  pub gave : IfLogged (GaveAll bytes) before.left now.left
  pub reads : read bytes ≡ Ok value

-- ---- The sink

-- Only a prefix of an answer was written, and not the whole.
pub record WroteLess (right : Answered → List ℕ → Type 0) (before now : SinkView) : Type 0 where
  pub answered : Answered
  pub text : List ℕ
  pub is : right answered text
  pub wrote : IfLogged (WentLess text) before.written now.written

-- An answer was written whole.
pub record WroteAll (right : Answered → List ℕ → Type 0) (answered : Answered) (before now : SinkView) : Type 0 where
  pub text : List ℕ
  pub is : right answered text
  pub wrote : IfLogged (WroteBytes text) before.written now.written

-- The part of a right answer that was written, by the end of the program. It is all of it; a prefix, if the sink
-- failed; a prefix or nothing, if an allocation failed; or nothing.
abbrev pub WroteAnswer : (Answered → List ℕ → Type 0) → End → SinkView → SinkView → Type 0
WroteAnswer right (Ok answered) before now = WroteAll right answered before now
WroteAnswer right (Err SourceFailed) before now = IfLogged LogsNothing before.written now.written
WroteAnswer right (Err SinkFailed) before now = WroteLess right before now
WroteAnswer right (Err OutOfMemory) before now = IfLogged LogsNothing before.written now.written
    ⊎ WroteLess right before now
WroteAnswer right (Err DialFailed) before now = IfLogged LogsNothing before.written now.written

-- The answer is right for the bytes that the source returned.
pub record AnswersSource {T : Type 0} (read : List ℕ → ReadAs T) (right : ReadAs T → Answered → List ℕ → Type 0)
    (before now : SourceView) (answered : Answered) (text : List ℕ) : Type 0 where
  pub bytes : List ℕ
  pub gave : GaveInput (read bytes) bytes before now
  pub is : right (read bytes) answered text

-- ---- A text alone

-- The program ended at the sink alone: with a right answer, because the sink failed, or because an allocation failed.
pub record EndsAtSink (right : Answered → List ℕ → Type 0) (end : End) (before now : SinkView) : Type 0 where
  pub wrote : WroteAnswer right end before now
  pub cause : SinkCause end before.faults now.faults
  pub only : IfErr end (λ why. (why ≢ SourceFailed) × (why ≢ DialFailed))

-- The answer is exactly this one.
abbrev pub IsOnlyAnswer : Answered → List ℕ → Answered → List ℕ → Type 0
IsOnlyAnswer right_answer right_text answered text = (answered ≡ right_answer) × (text ≡ right_text)

-- ---- Over a server in memory

-- The server was made of a script's files and directories, and of its choices and picks.
abbrev pub IsServerOf : Script → Serving → Type 0
IsServerOf script server =
    server.first ≡ fresh_server (first_state script.files script.dirs script.server script.choices) script.picks

-- The server is new, and nothing was sent to it.
pub record IsNewServer (script : Script) (server : Serving) : Type 0 where
  pub unopened : IsUnopened server.first
  pub quiet : server.log ≡ []
  pub first : IsServerOf script server

-- A value is run whole over a server that is kept, and the text is right for both. Other bytes are refused, and nothing
-- is kept.
abbrev pub RightInMemory : {T : Type 0} → (Option Serving → T → List ℕ → Type 0) → Option Serving → ReadAs T
    → Answered → List ℕ → Type 0
RightInMemory right kept (Ok value) Done text = right kept value text
RightInMemory right kept (Err why) Refused text = (text ≡ refusal_line why.0 why.1) × (kept ≡ None)
RightInMemory right kept read answered text = ⊥

-- The server that is kept if there is no answer: none if the source failed. If an allocation failed, a kept server is
-- one that the value which the source returned leaves.
abbrev pub KeptInMemory : {T : Type 0} → (List ℕ → ReadAs T) → (T → Serving → Type 0) → ProgramFailure
    → Option Serving → SourceView → SourceView → Type 0
KeptInMemory read leaves SourceFailed kept before now = kept ≡ None
KeptInMemory {T = T} read leaves OutOfMemory kept before now =
    IfSome kept (λ server. (value : T) × GaveValue read value before now × leaves value server)
KeptInMemory read leaves SinkFailed kept before now = Unit {0}
KeptInMemory read leaves DialFailed kept before now = ⊥

-- A value is read, and run over a server in memory. `leaves` says what a run leaves of it, `right` which text is right.
pub record EndsInMemory {T : Type 0} (read : List ℕ → ReadAs T) (leaves : T → Serving → Type 0)
    (right : Option Serving → T → List ℕ → Type 0) (end : End) (kept : Option Serving) (from from_now : SourceView)
    (to to_now : SinkView) : Type 0 where
  pub wrote : WroteAnswer (AnswersSource read (RightInMemory right kept) from from_now) end to to_now
  pub left : IfErr end (λ why. KeptInMemory read leaves why kept from from_now)
  pub source : SourceCause end from.faults from_now.faults
  pub sink : SinkCause end to.faults to_now.faults

-- ---- Over a link

-- It was dialled once, at this path.
abbrev pub DialledAt : {History : Type 0} → (List ℕ → History → History) → List ℕ → DialView History → DialView History
    → Type 0
DialledAt dialled path before now = now.history ≡ dialled path before.history

-- A value is run over a link that was dialled once at the path, and put back. Other bytes are refused before any dial.
abbrev pub RightOverLink : {T History : Type 0} → (Option LastLink → T → Answered → List ℕ → Type 0)
    → (List ℕ → History → History) → List ℕ → DialView History → DialView History → ReadAs T → Answered → List ℕ
    → Type 0
RightOverLink right dialled path before now (Ok value) answered text =
    DialledAt dialled path before now × right now.last value answered text
RightOverLink right dialled path before now (Err why) Refused text =
    (text ≡ refusal_line why.0 why.1) × (now ≡ before)
RightOverLink right dialled path before now (Err why) answered text = ⊥

-- The history of the dial if there is no answer, by the failure. The dial comes after a source that was read to its
-- end. If the dial itself failed, no link was put back.
abbrev pub DialsAfter : {History : Type 0} → (List ℕ → History → History) → List ℕ → Type 0 → ProgramFailure
    → DialView History → DialView History → Type 0
DialsAfter dialled path gave SourceFailed before now = now ≡ before
DialsAfter dialled path gave SinkFailed before now = Unit {0}
DialsAfter dialled path gave OutOfMemory before now = (now ≡ before) ⊎ (gave × DialledAt dialled path before now)
DialsAfter dialled path gave DialFailed before now =
    gave × DialledAt dialled path before now × (now.last ≡ before.last)

pub record EndsOverLink {T History : Type 0} (read : List ℕ → ReadAs T)
    (right : Option LastLink → T → Answered → List ℕ → Type 0) (dialled : List ℕ → History → History) (path : List ℕ)
    (end : End) (before now : Outside History) : Type 0 where
  pub wrote : WroteAnswer (AnswersSource read (RightOverLink right dialled path before.dial now.dial) before.source
      now.source) end before.sink now.sink
  pub dial : IfErr end (λ why. DialsAfter dialled path
      ((value : T) × GaveValue read value before.source now.source) why before.dial now.dial)
  pub source_cause : SourceCause end before.source.faults now.source.faults
  pub sink_cause : SinkCause end before.sink.faults now.sink.faults
  pub dial_cause : DialCause end before.dial.faults now.dial.faults
