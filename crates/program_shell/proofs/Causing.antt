-- A status says truly which count of faults rose.
use Rattle.std.proofs.Common.{◌≡◌, inl, inr, ℕ, List, refl, ap}
use Rattle.std.specs.Prelude.{Option, Ok, Err}
use Rattle.sftp_link.specs.Views.{DialView, SourceView}
use Rattle.sftp_map_server.specs.Serving.{Serving}
use Rattle.program_shell.specs.declared.ending.Answered.{Answered}
use Rattle.program_shell.specs.declared.ending.Answered.TheVariants.{Done, Stopped, Refused}
use Rattle.program_shell.specs.declared.ending.ProgramFailure.TheVariants.{SourceFailed, SinkFailed, OutOfMemory, DialFailed}
use Rattle.program_shell.specs.Completed.{HasCause, HasCauses}
use Rattle.program_shell.specs.Ended.{DialCause, End, EndsAtSink, EndsInMemory, ReadAs, SinkCause, SourceCause, status_of}
use Rattle.program_shell.specs.Outside.{Outside}
use Rattle.program_shell.proofs.Writing.{dial_stays, source_stays}

source_has : (end : End) (before now : ℕ) → SourceCause end before now → HasCause 3 (status_of end) before now
source_has (Ok Done) before now h = inr ((λ e. cc e), h)
source_has (Ok Stopped) before now h = inr ((λ e. cc e), h)
source_has (Ok Refused) before now h = inr ((λ e. cc e), h)
source_has (Err SourceFailed) before now h = inl (refl, h)
source_has (Err SinkFailed) before now h = inr ((λ e. cc e), h)
source_has (Err OutOfMemory) before now h = inr ((λ e. cc e), h)
source_has (Err DialFailed) before now h = inr ((λ e. cc e), h)

sink_has : (end : End) (before now : ℕ) → SinkCause end before now → HasCause 4 (status_of end) before now
sink_has (Ok Done) before now h = inr ((λ e. cc e), h)
sink_has (Ok Stopped) before now h = inr ((λ e. cc e), h)
sink_has (Ok Refused) before now h = inr ((λ e. cc e), h)
sink_has (Err SourceFailed) before now h = inr ((λ e. cc e), h)
sink_has (Err SinkFailed) before now h = inl (refl, h)
sink_has (Err OutOfMemory) before now h = inr ((λ e. cc e), h)
sink_has (Err DialFailed) before now h = inr ((λ e. cc e), h)

dial_has : (end : End) (before now : ℕ) → DialCause end before now → HasCause 6 (status_of end) before now
dial_has (Ok Done) before now h = inr ((λ e. cc e), h)
dial_has (Ok Stopped) before now h = inr ((λ e. cc e), h)
dial_has (Ok Refused) before now h = inr ((λ e. cc e), h)
dial_has (Err SourceFailed) before now h = inr ((λ e. cc e), h)
dial_has (Err SinkFailed) before now h = inr ((λ e. cc e), h)
dial_has (Err OutOfMemory) before now h = inr ((λ e. cc e), h)
dial_has (Err DialFailed) before now h = inl (refl, h)

pub has_causes : {History : Type 0} (end : End) (before now : Outside History)
    → SourceCause end before.source.faults now.source.faults → SinkCause end before.sink.faults now.sink.faults
    → DialCause end before.dial.faults now.dial.faults → HasCauses (status_of end) before now
has_causes end before now s k d = record {
  source = source_has end before.source.faults now.source.faults s;
  sink = sink_has end before.sink.faults now.sink.faults k;
  dial = dial_has end before.dial.faults now.dial.faults d;
}

-- over a server in memory the dial stays
memory_dial : {T History : Type 0} (read : List ℕ → ReadAs T) (leaves : T → Serving → Type 0)
    (right : Option Serving → T → List ℕ → Type 0) (end : End) (kept : Option Serving) (o p : Outside History)
    → EndsInMemory read leaves right end kept o.source p.source o.sink p.sink → p.dial.faults ≡ o.dial.faults
    → DialCause end o.dial.faults p.dial.faults
memory_dial read leaves right (Ok answered) kept o p e same = same
memory_dial read leaves right (Err SourceFailed) kept o p e same = same
memory_dial read leaves right (Err SinkFailed) kept o p e same = same
memory_dial read leaves right (Err OutOfMemory) kept o p e same = same
memory_dial read leaves right (Err DialFailed) kept o p e same = absurd e.left

pub memory_causes : {T History : Type 0} (read : List ℕ → ReadAs T) (leaves : T → Serving → Type 0)
    (right : Option Serving → T → List ℕ → Type 0) (end : End) (kept : Option Serving) (before now : Outside History)
    → EndsInMemory read leaves right end kept before.source now.source before.sink now.sink → now.dial ≡ before.dial
    → HasCauses (status_of end) before now
memory_causes read leaves right end kept before now h stays =
    has_causes end before now h.source h.sink
    (memory_dial read leaves right end kept before now h (ap (λ (v : DialView _). v.faults) stays))

-- at the sink alone the source and the dial stay
pub sink_causes : {History : Type 0} (right : Answered → List ℕ → Type 0) (end : End) (before now : Outside History)
    → EndsAtSink right end before.sink now.sink → now.source ≡ before.source → now.dial ≡ before.dial
    → HasCauses (status_of end) before now
sink_causes right end before now h source dial =
    has_causes end before now
    (source_stays right end before.sink now.sink before.source.faults now.source.faults h
    (ap (λ (v : SourceView). v.faults) source))
    h.cause
    (dial_stays right end before.sink now.sink before.dial.faults now.dial.faults h
    (ap (λ (v : DialView _). v.faults) dial))
