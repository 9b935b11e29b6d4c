-- What the words ask for, and what follows of a status.
use Rattle.std.proofs.Common.{◌≡◌, ℕ, List, ap, refl, sym, subst}
use Rattle.std.specs.Prelude.{Option, Some, None, Ok}
use Rattle.sftp_map_server.specs.Serving.{Serving}
use Rattle.program_shell.specs.Completed.{HasCause, HasCauses}
use Rattle.program_shell.specs.Ended.{End, status_of}
use Rattle.program_shell.specs.Outside.{Outside}
use Rattle.program_shell.specs.Texts.{answered_of, text_of}
use Rattle.program_shell.specs.declared.ending.Answered.{Answered}
use Rattle.program_shell.proofs.Causing.{memory_causes, sink_causes}
use Rattle.program_shell.proofs.Completing.{at_sink, in_memory}
use Rattle.program_shell.proofs.Reading.{RefusesLong}
use Rattle.view_model.specs.CacheSizes.{view_of}
use Rattle.view_model.specs.Lists.{list_of}
use Rattle.view_model.specs.declared.cache_size.CacheSize.{CacheSize}
use Rattle.sftp_view.specs.Completed.{CompletesProgram}
use Rattle.sftp_view.specs.Ended.{EndsSo, ProgramEnds, Streams}
use Rattle.sftp_view.specs.Left.{LeavesServer}
use Rattle.sftp_view.specs.Printed.{IsViewed}
use Rattle.sftp_view.specs.Words.{Asked, Text, Through, asked_by, help_text}

-- too many bytes are no list
pub long_refused : (block : ℕ) → RefusesLong (list_of block)
long_refused block bytes h = rw h refl

-- ---- what the words ask for

pub asked_through : (words : List (List ℕ)) (size : CacheSize) → Some size ≡ view_of words → asked_by words
    ≡ Through size
asked_through words size e = rw (← e) refl

pub asked_text : (words : List (List ℕ)) → None ≡ view_of words → asked_by words
    ≡ Text (answered_of words) (text_of help_text words)
asked_text words e = rw (← e) refl

-- ---- statuses

completes_so : (asked : Asked) (end : End) (kept : Option Serving) (before now : Streams)
    → EndsSo asked end kept before now
    → now.source.faults ≡ before.source.faults → now.sink.faults ≡ before.sink.faults
    → CompletesProgram asked (status_of end) before.source.left
completes_so (Through size) end kept before now h s k =
    in_memory (list_of size.block) (LeavesServer size) (IsViewed size) end kept before.source now.source before.sink
    now.sink
    (long_refused size.block) h s k
completes_so (Text answered text) end kept before now h s k =
    at_sink _ (status_of (Ok answered)) end before.sink now.sink (λ a t r. ap (λ (x : Answered). status_of (Ok x)) r.0)
    h.0 k

pub completes : (asked : Asked) (status : ℕ) (kept : Option Serving) (before now : Streams)
    → ProgramEnds asked status kept before now
    → now.source.faults ≡ before.source.faults → now.sink.faults ≡ before.sink.faults
    → CompletesProgram asked status before.source.left
completes asked status kept before now h s k =
    subst (λ (n : ℕ). CompletesProgram asked n before.source.left) (sym h.is)
    (completes_so asked h.end kept before now h.so s k)

-- there is no dial
abbrev without_dial : Streams → Outside (Unit {0})
without_dial x = record { source = x.source; sink = x.sink; dial = record { faults = 0; history = tt; last = None } }

causes_so : (asked : Asked) (end : End) (kept : Option Serving) (before now : Streams)
    → EndsSo asked end kept before now
    → HasCauses (status_of end) (without_dial before) (without_dial now)
causes_so (Through size) end kept before now h =
    memory_causes (list_of size.block) (LeavesServer size) (IsViewed size) end kept (without_dial before)
    (without_dial now) h refl
causes_so (Text answered text) end kept before now h = sink_causes _ end (without_dial before) (without_dial now) h.0
    h.2 refl

pub causes : (asked : Asked) (status : ℕ) (kept : Option Serving) (before now : Streams)
    → ProgramEnds asked status kept before now
    → HasCause 3 status before.source.faults now.source.faults × HasCause 4 status before.sink.faults now.sink.faults
causes asked status kept before now h =
    subst (λ (n : ℕ). HasCause 3 n before.source.faults now.source.faults
    × HasCause 4 n before.sink.faults now.sink.faults) (sym h.is)
    (let c = causes_so asked h.end kept before now h.so in (c.source, c.sink))
