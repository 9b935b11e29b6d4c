-- Without a fault of the source or the sink the program ends with what is asked for, or for want of memory.
use Rattle.std.proofs.Common.{◌≡◌, ℕ, List, ap, sym, subst}
use Rattle.std.specs.Prelude.{Option, Ok}
use Rattle.sftp_map_server.specs.Serving.{Serving}
use Rattle.program_shell.specs.declared.ending.Answered.{Answered}
use Rattle.program_shell.specs.Ended.{End, status_of}
use Rattle.program_shell.specs.Outside.{Outside}
use Rattle.program_shell.proofs.Completing.{Unrefused, at_sink, in_memory, over_link}
use Rattle.sftp_mirror.specs.declared.schedule.Schedule.{Schedule}
use Rattle.sftp_mirror.specs.Completed.{CompletesProgram}
use Rattle.sftp_mirror.specs.Dialled.{RunsOver}
use Rattle.sftp_mirror.specs.Ended.{EndsSo, ProgramEnds}
use Rattle.sftp_mirror.specs.Lists.{list_of}
use Rattle.sftp_mirror.specs.Left.{LeavesServer}
use Rattle.sftp_mirror.specs.Printed.{IsCopied}
use Rattle.sftp_mirror.specs.Words.{Asked, AtPath, InMemory, Text}
use Rattle.sftp_mirror.proofs.Reading.{long_refused}

unrefused : (schedule : Schedule) → Unrefused (RunsOver schedule)
unrefused schedule last list text h = h

completes_so : {History : Type 0} (dialled : List ℕ → History → History) (asked : Asked) (end : End)
    (kept : Option Serving) (before now : Outside History) → EndsSo dialled asked end kept before now
    → now.source.faults ≡ before.source.faults → now.sink.faults ≡ before.sink.faults
    → CompletesProgram asked (status_of end) before.source.left
completes_so dialled (InMemory schedule) end kept before now h s k =
    in_memory list_of (LeavesServer schedule) (IsCopied schedule) end kept before.source now.source before.sink now.sink
    long_refused h.0 s k
completes_so dialled (AtPath path seconds schedule) end kept before now h s k =
    over_link list_of (RunsOver schedule) dialled path end before now long_refused (unrefused schedule) h.0 s k
completes_so dialled (Text answered text) end kept before now h s k =
    at_sink _ (status_of (Ok answered)) end before.sink now.sink (λ a t r. ap (λ (x : Answered). status_of (Ok x)) r.0)
    h.0 k

pub completes : {History : Type 0} (dialled : List ℕ → History → History) (asked : Asked) (status : ℕ)
    (kept : Option Serving) (before now : Outside History) → ProgramEnds dialled asked status kept before now
    → now.source.faults ≡ before.source.faults → now.sink.faults ≡ before.sink.faults
    → CompletesProgram asked status before.source.left
completes dialled asked status kept before now h s k =
    subst (λ (n : ℕ). CompletesProgram asked n before.source.left) (sym h.is)
    (completes_so dialled asked h.end kept before now h.so s k)
