-- A status says truly which count of faults rose.
use Rattle.std.proofs.Common.{ℕ, List, sym, subst}
use Rattle.std.specs.Prelude.{Option}
use Rattle.sftp_map_server.specs.Serving.{Serving}
use Rattle.script_grammar.specs.Scripts.{script_of}
use Rattle.program_shell.specs.Completed.{HasCauses}
use Rattle.program_shell.specs.Ended.{End, status_of}
use Rattle.program_shell.specs.Outside.{Outside}
use Rattle.program_shell.proofs.Causing.{has_causes, memory_causes, sink_causes}
use Rattle.sftp_cli.specs.declared.printed.Form.TheVariants as form
use Rattle.sftp_cli.specs.Ended.{EndsSo, ProgramEnds}
use Rattle.sftp_cli.specs.Left.{LeavesServer}
use Rattle.sftp_cli.specs.Printed.{IsPrinted}
use Rattle.sftp_cli.specs.Words.{Asked, InMemory, AtPath, Bulk, Text}

causes_so : {History : Type 0} (dialled : List ℕ → History → History) (asked : Asked) (end : End)
    (kept : Option Serving) (before now : Outside History) → EndsSo dialled asked end kept before now
    → HasCauses (status_of end) before now
causes_so dialled InMemory end kept before now h =
    memory_causes script_of LeavesServer (IsPrinted form.Whole) end kept before now h.0 h.1
causes_so dialled (AtPath path seconds) end kept before now h =
    has_causes end before now h.0.source_cause h.0.sink_cause h.0.dial_cause
causes_so dialled (Bulk n) end kept before now h = sink_causes _ end before now h.0.writes h.1 h.2
causes_so dialled (Text answered text) end kept before now h = sink_causes _ end before now h.0 h.2 h.3

pub causes : {History : Type 0} (dialled : List ℕ → History → History) (asked : Asked) (status : ℕ)
    (kept : Option Serving) (before now : Outside History) → ProgramEnds dialled asked status kept before now
    → HasCauses status before now
causes dialled asked status kept before now h =
    subst (λ (n : ℕ). HasCauses n before now) (sym h.is) (causes_so dialled asked h.end kept before now h.so)
