-- Consequences of the way the program ends: the possible statuses for a script, and the facts about the run that 0 and
-- 7 state.
use Rattle.std.specs.Prelude.{◌≡◌, ◌⊎◌, ℕ, Bool, List, Option}
use Rattle.program_shell.specs.Ended.{GaveValue}
use Rattle.sftp_link.specs.Told.{IfLogged, WroteBytes}
use Rattle.sftp_link.specs.Views.{SinkView, SourceView}
use Rattle.script_grammar.specs.declared.script.Script.{Script}
use Rattle.script_grammar.specs.Scripts.{script_of}
use Rattle.machine_halves.specs.Halves.{Halves}
use Rattle.sftp_share.specs.Shared.{IsShared}

-- The lanes ran to their end and the replay serves, an error stopped them, or the replay differs.
abbrev pub IsSharedStatus : ℕ → Type 0
IsSharedStatus status = (status ≡ 0) ⊎ (status ≡ 1) ⊎ (status ≡ 7)

-- The source contained a script, and the whole text was written for a run of its lanes, whose replay differs or serves.
pub record WroteRun (A B : Type 0) (last : Option Halves) (differs : Bool) (from from_now : SourceView)
    (to to_now : SinkView)
    : Type 0 where
  pub script : Script
  pub gave : GaveValue script_of script from from_now
  pub text : List ℕ
  pub is : IsShared A B last script differs text
  pub wrote : IfLogged (WroteBytes text) to.written to_now.written
