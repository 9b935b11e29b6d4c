-- believed: share_status, PairAfter, ShareEnds
-- The end of the program.
use Rattle.std.specs.Prelude.{
  ◌≡◌,
  ℕ,
  ◌==◌,
  Bool,
  true,
  List,
  ◌++◌,
  codes,
  Option,
  Some,
  None,
  Ok,
  IfErr,
  if◌then◌else◌,
}
use Rattle.program_shell.specs.declared.ending.Answered.TheVariants.{Done}
use Rattle.program_shell.specs.declared.ending.ProgramFailure.{ProgramFailure}
use Rattle.program_shell.specs.declared.ending.ProgramFailure.TheVariants.{SourceFailed, SinkFailed, OutOfMemory, DialFailed}
use Rattle.program_shell.specs.Ended.{
  AnswersSource,
  End,
  EndsAtSink,
  GaveValue,
  IsOnlyAnswer,
  SinkCause,
  SourceCause,
  WroteAnswer,
  status_of,
}
use Rattle.program_shell.specs.Texts.{answered_of, text_of}
use Rattle.sftp_link.specs.Views.{SinkView, SourceView}
use Rattle.script_grammar.specs.Scripts.{script_of}
use Rattle.machine_halves.specs.Halves.{Halves}
use Rattle.sftp_share.specs.Shared.{RightShared, RunsOutOfMemory}

-- The status. It is 7 if the whole text was written for a run whose replay differs.
abbrev pub share_status : Bool → End → ℕ
share_status true (Ok Done) = 7
share_status differs end = status_of end

-- The halves that the pair has back if no answer was written whole, by the failure. They are unchanged if the source
-- failed. If an allocation failed, they are unchanged, or they are those of a run of the script from the source. If the
-- sink failed, the text that was written determines them.
abbrev pub PairAfter : (A B : Type 0) → Option Halves → Option Halves → SourceView → SourceView → ProgramFailure → Type 0
PairAfter A B before last from from_now SourceFailed = last ≡ before
PairAfter A B before last from from_now SinkFailed = Unit {0}
PairAfter A B before last from from_now OutOfMemory =
    RunsOutOfMemory A B (λ script. GaveValue script_of script from from_now) before last
PairAfter A B before last from from_now DialFailed = ⊥

-- The program ends with this status. The part of the text that was written is right for the source's bytes and for the
-- halves that were put back. The counts of faults of source and sink rose exactly if these failed.
pub record ShareEnds (A B : Type 0) (before last : Option Halves) (status : ℕ) (from from_now : SourceView)
    (to to_now : SinkView)
    : Type 0 where
  pub end : End
  pub differs : Bool
  pub is : status ≡ share_status differs end
  pub wrote : WroteAnswer (AnswersSource script_of (RightShared A B before last differs) from from_now) end to to_now
  pub source : SourceCause end from.faults from_now.faults
  pub sink : SinkCause end to.faults to_now.faults
  pub pair : IfErr end (PairAfter A B before last from from_now)

-- ---- Arguments

-- The text of `--help`.
unfoldable pub help_text : List ℕ
help_text =
    codes "Usage: sftp_share [--help | --version]\n"
    ++ codes "\n"
    ++ codes "  --help       print this help\n"
    ++ codes "  --version    print the version\n"
    ++ codes "\n"
    ++ codes "Without arguments the program runs the script on standard input over a server of its files in\n"
    ++ codes "memory, as sftp_cli script does, but with one thread for each lane, one that sends and one that\n"
    ++ codes "receives; the turns of the script are ignored. Then a machine with the files of the script\n"
    ++ codes "answers the requests again, one after another, and its replies are compared with those received.\n"
    ++ codes "\n"
    ++ codes "The program writes to standard output the frames sent and received, the outcome of each call,\n"
    ++ codes "and the files that the machine is left with. If a reply differs, the last line is the machine's\n"
    ++ codes "reply in place of the files.\n"
    ++ codes "\n"
    ++ codes "Exit status:\n"
    ++ codes "  0  everything was done\n"
    ++ codes "  1  the session failed\n"
    ++ codes "  2  the script or the arguments are invalid\n"
    ++ codes "  3  standard input failed\n"
    ++ codes "  4  standard output failed\n"
    ++ codes "  5  out of memory\n"
    ++ codes "  7  a reply differs from the machine's\n"

-- The arguments are answered with their text, as far as it was written.
pub record AnswersWords (words : List (List ℕ)) (status : ℕ) (to to_now : SinkView) : Type 0 where
  pub end : End
  pub is : status ≡ status_of end
  pub ends : EndsAtSink (IsOnlyAnswer (answered_of words) (text_of help_text words)) end to to_now

-- The message on standard error for a status.
abbrev pub cause_of : ℕ → Option (List ℕ)
cause_of status =
    if status == 1 then Some (codes "the session failed")
    else if status == 2 then Some (codes "the script or the arguments are invalid")
    else if status == 7 then Some (codes "a reply differs from the machine's reply")
    else if status == 3 then Some (codes "standard input failed")
    else if status == 4 then Some (codes "standard output failed")
    else if status == 5 then Some (codes "out of memory")
    else if status == 6 then Some (codes "no server listens")
    else None
