-- believed
-- The text that the program must write for a script whose lanes run over a link to a remote server.
use Rattle.std.specs.Prelude.{◌≡◌, ℕ, List, [], length, Option, Some}
use Rattle.sftp_link.specs.Views.{LastLink}
use Rattle.sftp_model.specs.declared.flags.Extensions.{Extensions}
use Rattle.session_model.specs.declared.entry.Entry.{Entry}
use Rattle.script_grammar.specs.declared.script.Script.{Script}
use Rattle.session_model.specs.Closes.{AreClosed}
use Rattle.session_model.specs.Readings.{outcomes_below}
use Rattle.session_model.specs.Runs.{IsRun}
use Rattle.session_model.specs.Settings.{version_reply_of, setting_of}
use Rattle.session_model.specs.Shown.{ShowsExchange}
use Rattle.script_text.specs.Texts.{text_of}
use Rattle.sftp_lanes.specs.Reported.{KeepsServed}
use Rattle.sftp_lanes.specs.Seen.{session_inputs}
use Rattle.program_shell.specs.declared.ending.Answered.{Answered}
use Rattle.program_shell.specs.declared.ending.Answered.TheVariants.{Done, Stopped, Refused}
use Rattle.program_shell.specs.Stopped.{IsStopped}

-- ---- A whole run

-- The text is that of a run of the script's lanes: the frames of its journal, and the outcomes, which are the values of
-- the plans. The log of the link that was put back shows VERSION and that journal. Each handle was closed exactly as
-- often as it was granted. If the replies are those of a file machine, the content that was written is read back and is
-- left.
pub record IsShown (last : Option LastLink) (script : Script) (text : List ℕ) : Type 0 where
  pub extensions : Extensions
  pub past : List Entry
  pub link : LastLink
  pub back : last ≡ Some link
  pub run : IsRun (setting_of script.lanes script.options extensions past) script.turns past
  pub shown : ShowsExchange (version_reply_of extensions) past [] link.log
  pub closed : AreClosed past
  pub files : KeepsServed script.lanes (setting_of script.lanes script.options extensions past) past
  pub is : text ≡ text_of past (outcomes_below past (length script.lanes))

-- ---- Any run

-- The text that is right for a run over a link: the run's text, or the error that stopped it.
abbrev pub RunsOver : Option LastLink → Script → Answered → List ℕ → Type 0
RunsOver last script Done text = IsShown last script text
RunsOver last script Stopped text = IsStopped (session_inputs script.lanes script.options) script.turns last text
RunsOver last script Refused text = ⊥
