-- believed
-- A run of lanes over a link that an error stopped.
use Rattle.std.specs.Prelude.{◌≡◌, ℕ, List, [], Option, Some, Err}
use Rattle.sftp_link.specs.Views.{LastLink}
use Rattle.sftp_model.specs.declared.error.Error.{Error}
use Rattle.session_model.specs.declared.turn.Turn.{Turn}
use Rattle.link_frames.specs.Causes.{CountsLinkFault, EndCause}
use Rattle.session_driver.specs.Logs.{EndsSession}
use Rattle.session_driver.specs.Session.{SessionInputs}
use Rattle.program_shell.specs.Texts.{IsErrorLine}

-- The run under these turns stopped with an error other than out of memory, and the line names it. The link failed only
-- if its count of faults rose, and it ended only if its last call found the end. Any other error is the first thing
-- that is wrong with the frame that came last. The log of the link that was put back shows how far the run had come.
pub record IsStopped (given : SessionInputs) (turns : List Turn) (last : Option LastLink) (text : List ℕ) : Type 0 where
  pub error : Error
  pub link : LastLink
  pub back : last ≡ Some link
  pub cause : CountsLinkFault {T = Unit {0}} 0 link.faults (Err error)
  pub end : EndCause {T = Unit {0}} link.ended (Err error)
  pub stops : EndsSession given turns link.ended error [] link.log
  pub is : IsErrorLine error text
