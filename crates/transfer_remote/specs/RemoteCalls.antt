-- Calls on paths over a session.
use Rattle.std.specs.Prelude.{◌≡◌, Result}
use Rattle.sftp_model.specs.declared.error.Error.{Error}
use Rattle.sftp_model.specs.declared.slot.Site.{Site}
use Rattle.sftp_link.specs.Views.{LinkView}
use Rattle.plan_state.specs.Runners.{Meaning}
use Rattle.sftp_fs.specs.PathStarts.{PathPlan}
use Rattle.sftp_client.specs.Calls.{CallsOnPath}
use Rattle.sftp_client.specs.Sessions.{SftpValue}
use Rattle.transfer_pool.specs.Sessions.{IsGoing}
use Rattle.transfer_remote.specs.Failures.{remote_result}
use Rattle.transfer_remote.specs.declared.remote_error.RemoteError.{RemoteError}

-- A call on paths was run in one, by its plan. The session may continue, whether or not it succeeded.
pub record CallsRemote {M V L S : Type 0} (s : Meaning Site M V) (plan : PathPlan) (state : L → LinkView S)
    (old new : SftpValue L) (result : Result V RemoteError) : Type 0 where
  pub done : Result V Error
  pub calls : CallsOnPath s plan state old new done
  pub is : result ≡ remote_result done
  pub going : IsGoing state new
