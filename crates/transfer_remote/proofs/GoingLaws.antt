-- A session over the calls of others.
use Rattle.std.proofs.Common.{◌≡◌}
use Rattle.std.specs.Prelude.{Result, Ok, Err}
use Rattle.sftp_model.specs.declared.error.Error.{Error}
use Rattle.sftp_model.specs.declared.slot.Site.{Site}
use Rattle.sftp_link.specs.Views.{LinkView}
use Rattle.plan_state.specs.Runners.{Meaning}
use Rattle.sftp_fs.specs.PathStarts.{PathPlan}
use Rattle.sftp_client.specs.Calls.{CallsOnPath, IsCallable, IsUsable, IsUsableAfter}
use Rattle.sftp_client.specs.Sessions.{SftpValue}
use Rattle.transfer_pool.specs.Sessions.{IsGoing}
use Rattle.transfer_remote.specs.Failures.{remote_result}
use Rattle.transfer_remote.specs.RemoteCalls.{CallsRemote}
use Rattle.transfer_remote.specs.declared.remote_error.RemoteError.{RemoteError}

-- the two are the same
pub going_callable : {L S : Type 0} (state : L → LinkView S) (s : SftpValue L) → IsGoing state s → IsCallable state s
going_callable state s going = record { opened = going.opened; alive = going.alive }

pub callable_going : {L S : Type 0} (state : L → LinkView S) (s : SftpValue L) → IsCallable state s → IsGoing state s
callable_going state s callable = record { opened = callable.opened; alive = callable.alive }

pub usable_going : {L S : Type 0} (state : L → LinkView S) (s : SftpValue L) → IsUsable state s → IsGoing state s
usable_going state s usable = record { opened = usable.opened; alive = λ none. usable.count }

pub going_after : {L S V : Type 0} (state : L → LinkView S) (new : SftpValue L) (result : Result V Error)
    → IsUsableAfter state new result → IsGoing state new
going_after state new (Ok value) usable = usable_going state new usable
going_after state new (Err e) callable = callable_going state new callable

pub called_remote : {M V L S : Type 0} (s : Meaning Site M V) (plan : PathPlan) (state : L → LinkView S)
    (old new : SftpValue L) (done : Result V Error) (result : Result V RemoteError)
    → CallsOnPath s plan state old new done → result ≡ remote_result done
    → CallsRemote s plan state old new result
called_remote s plan state old new done result calls is =
    record { done = done; calls = calls; is = is; going = going_after state new done calls.usable }
